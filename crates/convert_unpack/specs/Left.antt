-- What a binary's units leave in a buffer. Assumes nothing.
use Rattle.std.specs.Prelude.{ℕ, ◌*◌, ◌/◌, List, ◌++◌, ltb, length, drop}
use Rattle.base.specs.Pick.{pick}
use Rattle.format.specs.Conversion.{to_text}

-- all whole units of s where there is room; else the buffer stays
unfoldable pub unpacked_left : List ℕ → List ℕ → List ℕ
unpacked_left s d = pick (ltb (length d) (length s / 3 * 4)) d (to_text s ++ drop (length s / 3 * 4) d)
