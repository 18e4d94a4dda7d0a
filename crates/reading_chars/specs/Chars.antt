-- A binary's characters from one of them on, at a buffer's start. Assumes nothing.
use Rattle.std.specs.Prelude.{ℕ, ◌-◌, ◌*◌, ◌/◌, List, ◌++◌, length, drop}
use Rattle.format.specs.Conversion.{to_text}

abbrev pub chars_into : List ℕ → ℕ → List ℕ → List ℕ
chars_into b start d = drop start (to_text b) ++ drop (length b / 3 * 4 - start) d
