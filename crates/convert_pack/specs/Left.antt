-- What a text's units leave in a buffer, while they are written and when all are. Assumes nothing.
use Rattle.std.specs.Prelude.{ℕ, ◌*◌, ◌/◌, ◌≡◌, List, ◌++◌, ltb, length, drop}
use Rattle.base.specs.Each.{each}
use Rattle.base.specs.Pick.{pick}
use Rattle.format.specs.Units.{triplet_of}
use Rattle.format.specs.Conversion.{to_binary, first_stranger}

-- the first i units, and behind them what was there before
abbrev pub Packed : ℕ → List ℕ → List ℕ → List ℕ → Type 0
Packed i s before now = now ≡ each 4 triplet_of i s ++ drop (3 * i) before

-- all whole units of s, where every character is known and there is room; else the buffer stays
unfoldable pub packed_left : List ℕ → List ℕ → List ℕ
packed_left s d =
    pick (ltb (first_stranger s) (length s)) d
    (pick (ltb (length d) (length s / 4 * 3)) d (to_binary s ++ drop (length s / 4 * 3) d))
