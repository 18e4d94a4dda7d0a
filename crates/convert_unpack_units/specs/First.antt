-- What a binary's first units leave in a buffer, while they are written and when all are. Assumes nothing.
use Rattle.std.specs.Prelude.{ℕ, ◌*◌, ◌/◌, ◌≡◌, List, ◌++◌, ltb, length, drop}
use Rattle.base.specs.Each.{each}
use Rattle.base.specs.Pick.{pick}
use Rattle.format.specs.Units.{quadlet_of}

-- the first i units, and behind them what was there before
abbrev pub Unpacked : ℕ → List ℕ → List ℕ → List ℕ → Type 0
Unpacked i s before now = now ≡ each 3 quadlet_of i s ++ drop (4 * i) before

-- the first n units of s where there are so many, and room; else the buffer stays
unfoldable pub unpacked_first : ℕ → List ℕ → List ℕ → List ℕ
unpacked_first n s d =
    pick (ltb (length s / 3) n) d
    (pick (ltb (length d / 4) n) d (each 3 quadlet_of n s ++ drop (4 * n) d))
