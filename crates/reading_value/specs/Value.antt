-- An item's value in a buffer. Assumes nothing.
use Rattle.std.specs.Prelude.{ℕ, ◌+◌, ◌-◌, ◌*◌, ◌/◌, List, ◌++◌, length, drop}
use Rattle.format.specs.Conversion.{to_binary}

-- an item's bytes from one of them on, then so many of its last characters, at a buffer's start
abbrev pub value_into : List ℕ → ℕ → ℕ → List ℕ → List ℕ
value_into t start text d = drop start (to_binary t) ++ (drop (length t - text) t ++ drop (length t / 4 * 3 - start + text) d)
