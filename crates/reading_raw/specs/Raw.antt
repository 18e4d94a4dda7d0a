-- A text's item that can be converted, and its bytes in a buffer. Assumes nothing.
use Rattle.std.specs.Prelude.{ℕ, ◌+◌, ◌-◌, ◌*◌, ◌/◌, ◌%◌, ◌≤◌, ◌≡◌, List, ◌++◌, length, take, drop}
use Rattle.base.specs.Digits.{Below}
use Rattle.format.specs.Units.{text_sextets}
use Rattle.format.specs.Conversion.{to_binary}

-- whole quadlets in the alphabet, within the limit
pub record Fit (t : List ℕ) : Type 0 where
  pub whole : length t % 4 ≡ 0
  pub known : Below 64 (text_sextets t)
  pub short : length t ≤ 4194304

-- the bytes of a text from a character on, in a buffer from a place on
abbrev pub units_into : List ℕ → ℕ → List ℕ → ℕ → List ℕ
units_into t from d to = take to d ++ (to_binary (drop from t) ++ drop (to + (length t - from) / 4 * 3) d)

-- its bytes from one of them on, at a buffer's start
abbrev pub raw_into : List ℕ → ℕ → List ℕ → List ℕ
raw_into t start d = drop start (to_binary t) ++ drop (length t / 4 * 3 - start) d
