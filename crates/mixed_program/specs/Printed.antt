-- What the program for mixed streams writes, as 01 has it of its two: "read a stream of at most 8,192 bytes from standard input and write
-- its report, or for a longer one the single byte 01". Assumes nothing.
use Rattle.std.specs.Prelude.{ℕ, ◌≡◌, List, [], ◌∷◌, ◌++◌, ltb, length, drop}
use Rattle.base.specs.Pick.{pick}
use Rattle.program.specs.Counts.{IsPrefixLen}
use Rattle.mixed.specs.Mixed.{mixed_report}

unfoldable pub printed : List ℕ → List ℕ
printed xs = pick (ltb 8192 (length xs)) (1 ∷ []) (mixed_report xs)

-- its length where there is room for every report of 8,192 bytes, 17 + 19 x 2,730; else 0, and nothing is written
unfoldable pub printed_answer : List ℕ → ℕ → ℕ
printed_answer xs room = pick (ltb room 51887) 0 (length (printed xs))

unfoldable pub printed_left : List ℕ → List ℕ → List ℕ
printed_left xs out = pick (ltb (length out) 51887) out (printed xs ++ drop (length (printed xs)) out)

-- what is answered, and left in a buffer
pub record Prints (xs out : List ℕ) (r : ℕ) (out' : List ℕ) : Type 0 where
  pub answer : r ≡ printed_answer xs (length out)
  pub left : out' ≡ printed_left xs out
  pub counts : IsPrefixLen r out'
