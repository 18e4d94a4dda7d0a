-- What the two programs write: "read a stream of at most 8,192 bytes from standard input and write its report, or for a longer one the
-- single byte 01". Assumes nothing.
use Rattle.std.specs.Prelude.{ℕ, ◌+◌, ◌≤◌, ◌≡◌, List, [], ◌∷◌, ◌++◌, ltb, length, drop}
use Rattle.std.proofs.Common.{arith}
use Rattle.base.specs.Pick.{pick}
use Rattle.program.specs.Counts.{IsPrefixLen}
use Rattle.format.specs.Units.{Domain}
use Rattle.format.specs.Report.{report}
use Rattle.program.specs.declared.Input.{Input}
use Rattle.program.specs.declared.Input.TheVariants.{Failed, Whole}

unfoldable pub printed : Domain → List ℕ → List ℕ
printed d xs = pick (ltb 8192 (length xs)) (1 ∷ []) (report d xs)

-- its length where there is room for every report of 8,192 bytes, 17 + 18 x 2,730; else 0, and nothing is written
unfoldable pub printed_answer : Domain → List ℕ → ℕ → ℕ
printed_answer d xs room = pick (ltb room 49157) 0 (length (printed d xs))

unfoldable pub printed_left : Domain → List ℕ → List ℕ → List ℕ
printed_left d xs out = pick (ltb (length out) 49157) out (printed d xs ++ drop (length (printed d xs)) out)

-- ---- what came

-- a read into the part of n bytes from at on
abbrev pub Fits : Input → ℕ → ℕ → Type 0
Fits Failed at n = 0 ≤ n
Fits (Whole m) at n = at + m ≤ n

-- a count that is answered is at most the buffer's length; which bytes came is said beside it, where the reader's are known
abbrev pub Came : Input → List ℕ → Type 0
Came Failed xs = 0 ≤ length xs
Came (Whole n) xs = IsPrefixLen n xs

pub came-whole : (r : Input) (xs : List ℕ) → Came r xs → (n : ℕ) → r ≡ Whole n → IsPrefixLen n xs
came-whole Failed xs a n e = let z : ◌≡◌ {A = ℕ} 0 1 = cc in absurd (omega arith)
came-whole (Whole k) xs a n e = let z : k ≡ n = cc in rw (← z) a
