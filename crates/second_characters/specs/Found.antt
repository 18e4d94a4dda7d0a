-- What is found by a look along the characters: the first sextet that is not below a limit, and the first bad character. Assumes nothing.
use Rattle.std.specs.Prelude.{ℕ, ◌≤◌, ◌<◌, ◌≡◌, List}
use Rattle.format.specs.declared.Verdict.{Verdict}
use Rattle.format.specs.declared.Verdict.TheVariants.{Accepted, Refused}
use Rattle.format.specs.Alphabet.{stranger_number}
use Rattle.format.specs.Framing.{sextet}

-- the sextets from one place to another are below a limit
abbrev pub Below : List ℕ → ℕ → ℕ → ℕ → Type 0
Below s limit from to = (k : ℕ) → from ≤ k → k < to → sextet s k < limit

-- r is the first place from one to another whose sextet is not, and the other where there is none
pub record First (s : List ℕ) (from to limit r : ℕ) : Type 0 where
  pub low : from ≤ r
  pub high : from ≤ to → r ≤ to
  pub none : to ≤ from → r ≡ from
  pub below : Below s limit from r
  pub stops : r < to → limit ≤ sextet s r

-- a character outside the alphabet is refused
pub record Stranger (s : List ℕ) (from to n p : ℕ) : Type 0 where
  pub low : from ≤ p
  pub high : p < to
  pub below : Below s 64 from p
  pub here : 64 ≤ sextet s p
  pub number : n ≡ stranger_number (sextet s p)

-- the verdict on the characters from one place to another: the first that is outside the alphabet
abbrev pub Bad : List ℕ → ℕ → ℕ → Verdict → Type 0
Bad s from to Accepted = Below s 64 from to
Bad s from to (Refused n p) = Stranger s from to n p

-- a header of two units in the alphabet
abbrev pub Known8 : List ℕ → Type 0
Known8 s = Below s 64 0 8
