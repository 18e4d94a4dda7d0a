-- What 02 l speaks of, for any writer: a code that is uniquely decodable, and one that is prefix-free. No proofs. Assumes nothing.
use Rattle.std.specs.Prelude.{ℕ, ◌≡◌, List, [], ◌++◌, length, take}
use Rattle.format.specs.Report.{concat}
use Rattle.claims.specs.Words.{Pairwise}

-- ---- written: what is written of a thing; Same: when two things are the same

module _ {A : Type 0} (written : A → List ℕ) (Same : A → A → Type 0) where
  -- "equal concatenated text means equal lists, .. item by item": as many, and the k-th the same as the k-th
  abbrev pub UniquelyDecodable : Type 0
  UniquelyDecodable = (us vs : List A) → concat written us ≡ concat written vs → Pairwise Same us vs

  -- "No accepted primitive is the beginning of another one": what begins another has nothing behind it there, and is the same
  abbrev pub PrefixFree : Type 0
  PrefixFree = (a b : A) (rest : List ℕ) → written b ≡ written a ++ rest → (rest ≡ []) × Same a b

-- ---- a call of a writer that accepts

-- what was given, the buffer lent, and the size answered. Answers: the writer answers this size for what is given and this room. Each item
-- has a buffer of its own, of any contents and any length that is enough: where items are written in turn into one buffer, it is the rest of it
pub record Accepted {G : Type 0} (Answers : G → ℕ → ℕ → Type 0) : Type 0 where
  pub given : G
  pub buffer : List ℕ
  pub size : ℕ
  pub accepts : Answers given (length buffer) size

-- what stands in the buffer afterwards, as far as the size goes. left: what the writer leaves in a buffer
abbrev pub written_by : {G : Type 0} {Answers : G → ℕ → ℕ → Type 0} → (G → List ℕ → List ℕ) → Accepted Answers → List ℕ
written_by left a = take a.size (left a.given a.buffer)
