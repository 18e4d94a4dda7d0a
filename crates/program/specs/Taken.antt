-- Which bytes a read takes, where it is known what the reader has left, as of bytes in memory. Assumes nothing.
use Rattle.std.specs.Prelude.{ℕ, ◌≡◌, ◌<◌, List, take, drop, length, ⊤, Option}
use Rattle.std.specs.Io.KnownBytes.{Consumes, IsAtEnd}
use Rattle.program.specs.declared.Input.{Input}
use Rattle.program.specs.declared.Input.TheVariants.{Failed, Whole}

-- one read into the part of a buffer from `at` on: the reader lost the bytes that stand there, and none only at its end or with no room
abbrev pub Takes : Option (List ℕ) → Option (List ℕ) → ℕ → Input → List ℕ → Type 0
Takes old new at Failed xs = ⊤
Takes old new at (Whole n) xs = Consumes old new (take n (drop at xs)) × (n ≡ 0 → at < length xs → IsAtEnd new)

-- the bytes that are counted are those that the reader lost, in order, and where the buffer has room for more none is left
abbrev pub Took : Option (List ℕ) → Option (List ℕ) → Input → List ℕ → Type 0
Took old new Failed xs = ⊤
Took old new (Whole n) xs = Consumes old new (take n xs) × (n < length xs → IsAtEnd new)
