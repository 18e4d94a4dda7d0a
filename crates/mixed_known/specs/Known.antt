-- Bytes that are characters of the alphabet. Assumes nothing.
use Rattle.std.specs.Prelude.{ℕ, ◌≤◌, ◌<◌, List, get_or}
use Rattle.std.proofs.Common.{arith}
use Rattle.format.specs.Alphabet.{sextet_of}

-- all from a byte to another
abbrev pub Known : List ℕ → ℕ → ℕ → Type 0
Known s at to = (i : ℕ) → at ≤ i → i < to → sextet_of (get_or s i 0) < 64

-- none is asked at the start
pub known_start : (s : List ℕ) → Known s 0 0
known_start s i h l = absurd (omega arith)

-- and those further on
pub known_on : (s : List ℕ) (at to x : ℕ) → at ≤ x → Known s at to → Known s x to
known_on s at to x h K i p q = K i (omega arith) q
