-- What the tables of pairs hold. Assumes nothing.
use Rattle.std.specs.Prelude.{ℕ, ◌+◌, ◌*◌, ◌/◌, ◌%◌, ◌<◌, ◌≡◌, List, get_or}
use Rattle.format.specs.Alphabet.{sextet_of, char_of}

-- two characters' twelve bits. The alphabet lies within the 78 characters from `-` to `z`: a row of 256 for each second one, less what is behind the last
abbrev pub SextetPairs : List ℕ → Type 0
SextetPairs table = (i j : ℕ) → i < 78 → j < 78 → get_or table (256 * j + i) 0 ≡ sextet_of (i + 45) * 64 + sextet_of (j + 45)

-- twelve bits' two characters, the first in the low byte
abbrev pub CharacterPairs : List ℕ → Type 0
CharacterPairs table = (v : ℕ) → v < 4096 → get_or table v 0 ≡ char_of (v / 64) + char_of (v % 64) * 256
