-- Where two pairs of characters stand in the table of pairs. Assumes nothing.
use Rattle.std.specs.Prelude.{ℕ, ◌+◌, ◌-◌, ◌*◌, ◌/◌, ◌%◌, ◌<◌, ◌≡◌, List, length, get_or}
use Rattle.format.specs.Alphabet.{sextet_of}

-- characters of the alphabet are 45, `-`, or more
unfoldable pub place_of : ℕ → ℕ → ℕ
place_of a b = 256 * (b - 45) + (a - 45)

-- four characters of the alphabet
pub record Known (q : List ℕ) : Type 0 where
  pub size : length q ≡ 4
  pub first : sextet_of (get_or q 0 0) < 64
  pub second : sextet_of (get_or q 1 0) < 64
  pub third : sextet_of (get_or q 2 0) < 64
  pub fourth : sextet_of (get_or q 3 0) < 64

-- the first pair's place in the low half of p, the second's in the high half
pub record Places (q : List ℕ) (p : ℕ) : Type 0 where
  pub known : Known q
  pub low : p % 65536 ≡ place_of (get_or q 0 0) (get_or q 1 0)
  pub high : p / 65536 ≡ place_of (get_or q 2 0) (get_or q 3 0)
