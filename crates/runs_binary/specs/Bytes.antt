-- The three bytes of a unit of a binary. Assumes nothing.
use Rattle.std.specs.Prelude.{◌≡◌, List, ℕ, ◌+◌, ◌*◌, ◌<◌, get_or}

pub record UnitBytes (s : List ℕ) (at x y z : ℕ) : Type 0 where
  pub first : x ≡ get_or s (3 * at) 0
  pub second : y ≡ get_or s (3 * at + 1) 0
  pub third : z ≡ get_or s (3 * at + 2) 0
  pub first_byte : x < 256
  pub second-byte : y < 256
  pub third-byte : z < 256
