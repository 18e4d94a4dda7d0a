-- Bytes of a stream as numbers. Assumes nothing.
use Rattle.std.specs.Prelude.{ℕ, ◌+◌, ◌*◌, ◌<◌, ◌≤◌, ◌≡◌, List, length, get_or}

unfoldable pub four_at : List ℕ → ℕ → ℕ
four_at s at = ((get_or s at 0 * 256 + get_or s (at + 1) 0) * 256 + get_or s (at + 2) 0) * 256 + get_or s (at + 3) 0

-- the four units from the i-th on are twelve bytes, w the first eight and v the last four
pub record Twelve (s : List ℕ) (i w v : ℕ) : Type 0 where
  pub bytes : (k : ℕ) → get_or s k 0 < 256
  pub within : 3 * i + 12 ≤ length s
  pub eight : w ≡ four_at s (3 * i) * 4294967296 + four_at s (3 * i + 4)
  pub four : v ≡ four_at s (3 * i + 8)
