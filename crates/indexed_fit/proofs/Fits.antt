-- 12, case by case. Assumes nothing.
use Prim.Native.Nat.{ℕ, ◌<◌, ◌≤◌, ◌^◌}
use mathlib.Core.Path.{◌≡◌, ◌∙◌}
use mathlib.Core.Bool.{false}
use borrow.Author.Tests.{eq-eqb, ne_eqb, lt-ltb, le-ltb}
use lib.Dec.{ltb}
use Rattle.format.specs.declared.IndexRow.{IndexRow}
use Rattle.format.specs.Indexed.{indexed_raw_size, fits_indexed}

module _ (c : IndexRow) (index ondex raw : ℕ) where
  pub other-raw : (r : ℕ) → r ≡ indexed_raw_size c → (raw ≡ r → ⊥) → false ≡ fits_indexed c index ondex raw
  unfolding fits_indexed
  other-raw r e h = rw (← e, ne_eqb raw r h)

  module _ (r : ℕ) (e : r ≡ indexed_raw_size c) (same : raw ≡ r) (m : ℕ) (f : m ≡ 64 ^ c.index) where
    pub past_index : m ≤ index → false ≡ fits_indexed c index ondex raw
    unfolding fits_indexed
    past_index h = rw (eq-eqb raw (indexed_raw_size c) (same ∙ e), ← f, le-ltb index m h)

    pub by-ondex : index < m → (k : ℕ) → k ≡ 64 ^ c.ondex → ltb ondex k ≡ fits_indexed c index ondex raw
    unfolding fits_indexed
    by-ondex h k g = rw (eq-eqb raw (indexed_raw_size c) (same ∙ e), ← f, lt-ltb index m h, g)
