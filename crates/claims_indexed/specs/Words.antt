-- What 02 a speaks of. No proofs. Assumes nothing.
use Rattle.std.specs.Prelude.{ℕ, ◌<◌, ◌≡◌, List, [], ◌∷◌, ◌⊎◌}
use Rattle.format.specs.declared.IndexRow.{IndexRow}

-- ---- the indexed table

-- one of these rows
abbrev pub OneOf : IndexRow → List IndexRow → Type 0
OneOf c [] = ⊥
OneOf c (r ∷ rs) = (c ≡ r) ⊎ OneOf c rs

-- how an item of the twelve codes starts, by its first two sextets: `A` to `D`; `0A`, `0B`; `2A` to `2D`; `3A`, `3B`
abbrev pub IndexedStart : ℕ → ℕ → Type 0
IndexedStart a b = (a < 4) ⊎ (((a ≡ 52) × (b < 2)) ⊎ (((a ≡ 54) × (b < 4)) ⊎ ((a ≡ 55) × (b < 2))))
