-- What is said of a case, by its index: it passes, it fails, it is not reached. No proofs. Assumes nothing.
use Rattle.std.specs.Prelude.{ℕ, zero, suc, ◌+◌, List, Bool, true, false, ltb, eqb, length, get_or}
use Rattle.base.specs.Pick.{pick}

-- the number of indices below n that a test passes
unfoldable pub count : (ℕ → Bool) → ℕ → ℕ
count p zero = 0
count p (suc n) = pick (p n) 1 0 + count p n

-- an item with this index exists and has the verdict that is expected of it
abbrev pub passes : List ℕ → List ℕ → ℕ → Bool
passes es vs i = pick (ltb i (length vs)) (eqb (get_or es i 0) (get_or vs i 0)) false

-- it exists with another
abbrev pub fails : List ℕ → List ℕ → ℕ → Bool
fails es vs i = pick (ltb i (length vs)) (pick (eqb (get_or es i 0) (get_or vs i 0)) false true) false

-- it does not exist
abbrev pub misses : List ℕ → ℕ → Bool
misses vs i = pick (ltb i (length vs)) false true
