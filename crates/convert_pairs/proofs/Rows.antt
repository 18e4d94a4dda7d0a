-- A table that is filled row by row. Assumes nothing.
use mathlib.Core.Path.{◌≡◌, ◌∙◌}
use mathlib.Core.List.{List}
use mathlib.Core.Logic.{⊎_elim}
use Prim.Native.Nat.{ℕ, suc, ◌+◌, ◌*◌, ◌<◌, ◌≤◌}
use native.Mathlib.Nat.{mul-le-mul_left, mul-suc}
use native.Mathlib.Omega.{arith}
use lib.ListN.{get_or}
use Rattle.base.specs.Cases.{lt-or-ge}
use Rattle.convert_pairs.specs.Rows.{RowPut}

-- one row more, of rows that begin every n elements
pub rows_more : (size n width j : ℕ) (t t' : List ℕ) (f : ℕ → ℕ → ℕ) → width ≤ n → RowPut size (n * j) width (λ k. f k j) t t'
    → ((k l : ℕ) → k < width → l < j → get_or t (n * l + k) 0 ≡ f k l) → (k l : ℕ) → k < width → l < j + 1 → get_or t' (n * l + k) 0 ≡ f k l
rows_more size n width j t t' f w r before k l h p =
    ⊎_elim
    (λ q.
    let a : n * suc l ≤ n * j = mul-le-mul_left n q in
    let b : n * suc l ≡ n * l + n = mul-suc n l in
    r.kept (n * l + k) (omega arith) ∙ before k l h q)
    (λ q. let z : l ≡ j = omega arith in rw z (r.row k h))
    (lt-or-ge l j)
