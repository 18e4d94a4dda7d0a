-- Four numbers stored behind the ends. Assumes nothing.
use mathlib.Core.Path.{◌≡◌, refl, ap, ◌∙◌}
use mathlib.Core.List.{List, [], ◌∷◌, ◌++◌, append-nil}
use Prim.Native.Nat.{ℕ, ◌+◌}
use native.Mathlib.Omega.{arith}
use lib.ListN.{length, set, drop, drop_of_length-le}
use Rattle.base.specs.Stores.{store4}
use Rattle.format.specs.Judging.{max_depth}
use Rattle.walk_state.specs.Lent.{slots_in}
use Rattle.exports_values.specs.Lent.{state_size}

pub numbers-put : (s : List ℕ) → length s ≡ state_size → (depth at mark indexed : ℕ)
    → set (set (set (set s max_depth depth) (max_depth + 1) at) (max_depth + 2) mark) (max_depth + 3) indexed ≡ slots_in s ++ (depth ∷ at ∷ mark ∷ indexed ∷ [])
numbers-put s l depth at mark indexed =
    let n : drop (max_depth + 4) s ≡ [] = drop_of_length-le s {i = max_depth + 4} (omega arith) in
    store4 s (depth ∷ at ∷ mark ∷ indexed ∷ []) max_depth refl (omega arith)
    ∙ ap (λ (x : List ℕ). slots_in s ++ (depth ∷ at ∷ mark ∷ indexed ∷ []) ++ x) n
    ∙ append-nil (slots_in s ++ (depth ∷ at ∷ mark ∷ indexed ∷ []))
