-- Runs of stores into a list: three and four elements of an array, one behind the other. Assumes nothing.
use Rattle.std.specs.Prelude.{◌≡◌, List, [], ◌∷◌, ◌++◌, ℕ, suc, ◌+◌, ◌≤◌, length, get_or, take, drop, set}
use Rattle.std.proofs.Common.{arith}
use Rattle.std.proofs.lemmas.List.Edits.{sets-eq}
use Rattle.base.specs.Lists.{list3, list4}

pub store3 : (d t : List ℕ) (at : ℕ) → length t ≡ 3 → at + 3 ≤ length d
    → set (set (set d at (get_or t 0 0)) (at + 1) (get_or t 1 0)) (at + 2) (get_or t 2 0) ≡ take at d ++ t ++ drop (at + 3) d
store3 d t at l h =
    let e1 : at + 1 ≡ suc at = omega arith in
    let e2 : at + 2 ≡ suc (suc at) = omega arith in
    rw (list3 t l, e1, e2) (sets-eq (get_or t 0 0 ∷ get_or t 1 0 ∷ get_or t 2 0 ∷ []) d at h)

pub store4 : (d t : List ℕ) (at : ℕ) → length t ≡ 4 → at + 4 ≤ length d
    → set (set (set (set d at (get_or t 0 0)) (at + 1) (get_or t 1 0)) (at + 2) (get_or t 2 0)) (at + 3) (get_or t 3 0) ≡ take at d ++ t ++ drop (at + 4) d
store4 d t at l h =
    let e1 : at + 1 ≡ suc at = omega arith in
    let e2 : at + 2 ≡ suc (suc at) = omega arith in
    let e3 : at + 3 ≡ suc (suc (suc at)) = omega arith in
    rw (list4 t l, e1, e2, e3) (sets-eq (get_or t 0 0 ∷ get_or t 1 0 ∷ get_or t 2 0 ∷ get_or t 3 0 ∷ []) d at h)
