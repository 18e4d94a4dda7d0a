-- All slots, one by one; and the last test of 13, over slots that are lent. Assumes nothing.
use mathlib.Core.Path.{◌≡◌, refl, sym, ◌∙◌}
use mathlib.Core.Bool.{Bool, true, false}
use mathlib.Core.List.{List}
use mathlib.Core.Logic.{⊎_elim}
use Prim.Native.Nat.{ℕ, zero, suc, ◌+◌, ◌-◌, ◌<◌, ◌≤◌}
use native.Mathlib.Numerals.{add-one}
use native.Mathlib.Omega.{arith}
use lib.Dec.{ltb}
use lib.ListN.{get_or}
use borrow.Author.Tests.{le-leb, ne_eqb}
use Rattle.base.specs.Pick.{pick}
use Rattle.base.specs.Cases.{lt-or-ge}
use Rattle.format.specs.Judging.{max_depth}
use Rattle.walk_state.specs.declared.Place.{Place}
use Rattle.walk_state.specs.Walking.{all_below, slot_fits, is_fit}
use Rattle.walk_state.specs.Lent.{slots_in, walk_at}
use Rattle.walk_state.proofs.Lent.{slot_at}

-- ---- slots

pub all_none : (p : ℕ → Bool) → all_below p 0 ≡ true
unfolding all_below
all_none p = refl

pub all_more : (p : ℕ → Bool) (k : ℕ) → all_below p k ≡ true → p k ≡ true → all_below p (k + 1) ≡ true
unfolding all_below
all_more p k h e = rw add-one (simp (e, h))

pick_same {ℓ} : {X : Type ℓ} (b : Bool) (x : X) → pick b x x ≡ x
pick_same true x = refl
pick_same false x = refl

-- a number that does not pass the test spoils the whole
pub all-spoilt : (p : ℕ → Bool) (n k : ℕ) → k < n → p k ≡ false → all_below p n ≡ false
unfolding all_below
all-spoilt p zero k h e = absurd (omega arith)
all-spoilt p (suc n) k h e =
    ⊎_elim (λ l. rw (all-spoilt p n k l e) (pick_same (p n) false)) (λ g. let q : n ≡ k = omega arith in rw (q, e)) (lt-or-ge k n)

-- ---- the last test of 13

pub fit-inner : (s : List ℕ) (p : Place) (n : ℕ) → p.depth ≤ max_depth → p.at ≤ n → {b : Bool}
    → b ≡ all_below (slot_fits (slots_in s) p.depth n) max_depth → b ≡ true → ¬ (p.depth ≡ 0)
    → ltb p.at (get_or s (p.depth - 1) 0) ≡ is_fit (walk_at s p) n
unfolding is_fit
fit-inner s p n few there e h z =
    rw (le-leb _ _ few, le-leb _ _ there, sym e ∙ h, ne_eqb _ _ z, slot_at s (p.depth - 1) (omega (arith, z)))
