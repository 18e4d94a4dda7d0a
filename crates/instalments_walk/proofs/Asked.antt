-- 1 and 13, asked once, before any item is taken. Assumes nothing.
use Prim.Native.Nat.{ℕ, ◌≤◌}
use mathlib.Core.Path.{◌≡◌, refl, sym, ◌∙◌}
use mathlib.Core.Bool.{true, false}
use mathlib.Core.List.{List}
use lib.ListN.{length}
use borrow.Author.Tests.{ltb-true, ltb-false}
use Rattle.format.specs.declared.Form.{Form}
use Rattle.format.specs.Units.{domain}
use Rattle.walk_state.specs.declared.Place.{Place}
use Rattle.walk_state.specs.Walking.{is_fit}
use Rattle.walk_state.specs.Lent.{walk_at}
use Rattle.walk_extent.specs.declared.Extent.{Extent}
use Rattle.walk_extent.specs.Extent.{Measured}
use Rattle.walk.specs.Stepping.{Fits}
use Rattle.walk_claims.proofs.Yielding.{of-form}
use Rattle.instalments.specs.declared.Pause.{Pause}
use Rattle.instalments.specs.declared.Pause.TheVariants as P
use Rattle.instalments.specs.declared.Went.{Went}
use Rattle.instalments.specs.Instalments.{halted, walk_on}
use Rattle.instalments.specs.Lent.{none, Goes}
use Rattle.instalments.proofs.Proved.{one, thirteen}

module _ (form : Form) (xs : List ℕ) (e : Extent) (m : Measured form xs e) (budget : ℕ) (s : List ℕ) (p : Place) where
  no_item : {why : Pause ℕ} → walk_on (domain form) xs budget (walk_at s p) ≡ halted (walk_at s p) why → {r : Went} → r ≡ none p why
      → Goes s s r (walk_on (domain form) xs budget (walk_at s p))
  no_item q er = rw (er, q) (record { moves = record { state = refl; behind = refl }; items = refl; pause = refl; kept = λ _. refl })

  pub too_long : e.over ≡ true → {r : Went} → r ≡ none p (P.Refused 1 0) → Goes s s r (walk_on (domain form) xs budget (walk_at s p))
  too_long o = no_item (one (domain form) xs (of-form form xs) budget (walk_at s p) (ltb-true _ _ (sym m.limit ∙ o)))

  module _ (o : e.over ≡ false) where
    short : length xs ≤ (domain form).limit
    short = ltb-false _ _ (sym m.limit ∙ o)

    pub unfit : is_fit (walk_at s p) e.units ≡ false → {r : Went} → r ≡ none p (P.Refused 13 0)
        → Goes s s r (walk_on (domain form) xs budget (walk_at s p))
    unfit f = no_item (thirteen (domain form) xs (of-form form xs) budget (walk_at s p) short (rw (← m.units) f))

    pub fits : is_fit (walk_at s p) e.units ≡ true → Fits form xs (walk_at s p)
    fits f = record { few = short; fit = rw (← m.units) f }
