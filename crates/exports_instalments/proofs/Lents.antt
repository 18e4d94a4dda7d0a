-- What an instalment in C's own numbers gives: the state that they are, walked on. Assumes nothing.
use mathlib.Core.Path.{◌≡◌, refl, sym, ap, ◌∙◌}
use mathlib.Core.List.{List, ◌++◌}
use Prim.Native.Nat.{ℕ}
use mathlib.Core.Logic.{⊎_elim}
use native.Mathlib.Omega.{arith}
use lib.Dec.{eqb}
use lib.Seq.{take-take}
use borrow.Author.Tests.{eq-eqb, ne_eqb, eqb-true, eqb-false}
use Rattle.base.specs.Pick.{pick}
use Rattle.base.specs.Cases.{whether}
use Rattle.format.specs.Units.{Domain}
use Rattle.format.specs.Judging.{max_depth}
use Rattle.walk_state.specs.declared.Place.{Place}
use Rattle.walk_state.specs.Lent.{slots_in, walk_at}
use Rattle.instalments.specs.declared.Went.{Went}
use Rattle.instalments.specs.Instalments.{walk_on}
use Rattle.instalments.specs.Numbers.{pause_number, pause_place}
use Rattle.instalments.specs.Lent.{Goes}
use Rattle.exports_values.specs.Lent.{place_in, place_numbers, walk_of, state_of}
use Rattle.exports_lent.specs.Answers.{state_behind}

-- what the call answers: number, place, items and state
abbrev pub Gives : Domain → List ℕ → ℕ → List ℕ → ℕ → ℕ → ℕ → List ℕ → Type 0
Gives d xs budget before number place items state =
    (number ≡ pause_number (walk_on d xs budget (walk_of before)).pause) × ((place ≡ pause_place (walk_on d xs budget (walk_of before)).pause)
    × ((items ≡ (walk_on d xs budget (walk_of before)).items) × (state ≡ state_behind (walk_on d xs budget (walk_of before)) before)))

module _ (d : Domain) (xs : List ℕ) (budget : ℕ) (before : List ℕ) {after : List ℕ} {p : Place} {r : Went} (e : p ≡ place_in before)
    (g : Goes before after r (walk_on d xs budget (walk_at before p))) {number place : ℕ} (en : number ≡ pause_number r.pause) (ep : place ≡ pause_place r.pause) where
  told : {state : List ℕ} → state ≡ state_behind (walk_on d xs budget (walk_of before)) before → Gives d xs budget before number place r.items state
  unfolding walk_of
  told s = (rw (← e) (en ∙ ap pause_number g.pause), (rw (← e) (ep ∙ ap pause_place g.pause), (rw (← e) g.items, s)))

  no_item : r.items ≡ 0 → Gives d xs budget before number place r.items after
  unfolding state_behind walk_of
  no_item z = told (rw (← e, ← g.items, eq-eqb _ _ z) (g.kept z))

  some-items : ¬ (r.items ≡ 0) → {state : List ℕ} → state ≡ slots_in after ++ place_numbers r.place.depth r.place.at r.place.first r.place.indexed
      → Gives d xs budget before number place r.items state
  unfolding state_behind walk_of state_of
  some-items z s =
      told (rw (← e, ← g.items, ne_eqb _ _ z, ← g.moves.state)
      (s ∙ ap (λ (x : List ℕ). x ++ place_numbers r.place.depth r.place.at r.place.first r.place.indexed) (sym (take-take max_depth max_depth after (omega arith)))))

  -- by whether an item was taken
  pub behind : {state : List ℕ}
      → state ≡ pick (eqb r.items 0) after (slots_in after ++ place_numbers r.place.depth r.place.at r.place.first r.place.indexed)
      → Gives d xs budget before number place r.items state
  behind s =
      ⊎_elim
      (λ h. let t = rw h at s in rw t (no_item (eqb-true _ _ h)))
      (λ h. let t = rw h at s in some-items (eqb-false _ _ h) t)
      (whether (eqb r.items 0))
