-- What holds at each turn of the loop over lent slots, and what a turn does to it. Assumes nothing.
use Prim.Native.Nat.{ℕ, suc, ◌+◌, ◌-◌, ◌≤◌, ◌<◌}
use mathlib.Core.Path.{◌≡◌, refl, sym, ap, ◌∙◌, subst}
use mathlib.Core.Bool.{false}
use mathlib.Core.List.{List}
use native.Mathlib.Omega.{arith}
use native.Mathlib.Nat.{sub-zero, zero-add, add-zero}
use lib.ListN.{length, drop}
use lib.Seq.{length-take-le}
use borrow.Author.Tests.{le-ltb}
use Rattle.format.specs.declared.Form.{Form}
use Rattle.format.specs.Units.{Domain, domain}
use Rattle.format.specs.Judging.{max_depth}
use Rattle.walk_state.specs.declared.Walk.{Walk}
use Rattle.walk_state.specs.declared.Place.{Place}
use Rattle.walk_state.specs.declared.Found.TheVariants as F
use Rattle.walk_state.specs.Walking.{step_in}
use Rattle.walk_state.specs.Lent.{walk_at}
use Rattle.walk.specs.declared.Moved.{Moved}
use Rattle.walk.specs.Stepping.{is_item, Steps, Fits}
use Rattle.walk_claims.specs.Words.{Yields, Stops}
use Rattle.walk_claims.proofs.Yielding.{of-form}
use Rattle.instalments.specs.declared.Pause.{Pause}
use Rattle.instalments.specs.declared.Pause.TheVariants as P
use Rattle.instalments.specs.declared.Walked.{Walked}
use Rattle.instalments.specs.Instalments.{counted, unspent, walk_on}
use Rattle.instalments.specs.Lent.{Goes}
use Rattle.instalments.proofs.Proved.{plus, pause_of, yields, stops}

-- n items behind the first state: what the rest of the budget gives from the present one, counted on, is what the budget gives from the
-- first
pub record Going (form : Form) (xs : List ℕ) (budget : ℕ) (before : List ℕ) (p : Place) (now : List ℕ) (q : Place) (n : ℕ) : Type 0 where
  pub few : n ≤ budget
  pub room : max_depth ≤ length now
  pub fits : Fits form xs (walk_at now q)
  pub whole : walk_on (domain form) xs budget (walk_at before p) ≡ plus n (walk_on (domain form) xs (budget - n) (walk_at now q))
  pub behind : drop max_depth now ≡ drop max_depth before
  pub kept : n ≡ 0 → now ≡ before

pub begin : (form : Form) (xs : List ℕ) (budget : ℕ) (s : List ℕ) (p : Place) → max_depth ≤ length s → Fits form xs (walk_at s p)
    → Going form xs budget s p s p 0
begin form xs budget s p room f = record {
  few = omega arith;
  room = room;
  fits = f;
  whole = rw (sub-zero, zero-add);
  behind = refl;
  kept = λ _. refl;
}

module _ (form : Form) (xs : List ℕ) (budget : ℕ) (before : List ℕ) (p : Place) (now : List ℕ) (q : Place) (n : ℕ)
    (g : Going form xs budget before p now q n) where
  abbrev d : Domain
  d = domain form

  abbrev w : Walk
  w = walk_at now q

  -- the walk stands where it stood, and n items were taken
  stands : {after : List ℕ} {why : Pause ℕ} → walk_on d xs budget (walk_at before p) ≡ record { next = w; items = n; pause = why } → after ≡ now
      → Goes before after (record { place = q; items = n; pause = why }) (walk_on d xs budget (walk_at before p))
  stands e k = rw (e, k) (record { moves = record { state = refl; behind = g.behind }; items = refl; pause = refl; kept = g.kept })

  unbarred : unspent d xs w ≡ P.Spent
  unfolding unspent
  unbarred = rw (le-ltb d.limit (length xs) g.fits.few, g.fits.fit)

  pub spent_all : n ≡ budget → Goes before now (record { place = q; items = budget; pause = P.Spent }) (walk_on d xs budget (walk_at before p))
  unfolding walk_on
  spent_all h =
      let z : budget - n ≡ 0 = omega arith in
      subst (λ (k : ℕ). Goes before now (record { place = q; items = k; pause = P.Spent }) (walk_on d xs budget (walk_at before p))) h
      (stands (g.whole ∙ ap (λ (k : ℕ). plus n (walk_on d xs k w)) z ∙ rw (add-zero, unbarred)) refl)

  module _ (h : n < budget) {after : List ℕ} {m : Moved} (t : Steps now after m (step_in d xs w)) where
    left_is : budget - n ≡ suc (budget - (n + 1))
    left_is = omega arith

    stopped : {why : Pause ℕ} → Stops m.found → is_item m.found ≡ false → pause_of m.found ≡ why
        → Goes before after (record { place = q; items = n; pause = why }) (walk_on d xs budget (walk_at before p))
    stopped s i e =
        let z : Stops (step_in d xs w).found = subst Stops t.found s in
        stands
        (g.whole ∙ ap (λ (k : ℕ). plus n (walk_on d xs k w)) left_is ∙ ap (plus n) (stops d xs (of-form form xs) (budget - (n + 1)) w z)
        ∙ rw (add-zero, ← t.found, e)) (t.kept i)

    pub refused : {number place : ℕ} → m.found ≡ F.Refused number place
        → Goes before after (record { place = q; items = n; pause = P.Refused number place }) (walk_on d xs budget (walk_at before p))
    refused e = stopped (rw e tt) (ap is_item e) (ap pause_of e)

    pub ended : m.found ≡ F.End → Goes before after (record { place = q; items = n; pause = P.End }) (walk_on d xs budget (walk_at before p))
    ended e = stopped (rw e tt) (ap is_item e) (ap pause_of e)

    more : (r : Walked ℕ) → plus n (counted r) ≡ plus (n + 1) r
    more r = ap (λ (k : ℕ). record { next = r.next; items = k; pause = r.pause }) (omega arith)

    pub again : Yields m.found → length after ≡ length now → Going form xs budget before p after m.place (n + 1)
    again y l =
        let z : Yields (step_in d xs w).found = subst Yields t.found y in
        let k = (of-form form xs).keeps-fit w (length-take-le max_depth now g.room) g.fits.fit in
        record {
          few = omega arith;
          room = omega (arith, g.room);
          fits = record { few = g.fits.few; fit = rw t.moves.state k.0 };
          whole =
              g.whole ∙ ap (λ (j : ℕ). plus n (walk_on d xs j w)) left_is ∙ ap (plus n) (yields d xs (of-form form xs) (budget - (n + 1)) w z)
              ∙ more (walk_on d xs (budget - (n + 1)) (step_in d xs w).next)
              ∙ ap (λ (v : Walk). plus (n + 1) (walk_on d xs (budget - (n + 1)) v)) (sym t.moves.state);
          behind = t.moves.behind ∙ g.behind;
          kept = λ e. absurd (omega arith);
        }
