-- What 13's test says of a state that passes it, and where its next item is looked for. Assumes nothing.
use mathlib.Core.Path.{◌≡◌, refl, sym, ◌∙◌}
use mathlib.Core.Bool.{Bool, true, false, not}
use mathlib.Core.Logic.{⊎_elim}
use mathlib.Core.List.{List}
use Prim.Native.Nat.{ℕ, zero, suc, ◌-◌, ◌<◌, ◌≤◌}
use native.Mathlib.Numerals.{sub-one}
use native.Mathlib.Omega.{arith}
use lib.Dec.{ltb, leb, eqb}
use lib.ListN.{length, get_or}
use borrow.Author.Tests.{lt-ltb, le-ltb, le-leb, ne_eqb, ltb-true, ltb-false, leb-true, eqb-false}
use Rattle.base.specs.Pick.{pick, pick-by}
use Rattle.base.specs.Cases.{lt-or-ge}
use Rattle.format.specs.declared.Form.{Form}
use Rattle.format.specs.Units.{domain}
use Rattle.format.specs.Judging.{max_depth}
use Rattle.walk_state.specs.declared.Walk.{Walk}
use Rattle.walk_state.specs.Walking.{all_below, slot_fits, is_fit, stop_of}
use Rattle.walk_extent.specs.declared.Extent.{Extent}
use Rattle.walk_extent.specs.Extent.{units_in, Measured, is_near}
use Rattle.walk.specs.Stepping.{Fits, Near}

both : (b x : Bool) → pick b x false ≡ true → (b ≡ true) × (x ≡ true)
both true x h = (refl, h)
both false x h = let z : ◌≡◌ {A = ℕ} 0 1 = cc in absurd (omega arith)

neither : (b x : Bool) → pick b false x ≡ true → (b ≡ false) × (x ≡ true)
neither true x h = let z : ◌≡◌ {A = ℕ} 0 1 = cc in absurd (omega arith)
neither false x h = (refl, h)

-- what holds of every number below n holds of each
pub all-at : (p : ℕ → Bool) (n k : ℕ) → k < n → all_below p n ≡ true → p k ≡ true
unfolding all_below
all-at p zero k h e = absurd (omega arith)
all-at p (suc n) k h e =
    let t = both (p n) (all_below p n) e in
    ⊎_elim (λ l. all-at p n k l t.1) (λ g. let q : k ≡ n = omega arith in rw q t.0) (lt-or-ge k n)

-- the end of an open group is not past its outer one's, or the stream
pub slot-open : (ends : List ℕ) (depth n k : ℕ) → k < depth → slot_fits ends depth n k ≡ true
    → get_or ends k 0 ≤ pick (eqb k 0) n (get_or ends (k - 1) 0)
unfolding slot_fits
slot-open ends depth n k h e = leb-true (get_or ends k 0) (pick (eqb k 0) n (get_or ends (k - 1) 0)) (rw (lt-ltb k depth h) at e)

-- so every open group ends within the stream
pub ends-within : (ends : List ℕ) (depth n : ℕ) → depth ≤ max_depth → all_below (slot_fits ends depth n) max_depth ≡ true
    → (k : ℕ) → k < depth → get_or ends k 0 ≤ n
ends-within ends depth n d e zero h = slot-open ends depth n 0 h (all-at (slot_fits ends depth n) max_depth 0 (omega arith) e)
ends-within ends depth n d e (suc k) h =
    let i = ends-within ends depth n d e k (omega arith) in
    let s = slot-open ends depth n (suc k) h (all-at (slot_fits ends depth n) max_depth (suc k) (omega arith) e) in
    let t : get_or ends (suc k) 0 ≤ get_or ends k 0 = rw (ne_eqb (suc k) 0 (λ q. omega arith), sub-one) at s in
    omega arith

module _ (w : Walk) (n : ℕ) (h : is_fit w n ≡ true) where
  abbrev slots : Bool
  slots = all_below (slot_fits w.ends w.depth n) max_depth

  abbrev mark : Bool
  mark = pick (eqb w.depth 0) (pick w.first false (not w.indexed)) (ltb w.at (get_or w.ends (w.depth - 1) 0))

  tests : (leb w.depth max_depth ≡ true) × (leb w.at n ≡ true) × (slots ≡ true) × (mark ≡ true)
  unfolding is_fit
  tests =
      let a = both (leb w.depth max_depth) (pick (leb w.at n) (pick slots mark false) false) h in
      let b = both (leb w.at n) (pick slots mark false) a.1 in
      let c = both slots mark b.1 in
      (a.0, b.0, c.0, c.1)

  pub fit-few : w.depth ≤ max_depth
  fit-few = leb-true w.depth max_depth tests.0

  pub fit-there : w.at ≤ n
  fit-there = leb-true w.at n tests.1

  pub fit-stop : stop_of w n ≤ n
  unfolding stop_of
  fit-stop =
      pick-by (λ (m : ℕ). m ≤ n) (eqb w.depth 0) n (get_or w.ends (w.depth - 1) 0) (λ _. omega arith)
      (λ e. ends-within w.ends w.depth n fit-few tests.2 (w.depth - 1) (omega (arith, eqb-false w.depth 0 e)))

  -- the position stands before the innermost end, or not past the stream's
  pub fit-order : w.at ≤ stop_of w n
  unfolding stop_of
  fit-order =
      pick-by (λ (m : ℕ). w.at ≤ m) (eqb w.depth 0) n (get_or w.ends (w.depth - 1) 0) (λ _. fit-there)
      (λ e. omega (arith, ltb-true w.at (get_or w.ends (w.depth - 1) 0) (rw e at tests.3)))

-- ---- where the next item is looked for

pub fit-near : (form : Form) (xs : List ℕ) (w : Walk) → Fits form xs w → {n : ℕ} → n ≡ units_in (domain form) xs → Near form xs n w
fit-near form xs w f {n} e =
    let h : is_fit w n ≡ true = rw e f.fit in
    record { few = f.few; units = e; slots = fit-few w n h; order = fit-order w n h; room = fit-stop w n h }

module _ (form : Form) (xs : List ℕ) (w : Walk) (e : Extent) (m : Measured form xs e) where
  -- the test says so
  pub near-is : is_near w e ≡ true → Near form xs e.units w
  unfolding is_near
  near-is h =
      let a = neither e.over _ h in
      let b = both (leb w.depth max_depth) _ a.1 in
      let c = both (leb w.at (stop_of w e.units)) (leb (stop_of w e.units) e.units) b.1 in
      record {
        few = ltb-false (domain form).limit (length xs) (sym m.limit ∙ a.0);
        units = m.units;
        slots = leb-true _ _ b.0;
        order = leb-true _ _ c.0;
        room = leb-true _ _ c.1;
      }

  -- and a state that fits passes it
  pub is-near : Fits form xs w → is_near w e ≡ true
  unfolding is_near
  is-near f =
      let n = fit-near form xs w f m.units in
      rw (m.limit, le-ltb (domain form).limit (length xs) f.few, le-leb _ _ n.slots, le-leb _ _ n.order, le-leb _ _ n.room)
