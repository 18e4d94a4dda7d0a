-- What the numbers say of a value's own sextets: 8 and 16. Assumes nothing.
use Prim.Native.Nat.{ℕ, zero, suc, ◌+◌, ◌-◌, ◌*◌, ◌/◌, ◌^◌, ◌≤◌, ◌<◌}
use Rattle.std.specs.Prelude.{◌≡◌, Bool, ltb, drop}
use Rattle.std.proofs.Math.Path.{refl}
use mathlib.Core.List.{List, [], ◌∷◌}
use Rattle.std.proofs.Math.Bool.{true, false}
use Rattle.std.proofs.Math.Logic.{⊎_elim}
use Rattle.std.proofs.Common.{arith, drop-cons}
use Rattle.std.proofs.Math.Dec.{eqb}
use Rattle.std.proofs.Math.ListN.{length, length-drop}
use borrow.Author.Tests.{ltb-true, lt-ltb, le-ltb, eqb-true, eq-eqb, ne_eqb}
use Rattle.base.specs.Pick.{pick}
use Rattle.base.specs.Cases.{whether, lt-or-ge}
use Rattle.base.specs.Digits.{Below}
use Rattle.format.specs.declared.Kind.TheVariants.{Variable}
use Rattle.format.specs.declared.Verdict.{Verdict}
use Rattle.format.specs.declared.Verdict.TheVariants.{Accepted}
use Rattle.format.specs.Registry.{is_text}
use Rattle.format.specs.Texts.{fills, fill_of, text_right, value_right}
use Rattle.format.specs.Framing.{sextet}
use Rattle.format.specs.Judging.{has_lead, zero_bits, judge_kind}
use Rattle.runs.specs.Opened.{all-low, variable-accepts}
use Rattle.runs_value.specs.Values.{unit_number, is_selector, text_fits, bytes_fit, unit_fits, value_fits}

-- ---- tests

-- both of two
both : (b c : Bool) → pick b c false ≡ true → (b ≡ true) × (c ≡ true)
both true c e = (refl, e)
both false c e = absurd (let y : ◌≡◌ {A = ℕ} 0 1 = cc in omega arith)

-- ---- 16, of a text whose first unit is x y z w

module _ (x y z w : ℕ) (r : List ℕ) (ly : y < 64) (lz : z < 64) (lw : w < 64) where
  right-none : 4096 ≤ unit_number x y z w → text_right 0 (x ∷ y ∷ z ∷ w ∷ r) ≡ true
  unfolding text_right fill_of fills
  right-none h = ⊎_elim filled bare (whether (eqb x 0))
    where
      filled : eqb x 0 ≡ true → text_right 0 (x ∷ y ∷ z ∷ w ∷ r) ≡ true
      filled e = rw (e, e, ne_eqb y 0 (λ q. omega (arith, eqb-true x 0 e)))

      bare : eqb x 0 ≡ false → text_right 0 (x ∷ y ∷ z ∷ w ∷ r) ≡ true
      bare e = rw (e, e)

  right-two : unit_number x y z w < 4096 → 64 ≤ unit_number x y z w → text_right 1 (x ∷ y ∷ z ∷ w ∷ r) ≡ true
  unfolding text_right fill_of fills
  right-two h g = rw (eq-eqb x 0 (omega arith), eq-eqb y 0 (omega arith), ne_eqb z 0 (λ q. omega arith))

  right-three : unit_number x y z w < 64 → 0 < unit_number x y z w → text_right 2 (x ∷ y ∷ z ∷ w ∷ r) ≡ true
  unfolding text_right fill_of fills
  right-three h g = rw (eq-eqb x 0 (omega arith), eq-eqb y 0 (omega arith), eq-eqb z 0 (omega arith), ne_eqb w 0 (λ q. omega arith))

-- ---- 8 and 16, of an item's own sextets

pub record Fit (t lead : ℕ) (own : List ℕ) : Type 0 where
  pub zero : zero_bits own 4 (8 * lead) ≡ true
  pub right : value_right t lead (drop 4 own) ≡ true

pub by-selector : (P : ℕ → Type 0) (a : ℕ) → is_selector a ≡ true → P 56 → P 57 → P 58 → P a
unfolding is_selector
by-selector P a e p q r = ⊎_elim (λ h. absurd (low h)) high (lt-or-ge a 56)
  where
    low : a < 56 → ⊥
    low h = let y : ◌≡◌ {A = Bool} false true = rw (lt-ltb a 56 h) at e in let z : ◌≡◌ {A = ℕ} 0 1 = cc in omega arith

    high : 56 ≤ a → P a
    high h = three (ltb-true a 59 (rw (le-ltb a 56 h) at e))
      where
        three : a < 59 → P a
        three l = ⊎_elim (λ g. let z : a ≡ 56 = omega arith in rw z p)
            (λ g. ⊎_elim (λ k. let z : a ≡ 57 = omega arith in rw z q) (λ k. let z : a ≡ 58 = omega arith in rw z r) (lt-or-ge a 58))
            (lt-or-ge a 57)

-- the unit behind the header
abbrev pub first_unit : List ℕ → ℕ
first_unit own = unit_number (sextet own 4) (sextet own 5) (sextet own 6) (sextet own 7)

module _ (own : List ℕ) (b : Below 64 own) where
  zero-none : zero_bits own 4 0 ≡ true
  unfolding zero_bits
  zero-none = eq-eqb (((sextet own 4 * 64 + sextet own 5) * 64 + sextet own 6) / 2 ^ (18 - 0)) 0 (omega (arith, all-low own b 4, all-low own b 5, all-low own b 6))

  zero_one : first_unit own < 65536 → zero_bits own 4 8 ≡ true
  unfolding zero_bits
  zero_one h = eq-eqb (((sextet own 4 * 64 + sextet own 5) * 64 + sextet own 6) / 2 ^ (18 - 8)) 0 (omega arith)

  zero-two : first_unit own < 256 → zero_bits own 4 16 ≡ true
  unfolding zero_bits
  zero-two h = eq-eqb (((sextet own 4 * 64 + sextet own 5) * 64 + sextet own 6) / 2 ^ (18 - 16)) 0 (omega arith)

  module _ (t : ℕ) (long : 8 ≤ length own) where
    behind-header : drop 4 own ≡ sextet own 4 ∷ sextet own 5 ∷ sextet own 6 ∷ sextet own 7 ∷ drop 8 own
    behind-header = rw (drop-cons own 4 0 (omega arith), drop-cons own 5 0 (omega arith), drop-cons own 6 0 (omega arith), drop-cons own 7 0 (omega arith))

    text-fit : (lead : ℕ) → is_text t ≡ true → zero_bits own 4 (8 * lead) ≡ true
        → text_right lead (sextet own 4 ∷ sextet own 5 ∷ sextet own 6 ∷ sextet own 7 ∷ drop 8 own) ≡ true → Fit t lead own
    unfolding value_right
    text-fit lead i z r = record { zero = z; right = rw (i, behind-header) r }

    bytes_fit_lem : (lead : ℕ) → is_text t ≡ false → zero_bits own 4 (8 * lead) ≡ true → Fit t lead own
    unfolding value_right
    bytes_fit_lem lead i z = record { zero = z; right = rw i }

    under-four : (x : Bool) → is_text t ≡ x → pick x (text_fits 56 (first_unit own)) (bytes_fit 56 (first_unit own)) ≡ true → Fit t 0 own
    unfolding text_fits
    under-four true i q = text-fit 0 i zero-none (right-none _ _ _ _ _ (all-low own b 5) (all-low own b 6) (all-low own b 7) (ltb-true 4095 (first_unit own) q))
    under-four false i q = bytes_fit_lem 0 i zero-none

    under-five : (x : Bool) → is_text t ≡ x → pick x (text_fits 57 (first_unit own)) (bytes_fit 57 (first_unit own)) ≡ true → Fit t 1 own
    unfolding text_fits bytes_fit
    under-five true i q =
        let e = both _ _ q in
        let h = ltb-true (first_unit own) 4096 e.0 in
        text-fit 1 i (zero_one (omega arith)) (right-two _ _ _ _ _ (all-low own b 5) (all-low own b 6) (all-low own b 7) h (ltb-true 63 (first_unit own) e.1))
    under-five false i q = bytes_fit_lem 1 i (zero_one (ltb-true (first_unit own) 65536 q))

    under-six : (x : Bool) → is_text t ≡ x → pick x (text_fits 58 (first_unit own)) (bytes_fit 58 (first_unit own)) ≡ true → Fit t 2 own
    unfolding text_fits bytes_fit
    under-six true i q =
        let e = both _ _ q in
        let h = ltb-true (first_unit own) 64 e.0 in
        text-fit 2 i (zero-two (omega arith)) (right-three _ _ _ _ _ (all-low own b 5) (all-low own b 6) (all-low own b 7) h (ltb-true 0 (first_unit own) e.1))
    under-six false i q = bytes_fit_lem 2 i (zero-two (ltb-true (first_unit own) 256 q))

    pub unit-fit : (a : ℕ) → is_selector a ≡ true → unit_fits a t (first_unit own) ≡ true → Fit t (a - 56) own
    unfolding unit_fits
    unit-fit a s = by-selector (λ n. unit_fits n t (first_unit own) ≡ true → Fit t (n - 56) own) a s (under-four (is_text t) refl) (under-five (is_text t) refl) (under-six (is_text t) refl)

  -- the header alone: a value of nothing
  pub none-fits : (t : ℕ) → length own ≡ 4 → Fit t 0 own
  unfolding value_right text_right fill_of fills
  none-fits t e = record { zero = zero-none; right = rw (nothing (drop 4 own) (omega (arith, length-drop 4 own))) (whichever (is_text t)) }
    where
      nothing : (v : List ℕ) → length v ≡ 0 → v ≡ []
      nothing [] z = refl
      nothing (x ∷ v) z = absurd (omega arith)

      whichever : (x : Bool) → pick x true true ≡ true
      whichever true = refl
      whichever false = refl

-- ---- accepted

pub value-accepts : (a t n v : ℕ) (own : List ℕ) → Below 64 own → length own ≡ 4 * (1 + n) → is_selector a ≡ true → value_fits a t (1 + n) v ≡ true
    → (0 < n → v ≡ first_unit own) → (inner : ℕ → ℕ → List ℕ → Verdict) → judge_kind (Variable t (a - 56) n) 1 own inner ≡ Accepted
unfolding value_fits has_lead
value-accepts a t zero v own b e s f u inner =
    let z : a ≡ 56 = eqb-true a 56 f in
    let q = none-fits own b t e in
    rw z (variable-accepts t 0 0 own refl q.zero q.right b inner)
value-accepts a t (suc n) v own b e s f u inner =
    let w = rw (lt-ltb 1 (1 + suc n) (omega arith), u (omega arith)) at f in
    let q = unit-fit own b t (omega arith) a s w in
    variable-accepts t (a - 56) (suc n) own (lead (ltb 0 (a - 56))) q.zero q.right b inner
  where
    lead : (x : Bool) → pick x (ltb 0 (suc n)) true ≡ true
    lead true = lt-ltb 0 (suc n) (omega arith)
    lead false = refl
