-- Items that begin alike and follow one another: a run in elements, in units, as far as characters are known. Assumes nothing.
use Prim.Native.Nat.{ℕ, zero, suc, ◌+◌, ◌-◌, ◌*◌, ◌/◌, ◌≤◌, ◌<◌, min}
use mathlib.Core.Path.{◌≡◌, refl, sym, ap, ◌∙◌}
use mathlib.Core.Bool.{Bool, true, false}
use mathlib.Core.List.{List}
use native.Mathlib.Omega.{arith}
use native.Mathlib.Nat.{mul-add, mul_assoc, mul_comm, le_of_mul-le-mul_left, le-div_iff_mul-le, min-le_right}
use lib.ListN.{length}
use Rattle.base.specs.Pick.{pick}
use Rattle.format.specs.declared.Form.{Form}
use Rattle.format.specs.declared.Form.TheVariants.{Text, Binary}
use Rattle.format.specs.Units.{domain}
use Rattle.laws.specs.Domains.{reader}
use Rattle.runs.specs.Runs.{Run, run_fits}
use Rattle.report_followers.specs.Followers.{same, same_two, same_unit, is_like, like_by, like_in, Span, Followers}

-- ---- a run, by the place that it has reached

pub record Reached (P : ℕ → ℕ) (k stop from r at : ℕ) : Type 0 where
  pub run : Run P k stop from r
  pub place : at ≡ from + r * k
  pub few : r ≤ at
  pub near : at ≤ stop

-- ---- what the tests say

pub picked : (b : Bool) (k : ℕ) → 0 < k → pick b k 0 ≡ k → b ≡ true
picked true k p e = refl
picked false k p e = absurd (omega arith)

two-same : (a b c : Bool) → a ≡ true → c ≡ b → c ≡ pick a b false
two-same a b c e f = rw (e, f)

two-other : (a b : Bool) → a ≡ false → false ≡ pick a b false
two-other a b e = rw e

-- the first two, then the rest of the unit
module _ (s : List ℕ) (p q : ℕ) (a : Bool) (e : a ≡ same_two s p q) (f : Form) where
  pub unit-text : (b : Bool) → f ≡ Text → a ≡ true → b ≡ same_two s (p + 2) (q + 2) → b ≡ same_unit f s p q
  unfolding same_unit
  unit-text b z t g = rw z (two-same _ _ b (sym e ∙ t) g)

  pub unit-binary : (b : Bool) → f ≡ Binary → a ≡ true → b ≡ same s (p + 2) (q + 2) → b ≡ same_unit f s p q
  unfolding same_unit
  unit-binary b z t g = rw z (two-same _ _ b (sym e ∙ t) g)

  pub unit-other : a ≡ false → false ≡ same_unit f s p q
  unfolding same_unit
  unit-other t = go f t
    where
      go : (f : Form) → a ≡ false → false ≡ same_unit f s p q
      go Text t = two-other _ _ (sym e ∙ t)
      go Binary t = two-other _ _ (sym e ∙ t)

-- ---- a run in elements is one in units

module _ (f : Form) (s : List ℕ) (whole : Bool) (at size stop r : ℕ) where
  abbrev u : ℕ
  u = (domain f).unit

  place : (j : ℕ) → u * at + u * size + j * (u * size) ≡ u * (at + size + j * size)
  place j =
      let a : j * (u * size) ≡ u * (j * size) = sym (mul_assoc j u size) ∙ ap (λ (x : ℕ). x * size) (mul_comm j u) ∙ mul_assoc u j size in
      rw (a, mul-add u (at + size) (j * size), mul-add u at size)

  pub in-units : 0 < size → Run (like_by f s whole (u * at) (u * size)) (u * size) (u * stop) (u * at + u * size) r → Run (like_in f s whole at size) size stop (at + size) r
  in-units p R = record { some = p; each = λ j h. each j h }
    where
      each : (j : ℕ) → j < r → (like_in f s whole at size (at + size + j * size) ≡ size) × (at + size + j * size + size ≤ stop)
      each j h =
          let z = R.each j h in
          let l : is_like f s whole (u * at) (u * (at + size + j * size)) ≡ true = rw (place j) at (picked (is_like f s whole (u * at) (u * at + u * size + j * (u * size))) (u * size) R.some z.0) in
          let k : u * (at + size + j * size + size) ≤ u * stop = rw (mul-add u (at + size + j * size) size, ← place j) z.1 in
          (rw l, le_of_mul-le-mul_left k (reader f).pos)

  -- it stays within the stream
  pub run_ends : (end : ℕ) → stop ≤ end → Run (like_in f s whole at size) size stop (at + size) r → r * size ≤ end - (at + size)
  run_ends end h R = go r R
    where
      go : (r : ℕ) → Run (like_in f s whole at size) size stop (at + size) r → r * size ≤ end - (at + size)
      go zero R = omega arith
      go (suc r) R = omega (arith, run_fits (like_in f s whole at size) size stop (at + size) (suc r) R (omega arith))

-- elements of a form that are within the stream
pub in-elements : (f : Form) (u a n : ℕ) → u ≡ (domain f).unit → a ≤ n / (domain f).unit → u * a ≤ n
in-elements f u a n e h = rw (e, mul_comm (domain f).unit a) ((le-div_iff_mul-le (reader f).pos).0 h)

module _ {f : Form} {s : List ℕ} {at size stop : ℕ} (S : Span f s at size stop) {u : ℕ} (e : u ≡ (domain f).unit) where
  pub units-run : (whole : Bool) (r : ℕ) → Run (like_by f s whole (u * at) (u * size)) (u * size) (u * stop) (u * at + u * size) r
      → Run (like_in f s whole at size) size stop (at + size) r
  units-run whole r R = in-units f s whole at size stop r S.some (rw e at R)

-- ---- as far as characters are known

module _ (f : Form) (s : List ℕ) (clean u end : ℕ) (is-u : u ≡ length s / (domain f).unit) (is-end : end ≡ min clean u) where
  end-within : end ≤ length s / (domain f).unit
  end-within = rw (← is-u, is-end) (min-le_right clean u)

  pub followed : (whole : Bool) (at size r : ℕ) → Run (like_in f s whole at size) size end (at + size) r
      → Followers f s whole clean at size r
  followed whole at size r R =
      record { few = run_ends f s whole at size end r (length s / (domain f).unit) end-within R; run = λ p. rw (← is-u, ← is-end) R }
