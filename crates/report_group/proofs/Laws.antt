-- Small groups, one in the other, over either form: what their innermost one says. Assumes nothing.
use Prim.Native.Nat.{ℕ, zero, suc, ◌+◌, ◌-◌, ◌*◌, ◌/◌, ◌≤◌, ◌<◌, min}
use mathlib.Core.Path.{◌≡◌, refl, sym, ◌∙◌}
use mathlib.Core.Bool.{Bool, true, false}
use mathlib.Core.List.{List}
use native.Mathlib.Omega.{arith}
use lib.Dec.{ltb, eqb}
use native.Mathlib.Nat.{min-le_left, min-le_right}
use lib.ListN.{length}
use borrow.Author.Tests.{ltb-true, eqb-true}
use Rattle.base.specs.Pick.{pick}
use Rattle.format.specs.declared.Form.{Form}
use Rattle.format.specs.declared.Verdict.TheVariants.{Accepted}
use Rattle.format.specs.Units.{domain}
use Rattle.format.specs.Judging.{max_depth}
use Rattle.format.specs.Registry.{is_overrideable}
use Rattle.laws.specs.Domains.{reader}
use Rattle.laws.specs.Levels.{level, level-end}
use Rattle.runs.specs.Plain.{plain_table, plain_at, group_at, letter_at, nested}
use Rattle.runs.specs.Levels.{Clear, clear-less, plain-level, group-is-small, Nested, nested-level}
use Rattle.report_found.specs.Limits.{longest}
use Rattle.report_found.specs.Finds.{Inside}
use Rattle.report_found.proofs.Laws.{wide, in-units}
use Rattle.runs_tables.specs.declared.Tables.{Tables}
use Rattle.runs_tables.specs.Lent.{Lent}
use Rattle.report_fast_laws.specs.Fast.{Reach, Ready, Good}
use Rattle.report_fast_laws.specs.Laws.{inside, by-small, taken-good}

-- ---- groups one in the other

-- the innermost
nested-last : (g : ℕ → ℕ) (stop n at d : ℕ) → nested g stop n at ≡ suc d → (g (at + d) ≡ stop - (at + d)) × (at + d < stop)
unfolding nested
nested-last g stop zero at d e = absurd (omega arith)
nested-last g stop (suc n) at d e = go (λ k q. nested-last g stop n (at + 1) k q) (ltb at stop) (eqb (g at) (stop - at)) refl refl e
  where
    inner : ((k : ℕ) → nested g stop n (at + 1) ≡ suc k → (g (at + 1 + k) ≡ stop - (at + 1 + k)) × (at + 1 + k < stop)) → (d : ℕ)
        → g at ≡ stop - at → at < stop → nested g stop n (at + 1) ≡ d → (g (at + d) ≡ stop - (at + d)) × (at + d < stop)
    inner rest zero p q r = let z : at + 0 ≡ at = omega arith in rw z (p, q)
    inner rest (suc d) p q r = let z : at + suc d ≡ at + 1 + d = omega arith in rw z (rest d r)

    go : ((k : ℕ) → nested g stop n (at + 1) ≡ suc k → (g (at + 1 + k) ≡ stop - (at + 1 + k)) × (at + 1 + k < stop)) → (x y : Bool)
        → ltb at stop ≡ x → eqb (g at) (stop - at) ≡ y → pick x (pick y (suc (nested g stop n (at + 1))) 0) 0 ≡ suc d
        → (g (at + d) ≡ stop - (at + d)) × (at + d < stop)
    go rest false y p q r = absurd (omega arith)
    go rest true false p q r = absurd (omega arith)
    go rest true true p q r = inner rest d (eqb-true _ _ q) (ltb-true _ _ p) (omega arith)

module _ (f : Form) (tables : Tables) (s : List ℕ) (l at stop : ℕ) (I : Inside (domain f) s at stop) (lt : at < stop)
    (R : Ready f tables s at stop) where
  abbrev own : List ℕ
  own = (domain f).sextets s

  long : 4 * stop ≤ length own
  long = wide f s false l false at stop I

  module _ (d : ℕ) (N : stop ≤ length s / (domain f).unit → nested (group_at own) stop (l - 1) (at + 1) ≡ d) (g : group_at own at ≡ stop - at) where
    n : nested (group_at own) stop (l - 1) (at + 1) ≡ d
    n = N (in-units (domain f) (reader f) s at stop I)

    from_in : Clear own (at + 1) stop
    from_in = clear-less own at stop (at + 1) stop R.clear (omega arith) (omega arith)

    around : 0 < d → Nested own stop long (at + 1) from_in (l - 1) (is_overrideable (letter_at own at)) (at + 1) d
    around p = nested-level own stop long (at + 1) from_in (l - 1) (is_overrideable (letter_at own at)) (at + 1) d (omega arith) n p

    pub nest-fits : (at + 1 + d ≤ stop) × (d ≤ l - 1)
    nest-fits = go d refl
      where
        go : (k : ℕ) → d ≡ k → (at + 1 + d ≤ stop) × (d ≤ l - 1)
        go zero z = (omega arith, omega arith)
        go (suc k) z = let a = around (omega arith) in (a.fits, a.few)

    -- the innermost is a group
    pub nest-group : 0 < group_at own (at + d)
    nest-group = go d refl
      where
        go : (k : ℕ) → d ≡ k → 0 < group_at own (at + d)
        go zero z = let y : at + d ≡ at = omega arith in rw (y, g) (omega arith)
        go (suc k) z =
            let a = nested-last (group_at own) stop (l - 1) (at + 1) k (n ∙ z) in
            let y : at + d ≡ at + 1 + k = omega arith in
            rw (y, a.0) (omega (arith, a.1))

    -- what is inside it says all
    pub nest-rest : (m : Bool) → m ≡ is_overrideable (letter_at own (at + d)) → level own false (l - 1 - d) m (at + 1 + d) stop ≡ Accepted
        → level own false (l - 1) (is_overrideable (letter_at own at)) (at + 1) stop ≡ Accepted
    nest-rest m q v = go d refl
      where
        go : (k : ℕ) → d ≡ k → level own false (l - 1) (is_overrideable (letter_at own at)) (at + 1) stop ≡ Accepted
        go zero z =
            let x : l - 1 - d ≡ l - 1 = omega arith in
            let y : at + d ≡ at = omega arith in
            let w : at + 1 + d ≡ at + 1 = omega arith in
            rw (q, x, y, w) at v
        go (suc k) z =
            let y : at + 1 + d - 1 ≡ at + d = omega arith in
            (around (omega arith)).leaves ∙ rw (y, ← q) v

    -- a plain primitive, or nothing, is accepted
    pub nest-plain : plain_at plain_table own (at + 1 + d) ≡ stop - (at + 1 + d)
        → level own false (l - 1) (is_overrideable (letter_at own at)) (at + 1) stop ≡ Accepted
    nest-plain q = nest-rest (is_overrideable (letter_at own (at + d))) refl (all_plain (stop - (at + 1 + d)) refl)
      where
        all_plain : (k : ℕ) → stop - (at + 1 + d) ≡ k → level own false (l - 1 - d) (is_overrideable (letter_at own (at + d))) (at + 1 + d) stop ≡ Accepted
        all_plain zero z = let y : at + 1 + d ≡ stop = omega (arith, nest-fits) in rw y (level-end own false (l - 1 - d) _ stop)
        all_plain (suc k) z =
            let y : at + 1 + d + (stop - (at + 1 + d)) ≡ stop = omega (arith, nest-fits) in
            plain-level own (l - 1 - d) stop long _ (at + 1 + d) (stop - (at + 1 + d)) stop q (omega arith) (omega arith)
            (clear-less own at stop (at + 1 + d) stop R.clear (omega arith) (omega arith)) (omega arith)
            ∙ rw y (level-end own false (l - 1 - d) false stop)

-- a group of so many units
module _ (f : Form) (tables : Tables) (s : List ℕ) (at size clean units stop : ℕ) (e : stop ≡ min clean units) (is-u : units ≡ length s / (domain f).unit)
    (here : at < stop) (h : size ≤ stop - at) (p : 0 < size) where
  pub group-reach : Reach f s at (at + size) × (at < at + size)
  group-reach = (record { order = omega arith; room = omega (arith, is-u, e, min-le_right clean units) }, omega arith)

  pub group-good : (r : Bool) → (Ready f tables s at (at + size) → group_at ((domain f).sextets s) at ≡ at + size - at → r ≡ true
      → level ((domain f).sextets s) false (max_depth - 1) (is_overrideable (letter_at ((domain f).sextets s) at)) (at + 1) (at + size) ≡ Accepted)
      → length s ≤ longest → Lent tables → Clear ((domain f).sextets s) at clean → group_at ((domain f).sextets s) at ≡ size → r ≡ true
      → Good (domain f) s at size
  group-good r v l L K q t =
      let R : Ready f tables s at (at + size) = record {
        few = l;
        lent = L;
        clear = clear-less ((domain f).sextets s) at clean at (at + size) K (omega arith) (omega (arith, e, min-le_left clean units));
      } in
      let I = inside group-reach.0 R in
      let z : size ≡ at + size - at = omega arith in
      let w = group-is-small ((domain f).sextets s) at size q p in
      taken-good f s at (at + size) size I
      (by-small f tables s max_depth at (at + size) I (omega arith) R true size false (sym w.1) w.0 p (omega arith) (omega arith) _ refl
      (v R (q ∙ z) t) p)
