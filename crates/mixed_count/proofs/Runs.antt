-- Items of one size that stand one behind the other: one, or small groups with one header. Assumes nothing.
use Prim.Native.Nat.{ℕ, zero, suc, ◌+◌, ◌-◌, ◌*◌, ◌/◌, ◌≤◌, ◌<◌, min}
use mathlib.Core.Path.{◌≡◌, refl, sym, ap, ◌∙◌}
use mathlib.Core.Bool.{Bool, true, false}
use mathlib.Core.List.{List}
use native.Mathlib.Omega.{arith}
use native.Mathlib.Nat.{mul_comm, mul_assoc, suc-mul, le-div_iff_mul-le, min-le_right}
use lib.ListN.{length, get_or, drop, length-drop}
use lib.Seq.{get_or-drop}
use borrow.Author.Tests.{eqb-true}
use Rattle.base.specs.Pick.{pick}
use Rattle.format.specs.declared.Form.{Form}
use Rattle.format.specs.declared.Form.TheVariants.{Text, Binary}
use Rattle.format.specs.declared.Kind.{Kind}
use Rattle.format.specs.declared.Kind.TheVariants.{Group}
use Rattle.format.specs.declared.Framed.{Framed}
use Rattle.format.specs.declared.Framed.TheVariants.{Item, Unframed}
use Rattle.format.specs.Units.{domain}
use Rattle.format.specs.Framing.{frame_ruled, scale}
use Rattle.format.specs.Report.{frame_in}
use Rattle.damage.specs.Words.{Agree}
use Rattle.laws.specs.Domains.{reader}
use Rattle.runs.specs.Plain.{letter_at}
use Rattle.runs.specs.Levels.{Clear, small-drop}
use Rattle.runs.specs.Runs.{Run}
use Rattle.report_followers.specs.Followers.{same, same_two, same_unit, like_in}
use Rattle.report_followers.proofs.Laws.{picked}
use Rattle.report_sizes.specs.Sizes as S
use Rattle.mixed.specs.declared.Start.TheVariants.{Cesr}
use Rattle.mixed.specs.Mixed.{start_at, frame_mixed}
use Rattle.mixed_laws.specs.Frames.{frames-mixed, cesr-frame}
use Rattle.mixed_count.specs.Sizes.{size_of, Alike}

-- ---- one

pub one : (part : List ℕ) (n : ℕ) → n ≡ size_of (frame_mixed part) → Alike part n 0
one part n e = record { each = λ i h. first i (omega arith) }
  where
    first : (i : ℕ) → i ≡ 0 → n ≡ size_of (frame_mixed (drop (i * n) part))
    first i z = let y : 0 * n ≡ 0 = omega arith in rw (z, y) e

scaled-size : (u : ℕ) (f : Framed) → size_of (scale u f) ≡ S.size_of f * u
unfolding size_of S.size_of scale
scaled-size u (Item k h n) = refl
scaled-size u (Unframed m p) = omega arith

-- a CESR item
pub one-cesr : (f : Form) (part : List ℕ) (n : ℕ) → start_at part 0 ≡ Cesr f → n ≡ S.size_at (domain f) part 0 → Alike part (n * (domain f).unit) 0
unfolding frame_in
one-cesr f part n e q = one part (n * (domain f).unit) (rw q (sym sized))
  where
    sized : size_of (frame_mixed part) ≡ S.size_at (domain f) part 0 * (domain f).unit
    sized =
        let z : (domain f).unit * 0 ≡ 0 = omega arith in
        rw (cesr-frame part f e, z) (scaled-size (domain f).unit (frame_ruled ((domain f).sextets part)))

-- ---- small groups

both : (a b : Bool) → pick a b false ≡ true → (a ≡ true) × (b ≡ true)
both true b e = (refl, e)
both false b e = absurd (let y : ◌≡◌ {A = ℕ} 0 1 = cc in omega arith)

-- the same first unit, element by element
same_bytes : (f : Form) (s : List ℕ) (q : ℕ) → same_unit f s 0 q ≡ true → (j : ℕ) → j < (domain f).unit → get_or s (q + j) 0 ≡ get_or s j 0
unfolding same_unit
same_bytes Text s q e j l =
    let a = both (same_two s 0 q) (same_two s 2 (q + 2)) e in
    let b = both (same s 0 q) (same s 1 (q + 1)) a.0 in
    let c = both (same s 2 (q + 2)) (same s 3 (q + 2 + 1)) a.1 in
    by j l (eqb-true _ _ b.0) (eqb-true _ _ b.1) (eqb-true _ _ c.0) (eqb-true _ _ c.1)
  where
    by : (j : ℕ) → j < 4 → get_or s 0 0 ≡ get_or s q 0 → get_or s 1 0 ≡ get_or s (q + 1) 0 → get_or s 2 0 ≡ get_or s (q + 2) 0
        → get_or s 3 0 ≡ get_or s (q + 2 + 1) 0 → get_or s (q + j) 0 ≡ get_or s j 0
    by zero l w x y z = let v : q + 0 ≡ q = omega arith in rw v (sym w)
    by (suc zero) l w x y z = sym x
    by (suc (suc zero)) l w x y z = sym y
    by (suc (suc (suc zero))) l w x y z = let v : q + 2 + 1 ≡ q + 3 = omega arith in rw v at (sym z)
    by (suc (suc (suc (suc j)))) l w x y z = absurd (omega arith)
same_bytes Binary s q e j l =
    let a = both (same_two s 0 q) (same s 2 (q + 2)) e in
    let b = both (same s 0 q) (same s 1 (q + 1)) a.0 in
    by j l (eqb-true _ _ b.0) (eqb-true _ _ b.1) (eqb-true _ _ a.1)
  where
    by : (j : ℕ) → j < 3 → get_or s 0 0 ≡ get_or s q 0 → get_or s 1 0 ≡ get_or s (q + 1) 0 → get_or s 2 0 ≡ get_or s (q + 2) 0 → get_or s (q + j) 0 ≡ get_or s j 0
    by zero l w x y = let v : q + 0 ≡ q = omega arith in rw v (sym w)
    by (suc zero) l w x y = sym x
    by (suc (suc zero)) l w x y = sym y
    by (suc (suc (suc j))) l w x y = absurd (omega arith)

-- a group at a part's start, and r with its header behind it
module _ (f : Form) (part : List ℕ) (clean g r : ℕ) (e : start_at part 0 ≡ Cesr f) (K : Clear ((domain f).sextets part) 0 clean) (p : 0 < g)
    (G : S.Grouped (domain f) part clean 0 g) (R : Run (like_in f part true 0 g) g (min clean (length part / (domain f).unit)) (0 + g) r) where
  abbrev u : ℕ
  u = (domain f).unit

  framed : frame_mixed part ≡ Item (Group (letter_at ((domain f).sextets part) 0)) (1 * u) (g * u)
  unfolding frame_in scale
  framed =
      let w = G p in
      let z : 4 * 0 ≡ 0 = omega arith in
      let i = rw z at (small-drop ((domain f).sextets part) 0 clean K w.1 g w.0 p (rw ((reader f).units part) w.2)) in
      cesr-frame part f e ∙ ap (scale u) i

  -- the place of the one behind i others, in elements
  place : (i : ℕ) → u * (0 + g + i * g) ≡ suc i * (g * u)
  place i =
      let z : 0 + g + i * g ≡ suc i * g = omega (arith, suc-mul i g) in
      rw z (mul_comm u (suc i * g) ∙ mul_assoc (suc i) g u)

  agrees : (i : ℕ) → i < r → Agree (1 * u) part (drop (suc i * (g * u)) part)
  agrees i h j l =
      let z : u * 0 ≡ 0 = omega arith in
      let t : same_unit f part 0 (suc i * (g * u)) ≡ true = rw (z, place i) at (picked (same_unit f part (u * 0) (u * (0 + g + i * g))) g p (R.each i h).0) in
      get_or-drop (suc i * (g * u)) part j 0 ∙ same_bytes f part (suc i * (g * u)) t j (omega arith)

  room : (i : ℕ) → i < r → g * u ≤ length (drop (suc i * (g * u)) part)
  room i h =
      let y = min-le_right clean (length part / u) in
      let z : suc (suc i) * g ≤ length part / u = omega (arith, (R.each i h).1, suc-mul i g, suc-mul (suc i) g) in
      let w : suc (suc i) * g * u ≤ length part = (le-div_iff_mul-le (reader f).pos).0 z in
      let v : suc (suc i) * (g * u) ≤ length part = rw (mul_assoc (suc (suc i)) g u) at w in
      omega (arith, length-drop (suc i * (g * u)) part, suc-mul (suc i) (g * u))

  pub groups : Alike part (g * u) r
  unfolding size_of
  groups = record { each = sizes }
    where
      sizes : (i : ℕ) → i ≤ r → g * u ≡ size_of (frame_mixed (drop (i * (g * u)) part))
      sizes zero h = let z : 0 * (g * u) ≡ 0 = omega arith in rw (z, framed)
      sizes (suc i) h = rw (frames-mixed.alike part (drop (suc i * (g * u)) part) _ _ _ framed (agrees i (omega arith)) (room i (omega arith)))
