-- Items counted, a step at a time. Assumes nothing.
use Prim.Native.Nat.{ℕ, zero, suc, ◌+◌, ◌-◌, ◌*◌, ◌/◌, ◌^◌, ◌≤◌, ◌<◌, min}
use mathlib.Core.Path.{◌≡◌, refl, sym, ap, ◌∙◌}
use mathlib.Core.Bool.{true}
use mathlib.Core.List.{List}
use native.Mathlib.Omega.{arith}
use native.Mathlib.Nat.{pos_of_ne-zero, add-mul, mul_assoc, suc-mul, mul-le-mul_left, le-div_iff_mul-le}
use mir.Syntax.{w64}
use mir.Val as val
use lib.ListN.{length, take, drop, length-drop, drop_of_length-le}
use lib.Seq.{drop-drop}
use Rattle.format.specs.declared.Form.{Form}
use Rattle.format.specs.declared.Kind.{Kind}
use Rattle.format.specs.declared.Framed.{Framed}
use Rattle.format.specs.declared.Framed.TheVariants.{Item, Unframed}
use Rattle.format.specs.Units.{domain}
use Rattle.format.specs.Report.{ItemRow, rows, rows_of}
use Rattle.damage.proofs.Cuts as C
use Rattle.damage.proofs.Damage as D
use Rattle.laws.specs.Domains.{reader}
use Rattle.runs.specs.Levels.{Clear}
use Rattle.judging.proofs.Laws.{to_end}
use Rattle.runs_tables.specs.declared.Tables.{Tables}
use Rattle.runs_tables.specs.Lent.{Lent}
use Rattle.report_followers.specs.Followers.{Followers}
use Rattle.report_sizes.specs.Sizes as S
use Rattle.mixed.specs.declared.Start.{Start}
use Rattle.mixed.specs.declared.Start.TheVariants.{Cesr}
use Rattle.mixed.specs.Mixed.{start_at, frame_mixed, judge_mixed, rows_mixed}
use Rattle.mixed_laws.specs.Frames.{frames-mixed}
use Rattle.mixed_known.specs.Known.{Known, known_on}
use Rattle.mixed_fast.proofs.Laws.{starts-here}
use Rattle.mixed_count.specs.Sizes.{size_of, Alike, Begun, NextBy, Next, Total}
use Rattle.mixed_count.proofs.Runs.{one, one-cesr, groups}

-- ---- a size by the general way

module _ (s : List ℕ) (at : ℕ) (g : Framed) (e : g ≡ frame_mixed (take (length s - at) (drop at s))) where
  pub size-item : (k : Kind) (h n : ℕ) → g ≡ Item k h n → n ≡ size_of (frame_mixed (drop at s))
  unfolding size_of
  size-item k h n q = rw (sym (rw (to_end s at) at e) ∙ q)

  pub size_none : (m p : ℕ) → g ≡ Unframed m p → 0 ≡ size_of (frame_mixed (drop at s))
  unfolding size_of
  size_none m p q = rw (sym (rw (to_end s at) at e) ∙ q)

size-within : (s : List ℕ) (at : ℕ) (f : Framed) → frame_mixed (drop at s) ≡ f → at ≤ length s → at + size_of f ≤ length s
unfolding size_of
size-within s at (Item k h n) e l = let w = frames-mixed.within (drop at s) k h n e in omega (arith, w.2, length-drop at s)
size-within s at (Unframed m p) e l = omega arith

pub by_general : (tables : Tables) (s : List ℕ) (at to r : ℕ) → r ≡ size_of (frame_mixed (drop at s)) → at ≤ length s → Next tables s at to r 0
by_general tables s at to r e l = record {
  within = let z : r + 0 * r ≡ r = omega arith in rw (z, e) (size-within s at (frame_mixed (drop at s)) refl l);
  right = λ L K. one (drop at s) r e;
}

-- ---- CESR items

module _ (f : Form) (tables : Tables) (part : List ℕ) (clean n : ℕ) where
  pub by-header : (n ≤ length part / (domain f).unit - 0) × (Lent tables → S.Grouped (domain f) part clean 0 n) → (m : ℕ)
      → Followers f part true clean 0 n m → 0 < n → Begun f tables part clean n m
  by-header G m F p =
      record { within = omega (arith, F.few, G.0); right = λ L K e. groups f part clean n m e K p (G.1 L) (F.run p) }

  pub by_size : (n ≤ length part / (domain f).unit - 0)
      × (Lent tables → Clear ((domain f).sextets part) 0 clean → n ≡ S.size_at (domain f) part 0) → Begun f tables part clean n 0
  by_size v = record { within = omega (arith, v.0); right = λ L K e. one-cesr f part n e (v.1 L K) }

-- in bytes
module _ (f : Form) (tables : Tables) (s : List ℕ) (at to clean n m u : ℕ) (q : u ≡ (domain f).unit)
    (B : Begun f tables (take (length s - at) (drop at s)) clean n m) where
  own : Begun f tables (drop at s) clean n m
  own = rw (to_end s at) at B

  few_bytes : n * u + m * (n * u) ≤ length (drop at s)
  few_bytes =
      let z : (n + m * n) * u ≡ n * u + m * (n * u) = add-mul n (m * n) u ∙ ap (λ (j : ℕ). n * u + j) (mul_assoc m n u) in
      rw (← z, q) ((le-div_iff_mul-le (reader f).pos).0 own.within)

  pub bytes_fit : length s * 1 < 2 ^ 63 → val.Fits w64 (n * u)
  bytes_fit b = omega (arith, few_bytes, length-drop at s)

  pub in_bytes : (Known s at to → Clear ((domain f).sextets (drop at s)) 0 clean) → at ≤ length s → NextBy f tables s at to (n * u) m
  in_bytes k l = record {
    within = omega (arith, few_bytes, length-drop at s);
    right = λ L K e. rw q (own.right L (k K) (starts-here s at ∙ e));
  }

pub by_form : (tables : Tables) (s : List ℕ) (at to n m : ℕ) (t : Start) → t ≡ start_at s at → (f : Form) → t ≡ Cesr f → NextBy f tables s at to n m
    → Next tables s at to n m
by_form tables s at to n m t e f q N = record { within = N.within; right = λ L K. N.right L K (sym e ∙ q) }

-- ---- the count

-- the rows from an offset on
abbrev rows_at : List ℕ → ℕ → List ItemRow
rows_at s at = D.rows_from frame_mixed judge_mixed at (drop at s)

-- i items are counted, up to a byte
pub record Counted (tables : Tables) (s : List ℕ) (known to at i : ℕ) : Type 0 where
  pub within : at ≤ length s
  pub few : i ≤ at
  pub right : Lent tables → Known s 0 known → Known s at to × (length (rows_mixed s) ≡ i + length (rows_at s at))

pub counted_start : (tables : Tables) (s : List ℕ) (known : ℕ) → Counted tables s known known 0 0
unfolding rows
counted_start tables s known = record { within = omega arith; few = omega arith; right = λ L K. (K, omega arith) }

-- an item, or nothing
next_row : (s : List ℕ) (at : ℕ) (f : Framed) → frame_mixed (drop at s) ≡ f → (n : ℕ) → n ≡ size_of f → 0 < n
    → length (rows_at s at) ≡ suc (length (rows_at s (at + n)))
unfolding size_of
next_row s at (Unframed m p) e n q h = absurd (omega arith)
next_row s at (Item k h m) e n q p =
    let z : length (rows_at s at) ≡ suc (length (D.rows_from frame_mixed judge_mixed (at + m) (drop m (drop at s)))) =
    ap length (D.rows-item frame_mixed judge_mixed frames-mixed at (drop at s) e) in
    rw (q, ← (drop-drop m at s)) z

none_left : (s : List ℕ) (at : ℕ) (f : Framed) → frame_mixed (drop at s) ≡ f → size_of f ≡ 0 → at < length s → length (rows_at s at) ≡ 0
unfolding size_of rows_of
none_left s at (Item k h m) e q l = let w = frames-mixed.within (drop at s) k h m e in absurd (omega (arith, w.0, w.1, q))
none_left s at (Unframed m p) e q l = rw (C.cut-refused frame_mixed frames-mixed (drop at s) (omega (arith, length-drop at s)) e)

at-end : (s : List ℕ) (at : ℕ) → length s ≤ at → length (rows_at s at) ≡ 0
unfolding rows_of
at-end s at h = rw (drop_of_length-le s {i = at} h, C.cut-nil frame_mixed frames-mixed)

-- all items of a step
module _ (s : List ℕ) (at n m : ℕ) (A : Alike (drop at s) n m) where
  rows-past : 0 < n → (i : ℕ) → i ≤ m + 1 → length (rows_at s at) ≡ i + length (rows_at s (at + i * n))
  rows-past p zero h = let z : at + 0 * n ≡ at = omega arith in rw z (omega arith)
  rows-past p (suc i) h =
      let here : ℕ = at + i * n in
      let e : n ≡ size_of (frame_mixed (drop here s)) = A.each i (omega arith) ∙ ap (λ (l : List ℕ). size_of (frame_mixed l)) (drop-drop (i * n) at s) in
      let z : at + suc i * n ≡ here + n = omega (arith, suc-mul i n) in
      rw z (omega (arith, rows-past p i (omega arith), next_row s here _ refl n e p))

  step-rows : 0 < n → length (rows_at s at) ≡ 1 + m + length (rows_at s (at + (n + m * n)))
  step-rows p = let z : n + m * n ≡ (1 + m) * n = omega (arith, suc-mul m n) in rw z (rows-past p (1 + m) (omega arith))

  step-none : n ≡ 0 → size_of (frame_mixed (drop at s)) ≡ 0
  step-none z = let y : 0 * n ≡ 0 = omega arith in sym (rw y at (A.each 0 (omega arith))) ∙ z

module _ {tables : Tables} {s : List ℕ} {known to at i : ℕ} (K : Counted tables s known to at i) where
  pub counted-end : length s ≤ at → Total tables s known i
  counted-end h = record { few = omega (arith, K.few, K.within); right = λ L k. omega (arith, (K.right L k).1, at-end s at h) }

  -- a step, where characters are known up to another byte
  module _ {to' n m : ℕ} (k : Known s at to → Known s at to') (N : Next tables s at to' n m) where
    pub counted_stop : n ≡ 0 → at < length s → Total tables s known i
    counted_stop z l = record {
      few = omega (arith, K.few, K.within);
      right = λ L f.
          let r = K.right L f in
          omega (arith, r.1, none_left s at _ refl (step-none s at n m (N.right L (k r.0)) z) l);
    }

    more-few : (n ≡ 0 → ⊥) → m ≤ m * n
    more-few z = let y : m * 1 ≤ m * n = mul-le-mul_left m (pos_of_ne-zero z) in omega arith

    pub counted-more : (n ≡ 0 → ⊥) → Counted tables s known to' (at + (n + m * n)) (i + (1 + m))
    counted-more z = record {
      within = N.within;
      few = omega (arith, K.few, more-few z, pos_of_ne-zero z);
      right = λ L f.
          let r = K.right L f in (
            known_on s at to' (at + (n + m * n)) (omega arith) (k r.0),
            omega (arith, r.1, step-rows s at n m (N.right L (k r.0)) (pos_of_ne-zero z)),
          );
    }

    pub counted-less : (n ≡ 0 → ⊥) → length s - (at + (n + m * n)) < length s - at
    counted-less z = omega (arith, pos_of_ne-zero z, N.within)

    -- the sums fit
    pub more-fits : length s * 1 < 2 ^ 63 → val.Fits w64 (m * n)
    more-fits l = omega (arith, N.within)

    pub step_fits : length s * 1 < 2 ^ 63 → val.Fits w64 (n + m * n)
    step_fits l = omega (arith, N.within)

    pub at-fits : length s * 1 < 2 ^ 63 → val.Fits w64 (at + (n + m * n))
    at-fits l = omega (arith, N.within)

    pub items-fit : (n ≡ 0 → ⊥) → length s * 1 < 2 ^ 63 → val.Fits w64 (1 + m)
    items-fit z l = omega (arith, more-few z, pos_of_ne-zero z, N.within)

    pub i-fits : (n ≡ 0 → ⊥) → length s * 1 < 2 ^ 63 → val.Fits w64 (i + (1 + m))
    i-fits z l = omega (arith, K.few, more-few z, pos_of_ne-zero z, N.within)
