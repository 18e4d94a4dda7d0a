-- Laws of the bytes of an expectation file and of a report, one for each way through the code. Assumes nothing.
use Prim.Native.Nat.{ℕ, zero, suc, ◌+◌, ◌-◌, ◌*◌, ◌≤◌, ◌<◌}
use mathlib.Core.Path.{◌≡◌, refl, ap, ◌∙◌}
use mathlib.Core.List.{List, [], ◌∷◌}
use native.Mathlib.Omega.{arith}
use native.Mathlib.Nat.{mul-le-mul_right}
use lib.ListN.{length, get_or, take, drop, length-drop}
use lib.Dec.{ltb}
use lib.Seq.{drop-drop, get_or-take, get_or-drop}
use borrow.Author.Tests.{lt-ltb, le-ltb}
use Rattle.base.specs.Each.{take4}
use Rattle.base.specs.Digits.{number_of}
use Rattle.base.specs.Pick.{pick}
use Rattle.laws.specs.Levels.{take-of-drop}
use Rattle.std.specs.Prelude.{None, Some, Option}
use Rattle.expectation.specs.declared.Section.{Section}
use Rattle.expectation.specs.declared.Verdicts as V
use Rattle.expectation.specs.Expectation.{rows, count_at, section_of, malformed, verdicts, ending, column}
use Rattle.expectation.specs.Expectation.{expected_by, expected, behind_items, reported_by, reported}
use Rattle.expectation.specs.Bytes.{At, EndAt, Says}

-- ---- a section

pub count-is : (s : List ℕ) (at n : ℕ) → at + 4 ≤ length s
    → (n ≡ number_of 256 (get_or s at 0 ∷ get_or s (at + 1) 0 ∷ get_or s (at + 2) 0 ∷ get_or s (at + 3) 0 ∷ [])) × (n < 4294967296)
    → (n ≡ count_at (drop at s)) × (n < 4294967296)
count-is s at n h p = (rw (take4 s at h) p.0, p.1)

pub size_few : (width n : ℕ) → width ≤ 9 → n < 4294967296 → width * n < 38654705664
size_few width n h l = omega (arith, mul-le-mul_right n h)

module _ (s : List ℕ) (from width : ℕ) where
  pub no-count : length s - from < 4 → At s from width None
  unfolding section_of
  no-count h = rw (lt-ltb (length (drop from s)) 4 (omega (arith, length-drop from s)))

  module _ (n : ℕ) (e : (n ≡ count_at (drop from s)) × (n < 4294967296)) (h : 4 ≤ length s - from) where
    behind : drop 4 (drop from s) ≡ drop (from + 4) s
    behind = drop-drop 4 from s

    pub too_short : length s - from - 4 < width * n → At s from width None
    unfolding section_of
    too_short l =
        rw (
          le-ltb (length (drop from s)) 4 (omega (arith, length-drop from s)),
          ← e.0,
          behind,
          lt-ltb (length (drop (from + 4) s)) (width * n) (omega (arith, length-drop (from + 4) s)),
        )

    pub section-is : width * n ≤ length s - from - 4 → At s from width (Some (record { count = n; end = from + 4 + width * n }))
    unfolding section_of
    section-is l = (
      refl,
      omega arith,
      e.1,
      rw (
        le-ltb (length (drop from s)) 4 (omega (arith, length-drop from s)),
        ← e.0,
        behind,
        le-ltb (length (drop (from + 4) s)) (width * n) (omega (arith, length-drop (from + 4) s)),
        drop-drop (width * n) (from + 4) s,
      ),
    )

-- ---- the last section

rest_some : (s : List ℕ) (width j n : ℕ) (vs xs : List ℕ) → 0 < length s → ending width j vs (rows n xs s) ≡ malformed
unfolding ending
rest_some [] width j n vs xs h = absurd (omega arith)
rest_some (x ∷ s) width j n vs xs h = refl

rest-none : (s : List ℕ) (width j n : ℕ) (vs xs : List ℕ) → length s ≡ 0
    → ending width j vs (rows n xs s) ≡ pick (ltb 1 n) malformed (verdicts vs (column width j n xs))
unfolding ending
rest-none [] width j n vs xs h = refl
rest-none (x ∷ s) width j n vs xs h = absurd (omega arith)

module _ (s : List ℕ) (from width items : ℕ) where
  pub end_short : At s from width None → EndAt s from width items None
  unfolding ending
  end_short a vs j e = rw a

  module _ (r : Section) (at : At s from width (Some r)) where
    pub bytes_left : (r.end ≡ length s → ⊥) → EndAt s from width items None
    bytes_left ne vs j e =
        rw at.3 (rest_some (drop r.end s) width j r.count vs _ (omega (arith, length-drop r.end s, at.1)))

    pub too_many : r.end ≡ length s → 1 < r.count → EndAt s from width items None
    too_many e l vs j w = rw (at.3, rest-none (drop r.end s) width j r.count vs _ (omega (arith, length-drop r.end s)), lt-ltb 1 r.count l)

    pub none_left : r.end ≡ length s → r.count ≡ 0 → EndAt s from width items (Some (record { items = items; remainder = None }))
    unfolding column
    none_left e z = (refl, λ vs j w. rw (at.3, rest-none (drop r.end s) width j r.count vs _ (omega (arith, length-drop r.end s)), z))

    pub one_left : r.end ≡ length s → r.count ≤ 1 → (r.count ≡ 0 → ⊥)
        → EndAt s from width items (Some (record { items = items; remainder = Some (get_or s (r.end - 1) 0) }))
    unfolding column
    one_left e few some = (
      refl,
      λ vs j w.
          let z : r.count ≡ 1 = omega arith in
          let size : width * 1 ≡ width = omega arith in
          let place : from + 4 + j ≡ r.end - 1 = omega (arith, at.0, ap (λ (k : ℕ). width * k) z) in
          let byte : get_or (take (width * 1) (drop (from + 4) s)) j 0 ≡ get_or s (r.end - 1) 0 =
          get_or-take (width * 1) (drop (from + 4) s) j 0 (omega arith) ∙ get_or-drop (from + 4) s j 0 ∙ ap (λ (k : ℕ). get_or s k 0) place in
          rw (at.3, rest-none (drop r.end s) width j r.count vs _ (omega (arith, length-drop r.end s)), z, byte),
    )

-- ---- columns

column-front : (w j n : ℕ) (xs : List ℕ) → j < w → column w j n (take (w * n) xs) ≡ column w j n xs
unfolding column
column-front w j zero xs h = refl
column-front w j (suc n) xs h =
    let z : w * suc n ≡ w + w * n = omega arith in
    rw (z, ← (take-of-drop (w * n) w xs), get_or-take (w + w * n) xs j 0 (omega arith), column-front w j n (drop w xs) h)

-- ---- an expectation file

module _ (s : List ℕ) where
  pub file-short : At s 0 1 None → Says (expected s) s 1 0 None
  unfolding expected expected_by
  file-short a = rw a

  pub file-says : (t : Section) → At s 0 1 (Some t) → (r : Option V.Verdicts) → EndAt s t.end 1 t.count r → Says (expected s) s 1 0 r
  unfolding expected expected_by
  file-says t a None b = rw a.3 (b _ 0 refl)
  file-says t a (Some v) b =
      let z : v.items ≡ t.count = b.0 in
      rw z (omega (arith, a.0, a.1), rw (a.3, b.1 _ 0 refl, column-front 1 0 t.count (drop 4 s) (omega arith)))

-- ---- a report

module _ (s : List ℕ) where
  pub items-short : At s 0 9 None → Says (reported s) s 9 8 None
  unfolding reported reported_by
  items-short a = rw a

  module _ (t : Section) (a : At s 0 9 (Some t)) where
    pub refusals-short : At s t.end 9 None → Says (reported s) s 9 8 None
    unfolding reported reported_by behind_items
    refusals-short b = rw (a.3, b)

    pub report-says : (u : Section) → At s t.end 9 (Some u) → (r : Option V.Verdicts) → EndAt s u.end 5 t.count r → Says (reported s) s 9 8 r
    unfolding reported reported_by behind_items
    report-says u b None c = rw (a.3, b.3) (c _ 4 refl)
    report-says u b (Some v) c =
        let z : v.items ≡ t.count = c.0 in
        rw z (
          omega (arith, a.0, a.1),
          rw (a.3, b.3, c.1 _ 4 refl, column-front 9 8 t.count (drop 4 s) (omega arith)),
        )
