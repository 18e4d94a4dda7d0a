-- Items of one size and letter that follow one another; known characters of a text; and what its tables say. Assumes nothing.
use Prim.Native.Nat.{ℕ, zero, suc, ◌+◌, ◌-◌, ◌*◌, ◌/◌, ◌%◌, ◌≤◌, ◌<◌}
use Rattle.std.specs.Prelude.{◌≡◌, List, [], ◌∷◌, Bool, ltb, get_or, drop}
use Rattle.std.proofs.Math.Path.{refl}
use Rattle.std.proofs.Common.{ap, arith, suc-mul, get_or-drop}
use Rattle.std.proofs.Math.Bool.{true, false}
use Rattle.std.proofs.Math.Logic.{⊎_elim}
use Rattle.std.proofs.Math.Dec.{eqb}
use Rattle.std.proofs.Math.ListN.{length, get_or-eq_default}
use Rattle.std.proofs.lemmas.List.{length-map}
use borrow.Author.Tests.{lt-ltb, le-ltb}
use Rattle.base.specs.Pick.{pick}
use Rattle.base.specs.Cases.{lt-or-ge}
use Rattle.base.specs.Lists.{get_or-map-within}
use Rattle.format.specs.Alphabet.{sextet_of, sextet_table}
use Rattle.format.specs.Units.{text_sextets}
use Rattle.format.specs.Framing.{sextet}
use Rattle.format.specs.Registry.{is_group, is_indexed, is_overrideable}
use Rattle.format.specs.Conversion.{first_stranger}
use Rattle.runs.specs.Plain.{plain_table, row_of, limited, sized_of, plain_of, group_of, unit_by, sized_at, plain_at, group_at, letter_at, marks_at, nested, nested_at, class_of, class_table, char_group, group_by, class_by, counted, lettered, small_of, small_at, signed_at}
use Rattle.runs.specs.Tables.{value, dash, class-value}
use Rattle.runs.specs.Levels.{Clear}

-- ---- items of one size

-- r items of k units by a rule p, from a unit on, none of them past another
pub record Run (p : ℕ → ℕ) (k stop at r : ℕ) : Type 0 where
  pub some : 0 < k
  pub each : (j : ℕ) → j < r → (p (at + j * k) ≡ k) × (at + j * k + k ≤ stop)

pub run_fits : (p : ℕ → ℕ) (k stop at r : ℕ) → Run p k stop at r → 0 < r → at + r * k ≤ stop
run_fits p k stop at zero R q = absurd (omega arith)
run_fits p k stop at (suc r) R q = omega (arith, (R.each r (omega arith)).1, suc-mul r k)

pub run-moves : (p : ℕ → ℕ) (k stop at r : ℕ) → Run p k stop at r → 0 < r → 0 < r * k
run-moves p k stop at zero R q = absurd (omega arith)
run-moves p k stop at (suc r) R q = omega (arith, R.some, suc-mul r k)

-- no more items than units
pub run-many : (p : ℕ → ℕ) (k stop at r : ℕ) → Run p k stop at r → r ≤ r * k
run-many p k stop at r R = le-of-one k r R.some
  where
    le-of-one : (k r : ℕ) → 0 < k → r ≤ r * k
    le-of-one k zero p = omega arith
    le-of-one k (suc r) p = omega (arith, suc-mul r k, le-of-one k r p)

pub run_none : (p : ℕ → ℕ) (k stop at : ℕ) → 0 < k → Run p k stop at 0
run_none p k stop at q = record { some = q; each = λ j h. absurd (omega arith) }

pub run_more : (p : ℕ → ℕ) (k stop at r : ℕ) → Run p k stop at r → p (at + r * k) ≡ k → at + r * k + k ≤ stop → Run p k stop at (r + 1)
run_more p k stop at r R e h = record { some = R.some; each = λ j q. ⊎_elim (R.each j) (λ g. last j (omega arith)) (lt-or-ge j r) }
  where
    last : (j : ℕ) → j ≡ r → (p (at + j * k) ≡ k) × (at + j * k + k ≤ stop)
    last j z = rw z (e, h)

-- ---- by the letter of a one-letter code

module _ (s : List ℕ) (i a : ℕ) (h : i < length s / 4) (e : sextet s (4 * i) ≡ a) (l : a < 52) where
  pub sized-by-letter : (m : ℕ) → row_of plain_table 0 a % 64 ≡ m → sized_at plain_table s i ≡ m
  unfolding unit_by sized_of
  sized-by-letter m q = rw (lt-ltb i (length s / 4) h, e, lt-ltb a 52 l) q

  pub plain-by-letter : (m : ℕ) → row_of plain_table 0 a % 64 ≡ m → sextet s (4 * i + 1) < row_of plain_table 0 a / 64 → plain_at plain_table s i ≡ m
  unfolding unit_by plain_of limited
  plain-by-letter m q r = rw (lt-ltb i (length s / 4) h, e, lt-ltb a 52 l, lt-ltb _ _ r) q

-- ---- known characters

known-before : (c : List ℕ) (i : ℕ) → i < first_stranger c → sextet_of (get_or c i 0) < 64
unfolding first_stranger
known-before [] i h = absurd (omega arith)
known-before (x ∷ c) zero h = ⊎_elim (λ l. l) (λ g. absurd (omega (arith, rw (le-ltb (sextet_of x) 64 g) at h))) (lt-or-ge (sextet_of x) 64)
known-before (x ∷ c) (suc i) h =
    ⊎_elim (λ l. known-before c i (omega (arith, rw (lt-ltb (sextet_of x) 64 l) at h)))
    (λ g. absurd (omega (arith, rw (le-ltb (sextet_of x) 64 g) at h)))
    (lt-or-ge (sextet_of x) 64)

pub text-sextet : (s : List ℕ) (i : ℕ) → i < length s → sextet (text_sextets s) i ≡ sextet_of (get_or s i 0)
unfolding text_sextets
text-sextet s i h = get_or-map-within sextet_of s i 0 0 h

pub text-long : (s : List ℕ) → length (text_sextets s) ≡ length s
unfolding text_sextets
text-long s = length-map s sextet_of

-- up to the first stranger from a unit on
pub clear-from : (s : List ℕ) (at : ℕ) → Clear (text_sextets s) at (at + first_stranger (drop (4 * at) s) / 4)
clear-from s at i p q = ⊎_elim inside past (lt-or-ge i (length s))
  where
    past : length s ≤ i → sextet (text_sextets s) i < 64
    past h = rw (get_or-eq_default (text_sextets s) 0 {n = i} (omega (arith, text-long s))) (omega arith)

    inside : i < length s → sextet (text_sextets s) i < 64
    inside h =
        let t = known-before (drop (4 * at) s) (i - 4 * at) (omega arith) in
        let z : 4 * at + (i - 4 * at) ≡ i = omega arith in
        rw (text-sextet s i h) (rw (get_or-drop (4 * at) s (i - 4 * at) 0, z) at t)

-- ---- a text's small groups, by its characters

open-class : (g o v : Bool) (n : ℕ) → pick (ltb 1 (pick g (pick o 2 (pick v 1 0)) 3)) 0 n ≡ pick g (pick o 0 n) 0
open-class true true v n = refl
open-class true false true n = refl
open-class true false false n = refl
open-class false o v n = refl

small-class : (g o v : Bool) (n : ℕ) → pick (ltb 2 (pick g (pick o 2 (pick v 1 0)) 3)) 0 n ≡ pick g n 0
small-class true true v n = refl
small-class true false true n = refl
small-class true false false n = refl
small-class false o v n = refl

-- what the letters up to a class are, for a rule of sextets
record Reads (last : ℕ) (rule : ℕ → ℕ → ℕ → ℕ → ℕ) : Type 0 where
  each : (w x y z : ℕ) → w < 256 → x < 256 → y < 256 → z < 256
      → char_group sextet_table class_table last w x y z ≡ rule (sextet_of w) (sextet_of x) (sextet_of y) (sextet_of z)

reads-group : Reads 1 group_of
unfolding char_group group_of class_of
reads-group = record {
  each = λ w x y z hw hx hy hz.
      rw (dash w hw, class-value x hx, value y hy, value z hz)
      (ap (λ (n : ℕ). pick (eqb (sextet_of w) 62) n 0)
      (open-class (is_group (sextet_of x)) (is_indexed (sextet_of x)) (is_overrideable (sextet_of x)) (counted (sextet_of y) (sextet_of z))));
}

reads-small : Reads 2 small_of
unfolding char_group small_of lettered class_of
reads-small = record {
  each = λ w x y z hw hx hy hz.
      rw (dash w hw, class-value x hx, value y hy, value z hz)
      (ap (λ (n : ℕ). pick (eqb (sextet_of w) 62) n 0)
      (small-class (is_group (sextet_of x)) (is_indexed (sextet_of x)) (is_overrideable (sextet_of x)) (counted (sextet_of y) (sextet_of z))));
}

module _ (s : List ℕ) (b : (i : ℕ) → get_or s i 0 < 256) where
  by-class : (last : ℕ) (rule : ℕ → ℕ → ℕ → ℕ → ℕ) → Reads last rule → (at : ℕ)
      → group_by sextet_table class_table last s at ≡ unit_by rule (text_sextets s) at
  unfolding unit_by
  by-class last rule R at = ⊎_elim inside past (lt-or-ge at (length s / 4))
    where
      inside : at < length s / 4 → group_by sextet_table class_table last s at ≡ unit_by rule (text_sextets s) at
      inside h =
          rw (
            text-long s,
            lt-ltb at (length s / 4) h,
            text-sextet s (4 * at) (omega arith),
            text-sextet s (4 * at + 1) (omega arith),
            text-sextet s (4 * at + 2) (omega arith),
            text-sextet s (4 * at + 3) (omega arith),
          ) (R.each _ _ _ _ (b _) (b _) (b _) (b _))

      past : length s / 4 ≤ at → group_by sextet_table class_table last s at ≡ unit_by rule (text_sextets s) at
      past h = rw (text-long s, le-ltb at (length s / 4) h)

  group-by : (at : ℕ) → group_by sextet_table class_table 1 s at ≡ group_at (text_sextets s) at
  group-by at = by-class 1 group_of reads-group at

  pub small_by_lem : (at : ℕ) → group_by sextet_table class_table 2 s at ≡ small_at (text_sextets s) at
  small_by_lem at = by-class 2 small_of reads-small at

  nested-alike : (g f : ℕ → ℕ) → ((i : ℕ) → g i ≡ f i) → (stop n at : ℕ) → nested g stop n at ≡ nested f stop n at
  unfolding nested
  nested-alike g f e stop zero at = refl
  nested-alike g f e stop (suc n) at = rw (e at, nested-alike g f e stop n (at + 1))

  pub nested-by : (stop n at : ℕ) → nested (group_by sextet_table class_table 1 s) stop n at ≡ nested (group_at (text_sextets s)) stop n at
  nested-by stop n at = nested-alike (group_by sextet_table class_table 1 s) (group_at (text_sextets s)) group-by stop n at

  -- 7 is asked as the letter says
  pub marks-by : (at n : ℕ) → group_at (text_sextets s) at ≡ n → 0 < n → class_by class_table 1 s at ≡ is_overrideable (letter_at (text_sextets s) at)
  unfolding class_by unit_by group_of class_of
  marks-by at n e p = ⊎_elim inside past (lt-or-ge at (length s / 4))
    where
      asked : (a g o v : Bool) (m : ℕ) → pick a (pick g (pick o 0 m) 0) 0 ≡ n → eqb (pick g (pick o 2 (pick v 1 0)) 3) 1 ≡ v
      asked true true false true m q = refl
      asked true true false false m q = refl
      asked true true true v m q = absurd (omega arith)
      asked true false o v m q = absurd (omega arith)
      asked false g o v m q = absurd (omega arith)

      inside : at < length s / 4 → class_by class_table 1 s at ≡ is_overrideable (letter_at (text_sextets s) at)
      inside h =
          let t = text-sextet s (4 * at + 1) (omega arith) in
          rw (lt-ltb at (length s / 4) h, t, class-value _ (b (4 * at + 1)))
          (asked (eqb (sextet (text_sextets s) (4 * at)) 62) (is_group (sextet_of (get_or s (4 * at + 1) 0))) (is_indexed (sextet_of (get_or s (4 * at + 1) 0)))
          (is_overrideable (sextet_of (get_or s (4 * at + 1) 0))) _ (rw (text-long s, lt-ltb at (length s / 4) h, t) at e))

      past : length s / 4 ≤ at → class_by class_table 1 s at ≡ is_overrideable (letter_at (text_sextets s) at)
      past h = absurd (omega (arith, rw (text-long s, le-ltb at (length s / 4) h) at e))

  -- and the indexed table frames its items as the letter says
  pub signed_by : (at n : ℕ) → small_at (text_sextets s) at ≡ n → 0 < n → class_by class_table 2 s at ≡ is_indexed (letter_at (text_sextets s) at)
  unfolding class_by unit_by small_of lettered class_of
  signed_by at n e p = ⊎_elim inside past (lt-or-ge at (length s / 4))
    where
      asked : (a g o v : Bool) (m : ℕ) → pick a (pick g m 0) 0 ≡ n → eqb (pick g (pick o 2 (pick v 1 0)) 3) 2 ≡ o
      asked true true true v m q = refl
      asked true true false true m q = refl
      asked true true false false m q = refl
      asked true false o v m q = absurd (omega arith)
      asked false g o v m q = absurd (omega arith)

      inside : at < length s / 4 → class_by class_table 2 s at ≡ is_indexed (letter_at (text_sextets s) at)
      inside h =
          let t = text-sextet s (4 * at + 1) (omega arith) in
          rw (lt-ltb at (length s / 4) h, t, class-value _ (b (4 * at + 1)))
          (asked (eqb (sextet (text_sextets s) (4 * at)) 62) (is_group (sextet_of (get_or s (4 * at + 1) 0))) (is_indexed (sextet_of (get_or s (4 * at + 1) 0)))
          (is_overrideable (sextet_of (get_or s (4 * at + 1) 0))) _ (rw (text-long s, lt-ltb at (length s / 4) h, t) at e))

      past : length s / 4 ≤ at → class_by class_table 2 s at ≡ is_indexed (letter_at (text_sextets s) at)
      past h = absurd (omega (arith, rw (text-long s, le-ltb at (length s / 4) h) at e))

-- ---- either form

pub marks-at : (s : List ℕ) (at : ℕ) → at < length s / 4 → marks_at s at ≡ is_overrideable (letter_at s at)
unfolding marks_at
marks-at s at h = rw (lt-ltb at (length s / 4) h)

pub signed-at : (s : List ℕ) (at : ℕ) → at < length s / 4 → signed_at s at ≡ is_indexed (letter_at s at)
unfolding signed_at
signed-at s at h = rw (lt-ltb at (length s / 4) h)

pub nested_is : (g : ℕ → ℕ) (units stop n at : ℕ) → stop ≤ units → nested_at g units stop n at ≡ nested g stop n at
unfolding nested_at
nested_is g units stop n at h = rw (le-ltb units stop h)
