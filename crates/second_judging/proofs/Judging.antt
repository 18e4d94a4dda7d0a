-- Judging step by step: the tests one behind the other, and what each asks. Assumes nothing.
use mathlib.Core.Path.{◌≡◌, refl, sym, ap, ◌∙◌}
use mathlib.Core.Bool.{Bool, true, false, not, ◌&&◌, ◌||◌}
use mathlib.Core.List.{List, [], ◌∷◌}
use mathlib.Core.Logic.{⊎_elim}
use Prim.Native.Nat.{ℕ, zero, suc, ◌+◌, ◌-◌, ◌*◌, ◌/◌, ◌^◌, ◌<◌, ◌≤◌}
use native.Mathlib.Nat.{zero-div}
use native.Mathlib.Omega.{arith}
use lib.Dec.{eqb, ltb, leb}
use lib.ListN.{length, get_or, take, drop, length-drop}
use lib.Seq.{get_or-drop}
use borrow.Author.Tests.{lt-ltb, le-leb, eq-eqb, ne_eqb}
use Rattle.base.specs.Pick.{pick, pick-by}
use Rattle.base.specs.Cases.{lt-or-ge}
use Rattle.base.specs.Digits.{onward, number_of}
use Rattle.format.specs.declared.CodeRow.{CodeRow}
use Rattle.format.specs.declared.IndexRow.{IndexRow}
use Rattle.format.specs.declared.Verdict.{Verdict}
use Rattle.format.specs.declared.Verdict.TheVariants.{Accepted, Refused}
use Rattle.format.specs.Units.{text_sextets}
use Rattle.format.specs.Registry.{zero_bits_of, prepad_of, is_text}
use Rattle.format.specs.Framing.{sextet}
use Rattle.format.specs.Texts.{fills, fill_of, text_right, value_right}
use Rattle.format.specs.Values.{ondex_of}
use Rattle.format.specs.Judging.{and_then, unless, is_shortest, has_lead, behind, zero_bits, prepad_right, ondex_right, judge_kind}
use Rattle.second_characters.specs.Found.{First, Bad}
use Rattle.second_judging.specs.Kinds.{Behind, fixed_of, variable_of, indexed_of}
use Rattle.second_characters.proofs.Found.{text-past, text-length, behind-is}

apart : ◌≡◌ {A = Bool} false true → ⊥
apart e = let z : ◌≡◌ {A = ℕ} 0 1 = ap (λ (b : Bool). pick b 1 0) e in omega arith

-- ---- a test behind a verdict

pub unless-wrong : (v : Verdict) (n : ℕ) (b : Bool) → v ≡ Accepted → not b ≡ true → Refused n 0 ≡ and_then v (unless n b)
unfolding and_then unless
unless-wrong v n true e q = absurd (apart q)
unless-wrong v n false e q = rw e

pub unless-right : (v : Verdict) (n : ℕ) (b : Bool) → v ≡ Accepted → not b ≡ false → v ≡ and_then v (unless n b)
unfolding and_then unless
unless-right v n true e q = rw e
unless-right v n false e q = absurd (apart (sym q))

pub unless-stands : (v : Verdict) (n m p : ℕ) (b : Bool) → v ≡ Refused m p → v ≡ and_then v (unless n b)
unfolding and_then
unless-stands v n m p b e = rw e

then-assoc : (u v w : Verdict) → and_then (and_then u v) w ≡ and_then u (and_then v w)
unfolding and_then
then-assoc Accepted v w = refl
then-assoc (Refused m p) v w = refl

-- ---- the tests as format has them

shortest-is : (h n : ℕ) → eqb h 1 || leb 4096 n ≡ is_shortest h n
unfolding is_shortest
shortest-is h n = by (eqb h 1) (leb 4096 n)
  where
    by : (x y : Bool) → x || y ≡ pick x true y
    by true y = refl
    by false y = refl

-- a header of one unit
one : (h from : ℕ) → from ≡ 4 * h → eqb from 4 ≡ eqb h 1
one h from e =
    ⊎_elim (λ lt. rw (ne_eqb from 4 (λ q. omega arith), ne_eqb h 1 (λ q. omega arith)))
    (λ ge. ⊎_elim (λ lt. let z : h ≡ 1 = omega arith in rw (eq-eqb from 4 (omega arith), eq-eqb h 1 z))
    (λ more. rw (ne_eqb from 4 (λ q. omega arith), ne_eqb h 1 (λ q. omega arith))) (lt-or-ge h 2))
    (lt-or-ge h 1)

lead_is : (lead n : ℕ) → eqb lead 0 || ltb 0 n ≡ has_lead lead n
unfolding has_lead
lead_is zero n = refl
lead_is (suc lead) n = rw (lt-ltb 0 (suc lead) (omega arith), ne_eqb (suc lead) 0 (λ e. omega arith))

prepad-is : (s : List ℕ) (i prepad v : ℕ) → v ≡ sextet s i → eqb prepad 0 || eqb v 63 ≡ prepad_right s i prepad
unfolding prepad_right
prepad-is s i prepad v e = rw e (by (eqb prepad 0) (eqb (sextet s i) 63))
  where
    by : (x y : Bool) → x || y ≡ pick x true y
    by true y = refl
    by false y = refl

pub entered-is : (l h n : ℕ) (u v : Verdict) → u ≡ and_then Accepted (unless 11 (ltb l 64)) → v ≡ and_then u (unless 18 (eqb h 1 || leb 4096 n))
    → v ≡ and_then (unless 11 (ltb l 64)) (unless 18 (is_shortest h n))
unfolding and_then
entered-is l h n u v eu ev = ev ∙ rw (eu, shortest-is h n)

-- 5 or 19 behind the header
header : (h from : ℕ) (t : List ℕ) (v : Verdict) → Behind h from t → Bad (text_sextets t) from (length t) v → v ≡ behind h (text_sextets t)
header h from t v B bad = behind-is h t v (rw (← B.units) B.inside) (rw B.units at bad)

pub fixed-is : (c : CodeRow) (from : ℕ) (t : List ℕ) (v₀ : Verdict) → Bad (text_sextets t) from (length t) v₀
    → (i : ℕ) → i ≡ c.chars
    → (z : ℕ) → z ≡ zero_bits_of c → (b : Bool) → b ≡ zero_bits (text_sextets t) i z → (v₁ : Verdict) → v₁ ≡ and_then v₀ (unless 8 b)
    → (p : ℕ) → p ≡ prepad_of c → (x : ℕ) → x ≡ sextet (text_sextets t) i → (r : Verdict) → r ≡ and_then v₁ (unless 10 (eqb p 0 || eqb x 63))
    → (h : ℕ) → Behind h from t → r ≡ fixed_of c h (text_sextets t)
unfolding fixed_of judge_kind
fixed-is c from t v₀ bad i ei z ez b eb v₁ e₁ p ep x ex r er h B =
    er ∙ rw (e₁, header h from t v₀ B bad, then-assoc, eb, ez, ep, prepad-is (text_sextets t) i (prepad_of c) x ex, ei)

pub zero_is : (s : List ℕ) (i z a b c n m : ℕ) → a ≡ sextet s i → b ≡ sextet s (i + 1) → c ≡ sextet s (i + 2) → n ≡ ((0 * 64 + a) * 64 + b) * 64 + c
    → m ≡ 18 - z → eqb (n / 2 ^ m) 0 ≡ zero_bits s i z
unfolding zero_bits
zero_is s i z a b c n m ea eb ec en em =
    let q : n ≡ (sextet s i * 64 + sextet s (i + 1)) * 64 + sextet s (i + 2) = omega arith in
    rw (q, em)

-- past the end
pub zero-past : (t : List ℕ) (i z : ℕ) → length t ≤ i → leb (length t) i ≡ zero_bits (text_sextets t) i z
unfolding zero_bits
zero-past t i z l =
    rw (le-leb (length t) i l, ← text-past t i l, ← text-past t (i + 1) (omega arith), ← text-past t (i + 2) (omega arith), zero-div)

-- ---- 16: the `A` in front

or-false : (b : Bool) → b || false ≡ b
or-false true = refl
or-false false = refl

and-false : (b : Bool) → b && false ≡ false
and-false true = refl
and-false false = refl

fills-zero : (v : List ℕ) → fills 0 v ≡ true
unfolding fills
fills-zero v = refl

record Zeros (v : List ℕ) (f : ℕ) : Type 0 where
  few : f ≤ length v
  zeros : (k : ℕ) → k < f → get_or v k 0 < 1
  stops : f < length v → 1 ≤ get_or v f 0

zeros-drop : (v : List ℕ) (f m : ℕ) → m ≤ f → Zeros v f → Zeros (drop m v) (f - m)
zeros-drop v f m h w =
    let z : m + (f - m) ≡ f = omega arith in
    record {
      few = omega (arith, length-drop m v, w.few);
      zeros = λ k l. rw (get_or-drop m v k 0) (w.zeros (m + k) (omega arith));
      stops = λ l. rw (get_or-drop m v (f - m) 0, z) (w.stops (omega (arith, length-drop m v)));
    }

fills-yes : (n : ℕ) (v : List ℕ) → n ≤ length v → ((k : ℕ) → k < n → get_or v k 0 < 1) → fills n v ≡ true
unfolding fills
fills-yes zero v h f = refl
fills-yes (suc n) [] h f = absurd (omega arith)
fills-yes (suc n) (x ∷ v) h f =
    rw (eq-eqb x 0 (omega (arith, f 0 (omega arith)))) (fills-yes n v (omega arith) (λ k l. f (suc k) (omega arith)))

fills-no : (n : ℕ) (v : List ℕ) (f : ℕ) → f < n → (f < length v → 1 ≤ get_or v f 0) → fills n v ≡ false
unfolding fills
fills-no zero v f h g = absurd (omega arith)
fills-no (suc n) [] f h g = refl
fills-no (suc n) (x ∷ v) zero h g = rw (ne_eqb x 0 (λ e. omega (arith, g (omega arith))))
fills-no (suc n) (x ∷ v) (suc f) h g =
    pick-by (λ (b : Bool). b ≡ false) (eqb x 0) (fills n v) false (λ _. fills-no n v f (omega arith) (λ l. g (omega arith))) (λ _. refl)

module _ (v : List ℕ) (f : ℕ) (w : Zeros v f) where
  yes : (n : ℕ) → n ≤ f → fills n v ≡ true
  yes n h = fills-yes n v (omega (arith, w.few)) (λ k l. w.zeros k (omega arith))

  no : (n : ℕ) → f < n → fills n v ≡ false
  no n h = fills-no n v f h w.stops

  -- behind a fill of n no `A` stands exactly where there are just so many
  more : (n : ℕ) → n ≤ f → not (fills 1 (drop n v)) ≡ eqb f n
  more n h =
      ⊎_elim
      (λ lt. rw (fills-yes 1 (drop n v) (omega (arith, length-drop n v, w.few)) (λ k l. (zeros-drop v f n h w).zeros k (omega arith)), ne_eqb f n (λ e. omega arith)))
      (λ ge. rw (fills-no 1 (drop n v) (f - n) (omega arith) (zeros-drop v f n h w).stops, eq-eqb f n (omega arith)))
      (lt-or-ge n f)

  text-is : (lead : ℕ) → eqb f (lead + 1) || (eqb f 0 && eqb lead 0) ≡ text_right lead v
  unfolding text_right fill_of
  text-is zero =
      ⊎_elim
      (λ lt. let z : f ≡ 0 = omega arith in
      rw (no 1 (omega arith), fills-zero v) (rw (no 1 (omega arith), ne_eqb f (0 + 1) (λ e. omega arith), eq-eqb f 0 z)))
      (λ ge. rw (yes 1 ge) (rw (yes 1 ge, more 1 ge, ne_eqb f 0 (λ e. omega arith)) (or-false (eqb f 1))))
      (lt-or-ge f 1)
  text-is (suc lead) =
      rw (ne_eqb (suc lead) 0 (λ e. omega arith))
      (⊎_elim
      (λ lt. rw (no (suc lead + 1) lt, ne_eqb f (suc lead + 1) (λ e. omega arith)) (and-false (eqb f 0)))
      (λ ge. rw (yes (suc lead + 1) ge, more (suc lead + 1) ge) (ap (λ (b : Bool). eqb f (suc lead + 1) || b) (and-false (eqb f 0)) ∙ or-false (eqb f (suc lead + 1))))
      (lt-or-ge f (suc lead + 1)))

-- a value of a type, behind a header of h units
pub value-is : (letter lead h : ℕ) (t : List ℕ) (p : ℕ) → 4 * h ≤ length t → First (text_sextets t) (4 * h) (length t) 1 p
    → (not (eqb letter 0) || eqb (p - 4 * h) (lead + 1)) || (eqb (p - 4 * h) 0 && eqb lead 0) ≡ value_right letter lead (drop (4 * h) (text_sextets t))
unfolding value_right is_text
value-is letter lead h t p l F = by (eqb letter 0) (text-is (drop (4 * h) (text_sextets t)) (p - 4 * h) zeros lead)
  where
    zeros : Zeros (drop (4 * h) (text_sextets t)) (p - 4 * h)
    zeros =
        let z : 4 * h + (p - 4 * h) ≡ p = omega (arith, F.low) in
        record {
          few = omega (arith, length-drop (4 * h) (text_sextets t), text-length t, F.high l);
          zeros = λ k q. rw (get_or-drop (4 * h) (text_sextets t) k 0) (F.below (4 * h + k) (omega arith) (omega arith));
          stops = λ q. rw (get_or-drop (4 * h) (text_sextets t) (p - 4 * h) 0, z) (F.stops (omega (arith, length-drop (4 * h) (text_sextets t), text-length t, F.low)));
        }

    by : (b : Bool) → eqb (p - 4 * h) (lead + 1) || (eqb (p - 4 * h) 0 && eqb lead 0) ≡ text_right lead (drop (4 * h) (text_sextets t))
        → (not b || eqb (p - 4 * h) (lead + 1)) || (eqb (p - 4 * h) 0 && eqb lead 0) ≡ pick b (text_right lead (drop (4 * h) (text_sextets t))) true
    by true e = e
    by false e = refl

pub variable-is : (letter lead count from : ℕ) (t : List ℕ) (p : ℕ) → First (text_sextets t) from (length t) 1 p
    → (v₀ : Verdict) → Bad (text_sextets t) from (length t) v₀
    → (v₁ : Verdict) → v₁ ≡ and_then v₀ (unless 18 (eqb from 4 || leb 4096 count))
    → (v₂ : Verdict) → v₂ ≡ and_then v₁ (unless 9 (eqb lead 0 || ltb 0 count))
    → (l : ℕ) → l ≡ lead → (y : Bool) → y ≡ zero_bits (text_sextets t) from (8 * l) → (v₃ : Verdict) → v₃ ≡ and_then v₂ (unless 8 y)
    → (m : ℕ) → m ≡ lead
    → (r : Verdict) → r ≡ and_then v₃ (unless 16 ((not (eqb letter 0) || eqb (p - from) (m + 1)) || (eqb (p - from) 0 && eqb lead 0)))
    → (h : ℕ) → Behind h from t → r ≡ variable_of letter lead count h (text_sextets t)
unfolding variable_of judge_kind
variable-is letter lead count from t p F v₀ bad v₁ e₁ v₂ e₂ l el y ey v₃ e₃ m em r er h B =
    let z : eqb from 4 ≡ eqb h 1 = one h from B.units in
    let w = value-is letter lead h t p (rw (← B.units) B.inside) (rw B.units at F) in
    er ∙ rw (em, e₃, e₂, e₁, header h from t v₀ B bad, z, shortest-is h count, ey, el, lead_is lead count, B.units) (rw w (simp then-assoc))

-- ---- 15: a number is 0 exactly where its digits are

begun : (a : ℕ) (l : List ℕ) → 0 < a → 0 < onward 64 a l
begun a [] h = h
begun a (x ∷ l) h = begun (a * 64 + x) l (omega arith)

digit-some : (a : ℕ) (l : List ℕ) (n k : ℕ) → k < n → (get_or l k 0 ≡ 0 → ⊥) → 0 < onward 64 a (take n l)
digit-some a l zero k h z = absurd (omega arith)
digit-some a [] (suc n) k h z = absurd (z refl)
digit-some a (x ∷ l) (suc n) zero h z = begun (a * 64 + x) (take n l) (omega arith)
digit-some a (x ∷ l) (suc n) (suc k) h z = digit-some (a * 64 + x) l n k (omega arith) z

digits-none : (l : List ℕ) (n : ℕ) → ((k : ℕ) → k < n → get_or l k 0 ≡ 0) → number_of 64 (take n l) ≡ 0
digits-none l zero f = refl
digits-none [] (suc n) f = refl
digits-none (x ∷ l) (suc n) f =
    let e : 0 * 64 + x ≡ 0 = omega (arith, f 0 (omega arith)) in
    ap (λ (a : ℕ). onward 64 a (take n l)) e ∙ digits-none l n (λ k h. f (suc k) (omega arith))

digits-is : (s : List ℕ) (from n p : ℕ) → First s from (from + n) 1 p → eqb p (from + n) ≡ eqb (number_of 64 (take n (drop from s))) 0
digits-is s from n p F =
    ⊎_elim
    (λ lt. let z : from + (p - from) ≡ p = omega (arith, F.low) in
    rw (ne_eqb p (from + n) (λ e. omega arith))
    (sym (ne_eqb (number_of 64 (take n (drop from s))) 0 (λ e. omega (
      arith,
      digit-some 0 (drop from s) n (p - from) (omega (arith, F.low)) (λ q. omega (arith, F.stops lt, sym (get_or-drop from s (p - from) 0 ∙ ap (sextet s) z) ∙ q)),
    )))))
    (λ ge. let z : p ≡ from + n = omega (arith, F.high (omega arith)) in
    rw (eq-eqb p (from + n) z)
    (sym (eq-eqb _ 0 (digits-none (drop from s) n (λ k l. get_or-drop from s k 0 ∙ omega (arith, F.below (from + k) (omega arith) (omega arith)))))))
    (lt-or-ge p (from + n))

pub indexed-is : (c : IndexRow) (from : ℕ) (t : List ℕ) (v₀ : Verdict) → Bad (text_sextets t) from (length t) v₀
    → (n : ℕ) → n ≡ c.chars → (m : ℕ) → m ≡ c.index → (k : ℕ) → k ≡ c.ondex → (z : ℕ) → z ≡ c.zeros
    → (b : Bool) → b ≡ zero_bits (text_sextets t) (n + m + k) z → (v₁ : Verdict) → v₁ ≡ and_then v₀ (unless 8 b)
    → (p : ℕ) → First (text_sextets t) (n + m) (n + m + k) 1 p
    → (r : Verdict) → r ≡ and_then v₁ (unless 15 (eqb c.current 0 || eqb p (n + m + k)))
    → (h : ℕ) → Behind h from t → r ≡ indexed_of c h (text_sextets t)
unfolding indexed_of judge_kind ondex_right ondex_of
indexed-is c from t v₀ bad n en m em k ek z ez b eb v₁ e₁ p F r er h B =
    er ∙ rw (e₁, header h from t v₀ B bad, then-assoc, eb, digits-is (text_sextets t) (n + m) k p F, en, em, ek, ez) (ap (λ (j : Bool). and_then (behind h (text_sextets t)) (and_then (unless 8 (zero_bits (text_sextets t) (c.chars + c.index + c.ondex) c.zeros)) (unless 15 j))) (by (eqb c.current 0) _))
  where
    by : (x y : Bool) → x || y ≡ pick x true y
    by true y = refl
    by false y = refl
