-- Framing looks at a mark only for its number: a header of values is framed as it was, any other has 5 for 19. Assumes nothing.
use Rattle.std.specs.Prelude.{ℕ, ◌+◌, ◌*◌, ◌/◌, ◌<◌, ◌≤◌, ◌≡◌, List, map, Bool, true, false, ltb, length, get_or}
use Rattle.std.proofs.Math.Path.{refl}
use Rattle.std.proofs.Common.{ap, sym, ◌∙◌, subst, ⊎_elim, arith, ltb-true}
use Rattle.std.proofs.lemmas.List.{length-map}
use Rattle.base.specs.Pick.{pick, pick-by}
use Rattle.base.specs.Cases.{lt-or-ge}
use Rattle.format.specs.declared.Kind.{Kind}
use Rattle.format.specs.declared.Kind.TheVariants.{Fixed, Variable, Group, Genus, Indexed}
use Rattle.format.specs.declared.Opening.{Opening}
use Rattle.format.specs.declared.Opening.TheVariants.{Unknown, Short, Long, LargeVariable, LargeGroup, Version}
use Rattle.format.specs.declared.Framed.{Framed}
use Rattle.format.specs.declared.Framed.TheVariants.{Item, Unframed}
use Rattle.format.specs.Alphabet.{stranger_number}
use Rattle.format.specs.Registry.{opening_by, extent}
use Rattle.format.specs.Framing.{fit, known, second, digits4, headed, frame_with, is_ours, ruled, sextet, frame_by, frame_next, frame_ruled, scale}
use Rattle.laws.specs.Framing.{Known, Good, Lawful, long, known_by, by-with, by-good}
use Rattle.ordinary.specs.Words.{as_five, framed_five}
use Rattle.ordinary.proofs.Marks.{pick_to, plain, plain-test, plain_value, plain-number, plain_at}

-- ---- the header of an item is known

-- four known ones
four : (at : ℕ → ℕ) (i : ℕ) → Known at i → (j : ℕ) → i ≤ j → j < i + 4 → at j < 64
four at i k j l u =
    ⊎_elim (λ p. let e : j ≡ i = omega arith in rw e (ltb-true (at i) 64 k.0))
    (λ g. ⊎_elim (λ p. let e : j ≡ i + 1 = omega arith in rw e (ltb-true (at (i + 1)) 64 k.1))
    (λ g'. ⊎_elim (λ p. let e : j ≡ i + 2 = omega arith in rw e (ltb-true (at (i + 2)) 64 k.2))
    (λ g''. let e : j ≡ i + 3 = omega arith in rw e (ltb-true (at (i + 3)) 64 k.3))
    (lt-or-ge j (i + 3)))
    (lt-or-ge j (i + 2)))
    (lt-or-ge j (i + 1))

abbrev Header : (ℕ → ℕ) → Framed → Type 0
Header at (Item k h n) = (i : ℕ) → i < 4 * h → at i < 64
Header at (Unframed n p) = Unit {0}

module _ (at : ℕ → ℕ) (first : Known at 0) where
  fit-header : (k : Kind) (h n len : ℕ) → ((i : ℕ) → i < 4 * h → at i < 64) → Header at (fit k h n len)
  unfolding fit
  fit-header k h n len low = pick-by (Header at) (ltb len n) (Unframed 4 0) (Item k h n) (λ _. tt) (λ _. low)

  two : Known at 4 → (i : ℕ) → i < 4 * 2 → at i < 64
  two k i u = ⊎_elim (λ l. four at 0 first i (omega arith) (omega arith)) (λ g. four at 4 k i g (omega arith)) (lt-or-ge i 4)

  long-header : (kind : ℕ → Kind) (size : ℕ → ℕ) (len : ℕ) → Header at (long kind size at len)
  unfolding second
  long-header kind size len =
      pick-by (Header at) (ltb len 2) _ _ (λ _. tt)
      (λ _. known_by (Header at) at 4 _ (λ j b. tt) (λ k. fit-header _ 2 _ len (two k)))

  headed-header : (o : Opening) (len : ℕ) → Header at (headed o at len)
  unfolding headed extent
  headed-header Unknown len = tt
  headed-header (Short k n) len = fit-header k 1 n len (λ i u. four at 0 first i (omega arith) (omega arith))
  headed-header (Long k n) len = long-header (λ m. k) (extent (Long k n)) len
  headed-header (LargeVariable t l) len = long-header (Variable t l) (extent (LargeVariable t l)) len
  headed-header (LargeGroup l d) len = long-header (λ m. Group l) (extent (LargeGroup l d)) len
  headed-header Version len = long-header (λ m. Genus) (extent Version) len

with-header : (op : ℕ → ℕ → ℕ → ℕ → Opening) (s : List ℕ) → Header (sextet s) (frame_with op (sextet s) (length s / 4))
unfolding frame_with
with-header op s =
    pick-by (Header (sextet s)) (ltb (length s / 4) 1) _ _ (λ _. tt)
    (λ _. known_by (Header (sextet s)) (sextet s) 0 _ (λ j b. tt) (λ k. headed-header (sextet s) k _ (length s / 4)))

pub header-known : (t : Bool) (s : List ℕ) (k : Kind) (h n : ℕ) → frame_by t s ≡ Item k h n → (i : ℕ) → i < 4 * h → sextet s i < 64
header-known t s k h n e = subst (Header (sextet s)) (sym (by-with t s) ∙ e) (with-header (opening_by t) s)

-- ---- the same tests, the same answers

module _ (at at' : ℕ → ℕ) (e : (i : ℕ) → at' i ≡ plain (at i)) where
  bad : (j : ℕ) → Unframed (stranger_number (at' j)) j ≡ framed_five (Unframed (stranger_number (at j)) j)
  unfolding framed_five
  bad j = rw (e j, plain-number (at j))

  test : (j : ℕ) → ltb (at' j) 64 ≡ ltb (at j) 64
  test j = rw (e j) (plain-test (at j))

  same : (j : ℕ) → ltb (at j) 64 ≡ true → at' j ≡ at j
  same j b = e j ∙ plain_value (at j) (ltb-true (at j) 64 b)

  known-five : (i : ℕ) (next next' : Framed) → (Known at i → next' ≡ framed_five next) → known at' i next' ≡ framed_five (known at i next)
  unfolding known
  known-five i next next' f =
      rw (test i, test (i + 1), test (i + 2), test (i + 3))
      (pick_to framed_five (ltb (at i) 64) _ _ _ _
      (λ a. pick_to framed_five (ltb (at (i + 1)) 64) _ _ _ _
      (λ b. pick_to framed_five (ltb (at (i + 2)) 64) _ _ _ _
      (λ c. pick_to framed_five (ltb (at (i + 3)) 64) _ _ _ _ (λ d. f (a, b, c, d))
      (λ _. bad (i + 3)))
      (λ _. bad (i + 2)))
      (λ _. bad (i + 1)))
      (λ _. bad i))

  fit-five : (k : Kind) (h n len : ℕ) → fit k h n len ≡ framed_five (fit k h n len)
  unfolding fit framed_five as_five
  fit-five k h n len = pick_to framed_five (ltb len n) (Unframed 4 0) (Item k h n) (Unframed 4 0) (Item k h n) (λ _. refl) (λ _. refl)

  long-five : (kind : ℕ → Kind) (size : ℕ → ℕ) (len : ℕ) → long kind size at' len ≡ framed_five (long kind size at len)
  unfolding second framed_five as_five
  long-five kind size len =
      pick_to framed_five (ltb len 2) _ _ _ _ (λ _. refl)
      (λ _. known-five 4 _ _ (λ k. rw (same 4 k.0, same 5 k.1, same 6 k.2, same 7 k.3) (fit-five (kind (digits4 at)) 2 (size (digits4 at)) len)))

  headed-five : (o : Opening) (len : ℕ) → headed o at' len ≡ framed_five (headed o at len)
  unfolding headed framed_five as_five extent
  headed-five Unknown len = refl
  headed-five (Short k n) len = fit-five k 1 n len
  headed-five (Long k n) len = long-five (λ m. k) (extent (Long k n)) len
  headed-five (LargeVariable t l) len = long-five (Variable t l) (extent (LargeVariable t l)) len
  headed-five (LargeGroup l d) len = long-five (λ m. Group l) (extent (LargeGroup l d)) len
  headed-five Version len = long-five (λ m. Genus) (extent Version) len

  with-five : (op : ℕ → ℕ → ℕ → ℕ → Opening) (len : ℕ) → frame_with op at' len ≡ framed_five (frame_with op at len)
  unfolding frame_with framed_five as_five
  with-five op len =
      pick_to framed_five (ltb len 1) _ _ _ _ (λ _. refl)
      (λ _. known-five 0 _ _ (λ k. rw (same 0 k.0, same 1 k.1, same 2 k.2, same 3 k.3) (headed-five (op (at 0) (at 1) (at 2) (at 3)) len)))

-- ---- lists

-- by either table
pub frame-five : (t : Bool) (s : List ℕ) → frame_by t (map plain s) ≡ framed_five (frame_by t s)
frame-five t s =
    by-with t (map plain s)
    ∙ rw (length-map s plain, by-with t s) (with-five (sextet s) (sextet (map plain s)) (plain_at s) (opening_by t) (length s / 4))

same-ours : (s : List ℕ) → ((i : ℕ) → i < 8 → sextet s i < 64) → is_ours (sextet (map plain s)) ≡ is_ours (sextet s)
unfolding is_ours
same-ours s low = rw (v 2 (omega arith), v 3 (omega arith), v 4 (omega arith), v 5 (omega arith), v 6 (omega arith), v 7 (omega arith))
  where
    v : (i : ℕ) → i < 8 → sextet (map plain s) i ≡ sextet s i
    v i u = plain_at s i ∙ plain_value (sextet s i) (low i u)

genus-five : (h n : ℕ) (b : Bool) → pick b (Item Genus h n) (Unframed 7 0) ≡ framed_five (pick b (Item Genus h n) (Unframed 7 0))
unfolding framed_five as_five
genus-five h n true = refl
genus-five h n false = refl

-- 7 is asked of a genus/version, whose two units are known
ruled-five : (t : Bool) (s : List ℕ) (r : Framed) → frame_by t s ≡ r
    → ruled (sextet (map plain s)) (framed_five r) ≡ framed_five (ruled (sextet s) r)
unfolding ruled framed_five
ruled-five t s (Unframed n p) e = refl
ruled-five t s (Item (Fixed c) h n) e = refl
ruled-five t s (Item (Variable v l m) h n) e = refl
ruled-five t s (Item (Group l) h n) e = refl
ruled-five t s (Item (Indexed c) h n) e = refl
ruled-five t s (Item Genus h n) e =
    let g = subst (Good (frame_with (opening_by t)) (sextet s) (length s / 4)) e (by-good t s) in
    rw (same-ours s (λ i u. header-known t s Genus h n e i (omega (arith, g.shape.0)))) (genus-five h n (is_ours (sextet s)))

pub next-five : (t first : Bool) (s : List ℕ) → frame_next t first (map plain s) ≡ framed_five (frame_next t first s)
unfolding frame_next
next-five t true s = rw (frame-five t s) (ruled-five t s (frame_by t s) refl)
next-five t false s = frame-five t s

pub frame_ruled-five : (s : List ℕ) → frame_ruled (map plain s) ≡ framed_five (frame_ruled s)
unfolding frame_ruled frame_next
frame_ruled-five s = next-five false true s

pub scale-five : (u : ℕ) (r : Framed) → scale u (framed_five r) ≡ framed_five (scale u r)
unfolding scale framed_five
scale-five u (Item k h n) = refl
scale-five u (Unframed n p) = refl
