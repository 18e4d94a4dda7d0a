-- 16 is told by a text's first unit, which stands in the item's first twelve sextets. Assumes nothing.
use mathlib.Core.Path.{◌≡◌, refl, ap, sym}
use mathlib.Core.Bool.{Bool, true, false}
use mathlib.Core.List.{List, [], ◌∷◌}
use Prim.Native.Nat.{ℕ, zero, suc, ◌+◌, ◌*◌, ◌≤◌}
use native.Mathlib.Omega.{arith}
use lib.Dec.{eqb}
use lib.ListN.{length, get_or, drop}
use lib.Seq.{get_or-drop}
use borrow.Author.Tests.{lt-ltb, ne_eqb}
use Rattle.base.specs.Pick.{pick}
use Rattle.format.specs.declared.Verdict.{Verdict}
use Rattle.format.specs.Registry.{is_text}
use Rattle.format.specs.Texts.{fills, fill_of, text_right, value_right}
use Rattle.format.specs.Judging.{and_then, unless, has_lead}
use Rattle.framing_head.specs.Heads.{head_of}
use Rattle.framing_head.proofs.Laws.{head_at}
use Rattle.judging_fill.specs.Fill.{filled_right, text_filled}

-- a character other than `A`
other : (n : ℕ) → eqb (suc n) 0 ≡ false
other n = ne_eqb (suc n) 0 (λ e. omega arith)

-- what the code asks of the first unit, whatever stands behind it
unit-tells : (lead a b c d : ℕ) (v : List ℕ) → lead ≤ 2 → filled_right lead a b c d ≡ text_right lead (a ∷ b ∷ c ∷ d ∷ v)
unfolding filled_right text_right fill_of fills
unit-tells zero zero zero zero zero v l = refl
unit-tells zero zero zero zero (suc d) v l = rw (other d)
unit-tells zero zero zero (suc c) d v l = rw (other c)
unit-tells zero zero (suc b) c d v l = rw (other b)
unit-tells zero (suc a) b c d v l = rw (other a, other a)
unit-tells (suc zero) zero zero zero zero v l = refl
unit-tells (suc zero) zero zero zero (suc d) v l = rw (other d)
unit-tells (suc zero) zero zero (suc c) d v l = rw (other c)
unit-tells (suc zero) zero (suc b) c d v l = rw (other b)
unit-tells (suc zero) (suc a) b c d v l = rw (other a)
unit-tells (suc (suc zero)) zero zero zero zero v l = refl
unit-tells (suc (suc zero)) zero zero zero (suc d) v l = rw (other d)
unit-tells (suc (suc zero)) zero zero (suc c) d v l = rw (other c)
unit-tells (suc (suc zero)) zero (suc b) c d v l = rw (other b)
unit-tells (suc (suc zero)) (suc a) b c d v l = rw (other a)
unit-tells (suc (suc (suc lead))) a b c d v l = absurd (omega arith)

-- the whole value: it is empty, or has a first unit
text-tells : (lead count : ℕ) (v : List ℕ) → lead ≤ 2 → length v ≡ 4 * count → has_lead lead count ≡ true
    → pick (eqb count 0) true (filled_right lead (get_or v 0 0) (get_or v 1 0) (get_or v 2 0) (get_or v 3 0)) ≡ text_right lead v
unfolding text_right fill_of fills has_lead
text-tells zero zero [] l e led = refl
text-tells (suc lead) zero v l e led =
    let no : false ≡ true = rw (lt-ltb 0 (suc lead) (omega arith)) at led in
    let z : ◌≡◌ {A = ℕ} 0 1 = cc in
    absurd (omega arith)
text-tells lead (suc count) (a ∷ b ∷ c ∷ d ∷ v) l e led = rw (other count) (unit-tells lead a b c d v l)
text-tells lead (suc count) (a ∷ b ∷ c ∷ []) l e led = absurd (omega arith)
text-tells lead (suc count) (a ∷ b ∷ []) l e led = absurd (omega arith)
text-tells lead (suc count) (a ∷ []) l e led = absurd (omega arith)
text-tells lead (suc count) [] l e led = absurd (omega arith)
text-tells zero zero (a ∷ v) l e led = absurd (omega arith)

-- of an item with a header of h units, by its first sextets
pub value_tells : (t lead count h : ℕ) (s : List ℕ) → h ≤ 2 → lead ≤ 2 → length (drop (4 * h) s) ≡ 4 * count → has_lead lead count ≡ true
    → text_filled t lead count h (head_of s) ≡ value_right t lead (drop (4 * h) s)
unfolding text_filled value_right
value_tells t lead count h s few l e led =
    let z : 4 * h + 0 ≡ 4 * h = omega arith in
    rw (head_at s (4 * h) (omega arith), head_at s (4 * h + 1) (omega arith), head_at s (4 * h + 2) (omega arith), head_at s (4 * h + 3) (omega arith))
    (rw (← text-tells lead count (drop (4 * h) s) l e led, get_or-drop (4 * h) s 0 0, get_or-drop (4 * h) s 1 0, get_or-drop (4 * h) s 2 0, get_or-drop (4 * h) s 3 0, z))

-- 9 comes first, so what is asked behind it may take the lead bytes for granted
pub nine-first : (lead count : ℕ) (z p q : Bool) → (has_lead lead count ≡ true → p ≡ q)
    → and_then (unless 9 (has_lead lead count)) (and_then (unless 8 z) (unless 16 p)) ≡ and_then (unless 9 (has_lead lead count)) (and_then (unless 8 z) (unless 16 q))
unfolding and_then unless
nine-first lead count z p q f = by (has_lead lead count) f
  where
    by : (b : Bool) → (b ≡ true → p ≡ q) → and_then (unless 9 b) (and_then (unless 8 z) (unless 16 p)) ≡ and_then (unless 9 b) (and_then (unless 8 z) (unless 16 q))
    by true f = rw (f refl)
    by false f = refl
