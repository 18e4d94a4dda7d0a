-- Framing by an array of the first sextets. Assumes nothing.
use mathlib.Core.Path.{◌≡◌, sym, ◌∙◌, subst}
use mathlib.Core.List.{List}
use mathlib.Core.Bool.{Bool, true, false}
use Prim.Native.Nat.{ℕ, ◌/◌}
use native.Mathlib.Omega.{arith}
use lib.ListN.{length, get_or}
use Rattle.format.specs.declared.CodeRow.{CodeRow}
use Rattle.format.specs.declared.IndexRow.{IndexRow}
use Rattle.format.specs.declared.Kind.{Kind}
use Rattle.format.specs.declared.Kind.TheVariants.{Fixed, Variable, Group, Genus, Indexed}
use Rattle.format.specs.declared.Framed.{Framed}
use Rattle.format.specs.declared.Framed.TheVariants.{Item, Unframed}
use Rattle.format.specs.Units.{text_sextets, binary_sextets}
use Rattle.format.specs.Registry.{opening_by}
use Rattle.format.specs.Framing.{frame_with, ruled, is_ours, sextet, frame_by, frame_next}
use Rattle.laws.specs.Framing.{Lawful, Good, opens_by, by-with, by-good, next_with, next-with}
use Rattle.laws.specs.Domains.{text-reader, binary-reader}
use Rattle.laws.specs.Local.{frame-there, ruled-there}
use Rattle.framing_head.specs.Heads.{head_of}
use Rattle.framing_head.proofs.Laws.{head_at}
use Rattle.framing.specs.Next.{next_by}

-- ---- framing by the first sextets

module _ (t : Bool) (s cs : List ℕ) (len : ℕ) (r : Framed) (e : cs ≡ head_of s) where
  pub by-head : r ≡ frame_with (opening_by t) (λ i. get_or cs i 0) len → r ≡ frame_with (opening_by t) (sextet s) len
  by-head p = p ∙ frame-there (opening_by t) (sextet s) (λ i. get_or cs i 0) len (λ i h l. rw e (head_at s i (omega arith)))

  pub by-ruled-head : r ≡ ruled (λ i. get_or cs i 0) (frame_with (opening_by t) (λ i. get_or cs i 0) len)
      → r ≡ ruled (sextet s) (frame_with (opening_by t) (sextet s) len)
  by-ruled-head p =
      p ∙ ruled-there (opening_by t) (opens_by t) (sextet s) (λ i. get_or cs i 0) len (λ i h l. rw e (head_at s i (omega arith)))

-- where 7 is asked or not
next-by : (t first : Bool) (s cs : List ℕ) (len : ℕ) (r : Framed) → cs ≡ head_of s → r ≡ next_by t first (λ i. get_or cs i 0) len
    → r ≡ next_with t first (sextet s) len
unfolding next_by
next-by t true s cs len r e p = by-ruled-head t s cs len r e p
next-by t false s cs len r e p = by-head t s cs len r e p

pub text-units : (s : List ℕ) → length (text_sextets s) / 4 ≡ length s / 4
text-units s = text-reader.units s

pub binary-units : (s : List ℕ) → length (binary_sextets s) / 4 ≡ length s / 3
binary-units s = binary-reader.units s

-- ---- either form, and what holds of an item

module _ (t : Bool) (s cs : List ℕ) (f : Framed) where
  pub framed-text : cs ≡ head_of (text_sextets s) → f ≡ frame_with (opening_by t) (λ i. get_or cs i 0) (length s / 4)
      → f ≡ frame_by t (text_sextets s)
  framed-text e p =
      rw (by-with t (text_sextets s), text-units s) (by-head t (text_sextets s) cs (length s / 4) f e p)

  pub framed-binary : cs ≡ head_of (binary_sextets s) → f ≡ frame_with (opening_by t) (λ i. get_or cs i 0) (length s / 3)
      → f ≡ frame_by t (binary_sextets s)
  framed-binary e p =
      rw (by-with t (binary_sextets s), binary-units s) (by-head t (binary_sextets s) cs (length s / 3) f e p)

module _ (t first : Bool) (s cs : List ℕ) (f : Framed) where
  pub next-text : cs ≡ head_of (text_sextets s) → f ≡ next_by t first (λ i. get_or cs i 0) (length s / 4) → f ≡ frame_next t first (text_sextets s)
  next-text e p = rw (next-with t first (text_sextets s), text-units s) (next-by t first (text_sextets s) cs (length s / 4) f e p)

  pub next-binary : cs ≡ head_of (binary_sextets s) → f ≡ next_by t first (λ i. get_or cs i 0) (length s / 3)
      → f ≡ frame_next t first (binary_sextets s)
  next-binary e p = rw (next-with t first (binary_sextets s), binary-units s) (next-by t first (binary_sextets s) cs (length s / 3) f e p)

pub lawful : (t : Bool) (s : List ℕ) (f : Framed) (k : Kind) (h n : ℕ) → f ≡ frame_by t s → f ≡ Item k h n
    → Lawful (frame_with (opening_by t)) (sextet s) (length s / 4) k h n
lawful t s f k h n e p = subst (Good (frame_with (opening_by t)) (sextet s) (length s / 4)) (sym e ∙ p) (by-good t s)

-- ---- 7

pub unframed-ruled : (at : ℕ → ℕ) (m p : ℕ) (f : Framed) → f ≡ Unframed m p → f ≡ ruled at f
unfolding ruled
unframed-ruled at m p f e = rw e

module _ (at : ℕ → ℕ) (h n : ℕ) where
  pub ruled-fixed : (k : Kind) (c : CodeRow) → k ≡ Fixed c → Item k h n ≡ ruled at (Item k h n)
  unfolding ruled
  ruled-fixed k c e = rw e

  pub ruled-variable : (k : Kind) (t l c : ℕ) → k ≡ Variable t l c → Item k h n ≡ ruled at (Item k h n)
  unfolding ruled
  ruled-variable k t l c e = rw e

  pub ruled-group : (k : Kind) (l : ℕ) → k ≡ Group l → Item k h n ≡ ruled at (Item k h n)
  unfolding ruled
  ruled-group k l e = rw e

  pub ruled-indexed : (k : Kind) (c : IndexRow) → k ≡ Indexed c → Item k h n ≡ ruled at (Item k h n)
  unfolding ruled
  ruled-indexed k c e = rw e

  pub ours : (k : Kind) → k ≡ Genus → is_ours at ≡ true → Item k h n ≡ ruled at (Item k h n)
  unfolding ruled
  ours k e o = rw (e, o)

  pub not_ours : (k : Kind) → k ≡ Genus → is_ours at ≡ false → Unframed 7 0 ≡ ruled at (Item k h n)
  unfolding ruled
  not_ours k e o = rw (e, o)
