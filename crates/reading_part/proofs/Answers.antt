-- What an accepted read says of the item that a part begins with. Assumes nothing.
use mathlib.Core.Path.{◌≡◌, refl, sym, ap, ◌∙◌, subst}
use mathlib.Core.Bool.{Bool, true, false}
use mathlib.Core.List.{List, map}
use mathlib.Core.Logic.{⊎_elim}
use Prim.Native.Nat.{ℕ, ◌+◌, ◌-◌, ◌*◌, ◌/◌, ◌<◌, ◌≤◌}
use native.Mathlib.Omega.{arith}
use lib.Dec.{eqb}
use lib.ListN.{length, take, drop}
use lib.Seq.{length-take-le}
use borrow.Author.Tests.{lt-ltb, ltb-true, eqb-true, eqb-false}
use Rattle.base.specs.Cases.{whether}
use Rattle.format.specs.declared.CodeRow.{CodeRow}
use Rattle.format.specs.declared.Kind.{Kind}
use Rattle.format.specs.declared.Kind.TheVariants.{Fixed, Variable, Group, Genus, Indexed}
use Rattle.format.specs.declared.Framed.{Framed}
use Rattle.format.specs.declared.Framed.TheVariants.{Item, Unframed}
use Rattle.format.specs.declared.Verdict.{Verdict}
use Rattle.format.specs.declared.Verdict.TheVariants.{Accepted, Refused}
use Rattle.format.specs.declared.Primitive.{Primitive}
use Rattle.format.specs.Alphabet.{char_of}
use Rattle.format.specs.Registry.{opening, prepad_of}
use Rattle.format.specs.Framing.{frame_with, frame, sextet}
use Rattle.format.specs.Judging.{and_then, unless, is_shortest, behind, has_lead, judge_kind, own_check}
use Rattle.format.specs.Values.{raw_start, text_in, tag_of}
use Rattle.format.specs.Reading.{Reading, is_primitive, primitive_of, judged, read_framed, reading, padded}
use Rattle.format.specs.Reading.Reading.{refused, found}
use Rattle.laws.specs.Framing.{Lawful, Good, Shaped, frame-good}
use Rattle.laws.specs.Values.{Led, raw-inside}
use Rattle.framing_head.specs.Heads.{head_of}
use Rattle.framing_head.proofs.Laws.{part-head, within-head}
use Rattle.reading_tag.specs.Tags.{Taggable}
use Rattle.reading_fill.specs.Texts.{text_start}
use Rattle.reading_part.specs.Outcome.{outcome}
use Rattle.reading_part.proofs.Texts.{text-length, text-last}

-- ---- what reading found

pub is-refused : (r : Reading) (m p : ℕ) → outcome r ≡ Unframed m p → r ≡ refused m p
unfolding outcome
is-refused (refused m' p') m p e = cc
is-refused (found k h n) m p e = let z : ◌≡◌ {A = ℕ} 0 1 = cc in absurd (omega arith)

pub is_found : (r : Reading) (k : Kind) (h n : ℕ) → outcome r ≡ Item k h n → r ≡ found k h n
unfolding outcome
is_found (refused m' p') k h n e = let z : ◌≡◌ {A = ℕ} 0 1 = cc in absurd (omega arith)
is_found (found k' h' n') k h n e = cc

-- a primitive, framed, and accepted
pub record Accepts (s : List ℕ) (k : Kind) (h n : ℕ) : Type 0 where
  pub framed : frame s ≡ Item k h n
  pub primitive : is_primitive k ≡ true
  pub accepted : judge_kind k h (take (4 * n) s) (own_check 0) ≡ Accepted

abbrev Accepted? : Framed → List ℕ → Kind → ℕ → ℕ → Type 0
Accepted? f s k h n = (f ≡ Item k h n) × (is_primitive k ≡ true) × (judge_kind k h (take (4 * n) s) (own_check 0) ≡ Accepted)

by-verdict : (s : List ℕ) (k' : Kind) (h' n' : ℕ) (v : Verdict) (k : Kind) (h n : ℕ) → is_primitive k' ≡ true
    → judge_kind k' h' (take (4 * n') s) (own_check 0) ≡ v → judged k' h' n' v ≡ found k h n → Accepted? (Item k' h' n') s k h n
unfolding judged
by-verdict s k' h' n' Accepted k h n o w e =
    let a : k' ≡ k = cc in
    let b : h' ≡ h = cc in
    let d : n' ≡ n = cc in
    (rw (a, b, d), rw a at o, rw (a, b, d) at w)
by-verdict s k' h' n' (Refused m p) k h n o w e = let z : ◌≡◌ {A = ℕ} 0 1 = cc in absurd (omega arith)

by-framed : (s : List ℕ) (f : Framed) (k : Kind) (h n : ℕ) → read_framed f s ≡ found k h n → Accepted? f s k h n
unfolding read_framed
by-framed s (Unframed m p) k h n e = let z : ◌≡◌ {A = ℕ} 0 1 = cc in absurd (omega arith)
by-framed s (Item k' h' n') k h n e =
    ⊎_elim (λ o. by-verdict s k' h' n' _ k h n o refl (rw o at e))
    (λ o. let q : refused 14 0 ≡ found k h n = rw o at e in let z : ◌≡◌ {A = ℕ} 0 1 = cc in absurd (omega arith)) (whether (is_primitive k'))

pub accepts : (s : List ℕ) (k : Kind) (h n : ℕ) → reading s ≡ found k h n → Accepts s k h n
unfolding reading
accepts s k h n e = let a = by-framed s (frame s) k h n e in record { framed = a.0; primitive = a.1; accepted = a.2 }

pub accepts-lawful : (s : List ℕ) (k : Kind) (h n : ℕ) → Accepts s k h n → Lawful (frame_with opening) (sextet s) (length s / 4) k h n
accepts-lawful s k h n a = subst (Good (frame_with opening) (sextet s) (length s / 4)) a.framed (frame-good s)

-- ---- its raw value lies within it

first-accepts : (v w : Verdict) → and_then v w ≡ Accepted → (v ≡ Accepted) × (w ≡ Accepted)
unfolding and_then
first-accepts Accepted w e = (refl, e)
first-accepts (Refused m p) w e = let z : ◌≡◌ {A = ℕ} 0 1 = cc in absurd (omega arith)

unless-true : (n : ℕ) (b : Bool) → unless n b ≡ Accepted → b ≡ true
unfolding unless
unless-true n true e = refl
unless-true n false e = let z : ◌≡◌ {A = ℕ} 0 1 = cc in absurd (omega arith)

pub led : (k : Kind) (h : ℕ) (s : List ℕ) → judge_kind k h s (own_check 0) ≡ Accepted → Led k
unfolding judge_kind has_lead
led (Fixed c) h s e = tt
led (Variable t l m) h s e =
    let short = first-accepts (unless 18 (is_shortest h m)) _ (first-accepts (behind h s) _ e).1 in
    let nine = unless-true 9 _ (first-accepts _ _ short.1).0 in
    λ p. ltb-true 0 m (rw (lt-ltb 0 l p) at nine)
led (Group l) h s e = tt
led Genus h s e = tt
led (Indexed c) h s e = tt

pub starts-inside : (s : List ℕ) (k : Kind) (h n : ℕ) → Accepts s k h n → raw_start k h ≤ 3 * n
starts-inside s k h n a = let g = accepts-lawful s k h n a in raw-inside k h n g.inside g.shape (led k h _ a.accepted)

-- ---- its tag characters lie in the first sextets

taggable-of : (k : Kind) (h n : ℕ) → Shaped k h n → Taggable k
taggable-of (Fixed c) h n s = λ t. let g = s.0.tag t in (g.filled, g.units, g.short)
taggable-of (Variable t l m) h n s = tt
taggable-of (Group l) h n s = tt
taggable-of Genus h n s = tt
taggable-of (Indexed c) h n s = tt

pub taggable : (s : List ℕ) (k : Kind) (h n : ℕ) → Accepts s k h n → Taggable k
taggable s k h n a = taggable-of k h n (accepts-lawful s k h n a).shape

tag-row-head : (s : List ℕ) (c : CodeRow) → Taggable (Fixed c) → c.size ≤ length s → tag_of (Fixed c) (head_of s) ≡ tag_of (Fixed c) s
unfolding tag_of
tag-row-head s c f l =
    ⊎_elim (λ z. rw (eqb-true c.tag 0 z)) (λ z. let g = f (eqb-false c.tag 0 z) in
    ap (map char_of) (part-head s (c.chars + prepad_of c) c.tag (omega (arith, g.0, g.1)) (omega (arith, g.0)))) (whether (eqb c.tag 0))

tag-head : (k : Kind) (h n : ℕ) (s : List ℕ) → Shaped k h n → 4 * n ≤ length s → tag_of k (head_of s) ≡ tag_of k s
unfolding tag_of
tag-head (Fixed c) h n s shape l = tag-row-head s c (taggable-of (Fixed c) h n shape) (omega (arith, shape.2))
tag-head (Variable t l m) h n s shape r = refl
tag-head (Group l) h n s shape r = refl
tag-head Genus h n s shape r = refl
tag-head (Indexed c) h n s shape r = refl

-- the tag characters of the item, by the first sextets of the part
tag-own : (s cs own : List ℕ) (k : Kind) (h n : ℕ) → Accepts s k h n → cs ≡ head_of s → own ≡ head_of (take (4 * n) cs)
    → padded (tag_of k own) ≡ padded (tag_of k (take (4 * n) s))
tag-own s cs own k h n a e p =
    let g = accepts-lawful s k h n a in
    rw (p, e, within-head s n) (ap padded (tag-head k h n (take (4 * n) s) g.shape (omega (arith, g.room, length-take-le (4 * n) s (omega (arith, g.room))))))

-- ---- what is told of the item that a part begins with

pub record Inside (s : List ℕ) (k : Kind) (h n : ℕ) : Type 0 where
  pub few : h ≤ 2
  pub room : n ≤ length s / 4
  pub shape : Shaped k h n
  pub tags : Taggable k
  pub start : raw_start k h ≤ 3 * n

pub inside : (s : List ℕ) (k : Kind) (h n : ℕ) → outcome (reading s) ≡ Item k h n → Inside s k h n
inside s k h n e =
    let a = accepts s k h n (is_found (reading s) k h n e) in
    let g = accepts-lawful s k h n a in
    record { few = g.few; room = g.room; shape = g.shape; tags = taggable s k h n a; start = starts-inside s k h n a }

module _ (s : List ℕ) (k : Kind) (h n : ℕ) (e : outcome (reading s) ≡ Item k h n) where
  -- its own sextets
  pub item-long : length (take (4 * n) s) ≡ 4 * n
  item-long = let i = inside s k h n e in length-take-le (4 * n) s (omega (arith, i.room))

  -- where its text starts, as the code finds it, how long it is, and what it is
  pub told-start : (cs own : List ℕ) (start : ℕ) → length s / 4 ≤ 1048576 → cs ≡ head_of s → own ≡ head_of (take (4 * n) cs)
      → (h ≤ 2 → n ≤ 1048576 → start ≡ text_start k h n own) → start ≡ text_start k h n (head_of (take (4 * n) s))
  told-start cs own start l a b f =
      let i = inside s k h n e in
      f i.few (omega (arith, i.room)) ∙ rw (b, a, within-head s n)

  pub told_text : text_in k h (take (4 * n) s) ≡ map char_of (drop (4 * n - length (text_in k h (take (4 * n) s))) (take (4 * n) s))
  told_text = text-last k h n (take (4 * n) s) (inside s k h n e).few item-long

  pub told-size : (start text : ℕ) → length s / 4 ≤ 1048576 → start ≡ text_start k h n (head_of (take (4 * n) s))
      → (n ≤ 1048576 → text ≡ 4 * n - start) → text ≡ length (text_in k h (take (4 * n) s))
  told-size start text l q f =
      let i = inside s k h n e in
      f (omega (arith, i.room)) ∙ rw q (sym (text-length k h n (take (4 * n) s) i.few item-long))

  -- it has no more characters than the item
  pub text-few : length (text_in k h (take (4 * n) s)) ≤ 4 * n
  text-few = omega (arith, text-length k h n (take (4 * n) s) (inside s k h n e).few item-long)

  pub told-primitive : length s / 4 ≤ 1048576 → (text : ℕ) (p : Primitive) → (h ≤ 2 → n ≤ 1048576 → Shaped k h n → p ≡ primitive_of k h n text)
      → p ≡ primitive_of k h n text
  told-primitive l text p f = let i = inside s k h n e in f i.few (omega (arith, i.room)) i.shape

  pub told-tag : (cs own t : List ℕ) → cs ≡ head_of s → own ≡ head_of (take (4 * n) cs) → (Taggable k → t ≡ padded (tag_of k own))
      → t ≡ padded (tag_of k (take (4 * n) s))
  told-tag cs own t a b f = f (inside s k h n e).tags ∙ tag-own s cs own k h n (accepts s k h n (is_found (reading s) k h n e)) a b
