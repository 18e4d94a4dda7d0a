-- Where a refusal's place can lie, and that an accepted text is in the alphabet. Assumes nothing.
use mathlib.Core.Path.{◌≡◌, refl, subst}
use mathlib.Core.Bool.{true, false}
use mathlib.Core.List.{List, [], ◌∷◌}
use mathlib.Core.Logic.{⊎_elim}
use Prim.Native.Nat.{ℕ, ◌+◌, ◌-◌, ◌*◌, ◌/◌, ◌<◌, ◌≤◌}
use native.Mathlib.Omega.{arith}
use lib.ListN.{length, take, drop, length-drop, length-take}
use lib.Seq.{get_or-drop, get_or-take}
use borrow.Author.Tests.{lt-ltb, le-ltb}
use Rattle.base.specs.Cases.{lt-or-ge, whether}
use Rattle.base.specs.Digits.{Below, none, more, below_at, below_all}
use Rattle.format.specs.declared.Kind.{Kind}
use Rattle.format.specs.declared.Kind.TheVariants.{Fixed, Variable, Group, Genus, Indexed}
use Rattle.format.specs.declared.Framed.{Framed}
use Rattle.format.specs.declared.Framed.TheVariants.{Item, Unframed}
use Rattle.format.specs.declared.Verdict.{Verdict}
use Rattle.format.specs.declared.Verdict.TheVariants.{Accepted, Refused}
use Rattle.format.specs.Alphabet.{stranger_number}
use Rattle.format.specs.Registry.{opening}
use Rattle.format.specs.Framing.{frame_with, frame, sextet}
use Rattle.format.specs.Judging.{shift, and_then, scan, behind, judge_kind, own_check}
use Rattle.format.specs.Reading.{is_primitive, judged, read_framed, reading}
use Rattle.format.specs.Reading.Reading.{refused}
use Rattle.laws.specs.Framing.{Lawful, Good, frame-good}
use Rattle.judging.proofs.Bounds.{Head, by-head, Near, own-near}

-- a refused read's place
judged-place : (k : Kind) (h n b : ℕ) (v : Verdict) (m p : ℕ) → Near b v → judged k h n v ≡ refused m p → p ≤ b
unfolding judged
judged-place k h n b Accepted m p l e = let z : ◌≡◌ {A = ℕ} 0 1 = cc in absurd (omega arith)
judged-place k h n b (Refused m' p') m p l e = let q : p ≡ p' = cc in omega arith

framed-place : (s : List ℕ) (f : Framed) (m p : ℕ) → frame s ≡ f → read_framed f s ≡ refused m p → p ≤ length s + 8
unfolding read_framed
framed-place s (Unframed m' p') m p e r =
    let q : p ≡ p' = cc in
    let l : p' ≤ 7 = subst (Head (sextet s)) e (by-head false s) in
    omega arith
framed-place s (Item k h n) m p e r =
    let g : Lawful (frame_with opening) (sextet s) (length s / 4) k h n = subst (Good (frame_with opening) (sextet s) (length s / 4)) e (frame-good s) in
    ⊎_elim (λ o. let l = judged-place k h n _ _ m p (own-near k h 0 (take (4 * n) s) g.few) (rw o at r) in omega (arith, length-take (4 * n) s))
    (λ o. let q : refused 14 0 ≡ refused m p = rw o at r in let z : p ≡ 0 = cc in omega arith) (whether (is_primitive k))

pub place-near : (s : List ℕ) (m p : ℕ) → reading s ≡ refused m p → p ≤ length s + 8
unfolding reading
place-near s m p e = framed-place s (frame s) m p refl e

-- ---- an accepted item is in the alphabet

then-first : (v w : Verdict) → and_then v w ≡ Accepted → v ≡ Accepted
unfolding and_then
then-first Accepted w e = refl
then-first (Refused m p) w e = let z : ◌≡◌ {A = ℕ} 0 1 = cc in absurd (omega arith)

shift-accepts : (o : ℕ) (v : Verdict) → shift o v ≡ Accepted → v ≡ Accepted
unfolding shift
shift-accepts o Accepted e = refl
shift-accepts o (Refused m p) e = let z : ◌≡◌ {A = ℕ} 0 1 = cc in absurd (omega arith)

scan-known : (s : List ℕ) → scan s ≡ Accepted → Below 64 s
unfolding scan
scan-known [] e = none
scan-known (x ∷ s) e =
    ⊎_elim (λ l. more l (scan-known s (shift-accepts 1 (scan s) (rw (lt-ltb x 64 l) at e))))
    (λ g. let q : Refused (stranger_number x) 0 ≡ Accepted = rw (le-ltb x 64 g) at e in let z : ◌≡◌ {A = ℕ} 0 1 = cc in absurd (omega arith)) (lt-or-ge x 64)

behind-known : (k : Kind) (h : ℕ) (s : List ℕ) → is_primitive k ≡ true → judge_kind k h s (own_check 0) ≡ Accepted → Below 64 (drop (4 * h) s)
unfolding judge_kind is_primitive behind
behind-known (Fixed c) h s o e = scan-known _ (shift-accepts (4 * h) _ (then-first _ _ e))
behind-known (Variable t a b) h s o e = scan-known _ (shift-accepts (4 * h) _ (then-first _ _ e))
behind-known (Group g) h s o e = let z : ◌≡◌ {A = ℕ} 0 1 = cc in absurd (omega arith)
behind-known (Indexed c) h s o e = let z : ◌≡◌ {A = ℕ} 0 1 = cc in absurd (omega arith)
behind-known Genus h s o e = let z : ◌≡◌ {A = ℕ} 0 1 = cc in absurd (omega arith)

pub item-known : (s : List ℕ) (k : Kind) (h n : ℕ) → frame s ≡ Item k h n → is_primitive k ≡ true
    → judge_kind k h (take (4 * n) s) (own_check 0) ≡ Accepted → Below 64 (take (4 * n) s)
item-known s k h n e o a =
    let f : (i : ℕ) → i < 4 * h → sextet s i < 64 = subst (Head (sextet s)) e (by-head false s) in
    let b = behind-known k h (take (4 * n) s) o a in
    below_all 64 (take (4 * n) s) (λ i l.
    ⊎_elim (λ p. rw (get_or-take (4 * n) s i 0 (omega (arith, length-take (4 * n) s))) (f i p))
    (λ p. let j : 4 * h + (i - 4 * h) ≡ i = omega arith in
    let d = below_at 64 (drop (4 * h) (take (4 * n) s)) b (i - 4 * h) (omega (arith, length-drop (4 * h) (take (4 * n) s))) in
    rw j at (rw (get_or-drop (4 * h) (take (4 * n) s) (i - 4 * h) 0) at d)) (lt-or-ge i (4 * h)))
