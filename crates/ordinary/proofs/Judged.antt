-- Judging looks at a mark only for its number, at every depth: the same verdict, with 5 for 19. Assumes nothing.
use Prim.Native.Nat.{ℕ, zero, suc, ◌+◌, ◌-◌, ◌*◌, ◌<◌, ◌≤◌}
use Rattle.std.specs.Prelude.{◌≡◌, Bool, true, false, ltb, eqb, length, get_or, take, drop}
use Rattle.std.proofs.Math.Path.{refl}
use Rattle.std.proofs.Common.{ap, sym, ◌∙◌, ⊎_elim, arith, length-drop, get_or-drop, ne_eqb}
use mathlib.Core.List.{List, [], ◌∷◌, map}
use Rattle.std.proofs.lemmas.List.{length-map}
use Rattle.base.specs.Pick.{pick}
use Rattle.base.specs.Cases.{lt-or-ge}
use Rattle.base.specs.Lists.{map-take, map-drop}
use Rattle.base.specs.Digits.{Below, below_at, below_all}
use Rattle.format.specs.declared.Kind.{Kind}
use Rattle.format.specs.declared.Kind.TheVariants.{Fixed, Variable, Group, Genus, Indexed}
use Rattle.format.specs.declared.Framed.{Framed}
use Rattle.format.specs.declared.Framed.TheVariants.{Item, Unframed}
use Rattle.format.specs.declared.Verdict.{Verdict}
use Rattle.format.specs.declared.Verdict.TheVariants.{Accepted, Refused}
use Rattle.format.specs.Registry.{is_indexed, is_overrideable}
use Rattle.format.specs.Framing.{sextet, frame_by, frame_next, scale}
use Rattle.format.specs.Cutting.{Cut, cut_by, cut_f, cut}
use Rattle.format.specs.Cutting.Cut.{done, stopped, item}
use Rattle.format.specs.Judging.{shift, and_then, unless, scan, behind, judge_kind, judge_by, in_turn, frame4, frame_next4, contents}
use Rattle.format.specs.Judging.{own_check, group, judge_with, judge}
use Rattle.laws.specs.Levels.{shift-accepted}
use Rattle.roundtrip_laws.specs.Reads.{low-scan}
use Rattle.ordinary.specs.Words.{as_five, verdict_five, framed_five}
use Rattle.ordinary.proofs.Marks.{pick_to, plain, plain-test, plain-number, plain-all}
use Rattle.ordinary.proofs.Framed.{header-known, frame-five, next-five, scale-five}

-- ---- verdicts

pub shift-five : (o : ℕ) (v : Verdict) → shift o (verdict_five v) ≡ verdict_five (shift o v)
unfolding shift verdict_five
shift-five o Accepted = refl
shift-five o (Refused n p) = refl

-- what is asked behind an accepted one
then-five : (v v' w w' : Verdict) → v' ≡ verdict_five v → (v ≡ Accepted → w' ≡ verdict_five w) → and_then v' w' ≡ verdict_five (and_then v w)
unfolding and_then verdict_five
then-five Accepted v' w w' e f = rw e (f refl)
then-five (Refused n p) v' w w' e f = rw e

unless-five : (n : ℕ) (b : Bool) → (n ≡ 19 → ⊥) → unless n b ≡ verdict_five (unless n b)
unfolding unless verdict_five as_five
unless-five n true h = refl
unless-five n false h = rw (ne_eqb n 19 h)

pub scan-five : (s : List ℕ) → scan (map plain s) ≡ verdict_five (scan s)
unfolding scan verdict_five
scan-five [] = refl
scan-five (x ∷ s) =
    rw (plain-test x) (pick_to verdict_five (ltb x 64) _ _ _ _ (λ _. ap (shift 1) (scan-five s) ∙ shift-five 1 (scan s)) (λ _. ap (λ (n : ℕ). Refused n 0) (plain-number x)))

-- ---- an item whose header is known

behind-five : (h : ℕ) (s : List ℕ) → behind h (map plain s) ≡ verdict_five (behind h s)
unfolding behind
behind-five h s = rw (← map-drop plain (4 * h) s, scan-five (drop (4 * h) s)) (shift-five (4 * h) (scan (drop (4 * h) s)))

-- with no stranger behind it, all is known, and a mask changes nothing
whole : (h : ℕ) (s : List ℕ) → ((i : ℕ) → i < 4 * h → sextet s i < 64) → behind h s ≡ Accepted → map plain s ≡ s
unfolding behind
whole h s low a = plain-all s (below_all 64 s all)
  where
    rest : Below 64 (drop (4 * h) s)
    rest = low-scan (drop (4 * h) s) (shift-accepted (4 * h) (scan (drop (4 * h) s)) a)

    all : (i : ℕ) → i < length s → get_or s i 0 < 64
    all i l =
        ⊎_elim (low i)
        (λ g. let e : 4 * h + (i - 4 * h) ≡ i = omega arith in
        rw (get_or-drop (4 * h) s (i - 4 * h) 0, e) at (below_at 64 (drop (4 * h) s) rest (i - 4 * h) (omega (arith, length-drop (4 * h) s))))
        (lt-or-ge i (4 * h))

-- what judges a group's contents
abbrev pub Inner : (ℕ → ℕ → List ℕ → Verdict) → Type 0
Inner go = (letter h : ℕ) (ys : List ℕ) → go letter h (map plain ys) ≡ verdict_five (go letter h ys)

pub kind-five : (k : Kind) (h : ℕ) (s : List ℕ) (go : ℕ → ℕ → List ℕ → Verdict) → ((i : ℕ) → i < 4 * h → sextet s i < 64) → Inner go
    → judge_kind k h (map plain s) go ≡ verdict_five (judge_kind k h s go)
unfolding judge_kind verdict_five
kind-five (Fixed c) h s go low g =
    then-five _ _ _ _ (behind-five h s)
    (λ a. rw (whole h s low a) (then-five _ _ _ _ (unless-five 8 _ (λ e. omega arith)) (λ _. unless-five 10 _ (λ e. omega arith))))
kind-five (Variable t l m) h s go low g =
    then-five _ _ _ _ (behind-five h s)
    (λ a. rw (whole h s low a)
    (then-five _ _ _ _ (unless-five 18 _ (λ e. omega arith))
    (λ _. then-five _ _ _ _ (unless-five 9 _ (λ e. omega arith))
    (λ _. then-five _ _ _ _ (unless-five 8 _ (λ e. omega arith)) (λ _. unless-five 16 _ (λ e. omega arith))))))
kind-five (Group l) h s go low g = rw (← map-drop plain (4 * h) s) (g l h (drop (4 * h) s))
kind-five Genus h s go low g = refl
kind-five (Indexed c) h s go low g =
    then-five _ _ _ _ (behind-five h s)
    (λ a. rw (whole h s low a) (then-five _ _ _ _ (unless-five 8 _ (λ e. omega arith)) (λ _. unless-five 15 _ (λ e. omega arith))))

by-five : (t : Bool) (s : List ℕ) (go : ℕ → ℕ → List ℕ → Verdict) → Inner go → (r : Framed) → frame_by t s ≡ r
    → judge_by (framed_five r) (map plain s) go ≡ verdict_five (judge_by r s go)
unfolding judge_by framed_five verdict_five
by-five t s go g (Item k h n) e = kind-five k h s go (header-known t s k h n e) g
by-five t s go g (Unframed n p) e = refl

-- ---- items one behind the other: any framing of elements that a mask f changes

unfoldable pub cut_five : (ℕ → ℕ) → Cut → Cut
cut_five f done = done
cut_five f (stopped n p r) = stopped (as_five n) p (map f r)
cut_five f (item i c) = item (map f i) (cut_five f c)

cut_by_lem : (f : ℕ → ℕ) (r : Framed) (xs : List ℕ) (go : List ℕ → Cut) → ((ys : List ℕ) → go (map f ys) ≡ cut_five f (go ys))
    → cut_by (framed_five r) (map f xs) go ≡ cut_five f (cut_by r xs go)
unfolding cut_by framed_five cut_five
cut_by_lem f (Item k h n) xs go g = rw (← map-take f n xs, ← map-drop f n xs) (ap (item (map f (take n xs))) (g (drop n xs)))
cut_by_lem f (Unframed n p) xs go g = refl

module _ (f : ℕ → ℕ) (frame' : List ℕ → Framed) (e : (xs : List ℕ) → frame' (map f xs) ≡ framed_five (frame' xs)) where
  turns-five : (t : ℕ) (xs : List ℕ) → cut_f frame' t (map f xs) ≡ cut_five f (cut_f frame' t xs)
  unfolding cut_f cut_five
  turns-five zero xs = refl
  turns-five (suc t) [] = refl
  turns-five (suc t) (x ∷ xs) = rw (e (x ∷ xs)) (cut_by_lem f (frame' (x ∷ xs)) (x ∷ xs) (λ ys. cut_f frame' t ys) (turns-five t))

  pub cut-five : (xs : List ℕ) → cut frame' (map f xs) ≡ cut_five f (cut frame' xs)
  unfolding cut
  cut-five xs = rw (length-map xs f) (turns-five (length xs) xs)

frame4-five : (t : Bool) (s : List ℕ) → frame4 t (map plain s) ≡ framed_five (frame4 t s)
unfolding frame4
frame4-five t s = rw (frame-five t s) (scale-five 4 (frame_by t s))

frame_next4-five : (t first : Bool) (s : List ℕ) → frame_next4 t first (map plain s) ≡ framed_five (frame_next4 t first s)
unfolding frame_next4
frame_next4-five t first s = rw (next-five t first s) (scale-five 4 (frame_next t first s))

contents-five : (t first : Bool) (s : List ℕ) → contents t first (map plain s) ≡ cut_five plain (contents t first s)
unfolding contents cut_five
contents-five t first [] = refl
contents-five t first (x ∷ s) =
    rw (frame_next4-five t first (x ∷ s))
    (cut_by_lem plain (frame_next4 t first (x ∷ s)) (x ∷ s) (cut (frame4 t)) (cut-five plain (frame4 t) (frame4-five t)))

turn-five : (j : List ℕ → Verdict) → ((s : List ℕ) → j (map plain s) ≡ verdict_five (j s)) → (c : Cut)
    → in_turn j (cut_five plain c) ≡ verdict_five (in_turn j c)
unfolding in_turn cut_five verdict_five
turn-five j h done = refl
turn-five j h (stopped n p r) = refl
turn-five j h (item i c) =
    then-five _ _ _ _ (h i)
    (λ _. rw (length-map i plain, turn-five j h c) (shift-five (length i) (in_turn j c)))

-- ---- groups

pub check-five : (l : ℕ) → Inner (own_check l)
unfolding own_check verdict_five as_five
check-five zero letter h ys = refl
check-five (suc l) letter h ys = rw (length-map ys plain) (unless-five 18 _ (λ e. omega arith))

judge-by-five : (t : Bool) (go : ℕ → ℕ → List ℕ → Verdict) → Inner go → (s : List ℕ)
    → judge_by (frame_by t (map plain s)) (map plain s) go ≡ verdict_five (judge_by (frame_by t s) s go)
judge-by-five t go g s = rw (frame-five t s) (by-five t s go g (frame_by t s) refl)

within-five : (t : Bool) (go : ℕ → ℕ → List ℕ → Verdict) → Inner go → (first : Bool) (ys : List ℕ)
    → in_turn (λ zs. judge_by (frame_by t zs) zs go) (contents t first (map plain ys))
    ≡ verdict_five (in_turn (λ zs. judge_by (frame_by t zs) zs go) (contents t first ys))
within-five t go g first ys =
    ap (in_turn (λ zs. judge_by (frame_by t zs) zs go)) (contents-five t first ys)
    ∙ turn-five (λ zs. judge_by (frame_by t zs) zs go) (judge-by-five t go g) (contents t first ys)

group-five : (l : ℕ) → Inner (group l)
unfolding group verdict_five
group-five zero letter h ys = check-five zero letter h ys
group-five (suc l) letter h ys =
    let t = is_indexed letter in
    then-five _ _ _ _ (check-five (suc l) letter h ys)
    (λ _. ap (shift (4 * h)) (within-five t (group l) (group-five l) (is_overrideable letter) ys)
    ∙ shift-five (4 * h) (in_turn (λ zs. judge_by (frame_by t zs) zs (group l)) (contents t (is_overrideable letter) ys)))

pub judge-five : (l : ℕ) (s : List ℕ) → judge l (map plain s) ≡ verdict_five (judge l s)
unfolding judge_with
judge-five l s = judge-by-five false (group l) (group-five l) s
