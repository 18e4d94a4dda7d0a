-- The place of an item's refusal lies in the item, or no more than two units behind it: one bound over all of judging. Assumes nothing.
use Prim.Native.Nat.{ℕ, zero, suc, ◌+◌, ◌-◌, ◌*◌, ◌/◌, ◌≤◌}
use mathlib.Core.Path.{◌≡◌}
use mathlib.Core.Bool.{Bool, true, false}
use mathlib.Core.List.{List, [], ◌∷◌}
use native.Mathlib.Omega.{arith}
use lib.ListN.{length, take, drop, length-take, length-drop}
use Rattle.format.specs.declared.Form.{Form}
use Rattle.format.specs.declared.Form.TheVariants.{Text, Binary}
use Rattle.format.specs.declared.Kind.{Kind}
use Rattle.format.specs.declared.Kind.TheVariants.{Fixed, Variable, Group, Genus, Indexed}
use Rattle.format.specs.declared.Framed.{Framed}
use Rattle.format.specs.declared.Framed.TheVariants.{Item, Unframed}
use Rattle.format.specs.declared.Verdict.{Verdict}
use Rattle.format.specs.declared.Verdict.TheVariants.{Accepted, Refused}
use Rattle.format.specs.Registry.{is_indexed, is_overrideable, opening_by}
use Rattle.format.specs.Units.{domain}
use Rattle.format.specs.Framing.{sextet, frame_with, frame_by, scale}
use Rattle.format.specs.Cutting.{Cut, cut_by, cut_f, cut}
use Rattle.format.specs.Cutting.Cut.{done, stopped, item}
use Rattle.format.specs.Judging.{shift, and_then, unless, is_shortest, judge_kind, judge_by, in_turn, frame4, frame_next4, contents, own_check, group, judge_with, max_depth}
use Rattle.format.specs.Report.{placed, judge_in}
use Rattle.laws.specs.Framing.{Good, by-good}
use Rattle.laws.specs.Domains.{reader}
use Rattle.judging.proofs.Bounds.{Head, by-head, next-head, Near, own-near}
use Rattle.report_found.specs.Limits.{longest}
use Rattle.mixed_item.specs.Items.{farthest}

-- ---- verdicts

shift-near : (o n : ℕ) (v : Verdict) → Near n v → Near (o + n) (shift o v)
unfolding shift
shift-near o n Accepted h = tt
shift-near o n (Refused m p) h = omega arith

then-near : (n : ℕ) (v w : Verdict) → Near n v → Near n w → Near n (and_then v w)
unfolding and_then
then-near n Accepted w h k = k
then-near n (Refused m p) w h k = h

check-near : (l letter h n : ℕ) (s : List ℕ) → Near n (own_check l letter h s)
unfolding own_check unless
check-near zero letter h n s = omega arith
check-near (suc l) letter h n s = by (is_shortest h (length s / 4))
  where
    by : (b : Bool) → Near n (unless 18 b)
    by true = tt
    by false = omega arith

up : (m n : ℕ) (v : Verdict) → m ≤ n → Near m v → Near n v
up m n Accepted h k = tt
up m n (Refused x p) h k = omega arith

-- ---- items one by one

-- a framing's refusals lie in the header
abbrev Early : Framed → Type 0
Early (Item k h n) = Unit {0}
Early (Unframed m p) = p ≤ 7

early : (at : ℕ → ℕ) (f : Framed) → Head at f → Early (scale 4 f)
unfolding scale
early at (Item k h n) e = tt
early at (Unframed m p) e = e

-- items of no more than n sextets
abbrev Fits : ℕ → Cut → Type 0
Fits n done = Unit {0}
Fits n (stopped m p r) = p ≤ 7
Fits n (item i c) = (length i ≤ n) × Fits (n - length i) c

in-turn : (j : List ℕ → Verdict) → ((s : List ℕ) → Near (length s + 8) (j s)) → (n : ℕ) (c : Cut) → Fits n c → Near (n + 8) (in_turn j c)
unfolding in_turn
in-turn j h n done f = tt
in-turn j h n (stopped m p r) f = omega arith
in-turn j h n (item i c) f =
    let z : length i + (n - length i + 8) ≡ n + 8 = omega (arith, f.0) in
    then-near (n + 8) (j i) (shift (length i) (in_turn j c)) (up (length i + 8) (n + 8) (j i) (omega (arith, f.0)) (h i))
    (rw z at (shift-near (length i) (n - length i + 8) (in_turn j c) (in-turn j h (n - length i) c f.1)))

by_fits : (r : Framed) (s : List ℕ) (go : List ℕ → Cut) → Early r → ((ys : List ℕ) → Fits (length ys) (go ys)) → Fits (length s) (cut_by r s go)
unfolding cut_by
by_fits (Unframed m p) s go e g = e
by_fits (Item k h n) s go e g =
    let z : length (drop n s) ≡ length s - length (take n s) = omega (arith, length-take n s, length-drop n s) in
    (omega (arith, length-take n s), rw z at (g (drop n s)))

cut_fits : (f : List ℕ → Framed) → ((s : List ℕ) → Early (f s)) → (t : ℕ) (s : List ℕ) → Fits (length s) (cut_f f t s)
unfolding cut_f
cut_fits f e zero s = tt
cut_fits f e (suc t) [] = tt
cut_fits f e (suc t) (x ∷ s) = by_fits (f (x ∷ s)) (x ∷ s) (λ ys. cut_f f t ys) (e (x ∷ s)) (λ ys. cut_fits f e t ys)

contents-fit : (t first : Bool) (s : List ℕ) → Fits (length s) (contents t first s)
unfolding contents frame_next4 frame4 cut
contents-fit t first [] = tt
contents-fit t first (x ∷ s) =
    by_fits (frame_next4 t first (x ∷ s)) (x ∷ s) (cut (frame4 t)) (early (sextet (x ∷ s)) _ (next-head t first (x ∷ s)))
    (λ ys. cut_fits (frame4 t) (λ zs. early (sextet zs) _ (by-head t zs)) (length ys) ys)

-- ---- an item, and a group

-- by what judges a group's contents
abbrev Inner : (ℕ → ℕ → List ℕ → Verdict) → Type 0
Inner go = (letter h : ℕ) (ys : List ℕ) → Near (4 * h + (length ys + 8)) (go letter h ys)

kind-near : (k : Kind) (h : ℕ) (s : List ℕ) (go : ℕ → ℕ → List ℕ → Verdict) → h ≤ 2 → 4 * h ≤ length s → Inner go → Near (length s + 8) (judge_kind k h s go)
unfolding judge_kind
kind-near (Fixed c) h s go few l g = own-near (Fixed c) h 0 s few
kind-near (Variable t a b) h s go few l g = own-near (Variable t a b) h 0 s few
kind-near (Group letter) h s go few l g =
    let z : 4 * h + (length (drop (4 * h) s) + 8) ≡ length s + 8 = omega (arith, length-drop (4 * h) s) in
    rw z at (g letter h (drop (4 * h) s))
kind-near Genus h s go few l g = tt
kind-near (Indexed c) h s go few l g = own-near (Indexed c) h 0 s few

judge-near : (t : Bool) (s : List ℕ) (go : ℕ → ℕ → List ℕ → Verdict) → Inner go → Near (length s + 8) (judge_by (frame_by t s) s go)
unfolding judge_by
judge-near t s go g = by (frame_by t s) (by-good t s) (by-head t s)
  where
    by : (r : Framed) → Good (frame_with (opening_by t)) (sextet s) (length s / 4) r → Head (sextet s) r → Near (length s + 8) (judge_by r s go)
    by (Item k h n) w e = kind-near k h s go w.few (omega (arith, w.inside, w.room)) g
    by (Unframed m p) w e = omega arith

group-near : (l : ℕ) → Inner (group l)
unfolding group
group-near zero letter h ys = check-near zero letter h _ ys
group-near (suc l) letter h ys =
    then-near _ _ _ (check-near (suc l) letter h _ ys)
    (shift-near (4 * h) (length ys + 8) _
    (in-turn (λ zs. judge_by (frame_by (is_indexed letter) zs) zs (λ letter' h' ws. group l letter' h' ws))
    (λ zs. judge-near (is_indexed letter) zs (λ letter' h' ws. group l letter' h' ws) (group-near l))
    (length ys) (contents (is_indexed letter) (is_overrideable letter) ys) (contents-fit (is_indexed letter) (is_overrideable letter) ys)))

-- ---- in elements

placed-near : (f : Form) (n : ℕ) (v : Verdict) → Near n v → Near n (placed (domain f).unit v)
unfolding placed
placed-near f n Accepted h = tt
placed-near Text n (Refused m p) h = omega arith
placed-near Binary n (Refused m p) h = omega arith

sextets-few : (f : Form) (xs : List ℕ) → length xs ≤ longest → length ((domain f).sextets xs) + 8 ≤ farthest
sextets-few Text xs h = omega (arith, (reader Text).units xs)
sextets-few Binary xs h = omega (arith, (reader Binary).units xs)

pub judged-near : (f : Form) (xs : List ℕ) → length xs ≤ longest → Near farthest (judge_in (domain f) xs)
unfolding judge_in judge_with
judged-near f xs l =
    let s : List ℕ = (domain f).sextets xs in
    let v : Verdict = judge_by (frame_by false s) s (group max_depth) in
    placed-near f farthest v (up (length s + 8) farthest v (sextets-few f xs l) (judge-near false s (group max_depth) (group-near max_depth)))
