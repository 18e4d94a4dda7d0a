-- A 5 or a 19 stands at the place of a character outside the alphabet, and is that character's number: of framing, of judging at every
-- depth, and of each row of a report. Assumes nothing.
use Prim.Native.Nat.{ℕ, zero, suc, ◌+◌, ◌*◌, ◌/◌, ◌%◌, ◌<◌, ◌≤◌}
use Rattle.std.specs.Prelude.{◌≡◌, refl, Bool, ltb, length, get_or, take, drop}
use Rattle.std.proofs.Common.{ap, subst, ◌∙◌, ⊎_elim, arith, div-add-mod', ltb-false, length-append, length-drop, take-append-drop, get_or-drop, get_or-append-add}
use Rattle.std.proofs.Math.Path.{sym}
use mathlib.Core.List.{List, [], ◌∷◌, ◌++◌, append_assoc}
use Rattle.std.proofs.Math.Bool.{true, false}
use Rattle.std.proofs.lemmas.List.{length-map}
use Rattle.std.proofs.Math.ListN.{get_or-append, get_or-eq_default}
use Rattle.base.specs.Pick.{pick, pick-by}
use Rattle.base.specs.Cases.{lt-or-ge}
use Rattle.format.specs.declared.Kind.{Kind}
use Rattle.format.specs.declared.Kind.TheVariants.{Fixed, Variable, Group, Genus, Indexed}
use Rattle.format.specs.declared.Opening.{Opening}
use Rattle.format.specs.declared.Opening.TheVariants.{Unknown, Short, Long, LargeVariable, LargeGroup, Version}
use Rattle.format.specs.declared.Framed.{Framed}
use Rattle.format.specs.declared.Framed.TheVariants.{Item, Unframed}
use Rattle.format.specs.declared.Verdict.{Verdict}
use Rattle.format.specs.declared.Verdict.TheVariants.{Accepted, Refused}
use Rattle.format.specs.Alphabet.{sextet_of, stranger_number}
use Rattle.format.specs.Units.{text, text_sextets}
use Rattle.format.specs.Registry.{is_indexed, is_overrideable, opening_by}
use Rattle.format.specs.Framing.{fit, second, headed, frame_with, is_ours, ruled, sextet, frame, frame_by, frame_next, frame_ruled, scale}
use Rattle.format.specs.Cutting.{Cut, cut_by, cut_f, cut}
use Rattle.format.specs.Cutting.Cut.{done, stopped, item}
use Rattle.format.specs.Judging.{shift, and_then, unless, scan, behind, judge_kind, judge_by, in_turn, frame4, frame_next4, contents}
use Rattle.format.specs.Judging.{own_check, group, judge_with, judge, max_depth}
use Rattle.format.specs.Report.{ItemRow, RefusalRow, rows_of, refusal, refusals_of, rows, refusals, placed, frame_in, judge_in, rows_in, refusals_in}
use Rattle.laws.specs.Framing.{known_by, by-with}
use Rattle.laws.specs.Local.{text-sextet}
use Rattle.ordinary.specs.Words.{as_five, Each}

-- ---- a number at a place of a list, v being the value of an element

abbrev pub Shown : (ℕ → ℕ) → List ℕ → ℕ → ℕ → Type 0
Shown v s n p = as_five n ≡ 5 → (p < length s) × (n ≡ stranger_number (v (get_or s p 0)))

-- any other number says nothing
unfoldable is_other : ℕ → Type 0
is_other n = as_five n ≡ 5 → ⊥

module _ (v : ℕ → ℕ) where
  other : (n : ℕ) (s : List ℕ) (p : ℕ) → is_other n → Shown v s n p
  unfolding is_other
  other n s p o e = absurd (o e)

  front : (i t : List ℕ) (n p : ℕ) → Shown v i n p → Shown v (i ++ t) n p
  front i t n p h e =
      let q = h e in
      (omega (arith, q.0, length-append i t), rw (get_or-append i t 0 p q.0) q.1)

  back : (i t : List ℕ) (n p : ℕ) → Shown v t n p → Shown v (i ++ t) n (length i + p)
  back i t n p h e =
      let q = h e in
      (omega (arith, q.0, length-append i t), rw (get_or-append-add i t p 0) q.1)

  pub behind-shown : (k : ℕ) (s : List ℕ) (n p : ℕ) → Shown v (drop k s) n p → Shown v s n (k + p)
  behind-shown k s n p h e =
      let q = h e in
      (omega (arith, q.0, length-drop k s), rw (← get_or-drop k s p 0) q.1)

  pub within-shown : (k : ℕ) (s : List ℕ) (n p : ℕ) → Shown v (take k s) n p → Shown v s n p
  within-shown k s n p h = subst (λ (l : List ℕ). Shown v l n p) (take-append-drop k s) (front (take k s) (drop k s) n p h)

  -- ---- verdicts and frames

  abbrev pub On : List ℕ → Verdict → Type 0
  On s Accepted = Unit {0}
  On s (Refused n p) = Shown v s n p

  abbrev pub FramedOn : List ℕ → Framed → Type 0
  FramedOn s (Item k h n) = Unit {0}
  FramedOn s (Unframed n p) = Shown v s n p

  on-front : (i t : List ℕ) (w : Verdict) → On i w → On (i ++ t) w
  on-front i t Accepted o = tt
  on-front i t (Refused n p) o = front i t n p o

  on-back : (i t : List ℕ) (w : Verdict) → On t w → On (i ++ t) (shift (length i) w)
  unfolding shift
  on-back i t Accepted o = tt
  on-back i t (Refused n p) o = back i t n p o

  on-behind : (k : ℕ) (s : List ℕ) (w : Verdict) → On (drop k s) w → On s (shift k w)
  unfolding shift
  on-behind k s Accepted o = tt
  on-behind k s (Refused n p) o = behind-shown k s n p o

  pub on-within : (k : ℕ) (s : List ℕ) (w : Verdict) → On (take k s) w → On s w
  on-within k s Accepted o = tt
  on-within k s (Refused n p) o = within-shown k s n p o

  then-on : (s : List ℕ) (a b : Verdict) → On s a → On s b → On s (and_then a b)
  unfolding and_then
  then-on s Accepted b o q = q
  then-on s (Refused n p) b o q = o

  unless-on : (s : List ℕ) (n : ℕ) (b : Bool) → is_other n → On s (unless n b)
  unfolding unless
  unless-on s n true o = tt
  unless-on s n false o = other n s 0 o

  -- ---- items one behind the other

  abbrev pub Of : List ℕ → Cut → Type 0
  Of s done = Unit {0}
  Of s (stopped n p r) = Shown v s n p
  Of s (item i c) = (t : List ℕ) × (s ≡ i ++ t) × Of t c

  of-by : (s : List ℕ) (r : Framed) → FramedOn s r → (go : List ℕ → Cut) → ((ys : List ℕ) → Of ys (go ys)) → Of s (cut_by r s go)
  unfolding cut_by
  of-by s (Item k h n) f go g = (drop n s, sym (take-append-drop n s), g (drop n s))
  of-by s (Unframed n p) f go g = f

  module _ (frame' : List ℕ → Framed) (on : (s : List ℕ) → FramedOn s (frame' s)) where
    of_turns : (t : ℕ) (s : List ℕ) → Of s (cut_f frame' t s)
    unfolding cut_f
    of_turns zero s = tt
    of_turns (suc t) [] = tt
    of_turns (suc t) (x ∷ s) = of-by (x ∷ s) (frame' (x ∷ s)) (on (x ∷ s)) (λ ys. cut_f frame' t ys) (of_turns t)

    pub of_cut : (s : List ℕ) → Of s (cut frame' s)
    unfolding cut
    of_cut s = of_turns (length s) s

  turn_on : (j : List ℕ → Verdict) → ((s : List ℕ) → On s (j s)) → (s : List ℕ) (c : Cut) → Of s c → On s (in_turn j c)
  unfolding in_turn
  turn_on j h s done o = tt
  turn_on j h s (stopped n p r) o = o
  turn_on j h s (item i c) (t, e, o) =
      rw e (then-on (i ++ t) (j i) (shift (length i) (in_turn j c)) (on-front i t (j i) (h i)) (on-back i t (in_turn j c) (turn_on j h t c o)))

-- ---- framing of sextets, which are their own values

abbrev own : ℕ → ℕ
own x = x

bad-on : (s : List ℕ) (j : ℕ) → ltb (sextet s j) 64 ≡ false → Shown own s (stranger_number (sextet s j)) j
bad-on s j b e =
    (⊎_elim (λ l. l) (λ g. absurd (omega (arith, ltb-false (sextet s j) 64 b, get_or-eq_default s 0 {n = j} g))) (lt-or-ge j (length s)), refl)

four : is_other 4
unfolding is_other as_five
four e = omega arith

fit_on : (s : List ℕ) (k : Kind) (h n len : ℕ) → FramedOn own s (fit k h n len)
unfolding fit
fit_on s k h n len = pick-by (FramedOn own s) (ltb len n) (Unframed 4 0) (Item k h n) (λ _. other own 4 s 0 four) (λ _. tt)

second-on : (s : List ℕ) (len : ℕ) (next : Framed) → FramedOn own s next → FramedOn own s (second (sextet s) len next)
unfolding second
second-on s len next f =
    pick-by (FramedOn own s) (ltb len 2) (Unframed 4 0) _ (λ _. other own 4 s 0 four)
    (λ _. known_by (FramedOn own s) (sextet s) 4 next (bad-on s) (λ _. f))

headed-on : (s : List ℕ) (o : Opening) (len : ℕ) → FramedOn own s (headed o (sextet s) len)
unfolding headed is_other as_five
headed-on s Unknown len = other own 6 s 0 (λ e. omega arith)
headed-on s (Short k n) len = fit_on s k 1 n len
headed-on s (Long k n) len = second-on s len _ (fit_on s _ 2 _ len)
headed-on s (LargeVariable t l) len = second-on s len _ (fit_on s _ 2 _ len)
headed-on s (LargeGroup l d) len = second-on s len _ (fit_on s _ 2 _ len)
headed-on s Version len = second-on s len _ (fit_on s _ 2 _ len)

with-on : (op : ℕ → ℕ → ℕ → ℕ → Opening) (s : List ℕ) → FramedOn own s (frame_with op (sextet s) (length s / 4))
unfolding frame_with
with-on op s =
    pick-by (FramedOn own s) (ltb (length s / 4) 1) (Unframed 4 0) _ (λ _. other own 4 s 0 four)
    (λ _. known_by (FramedOn own s) (sextet s) 0 _ (bad-on s) (λ _. headed-on s _ _))

-- by either table
pub frame_on : (t : Bool) (s : List ℕ) → FramedOn own s (frame_by t s)
frame_on t s = rw (by-with t s) (with-on (opening_by t) s)

ruled-on : (s : List ℕ) (r : Framed) → FramedOn own s r → FramedOn own s (ruled (sextet s) r)
unfolding ruled is_other as_five
ruled-on s (Unframed n p) f = f
ruled-on s (Item (Fixed c) h n) f = tt
ruled-on s (Item (Variable t l m) h n) f = tt
ruled-on s (Item (Group l) h n) f = tt
ruled-on s (Item (Indexed c) h n) f = tt
ruled-on s (Item Genus h n) f =
    pick-by (FramedOn own s) (is_ours (sextet s)) (Item Genus h n) (Unframed 7 0) (λ _. tt) (λ _. other own 7 s 0 (λ e. omega arith))

pub next-on : (t first : Bool) (s : List ℕ) → FramedOn own s (frame_next t first s)
unfolding frame_next
next-on t true s = ruled-on s (frame_by t s) (frame_on t s)
next-on t false s = frame_on t s

frame_ruled-on : (s : List ℕ) → FramedOn own s (frame_ruled s)
unfolding frame_ruled frame_next
frame_ruled-on s = next-on false true s

scale-on : (v : ℕ → ℕ) (u : ℕ) (s : List ℕ) (r : Framed) → FramedOn v s r → FramedOn v s (scale u r)
unfolding scale
scale-on v u s (Item k h n) f = tt
scale-on v u s (Unframed n p) f = f

-- ---- judging of sextets

scan-on : (s : List ℕ) → On own s (scan s)
unfolding scan
scan-on [] = tt
scan-on (x ∷ s) =
    pick-by (On own (x ∷ s)) (ltb x 64) _ _ (λ _. on-behind own 1 (x ∷ s) (scan s) (scan-on s)) (λ b. bad-on (x ∷ s) 0 b)

behind-on : (h : ℕ) (s : List ℕ) → On own s (behind h s)
unfolding behind
behind-on h s = on-behind own (4 * h) s (scan (drop (4 * h) s)) (scan-on (drop (4 * h) s))

-- a group's contents, from the group's start on
abbrev pub Inner : (ℕ → ℕ → List ℕ → Verdict) → Type 0
Inner go = (letter h : ℕ) (s : List ℕ) → On own s (go letter h (drop (4 * h) s))

pub kind-on : (k : Kind) (h : ℕ) (s : List ℕ) (go : ℕ → ℕ → List ℕ → Verdict) → Inner go → On own s (judge_kind k h s go)
unfolding judge_kind is_other as_five
kind-on (Fixed c) h s go g =
    then-on own s _ _ (behind-on h s)
    (then-on own s _ _ (unless-on own s 8 _ (λ e. omega arith)) (unless-on own s 10 _ (λ e. omega arith)))
kind-on (Variable t l m) h s go g =
    then-on own s _ _ (behind-on h s)
    (then-on own s _ _ (unless-on own s 18 _ (λ e. omega arith))
    (then-on own s _ _ (unless-on own s 9 _ (λ e. omega arith))
    (then-on own s _ _ (unless-on own s 8 _ (λ e. omega arith)) (unless-on own s 16 _ (λ e. omega arith)))))
kind-on (Group l) h s go g = g l h s
kind-on Genus h s go g = tt
kind-on (Indexed c) h s go g =
    then-on own s _ _ (behind-on h s)
    (then-on own s _ _ (unless-on own s 8 _ (λ e. omega arith)) (unless-on own s 15 _ (λ e. omega arith)))

by-on : (s : List ℕ) (go : ℕ → ℕ → List ℕ → Verdict) → Inner go → (r : Framed) → FramedOn own s r → On own s (judge_by r s go)
unfolding judge_by
by-on s go g (Item k h n) f = kind-on k h s go g
by-on s go g (Unframed n p) f = f

frame4-on : (t : Bool) (s : List ℕ) → FramedOn own s (frame4 t s)
unfolding frame4
frame4-on t s = scale-on own 4 s (frame_by t s) (frame_on t s)

contents-of : (t first : Bool) (s : List ℕ) → Of own s (contents t first s)
unfolding contents frame_next4
contents-of t first [] = tt
contents-of t first (x ∷ s) =
    of-by own (x ∷ s) (frame_next4 t first (x ∷ s)) (scale-on own 4 (x ∷ s) (frame_next t first (x ∷ s)) (next-on t first (x ∷ s))) (cut (frame4 t))
    (of_cut own (frame4 t) (frame4-on t))

pub check-on : (l : ℕ) → Inner (own_check l)
unfolding own_check is_other as_five
check-on zero letter h s = other own 11 s 0 (λ e. omega arith)
check-on (suc l) letter h s = unless-on own s 18 _ (λ e. omega arith)

group-on : (l : ℕ) → Inner (group l)
unfolding group
group-on zero letter h s = check-on zero letter h s
group-on (suc l) letter h s =
    let t = is_indexed letter in
    let j : List ℕ → Verdict = λ zs. judge_by (frame_by t zs) zs (group l) in
    let c : Cut = contents t (is_overrideable letter) (drop (4 * h) s) in
    then-on own s _ _ (check-on (suc l) letter h s)
    (on-behind own (4 * h) s (in_turn j c)
    (turn_on own j (λ zs. by-on zs (group l) (group-on l) (frame_by t zs) (frame_on t zs)) (drop (4 * h) s) c
    (contents-of t (is_overrideable letter) (drop (4 * h) s))))

judge-on : (l : ℕ) (s : List ℕ) → On own s (judge l s)
unfolding judge_with
judge-on l s = by-on s (group l) (group-on l) (frame s) (frame_on false s)

-- ---- a text's characters

pub in-text : (s : List ℕ) (n p : ℕ) → Shown own (text_sextets s) n p → Shown sextet_of s n p
unfolding text_sextets
in-text s n p h e =
    let q = h e in
    let l : p < length s = omega (arith, q.0, length-map s sextet_of) in
    (l, q.1 ∙ ap stranger_number (text-sextet s p l))

text-on : (s : List ℕ) (w : Verdict) → On own (text_sextets s) w → On sextet_of s w
text-on s Accepted o = tt
text-on s (Refused n p) o = in-text s n p o

text-framed : (s : List ℕ) (r : Framed) → FramedOn own (text_sextets s) r → FramedOn sextet_of s r
text-framed s (Item k h n) f = tt
text-framed s (Unframed n p) f = in-text s n p f

pub framed-on : (s : List ℕ) → FramedOn sextet_of s (frame_in text s)
unfolding frame_in
framed-on s = scale-on sextet_of 4 s _ (text-framed s (frame_ruled (text_sextets s)) (frame_ruled-on (text_sextets s)))

-- places of a text are counted in characters as in sextets
placed_on : (v : ℕ → ℕ) (s : List ℕ) (w : Verdict) → On v s w → On v s (placed 4 w)
unfolding placed
placed_on v s Accepted o = tt
placed_on v s (Refused n p) o = rw (div-add-mod' p 4) o

pub judged-on : (s : List ℕ) → On sextet_of s (judge_in text s)
unfolding judge_in
judged-on s = placed_on sextet_of s _ (text-on s (judge max_depth (text_sextets s)) (judge-on max_depth (text_sextets s)))

-- ---- a report's rows: the items of what stands behind some characters

rows-of : (a u : List ℕ) (o : ℕ) → length a ≡ o → (c : Cut) → Of sextet_of u c
    → Each (λ r. On sextet_of (a ++ u) r.verdict) (rows_of (judge_in text) o c)
unfolding rows_of
rows-of a u o e done f = tt
rows-of a u o e (stopped n p r) f = tt
rows-of a u o e (item i c) (t, q, f) =
    subst (λ (l : List ℕ). Each (λ r. On sextet_of (a ++ l) r.verdict) (rows_of (judge_in text) o (item i c))) (sym q) (
      rw (← e) (on-back sextet_of a (i ++ t) (judge_in text i) (on-front sextet_of i t (judge_in text i) (judged-on i))),
      subst (λ (l : List ℕ). Each (λ r. On sextet_of l r.verdict) (rows_of (judge_in text) (o + length i) c)) (append_assoc a i t)
          (rows-of (a ++ i) t (o + length i) (rw (length-append a i, e)) c f),
    )

pub rows_on : (s : List ℕ) → Each (λ r. On sextet_of s r.verdict) (rows_in text s)
unfolding rows
rows_on s = rows-of [] s 0 refl (cut (frame_in text) s) (of_cut sextet_of (frame_in text) framed-on s)
