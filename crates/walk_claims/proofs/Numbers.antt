-- 1 and 13 are given for nothing else: what framing and judging refuse has a number from 4 on, and not 13. Assumes nothing.
use Rattle.std.specs.Prelude.{ℕ, zero, suc, ◌+◌, ◌*◌, ◌/◌, ◌≤◌, ◌<◌, ◌≡◌, refl, List, [], ◌∷◌, Bool, true, false, not, length, T, ltb, eqb}
use Rattle.std.proofs.Common.{ap, subst, lt-ltb, le-ltb}
use native.Mathlib.Omega.{arith}
use Rattle.base.specs.Pick.{pick-by}
use Rattle.base.specs.Table.{both}
use Rattle.format.specs.declared.Kind.{Kind}
use Rattle.format.specs.declared.Kind.TheVariants.{Fixed, Variable, Group, Genus, Indexed}
use Rattle.format.specs.declared.Opening.{Opening}
use Rattle.format.specs.declared.Opening.TheVariants.{Unknown, Short, Long, LargeVariable, LargeGroup, Version}
use Rattle.format.specs.declared.Framed.{Framed}
use Rattle.format.specs.declared.Framed.TheVariants.{Item, Unframed}
use Rattle.format.specs.declared.Verdict.{Verdict}
use Rattle.format.specs.declared.Verdict.TheVariants.{Accepted, Refused}
use Rattle.format.specs.Units.{Domain}
use Rattle.format.specs.Alphabet.{ordinary, stranger_number}
use Rattle.format.specs.Framing.{fit, second, headed, frame_with, is_ours, ruled, sextet, frame_by, frame_next}
use Rattle.format.specs.Registry.{opening_by}
use Rattle.format.specs.Judging.{shift, and_then, unless, scan, behind, judge_kind, own_check}
use Rattle.laws.specs.Framing.{known_by, by-with}
use Rattle.walk_state.specs.declared.Walk.{Walk}
use Rattle.walk_state.specs.declared.Found.{Found}
use Rattle.walk_state.specs.declared.Found.TheVariants as F
use Rattle.walk_state.specs.Walking.{is_fit, stop_of, found_in, step, step_in}
use Rattle.walk_claims.specs.Words.{units_in, tail_of}
use Rattle.laws.specs.Levels.{part}
use Rattle.walk_claims.proofs.Steps.{asked, step_by, in-by}

-- a test, so that `tt` answers it of any number that framing or judging gives
abbrev Own : ℕ → Type 0
Own n = T (both (ltb 3 n) (not (eqb n 13)))

stranger-own : (v : ℕ) → Own (stranger_number v)
unfolding stranger_number
stranger-own v = pick-by Own (eqb v ordinary) 19 5 (λ _. tt) (λ _. tt)

-- ---- framing

abbrev Framing : Framed → Type 0
Framing (Item k h n) = Unit {0}
Framing (Unframed n p) = Own n

fit-own : (k : Kind) (h n len : ℕ) → Framing (fit k h n len)
unfolding fit
fit-own k h n len = pick-by Framing (ltb len n) _ _ (λ _. tt) (λ _. tt)

second-own : (at : ℕ → ℕ) (len : ℕ) (k : Kind) (n : ℕ) → Framing (second at len (fit k 2 n len))
unfolding second
second-own at len k n =
    pick-by Framing (ltb len 2) _ _ (λ _. tt)
    (λ _. known_by Framing at 4 _ (λ j b. stranger-own (at j)) (λ _. fit-own k 2 n len))

headed-own : (o : Opening) (at : ℕ → ℕ) (len : ℕ) → Framing (headed o at len)
unfolding headed
headed-own Unknown at len = tt
headed-own (Short k n) at len = fit-own k 1 n len
headed-own (Long k n) at len = second-own at len _ _
headed-own (LargeVariable t l) at len = second-own at len _ _
headed-own (LargeGroup l d) at len = second-own at len _ _
headed-own Version at len = second-own at len _ _

with-own : (op : ℕ → ℕ → ℕ → ℕ → Opening) (s : List ℕ) → Framing (frame_with op (sextet s) (length s / 4))
unfolding frame_with
with-own op s =
    pick-by Framing (ltb (length s / 4) 1) _ _ (λ _. tt)
    (λ _. known_by Framing (sextet s) 0 _ (λ j b. stranger-own (sextet s j)) (λ _. headed-own _ (sextet s) _))

frame-own : (t : Bool) (s : List ℕ) → Framing (frame_by t s)
frame-own t s = rw (by-with t s) (with-own (opening_by t) s)

ruled-own : (at : ℕ → ℕ) (r : Framed) → Framing r → Framing (ruled at r)
unfolding ruled
ruled-own at (Unframed n p) f = f
ruled-own at (Item (Fixed c) h n) f = tt
ruled-own at (Item (Variable t l m) h n) f = tt
ruled-own at (Item (Group l) h n) f = tt
ruled-own at (Item (Indexed c) h n) f = tt
ruled-own at (Item Genus h n) f = pick-by Framing (is_ours at) (Item Genus h n) (Unframed 7 0) (λ _. tt) (λ _. tt)

next-own : (t first : Bool) (s : List ℕ) → Framing (frame_next t first s)
unfolding frame_next
next-own t true s = ruled-own (sextet s) (frame_by t s) (frame-own t s)
next-own t false s = frame-own t s

-- ---- judging

abbrev Judging : Verdict → Type 0
Judging Accepted = Unit {0}
Judging (Refused n p) = Own n

shift-own : (o : ℕ) (v : Verdict) → Judging v → Judging (shift o v)
unfolding shift
shift-own o Accepted j = tt
shift-own o (Refused n p) j = j

then-own : (v w : Verdict) → Judging v → Judging w → Judging (and_then v w)
unfolding and_then
then-own Accepted w a b = b
then-own (Refused n p) w a b = a

unless-own : (n : ℕ) (b : Bool) → Own n → Judging (unless n b)
unfolding unless
unless-own n true o = tt
unless-own n false o = o

scan-own : (s : List ℕ) → Judging (scan s)
unfolding scan
scan-own [] = tt
scan-own (x ∷ s) = pick-by Judging (ltb x 64) _ _ (λ _. shift-own 1 (scan s) (scan-own s)) (λ _. stranger-own x)

kind-own : (k : Kind) (h l : ℕ) (s : List ℕ) → Judging (judge_kind k h s (own_check l))
unfolding judge_kind behind own_check
kind-own (Fixed c) h l s =
    then-own _ _ (shift-own (4 * h) _ (scan-own _))
    (then-own _ _ (unless-own 8 _ tt) (unless-own 10 _ tt))
kind-own (Variable t v c) h l s =
    then-own _ _ (shift-own (4 * h) _ (scan-own _))
    (then-own _ _ (unless-own 18 _ tt) (then-own _ _ (unless-own 9 _ tt) (then-own _ _ (unless-own 8 _ tt) (unless-own 16 _ tt))))
kind-own (Group letter) h zero s = tt
kind-own (Group letter) h (suc l) s = unless-own 18 _ tt
kind-own (Indexed c) h l s =
    then-own _ _ (shift-own (4 * h) _ (scan-own _)) (then-own _ _ (unless-own 8 _ tt) (unless-own 15 _ tt))
kind-own Genus h l s = tt

-- ---- a step

-- 1 is given for a long stream, 13 for a state that is not fit, and no other number is either
abbrev Numbered : Domain → List ℕ → Walk → Found ℕ → Type 0
Numbered d xs w (F.Item o n e k h) = Unit {0}
Numbered d xs w (F.Refused m p) = (m ≡ 1 → d.limit < length xs) × (m ≡ 13 → (length xs ≤ d.limit) × (is_fit w (units_in d xs) ≡ false))
Numbered d xs w F.End = Unit {0}

module _ (d : Domain) (xs : List ℕ) (w : Walk) where
  own-numbered : (m : ℕ) → Own m → Numbered d xs w (F.Refused m 0)
  own-numbered m o = (λ e. absurd (rw e at o), λ e. absurd (rw e at o))

  pub numbered : Numbered d xs w (step_in d xs w).found
  unfolding found_in
  numbered =
      in-by d xs w (λ r. Numbered d xs w r.found) (λ l. (λ _. l, λ e. absurd (omega arith)))
      (λ l u. (λ e. absurd (omega arith), λ _. (l, u)))
      (λ l _. step_by (d.sextets xs) (units_in d xs) (tail_of d xs) w (λ r. Numbered d xs w (found_in d.unit r.found))
      (λ _ _. own-numbered 4 tt) (λ _ _. tt)
      (λ m p _ e. own-numbered m (subst Framing e (next-own w.indexed (asked w) (part (d.sextets xs) w.at (stop_of w (units_in d xs))))))
      (λ k h m q p _ _ e. own-numbered q (subst Judging e (kind-own k h _ _)))
      (λ k h m _ _ _. tt))

  numbered-at : (f : Found ℕ) (m p : ℕ) → f ≡ F.Refused m p → Numbered d xs w f → Numbered d xs w (F.Refused m p)
  numbered-at f m p e n = subst (Numbered d xs w) e n

  pub only-long : (p : ℕ) → (step_in d xs w).found ≡ F.Refused 1 p → d.limit < length xs
  only-long p e = (numbered-at _ 1 p e numbered).0 refl

  pub only-unfit : (p : ℕ) → (step_in d xs w).found ≡ F.Refused 13 p → (length xs ≤ d.limit) × (is_fit w (units_in d xs) ≡ false)
  only-unfit p e = (numbered-at _ 13 p e numbered).1 refl

  pub long-one : d.limit < length xs → step_in d xs w ≡ record { next = w; found = F.Refused 1 0 }
  unfolding step_in
  long-one l = rw (lt-ltb d.limit (length xs) l)

  pub unfit-thirteen : length xs ≤ d.limit → is_fit w (units_in d xs) ≡ false → step_in d xs w ≡ record { next = w; found = F.Refused 13 0 }
  unfolding step_in step found_in
  unfit-thirteen l u =
      let z : 0 * d.unit + 0 ≡ 0 = omega arith in
      rw (le-ltb d.limit (length xs) l, u) (ap (λ (p : ℕ). record { next = w; found = F.Refused 13 p }) z)
