-- Where a refusal's place can lie: framing's in the header, an item's own in the item. Assumes nothing.
use mathlib.Core.Path.{◌≡◌}
use mathlib.Core.Bool.{Bool, true, false}
use mathlib.Core.List.{List, [], ◌∷◌}
use mathlib.Core.Logic.{⊎_elim}
use Prim.Native.Nat.{ℕ, zero, suc, ◌+◌, ◌-◌, ◌*◌, ◌/◌, ◌<◌, ◌≤◌}
use native.Mathlib.Omega.{arith}
use lib.Dec.{ltb}
use lib.ListN.{length, drop, length-drop}
use borrow.Author.Tests.{ltb-true}
use Rattle.base.specs.Pick.{pick-by}
use Rattle.base.specs.Cases.{lt-or-ge}
use Rattle.format.specs.declared.Kind.{Kind}
use Rattle.format.specs.declared.Kind.TheVariants.{Fixed, Variable, Group, Genus, Indexed}
use Rattle.format.specs.declared.Opening.{Opening}
use Rattle.format.specs.declared.Opening.TheVariants.{Unknown, Short, Long, LargeVariable, LargeGroup, Version}
use Rattle.format.specs.declared.Framed.{Framed}
use Rattle.format.specs.declared.Framed.TheVariants.{Item, Unframed}
use Rattle.format.specs.declared.Verdict.{Verdict}
use Rattle.format.specs.declared.Verdict.TheVariants.{Accepted, Refused}
use Rattle.format.specs.Registry.{opening_by}
use Rattle.format.specs.Framing.{fit, known, second, headed, frame_with, is_ours, ruled, sextet, frame_by, frame_next}
use Rattle.format.specs.Judging.{shift, and_then, unless, scan, behind, judge_kind, own_check}
use Rattle.laws.specs.Framing.{Known, by-with}

-- ---- framing: a place lies in the header, and a header that is framed is in the alphabet

abbrev pub Head : (ℕ → ℕ) → Framed → Type 0
Head at (Item k h n) = (i : ℕ) → i < 4 * h → at i < 64
Head at (Unframed m p) = p ≤ 7

known-head : (at : ℕ → ℕ) (i : ℕ) (next : Framed) → i ≤ 4 → (Known at i → Head at next) → Head at (known at i next)
unfolding known
known-head at i next l f =
    pick-by (Head at) (ltb (at i) 64) _ _
    (λ a. pick-by (Head at) (ltb (at (i + 1)) 64) _ _
    (λ b. pick-by (Head at) (ltb (at (i + 2)) 64) _ _
    (λ c. pick-by (Head at) (ltb (at (i + 3)) 64) _ _ (λ d. f (a, b, c, d)) (λ _. omega arith))
    (λ _. omega arith))
    (λ _. omega arith))
    (λ _. omega arith)

unit-known : (at : ℕ → ℕ) → Known at 0 → (i : ℕ) → i < 4 → at i < 64
unit-known at k zero h = ltb-true (at 0) 64 k.0
unit-known at k (suc zero) h = ltb-true (at 1) 64 k.1
unit-known at k (suc (suc zero)) h = ltb-true (at 2) 64 k.2
unit-known at k (suc (suc (suc zero))) h = ltb-true (at 3) 64 k.3
unit-known at k (suc (suc (suc (suc i)))) h = absurd (omega arith)

both-known : (at : ℕ → ℕ) → Known at 0 → Known at 4 → (i : ℕ) → i < 8 → at i < 64
both-known at k l i h =
    ⊎_elim (λ p. unit-known at k i p)
    (λ p. let e : i - 4 + 4 ≡ i = omega arith in rw (← e) (unit-known (λ j. at (j + 4)) l (i - 4) (omega arith))) (lt-or-ge i 4)

fit-head : (at : ℕ → ℕ) (k : Kind) (h n len : ℕ) → ((i : ℕ) → i < 4 * h → at i < 64) → Head at (fit k h n len)
unfolding fit
fit-head at k h n len f = pick-by (Head at) (ltb len n) _ _ (λ _. omega arith) (λ _. f)

second_head : (at : ℕ → ℕ) (k : Kind) (n len : ℕ) → Known at 0 → Head at (second at len (fit k 2 n len))
unfolding second
second_head at k n len a =
    pick-by (Head at) (ltb len 2) _ _ (λ _. omega arith)
    (λ _. known-head at 4 (fit k 2 n len) (omega arith) (λ b. fit-head at k 2 n len (λ i h. both-known at a b i (omega arith))))

headed-head : (at : ℕ → ℕ) (o : Opening) (len : ℕ) → Known at 0 → Head at (headed o at len)
unfolding headed
headed-head at Unknown len a = omega arith
headed-head at (Short k n) len a = fit-head at k 1 n len (λ i h. unit-known at a i (omega arith))
headed-head at (Long k n) len a = second_head at _ _ len a
headed-head at (LargeVariable t l) len a = second_head at _ _ len a
headed-head at (LargeGroup l d) len a = second_head at _ _ len a
headed-head at Version len a = second_head at _ _ len a

with-head : (op : ℕ → ℕ → ℕ → ℕ → Opening) (at : ℕ → ℕ) (len : ℕ) → Head at (frame_with op at len)
unfolding frame_with
with-head op at len =
    pick-by (Head at) (ltb len 1) _ _ (λ _. omega arith) (λ _. known-head at 0 _ (omega arith) (λ a. headed-head at _ len a))

ruled-head : (at : ℕ → ℕ) (f : Framed) → Head at f → Head at (ruled at f)
unfolding ruled
ruled-head at (Item (Fixed c) h n) k = k
ruled-head at (Item (Variable t l c) h n) k = k
ruled-head at (Item (Group l) h n) k = k
ruled-head at (Item Genus h n) k = pick-by (Head at) (is_ours at) _ _ (λ _. k) (λ _. omega arith)
ruled-head at (Item (Indexed c) h n) k = k
ruled-head at (Unframed m p) k = k

-- by either table, and where 7 may be asked
pub by-head : (t : Bool) (s : List ℕ) → Head (sextet s) (frame_by t s)
by-head t s = rw (by-with t s) (with-head (opening_by t) (sextet s) (length s / 4))

pub next-head : (t first : Bool) (s : List ℕ) → Head (sextet s) (frame_next t first s)
unfolding frame_next
next-head t true s = ruled-head (sextet s) (frame_by t s) (by-head t s)
next-head t false s = by-head t s

-- ---- judging: a place lies in the item, and what is accepted is in the alphabet behind the header

abbrev pub Near : ℕ → Verdict → Type 0
Near n Accepted = Unit {0}
Near n (Refused m p) = p ≤ n

shift-near : (o n : ℕ) (v : Verdict) → Near n v → Near (o + n) (shift o v)
unfolding shift
shift-near o n Accepted h = tt
shift-near o n (Refused m p) h = omega arith

scan-near : (s : List ℕ) → Near (length s) (scan s)
unfolding scan
scan-near [] = tt
scan-near (x ∷ s) =
    let z : 1 + length s ≡ suc (length s) = omega arith in
    pick-by (Near (suc (length s))) (ltb x 64) _ _ (λ _. rw (← z) (shift-near 1 (length s) (scan s) (scan-near s))) (λ _. omega arith)

then-near : (n : ℕ) (v w : Verdict) → Near n v → Near n w → Near n (and_then v w)
unfolding and_then
then-near n Accepted w h k = k
then-near n (Refused m p) w h k = h

unless-near : (n m : ℕ) (b : Bool) → Near n (unless m b)
unfolding unless
unless-near n m true = tt
unless-near n m false = omega arith

behind-near : (h : ℕ) (s : List ℕ) → h ≤ 2 → Near (length s + 8) (behind h s)
unfolding behind
behind-near h s l = up (shift (4 * h) (scan (drop (4 * h) s))) (shift-near (4 * h) _ _ (scan-near (drop (4 * h) s)))
  where
    up : (v : Verdict) → Near (4 * h + length (drop (4 * h) s)) v → Near (length s + 8) v
    up Accepted k = tt
    up (Refused m p) k = omega (arith, length-drop (4 * h) s)

own-check-near : (l letter h m : ℕ) (s : List ℕ) → Near m (own_check l letter h s)
unfolding own_check
own-check-near zero letter h m s = omega arith
own-check-near (suc l) letter h m s = unless-near _ 18 _

-- the place of an item's own refusal
pub own-near : (k : Kind) (h l : ℕ) (s : List ℕ) → h ≤ 2 → Near (length s + 8) (judge_kind k h s (own_check l))
unfolding judge_kind
own-near (Fixed c) h l s few = then-near _ _ _ (behind-near h s few) (then-near _ _ _ (unless-near _ 8 _) (unless-near _ 10 _))
own-near (Variable t a b) h l s few =
    then-near _ _ _ (behind-near h s few)
    (then-near _ _ _ (unless-near _ 18 _)
    (then-near _ _ _ (unless-near _ 9 _) (then-near _ _ _ (unless-near _ 8 _) (unless-near _ 16 _))))
own-near (Group letter) h l s few = own-check-near l letter h _ _
own-near Genus h l s few = tt
own-near (Indexed c) h l s few = then-near _ _ _ (behind-near h s few) (then-near _ _ _ (unless-near _ 8 _) (unless-near _ 15 _))
