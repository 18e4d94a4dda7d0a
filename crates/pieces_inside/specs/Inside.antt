-- Unit by unit through a top-level item: what a state has left to tell of it is kept by each unit. Assumes nothing.
use Prim.Native.Nat.{ℕ, zero, suc, ◌+◌, ◌-◌, ◌*◌, ◌/◌, ◌%◌, ◌≤◌, ◌<◌}
use Rattle.std.proofs.Math.Path.{◌≡◌, refl, sym, ap, subst}
use Rattle.std.proofs.Common.{◌∙◌, length-append, take-append-drop}
use mathlib.Core.List.{List, [], ◌∷◌, ◌++◌}
use Rattle.std.specs.Prelude.{Bool, ltb, leb, length, get_or, take, drop}
use Rattle.std.proofs.Math.Bool.{true, false}
use Rattle.std.proofs.Math.Logic.{⊎_elim}
use native.Mathlib.Omega.{arith}
use Rattle.std.proofs.Math.Dec.{eqb}
use Rattle.std.proofs.Math.Seq.{slice_empty}
use borrow.Author.Tests.{lt-ltb, le-ltb, eq-eqb, ne_eqb, eqb-true, eqb-false, le-leb, lt-leb, leb-true}
use Rattle.base.specs.Pick.{pick, pick-by}
use Rattle.base.specs.Cases.{lt-or-ge, whether}
use Rattle.format.specs.declared.Kind.{Kind}
use Rattle.format.specs.declared.Kind.TheVariants.{Fixed, Variable, Group, Genus, Indexed}
use Rattle.format.specs.declared.Framed.{Framed}
use Rattle.format.specs.declared.Framed.TheVariants.{Item, Unframed}
use Rattle.format.specs.declared.Verdict.{Verdict}
use Rattle.format.specs.declared.Verdict.TheVariants.{Accepted, Refused}
use Rattle.format.specs.Registry.{is_indexed, is_overrideable}
use Rattle.format.specs.Framing.{sextet, frame_next}
use Rattle.format.specs.Judging.{shift, and_then, unless, is_shortest, scan, judge_kind, own_check, max_depth}
use Rattle.format.specs.Report.{placed}
use Rattle.laws.specs.Domains.{plain, plain-reader}
use Rattle.laws.specs.Framing.{Shaped}
use Rattle.laws.specs.Framing as L
use Rattle.laws.specs.Levels.{part, part_length, part-drop, part-take, shift-shift, shift-accepted}
use Rattle.walk_state.specs.declared.Walk.{Walk}
use Rattle.walk_state.specs.Walking.{closed, moved_to, past, next_of}
use Rattle.walk_claims.specs.Words.{units_in, tail_of}
use Rattle.walk_claims.proofs.Fitting.{stop_at, stop-inner, stop-outer, stop-in, Nested, Fits}
use Rattle.walk_claims.proofs.Steps.{asked, framed_here, judged_here, entered, into_next, over_next, opens-next, next-by}
use Rattle.walk_claims.proofs.Keeps.{over-fits, into-fits, item_room}
use Rattle.walk_claims.proofs.Runs.{closed_at}
use Rattle.walk_claims.proofs.Rest.{or_else, Telling, rest, left, emitted, rest-refused, refused-tells, item-tells, framed-by, before-stop, outermost}
use Rattle.walk_claims.proofs.Firsts.{firsts, or-placed, at-end, base}
use Rattle.pieces.specs.declared.Phase.{Phase}
use Rattle.pieces.specs.declared.Phase.TheVariants as P
use Rattle.pieces.specs.declared.Progress.{Progress}
use Rattle.pieces.specs.Headers.{is_long, room_of, asks7, framed_by, verdict_of, group_number, head_number, lead_of, opens_text, value_number}
use Rattle.pieces.specs.Steps.{none4, clear, end_of, made, passed, refused, settled, unframed, headed, stored, at_first, at_second, valued, step_by, unit_step, is_whole_by, is_whole}
use Rattle.pieces_headers.specs.Headers.{NearKind}
use Rattle.pieces_headers.specs.Wide.{wide, ahead, framed-opened, room-inner, wide-inner, wide-top, one_unit, two-units, short-header, long-header, long-says}
use Rattle.pieces_values.specs.Values.{and-cong, then-then, shift-verdict, scan-known, value_asked, asked-none, asked-front, zero-accepts}
use Rattle.pieces_values.specs.Values.{Checked, fixed-checked, variable-checked, genus-checked, indexed-checked}
use Rattle.pieces_inside.specs.Ends.{next-end, clear-fits, shift-then, scan-join, scan-refused}

pub refusal_is : (n p : ℕ) → 0 < n → verdict_of n p ≡ Refused n p
unfolding verdict_of
refusal_is zero p h = absurd (omega arith)
refusal_is (suc n) p h = refl

-- a unit off the front of a part
part-front : (t : List ℕ) (at stop : ℕ) → at < stop → part t at stop ≡ part t at (at + 1) ++ part t (at + 1) stop
part-front t at stop l = sym (rw (← part-take t at 1 stop (omega arith), ← part-drop t at 1 stop) (take-append-drop 4 (part t at stop)))

pub placed-four : (v : Verdict) → placed 4 v ≡ v
unfolding placed
placed-four Accepted = refl
placed-four (Refused n p) = ap (Refused n) (omega arith)

nothing-scanned : (X : List ℕ) → X ≡ [] → (o n lead : ℕ) (text : Bool) (i : ℕ) (x : Verdict)
    → and_then (shift o (scan X)) (and_then (verdict_of (value_asked n lead text X) i) x) ≡ and_then (verdict_of n i) x
unfolding shift scan and_then value_asked
nothing-scanned X e o n lead text i x = rw e

-- ---- a group's number

positive : (n : ℕ) → (n ≡ 0 → ⊥) → 0 < n
positive n h = omega arith

group-by : (b c : Bool) → ◌≡◌ {A = ℕ} (pick b 11 (pick c 0 18)) 0 → (b ≡ false) × (c ≡ true)
group-by true c e = absurd (omega arith)
group-by false true e = (refl, refl)
group-by false false e = absurd (omega arith)

abbrev IsPlain : Kind → Type 0
IsPlain (Fixed c) = Unit {0}
IsPlain (Variable t l n) = Unit {0}
IsPlain (Group letter) = ⊥
IsPlain Genus = Unit {0}
IsPlain (Indexed c) = Unit {0}

none-plain : (k : Kind) (depth h m : ℕ) → IsPlain k → group_number k depth h m ≡ 0
unfolding group_number
none-plain (Fixed c) depth h m e = refl
none-plain (Variable t l n) depth h m e = refl
none-plain (Group letter) depth h m e = absurd e
none-plain Genus depth h m e = refl
none-plain (Indexed c) depth h m e = refl

pub lead-few : (k : Kind) (h m : ℕ) → Shaped k h m → lead_of k ≤ 2
unfolding lead_of
lead-few (Fixed c) h m s = omega arith
lead-few (Variable t l n) h m s = s.0
lead-few (Group letter) h m s = omega arith
lead-few Genus h m s = omega arith
lead-few (Indexed c) h m s = omega arith

own-none : (letter h : ℕ) (ys : List ℕ) → own_check 0 letter h ys ≡ verdict_of 11 0
unfolding own_check verdict_of
own-none letter h ys = refl

own-some : (l letter h : ℕ) (ys : List ℕ) → own_check (suc l) letter h ys ≡ unless 18 (is_shortest h (length ys / 4))
unfolding own_check
own-some l letter h ys = refl

by-eighteen : (c : Bool) → unless 18 c ≡ verdict_of (pick c 0 18) 0
unfolding unless verdict_of
by-eighteen true = refl
by-eighteen false = refl

module _ (letter depth h m : ℕ) where
  -- no number: it is opened
  pub group-open : group_number (Group letter) depth h m ≡ 0 → (depth < max_depth) × (is_shortest h (m - h) ≡ true)
  unfolding group_number
  group-open e =
      let g = group-by (leb max_depth depth) (is_shortest h (m - h)) e in (
        ⊎_elim (λ l. l) (λ ge. let z : ◌≡◌ {A = Bool} true false = sym (le-leb max_depth depth ge) ∙ g.0 in
            let y : ◌≡◌ {A = ℕ} 0 1 = cc in absurd (omega arith)) (lt-or-ge depth max_depth),
        g.1,
      )

  -- its own check, by the number
  pub group-check : (ys : List ℕ) → length ys / 4 ≡ m - h → own_check (max_depth - depth) letter h ys ≡ verdict_of (group_number (Group letter) depth h m) 0
  unfolding group_number
  group-check ys e = ⊎_elim few many (lt-or-ge depth max_depth)
    where
      few : depth < max_depth → own_check (max_depth - depth) letter h ys ≡ verdict_of (pick (leb max_depth depth) 11 (pick (is_shortest h (m - h)) 0 18)) 0
      few l =
          let z : max_depth - depth ≡ suc (max_depth - depth - 1) = omega arith in
          rw (z, lt-leb max_depth depth l) (own-some (max_depth - depth - 1) letter h ys ∙ rw e (by-eighteen (is_shortest h (m - h))))

      many : max_depth ≤ depth → own_check (max_depth - depth) letter h ys ≡ verdict_of (pick (leb max_depth depth) 11 (pick (is_shortest h (m - h)) 0 18)) 0
      many g =
          let z : max_depth - depth ≡ 0 = omega arith in
          rw (z, le-leb max_depth depth g) (own-none letter h ys)

-- ---- the walk over a stream that ends with the item

module _ (t : List ℕ) (whole : length t % 4 ≡ 0) where
  abbrev pub E : ℕ
  E = units_in plain t

  abbrev pub tail : Bool
  tail = tail_of plain t

  abbrev T : Telling t E tail Verdict
  T = firsts plain plain-reader t

  long : 4 * E ≤ length t
  long = omega arith

  no-tail : tail ≡ false
  no-tail = le-ltb 0 (length t % 4) (omega arith)

  -- what is left to tell
  abbrev pub remains : Walk → Verdict
  remains w = left t E tail Verdict T w

  or_is : (v x : Verdict) → or_else T.stop v x ≡ and_then v x
  unfolding firsts
  or_is v x = or-placed 4 v x ∙ ap (λ (u : Verdict). and_then u x) (placed-four v)

  stop_is : (m p : ℕ) → T.stop m p ≡ Refused m p
  unfolding firsts
  stop_is m p = placed-four (Refused m p)

  emit-is : (d at m : ℕ) (x : Verdict) → emitted t E tail Verdict T d at m x ≡ x
  unfolding firsts
  emit-is zero at m x = refl
  emit-is (suc d) at m x = refl

  pub remains-top : (w : Walk) → w.depth ≡ 0 → remains w ≡ base plain plain-reader t w.at
  unfolding rest firsts
  remains-top w z = rw z

  pub all_told : base plain plain-reader t E ≡ Accepted
  all_told = at-end plain plain-reader t no-tail

  remains-end : (w : Walk) → w.depth ≡ 0 → w.at ≡ E → remains w ≡ Accepted
  unfolding rest firsts
  remains-end w z e = rw (z, e) (at-end plain plain-reader t no-tail)

  module _ (w : Walk) (f : Fits w E) (ne : w.at ≡ E → ⊥) where
    remains-refused : (m p : ℕ) → framed_here t E tail w ≡ Unframed m p → remains w ≡ Refused m (4 * w.at + p)
    remains-refused m p e =
        rest-refused t E tail Verdict T w.ends w.indexed w.first w.at long w.depth m p (outermost t E tail Verdict T w long f)
        (before-stop t E tail Verdict T w long f ne) (stop-in w E f.nest) (framed-by t E tail Verdict T w long f (Unframed m p) e)
        ∙ stop_is m (4 * w.at + p)

    remains-item : (k : Kind) (h m : ℕ) → framed_here t E tail w ≡ Item k h m
        → remains w ≡ and_then (shift (4 * w.at) (judged_here t E tail w k h m)) (remains (next_of w k h m))
    unfolding shift and_then
    remains-item k h m e = go (judged_here t E tail w k h m) refl
      where
        go : (v : Verdict) → judged_here t E tail w k h m ≡ v → remains w ≡ and_then (shift (4 * w.at) v) (remains (next_of w k h m))
        go Accepted a = item-tells t E tail Verdict T w long f k h m ne e a ∙ emit-is w.depth w.at m (remains (next_of w k h m))
        go (Refused q p) a = refused-tells t E tail Verdict T w long f k h m q p ne e a ∙ stop_is q (4 * w.at + p)

    item-fits : (k : Kind) (h m : ℕ) → framed_here t E tail w ≡ Item k h m → group_number k w.depth h m ≡ 0 → Fits (next_of w k h m) E
    item-fits k h m e none =
        let b = item_room t E tail w long f k h m e in
        next-by w h m (λ v. Fits v E) k (over-fits E w f h m b.1 b.2)
        (λ letter q. into-fits E w f h m b.1 b.2 (is_overrideable letter) (is_indexed letter)
        (group-open letter w.depth h m (ap (λ (x : Kind). group_number x w.depth h m) (sym q) ∙ none)).0)

  -- ---- a header: its own checks, then what is behind it

  -- cs: the header's sextets, of an item of m units with a header of h
  abbrev Front : Walk → List ℕ → ℕ → ℕ → Type 0
  Front w cs h m = cs ≡ take (4 * h) (part t w.at (w.at + m))

  module _ (w : Walk) (f : Fits w E) (less : w.at < stop_at E w.depth w.ends) (k : Kind) (h m : ℕ)
      (e : framed_here t E tail w ≡ Item k h m) (o : wide t E tail w long f less ≡ Item k h m) (cs : List ℕ) (front : Front w cs h m) where
    abbrev own : List ℕ
    own = part t w.at (w.at + m)

    room : (0 < h) × (h ≤ m) × (w.at + m ≤ stop_at E w.depth w.ends)
    room = item_room t E tail w long f k h m e

    own-long : length own ≡ 4 * m
    own-long = omega (arith, part_length t w.at (w.at + m) (omega (arith, room.2, stop-in w E f.nest)))

    shaped : Shaped k h m × NearKind k
    shaped = let o2 = framed-opened w.indexed (asks7 w) (sextet (ahead t E tail w long f less)) (room_of w) k h m o in (o2.1.shape, o2.0.2)

    abbrev Told : ℕ → Type 0
    Told to = (X : Verdict)
        → and_then (shift (4 * w.at) (judged_here t E tail w k h m)) X
        ≡ and_then (shift (4 * (w.at + h)) (scan (part t (w.at + h) to)))
        (and_then (verdict_of (value_asked (head_number k h cs) (lead_of k) (opens_text k) (part t (w.at + h) to)) (4 * w.at)) X)

    -- stepped over whole
    over-told : Checked h m own cs own-long room.1 front k (max_depth - w.depth) → Told (w.at + m)
    over-told c X =
        let z : 4 * w.at + 4 * h ≡ 4 * (w.at + h) = omega arith in
        let y : 4 * w.at + 0 ≡ 4 * w.at = omega arith in
        rw (c, part-drop t w.at h (w.at + m), shift-then, shift-shift, shift-verdict, z, y)
        (then-then (shift (4 * (w.at + h)) (scan (part t (w.at + h) (w.at + m)))) _ X)

    -- a group that is opened
    into-told : judged_here t E tail w k h m ≡ Accepted → head_number k h cs ≡ 0 → Told (w.at + h)
    unfolding shift and_then verdict_of
    into-told a n X =
        rw a (sym (nothing-scanned (part t (w.at + h) (w.at + h)) (slice_empty (4 * (w.at + h)) t) (4 * (w.at + h)) (head_number k h cs) (lead_of k)
        (opens_text k) (4 * w.at) X ∙ rw n))

  module _ (w : Walk) (f : Fits w E) (less : w.at < stop_at E w.depth w.ends) where
    over-at : (m : ℕ) → (over_next w m).at ≡ w.at + m
    unfolding moved_to
    over-at m = closed_at w.depth (moved_to w (w.at + m))

    into-at : (h m : ℕ) (b c : Bool) → (into_next w h m b c).at ≡ w.at + h
    into-at h m b c = closed_at (suc w.depth) (entered w h m b c)

    -- a group's own check
    check-is : (letter h m : ℕ) → framed_here t E tail w ≡ Item (Group letter) h m
        → judged_here t E tail w (Group letter) h m ≡ verdict_of (group_number (Group letter) w.depth h m) 0
    unfolding judge_kind
    check-is letter h m e =
        let b = item_room t E tail w long f (Group letter) h m e in
        group-check letter w.depth h m (drop (4 * h) (part t w.at (w.at + m)))
        (rw (part-drop t w.at h (w.at + m))
        (omega (arith, part_length t (w.at + h) (w.at + m) (omega (arith, b.2, stop-in w E f.nest)))))

    next-told : (k : Kind) (h m : ℕ) (e : framed_here t E tail w ≡ Item k h m) (o : wide t E tail w long f less ≡ Item k h m) (cs : List ℕ)
        (front : Front w cs h m) → group_number k w.depth h m ≡ 0 → Told w f less k h m e o cs front (next_of w k h m).at
    unfolding next_of past moved_to head_number
    next-told (Fixed c) h m e o cs front none =
        let sh = shaped w f less (Fixed c) h m e o cs front in
        let r = room w f less (Fixed c) h m e o cs front in
        rw (over-at m)
        (over-told w f less (Fixed c) h m e o cs front
        (fixed-checked h m _ cs (own-long w f less (Fixed c) h m e o cs front) r.1 front c (max_depth - w.depth) sh.0.1 sh.1))
    next-told (Variable a b c) h m e o cs front none =
        let sh = shaped w f less (Variable a b c) h m e o cs front in
        let r = room w f less (Variable a b c) h m e o cs front in
        rw (over-at m)
        (over-told w f less (Variable a b c) h m e o cs front
        (variable-checked h m _ cs (own-long w f less (Variable a b c) h m e o cs front) r.1 front a b c (max_depth - w.depth) sh.0.1))
    next-told Genus h m e o cs front none =
        let sh = shaped w f less Genus h m e o cs front in
        let r = room w f less Genus h m e o cs front in
        let z : w.at + h ≡ w.at + m = omega (arith, sh.0) in
        rw (over-at m)
        (over-told w f less Genus h m e o cs front
        (genus-checked h m _ cs (own-long w f less Genus h m e o cs front) r.1 front (max_depth - w.depth)
        (part-drop t w.at h (w.at + m) ∙ ap (λ (k : ℕ). part t k (w.at + m)) z ∙ slice_empty (4 * (w.at + m)) t)))
    next-told (Indexed c) h m e o cs front none =
        let sh = shaped w f less (Indexed c) h m e o cs front in
        let r = room w f less (Indexed c) h m e o cs front in
        rw (over-at m)
        (over-told w f less (Indexed c) h m e o cs front
        (indexed-checked h m _ cs (own-long w f less (Indexed c) h m e o cs front) r.1 front c (max_depth - w.depth)
        (omega (arith, sh.0.0.chars, sh.0.2)) (omega (arith, sh.1, sh.0.2))))
    next-told (Group letter) h m e o cs front none =
        rw (opens-next w h m letter, into-at h m (is_overrideable letter) (is_indexed letter))
        (into-told w f less (Group letter) h m e o cs front (check-is letter h m e ∙ ap (λ (n : ℕ). verdict_of n 0) none ∙ zero-accepts 0) refl)

  -- ---- the states on the way

  -- an item at top level that ends with the stream
  abbrev pub Top : Walk → Type 0
  Top w = (k : Kind) × (h : ℕ) × (m : ℕ) × (framed_here t E tail w ≡ Item k h m) × (w.at + m ≡ E)

  module _ (v : Verdict) where
    -- in front of an item
    pub record Stands (w : Walk) : Type 0 where
      pub fits : Fits w E
      pub inner : 0 < w.depth → end_of w ≡ E
      pub top : w.depth ≡ 0 → Top w
      pub less : w.at < stop_at E w.depth w.ends
      pub tells : remains w ≡ v

    pub data Under (p : Progress) : Type 0 where
      -- in a value
      value : p.phase ≡ P.Framing → Fits p.walk E → end_of p.walk ≡ E → p.read < p.walk.at → p.scans ≡ true → p.lead ≤ 2
          → and_then (shift (4 * p.read) (scan (part t p.read p.walk.at)))
          (and_then (verdict_of (value_asked p.number p.lead p.text (part t p.read p.walk.at)) p.place) (remains p.walk)) ≡ v
          → Under p
      -- at a header, or behind its first unit
      header : p.phase ≡ P.Framing → Stands p.walk → p.read ≡ p.walk.at → (p.walk.depth ≡ 0 → p.start ≡ p.read) → Under p
      second : p.phase ≡ P.Framing → Stands p.walk → p.read ≡ p.walk.at + 1 → p.header ≡ part t p.walk.at (p.walk.at + 1)
          → is_long p.walk.indexed (part t p.walk.at (p.walk.at + 1)) (room_of p.walk) ≡ true → Under p
      -- the verdict stands
      over : p.phase ≡ P.Framing → Fits p.walk E → p.walk.depth ≡ 0 → p.walk.at ≡ E → p.read ≤ E → (p.read < E → p.scans ≡ false)
          → verdict_of p.number p.place ≡ v → Under p

    -- ---- refused, settled

    refused-under : (p : Progress) → p.phase ≡ P.Framing → (w : Walk) (n i : ℕ) → end_of w ≡ E → p.read + 1 ≤ E → verdict_of n i ≡ v → Under (refused p w n i)
    refused-under p φ w n i e l q = over φ (clear-fits E (end_of w) (omega arith)) refl e l (λ _. refl) q

    inside : (w : Walk) → Fits w E → w.at ≤ E
    inside w f = omega (arith, f.nest.reached, stop-in w E f.nest)

    at_top : (w : Walk) → w.depth ≡ 0 → end_of w ≡ E → w.at ≡ E
    unfolding end_of
    at_top w z e = rw (eq-eqb w.depth 0 z) at e

    and_zero : (n i : ℕ) (x : Verdict) → n ≡ 0 → and_then (verdict_of n i) x ≡ x
    unfolding and_then verdict_of
    and_zero n i x z = rw z

    and-some : (n i : ℕ) (x : Verdict) → 0 < n → and_then (verdict_of n i) x ≡ verdict_of n i
    unfolding and_then verdict_of
    and-some zero i x l = absurd (omega arith)
    and-some (suc n) i x l = refl

    settled-under : (p : Progress) → p.phase ≡ P.Framing → (w : Walk) (lead : ℕ) (text : Bool) (n i : ℕ) → Fits w E → end_of w ≡ E
        → p.read + 1 ≤ w.at → lead ≤ 2
        → and_then (shift (4 * (p.read + 1)) (scan (part t (p.read + 1) w.at)))
        (and_then (verdict_of (value_asked n lead text (part t (p.read + 1) w.at)) i) (remains w)) ≡ v
        → Under (settled p w lead text n i)
    unfolding settled
    settled-under p φ w lead text n i f e l led q =
        ⊎_elim (λ lt. rw (lt-ltb (p.read + 1) w.at lt) (value φ f e lt refl led q))
        (λ ge. rw (le-ltb (p.read + 1) w.at ge) (at-stop (omega arith))) (lt-or-ge (p.read + 1) w.at)
      where
        bare : p.read + 1 ≡ w.at → and_then (verdict_of n i) (remains w) ≡ v
        bare z =
            sym (nothing-scanned (part t (p.read + 1) w.at) (ap (λ (k : ℕ). part t k w.at) z ∙ slice_empty (4 * w.at) t) (4 * (p.read + 1))
            n lead text i (remains w)) ∙ q

        none_open : p.read + 1 ≡ w.at → remains w ≡ v → w.depth ≡ 0 → Under (made p w false 0 false 0 0)
        none_open z a d =
            let g : w.at ≡ E = at_top w d e in
            over φ f d g (omega arith) (λ _. refl) (zero-accepts 0 ∙ sym (remains-end w d g) ∙ a)

        some-open : p.read + 1 ≡ w.at → remains w ≡ v → 0 < w.depth → Under (made p w false 0 false 0 0)
        some-open z a d =
            header φ (record { fits = f; inner = λ _. e; top = λ c. absurd (omega arith); less = f.ahead d; tells = a }) z (λ c. absurd (omega arith))

        at-stop : p.read + 1 ≡ w.at → Under (pick (eqb n 0) (made p w false 0 false 0 0) (refused p w n i))
        at-stop z =
            pick-by Under (eqb n 0) (made p w false 0 false 0 0) (refused p w n i)
            (λ c. let a : remains w ≡ v = sym (and_zero n i (remains w) (eqb-true n 0 c)) ∙ bare z in
            ⊎_elim (some-open z a) (λ g. none_open z a (omega arith)) (lt-or-ge 0 w.depth))
            (λ c. refused-under p φ w n i e (omega (arith, inside w f))
            (sym (and-some n i (remains w) (positive n (eqb-false n 0 c))) ∙ bare z))

    -- ---- a whole header

    module _ (w : Walk) (st : Stands w) where
      not_end : w.at ≡ E → ⊥
      not_end e = omega (arith, st.less, stop-in w E st.fits.nest)

      moved-end : (k : Kind) (h m : ℕ) → framed_here t E tail w ≡ Item k h m → end_of (moved_to w (w.at + m)) ≡ E
      unfolding end_of moved_to
      moved-end k h m e = ⊎_elim deeper (λ g. outer (omega arith)) (lt-or-ge 0 w.depth)
        where
          deeper : 0 < w.depth → pick (eqb w.depth 0) (w.at + m) (get_or w.ends 0 0) ≡ E
          deeper l = let n : eqb w.depth 0 ≡ false = ne_eqb w.depth 0 (λ q. omega arith) in rw n (rw n at (st.inner l))

          outer : w.depth ≡ 0 → pick (eqb w.depth 0) (w.at + m) (get_or w.ends 0 0) ≡ E
          outer z =
              let q = st.top z in
              let same : Item q.0 q.1 q.2 ≡ Item k h m = sym q.3 ∙ e in
              let g : q.2 ≡ m = cc in
              rw (eq-eqb w.depth 0 z) (omega (arith, q.4))

      wide_is : (k : Kind) (h m : ℕ) → framed_here t E tail w ≡ Item k h m → wide t E tail w long st.fits st.less ≡ Item k h m
      wide_is k h m e =
          ⊎_elim (λ l. wide-inner t E tail w long st.fits st.less l ∙ e)
          (λ g. wide-top t E tail w long st.fits st.less (omega arith) k h m e) (lt-or-ge 0 w.depth)

      -- a group that is refused by its header
      deep : (k : Kind) (h m : ℕ) → framed_here t E tail w ≡ Item k h m → (group_number k w.depth h m ≡ 0 → ⊥)
          → verdict_of (group_number k w.depth h m) (4 * w.at) ≡ v
      deep (Fixed c) h m e q = absurd (q (none-plain (Fixed c) w.depth h m tt))
      deep (Variable a b c) h m e q = absurd (q (none-plain (Variable a b c) w.depth h m tt))
      deep Genus h m e q = absurd (q (none-plain Genus w.depth h m tt))
      deep (Indexed c) h m e q = absurd (q (none-plain (Indexed c) w.depth h m tt))
      deep (Group letter) h m e q =
          let n : ℕ = group_number (Group letter) w.depth h m in
          let y : 4 * w.at + 0 ≡ 4 * w.at = omega arith in
          let c : judged_here t E tail w (Group letter) h m ≡ verdict_of n 0 = check-is w st.fits st.less letter h m e in
          sym (remains-item w st.fits not_end (Group letter) h m e
          ∙ ap (λ (x : Verdict). and_then (shift (4 * w.at) x) (remains (next_of w (Group letter) h m))) c
          ∙ rw (shift-verdict (4 * w.at) n 0, y) (and-some n (4 * w.at) (remains (next_of w (Group letter) h m)) (positive n q)))
          ∙ st.tells

      next-far : (k : Kind) (h m : ℕ) → framed_here t E tail w ≡ Item k h m → w.at + h ≤ (next_of w k h m).at
      next-far k h m e =
          let b = item_room t E tail w long st.fits k h m e in
          next-by w h m (λ u. w.at + h ≤ u.at) k (rw (over-at w st.fits st.less m) (omega arith))
          (λ letter _. rw (into-at w st.fits st.less h m (is_overrideable letter) (is_indexed letter)) (omega arith))

    item-under : (p : Progress) → p.phase ≡ P.Framing → (st : Stands p.walk) (k : Kind) (h m : ℕ)
        (e : framed_here t E tail p.walk ≡ Item k h m) (cs : List ℕ) → Front p.walk cs h m → p.read + 1 ≡ p.walk.at + h
        → Under (headed p cs (Item k h m))
    unfolding headed
    item-under p φ st k h m e cs front r =
        let w : Walk = p.walk in
        let me : end_of (moved_to w (w.at + m)) ≡ E = moved-end w st k h m e in
        let b = item_room t E tail w long st.fits k h m e in
        pick-by Under (eqb (group_number k w.depth h m) 0) _ _
        (λ c. let none : group_number k w.depth h m ≡ 0 = eqb-true (group_number k w.depth h m) 0 c in
        settled-under p φ (next_of w k h m) (lead_of k) (opens_text k) (head_number k h cs) (4 * w.at)
        (item-fits w st.fits (not_end w st) k h m e none)
        (next-end w k h m st.fits.nest.full ∙ me)
        (rw r (next-far w st k h m e))
        (lead-few k h m (shaped w st.fits st.less k h m e (wide_is w st k h m e) cs front).0)
        (rw r (sym (next-told w st.fits st.less k h m e (wide_is w st k h m e) cs front none (remains (next_of w k h m)))
        ∙ sym (remains-item w st.fits (not_end w st) k h m e) ∙ st.tells)))
        (λ c. refused-under p φ (moved_to w (w.at + m)) (group_number k w.depth h m) (4 * w.at) me (omega (arith, stop-in w E st.fits.nest))
        (deep w st k h m e (eqb-false (group_number k w.depth h m) 0 c)))

    -- what is framed by the header's sextets cs; the place is counted on
    whole-under : (p : Progress) → p.phase ≡ P.Framing → (st : Stands p.walk) (cs : List ℕ) → framed_by p.walk cs ≡ wide t E tail p.walk long st.fits st.less
        → ((k : Kind) (h m : ℕ) → wide t E tail p.walk long st.fits st.less ≡ Item k h m → h ≤ m
        → Front p.walk cs h m × (p.read + 1 ≡ p.walk.at + h))
        → p.read + 1 ≤ E → Under (headed p cs (framed_by p.walk cs))
    unfolding headed
    whole-under p φ st cs q units l = go (framed_here t E tail p.walk) refl
      where
        w : Walk
        w = p.walk

        inner : (n i : ℕ) → framed_here t E tail w ≡ Unframed n i → 0 < w.depth → Under (headed p cs (framed_by w cs))
        inner n i e d =
            let f : framed_by w cs ≡ Unframed n i = q ∙ wide-inner t E tail w long st.fits st.less d ∙ e in
            rw (f, ne_eqb w.depth 0 (λ z. omega arith))
            (refused-under p φ w n (4 * w.at + i) (st.inner d) l
            (refusal_is n (4 * w.at + i) (subst (L.Told _) e (L.next-told w.indexed (asked w) _)).0
            ∙ sym (remains-refused w st.fits (not_end w st) n i e) ∙ st.tells))

        outer : (n i : ℕ) → framed_here t E tail w ≡ Unframed n i → w.depth ≡ 0 → Under (headed p cs (framed_by w cs))
        outer n i e z =
            let o = st.top z in
            let c : Item o.0 o.1 o.2 ≡ Unframed n i = sym o.3 ∙ e in
            let y : ◌≡◌ {A = ℕ} 0 1 = cc in absurd (omega arith)

        go : (r : Framed) → framed_here t E tail w ≡ r → Under (headed p cs (framed_by w cs))
        go (Unframed n i) e = ⊎_elim (inner n i e) (λ g. outer n i e (omega arith)) (lt-or-ge 0 w.depth)
        go (Item k h m) e =
            let o = wide_is w st k h m e in
            let b = item_room t E tail w long st.fits k h m e in
            let u = units k h m o b.1 in
            subst (λ (r : Framed). Under (headed p cs r)) (sym (q ∙ o)) (item-under p φ st k h m e cs u.0 u.1)

    -- ---- one unit

    unit-long : (k : ℕ) → k < E → length (part t k (k + 1)) ≡ 4
    unit-long k l = omega (arith, part_length t k (k + 1) (omega arith))

    module _ (w : Walk) (st : Stands w) where
      one-front : (m : ℕ) → 1 ≤ m → Front w (part t w.at (w.at + 1)) 1 m
      one-front m l = sym (part-take t w.at 1 (w.at + m) (omega arith))

      two-front : (m : ℕ) → 2 ≤ m → Front w (part t w.at (w.at + 1) ++ part t (w.at + 1) (w.at + 1 + 1)) 2 m
      two-front m l =
          let z : w.at + 1 + 1 ≡ w.at + 2 = omega arith in
          ap (λ (k : ℕ). part t w.at (w.at + 1) ++ part t (w.at + 1) k) z ∙ sym (part-front t w.at (w.at + 2) (omega arith))
          ∙ sym (part-take t w.at 2 (w.at + m) (omega arith))

      -- two units are there
      two-there : is_long w.indexed (part t w.at (w.at + 1)) (room_of w) ≡ true → w.at + 2 ≤ stop_at E w.depth w.ends
      two-there q = ⊎_elim deeper (λ g. outer (omega arith)) (lt-or-ge 0 w.depth)
        where
          deeper : 0 < w.depth → w.at + 2 ≤ stop_at E w.depth w.ends
          deeper l = omega (arith, (long-says w.indexed (part t w.at (w.at + 1)) (room_of w) q).0, room-inner t E tail w long st.fits st.less l)

          outer : w.depth ≡ 0 → w.at + 2 ≤ stop_at E w.depth w.ends
          outer z =
              let o = st.top z in
              let b = item_room t E tail w long st.fits o.0 o.1 o.2 o.3 in
              let h = long-header t E tail w long st.fits st.less o.0 o.1 o.2 (wide_is w st o.0 o.1 o.2 o.3) q in
              omega arith

    abbrev Step : Progress → Type 0
    Step p = Under (unit_step p (part t p.read (p.read + 1)))

    framing : (p : Progress) (q : List ℕ) → p.phase ≡ P.Framing
        → unit_step p q
        ≡ pick (ltb p.read p.walk.at) (pick p.scans (valued p q (scan q)) (passed p))
        (pick (ltb p.walk.at p.read) (at_second p q) (at_first p q))
    unfolding unit_step step_by
    framing p q e = rw e

    step-header : (p : Progress) → p.phase ≡ P.Framing → (st : Stands p.walk) → p.read ≡ p.walk.at → Step p
    unfolding at_first
    step-header p φ st e =
        let w : Walk = p.walk in
        let q : List ℕ = part t w.at (w.at + 1) in
        subst (λ (k : ℕ). Under (unit_step p (part t k (k + 1)))) (sym e)
        (rw (framing p q φ, le-ltb p.read w.at (omega arith), le-ltb w.at p.read (omega arith))
        (pick-by Under (is_long w.indexed q (room_of w)) _ _
        (λ two. second φ st (ap (λ (k : ℕ). k + 1) e) refl two)
        (λ one. whole-under p φ st q (one_unit t E tail w long st.fits st.less one)
        (λ k h m o some. let z : 1 ≡ h = sym (short-header t E tail w long st.fits st.less k h m o one) in
        (subst (λ (x : ℕ). Front w q x m) z (one-front w st m (omega arith)), omega arith))
        (omega (arith, st.less, stop-in w E st.fits.nest)))))

    step-second : (p : Progress) → p.phase ≡ P.Framing → (st : Stands p.walk) → p.read ≡ p.walk.at + 1
        → p.header ≡ part t p.walk.at (p.walk.at + 1) → is_long p.walk.indexed (part t p.walk.at (p.walk.at + 1)) (room_of p.walk) ≡ true → Step p
    unfolding at_second
    step-second p φ st e u two =
        let w : Walk = p.walk in
        let q : List ℕ = part t (w.at + 1) (w.at + 1 + 1) in
        let cs : List ℕ = part t w.at (w.at + 1) ++ q in
        let there : w.at + 2 ≤ stop_at E w.depth w.ends = two-there w st two in
        subst (λ (k : ℕ). Under (unit_step p (part t k (k + 1)))) (sym e)
        (rw (framing p q φ, le-ltb p.read w.at (omega arith), lt-ltb w.at p.read (omega arith))
        (subst (λ (x : List ℕ). Under (headed p (x ++ q) (framed_by w (x ++ q)))) (sym u)
        (whole-under p φ st cs (two-units t E tail w long st.fits st.less there)
        (λ k h m o some. let z : 2 ≡ h = sym (long-header t E tail w long st.fits st.less k h m o two) in
        (subst (λ (x : ℕ). Front w cs x m) z (two-front w st m (omega arith)), omega arith))
        (omega (arith, stop-in w E st.fits.nest)))))

    step-over : (p : Progress) → p.phase ≡ P.Framing → Fits p.walk E → p.walk.depth ≡ 0 → p.walk.at ≡ E → p.read < E → p.scans ≡ false
        → verdict_of p.number p.place ≡ v → Step p
    step-over p φ f z e l sc q =
        rw (framing p (part t p.read (p.read + 1)) φ, lt-ltb p.read p.walk.at (omega arith), sc)
        (over φ f z e (omega arith) (λ _. refl) q)

    -- ---- in a value

    module _ (p : Progress) (φ : p.phase ≡ P.Framing) (f : Fits p.walk E) (e : end_of p.walk ≡ E) (l : p.read < p.walk.at) (led : p.lead ≤ 2) where
      abbrev q : List ℕ
      q = part t p.read (p.read + 1)

      abbrev r : List ℕ
      r = part t (p.read + 1) p.walk.at

      abbrev Value : List ℕ → Verdict
      Value X = and_then (shift (4 * p.read) (scan X)) (and_then (verdict_of (value_asked p.number p.lead p.text X) p.place) (remains p.walk))

      q-long : length q ≡ 4
      q-long = unit-long p.read (omega (arith, inside p.walk f))

      value-joined : Value (q ++ r) ≡ v → and_then (shift (4 * p.read) (scan q))
          (and_then (shift (4 * (p.read + 1)) (scan r)) (and_then (verdict_of (value_number p.number p.lead p.text q) p.place) (remains p.walk))) ≡ v
      value-joined a =
          let z : 4 * p.read + 4 ≡ 4 * (p.read + 1) = omega arith in
          rw (scan-join q r, q-long, shift-then, shift-shift, z, then-then, asked-front p.number p.lead p.text q r q-long led) at a

      abbrev Behind : Verdict
      Behind = and_then (shift (4 * (p.read + 1)) (scan r)) (and_then (verdict_of (value_number p.number p.lead p.text q) p.place) (remains p.walk))

      stranger : (u : Verdict) → scan q ≡ u → Value (q ++ r) ≡ v → and_then (shift (4 * p.read) u) Behind ≡ v
      stranger u b a = rw b at (value-joined a)

      later : Behind ≡ v → and_then (shift (4 * (p.read + 1)) (scan r))
          (and_then (verdict_of (value_asked (value_number p.number p.lead p.text q) 0 false r) p.place) (remains p.walk)) ≡ v
      later a =
          and-cong (shift (4 * (p.read + 1)) (scan r)) _ _ (λ c.
          ap (λ (n : ℕ). and_then (verdict_of n p.place) (remains p.walk))
          (asked-none (value_number p.number p.lead p.text q) r (scan-known r (shift-accepted (4 * (p.read + 1)) (scan r) c))))
          ∙ a

      value-step : Value (q ++ r) ≡ v → (u : Verdict) → scan q ≡ u → Under (valued p q u)
      unfolding valued shift and_then
      value-step a (Refused n i) b =
          refused-under p φ p.walk n (4 * p.read + i) e (omega (arith, inside p.walk f))
          (refusal_is n (4 * p.read + i) (scan-refused q n i b).0 ∙ stranger (Refused n i) b a)
      value-step a Accepted b =
          settled-under p φ p.walk 0 false (value_number p.number p.lead p.text q) p.place f e (omega arith) (omega arith) (later (stranger Accepted b a))

    step_value : (p : Progress) → p.phase ≡ P.Framing → Fits p.walk E → end_of p.walk ≡ E → p.read < p.walk.at → p.scans ≡ true → p.lead ≤ 2
        → and_then (shift (4 * p.read) (scan (part t p.read p.walk.at)))
        (and_then (verdict_of (value_asked p.number p.lead p.text (part t p.read p.walk.at)) p.place) (remains p.walk)) ≡ v
        → Step p
    step_value p φ f e l sc led a =
        let x : List ℕ = part t p.read (p.read + 1) in
        rw (framing p x φ, lt-ltb p.read p.walk.at l)
        (subst (λ (b : Bool). Under (pick b (valued p x (scan x)) (passed p))) (sym sc)
        (value-step p φ f e l led (subst (λ (X : List ℕ). and_then (shift (4 * p.read) (scan X))
        (and_then (verdict_of (value_asked p.number p.lead p.text X) p.place) (remains p.walk)) ≡ v) (part-front t p.read p.walk.at l) a)
        (scan x) refl))

    -- one unit more, before the item's end
    pub step-under : (p : Progress) → Under p → p.read < E → Step p
    step-under p (value φ f e l sc led a) h = step_value p φ f e l sc led a
    step-under p (header φ st e c) h = step-header p φ st e
    step-under p (second φ st e u two) h = step-second p φ st e u two
    step-under p (over φ f z e l sc q) h = step-over p φ f z e h (sc h) q

    -- at the item's end its verdict stands
    pub record Over (p : Progress) : Type 0 where
      pub phase : p.phase ≡ P.Framing
      pub fits : Fits p.walk E
      pub closed : p.walk.depth ≡ 0
      pub position : p.walk.at ≡ E
      pub verdict : verdict_of p.number p.place ≡ v

    pub end-over : (p : Progress) → Under p → p.read ≡ E → Over p
    end-over p (value φ f e l sc led a) h = absurd (omega (arith, inside p.walk f))
    end-over p (header φ st e c) h = absurd (omega (arith, st.less, stop-in p.walk E st.fits.nest))
    end-over p (second φ st e u two) h = absurd (omega (arith, two-there p.walk st two, stop-in p.walk E st.fits.nest))
    end-over p (over φ f z e l sc q) h = record { phase = φ; fits = f; closed = z; position = e; verdict = q }

    -- before it, no item is whole
    not-by : (p : Progress) → p.phase ≡ P.Framing → (p.walk.depth ≡ 0 → p.read ≡ p.walk.at → p.read ≤ p.start) → is_whole p ≡ false
    unfolding is_whole is_whole_by
    not-by p φ h = rw φ (go (eqb p.walk.depth 0) refl (eqb p.read p.walk.at) refl)
      where
        go : (b : Bool) → eqb p.walk.depth 0 ≡ b → (c : Bool) → eqb p.read p.walk.at ≡ c
            → pick b (pick c (ltb p.start p.read) false) false ≡ false
        go true e true g = le-ltb p.start p.read (h (eqb-true p.walk.depth 0 e) (eqb-true p.read p.walk.at g))
        go true e false g = refl
        go false e c g = refl

    pub not-whole : (p : Progress) → Under p → p.read < E → is_whole p ≡ false
    not-whole p (value φ f e l sc led a) h = not-by p φ (λ z q. absurd (omega arith))
    not-whole p (header φ st e c) h = not-by p φ (λ z q. omega (arith, c z))
    not-whole p (second φ st e u two) h = not-by p φ (λ z q. absurd (omega arith))
    not-whole p (over φ f z e l sc q) h = not-by p φ (λ y g. absurd (omega arith))

    pub under-phase : (p : Progress) → Under p → p.phase ≡ P.Framing
    under-phase p (value φ f e l sc led a) = φ
    under-phase p (header φ st e c) = φ
    under-phase p (second φ st e u two) = φ
    under-phase p (over φ f z e l sc q) = φ

    pub whole_is : (p : Progress) → Over p → p.read ≡ E → p.start < E → is_whole p ≡ true
    unfolding is_whole is_whole_by
    whole_is p o e l =
        rw (o.phase, eq-eqb p.walk.depth 0 o.closed, eq-eqb p.read p.walk.at (e ∙ sym o.position)) (lt-ltb p.start p.read (omega arith))
