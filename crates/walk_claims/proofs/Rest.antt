-- What a state has left to tell: a value of the items behind it, kept by each step. One law for every such value, whether it is
-- the first refusal or a list of items. Assumes nothing.
use Prim.Native.Nat.{ℕ, zero, suc, ◌+◌, ◌-◌, ◌*◌, ◌≤◌, ◌<◌}
use Rattle.std.specs.Prelude.{◌≡◌, Bool, true, length, get_or, eqb}
use Rattle.std.proofs.Math.Path.{refl}
use Rattle.std.proofs.Common.{sym, ap, ◌∙◌, subst, get_or-set_same, get_or-set_other}
use mathlib.Core.List.{List}
use Rattle.std.proofs.Math.Bool.{false}
use Rattle.std.proofs.Math.Logic.{⊎_elim}
use native.Mathlib.Omega.{arith}
use Rattle.std.proofs.Math.ListN.{set, drop}
use Rattle.std.proofs.Math.Seq.{slice_empty}
use borrow.Author.Tests.{eqb-true, le-ltb, lt-ltb, ne_eqb}
use Rattle.base.specs.Pick.{pick}
use Rattle.base.specs.Cases.{lt-or-ge, whether}
use Rattle.format.specs.declared.Kind.{Kind}
use Rattle.format.specs.declared.Kind.TheVariants.{Fixed, Variable, Group, Genus, Indexed}
use Rattle.format.specs.declared.Framed.{Framed}
use Rattle.format.specs.declared.Framed.TheVariants.{Item, Unframed}
use Rattle.format.specs.declared.Verdict.{Verdict}
use Rattle.format.specs.declared.Verdict.TheVariants.{Accepted, Refused}
use Rattle.format.specs.Registry.{is_indexed, is_overrideable}
use Rattle.format.specs.Framing.{frame_ruled, frame_next}
use Rattle.format.specs.Judging.{shift, and_then, in_turn, contents, judge_kind, own_check, group, judge_with, max_depth}
use Rattle.walk_state.specs.declared.Walk.{Walk}
use Rattle.walk_state.specs.declared.Found.{Found}
use Rattle.walk_state.specs.declared.Found.TheVariants as F
use Rattle.walk_state.specs.declared.Stepped.{Stepped}
use Rattle.walk_state.specs.Walking.{closed, moved_to, past, next_of, stop_of, step_fit}
use Rattle.laws.specs.Indexed.{FramesIndexed, indexed-only}
use Rattle.laws.specs.Levels.{shift-shift, part, part-drop, level, level-end, level-refused, level-item}
use Rattle.walk_claims.proofs.Fitting.{stop_at, stop-outer, stop-in, Fits}
use Rattle.walk_claims.proofs.Steps.{asked, framed_here, judged_here, step_by, into_next, over_next, opens-next}
use Rattle.walk_claims.proofs.Keeps.{few-open, stop-level, item_room}

-- ---- a group's verdict, its own check and whole

pub then-accepted : (v : Verdict) → and_then v Accepted ≡ v
unfolding and_then
then-accepted Accepted = refl
then-accepted (Refused n p) = refl

-- a group, from its contents on
group-opens : (l letter h : ℕ) (ys : List ℕ) → own_check (suc l) letter h ys ≡ Accepted
    → group (suc l) letter h ys
    ≡ shift (4 * h) (in_turn (judge_with (is_indexed letter) l) (contents (is_indexed letter) (is_overrideable letter) ys))
unfolding group judge_with and_then
group-opens l letter h ys e = rw e

pub group-refused : (l letter h : ℕ) (ys : List ℕ) (q p : ℕ) → own_check l letter h ys ≡ Refused q p → group l letter h ys ≡ Refused q p
unfolding group and_then
group-refused zero letter h ys q p e = e
group-refused (suc l) letter h ys q p e = rw e

-- what the own check refuses is refused so
pub whole-refused : (k : Kind) (h l : ℕ) (s : List ℕ) (q p : ℕ) → judge_kind k h s (own_check l) ≡ Refused q p
    → judge_kind k h s (group l) ≡ Refused q p
unfolding judge_kind
whole-refused (Fixed c) h l s q p e = e
whole-refused (Variable t v c) h l s q p e = e
whole-refused Genus h l s q p e = e
whole-refused (Indexed c) h l s q p e = e
whole-refused (Group letter) h l s q p e = group-refused l letter h _ q p e

-- ---- a verdict, and what stands behind it

unfoldable pub or_else {ℓ} : {X : Type ℓ} → (ℕ → ℕ → X) → Verdict → X → X
or_else stop Accepted x = x
or_else stop (Refused n p) x = stop n p

or-then {ℓ} : {X : Type ℓ} (stop : ℕ → ℕ → X) (u v : Verdict) (x : X) → or_else stop (and_then u v) x ≡ or_else stop u (or_else stop v x)
unfolding or_else and_then
or-then stop Accepted v x = refl
or-then stop (Refused n p) v x = refl

-- a verdict that already stands in the next one
pub or-again {ℓ} : {X : Type ℓ} (stop : ℕ → ℕ → X) (o : ℕ) (u v : Verdict) (x : X) → ((q p : ℕ) → u ≡ Refused q p → v ≡ Refused q p)
    → or_else stop (shift o u) (or_else stop (shift o v) x) ≡ or_else stop (shift o v) x
unfolding or_else shift
or-again stop o Accepted v x h = refl
or-again stop o (Refused q p) v x h = rw (h q p refl)

-- ---- what is told of the items at top level

pub record Telling (s : List ℕ) (n : ℕ) (tail : Bool) (X : Type 0) : Type 0 where
  pub stop : ℕ → ℕ → X  -- at a refusal
  pub end : X
  pub emit : ℕ → ℕ → X → X  -- an item that is yielded, with its first unit and its size
  pub base : ℕ → X  -- from a unit on, where none is open
  pub at_cut : tail ≡ true → base n ≡ stop 4 (4 * n)
  pub at-end : tail ≡ false → base n ≡ end
  pub at-refused : (at m p : ℕ) → at < n → frame_ruled (part s at n) ≡ Unframed m p → base at ≡ stop m (4 * at + p)
  pub at_item : (at : ℕ) (k : Kind) (h m : ℕ) → at < n → frame_ruled (part s at n) ≡ Item k h m
      → base at
      ≡ or_else stop (shift (4 * at) (judge_kind k h (part s at (at + m)) (own_check max_depth)))
      (emit at m (or_else stop (shift (4 * at) (judge_kind k h (part s at (at + m)) (group max_depth))) (base (at + m))))

module _ (s : List ℕ) (n : ℕ) (tail : Bool) (X : Type 0) (T : Telling s n tail X) where
  -- within d groups: the items to the innermost end, by the table that is asked, then what is behind it
  unfoldable pub rest : ℕ → List ℕ → Bool → Bool → ℕ → X
  rest zero ends t first at = T.base at
  rest (suc d) ends t first at =
      or_else T.stop (level s t (max_depth - suc d) first at (get_or ends d 0)) (rest d ends false false (get_or ends d 0))

  abbrev pub left : Walk → X
  left w = rest w.depth w.ends w.indexed w.first w.at

  abbrev pub emitted : ℕ → ℕ → ℕ → X → X
  emitted zero at m x = T.emit at m x
  emitted (suc d) at m x = x

  -- what a step's answer tells
  abbrev pub Tells : Walk → Stepped ℕ → Type 0
  Tells w r = by r.found
    where
      by : Found ℕ → Type 0
      by (F.Item o m d k h) = left w ≡ emitted d o m (left r.next)
      by (F.Refused m p) = left w ≡ T.stop m p
      by F.End = left w ≡ T.end

  -- ---- closing

  -- only the slots of open groups count
  rest_below : (d i v : ℕ) (ends : List ℕ) (t first : Bool) (at : ℕ) → d ≤ i → rest d (set ends i v) t first at ≡ rest d ends t first at
  unfolding rest
  rest_below zero i v ends t first at h = refl
  rest_below (suc d) i v ends t first at h =
      rw (get_or-set_other ends i d v 0 (λ e. omega arith), rest_below d i v ends false false (get_or ends d 0) (omega arith))

  -- a group's end is reached
  rest-close : (d : ℕ) (ends : List ℕ) (t first : Bool) (at : ℕ) → get_or ends d 0 ≡ at
      → rest (suc d) ends t first at ≡ rest d ends false false at
  unfolding rest or_else
  rest-close d ends t first at e = rw (e, level-end s t (max_depth - suc d) first at)

  closed-rest : (d : ℕ) (ends : List ℕ) (t : Bool) (at : ℕ)
      → left (closed d (record { ends = ends; depth = d; at = at; first = false; indexed = t })) ≡ rest d ends t false at
  unfolding closed
  closed-rest zero ends t at = refl
  closed-rest (suc d) ends t at = go (closed-rest d (set ends d 0) false at) (eqb (get_or ends d 0) at) refl
    where
      outside : Walk
      outside = closed d (record { ends = set ends d 0; depth = d; at = at; first = false; indexed = false })

      go : left outside ≡ rest d (set ends d 0) false false at → (b : Bool) → eqb (get_or ends d 0) at ≡ b
          → left (pick b outside (record { ends = ends; depth = suc d; at = at; first = false; indexed = t })) ≡ rest (suc d) ends t false at
      go ih true e =
          ih ∙ rest_below d d 0 ends false false at (omega arith) ∙ sym (rest-close d ends t false at (eqb-true (get_or ends d 0) at e))
      go ih false e = refl

  -- ---- an item

  module _ (ends : List ℕ) (t first : Bool) (at : ℕ) (long : 4 * n ≤ length s) where
    -- at top level
    top_frame : (xs : List ℕ) → t ≡ false → frame_ruled xs ≡ frame_next t true xs
    unfolding frame_ruled frame_next
    top_frame xs e = rw e

    -- refused in framing, within d groups
    pub rest-refused : (d m p : ℕ) → (d ≡ 0 → t ≡ false) → at < stop_at n d ends → stop_at n d ends ≤ n
        → frame_next t (pick (eqb d 0) true first) (part s at (stop_at n d ends)) ≡ Unframed m p
        → rest d ends t first at ≡ T.stop m (4 * at + p)
    unfolding rest stop_at or_else
    rest-refused zero m p top lt le e = T.at-refused at m p lt (top_frame (part s at n) (top refl) ∙ e)
    rest-refused (suc d) m p top lt le e =
        rw (level-refused s t (max_depth - suc d) first at (get_or ends d 0) m p (omega arith) lt
        (rw (ne_eqb (suc d) 0 (λ q. omega arith)) at e))

    -- framed: its own check, then all of it, then what is behind
    rest-item : (d : ℕ) (k : Kind) (h m : ℕ) → (d ≡ 0 → t ≡ false) → at < stop_at n d ends → stop_at n d ends ≤ n
        → frame_next t (pick (eqb d 0) true first) (part s at (stop_at n d ends)) ≡ Item k h m
        → rest d ends t first at
        ≡ or_else T.stop (shift (4 * at) (judge_kind k h (part s at (at + m)) (own_check (max_depth - d))))
        (emitted d at m
        (or_else T.stop (shift (4 * at) (judge_kind k h (part s at (at + m)) (group (max_depth - d)))) (rest d ends t false (at + m))))
    unfolding rest stop_at
    rest-item zero k h m top lt le e = T.at_item at k h m lt (top_frame (part s at n) (top refl) ∙ e)
    rest-item (suc d) k h m top lt le e =
        let own : List ℕ = part s at (at + m) in
        let f : frame_next t first (part s at (get_or ends d 0)) ≡ Item k h m = rw (ne_eqb (suc d) 0 (λ q. omega arith)) at e in
        rw (level-item s t (max_depth - suc d) first at (get_or ends d 0) k h m (omega arith) (omega arith) f, or-then)
        (sym (or-again T.stop (4 * at) (judge_kind k h own (own_check (max_depth - suc d))) (judge_kind k h own (group (max_depth - suc d))) _
        (whole-refused k h (max_depth - suc d) own)))

  -- ---- behind an item that is accepted, or a group that is opened

  -- all of the item, then what is behind it
  abbrev pub onward : Walk → ℕ → Verdict → X
  onward w m v = or_else T.stop (shift (4 * w.at) v) (rest w.depth w.ends w.indexed false (w.at + m))

  module _ (w : Walk) (f : Fits w n) (h m : ℕ) (some : h ≤ m) where
    over-rest : (v : Verdict) → v ≡ Accepted → onward w m v ≡ left (over_next w m)
    unfolding or_else shift moved_to
    over-rest v e = rw e (sym (closed-rest w.depth w.ends w.indexed (w.at + m)))

    -- the group at this state: its contents, and the ends with its own
    abbrev inner : List ℕ
    inner = part s (w.at + h) (w.at + m)

    abbrev with_end : List ℕ
    with_end = set w.ends w.depth (w.at + m)

    module _ (few : w.depth < max_depth) where
      own-end : get_or with_end w.depth 0 ≡ w.at + m
      own-end = get_or-set_same w.ends w.depth (w.at + m) 0 (omega (arith, f.nest.full))

      -- its items one by one, by the table that is asked, then what is behind it
      abbrev inside : Bool → Bool → X
      inside t c = onward w m (shift (4 * h) (in_turn (judge_with t (max_depth - suc w.depth)) (contents t c inner)))

      module _ (plain : w.indexed ≡ false) where
        -- from its first item on, marked b
        in-level : (t b c : Bool) → contents t b inner ≡ contents t c inner → rest (suc w.depth) with_end t b (w.at + h) ≡ inside t c
        unfolding rest level
        in-level t b c e =
            let o : 4 * w.at + 4 * h ≡ 4 * (w.at + h) = omega arith in
            rw (
              own-end,
              rest_below w.depth w.depth (w.at + m) w.ends false false (w.at + m) (omega arith),
              e,
              plain,
              shift-shift,
              o,
            )

        nonempty-rest : (t c : Bool) → h < m → inside t c ≡ left (into_next w h m c t)
        unfolding closed
        nonempty-rest t c lt =
            rw (lt-ltb h m lt, own-end, ne_eqb (w.at + m) (w.at + h) (λ e. omega arith)) (sym (in-level t c c refl))

        -- an empty group closes at once, and no mark is set
        empty-rest : (t c : Bool) → m ≤ h → inside t c ≡ left (into_next w h m c t)
        unfolding contents
        empty-rest t c ge =
            let e : contents t false inner ≡ contents t c inner = let z : h ≡ m = omega arith in rw (z, slice_empty (4 * (w.at + m)) s) in
            rw (le-ltb h m ge) (sym (closed-rest (suc w.depth) with_end t (w.at + h) ∙ in-level t false c e))

        into-rest : (t c : Bool) → inside t c ≡ left (into_next w h m c t)
        into-rest t c = ⊎_elim (nonempty-rest t c) (empty-rest t c) (lt-or-ge h m)

    -- a group's own check passed
    group-rest : (letter : ℕ) (l : ℕ) → w.indexed ≡ false → max_depth - w.depth ≡ l → own_check l letter h inner ≡ Accepted
        → onward w m (group l letter h inner) ≡ left (next_of w (Group letter) h m)
    group-rest letter zero plain z e = absurd (omega (arith, few-open 0 letter h inner e))
    group-rest letter (suc l) plain z e =
        let q : l ≡ max_depth - suc w.depth = omega arith in
        let few : w.depth < max_depth = omega arith in
        rw (opens-next w h m letter, group-opens l letter h inner e, q) (into-rest few plain (is_indexed letter) (is_overrideable letter))

    next-rest : (k : Kind) → (w.indexed ≡ true → FramesIndexed (Item k h m)) → judged_here s n tail w k h m ≡ Accepted
        → onward w m (judge_kind k h (part s w.at (w.at + m)) (group (max_depth - w.depth))) ≡ left (next_of w k h m)
    unfolding judge_kind next_of past moved_to
    next-rest (Fixed c) only e = over-rest _ e
    next-rest (Variable t l c) only e = over-rest _ e
    next-rest Genus only e = over-rest _ e
    next-rest (Indexed c) only e = over-rest _ e
    next-rest (Group letter) only e =
        let z : drop (4 * h) (part s w.at (w.at + m)) ≡ inner = part-drop s w.at h (w.at + m) in
        let plain : w.indexed ≡ false = ⊎_elim (λ t. absurd (only t)) (λ t. t) (whether w.indexed) in
        rw z (group-rest letter (max_depth - w.depth) plain refl (rw z at e))

  -- ---- a step

  module _ (w : Walk) (long : 4 * n ≤ length s) (f : Fits w n) where
    -- the end of the stream is reached with none open
    none_open : w.at ≡ n → w.depth ≡ 0
    none_open e =
        ⊎_elim (λ l. absurd (omega (arith, f.ahead l, stop-in w n f.nest))) (λ g. omega arith) (lt-or-ge 0 w.depth)

    at-stop : w.at ≡ n → left w ≡ T.base n
    unfolding rest
    at-stop q = rw (none_open q, q)

    pub before-stop : (w.at ≡ n → ⊥) → w.at < stop_at n w.depth w.ends
    before-stop ne = ⊎_elim f.ahead (λ g. top (omega arith)) (lt-or-ge 0 w.depth)
      where
        top : w.depth ≡ 0 → w.at < stop_at n w.depth w.ends
        top z =
            let e : stop_at n w.depth w.ends ≡ n = ap (λ (d : ℕ). stop_at n d w.ends) z ∙ stop-outer n w.ends in
            omega (arith, f.nest.reached)

    -- by depth
    pub framed-by : (r : Framed) → framed_here s n tail w ≡ r
        → frame_next w.indexed (pick (eqb w.depth 0) true w.first) (part s w.at (stop_at n w.depth w.ends)) ≡ r
    unfolding asked
    framed-by r e = rw (stop-level w n) at e

    -- with none open it is none
    pub outermost : w.depth ≡ 0 → w.indexed ≡ false
    outermost z = ⊎_elim (λ t. absurd (omega (arith, f.nest.tabled t))) (λ t. t) (whether w.indexed)

    pub only : (k : Kind) (h m : ℕ) → framed_here s n tail w ≡ Item k h m → w.indexed ≡ true → FramesIndexed (Item k h m)
    only k h m e t =
        subst FramesIndexed (ap (λ (b : Bool). frame_next b (asked w) (part s w.at (stop_of w n))) (sym t) ∙ e)
        (indexed-only (asked w) (part s w.at (stop_of w n)))

    item-left : (k : Kind) (h m : ℕ) → (w.at ≡ n → ⊥) → framed_here s n tail w ≡ Item k h m
        → left w
        ≡ or_else T.stop (shift (4 * w.at) (judged_here s n tail w k h m))
        (emitted w.depth w.at m (onward w m (judge_kind k h (part s w.at (w.at + m)) (group (max_depth - w.depth)))))
    item-left k h m ne e =
        rest-item w.ends w.indexed w.first w.at long w.depth k h m outermost (before-stop ne) (stop-in w n f.nest) (framed-by (Item k h m) e)

    pub refused-tells : (k : Kind) (h m q p : ℕ) → (w.at ≡ n → ⊥) → framed_here s n tail w ≡ Item k h m
        → judged_here s n tail w k h m ≡ Refused q p → left w ≡ T.stop q (4 * w.at + p)
    unfolding or_else shift
    refused-tells k h m q p ne e v = item-left k h m ne e ∙ rw v

    pub item-tells : (k : Kind) (h m : ℕ) → (w.at ≡ n → ⊥) → framed_here s n tail w ≡ Item k h m
        → judged_here s n tail w k h m ≡ Accepted → left w ≡ emitted w.depth w.at m (left (next_of w k h m))
    unfolding or_else shift
    item-tells k h m ne e v =
        item-left k h m ne e
        ∙ rw (v, next-rest w f h m (item_room s n tail w long f k h m e).1 k (only k h m e) v)

    pub step-tells : Tells w (step_fit s n tail w)
    step-tells =
        step_by s n tail w (Tells w) (λ q t. at-stop q ∙ T.at_cut t) (λ q t. at-stop q ∙ T.at-end t)
        (λ m p ne e.
        rest-refused w.ends w.indexed w.first w.at long w.depth m p outermost (before-stop ne) (stop-in w n f.nest) (framed-by (Unframed m p) e))
        refused-tells item-tells
