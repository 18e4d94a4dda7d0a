-- Walking's step is made of the code's parts: the next item of the part to where the innermost group ends, and the next state; the
-- same in both forms. Assumes nothing.
use mathlib.Core.Path.{◌≡◌, refl, sym, ap, ◌∙◌}
use mathlib.Core.Bool.{Bool, true, false}
use mathlib.Core.List.{List}
use mathlib.Core.Logic.{⊎_elim}
use Prim.Native.Nat.{ℕ, ◌+◌, ◌-◌, ◌*◌, ◌≤◌}
use native.Mathlib.Omega.{arith}
use lib.Dec.{eqb}
use lib.ListN.{length, take}
use borrow.Author.Tests.{eq-eqb, ne_eqb, ltb-false, le-ltb, eqb-true, eqb-false}
use Rattle.base.specs.Pick.{pick, pick-by}
use Rattle.base.specs.Cases.{whether}
use Rattle.format.specs.declared.Kind.{Kind}
use Rattle.format.specs.declared.Kind.TheVariants.{Fixed, Variable, Group, Genus, Indexed}
use Rattle.format.specs.declared.Framed.{Framed}
use Rattle.format.specs.declared.Framed.TheVariants.{Item, Unframed}
use Rattle.format.specs.declared.Verdict.{Verdict}
use Rattle.format.specs.declared.Verdict.TheVariants.{Accepted, Refused}
use Rattle.format.specs.declared.Form.{Form}
use Rattle.format.specs.declared.Form.TheVariants.{Text, Binary}
use Rattle.format.specs.Units.{domain}
use Rattle.format.specs.Framing.{frame_next}
use Rattle.format.specs.Judging.{max_depth}
use Rattle.laws.specs.Domains.{reader}
use Rattle.laws.specs.Levels.{part, part_length, part-take, any-item, item-sizes}
use Rattle.judging.specs.Own.{told_by}
use Rattle.report_next.specs.Next.{own_of, next_own, is_entered, is_ruled, holds_indexed}
use Rattle.report_next.proofs.Laws.{own-item, may-enter, next-near}
use Rattle.walk_state.specs.declared.Walk.{Walk}
use Rattle.walk_state.specs.declared.Place.{Place}
use Rattle.walk_state.specs.declared.Found.{Found}
use Rattle.walk_state.specs.declared.Found.TheVariants as F
use Rattle.walk_state.specs.declared.Stepped.{Stepped}
use Rattle.walk_state.specs.Walking.{is_fit, closed, moved_to, opened, past, next_of, stop_of, judged, framed_by, frame_at}
use Rattle.walk_state.specs.Walking.{step_fit, step, found_in, step_in}
use Rattle.walk_state.specs.Moving.{step_over}
use Rattle.walk_state.specs.Lent.{walk_at, Moves}
use Rattle.walk_state.proofs.Laws.{steps-into, steps-past}
use Rattle.walk_state.proofs.Lent.{own-moved}
use Rattle.walk_extent.specs.declared.Extent.{Extent}
use Rattle.walk_extent.specs.Extent.{units_in, Measured}
use Rattle.walk.specs.declared.Moved.{Moved}
use Rattle.walk.specs.Stepping.{is_asked, place_of, found_by, in_elements, is_item, Steps, part_step, Fits, reach, Slotted, Ready, Spans, Near, InReach}

-- ---- the next state

-- a kind is entered or stepped over
by_kind : (w : Walk) (k : Kind) (h n : ℕ) → past w k h n ≡ pick (is_entered k) (opened w h n (is_ruled k) (holds_indexed k)) (moved_to w (w.at + n))
unfolding past is_entered is_ruled holds_indexed
by_kind w (Fixed c) h n = refl
by_kind w (Variable t l c) h n = refl
by_kind w Genus h n = refl
by_kind w (Indexed c) h n = refl
by_kind w (Group letter) h n = refl

module _ (w : Walk) (k : Kind) (h n : ℕ) where
  -- the state within a group
  abbrev within : Walk
  within = opened w h n (is_ruled k) (holds_indexed k)

  next-into : is_entered k ≡ true → next_of w k h n ≡ closed within.depth within
  unfolding next_of
  next-into e = rw (by_kind w k h n, e)

  next_past : is_entered k ≡ false → next_of w k h n ≡ closed w.depth (moved_to w (w.at + n))
  unfolding next_of moved_to
  next_past e = rw (by_kind w k h n, e)

  by-step : w.depth ≤ max_depth → Slotted k w.depth → step_over w (w.at + h) (w.at + n) (is_entered k) (is_ruled k) (holds_indexed k) ≡ next_of w k h n
  by-step few s =
      ⊎_elim (λ i. rw (next-into i, i) (steps-into w h n (is_ruled k) (holds_indexed k) (s i)))
      (λ i. rw (next_past i, i) (steps-past w h n (is_ruled k) (holds_indexed k) few)) (whether (is_entered k))

  -- the state's step leads there
  pub leads : w.depth ≤ max_depth → Slotted k w.depth → {before after : List ℕ} {opens mark indexed : Bool} {q : Place}
      → opens ≡ is_entered k → mark ≡ is_ruled k → indexed ≡ holds_indexed k
      → Moves before after q (step_over w (w.at + h) (w.at + n) opens mark indexed) → Moves before after q (next_of w k h n)
  leads few s {opens = opens} {mark = mark} {indexed = indexed} eo em ei m =
      let e : step_over w (w.at + h) (w.at + n) opens mark indexed ≡ next_of w k h n = rw (eo, em, ei) (by-step few s) in
      record { state = m.state ∙ e; behind = m.behind }

-- what is told of an item, and of its refusal
module _ (before : List ℕ) (p : Place) where
  pub told-item : (k : Kind) (h n : ℕ) → p.depth ≤ max_depth → Slotted k p.depth → {after : List ℕ} {opens mark indexed : Bool} {q : Place}
      → opens ≡ is_entered k → mark ≡ is_ruled k → indexed ≡ holds_indexed k
      → Moves before after q (step_over (walk_at before p) (p.at + h) (p.at + n) opens mark indexed)
      → Steps before after (record { place = q; found = F.Item p.at n p.depth k h }) (found_by (walk_at before p) (Item k h n))
  unfolding found_by
  told-item k h n few s eo em ei m = record { moves = leads (walk_at before p) k h n few s eo em ei m; found = refl; kept = λ e. let z : ◌≡◌ {A = ℕ} 1 0 = ap (λ (b : Bool). pick b 1 0) e in absurd (omega arith) }

  stays : Moves before before p (walk_at before p)
  stays = record { state = refl; behind = refl }

  pub told-refused : (m place : ℕ) → Steps before before (record { place = p; found = F.Refused m (4 * p.at + place) }) (found_by (walk_at before p) (Unframed m place))
  unfolding found_by
  told-refused m place = record { moves = stays; found = refl; kept = λ e. refl }

-- ---- what is asked of the next item

-- the next item of a part, or its refusal, is fit to be told
pub ready : (w : Walk) (s : List ℕ) (f : Framed) → length s ≤ reach → f ≡ next_own w.indexed (is_asked (place_of w)) s (max_depth - w.depth) → Ready (place_of w) f
ready w s (Unframed m p) b e = omega (arith, next-near w.indexed (is_asked (place_of w)) s (max_depth - w.depth) m p (sym e))
ready w s (Item k h n) b e =
    let o = own-item w.indexed (is_asked (place_of w)) s (max_depth - w.depth) k h n (sym e) in
    let z = item-sizes w.indexed s k h n (any-item w.indexed (is_asked (place_of w)) s k h n o.framed) in
    (z.1, omega (arith, z.2), λ i. omega (arith, may-enter k h (take (4 * n) s) (max_depth - w.depth) i o.accepted))

found-reach : (w : Walk) (f : Framed) → w.at ≤ reach → Ready (place_of w) f → InReach (found_by w f).found
unfolding found_by
found-reach w (Unframed m p) a r = tt
found-reach w (Item k h n) a r = (a, r.1)

part-reach : (w : Walk) (s : List ℕ) → w.at ≤ reach → length s ≤ reach → InReach (part_step w s).found
unfolding part_step
part-reach w s a b = found-reach w _ a (ready w s _ b refl)

-- ---- a stream's step is that of the part to where the innermost group ends

asked-frame : (w : Walk) (s : List ℕ) → frame_at w s ≡ frame_next w.indexed (is_asked (place_of w)) s
unfolding frame_at is_asked
asked-frame w s = ⊎_elim (λ e. rw e) (λ e. rw e) (whether (eqb w.depth 0))

-- a verdict and an item that tells it
judged-told : (w : Walk) (k : Kind) (h n : ℕ) (v : Verdict) → judged w k h n v ≡ found_by w (told_by (Item k h n) v)
unfolding judged found_by told_by
judged-told w k h n Accepted = refl
judged-told w k h n (Refused m p) = refl

by_part : (w : Walk) (s : List ℕ) (b : ℕ) (f : Framed) → w.at ≤ b → 4 * b ≤ length s → frame_next w.indexed (is_asked (place_of w)) (part s w.at b) ≡ f
    → framed_by s w f ≡ found_by w (own_of f (part s w.at b) (max_depth - w.depth))
unfolding framed_by found_by own_of
by_part w s b (Unframed m p) h long e = refl
by_part w s b (Item k h' n) h long e =
    let z = item-sizes w.indexed (part s w.at b) k h' n (any-item w.indexed (is_asked (place_of w)) (part s w.at b) k h' n e) in
    let c : 4 * n ≡ n * 4 = omega arith in
    let i : w.at + n ≤ b = omega (arith, z.2, part_length s w.at b long) in
    rw (c, part-take s w.at n b i) (judged-told w k h' n _)

-- a part of a stream within the limit
part-few : (w : Walk) (s : List ℕ) (n : ℕ) → stop_of w n ≤ n → 4 * n ≤ length s → 4 * n ≤ reach
    → length (part s w.at (stop_of w n)) ≤ reach
part-few w s n room whole b = omega (arith, part_length s w.at (stop_of w n) (omega arith))

module _ (w : Walk) (s : List ℕ) (n : ℕ) (tail : Bool) (order : w.at ≤ stop_of w n) (room : stop_of w n ≤ n) (whole : 4 * n ≤ length s) where
  near_step : (w.at ≡ n → ⊥) → step_fit s n tail w ≡ part_step w (part s w.at (stop_of w n))
  unfolding step_fit part_step next_own
  near_step ne =
      rw (ne_eqb w.at n ne, asked-frame w (part s w.at (stop_of w n)))
      (by_part w s (stop_of w n) (frame_next w.indexed (is_asked (place_of w)) (part s w.at (stop_of w n))) order (omega arith) refl)

  at-end : w.at ≡ n → step_fit s n tail w ≡ record { next = w; found = pick tail (F.Refused 4 (4 * w.at)) F.End }
  unfolding step_fit
  at-end e = rw (eq-eqb w.at n e, e)

  step-reach : 4 * n ≤ reach → InReach (step_fit s n tail w).found
  step-reach b =
      ⊎_elim (λ e. rw (at-end (eqb-true w.at n e)) (pick-by InReach tail (F.Refused 4 (4 * w.at)) F.End (λ _. tt) (λ _. tt)))
      (λ e. rw (near_step (eqb-false w.at n e))
      (part-reach w (part s w.at (stop_of w n)) (omega arith) (part-few w s n room whole b)))
      (whether (eqb w.at n))

-- ---- the same in a form

-- a step that is the same
by-same : {before after : List ℕ} {r : Moved} {t u : Stepped ℕ} → Steps before after r t → t ≡ u → Steps before after r u
by-same s e = rw (← e) s

-- a stream of either form within its limit
near-units : (form : Form) (xs : List ℕ) → length xs ≤ (domain form).limit → 4 * units_in (domain form) xs ≤ reach
near-units Text xs h = omega arith
near-units Binary xs h = omega arith

whole-units : (form : Form) (xs : List ℕ) (k : ℕ) → k ≤ units_in (domain form) xs → (domain form).unit * k ≤ length xs
whole-units Text xs k h = omega arith
whole-units Binary xs k h = omega arith

module _ (form : Form) (xs : List ℕ) (n : ℕ) (w : Walk) (H : Near form xs n w) where
  near : 4 * n ≤ reach
  near = rw H.units (near-units form xs H.few)

  whole : 4 * n ≤ length ((domain form).sextets xs)
  whole = rw (H.units, ← ((reader form).units xs)) (omega arith)

  pub at-near : w.at ≤ reach
  at-near = omega (arith, near, H.order, H.room)

  here : (tail : Bool) → w.at ≡ n → record { next = w; found = pick tail (F.Refused 4 (4 * w.at)) F.End } ≡ step_fit ((domain form).sextets xs) n tail w
  here tail e = sym (at-end w ((domain form).sextets xs) n tail H.order H.room whole e)

  module _ (ne : w.at ≡ n → ⊥) (stop : ℕ) (es : stop ≡ stop_of w n) where
    pub spans : Spans form xs (place_of w) stop
    spans = record {
      slots = H.slots;
      order = omega (arith, H.order);
      room = whole-units form xs stop (omega (arith, H.room, H.units));
      few = H.few;
    }

    module _ (item : Framed) (ei : item ≡ next_own w.indexed (is_asked (place_of w)) (part ((domain form).sextets xs) w.at stop) (max_depth - w.depth)) where
      pub goes-ready : Ready (place_of w) item
      goes-ready = ready w _ item (rw es (part-few w ((domain form).sextets xs) n H.room whole near)) ei

      pub goes_on : (tail : Bool) {before after : List ℕ} {r : Moved} → Steps before after r (found_by w item)
          → Steps before after r (step_fit ((domain form).sextets xs) n tail w)
      unfolding part_step
      goes_on tail t = by-same t (rw (ei, es) (sym (near_step w ((domain form).sextets xs) n tail H.order H.room whole ne)))

  pub reaches : (tail : Bool) {before after : List ℕ} {r : Moved} → Steps before after r (step_fit ((domain form).sextets xs) n tail w) → InReach r.found
  reaches tail t = rw t.found (step-reach w ((domain form).sextets xs) n tail H.order H.room whole near)

-- at the stream's end
pub ends : (form : Form) (xs : List ℕ) (n : ℕ) (s : List ℕ) (p : Place) → Near form xs n (walk_at s p) → (tail : Bool) → p.at ≡ n → {r : Moved}
    → r ≡ record { place = p; found = pick tail (F.Refused 4 (4 * p.at)) F.End } → Steps s s r (step_fit ((domain form).sextets xs) n tail (walk_at s p))
ends form xs n s p H tail e q = rw q (by-same (record { moves = stays s p; found = refl; kept = λ e. refl }) (here form xs n (walk_at s p) H tail e))

-- ---- in elements

item_in : (u : ℕ) (f : Found ℕ) → is_item (found_in u f) ≡ is_item f
unfolding found_in
item_in u (F.Item o n d k h) = refl
item_in u (F.Refused m p) = refl
item_in u F.End = refl

pub scaled : (u : ℕ) {before after : List ℕ} {r : Moved} {t : Stepped ℕ} → Steps before after r t → {f : Found ℕ} → f ≡ found_in u r.found
    → Steps before after (record { place = r.place; found = f }) (in_elements u t)
scaled u {r = r} t {f} ef =
    record { moves = t.moves; found = ef ∙ ap (found_in u) t.found; kept = λ e. t.kept (sym (item_in u r.found) ∙ ap is_item (sym ef) ∙ e) }

-- ---- 1 before 13

module _ (form : Form) (xs : List ℕ) (e : Extent) (m : Measured form xs e) (s : List ℕ) (p : Place) where
  pub too_long : e.over ≡ true → {r : Moved} → r ≡ record { place = p; found = F.Refused 1 0 } → Steps s s r (step_in (domain form) xs (walk_at s p))
  unfolding step_in
  too_long o q = rw q (by-same (record { moves = stays s p; found = refl; kept = λ e. refl }) (rw (← m.limit, o)))

  module _ (o : e.over ≡ false) where
    pub unfit : is_fit (walk_at s p) e.units ≡ false → {r : Moved} → r ≡ record { place = p; found = F.Refused 13 0 } → Steps s s r (step_in (domain form) xs (walk_at s p))
    unfolding step_in step found_in
    unfit f q =
        let z : 0 * (domain form).unit + 0 ≡ 0 = omega arith in
        rw q (by-same (record { moves = stays s p; found = refl; kept = λ e. refl }) (rw (← m.limit, o, ← m.units, f, z)))

    pub fits : is_fit (walk_at s p) e.units ≡ true → Fits form xs (walk_at s p)
    fits f = record { few = ltb-false (domain form).limit (length xs) (sym m.limit ∙ o); fit = rw (← m.units) f }

  -- a state that fits steps so
  pub stepped : Fits form xs (walk_at s p) → {after : List ℕ} {r : Moved}
      → Steps s after r (in_elements (domain form).unit (step_fit ((domain form).sextets xs) e.units e.tail (walk_at s p)))
      → Steps s after r (step_in (domain form) xs (walk_at s p))
  unfolding step_in step
  stepped f t = by-same t (rw (le-ltb (domain form).limit (length xs) f.few, ← m.units, rw (← m.units) at f.fit, ← m.rest))

-- a test that says both
pub both_ways {ℓ} : {A : Type ℓ} (b : Bool) → b ≡ false → b ≡ true → A
both_ways true e f = let z : ◌≡◌ {A = ℕ} 0 1 = cc in absurd (omega arith)
both_ways false e f = let z : ◌≡◌ {A = ℕ} 0 1 = cc in absurd (omega arith)

-- ---- by value

pub by_value : {before after : List ℕ} {r : Moved} {t : Stepped ℕ} → length after ≡ max_depth → Steps before after r t
    → record { next = record { ends = after; depth = r.place.depth; at = r.place.at; first = r.place.first; indexed = r.place.indexed }; found = r.found } ≡ t
by_value {r = r} l s = rw (← (own-moved l s.moves), ← s.found)
