-- A step of the walk over a masked text, and so the walk. Assumes nothing.
use Rattle.std.specs.Prelude.{ℕ, zero, suc, ◌+◌, ◌-◌, ◌*◌, ◌/◌, ◌%◌, ◌≤◌, ◌<◌, ◌≡◌, refl, List, map, Bool, true, false, ltb, eqb, length, take, drop}
use Rattle.std.proofs.Common.{ap, ◌∙◌, arith, length-take, length-drop}
use Rattle.std.proofs.lemmas.List.{length-map}
use Rattle.std.proofs.Math.Seq.{slice}
use Rattle.base.specs.Pick.{pick}
use Rattle.base.specs.Lists.{map-take, map-drop}
use Rattle.format.specs.declared.Kind.{Kind}
use Rattle.format.specs.declared.Framed.{Framed}
use Rattle.format.specs.declared.Framed.TheVariants.{Item, Unframed}
use Rattle.format.specs.declared.Verdict.{Verdict}
use Rattle.format.specs.declared.Verdict.TheVariants.{Accepted, Refused}
use Rattle.format.specs.Units.{text}
use Rattle.format.specs.Framing.{sextet, frame_by}
use Rattle.format.specs.Judging.{judge_kind, own_check, max_depth}
use Rattle.laws.specs.Levels.{part, part-take, any-item, item-sizes, frame-own}
use Rattle.walk_state.specs.declared.Walk.{Walk}
use Rattle.walk_state.specs.declared.Found.{Found}
use Rattle.walk_state.specs.declared.Found.TheVariants as F
use Rattle.walk_state.specs.declared.Stepped.{Stepped}
use Rattle.walk_state.specs.Walking.{is_fit, stop_of, judged, framed_by, frame_at, step_fit, step, found_in, step_in}
use Rattle.walk_claims.specs.Words.{after}
use Rattle.walk_claims.proofs.Steps.{in_elements}
use Rattle.ordinary.specs.Words.{mask, masked, as_five, verdict_five, framed_five, found_five, stepped_five}
use Rattle.ordinary.proofs.Marks.{pick_to, plain, sextets-masked}
use Rattle.ordinary.proofs.Framed.{header-known, next-five}
use Rattle.ordinary.proofs.Judged.{kind-five, check-five}

part-five : (s : List ℕ) (at stop : ℕ) → part (map plain s) at stop ≡ map plain (part s at stop)
part-five s at stop = rw (← map-take plain (4 * stop) s, ← map-drop plain (4 * at) (take (4 * stop) s))

framed-five : (w : Walk) (s : List ℕ) → frame_at w (map plain s) ≡ framed_five (frame_at w s)
unfolding frame_at
framed-five w s = next-five w.indexed _ s

framed-item : (w : Walk) (s : List ℕ) (k : Kind) (h n : ℕ) → frame_at w s ≡ Item k h n → frame_by w.indexed s ≡ Item k h n
unfolding frame_at
framed-item w s k h n e = any-item w.indexed _ s k h n e

judged-five : (w : Walk) (k : Kind) (h n : ℕ) (v : Verdict) → judged w k h n (verdict_five v) ≡ stepped_five (judged w k h n v)
unfolding judged verdict_five stepped_five found_five
judged-five w k h n Accepted = refl
judged-five w k h n (Refused m p) = refl

-- the header of an item that is framed within a part stands in the item's own sextets
own-header : (t : Bool) (s : List ℕ) (at stop : ℕ) (k : Kind) (h n : ℕ) → frame_by t (part s at stop) ≡ Item k h n
    → (i : ℕ) → i < 4 * h → sextet (part s at (at + n)) i < 64
own-header t s at stop k h n e =
    let z = item-sizes t (part s at stop) k h n e in
    rw (part-take s at n stop (omega (arith, length-drop (4 * at) (take (4 * stop) s), length-take (4 * stop) s))) at
    (header-known t (take (n * 4) (part s at stop)) k h n (frame-own t (part s at stop) k h n e))

by-five : (s : List ℕ) (w : Walk) (stop : ℕ) (r : Framed) → frame_at w (part s w.at stop) ≡ r
    → framed_by (map plain s) w (framed_five r) ≡ stepped_five (framed_by s w r)
unfolding framed_by framed_five stepped_five found_five
by-five s w stop (Unframed m p) e = refl
by-five s w stop (Item k h n) e =
    rw (
      part-five s w.at (w.at + n),
      kind-five k h (part s w.at (w.at + n)) (own_check (max_depth - w.depth))
          (own-header w.indexed s w.at stop k h n (framed-item w (part s w.at stop) k h n e)) (check-five (max_depth - w.depth)),
    )
    (judged-five w k h n (judge_kind k h (part s w.at (w.at + n)) (own_check (max_depth - w.depth))))

step-five : (s : List ℕ) (n : ℕ) (tail : Bool) (w : Walk) → step (map plain s) n tail w ≡ stepped_five (step s n tail w)
unfolding step step_fit stepped_five found_five as_five
step-five s n tail w =
    let t : List ℕ = part s w.at (stop_of w n) in
    pick_to stepped_five (is_fit w n) _ _ _ _
    (λ _. pick_to stepped_five (eqb w.at n) _ _ _ _ (λ _. ending tail)
    (λ _. rw (part-five s w.at (stop_of w n), framed-five w t) (by-five s w (stop_of w n) (frame_at w t) refl)))
    (λ _. refl)
  where
    ending : (b : Bool) → record { next = w; found = pick b (F.Refused 4 (4 * n)) F.End }
        ≡ stepped_five (record { next = w; found = pick b (F.Refused 4 (4 * n)) F.End })
    ending true = refl
    ending false = refl

found-five : (u : ℕ) (f : Found ℕ) → found_in u (found_five f) ≡ found_five (found_in u f)
unfolding found_in found_five
found-five u (F.Item o n d k h) = refl
found-five u (F.Refused m p) = refl
found-five u F.End = refl

pub steps : (s : List ℕ) (w : Walk) → step_in text (masked s) w ≡ stepped_five (step_in text s w)
unfolding step_in stepped_five found_five as_five
steps s w =
    let r : Stepped ℕ = step (text.sextets s) (length s / 4) (ltb 0 (length s % 4)) w in
    let one : Stepped ℕ = record { next = w; found = F.Refused 1 0 } in
    rw (length-map s mask, sextets-masked s, step-five (text.sextets s) (length s / 4) (ltb 0 (length s % 4)) w)
    (pick_to stepped_five (ltb 4194304 (length s)) one (in_elements 4 r) one (in_elements 4 (stepped_five r)) (λ _. refl)
    (λ _. ap (λ (f : Found ℕ). record { next = r.next; found = f }) (found-five 4 r.found)))

pub walks : (s : List ℕ) (k : ℕ) → after text (masked s) k ≡ after text s k
unfolding after stepped_five
walks s zero = refl
walks s (suc k) =
    ap (λ (w : Walk). (step_in text (masked s) w).next) (walks s k) ∙ ap (λ (r : Stepped ℕ). r.next) (steps s (after text s k))
