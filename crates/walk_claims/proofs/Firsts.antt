-- The walk stops with the first refusal of the stream's items one by one, or ends where there is none; an item by itself gives
-- its own verdict. Assumes nothing.
use Prim.Native.Nat.{ℕ, zero, suc, ◌+◌, ◌*◌, ◌≤◌, ◌<◌}
use Rattle.std.specs.Prelude.{◌≡◌, refl, true, false, drop}
use Rattle.std.proofs.Math.Path.{sym, ap}
use Rattle.std.proofs.Common.{◌∙◌}
use mathlib.Core.List.{List}
use native.Mathlib.Omega.{arith}
use Rattle.std.proofs.Math.Nat.{add-mul}
use Rattle.std.proofs.Math.ListN.{length}
use Rattle.std.proofs.Math.Seq.{take-length, drop-length, length-take-le}
use Rattle.format.specs.declared.Kind.{Kind}
use Rattle.format.specs.declared.Framed.TheVariants.{Item, Unframed}
use Rattle.format.specs.declared.Verdict.{Verdict}
use Rattle.format.specs.declared.Verdict.TheVariants.{Accepted, Refused}
use Rattle.format.specs.Units.{Domain}
use Rattle.format.specs.Framing.{frame_ruled}
use Rattle.format.specs.Cutting.{cut}
use Rattle.format.specs.Judging.{shift, and_then, judge_kind, own_check, group, max_depth}
use Rattle.format.specs.Report.{frame_in, judge_in, placed}
use Rattle.damage.proofs.Cuts as C
use Rattle.damage.proofs.Damage.{shift_zero}
use Rattle.laws.specs.Domains.{Reader}
use Rattle.laws.specs.Frames.{frames}
use Rattle.walk_state.specs.declared.Walk.{Walk}
use Rattle.walk_state.specs.declared.Found.{Found}
use Rattle.walk_state.specs.declared.Found.TheVariants as F
use Rattle.walk_state.specs.declared.Stepped.{Stepped}
use Rattle.walk_state.specs.Walking.{start, found_in, step_in}
use Rattle.walk_claims.specs.Words.{units_in, tail_of, after, found_at, Stops, found_of, first_of, first_refusal}
use Rattle.laws.specs.Levels.{part}
use Rattle.walk_claims.proofs.Rest.{then-accepted, or_else, or-again, whole-refused, Telling, rest, left, Tells}
use Rattle.walk_claims.proofs.Steps.{in_elements}
use Rattle.walk_claims.proofs.Runs.{tells-after}
use Rattle.walk_claims.proofs.Streams.{placed-shift, from, from_on, judged-from, framed-item, framed-refused}
use Rattle.walk_claims.proofs.Streams.{framed-end, some_left, tail-left, none_left}

-- the place in elements
pub or-placed : (u : ℕ) (v w : Verdict) → or_else (λ m p. placed u (Refused m p)) v w ≡ and_then (placed u v) w
unfolding or_else and_then placed
or-placed u Accepted w = refl
or-placed u (Refused m p) w = refl

module _ (d : Domain) (R : Reader d) (xs : List ℕ) where
  abbrev pub s : List ℕ
  s = d.sextets xs

  -- the first refusal from a unit on
  abbrev pub base : ℕ → Verdict
  base at = first_of d (at * d.unit) (cut (frame_in d) (from d xs at))

  pub at-refused : (at m p : ℕ) → at < units_in d xs → frame_ruled (part s at (units_in d xs)) ≡ Unframed m p
      → base at ≡ placed d.unit (Refused m (4 * at + p))
  unfolding first_of shift
  at-refused at m p lt e =
      ap (first_of d (at * d.unit))
      (C.cut-refused (frame_in d) (frames d R) (from d xs at) (some_left d R xs at lt) (framed-refused d R xs at m p lt e))
      ∙ sym (placed-shift d.unit at (Refused m p))

  pub at_item : (at : ℕ) (k : Kind) (h m : ℕ) → at < units_in d xs → frame_ruled (part s at (units_in d xs)) ≡ Item k h m
      → base at ≡ and_then (shift (at * d.unit) (placed d.unit (judge_kind k h (part s at (at + m)) (group max_depth)))) (base (at + m))
  unfolding first_of
  at_item at k h m lt e =
      let f : frame_in d (from d xs at) ≡ Item k (h * d.unit) (m * d.unit) = framed-item d R xs at k h m lt e in
      let fits : m * d.unit ≤ length (from d xs at) = (C.frame-item (frame_in d) (frames d R) (from d xs at) f).2 in
      ap (first_of d (at * d.unit)) (C.cut-item (frame_in d) (frames d R) (from d xs at) f)
      ∙ rw (
        length-take-le (m * d.unit) (from d xs at) fits,
        judged-from d R xs at k h m (omega arith) e fits,
        from_on d xs at m,
        ← add-mul,
      )

  pub at_cut : tail_of d xs ≡ true → base (units_in d xs) ≡ placed d.unit (Refused 4 (4 * units_in d xs))
  unfolding first_of shift
  at_cut e =
      let z : 4 * units_in d xs + 0 ≡ 4 * units_in d xs = omega arith in
      ap (first_of d (units_in d xs * d.unit))
      (C.cut-refused (frame_in d) (frames d R) (from d xs (units_in d xs)) (tail-left d R xs e) (framed-end d R xs))
      ∙ sym (placed-shift d.unit (units_in d xs) (Refused 4 0)) ∙ ap (λ (p : ℕ). placed d.unit (Refused 4 p)) z

  pub at-end : tail_of d xs ≡ false → base (units_in d xs) ≡ Accepted
  unfolding first_of
  at-end e =
      ap (λ (l : List ℕ). first_of d (units_in d xs * d.unit) (cut (frame_in d) l)) (none_left d R xs e)
      ∙ ap (first_of d (units_in d xs * d.unit)) (C.cut-nil (frame_in d) (frames d R))

  unfoldable pub firsts : Telling s (units_in d xs) (tail_of d xs) Verdict
  firsts = record {
    stop = λ m p. placed d.unit (Refused m p);
    end = Accepted;
    emit = λ at m v. v;
    base = base;
    at_cut = at_cut;
    at-end = at-end;
    at-refused = at-refused;
    at_item = λ at k h m lt e.
        let own : List ℕ = part s at (at + m) in
        at_item at k h m lt e
        ∙ sym (or-again (λ n p. placed d.unit (Refused n p)) (4 * at) (judge_kind k h own (own_check max_depth))
        (judge_kind k h own (group max_depth)) (base (at + m)) (whole-refused k h max_depth own)
        ∙ or-placed d.unit (shift (4 * at) (judge_kind k h own (group max_depth))) (base (at + m))
        ∙ ap (λ (v : Verdict). and_then v (base (at + m))) (placed-shift d.unit at (judge_kind k h own (group max_depth))));
  }

  -- what a state has left
  abbrev pending : Walk → Verdict
  pending w = left s (units_in d xs) (tail_of d xs) Verdict firsts w

  -- a step that stops tells it, and any other leaves it
  abbrev Told : Walk → Stepped ℕ → Type 0
  Told w r = (Stops r.found → r.found ≡ found_of (pending w)) × (pending r.next ≡ pending w)

  told : (w next : Walk) (f : Found ℕ) → Tells s (units_in d xs) (tail_of d xs) Verdict firsts w (record { next = next; found = f })
      → (Stops (found_in d.unit f) → next ≡ w) → Told w (in_elements d.unit (record { next = next; found = f }))
  unfolding found_in found_of placed firsts
  told w next (F.Item o m zero k h) t stay = (λ z. absurd z, sym t)
  told w next (F.Item o m (suc e) k h) t stay = (λ z. absurd z, sym t)
  told w next (F.Refused m p) t stay = (λ z. sym (ap found_of t), ap pending (stay tt))
  told w next F.End t stay = (λ z. sym (ap found_of t), ap pending (stay tt))

  module _ (short : length xs ≤ d.limit) where
    told-after : (k : ℕ) → Told (after d xs k) (step_in d xs (after d xs k))
    told-after = tells-after d R xs short Verdict firsts Told told

    after-pending : (k : ℕ) → pending (after d xs k) ≡ first_refusal d xs
    unfolding after rest start firsts
    after-pending zero = let z : 0 * d.unit ≡ 0 = omega arith in ap (λ (o : ℕ). first_of d o (cut (frame_in d) (drop o xs))) z
    after-pending (suc k) = (told-after k).1 ∙ after-pending k

    pub stops_first : (k : ℕ) → Stops (found_at d xs k) → found_at d xs k ≡ found_of (first_refusal d xs)
    stops_first k h = (told-after k).0 h ∙ ap found_of (after-pending k)

  -- ---- an item by itself

  pub own_first : (k : Kind) (h : ℕ) → frame_in d xs ≡ Item k h (length xs) → first_refusal d xs ≡ judge_in d xs
  unfolding first_of
  own_first k h e =
      ap (first_of d 0) (C.cut-item (frame_in d) (frames d R) xs e)
      ∙ rw (take-length xs, drop-length xs, C.cut-nil (frame_in d) (frames d R), shift_zero, then-accepted)
