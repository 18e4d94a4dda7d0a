-- The items that the walk yields at depth 0 are the report's, up to the first refusal. Assumes nothing.
use Prim.Native.Nat.{ℕ, zero, suc, ◌+◌, ◌-◌, ◌*◌, ◌/◌, ◌≤◌, ◌<◌}
use Rattle.std.specs.Prelude.{◌≡◌, refl, Bool, true, false, take, drop}
use Rattle.std.proofs.Math.Path.{sym, ap}
use Rattle.std.proofs.Common.{◌∙◌, length-drop}
use mathlib.Core.List.{List, [], ◌∷◌, ◌++◌, append_assoc, append-nil}
use native.Mathlib.Omega.{arith}
use Rattle.std.proofs.Math.Nat.{add-mul, mul-div_cancel}
use Rattle.std.proofs.Math.ListN.{length}
use Rattle.format.specs.declared.Kind.{Kind}
use Rattle.format.specs.declared.Kind.TheVariants.{Fixed, Variable, Group, Genus, Indexed}
use Rattle.format.specs.declared.Framed.TheVariants.{Item, Unframed}
use Rattle.format.specs.declared.Verdict.{Verdict}
use Rattle.format.specs.declared.Verdict.TheVariants.{Accepted, Refused}
use Rattle.format.specs.Units.{Domain}
use Rattle.format.specs.Framing.{frame_ruled}
use Rattle.format.specs.Judging.{shift, unless, is_shortest, judge_kind, own_check, group, max_depth}
use Rattle.format.specs.Report.{rows, rows_in, frame_in, placed}
use Rattle.damage.proofs.Cuts as C
use Rattle.laws.specs.Domains.{Reader}
use Rattle.laws.specs.Frames.{frames}
use Rattle.laws.specs.Items.{rows_at, rows-nil, rows-refused, rows-item}
use Rattle.walk_state.specs.declared.Walk.{Walk}
use Rattle.walk_state.specs.declared.Found.{Found}
use Rattle.walk_state.specs.declared.Found.TheVariants as F
use Rattle.walk_state.specs.declared.Stepped.{Stepped}
use Rattle.walk_state.specs.Walking.{start, found_in, step_in}
use Rattle.walk_claims.specs.Words.{units_in, tail_of, after, found_at, Stops, Span, outer}
use Rattle.walk_claims.specs.Words.{outer_items, opens, is_opened, up_to, up_to_refusal}
use Rattle.laws.specs.Framing.{unscale}
use Rattle.laws.specs.Levels.{part, part_length, item-sizes}
use Rattle.walk_claims.proofs.Rest.{group-refused, or_else, Telling, rest, left, Tells}
use Rattle.walk_claims.proofs.Steps.{in_elements}
use Rattle.walk_claims.proofs.Runs.{long, tells-after}
use Rattle.walk_claims.proofs.Streams.{ruled-any, from, from_on, judged-from, framed-item, framed-refused}
use Rattle.walk_claims.proofs.Streams.{framed-end, some_left, tail-left, none_left}

-- ---- which are yielded

abbrev none : ℕ → ℕ → List Span
none m p = []

-- judged before it is yielded
judged-first : (o o' u : ℕ) (v : Verdict) (r : Span) (rs : List Span)
    → up_to (shift o (placed u v)) false r rs ≡ or_else none (shift o' v) (r ∷ or_else none (shift o' v) rs)
unfolding up_to shift placed or_else
judged-first o o' u Accepted r rs = refl
judged-first o o' u (Refused m p) r rs = refl

-- a group that is opened, its own check passed
judged-after : (o o' u : ℕ) (v : Verdict) (r : Span) (rs : List Span)
    → up_to (shift o (placed u v)) true r rs ≡ r ∷ or_else none (shift o' v) rs
unfolding up_to shift placed or_else
judged-after o o' u Accepted r rs = refl
judged-after o o' u (Refused m p) r rs = refl

-- a group's own check: 18, or nothing
check-by : (l letter h : ℕ) (ys : List ℕ) → 0 < l → (b : Bool) → is_shortest h (length ys / 4) ≡ b → own_check l letter h ys ≡ unless 18 b
unfolding own_check
check-by zero letter h ys lt b e = absurd (omega arith)
check-by (suc l) letter h ys lt b e = rw e

group-yielded : (o o' u letter h : ℕ) (ys : List ℕ) (r : Span) (rs : List Span) (b : Bool) → is_shortest h (length ys / 4) ≡ b
    → up_to (shift o (placed u (group max_depth letter h ys))) b r rs
    ≡ or_else none (shift o' (own_check max_depth letter h ys)) (r ∷ or_else none (shift o' (group max_depth letter h ys)) rs)
unfolding unless or_else shift
group-yielded o o' u letter h ys r rs true e =
    rw (check-by max_depth letter h ys (omega arith) true e) (judged-after o o' u (group max_depth letter h ys) r rs)
group-yielded o o' u letter h ys r rs false e =
    let c : own_check max_depth letter h ys ≡ Refused 18 0 = check-by max_depth letter h ys (omega arith) false e in
    rw (group-refused max_depth letter h ys 18 0 c, c) (judged-first o o' u (Refused 18 0) r rs)

-- s: the item's own sextets, of m units
yielded : (o o' u : ℕ) (k : Kind) (h m : ℕ) (s : List ℕ) → length s ≡ 4 * m → (r : Span) (rs : List Span)
    → up_to (shift o (placed u (judge_kind k h s (group max_depth)))) (is_opened (Item k h m)) r rs
    ≡ or_else none (shift o' (judge_kind k h s (own_check max_depth))) (r ∷ or_else none (shift o' (judge_kind k h s (group max_depth))) rs)
unfolding judge_kind is_opened opens
yielded o o' u (Fixed c) h m s long r rs = judged-first o o' u _ r rs
yielded o o' u (Variable t l c) h m s long r rs = judged-first o o' u _ r rs
yielded o o' u Genus h m s long r rs = judged-first o o' u _ r rs
yielded o o' u (Indexed c) h m s long r rs = judged-first o o' u _ r rs
yielded o o' u (Group letter) h m s long r rs =
    let ys : List ℕ = drop (4 * h) s in
    let n : length ys / 4 ≡ m - h = omega (arith, length-drop (4 * h) s) in
    rw (← n) (group-yielded o o' u letter h ys r rs (is_shortest h (length ys / 4)) refl)

-- ---- what is left to yield

module _ (d : Domain) (R : Reader d) (xs : List ℕ) where
  abbrev s : List ℕ
  s = d.sextets xs

  abbrev base : ℕ → List Span
  base at = up_to_refusal d xs (rows_at d (at * d.unit) (from d xs at))

  abbrev emit : ℕ → ℕ → List Span → List Span
  emit at m rs = record { offset = at * d.unit; size = m * d.unit } ∷ rs

  at_cut : tail_of d xs ≡ true → base (units_in d xs) ≡ []
  unfolding up_to_refusal
  at_cut e =
      ap (up_to_refusal d xs) (rows-refused d R _ (from d xs (units_in d xs)) (tail-left d R xs e) (framed-end d R xs))

  at-end : tail_of d xs ≡ false → base (units_in d xs) ≡ []
  unfolding up_to_refusal
  at-end e = rw (none_left d R xs e, rows-nil d R (units_in d xs * d.unit))

  at-refused : (at m p : ℕ) → at < units_in d xs → frame_ruled (part s at (units_in d xs)) ≡ Unframed m p → base at ≡ []
  unfolding up_to_refusal
  at-refused at m p lt e =
      ap (up_to_refusal d xs)
      (rows-refused d R (at * d.unit) (from d xs at) (some_left d R xs at lt) (framed-refused d R xs at m p lt e))

  -- an item's own sextets, and its own frame
  own-length : (at : ℕ) (k : Kind) (h m : ℕ) → at < units_in d xs → frame_ruled (part s at (units_in d xs)) ≡ Item k h m
      → length (part s at (at + m)) ≡ 4 * m
  own-length at k h m lt e =
      let all : length (part s at (units_in d xs)) ≡ 4 * units_in d xs - 4 * at = part_length s at (units_in d xs) (long d R xs) in
      let b = item-sizes false (part s at (units_in d xs)) k h m (ruled-any (part s at (units_in d xs)) k h m e) in
      part_length s at (at + m) (omega (arith, b.2, long d R xs)) ∙ omega arith

  own-frame : (ys : List ℕ) (k : Kind) (h m : ℕ) → frame_in d ys ≡ Item k (h * d.unit) (m * d.unit) → frame_ruled (d.sextets ys) ≡ Item k h m
  unfolding frame_in
  own-frame ys k h m e =
      let q = unscale d.unit (frame_ruled (d.sextets ys)) e in
      let same : (a b : ℕ) → a * d.unit ≡ b * d.unit → a ≡ b =
      λ a b f. sym (mul-div_cancel a R.pos) ∙ ap (λ (x : ℕ). x / d.unit) f ∙ mul-div_cancel b R.pos in
      q.2 ∙ rw (same q.0 h (sym q.3), same q.1 m (sym q.4))

  at_item : (at : ℕ) (k : Kind) (h m : ℕ) → at < units_in d xs → frame_ruled (part s at (units_in d xs)) ≡ Item k h m
      → base at
      ≡ or_else none (shift (4 * at) (judge_kind k h (part s at (at + m)) (own_check max_depth)))
      (emit at m (or_else none (shift (4 * at) (judge_kind k h (part s at (at + m)) (group max_depth))) (base (at + m))))
  unfolding up_to_refusal
  at_item at k h m lt e =
      let f : frame_in d (from d xs at) ≡ Item k (h * d.unit) (m * d.unit) = framed-item d R xs at k h m lt e in
      let fits : m * d.unit ≤ length (from d xs at) = (C.frame-item (frame_in d) (frames d R) (from d xs at) f).2 in
      ap (up_to_refusal d xs) (rows-item d R (at * d.unit) (from d xs at) f)
      ∙ rw (
        judged-from d R xs at k h m (omega arith) e fits,
        own-frame (take (m * d.unit) (from d xs at)) k h m (C.frame-take (frame_in d) (frames d R) (from d xs at) f),
        from_on d xs at m,
        ← add-mul,
      )
      (yielded (at * d.unit) (4 * at) d.unit k h m (part s at (at + m)) (own-length at k h m lt e) _ (base (at + m)))

  spans : Telling s (units_in d xs) (tail_of d xs) (List Span)
  spans = record {
    stop = none;
    end = [];
    emit = emit;
    base = base;
    at_cut = at_cut;
    at-end = at-end;
    at-refused = at-refused;
    at_item = at_item;
  }

  abbrev coming : Walk → List Span
  coming w = left s (units_in d xs) (tail_of d xs) (List Span) spans w

  -- a step that stops has none left, and any other yields the first of them
  abbrev Told : Walk → Stepped ℕ → Type 0
  Told w r = (Stops r.found → coming w ≡ []) × (outer r.found ++ coming r.next ≡ coming w)

  told : (w next : Walk) (f : Found ℕ) → Tells s (units_in d xs) (tail_of d xs) (List Span) spans w (record { next = next; found = f })
      → (Stops (found_in d.unit f) → next ≡ w) → Told w (in_elements d.unit (record { next = next; found = f }))
  unfolding found_in outer spans
  told w next (F.Item o m zero k h) t stay = (λ z. absurd z, sym t)
  told w next (F.Item o m (suc e) k h) t stay = (λ z. absurd z, sym t)
  told w next (F.Refused m p) t stay = (λ _. t, ap coming (stay tt))
  told w next F.End t stay = (λ _. t, ap coming (stay tt))

  module _ (short : length xs ≤ d.limit) where
    told-after : (k : ℕ) → Told (after d xs k) (step_in d xs (after d xs k))
    told-after = tells-after d R xs short (List Span) spans Told told

    so_far : (k : ℕ) → outer_items d xs k ++ coming (after d xs k) ≡ up_to_refusal d xs (rows_in d xs)
    unfolding outer_items after rest start spans rows
    so_far zero = let z : 0 * d.unit ≡ 0 = omega arith in ap (λ (o : ℕ). up_to_refusal d xs (rows_at d o (drop o xs))) z
    so_far (suc k) =
        append_assoc (outer_items d xs k) (outer (found_at d xs k)) _
        ∙ ap (λ (l : List Span). outer_items d xs k ++ l) (told-after k).1 ∙ so_far k

    pub all-outer : (k : ℕ) → Stops (found_at d xs k) → outer_items d xs k ≡ up_to_refusal d xs (rows_in d xs)
    all-outer k h =
        sym (append-nil (outer_items d xs k)) ∙ ap (λ (l : List Span). outer_items d xs k ++ l) (sym ((told-after k).0 h)) ∙ so_far k
