-- A walk of a part of a stream, within a group that ends where the part does, is the walk of the stream there, counted on by what
-- stands before the part. Assumes nothing.
use Prim.Native.Nat.{ℕ, zero, suc, ◌+◌, ◌-◌, ◌*◌, ◌≤◌, ◌<◌}
use Rattle.std.specs.Prelude.{◌≡◌, Bool, true, ltb, eqb, get_or, take, drop, set}
use Rattle.std.proofs.Math.Path.{refl, ap}
use Rattle.std.proofs.Common.{sym, ◌∙◌}
use mathlib.Core.List.{List, [], ◌∷◌}
use Rattle.std.proofs.Math.Bool.{false}
use native.Mathlib.Omega.{arith}
use Rattle.std.proofs.Math.ListN.{length, length-set}
use borrow.Author.Tests.{eqb-true, eqb-false, eq-eqb, ne_eqb}
use Rattle.base.specs.Pick.{pick}
use Rattle.format.specs.declared.Kind.{Kind}
use Rattle.format.specs.declared.Kind.TheVariants.{Fixed, Variable, Group, Genus, Indexed}
use Rattle.format.specs.declared.Framed.{Framed}
use Rattle.format.specs.declared.Framed.TheVariants.{Item, Unframed}
use Rattle.format.specs.declared.Verdict.{Verdict}
use Rattle.format.specs.declared.Verdict.TheVariants.{Accepted, Refused}
use Rattle.format.specs.Registry.{is_indexed, is_overrideable}
use Rattle.format.specs.Framing.{frame_next}
use Rattle.format.specs.Judging.{judge_kind, own_check, max_depth}
use Rattle.walk_state.specs.declared.Walk.{Walk}
use Rattle.walk_state.specs.declared.Found.{Found}
use Rattle.walk_state.specs.declared.Found.TheVariants as F
use Rattle.walk_state.specs.declared.Stepped.{Stepped}
use Rattle.walk_state.specs.Walking.{closed, moved_to, past, next_of, stop_of, judged, framed_by, frame_at, step_fit}
use Rattle.laws.specs.Levels.{part, part-drop, part-take}
use Rattle.walk_claims.proofs.Fitting.{stop_at, stop-in, Fits}
use Rattle.walk_claims.proofs.Steps.{asked, into_next, over_next, opens-next}
use Rattle.walk_claims.proofs.Keeps.{item_room, stop-level, few-open}

-- ---- a state, counted on by p units

-- the ends of the d open groups
unfoldable pub ends_on : ℕ → ℕ → List ℕ → List ℕ
ends_on p zero es = es
ends_on p (suc d) [] = []
ends_on p (suc d) (e ∷ es) = (p + e) ∷ ends_on p d es

abbrev pub state : List ℕ → ℕ → ℕ → Bool → Bool → Walk
state es depth at first indexed = record { ends = es; depth = depth; at = at; first = first; indexed = indexed }

abbrev pub moved_on : ℕ → Walk → Walk
moved_on p w = state (ends_on p w.depth w.ends) w.depth (p + w.at) w.first w.indexed

-- offsets in units, places in sextets
unfoldable pub counted_on : ℕ → Found ℕ → Found ℕ
counted_on p (F.Item o n d k h) = F.Item (p + o) n d k h
counted_on p (F.Refused m q) = F.Refused m (4 * p + q)
counted_on p F.End = F.End

abbrev pub stepped_on : ℕ → Stepped ℕ → Stepped ℕ
stepped_on p r = record { next = moved_on p r.next; found = counted_on p r.found }

module _ (p : ℕ) where
  -- ---- slots

  pub end_on : (d : ℕ) (es : List ℕ) (k : ℕ) → k < d → k < length es → get_or (ends_on p d es) k 0 ≡ p + get_or es k 0
  unfolding ends_on
  end_on zero es k h l = absurd (omega arith)
  end_on (suc d) [] k h l = absurd (omega arith)
  end_on (suc d) (e ∷ es) zero h l = refl
  end_on (suc d) (e ∷ es) (suc k) h l = end_on d es k (omega arith) (omega arith)

  pub end-off : (d : ℕ) (es : List ℕ) (k : ℕ) → d ≤ k → get_or (ends_on p d es) k 0 ≡ get_or es k 0
  unfolding ends_on
  end-off zero es k h = refl
  end-off (suc d) [] k h = refl
  end-off (suc d) (e ∷ es) zero h = absurd (omega arith)
  end-off (suc d) (e ∷ es) (suc k) h = end-off d es k (omega arith)

  pub length-on : (d : ℕ) (es : List ℕ) → length (ends_on p d es) ≡ length es
  unfolding ends_on
  length-on zero es = refl
  length-on (suc d) [] = refl
  length-on (suc d) (e ∷ es) = ap suc (length-on d es)

  set-open : (d v : ℕ) (es : List ℕ) → set (ends_on p d es) d (p + v) ≡ ends_on p (suc d) (set es d v)
  unfolding ends_on
  set-open zero v [] = refl
  set-open zero v (e ∷ es) = refl
  set-open (suc d) v [] = refl
  set-open (suc d) v (e ∷ es) = ap (λ (l : List ℕ). (p + e) ∷ l) (set-open d v es)

  set-shut : (d : ℕ) (es : List ℕ) → set (ends_on p (suc d) es) d 0 ≡ ends_on p d (set es d 0)
  unfolding ends_on
  set-shut zero [] = refl
  set-shut zero (e ∷ es) = refl
  set-shut (suc d) [] = refl
  set-shut (suc d) (e ∷ es) = ap (λ (l : List ℕ). (p + e) ∷ l) (set-shut d es)

  same_test : (a b : ℕ) → eqb (p + a) (p + b) ≡ eqb a b
  same_test a b = go (eqb a b) refl
    where
      go : (t : Bool) → eqb a b ≡ t → eqb (p + a) (p + b) ≡ t
      go true e = eq-eqb (p + a) (p + b) (ap (λ (x : ℕ). p + x) (eqb-true a b e))
      go false e = ne_eqb (p + a) (p + b) (λ q. eqb-false a b e (omega arith))

  -- ---- the next state

  closed_on : (k : ℕ) (es : List ℕ) (at : ℕ) (first indexed : Bool) → k ≤ length es
      → closed k (moved_on p (state es k at first indexed)) ≡ moved_on p (closed k (state es k at first indexed))
  unfolding closed
  closed_on zero es at first indexed h = refl
  closed_on (suc k) es at first indexed h =
      rw (end_on (suc k) es k (omega arith) (omega arith), same_test (get_or es k 0) at, set-shut k es)
      (go (eqb (get_or es k 0) at) (closed_on k (set es k 0) at first false (omega (arith, length-set es k 0))))
    where
      outside : Walk
      outside = state (set es k 0) k at first false

      go : (b : Bool) → closed k (moved_on p outside) ≡ moved_on p (closed k outside)
          → pick b (closed k (moved_on p outside)) (moved_on p (state es (suc k) at first indexed))
          ≡ moved_on p (pick b (closed k outside) (state es (suc k) at first indexed))
      go true e = e
      go false e = refl

  module _ (w : Walk) (few : w.depth ≤ length w.ends) (h m : ℕ) where
    over-on : over_next (moved_on p w) m ≡ moved_on p (over_next w m)
    unfolding moved_to
    over-on =
        let z : p + w.at + m ≡ p + (w.at + m) = omega arith in
        rw z (closed_on w.depth w.ends (w.at + m) false w.indexed few)

    pub into-on : (first indexed : Bool) → w.depth < length w.ends
        → into_next (moved_on p w) h m first indexed ≡ moved_on p (into_next w h m first indexed)
    into-on first indexed l =
        let z : p + w.at + m ≡ p + (w.at + m) = omega arith in
        let y : p + w.at + h ≡ p + (w.at + h) = omega arith in
        rw (z, y, set-open w.depth (w.at + m) w.ends)
        (closed_on (suc w.depth) (set w.ends w.depth (w.at + m)) (w.at + h) (pick (ltb h m) first false) indexed
        (omega (arith, length-set w.ends w.depth (w.at + m))))

    -- what a kind opens, it opens in a slot that is there
    abbrev Slotted : Kind → Type 0
    Slotted (Fixed c) = Unit {0}
    Slotted (Variable t l c) = Unit {0}
    Slotted Genus = Unit {0}
    Slotted (Indexed c) = Unit {0}
    Slotted (Group letter) = w.depth < length w.ends

    next-on : (k : Kind) → Slotted k → next_of (moved_on p w) k h m ≡ moved_on p (next_of w k h m)
    unfolding next_of past moved_to
    next-on (Fixed c) s = over-on
    next-on (Variable t l c) s = over-on
    next-on Genus s = over-on
    next-on (Indexed c) s = over-on
    next-on (Group letter) s =
        rw (opens-next (moved_on p w) h m letter, opens-next w h m letter) (into-on (is_overrideable letter) (is_indexed letter) s)

  -- ---- a part of the stream

  part-on : (s : List ℕ) (m at e : ℕ) → e ≤ m → part s (p + at) (p + e) ≡ part (part s p (p + m)) at e
  part-on s m at e h =
      let four : e * 4 ≡ 4 * e = omega arith in
      let front : take (4 * e) (part s p (p + m)) ≡ part s p (p + e) = rw four at (part-take s p e (p + m) (omega arith)) in
      sym (ap (drop (4 * at)) front ∙ part-drop s p at (p + e))

  module _ (s : List ℕ) (n : ℕ) (tail : Bool) (m : ℕ) (room : p + m ≤ n) where
    -- the sextets of m units from p on
    abbrev body : List ℕ
    body = part s p (p + m)

    module _ (w : Walk) (few : w.depth ≤ length w.ends) where
      judged-on : (k : Kind) (h c : ℕ) (v : Verdict) → (v ≡ Accepted → Slotted w few h c k)
          → judged (moved_on p w) k h c v ≡ stepped_on p (judged w k h c v)
      unfolding judged counted_on
      judged-on k h c (Refused q r) t =
          let z : 4 * (p + w.at) + r ≡ 4 * p + (4 * w.at + r) = omega arith in rw z
      judged-on k h c Accepted t = rw (next-on w few h c k (t refl))

      -- a framed item ends within the part
      abbrev Ends : Framed → Type 0
      Ends (Item k h c) = w.at + c ≤ m
      Ends (Unframed q r) = Unit {0}

      module _ (full : length w.ends ≡ max_depth) where
        slotted : (k : Kind) (h c : ℕ) (xs : List ℕ) → judge_kind k h xs (own_check (max_depth - w.depth)) ≡ Accepted → Slotted w few h c k
        unfolding judge_kind
        slotted (Fixed x) h c xs e = tt
        slotted (Variable t l x) h c xs e = tt
        slotted Genus h c xs e = tt
        slotted (Indexed x) h c xs e = tt
        slotted (Group letter) h c xs e = omega (arith, few-open (max_depth - w.depth) letter h (drop (4 * h) xs) e)

        framed-on : (r : Framed) → Ends r → framed_by s (moved_on p w) r ≡ stepped_on p (framed_by body w r)
        unfolding framed_by counted_on
        framed-on (Unframed q r) e = let z : 4 * (p + w.at) + r ≡ 4 * p + (4 * w.at + r) = omega arith in rw z
        framed-on (Item k h c) e =
            let z : p + w.at + c ≡ p + (w.at + c) = omega arith in
            rw (z, part-on s m w.at (w.at + c) e)
            (judged-on k h c (judge_kind k h (part body w.at (w.at + c)) (own_check (max_depth - w.depth)))
            (slotted k h c (part body w.at (w.at + c))))

    frame-asked : (w : Walk) (xs : List ℕ) → frame_at w xs ≡ frame_next w.indexed (asked w) xs
    unfolding frame_at asked
    frame-asked w xs = refl

    frame_on : (w : Walk) (xs : List ℕ) → frame_at (moved_on p w) xs ≡ frame_at w xs
    unfolding frame_at
    frame_on w xs = refl

    stop-on : (w : Walk) → 0 < w.depth → w.depth ≤ length w.ends → stop_of (moved_on p w) n ≡ p + stop_of w m
    unfolding stop_of
    stop-on w h l =
        rw (ne_eqb w.depth 0 (λ e. omega arith)) (end_on w.depth w.ends (w.depth - 1) (omega arith) (omega arith))

    ends_of : (w : Walk) (few : w.depth ≤ length w.ends) (r : Framed) → ((k : Kind) (h c : ℕ) → r ≡ Item k h c → w.at + c ≤ m) → Ends w few r
    ends_of w few (Item k h c) f = f k h c refl
    ends_of w few (Unframed q r) f = tt

    -- a step within the group
    pub step-on : (w : Walk) → Fits w m → 0 < w.depth → 4 * m ≤ length body
        → step_fit s n tail (moved_on p w) ≡ stepped_on p (step_fit body m false w)
    unfolding step_fit
    step-on w f h long =
        let full = f.nest.full in
        let few : w.depth ≤ length w.ends = omega (arith, f.nest.few) in
        let stop : stop_of w m ≡ stop_at m w.depth w.ends = stop-level w m in
        let inside : stop_at m w.depth w.ends ≤ m = stop-in w m f.nest in
        let ahead = f.ahead h in
        let asks = frame-asked w (part body w.at (stop_of w m)) in
        rw (
          ne_eqb (p + w.at) n (λ e. omega arith),
          ne_eqb w.at m (λ e. omega arith),
          stop-on w h few,
          part-on s m w.at (stop_of w m) (omega arith),
          frame_on w (part body w.at (stop_of w m)),
        )
        (framed-on w few full (frame_at w (part body w.at (stop_of w m)))
        (ends_of w few (frame_at w (part body w.at (stop_of w m)))
        (λ k b c e. omega (arith, (item_room body m false w long f k b c (sym asks ∙ e)).2))))
