-- The definitions case by case, as the code's answers cite them. Assumes nothing.
use Prim.Native.Nat.{ℕ, ◌+◌, ◌-◌, ◌≤◌, ◌<◌}
use mathlib.Core.Path.{◌≡◌, refl, sym, ap, ◌∙◌}
use mathlib.Core.Bool.{Bool, true, false}
use mathlib.Core.List.{List, ◌++◌}
use native.Mathlib.Omega.{arith}
use lib.Dec.{ltb}
use lib.ListN.{length, get_or, take, drop, replicate}
use lib.Seq.{take-append_seam, drop-append_seam, length-take-le}
use borrow.Author.Tests.{lt-ltb, le-ltb, eq-eqb, ne_eqb}
use Rattle.format.specs.Judging.{max_depth}
use Rattle.walk_state.specs.declared.Place.{Place}
use Rattle.walk_state.specs.Lent.{walk_at}
use Rattle.walk_state.proofs.Lent.{slot_at}
use Rattle.pieces.specs.declared.Phase.TheVariants as P
use Rattle.pieces.specs.Headers.{endless, room_of}
use Rattle.pieces.specs.Steps.{end_of, refused, settled, is_whole_by, is_whole}
use Rattle.pieces_stage.specs.declared.Stage.{Stage}
use Rattle.pieces_stage.specs.Stages.{progress_at, Becomes, Cleared, made_stage, whole_stage}

-- ---- the slots

fronted : (f d : List ℕ) (m : ℕ) → m ≡ length f → (take m (f ++ d) ≡ f) × (drop m (f ++ d) ≡ d)
fronted f d m e = rw e (take-append_seam f d, drop-append_seam f d)

pub cleared : (l f : List ℕ) → max_depth ≤ length l → length f ≡ length (take max_depth l) → f ≡ replicate (length (take max_depth l)) 0
    → Cleared l (f ++ drop max_depth l)
cleared l f h n e =
    let z : length (take max_depth l) ≡ max_depth = length-take-le max_depth l h in
    let t = fronted f (drop max_depth l) max_depth (sym (n ∙ z)) in
    record { slots = t.0 ∙ e ∙ ap (λ k. replicate k 0) z; behind = t.1 }

-- ---- questions to the walk's place

module _ (slots : List ℕ) (p : Place) where
  pub room-top : p.depth ≡ 0 → endless ≡ room_of (walk_at slots p)
  unfolding room_of
  room-top e = rw (eq-eqb p.depth 0 e)

  module _ (inside : p.depth ≡ 0 → ⊥) (few : p.depth ≤ max_depth) where
    pub room-inner : (r : ℕ) → r ≡ get_or slots (p.depth - 1) 0 - p.at → r ≡ room_of (walk_at slots p)
    unfolding room_of
    room-inner r e = rw (ne_eqb p.depth 0 inside, slot_at slots (p.depth - 1) (omega arith)) e

  pub end-top : p.depth ≡ 0 → p.at ≡ end_of (walk_at slots p)
  unfolding end_of
  end-top e = rw (eq-eqb p.depth 0 e)

  pub end-inner : (p.depth ≡ 0 → ⊥) → get_or slots 0 0 ≡ end_of (walk_at slots p)
  unfolding end_of
  end-inner e = rw (ne_eqb p.depth 0 e, slot_at slots 0 (omega arith))

-- ---- one unit more

module _ (slots : List ℕ) (g r : Stage) (w : Place) (lead : ℕ) (text : Bool) (n i : ℕ) where
  pub settled_on : g.read + 1 < w.at → r ≡ made_stage g w true lead text n i
      → Becomes slots slots r (settled (progress_at slots g) (walk_at slots w) lead text n i)
  unfolding settled
  settled_on l e = record { state = rw (e, lt-ltb (g.read + 1) w.at l); behind = refl }

  pub settled-end : w.at ≤ g.read + 1 → n ≡ 0 → r ≡ made_stage g w false 0 false 0 0
      → Becomes slots slots r (settled (progress_at slots g) (walk_at slots w) lead text n i)
  unfolding settled
  settled-end l z e = record { state = rw (e, le-ltb (g.read + 1) w.at l, eq-eqb n 0 z); behind = refl }

  pub settled-refused : (after : List ℕ) → w.at ≤ g.read + 1 → (n ≡ 0 → ⊥) → Becomes slots after r (refused (progress_at slots g) (walk_at slots w) n i)
      → Becomes slots after r (settled (progress_at slots g) (walk_at slots w) lead text n i)
  unfolding settled
  settled-refused after l z b = record { state = b.state ∙ rw (le-ltb (g.read + 1) w.at l, ne_eqb n 0 z); behind = b.behind }

-- ---- an item's last unit

module _ (g : Stage) where
  pub whole_open : g.phase ≡ P.Framing → (g.walk.depth ≡ 0 → ⊥) → false ≡ whole_stage g
  unfolding is_whole is_whole_by
  whole_open e o = rw (e, ne_eqb g.walk.depth 0 o)

  pub whole-early : g.phase ≡ P.Framing → g.walk.depth ≡ 0 → (g.read ≡ g.walk.at → ⊥) → false ≡ whole_stage g
  unfolding is_whole is_whole_by
  whole-early e z o = rw (e, eq-eqb g.walk.depth 0 z, ne_eqb g.read g.walk.at o)

  pub whole_here : g.phase ≡ P.Framing → g.walk.depth ≡ 0 → g.read ≡ g.walk.at → ltb g.start g.read ≡ whole_stage g
  unfolding is_whole is_whole_by
  whole_here e z o = rw (e, eq-eqb g.walk.depth 0 z, eq-eqb g.read g.walk.at o)

  pub whole-unframed : g.phase ≡ P.Unframed → false ≡ whole_stage g
  unfolding is_whole is_whole_by
  whole-unframed e = rw e

  pub whole-ended : g.phase ≡ P.Ended → false ≡ whole_stage g
  unfolding is_whole is_whole_by
  whole-ended e = rw e
