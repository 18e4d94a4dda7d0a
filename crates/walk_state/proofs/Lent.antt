-- The state's laws over slots that are lent, as the code goes: closing turn by turn, entering, and a step made of both. Assumes nothing.
use mathlib.Core.Path.{◌≡◌, refl, ap, sym, ◌∙◌}
use mathlib.Core.Bool.{Bool, true, false}
use mathlib.Core.List.{List}
use Prim.Native.Nat.{ℕ, ◌+◌, ◌-◌, ◌<◌, ◌≤◌}
use native.Mathlib.Omega.{arith}
use lib.Dec.{eqb, ltb}
use lib.ListN.{length, get_or, set, drop}
use lib.Seq.{get_or-take, take-set-lt, drop-set-lt, take_all}
use borrow.Author.Tests.{lt-ltb, le-ltb, le-leb, lt-leb, eq-eqb, ne_eqb}
use Rattle.base.specs.Pick.{pick}
use Rattle.format.specs.Judging.{max_depth}
use Rattle.walk_state.specs.declared.Walk.{Walk}
use Rattle.walk_state.specs.declared.Place.{Place}
use Rattle.walk_state.specs.Walking.{closed, moved_to}
use Rattle.walk_state.specs.Moving.{finished, entered, step_over}
use Rattle.walk_state.specs.Lent.{slots_in, state_at, walk_at, mark_of, still_at, Closes, Moves}
use Rattle.walk_state.proofs.Laws.{closed-step, closed_none}

pub slot_at : (s : List ℕ) (k : ℕ) → k < max_depth → get_or (slots_in s) k 0 ≡ get_or s k 0
slot_at s k h = get_or-take max_depth s k 0 h

put-slot : (s : List ℕ) (k v : ℕ) → k < max_depth → slots_in (set s k v) ≡ set (slots_in s) k v
put-slot s k v h = take-set-lt max_depth s k v h

-- ---- closing: to close what is left gives what to close all gave

pub record Closing (before after : List ℕ) (depth at still : ℕ) : Type 0 where
  pub few : still ≤ depth
  pub state : (first indexed : Bool) → closed still (state_at after still at first (mark_of still depth indexed))
      ≡ closed depth (state_at before depth at first indexed)
  pub behind : drop max_depth after ≡ drop max_depth before

pub closing-starts : (s : List ℕ) (depth at : ℕ) → Closing s s depth at depth
closing-starts s depth at = record { few = omega arith; state = λ first indexed. rw (eq-eqb depth depth refl); behind = refl }

module _ {before after : List ℕ} {depth at still : ℕ} (c : Closing before after depth at still) where
  turn : 0 < still → still ≤ max_depth → (first indexed : Bool)
      → closed still (state_at after still at first indexed)
      ≡ pick (eqb (get_or after (still - 1) 0) at) (closed (still - 1) (state_at (set after (still - 1) 0) (still - 1) at first false))
      (state_at after still at first indexed)
  turn p q first indexed =
      closed-step still (state_at after still at first indexed) p
      ∙ rw (slot_at after (still - 1) (omega arith), put-slot after (still - 1) 0 (omega arith))

  pub closing-more : 0 < still → still ≤ max_depth → get_or after (still - 1) 0 ≡ at → Closing before (set after (still - 1) 0) depth at (still - 1)
  closing-more p q e =
      record {
        few = omega (arith, c.few);
        state = λ first indexed.
            rw (ne_eqb (still - 1) depth (λ z. omega (arith, c.few)))
            (sym (turn p q first (mark_of still depth indexed) ∙ rw (eq-eqb _ _ e)) ∙ c.state first indexed);
        behind = drop-set-lt max_depth after (still - 1) 0 (omega arith) ∙ c.behind;
      }

  pub closing-stops : 0 < still → still ≤ max_depth → ¬ (get_or after (still - 1) 0 ≡ at) → Closes before after depth at still
  closing-stops p q e = record {
    state = λ first indexed. sym (turn p q first (mark_of still depth indexed) ∙ rw (ne_eqb _ _ e)) ∙ c.state first indexed;
    behind = c.behind;
  }

  pub closing-ends : still ≤ 0 → Closes before after depth at still
  closing-ends p = record {
    state = λ first indexed.
        sym (closed_none still (state_at after still at first (mark_of still depth indexed)) p) ∙ c.state first indexed;
    behind = c.behind;
  }

-- ---- where a step leads

module _ (s : List ℕ) (p : Place) where
  pub finish-none : max_depth < p.depth → Moves s s p (finished (walk_at s p))
  unfolding finished
  finish-none h = record { state = rw (lt-ltb _ _ h); behind = refl }

  pub finish-some : {after : List ℕ} {still : ℕ} {q : Place} → p.depth ≤ max_depth → Closes s after p.depth p.at still
      → q ≡ still_at p still → Moves s after q (finished (walk_at s p))
  unfolding finished
  finish-some h c e = rw e (record { state = rw (le-ltb max_depth p.depth h) (c.state p.first p.indexed); behind = c.behind })

  module _ (at end : ℕ) (mark indexed : Bool) where
    pub enter-none : max_depth ≤ p.depth → Moves s s p (entered (walk_at s p) at end mark indexed)
    unfolding entered
    enter-none h = record { state = rw (le-leb _ _ h); behind = refl }

    enter-slot : p.depth < max_depth → (first : Bool) → first ≡ pick (ltb at end) mark false
        → Moves s (set s p.depth end) (record { depth = p.depth + 1; at = at; first = first; indexed = indexed })
        (entered (walk_at s p) at end mark indexed)
    unfolding entered
    enter-slot h first e =
        record { state = rw (lt-leb _ _ h, put-slot s p.depth end h, e); behind = drop-set-lt max_depth s p.depth end h }

    pub enter-marked : p.depth < max_depth → at < end
        → Moves s (set s p.depth end) (record { depth = p.depth + 1; at = at; first = mark; indexed = indexed })
        (entered (walk_at s p) at end mark indexed)
    enter-marked h l = enter-slot h mark (rw (lt-ltb _ _ l))

    pub enter-empty : p.depth < max_depth → end ≤ at
        → Moves s (set s p.depth end) (record { depth = p.depth + 1; at = at; first = false; indexed = indexed })
        (entered (walk_at s p) at end mark indexed)
    enter-empty h l = enter-slot h false (rw (le-ltb _ _ l))

    pub advance-into : {inner after : List ℕ} {q r : Place} → Moves s inner q (entered (walk_at s p) at end mark indexed)
        → Moves inner after r (finished (walk_at inner q)) → Moves s after r (step_over (walk_at s p) at end true mark indexed)
    unfolding step_over
    advance-into e f = record { state = f.state ∙ ap finished e.state; behind = f.behind ∙ e.behind }

    pub advance-past : {after : List ℕ} {r : Place}
        → Moves s after r (finished (walk_at s (record { depth = p.depth; at = end; first = false; indexed = p.indexed })))
        → Moves s after r (step_over (walk_at s p) at end false mark indexed)
    unfolding step_over moved_to
    advance-past f = f

-- ---- slots of one's own

pub own-place : (w : Walk) → length w.ends ≡ max_depth
    → walk_at w.ends (record { depth = w.depth; at = w.at; first = w.first; indexed = w.indexed }) ≡ w
own-place w l =
    ap (λ (e : List ℕ). record { ends = e; depth = w.depth; at = w.at; first = w.first; indexed = w.indexed })
    (take_all max_depth w.ends (omega arith))

pub own-moved : {before after : List ℕ} {p : Place} {w : Walk} → length after ≡ max_depth → Moves before after p w
    → record { ends = after; depth = p.depth; at = p.at; first = p.first; indexed = p.indexed } ≡ w
own-moved {after = after} {p = p} l m =
    sym (ap (λ (e : List ℕ). record { ends = e; depth = p.depth; at = p.at; first = p.first; indexed = p.indexed })
    (take_all max_depth after (omega arith))) ∙ m.state
