-- Laws of the walk's definitions that the code's answers cite: closing turn by turn, and that a step over an item gives Walking's next
-- state. Assumes nothing.
use mathlib.Core.Path.{◌≡◌, refl, sym, ◌∙◌}
use mathlib.Core.Bool.{Bool, true, false}
use mathlib.Core.Logic.{⊎_elim}
use Prim.Native.Nat.{ℕ, zero, suc, ◌+◌, ◌-◌, ◌<◌, ◌≤◌}
use native.Mathlib.Numerals.{sub-one}
use native.Mathlib.Omega.{arith}
use lib.Dec.{ltb, eqb}
use lib.ListN.{get_or, set}
use borrow.Author.Tests.{lt-ltb, le-ltb, lt-leb}
use Rattle.base.specs.Pick.{pick}
use Rattle.base.specs.Cases.{lt-or-ge}
use Rattle.format.specs.Judging.{max_depth}
use Rattle.walk_state.specs.declared.Walk.{Walk}
use Rattle.walk_state.specs.Walking.{closed, moved_to, opened}
use Rattle.walk_state.specs.Moving.{finished, entered, step_over}

-- ---- closing, as the code counts

pub closed-step : (d : ℕ) (w : Walk) → 0 < d
    → closed d w ≡ pick (eqb (get_or w.ends (d - 1) 0) w.at)
    (closed (d - 1) (record { ends = set w.ends (d - 1) 0; depth = d - 1; at = w.at; first = w.first; indexed = false })) w
unfolding closed
closed-step zero w h = absurd (omega arith)
closed-step (suc k) w h = rw sub-one

pub closed_none : (d : ℕ) (w : Walk) → d ≤ 0 → closed d w ≡ w
unfolding closed
closed_none zero w h = refl
closed_none (suc k) w h = absurd (omega arith)

-- ---- a step over an item

finish : (w : Walk) → w.depth ≤ max_depth → finished w ≡ closed w.depth w
unfolding finished
finish w h = rw (le-ltb max_depth w.depth h)

-- contents that are not empty, counted from the stream's start or from the group's
on_both : (a h n : ℕ) → ltb (a + h) (a + n) ≡ ltb h n
on_both a h n =
    ⊎_elim (λ l. lt-ltb (a + h) (a + n) (omega arith) ∙ sym (lt-ltb h n l))
    (λ g. le-ltb (a + h) (a + n) (omega arith) ∙ sym (le-ltb h n g)) (lt-or-ge h n)

-- into a group that finds a slot, and past an item
module _ (w : Walk) (h n : ℕ) (mark indexed : Bool) where
  into : w.depth < max_depth → entered w (w.at + h) (w.at + n) mark indexed ≡ opened w h n mark indexed
  unfolding entered opened
  into l = rw (lt-leb max_depth w.depth l, on_both w.at h n)

  pub steps-into : w.depth < max_depth
      → step_over w (w.at + h) (w.at + n) true mark indexed ≡ closed (opened w h n mark indexed).depth (opened w h n mark indexed)
  unfolding step_over opened
  steps-into l = rw (into l) (finish (opened w h n mark indexed) (omega arith))

  pub steps-past : w.depth ≤ max_depth
      → step_over w (w.at + h) (w.at + n) false mark indexed ≡ closed w.depth (moved_to w (w.at + n))
  unfolding step_over moved_to
  steps-past l = finish (moved_to w (w.at + n)) l
