-- What the state's methods answer, in the shape of the code. Anyone may call them, so they answer for every state, also for one with
-- more groups open than there are slots. Assumes nothing.
use Rattle.std.specs.Prelude.{ℕ, ◌+◌, Bool, false, set, ltb, leb}
use Rattle.base.specs.Pick.{pick}
use Rattle.format.specs.Judging.{max_depth}
use Rattle.walk_state.specs.declared.Walk.{Walk}
use Rattle.walk_state.specs.Walking.{closed, moved_to}

-- closing what is finished; a state with more open than slots is left
unfoldable pub finished : Walk → Walk
finished w = pick (ltb max_depth w.depth) w (closed w.depth w)

-- entering a group with contents from at to end; the first-item mark is kept where there are any; indexed: they are indexed items. A state
-- with no slot left is left
unfoldable pub entered : Walk → ℕ → ℕ → Bool → Bool → Walk
entered w at end mark indexed =
    pick (leb max_depth w.depth) w
    (record { ends = set w.ends w.depth end; depth = w.depth + 1; at = at; first = pick (ltb at end) mark false; indexed = indexed })

-- a step over an item with contents from at to end: into them, or past them
unfoldable pub step_over : Walk → ℕ → ℕ → Bool → Bool → Bool → Walk
step_over w at end opens mark indexed = finished (pick opens (entered w at end mark indexed) (moved_to w end))
