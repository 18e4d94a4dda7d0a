-- One unit more, as the code takes it: a state whose walk's ends are lent, and rows in two buffers. Assumes nothing.
use Rattle.std.specs.Prelude.{ℕ, ◌+◌, ◌*◌, ◌≤◌, ◌<◌, ◌≡◌, true, false, List, length}
use Rattle.format.specs.Report.{row_bytes, refusal_bytes, concat, refusal}
use Rattle.report_rows.specs.Stores.{put}
use Rattle.pieces.specs.declared.Progress.{Progress}
use Rattle.pieces.specs.Steps.{unit_step, is_whole, row_of, told}
use Rattle.pieces_stage.specs.declared.Stage.{Stage}
use Rattle.pieces_stage.specs.Stages.{progress_at, Becomes, far}
use Rattle.pieces_step.specs.Ready.{Ready, Bounded}
use Rattle.pieces_turn.specs.declared.Ran.{Ran}

pub record Able (u : ℕ) (slots : List ℕ) (g : Stage) (i j : ℕ) : Type 0 where
  pub ready : Ready slots g
  pub bounded : Bounded slots g
  pub unit : u ≤ 4
  pub read : g.read < far
  pub begun : g.start ≤ g.read
  pub told : g.items ≤ far
  pub items : i ≤ far
  pub refusals : j ≤ far

module _ (u : ℕ) (slots slots' : List ℕ) (g : Stage) (q items items' refusals refusals' : List ℕ) (i j : ℕ) (r : Ran) where
  abbrev next : Progress
  next = unit_step (progress_at slots g) q

  -- a unit that completes no item
  pub record Quiet : Type 0 where
    pub rows : items' ≡ items
    pub refused : refusals' ≡ refusals
    pub many : r.items ≡ i
    pub bad : r.refusals ≡ j

  -- one that does
  pub record Told : Type 0 where
    pub rows : items' ≡ put items (9 * i) (row_bytes (row_of u next))
    pub refused : refusals' ≡ put refusals (9 * j) (concat refusal_bytes (refusal next.items (row_of u next).verdict))
    pub many : r.items ≡ i + 1
    pub bad : r.refusals ≡ j + length (refusal next.items (row_of u next).verdict)

  pub record Turned : Type 0 where
    pub state : Becomes slots slots' r.stage (told next)
    pub quiet : is_whole next ≡ false → Quiet
    pub whole : is_whole next ≡ true → Told
