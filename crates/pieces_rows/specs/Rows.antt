-- The rows of an item whose last unit was read, in the two buffers. Assumes nothing.
use Rattle.std.specs.Prelude.{ℕ, ◌*◌, ◌≤◌, ◌≡◌, List, [], length}
use Rattle.format.specs.declared.Verdict.{Verdict}
use Rattle.format.specs.Report.{ItemRow, row_bytes, refusal_bytes, concat, refusal}
use Rattle.report_rows.specs.Stores.{put}
use Rattle.pieces.specs.Steps.{row_of}
use Rattle.pieces_stage.specs.declared.Stage.{Stage}
use Rattle.pieces_stage.specs.Stages.{progress_at, far}

-- no number that its rows hold, or their places, is further
pub record Small (u : ℕ) (g : Stage) (i j : ℕ) : Type 0 where
  pub unit : u ≤ 4
  pub read : g.read ≤ far
  pub begun : g.start ≤ g.read
  pub items : i ≤ far
  pub refusals : j ≤ far

-- its row: no slot is looked at
abbrev pub row_in : ℕ → Stage → ItemRow
row_in u g = row_of u (progress_at [] g)

-- its row behind i others, and its refusal, if it is one, behind j
pub record Put (u : ℕ) (g : Stage) (i j : ℕ) (items items' refusals refusals' : List ℕ) (r : ℕ) : Type 0 where
  pub row : items' ≡ put items (9 * i) (row_bytes (row_in u g))
  pub refused : refusals' ≡ put refusals (9 * j) (concat refusal_bytes (refusal g.items (row_in u g).verdict))
  pub many : r ≡ length (refusal g.items (row_in u g).verdict)
