-- What is asked of a state so that no number that a unit makes passes a word. Assumes nothing.
use Rattle.std.specs.Prelude.{ℕ, ◌≤◌, ◌<◌, List, length, get_or}
use Rattle.format.specs.declared.Framed.{Framed}
use Rattle.format.specs.declared.Framed.TheVariants.{Item, Unframed}
use Rattle.format.specs.Judging.{max_depth}
use Rattle.pieces_stage.specs.declared.Stage.{Stage}
use Rattle.pieces_stage.specs.Stages.{far}

pub record Ready (slots : List ℕ) (g : Stage) : Type 0 where
  pub room : max_depth ≤ length slots
  pub few : g.walk.depth ≤ max_depth
  pub near : g.walk.at ≤ far
  pub read : g.read ≤ far
  pub led : g.lead ≤ 2

-- no open group ends further
abbrev pub Bounded : List ℕ → Stage → Type 0
Bounded slots g = (i : ℕ) → i < g.walk.depth → get_or slots i 0 ≤ far

-- a framed item, or its refusal, whose end and place are no further
abbrev pub Near : Framed → Type 0
Near (Item k h n) = (h ≤ n) × (n ≤ far)
Near (Unframed m i) = i ≤ 7
