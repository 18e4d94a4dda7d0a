-- A state of pieces whose walk's ends are lent, and what is asked of one so that no number that a unit makes passes a word. Assumes nothing.
use Rattle.std.specs.Prelude.{ℕ, ◌+◌, ◌≤◌, ◌≡◌, List, [], Bool, false, length, take, drop, replicate}
use Rattle.format.specs.Judging.{max_depth}
use Rattle.walk_state.specs.declared.Place.{Place}
use Rattle.walk_state.specs.Lent.{walk_at}
use Rattle.pieces.specs.declared.Progress.{Progress}
use Rattle.pieces.specs.declared.Phase.TheVariants as P
use Rattle.pieces.specs.Steps.{none4, is_whole}
use Rattle.pieces_stage.specs.declared.Stage.{Stage}

abbrev pub progress_at : List ℕ → Stage → Progress
progress_at slots g = record {
  walk = walk_at slots g.walk;
  read = g.read;
  header = g.header;
  scans = g.scans;
  lead = g.lead;
  text = g.text;
  number = g.number;
  place = g.place;
  start = g.start;
  items = g.items;
  phase = g.phase;
}

-- the slots before and after, and the state that they have come to
pub record Becomes (before after : List ℕ) (g : Stage) (p : Progress) : Type 0 where
  pub state : progress_at after g ≡ p
  pub behind : drop max_depth after ≡ drop max_depth before

-- all slots are 0
pub record Cleared (before after : List ℕ) : Type 0 where
  pub slots : take max_depth after ≡ replicate max_depth 0
  pub behind : drop max_depth after ≡ drop max_depth before

-- more units than any state has read or is led to
abbrev pub far : ℕ
far = 2147483648

-- with one unit more read
abbrev pub made_stage : Stage → Place → Bool → ℕ → Bool → ℕ → ℕ → Stage
made_stage g walk scans lead text number place = record {
  walk = walk;
  read = g.read + 1;
  header = none4;
  scans = scans;
  lead = lead;
  text = text;
  number = number;
  place = place;
  start = g.start;
  items = g.items;
  phase = g.phase;
}

-- the remainder begins
abbrev pub unframed_stage : Stage → ℕ → Stage
unframed_stage g number = record {
  walk = g.walk;
  read = g.read + 1;
  header = none4;
  scans = false;
  lead = 0;
  text = false;
  number = number;
  place = 0;
  start = g.start;
  items = g.items;
  phase = P.Unframed;
}

-- the first unit of a header of two
abbrev pub stored_stage : Stage → List ℕ → Stage
stored_stage g q = record {
  walk = g.walk;
  read = g.read + 1;
  header = q;
  scans = false;
  lead = 0;
  text = false;
  number = 0;
  place = 0;
  start = g.start;
  items = g.items;
  phase = g.phase;
}

-- a top-level item's last unit was read: no slot is looked at
abbrev pub whole_stage : Stage → Bool
whole_stage g = is_whole (progress_at [] g)

-- the next item starts behind it
abbrev pub told_stage : Stage → Stage
told_stage g = record {
  walk = g.walk;
  read = g.read;
  header = none4;
  scans = false;
  lead = 0;
  text = false;
  number = 0;
  place = 0;
  start = g.read;
  items = g.items + 1;
  phase = g.phase;
}
