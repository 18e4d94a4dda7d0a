-- A state whose ends are lent: the first max_depth numbers of a list. Assumes nothing.
use Rattle.std.specs.Prelude.{ℕ, ◌≡◌, Bool, false, List, take, drop, eqb}
use Rattle.base.specs.Pick.{pick}
use Rattle.format.specs.Judging.{max_depth}
use Rattle.walk_state.specs.declared.Walk.{Walk}
use Rattle.walk_state.specs.declared.Place.{Place}
use Rattle.walk_state.specs.Walking.{closed}

abbrev pub slots_in : List ℕ → List ℕ
slots_in s = take max_depth s

abbrev pub state_at : List ℕ → ℕ → ℕ → Bool → Bool → Walk
state_at s depth at first indexed = record { ends = slots_in s; depth = depth; at = at; first = first; indexed = indexed }

abbrev pub walk_at : List ℕ → Place → Walk
walk_at s p = state_at s p.depth p.at p.first p.indexed

-- the mark of indexed items, where so many groups of a depth are still open: it goes with the first that closes
abbrev pub mark_of : ℕ → ℕ → Bool → Bool
mark_of still depth indexed = pick (eqb still depth) indexed false

abbrev pub still_at : Place → ℕ → Place
still_at p still = record { depth = still; at = p.at; first = p.first; indexed = mark_of still p.depth p.indexed }

-- the slots before and after finished groups were closed, and how many are open
pub record Closes (before after : List ℕ) (depth at still : ℕ) : Type 0 where
  pub state : (first indexed : Bool) → state_at after still at first (mark_of still depth indexed)
      ≡ closed depth (state_at before depth at first indexed)
  pub behind : drop max_depth after ≡ drop max_depth before

-- the slots before and after a step, and where it leads
pub record Moves (before after : List ℕ) (p : Place) (w : Walk) : Type 0 where
  pub state : walk_at after p ≡ w
  pub behind : drop max_depth after ≡ drop max_depth before
