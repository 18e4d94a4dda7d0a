-- An instalment of a state whose ends are lent. Assumes nothing.
use Rattle.std.specs.Prelude.{ℕ, ◌≡◌, List}
use Rattle.walk_state.specs.declared.Place.{Place}
use Rattle.walk_state.specs.Lent.{Moves}
use Rattle.instalments.specs.declared.Pause.{Pause}
use Rattle.instalments.specs.declared.Walked.{Walked}
use Rattle.instalments.specs.declared.Went.{Went}

abbrev pub none : Place → Pause ℕ → Went
none p why = record { place = p; items = 0; pause = why }

-- what it leaves in the slots, where it leads, how many items it took and why it is over; with no item they stay as they were
pub record Goes (before after : List ℕ) (r : Went) (t : Walked ℕ) : Type 0 where
  pub moves : Moves before after r.place t.next
  pub items : r.items ≡ t.items
  pub pause : r.pause ≡ t.pause
  pub kept : r.items ≡ 0 → after ≡ before
