-- An instalment in lent slots, by value. Assumes nothing.
use Prim.Native.Nat.{ℕ}
use mathlib.Core.Path.{◌≡◌}
use mathlib.Core.List.{List}
use lib.ListN.{length}
use Rattle.format.specs.Judging.{max_depth}
use Rattle.walk_state.proofs.Lent.{own-moved}
use Rattle.instalments.specs.declared.Walked.{Walked}
use Rattle.instalments.specs.declared.Went.{Went}
use Rattle.instalments.specs.Lent.{Goes}

pub by_value : {before after : List ℕ} {r : Went} {t : Walked ℕ} → length after ≡ max_depth → Goes before after r t
    → record { next = record { ends = after; depth = r.place.depth; at = r.place.at; first = r.place.first; indexed = r.place.indexed }; items = r.items; pause = r.pause } ≡ t
by_value l g = rw (← (own-moved l g.moves), ← g.items, ← g.pause)
