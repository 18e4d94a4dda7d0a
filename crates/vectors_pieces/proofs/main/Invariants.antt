use Rattle.std.specs.Prelude.{◌≤◌, ◌-◌, length}
use Rattle.vectors_pieces.proofs.main.Given as goal

abbrev pub invariant-loop-at : goal.invariant-loop-at
invariant-loop-at l = (l.at ≤ l.n) × (l.n ≤ length l.records)

abbrev pub decreases-loop-at : goal.decreases-loop-at
decreases-loop-at l = l.n - l.at
