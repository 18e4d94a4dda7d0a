use Rattle.std.specs.Prelude.{◌<◌}
use Rattle.vectors_long.proofs.checksum.Given as goal

abbrev pub invariant-loop-b : goal.invariant-loop-b
invariant-loop-b l = l.sum < 4294967291
