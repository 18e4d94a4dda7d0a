use Rattle.std.proofs.Common.{◌≡◌, eqb, drop}
use lib.Dec.{leb}
use Rattle.format.specs.Conversion.{first_stranger}
use Rattle.alphabet_search.proofs.strangers.Given as goal

abbrev pub invariant-loop-j : goal.invariant-loop-j
invariant-loop-j l = eqb l.bad 0 ≡ leb l.j (first_stranger (drop l.at l.s))
