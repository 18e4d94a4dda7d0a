use Rattle.std.proofs.Common.{◌≡◌, ◌+◌, drop}
use Rattle.format.specs.Conversion.{first_stranger}
use Rattle.alphabet_search.proofs.stranger_from.Given as goal

abbrev pub invariant-loop-i : goal.invariant-loop-i
invariant-loop-i l = l.from + first_stranger (drop l.from l.s) ≡ l.i + first_stranger (drop l.i l.s)
