use Prim.Native.Nat.{◌-◌, ◌/◌}
use lib.ListN.{length}
use Rattle.format.specs.Units.{domain}
use Rattle.report_turn.specs.Turns.{Next}
use Rattle.report_turn.proofs.Laws.{Passed}
use Rattle.report_turn.proofs.put_signed.Given as goal

abbrev pub invariant-loop-size : goal.invariant-loop-size
invariant-loop-size l =
    Passed l.form l.u l.tables l.s l.here.items l.clean l.end l.here.at l.here.stored l.here.refused l.initial.out l.at l.stored l.out × Next l.form l.tables l.s l.here.items l.end l.at l.stored l.size

abbrev pub decreases-loop-size : goal.decreases-loop-size
decreases-loop-size l = length l.s / (domain l.form).unit - l.at
