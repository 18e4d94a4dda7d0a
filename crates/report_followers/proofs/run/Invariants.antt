use Prim.Native.Nat.{◌+◌, ◌-◌}
use Rattle.report_followers.specs.Followers.{like_by}
use Rattle.report_followers.proofs.Laws.{Reached}
use Rattle.report_followers.proofs.run.Given as goal

abbrev pub invariant-loop-p : goal.invariant-loop-p
invariant-loop-p l = Reached (like_by l.form l.s l.whole l.at l.size) l.size l.end (l.at + l.size) l.r l.p

abbrev pub decreases-loop-p : goal.decreases-loop-p
decreases-loop-p l = l.end - l.p
