use Prim.Native.Nat.{◌*◌}
use lib.ListN.{take}
use Rattle.framing_head.proofs.Laws.{head-join}
use Rattle.framing_head.proofs.within.Goals as goal

pub returns : goal.returns
returns c =
    let a = c.args in
    head-join (take (4 * a.n) a.cs) _ _ _ _ c.join.ensures c.within_unit-a.ensures
    c.within_unit-b.ensures c.within_unit-c.ensures
