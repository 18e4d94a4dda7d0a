-- `pack_rest` meets its contract: where the first `done` units were written, the first i are. Assumes nothing.
use Rattle.std.proofs.Common.{◌∙◌, arith}
use Rattle.base.specs.Each.{each_more, each_all}
use Rattle.format.specs.Units.{triplet_of}
use Rattle.laws.specs.Units.{triplet-size}
use Rattle.convert_pack.proofs.pack_rest.Goals as goal

pub loop-i-preserved : goal.loop-i-preserved
loop-i-preserved c = λ o h. c.put_by_values.ensures ∙ each_more 4 3 triplet_of triplet-size _ o c.loop-i.i _ (c.loop-i.invariant o h)

pub returns : goal.returns
returns c = λ o h. each_all 4 3 triplet_of triplet-size _ o (omega arith) c.loop-i-test.false (c.loop-i.invariant o h)
