use Rattle.report_sizes.specs.Sizes.{size_of}
use Rattle.report_sizes.proofs.size_of.Goals as goal

pub returns-in-Item : goal.returns-in-Item
unfolding size_of
returns-in-Item c = rw c.in-Item.is

pub returns-in-Unframed : goal.returns-in-Unframed
unfolding size_of
returns-in-Unframed c = rw c.in-Unframed.is
