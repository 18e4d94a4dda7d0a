-- `registry_reading::kind` meets its contract. Assumes nothing.
use Rattle.registry_reading.specs.Kinds.{kind_of}
use Rattle.registry_reading.proofs.kind.Goals as goal

pub returns-in-Unknown : goal.returns-in-Unknown
unfolding kind_of
returns-in-Unknown c = rw c.in-Unknown.is

pub returns-in-Short : goal.returns-in-Short
unfolding kind_of
returns-in-Short c = rw c.in-Short.is

pub returns-in-Long : goal.returns-in-Long
unfolding kind_of
returns-in-Long c = rw c.in-Long.is

pub returns-in-LargeVariable : goal.returns-in-LargeVariable
unfolding kind_of
returns-in-LargeVariable c = rw (c.in-LargeVariable.is, c.number-count.ensures.0)

pub returns-in-LargeGroup : goal.returns-in-LargeGroup
unfolding kind_of
returns-in-LargeGroup c = rw c.in-LargeGroup.is

pub returns-in-Version : goal.returns-in-Version
unfolding kind_of
returns-in-Version c = rw c.in-Version.is
