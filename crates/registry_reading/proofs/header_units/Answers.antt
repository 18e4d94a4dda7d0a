-- `registry_reading::header_units` meets its contract. Assumes nothing.
use Rattle.format.specs.Registry.{header_units}
use Rattle.registry_reading.proofs.header_units.Goals as goal

pub returns-in-Unknown : goal.returns-in-Unknown
unfolding header_units
returns-in-Unknown c = rw c.in-Unknown.is

pub returns-in-Short : goal.returns-in-Short
unfolding header_units
returns-in-Short c = rw c.in-Short.is

pub returns-in-Long : goal.returns-in-Long
unfolding header_units
returns-in-Long c = rw c.in-Long.is

pub returns-in-LargeVariable : goal.returns-in-LargeVariable
unfolding header_units
returns-in-LargeVariable c = rw c.in-LargeVariable.is

pub returns-in-LargeGroup : goal.returns-in-LargeGroup
unfolding header_units
returns-in-LargeGroup c = rw c.in-LargeGroup.is

pub returns-in-Version : goal.returns-in-Version
unfolding header_units
returns-in-Version c = rw c.in-Version.is
