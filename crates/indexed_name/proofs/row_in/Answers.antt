-- `indexed_name::row_in` meets its contract, opening by opening. Assumes nothing.
use Rattle.indexed_name.specs.Names.{as_named, row_in}
use Rattle.indexed_name.proofs.row_in.Goals as goal

pub returns-in-Unknown : goal.returns-in-Unknown
unfolding as_named row_in
returns-in-Unknown c = rw c.in-Unknown.is

pub returns-in-Short : goal.returns-in-Short
unfolding row_in
returns-in-Short c = rw c.in-Short.is c.row_of.ensures

pub returns-in-Long : goal.returns-in-Long
unfolding row_in
returns-in-Long c = rw c.in-Long.is c.row_of-in-Long.ensures

pub returns-in-LargeVariable : goal.returns-in-LargeVariable
unfolding as_named row_in
returns-in-LargeVariable c = rw c.in-LargeVariable.is

pub returns-in-LargeGroup : goal.returns-in-LargeGroup
unfolding as_named row_in
returns-in-LargeGroup c = rw c.in-LargeGroup.is

pub returns-in-Version : goal.returns-in-Version
unfolding as_named row_in
returns-in-Version c = rw c.in-Version.is
