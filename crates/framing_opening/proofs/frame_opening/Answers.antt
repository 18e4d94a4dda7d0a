-- `framing_opening::frame_opening` meets its contract. Assumes nothing.
use Rattle.format.specs.Framing.{headed}
use Rattle.framing_opening.proofs.frame_opening.Goals as goal

pub returns-in-Unknown : goal.returns-in-Unknown
unfolding headed
returns-in-Unknown c = rw c.in-Unknown.is

pub returns-in-Short : goal.returns-in-Short
unfolding headed
returns-in-Short c = rw c.in-Short.is c.fitted.ensures

pub returns-in-Long : goal.returns-in-Long
unfolding headed
returns-in-Long c =
    rw c.in-Long.is
    (rw (c.fitted-in-Long.ensures, c.extent-size.ensures, c.in-Long.is) at c.seconded.ensures)

pub returns-in-LargeVariable : goal.returns-in-LargeVariable
unfolding headed
returns-in-LargeVariable c =
    rw c.in-LargeVariable.is
    (rw (c.fitted-item.ensures, c.number-count.ensures.0, c.extent-size.ensures, c.in-LargeVariable.is) at c.seconded-in-LargeVariable.ensures)

pub returns-in-LargeGroup : goal.returns-in-LargeGroup
unfolding headed
returns-in-LargeGroup c =
    rw c.in-LargeGroup.is
    (rw (c.fitted-item-in-LargeGroup.ensures, c.extent-size.ensures, c.in-LargeGroup.is) at c.seconded-in-LargeGroup.ensures)

pub returns-in-Version : goal.returns-in-Version
unfolding headed
returns-in-Version c =
    rw c.in-Version.is
    (rw (c.fitted-item-in-Version.ensures, c.extent-size.ensures, c.in-Version.is) at c.seconded-in-Version.ensures)
