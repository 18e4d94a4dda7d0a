-- `walk_fit::slots_fit` meets its contract. The invariant: every slot so far fits. One that does not spoils the whole. Assumes nothing.
use mathlib.Core.Path.{sym, ◌∙◌}
use Rattle.walk_fit.proofs.Laws.{all_none, all_more, all-spoilt}
use borrow.Author.Rules.{rules}
use Rattle.walk_fit.proofs.slots_fit.Goals as goal

pub loop-k-init : goal.loop-k-init
loop-k-init c = all_none _

pub returns-then-not-slot_fits : goal.returns-then-not-slot_fits
returns-then-not-slot_fits c = sym (all-spoilt _ _ _ (search rules) (sym c.slot_fits.ensures ∙ c.if-not-slot_fits.true))

pub loop-k-preserved : goal.loop-k-preserved
loop-k-preserved c = all_more _ _ c.loop-k.invariant (sym c.slot_fits.ensures ∙ c.if-not-slot_fits.false)
