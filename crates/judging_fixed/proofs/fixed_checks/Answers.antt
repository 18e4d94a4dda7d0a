use mathlib.Core.Path.{sym, ◌∙◌}
use Rattle.format.specs.Judging.{and_then, unless}
use Rattle.judging_fixed.specs.Checks.{fixed_checks}
use Rattle.judging_fixed.proofs.fixed_checks.Goals as goal

pub returns-then-not-zero_bits : goal.returns-then-not-zero_bits
unfolding fixed_checks and_then unless
returns-then-not-zero_bits c =
    rw (sym (rw (c.from-i.ensures, c.zeros_of-z.ensures) at c.zero_bits.ensures) ∙ c.if-not-zero_bits.true)

pub returns-then-not-prepad_right : goal.returns-then-not-prepad_right
unfolding fixed_checks and_then unless
returns-then-not-prepad_right c =
    rw (
      sym (rw (c.from-i.ensures, c.zeros_of-z.ensures) at c.zero_bits.ensures) ∙ c.if-not-zero_bits.false,
      sym (rw (c.from-i.ensures, c.prepad_of-prepad.ensures) at c.prepad_right.ensures) ∙ c.if-not-prepad_right.true,
    )

pub returns : goal.returns
unfolding fixed_checks and_then unless
returns c =
    rw (
      sym (rw (c.from-i.ensures, c.zeros_of-z.ensures) at c.zero_bits.ensures) ∙ c.if-not-zero_bits.false,
      sym (rw (c.from-i.ensures, c.prepad_of-prepad.ensures) at c.prepad_right.ensures) ∙ c.if-not-prepad_right.false,
    )
