-- `judging_indexed::indexed_checks` meets its contract. Assumes nothing.
use mathlib.Core.Path.{sym, ◌∙◌}
use Rattle.format.specs.Judging.{and_then, unless}
use Rattle.judging_indexed.specs.Checks.{indexed_checks}
use Rattle.judging_indexed.proofs.indexed_checks.Goals as goal

pub returns-then-not-zero_bits : goal.returns-then-not-zero_bits
unfolding indexed_checks and_then unless
returns-then-not-zero_bits c =
    rw (sym (rw (c.index_chars-i.ensures, c.from.ensures) at c.zero_bits.ensures) ∙ c.if-not-zero_bits.true)

pub returns-then-not-ondex_right : goal.returns-then-not-ondex_right
unfolding indexed_checks and_then unless
returns-then-not-ondex_right c =
    rw (
      sym (rw (c.index_chars-i.ensures, c.from.ensures) at c.zero_bits.ensures) ∙ c.if-not-zero_bits.false,
      sym c.ondex_right.ensures ∙ c.if-not-ondex_right.true,
    )

pub returns : goal.returns
unfolding indexed_checks and_then unless
returns c =
    rw (
      sym (rw (c.index_chars-i.ensures, c.from.ensures) at c.zero_bits.ensures) ∙ c.if-not-zero_bits.false,
      sym c.ondex_right.ensures ∙ c.if-not-ondex_right.false,
    )
