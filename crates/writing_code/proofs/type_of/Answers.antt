-- `writing_code::type_of` meets its contract: `A` is a text. Assumes nothing.
use Rattle.writing_code.specs.Names.{as_named}
use Rattle.format.specs.Writing.{named_variable}
use Rattle.format.specs.Registry.{is_text}
use borrow.Author.Tests.{eq-eqb, ne_eqb}
use mathlib.Core.Path.{sym, ◌∙◌}
use Rattle.writing_code.proofs.type_of.Goals as goal

pub returns-then-t-eq0 : goal.returns-then-t-eq0
unfolding named_variable is_text as_named
returns-then-t-eq0 c = rw (← c.sextet-t.ensures, sym c.is_type.ensures ∙ c.if-is_type.true, eq-eqb _ _ c.if-t-eq0.true)

pub returns-else-t-eq0 : goal.returns-else-t-eq0
unfolding named_variable is_text as_named
returns-else-t-eq0 c = rw (← c.sextet-t.ensures, sym c.is_type.ensures ∙ c.if-is_type.true, ne_eqb _ _ c.if-t-eq0.false)

pub returns-else-is_type : goal.returns-else-is_type
unfolding named_variable is_text as_named
returns-else-is_type c = rw (← c.sextet-t.ensures, sym c.is_type.ensures ∙ c.if-is_type.false)
