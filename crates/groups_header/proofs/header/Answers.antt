-- `groups_header::header` meets its contract. Assumes nothing.
use mathlib.Core.Path.{◌∙◌}
use Rattle.groups_header.proofs.header.Goals as goal

pub returns-in-Text : goal.returns-in-Text
returns-in-Text c = c.text_header.ensures ∙ rw c.in-Text.is

pub returns-in-Binary : goal.returns-in-Binary
returns-in-Binary c = c.binary_header.ensures ∙ rw c.in-Binary.is
