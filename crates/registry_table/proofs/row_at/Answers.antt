-- `registry_table::row_at` meets its contract. The table's rows are those of `Registry.codes`, one by one. Assumes nothing.
use Rattle.base.specs.Lists.{get_d_default}
use Rattle.format.specs.Registry.{codes}
use Rattle.registry_table.specs.Places.{row_at, no_row}
use borrow.Author.Rules.{rules}
use Rattle.registry_table.proofs.row_at.Goals as goal

pub returns : goal.returns
unfolding codes row_at
returns c = get_d_default codes c.args.k _ no_row (search rules)
