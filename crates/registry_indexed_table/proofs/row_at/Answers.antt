-- `registry_indexed_table::row_at` meets its contract. The table's rows are those of `Registry.indexed_codes`, one by one. Assumes nothing.
use Rattle.base.specs.Lists.{get_d_default}
use Rattle.format.specs.Registry.{indexed_codes}
use Rattle.registry_indexed_table.specs.Places.{row_at, no_row}
use borrow.Author.Rules.{rules}
use Rattle.registry_indexed_table.proofs.row_at.Goals as goal

pub returns : goal.returns
unfolding indexed_codes row_at
returns c = get_d_default indexed_codes c.args.k _ no_row (search rules)
