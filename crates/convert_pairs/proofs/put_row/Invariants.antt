use Rattle.std.proofs.Common.{◌+◌, ◌*◌, get_or}
use Rattle.convert_pairs.specs.Rows.{RowPut}
use Rattle.convert_pairs.proofs.put_row.Given as goal

abbrev pub invariant-loop-i : goal.invariant-loop-i
invariant-loop-i l = RowPut 19790 l.at l.i (λ k. get_or l.values (k + 45) 0 * 64 + l.low) l.initial.table l.table
