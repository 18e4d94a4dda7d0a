use Rattle.std.proofs.Common.{◌+◌, ◌*◌, get_or}
use Rattle.convert_pairs.specs.Rows.{RowPut}
use Rattle.convert_pairs.proofs.put_characters.Given as goal

abbrev pub invariant-loop-j : goal.invariant-loop-j
invariant-loop-j l = RowPut 4096 l.at l.j (λ k. l.first + get_or l.characters k 0 * 256) l.initial.table l.table
