-- `sextet_pairs` meets its contract: the rows in front of the j-th are filled. Assumes nothing.
use Rattle.std.proofs.Common.{◌+◌, ◌*◌, get_or, arith, rules}
use Rattle.convert_pairs.proofs.Rows.{rows_more}
use Rattle.convert_pairs.proofs.Held.{sextet-pairs-held}
use Rattle.convert_pairs.proofs.sextet_pairs.Goals as goal

pub loop-j-preserved : goal.loop-j-preserved
loop-j-preserved c =
    let values = c.sextets-values.result in
    let r = rw c.from-low.ensures at c.put_row.ensures in (
      r.long,
      rows_more 19790 256 78 c.loop-j.j c.loop-j.table c.put_row.new.table (λ k m. get_or values (k + 45) 0 * 64 + get_or values (m + 45) 0) (search rules) r c.loop-j.invariant.1,
    )

pub returns : goal.returns
returns c =
    sextet-pairs-held c.sextets-values.result c.loop-j.table c.sextets-values.ensures (λ k m h p. c.loop-j.invariant.1 k m h (omega arith))
