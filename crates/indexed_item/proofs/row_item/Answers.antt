-- `indexed_item::row_item` meets its contract, field by field. Assumes nothing.
use Rattle.format.specs.Indexed.{indexed_of}
use Rattle.indexed_item.proofs.row_item.Goals as goal

pub returns : goal.returns
unfolding indexed_of
returns c = λ p l.
    rw (
      c.code_of-code.ensures,
      c.raw_size-raw.ensures l,
      c.indexed_start-start.ensures.0,
      c.index_of-index.ensures p,
      c.ondex_of-ondex.ensures p,
    )
