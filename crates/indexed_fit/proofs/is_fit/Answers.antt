-- `indexed_fit::is_fit` meets its contract: the raw length, the index, the ondex. Assumes nothing.
use Rattle.indexed_fit.proofs.Fits.{other-raw, past_index, by-ondex}
use Rattle.indexed_fit.proofs.is_fit.Goals as goal

pub returns-then-raw-raw_size : goal.returns-then-raw-raw_size
returns-then-raw-raw_size c = λ few. other-raw _ _ _ _ _ c.raw_size.ensures c.if-raw-raw_size.true

pub returns-then-limit-index : goal.returns-then-limit-index
returns-then-limit-index c = λ few.
    past_index _ _ _ _ _ c.raw_size.ensures c.if-raw-raw_size.false _ (c.limit.ensures few.0) c.if-limit-index.true

pub returns : goal.returns
returns c = λ few.
    by-ondex _ _ _ _ _ c.raw_size.ensures c.if-raw-raw_size.false _ (c.limit.ensures few.0) c.if-limit-index.false _
    (c.limit-2.ensures few.1)
