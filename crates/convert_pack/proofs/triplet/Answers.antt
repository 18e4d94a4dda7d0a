-- `triplet` meets its contract. Assumes nothing.
use Rattle.convert_pack.proofs.Pairs.{low_fits, high_fits, triplet-found}
use Rattle.convert_pack.proofs.triplet.Goals as goal

pub bounds-table-p : goal.bounds-table-p
bounds-table-p c = low_fits c.places-p.ensures

pub bounds-table-p-2 : goal.bounds-table-p-2
bounds-table-p-2 c = high_fits c.places-p.ensures

pub returns : goal.returns
returns c = triplet-found c.places-p.ensures c.args.table.now c.requires.0 c.from-first.ensures c.from-second.ensures
