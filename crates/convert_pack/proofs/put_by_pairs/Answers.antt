-- `put_by_pairs` meets its contract. Assumes nothing.
use Rattle.std.proofs.Common.{◌*◌}
use Rattle.convert_pack.proofs.Pairs.{unit-known}
use Rattle.convert_pack.proofs.put_by_pairs.Goals as goal

pub triplet-t-requires : goal.triplet-t-requires
triplet-t-requires c = (c.requires.0, rw c.quadlet_at.ensures (unit-known c.args.src.now (4 * c.args.i) c.requires.2))
