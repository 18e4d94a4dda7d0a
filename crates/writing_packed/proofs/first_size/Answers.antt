-- `writing_packed::first_size` meets its contract: all four or none. Assumes nothing.
use Rattle.writing_packed.proofs.Parts.{first-sizes}
use Rattle.writing_packed.proofs.first_size.Goals as goal

pub returns : goal.returns
returns c = let e = c.fill_for.ensures.0 in (rw e, rw e (first-sizes c.args.chars).0, rw e (first-sizes c.args.chars).1)
