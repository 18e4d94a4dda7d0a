-- `put_place` meets its contract. Assumes nothing.
use Rattle.exports_place.proofs.Numbers.{numbers-put}
use Rattle.exports_place.proofs.put_place.Goals as goal

pub returns : goal.returns
returns c = λ l. rw (c.mark_of.ensures, c.mark_of-2.ensures) (numbers-put c.args.s.now l _ _ _ _)
