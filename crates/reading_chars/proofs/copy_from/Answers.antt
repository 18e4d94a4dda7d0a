-- `reading_chars::copy_from` meets its contract: the end of a unit, and the units behind it. Assumes nothing.
use mathlib.Core.Path.{refl}
use Rattle.reading_chars.proofs.Copying.{copied}
use Rattle.reading_chars.proofs.copy_from.Goals as goal

pub returns : goal.returns
returns c =
    let t = c.binary_to_text.ensures in
    copied c.args.item.now c.args.out.now c.args.unit c.args.within c.requires.0 c.requires.1 c.requires.2 c.requires.3 c.requires.4 _ refl _ c.put_unit.ensures _ _ t.value t.dst_after
