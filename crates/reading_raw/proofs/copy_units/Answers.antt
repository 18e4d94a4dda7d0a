-- `reading_raw::copy_units` meets its contract: a fit text is converted, where there is room. Assumes nothing.
use Rattle.reading_raw.proofs.Copying.{put-units}
use Rattle.reading_raw.proofs.copy_units.Goals as goal

pub returns : goal.returns
returns c =
    let e = c.text_to_binary.ensures in
    λ f w room. put-units c.args.item.now c.args.out.now c.args.from c.args.to _ _ f w c.requires.0 room e.value e.dst_after
