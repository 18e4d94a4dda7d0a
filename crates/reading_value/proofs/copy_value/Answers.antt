-- `reading_value::copy_value` meets its contract: the text is put behind the raw bytes, and has room there. Assumes nothing.
use native.Mathlib.Omega.{arith}
use Rattle.reading_value.proofs.Value.{put-value}
use Rattle.reading_value.proofs.copy_value.Goals as goal

pub returns : goal.returns
returns c =
    let a = c.args in
    λ few room f i e.
    put-value a.item.now a.out.now a.start.0 a.raw a.text i e few room _ (c.copy_raw.ensures f i (omega arith)) _ c.copy_from_slice.ensures.after
