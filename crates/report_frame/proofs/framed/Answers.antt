use Rattle.report_frame.proofs.Laws.{text-from, text-fits, text-framed, binary-from, binary-fits, binary-framed, none-framed}
use Rattle.report_frame.proofs.framed.Goals as goal

pub returns-then-units-at : goal.returns-then-units-at
returns-then-units-at c = search none-framed

pub overflow_mul-from : goal.overflow_mul-from
overflow_mul-from c = search text-fits

pub slice_bounds-frame_ruled_text-count : goal.slice_bounds-frame_ruled_text-count
slice_bounds-frame_ruled_text-count c = search text-from

pub slice_bounds-frame_ruled_text-start : goal.slice_bounds-frame_ruled_text-start
slice_bounds-frame_ruled_text-start c = search text-from

pub overflow_mul-from-in-Binary : goal.overflow_mul-from-in-Binary
overflow_mul-from-in-Binary c = search binary-fits

pub slice_bounds-frame_ruled_binary-count : goal.slice_bounds-frame_ruled_binary-count
slice_bounds-frame_ruled_binary-count c = search binary-from

pub slice_bounds-frame_ruled_binary-start : goal.slice_bounds-frame_ruled_binary-start
slice_bounds-frame_ruled_binary-start c = search binary-from

pub returns-in-Text : goal.returns-in-Text
returns-in-Text c = search text-framed

pub returns-in-Binary : goal.returns-in-Binary
returns-in-Binary c = search binary-framed
