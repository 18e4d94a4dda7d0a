-- `groups_writing::answer` meets its contract: by what is asked before the walk. Assumes nothing.
use mathlib.Core.Path.{sym}
use lib.Seq.{length-take-le}
use Rattle.groups_writing.proofs.Answers.{by_number, there, by-walk}
use Rattle.groups_writing.proofs.answer.Goals as goal

pub slice_bounds-walk_body-end : goal.slice_bounds-walk_body-end
slice_bounds-walk_body-end c =
    let a = c.args in
    sym (length-take-le a.len a.buf.now (there a.form a.letter a.len a.buf.now _ c.before_walk.ensures _ _ c.in-Contents.is))

pub returns-in-Refused : goal.returns-in-Refused
returns-in-Refused c =
    let a = c.args in
    by_number a.form a.letter a.len a.buf.now _ c.before_walk.ensures _ c.in-Refused.is

pub returns-in-Contents : goal.returns-in-Contents
returns-in-Contents c =
    let a = c.args in
    by-walk a.form a.letter a.len a.buf.now _ c.before_walk.ensures _ _ c.in-Contents.is _ _ c.walk_body-pause.ensures c.room_for.ensures
