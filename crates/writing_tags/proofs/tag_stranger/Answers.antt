-- `writing_tags::tag_stranger` meets its contract: past the eleven there is nothing to look at. Assumes nothing.
use mathlib.Core.Path.{sym}
use lib.Seq.{length-take-le, take_all}
use borrow.Author.Rules.{rules}
use Rattle.writing_tags.proofs.tag_stranger.Goals as goal

pub returns-then-tags-gt11 : goal.returns-then-tags-gt11
returns-then-tags-gt11 c = let a = c.args in rw (take_all a.tags a.tag (search rules)) c.first_stranger.ensures

pub slice_bounds-first_stranger-end-2 : goal.slice_bounds-first_stranger-end-2
slice_bounds-first_stranger-end-2 c = sym (length-take-le _ _ (search rules))
