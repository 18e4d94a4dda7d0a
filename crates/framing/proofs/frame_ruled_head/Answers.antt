-- `framing::frame_ruled_head` meets its contract. Assumes nothing.
use mathlib.Core.Path.{sym, ◌∙◌}
use Rattle.framing.proofs.Laws.{ruled-fixed, ruled-variable, ruled-group, ruled-indexed, ours, not_ours, unframed-ruled}
use Rattle.framing.proofs.frame_ruled_head.Goals as goal

pub returns-in-Fixed : goal.returns-in-Fixed
returns-in-Fixed c = rw (← c.frame_head-framed.ensures, c.in-Item.is) (ruled-fixed _ _ _ _ _ c.in-Fixed.is)

pub returns-in-Variable : goal.returns-in-Variable
returns-in-Variable c = rw (← c.frame_head-framed.ensures, c.in-Item.is) (ruled-variable _ _ _ _ _ _ _ c.in-Variable.is)

pub returns-in-Group : goal.returns-in-Group
returns-in-Group c = rw (← c.frame_head-framed.ensures, c.in-Item.is) (ruled-group _ _ _ _ _ c.in-Group.is)

pub returns-then-is_ours : goal.returns-then-is_ours
returns-then-is_ours c = rw (← c.frame_head-framed.ensures, c.in-Item.is) (ours _ _ _ _ c.in-Genus.is (sym c.is_ours.ensures ∙ c.if-is_ours.true))

pub returns-else-is_ours : goal.returns-else-is_ours
returns-else-is_ours c = rw (← c.frame_head-framed.ensures, c.in-Item.is) (not_ours _ _ _ _ c.in-Genus.is (sym c.is_ours.ensures ∙ c.if-is_ours.false))

pub returns-in-Indexed : goal.returns-in-Indexed
returns-in-Indexed c = rw (← c.frame_head-framed.ensures, c.in-Item.is) (ruled-indexed _ _ _ _ _ c.in-Indexed.is)

pub returns-in-Unframed : goal.returns-in-Unframed
returns-in-Unframed c = rw (← c.frame_head-framed.ensures) (unframed-ruled _ _ _ _ c.in-Unframed.is)
