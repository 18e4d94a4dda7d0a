-- `writing_head::row_head` meets its contract: a sound row has room for its tag characters. Assumes nothing.
use mathlib.Core.Path.{◌∙◌}
use native.Mathlib.Omega.{arith}
use Rattle.writing_head.proofs.Heads.{code-room, row-filled}
use borrow.Author.Rules.{rules}
use Rattle.writing_head.proofs.row_head.Goals as goal

pub returns-then-tags-gt11 : goal.returns-then-tags-gt11
returns-then-tags-gt11 c = λ s e. absurd (omega (arith, (code-room _ s).1))

pub returns-then-at-tags-gt12 : goal.returns-then-at-tags-gt12
returns-then-at-tags-gt12 c = λ s e. absurd (omega (arith, (code-room _ s).0, c.prepad_of-prepad.ensures))

pub returns : goal.returns
returns c =
    let a = c.args in
    λ s e. c.put_tag.ensures ∙ rw c.from.ensures (row-filled a.c c.code_head-cs.result a.tag a.tags _ s e (search rules) c.prepad_of-prepad.ensures (c.code_head-cs.ensures s c.prepad_of-prepad.ensures))
