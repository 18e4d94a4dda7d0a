-- `writing_head::code_head` meets its contract: by the length of the code. Assumes nothing.
use Rattle.writing_head.proofs.Heads.{code_one, code-two, code-four}
use Rattle.writing_head.proofs.code_head.Goals as goal

pub returns-then-c-eq1 : goal.returns-then-c-eq1
returns-then-c-eq1 c = λ s e. code_one _ s _ _ e c.prepad_sextet-p.ensures c.if-c-eq1.true

pub returns-then-c-eq2 : goal.returns-then-c-eq2
returns-then-c-eq2 c = λ s e. code-two _ s _ _ e c.prepad_sextet-p.ensures c.if-c-eq1.false c.if-c-eq2.true

pub returns : goal.returns
returns c = λ s e. code-four _ s _ _ e c.prepad_sextet-p.ensures c.if-c-eq1.false c.if-c-eq2.false
