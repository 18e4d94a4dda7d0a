use borrow.Author.Tests.{not-true}
use Rattle.report_fast_laws.specs.Laws.{master-size}
use Rattle.report_turn.proofs.put_here.Goals as goal

pub returns-then-not-signed : goal.returns-then-not-signed
returns-then-not-signed c = λ L K.
    c.put_group.ensures L K
    (master-size _ _ _ _ (c.group_size-g.ensures.1 L c.if-g-gt0.true).0 c.if-g-gt0.true (c.signed.ensures L) c.if-not-signed.true)

pub returns : goal.returns
returns c = c.put_signed.ensures
