use Rattle.report_sizes.proofs.Alike.{header-follows}
use Rattle.report_sizes.proofs.of_header.Goals as goal

pub returns : goal.returns
returns c = (c.followers.ensures.few, λ K e p. header-follows c.args.form c.args.s.now _ _ _ _ K e p (c.followers.ensures.run p))
