use Rattle.std.proofs.Common.{sym, ap, ◌∙◌}
use Rattle.reader.specs.Behind.{binary_at, binary-taken}
use Rattle.reader.proofs.Reader.next_binary.Goals as goal

pub returns : goal.returns
returns c = ap (binary_at c.args.self) c.step_binary-stepped.ensures ∙ sym (binary-taken c.args.self)
