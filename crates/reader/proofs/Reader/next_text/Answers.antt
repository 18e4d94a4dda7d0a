use Rattle.std.proofs.Common.{sym, ap, ◌∙◌}
use Rattle.reader.specs.Behind.{text_at, text-taken}
use Rattle.reader.proofs.Reader.next_text.Goals as goal

pub returns : goal.returns
returns c = ap (text_at c.args.self) c.step_text-stepped.ensures ∙ sym (text-taken c.args.self)
