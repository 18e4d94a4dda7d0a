-- `writing_text::put_chars` meets its contract: the fill, and then the characters. Assumes nothing.
use Rattle.std.proofs.Common.{arith}
use Rattle.std.proofs.lemmas.Grind.{common_steps}
use Rattle.writing_fill.specs.Filled.{filled_text}
use Rattle.writing_text.proofs.put_chars.Goals as goal

pub returns : goal.returns
unfolding filled_text
returns c = grind (arith, common_steps)
