-- `writing_text::put_text` meets its contract: the header, and then the characters. Assumes nothing.
use Rattle.writing_text.proofs.Parts.{text-put}
use borrow.Author.Rules.{rules}
use Rattle.writing_text.proofs.put_text.Goals as goal

pub returns : goal.returns
returns c = search (text-put, rules)
