-- `writing_raw::put_text` meets its contract: the first units, and then the raw value's own. Assumes nothing.
use Rattle.writing_raw.proofs.Buffers.{put-text}
use borrow.Author.Rules.{rules}
use Rattle.writing_raw.proofs.put_text.Goals as goal

pub returns : goal.returns
returns c = search (put-text, rules)
