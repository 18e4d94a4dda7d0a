use Rattle.reading_tag.proofs.Tags.{tag-start, tag-more}
use borrow.Author.Rules.{rules}
use Rattle.reading_tag.proofs.tag_from.Goals as goal

pub loop-i-init : goal.loop-i-init
loop-i-init c = tag-start c.args.cs c.args.start

pub loop-i-preserved : goal.loop-i-preserved
loop-i-preserved c = search (tag-more, rules)
