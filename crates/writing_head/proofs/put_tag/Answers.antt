-- `writing_head::put_tag` meets its contract: a turn of the loop puts one more character's sextet. Assumes nothing.
use Rattle.writing_head.proofs.Heads.{tag-more}
use borrow.Author.Rules.{rules}
use Rattle.writing_head.proofs.put_tag.Goals as goal

pub loop-i-preserved : goal.loop-i-preserved
loop-i-preserved c =
    let a = c.args in
    tag-more a.cs c.loop-i.out a.tag a.at c.loop-i.i _ (search rules) (search rules) (c.value.ensures.value_2 c.sextets-values.ensures) c.loop-i.invariant
