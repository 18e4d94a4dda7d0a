-- `character_pairs` meets its contract: the rows in front of the i-th are filled. Assumes nothing.
use Rattle.std.proofs.Common.{◌+◌, ◌*◌, get_or, arith, rules}
use Rattle.convert_pairs.proofs.Rows.{rows_more}
use Rattle.convert_pairs.proofs.Held.{character-pairs-held}
use Rattle.convert_pairs.proofs.character_pairs.Goals as goal

pub loop-i-preserved : goal.loop-i-preserved
loop-i-preserved c =
    let characters = c.characters-characters.result in
    let r = rw c.from-first.ensures at c.put_characters.ensures in (
      r.long,
      rows_more 4096 64 64 c.loop-i.i c.loop-i.table c.put_characters.new.table (λ k m. get_or characters m 0 + get_or characters k 0 * 256) (search rules) r c.loop-i.invariant.1,
    )

pub returns : goal.returns
returns c =
    character-pairs-held c.characters-characters.result c.loop-i.table c.characters-characters.ensures (λ k m h p. c.loop-i.invariant.1 k m h (omega arith))
