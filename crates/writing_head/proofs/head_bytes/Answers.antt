-- `writing_head::head_bytes` meets its contract: its sextets, packed. Assumes nothing.
use Rattle.writing_head.specs.Heads.{head_bytes}
use Rattle.writing_head.proofs.head_bytes.Goals as goal

pub returns : goal.returns
unfolding head_bytes
returns c = λ p. rw (c.pack3.ensures, c.head_of-cs.ensures p)
