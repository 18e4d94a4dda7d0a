-- `writing_packed::put_binary` meets its contract: the header, and then the bytes of the text. Assumes nothing.
use Rattle.writing_packed.proofs.Parts.{binary-put}
use borrow.Author.Rules.{rules}
use Rattle.writing_packed.proofs.put_binary.Goals as goal

pub returns : goal.returns
returns c =
    let a = c.args in
    binary-put a.header a.head a.chars.now a.out.now _ _ (search rules) (search rules) (rw c.copy_from_slice.ensures.after) c.put_packed.ensures
