-- `writing_order::chars_refusal` meets its contract: by the kind of the code. Assumes nothing.
use Rattle.writing_code.specs.Names.{as_named}
use Rattle.writing_refusal.specs.Refusals.{chars_refusal}
use Rattle.writing_order.proofs.chars_refusal.Goals as goal

pub returns-in-Unknown : goal.returns-in-Unknown
unfolding chars_refusal as_named
returns-in-Unknown c = rw c.in-Unknown.is c.tag_refusal.ensures

pub returns-in-Row : goal.returns-in-Row
unfolding chars_refusal as_named
returns-in-Row c = rw c.in-Row.is c.tag_refusal-in-Row.ensures

pub returns-in-Variable : goal.returns-in-Variable
unfolding chars_refusal as_named
returns-in-Variable c = rw c.in-Variable.is c.tag_refusal-in-Variable.ensures

pub returns-in-Textual : goal.returns-in-Textual
unfolding chars_refusal as_named
returns-in-Textual c = rw c.in-Textual.is c.text_refusal.ensures
