-- `writing_head::head_of` meets its contract: by the kind of the code. Assumes nothing.
use Rattle.writing_head.proofs.Heads.{raw-count, text-count}
use Rattle.writing_head.specs.Heads.{head_sextets, pad_to}
use Rattle.writing_code.specs.Names.{as_named, Able}
use mathlib.Core.Path.{refl}
use Rattle.writing_head.proofs.head_of.Goals as goal

pub returns-in-Unknown : goal.returns-in-Unknown
unfolding head_sextets as_named pad_to
returns-in-Unknown c = rw c.in-Unknown.is (λ _. refl)

pub returns-in-Row : goal.returns-in-Row
unfolding head_sextets as_named Able
returns-in-Row c = rw c.in-Row.is (λ p. c.row_head.ensures p.0 p.1)

pub returns-in-Variable : goal.returns-in-Variable
unfolding head_sextets as_named Able
returns-in-Variable c =
    let l = c.lead_for.ensures.0 in
    let n = c.count_for.ensures.0 in
    rw (c.in-Variable.is, ← l, ← n) (λ p. c.variable_head.ensures (λ e. rw n (raw-count _ (p.3 e))))

pub returns-in-Textual : goal.returns-in-Textual
unfolding head_sextets as_named Able
returns-in-Textual c =
    let l = c.text_lead.ensures.0 in
    let n = c.text_count.ensures.0 in
    rw (c.in-Textual.is, ← l, ← n) (λ p. c.variable_head-in-Textual.ensures (λ e. rw n (text-count _ (p.3 e))))
