-- `writing_packed::text_in_binary` meets its contract: 3, or the item put into its buffer. Assumes nothing.
use Rattle.writing_packed.proofs.Answers.{binary-none, binary-some, binary-held, text-short}
use native.Mathlib.Omega.{arith}
use Rattle.writing_packed.proofs.text_in_binary.Goals as goal

pub returns-then-header-gt2 : goal.returns-then-header-gt2
returns-then-header-gt2 c = record { value = λ s. absurd (omega (arith, s.header)); out_after = λ s _. absurd (omega (arith, s.header)) }

pub returns-then-out-size : goal.returns-then-out-size
returns-then-out-size c =
    let a = c.args in
    let w = binary-none a.header a.head a.chars.now a.out.now _ c.text_count.ensures.0 c.if-out-size.true in
    record { value = λ _. w.0; out_after = λ _ _. w.1 }

pub returns : goal.returns
returns c =
    let a = c.args in
    let n = c.text_count.ensures.0 in
    record { value = λ _. binary-some a.header a.head a.chars.now a.out.now _ n c.if-out-size.false; out_after = λ s z. binary-held a.header a.head a.chars.now a.out.now _ n _ c.if-out-size.false (c.put_binary.ensures (text-short _ _ s) z) }
