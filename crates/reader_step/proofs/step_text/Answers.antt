-- The reader at the state given is over the slice given, so its step is the walk's step there, and the reader behind it stands at the next state.
use Rattle.std.proofs.Common.{◌≡◌, ap, ◌∙◌}
use Rattle.walk_state.specs.declared.Walk.{Walk}
use Rattle.walk_state.specs.Walking.{text_step}
use Rattle.reader.specs.declared.Reader.{Reader}
use Rattle.reader.specs.declared.Taken.{Taken}
use Rattle.reader.specs.Reading.{opened, resumed_at, text_taken}
use Rattle.reader.specs.Behind.{text_at, text-taken}
use Rattle.reader_step.proofs.step_text.Goals as goal
use Rattle.format.specs.declared.TextOffset.{TextOffset}

pub returns : goal.returns
returns c =
    let stands : c.resumed.result ≡ resumed_at (opened c.args.s) c.args.walk = c.resumed.ensures ∙ ap (λ (r : Reader). resumed_at r c.args.walk) c.new.ensures in
    let steps : c.next_text-taken.result ≡ text_at (resumed_at (opened c.args.s) c.args.walk) (text_step c.args.s.now c.args.walk) = c.next_text-taken.ensures ∙ (ap text_taken stands ∙ text-taken (resumed_at (opened c.args.s) c.args.walk)) in
    ap (λ (w : Walk). record { next = w; found = c.next_text-taken.result.found }) c.state.ensures ∙ ap (λ (t : Taken TextOffset). record { next = t.reader.walk; found = t.found }) steps
