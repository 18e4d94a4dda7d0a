-- The reader at the state given is over the slice given, so its step is the walk's step there, and the reader behind it stands at the next state.
use Rattle.std.proofs.Common.{◌≡◌, ap, ◌∙◌}
use Rattle.walk_state.specs.declared.Walk.{Walk}
use Rattle.walk_state.specs.Walking.{binary_step}
use Rattle.reader.specs.declared.Reader.{Reader}
use Rattle.reader.specs.declared.Taken.{Taken}
use Rattle.reader.specs.Reading.{opened, resumed_at, binary_taken}
use Rattle.reader.specs.Behind.{binary_at, binary-taken}
use Rattle.reader_step.proofs.step_binary.Goals as goal
use Rattle.format.specs.declared.BinaryOffset.{BinaryOffset}

pub returns : goal.returns
returns c =
    let stands : c.resumed.result ≡ resumed_at (opened c.args.s) c.args.walk = c.resumed.ensures ∙ ap (λ (r : Reader). resumed_at r c.args.walk) c.new.ensures in
    let steps : c.next_binary-taken.result ≡ binary_at (resumed_at (opened c.args.s) c.args.walk) (binary_step c.args.s.now c.args.walk) = c.next_binary-taken.ensures ∙ (ap binary_taken stands ∙ binary-taken (resumed_at (opened c.args.s) c.args.walk)) in
    ap (λ (w : Walk). record { next = w; found = c.next_binary-taken.result.found }) c.state.ensures ∙ ap (λ (t : Taken BinaryOffset). record { next = t.reader.walk; found = t.found }) steps
