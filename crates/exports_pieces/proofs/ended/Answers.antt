-- `exports_pieces::ended` meets its contract. Assumes nothing.
use mathlib.Core.Path.{sym, subst}
use Rattle.exports_pieces_state.specs.Numbers.{pieces_in}
use Rattle.exports_pieces.specs.Answers.{closing_number, closing_length, ended_numbers, Stayed}
use Rattle.exports_pieces.proofs.ended.Goals as goal
use Rattle.std.specs.Prelude.{ℕ, Result}
use Rattle.format.specs.declared.Refusal.{Refusal}

pub returns-in-Ok : goal.returns-in-Ok
unfolding closing_number closing_length ended_numbers
returns-in-Ok c =
    let e = c.in-Ok.is in
    let n = c.numbers_of.ensures in
    record { value = rw e; answer_after = rw e; state_after = rw e n.0; state_after_2 = λ _. n.1 }

pub returns-in-Err : goal.returns-in-Err
unfolding closing_number closing_length ended_numbers
returns-in-Err c =
    let e = c.in-Err.is in
    let a = c.args in
    record { value = rw e; answer_after = rw e; state_after = rw e; state_after_2 = λ k. sym (subst (λ (g : Result ℕ (Refusal ℕ)). Stayed g a.r.next (pieces_in a.state.now)) e k) }
