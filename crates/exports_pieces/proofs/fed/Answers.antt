-- `exports_pieces::fed` meets its contract. Assumes nothing.
use mathlib.Core.Path.{sym, subst}
use Rattle.exports_pieces_state.specs.Numbers.{pieces_in}
use Rattle.exports_pieces.specs.Answers.{given_number, given_lengths, fed_numbers, Kept}
use Rattle.exports_pieces.proofs.fed.Goals as goal
use Rattle.std.specs.Prelude.{ℕ, Result}
use Rattle.format.specs.declared.Refusal.{Refusal}
use Rattle.pieces.specs.declared.Rows.{Rows}

pub returns-in-Ok : goal.returns-in-Ok
unfolding given_number given_lengths fed_numbers
returns-in-Ok c =
    let e = c.in-Ok.is in
    let n = c.numbers_of.ensures in
    record { value = rw e; given_after = rw e; state_after = rw e n.0; state_after_2 = λ _. n.1 }

pub returns-in-Err : goal.returns-in-Err
unfolding given_number given_lengths fed_numbers
returns-in-Err c =
    let e = c.in-Err.is in
    let a = c.args in
    record { value = rw e; given_after = rw e; state_after = rw e; state_after_2 = λ k. sym (subst (λ (g : Result Rows (Refusal ℕ)). Kept g a.r.next (pieces_in a.state.now)) e k) }
