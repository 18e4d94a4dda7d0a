-- `cesr_passed` meets its contract. Assumes nothing.
use Rattle.exports.proofs.cesr_passed.Goals as goal

pub returns : goal.returns
returns c = record { value = rw (← c.passed-outcome.ensures) c.passed.ensures.value; passed_after = rw (← c.passed-outcome.ensures) c.passed.ensures.passed_after }
