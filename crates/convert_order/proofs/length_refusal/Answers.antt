-- `length_refusal` meets its contract. Assumes nothing.
use mathlib.Core.Path.{sym}
use native.Mathlib.Omega.{arith}
use Rattle.convert_order.proofs.Answers.{length-long, length-torn, length_whole}
use Rattle.convert_order.proofs.length_refusal.Goals as goal

pub returns-then-n-gt4194304 : goal.returns-then-n-gt4194304
returns-then-n-gt4194304 c = sym (length-long _ (omega arith))

pub returns-then-n-gt0 : goal.returns-then-n-gt0
returns-then-n-gt0 c = sym (length-torn _ (omega arith) (omega arith))

pub returns : goal.returns
returns c = sym (length_whole _ (omega arith) (omega arith))
