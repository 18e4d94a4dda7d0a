-- `binary_to_text` meets its contract. Assumes nothing.
use mathlib.Core.Path.{refl, ap, sym, ◌∙◌}
use native.Mathlib.Omega.{arith}
use Rattle.format.specs.declared.TextOffset.{TextOffset}
use Rattle.format.specs.Conversion.{text_left}
use Rattle.laws.specs.Offsets.{in-text-at, in-text-past}
use Rattle.convert_unpack.proofs.Left.{written-left}
use Rattle.convert.proofs.Answers.{binary-long, binary-torn, binary-no-room, binary-converted}
use Rattle.convert.proofs.binary_to_text.Goals as goal
use Rattle.std.specs.Prelude.{Ok}

pub returns-then-n-gt0 : goal.returns-then-n-gt0
unfolding text_left
returns-then-n-gt0 c =
    let at = in-text-at _ c.in_text.ensures c.in-Some.is in
    record { value = sym (binary-torn _ _ at.0 (omega arith)); dst_after = refl }

pub returns-then-dst-size : goal.returns-then-dst-size
unfolding text_left
returns-then-dst-size c =
    let at = in-text-at _ c.in_text.ensures c.in-Some.is in
    let size = ap (λ (t : TextOffset). t.0) at.1 in
    record { value = sym (binary-no-room _ _ at.0 (omega arith) (omega (arith, size))); dst_after = refl }

pub returns-in-None : goal.returns-in-None
unfolding text_left
returns-in-None c = record { value = sym (binary-long _ _ (in-text-past _ c.in_text.ensures c.in-None.is)); dst_after = refl }

pub returns-else-dst-size : goal.returns-else-dst-size
unfolding text_left
returns-else-dst-size c =
    let at = in-text-at _ c.in_text.ensures c.in-Some.is in
    let size = ap (λ (t : TextOffset). t.0) at.1 in record { value = ap Ok at.1 ∙ sym (binary-converted _ _ at.0 (omega arith) (omega (arith, size))); dst_after = rw size (c.to_text.ensures ∙ written-left _ _ (omega (arith, size))) }
