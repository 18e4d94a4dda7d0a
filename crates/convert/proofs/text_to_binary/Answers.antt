-- `text_to_binary` meets its contract. Assumes nothing.
use mathlib.Core.Path.{◌≡◌, refl, ap, sym, ◌∙◌}
use Prim.Native.Nat.{ℕ}
use native.Mathlib.Omega.{arith}
use Rattle.format.specs.Offsets.{text_offset}
use Rattle.format.specs.Conversion.{binary_left}
use Rattle.convert_order.proofs.Answers.{text-length}
use Rattle.convert.proofs.Answers.{text-left}
use Rattle.convert.proofs.text_to_binary.Goals as goal
use Rattle.format.specs.Refusals.{refused_by}

pub returns-then-refused-gt0 : goal.returns-then-refused-gt0
unfolding binary_left
returns-then-refused-gt0 c =
    let l = c.length_refusal-refused.ensures in
    record { value = ap (λ (m : ℕ). refused_by m (text_offset 0)) l ∙ sym (text-length _ _ (omega (arith, l))); dst_after = refl }

pub returns : goal.returns
returns c =
    let b = c.to_binary-bad.ensures in
    let l = c.length_refusal-refused in
    let none : l.result ≡ 0 = omega arith in
    let w = sym l.ensures ∙ none in
    let e = rw c.dst-1.given at (c.told.ensures w b.value) in
    record { value = e; dst_after = b.dst_after ∙ text-left _ _ w e }
