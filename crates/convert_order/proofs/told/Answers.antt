-- `told` meets its contract. Assumes nothing.
use mathlib.Core.Path.{ap, sym, ◌∙◌}
use Prim.Native.Nat.{ℕ}
use native.Mathlib.Omega.{arith}
use Rattle.format.specs.Offsets.{text_offset, offset_in_binary}
use Rattle.laws.specs.Offsets.{in-binary-is}
use Rattle.convert_order.proofs.Answers.{text-stranger, text-no-room, text-converted}
use Rattle.convert_order.proofs.told.Goals as goal
use Rattle.std.specs.Prelude.{Ok}
use Rattle.format.specs.Refusals.{refused_by}

pub returns-then-bad-n : goal.returns-then-bad-n
returns-then-bad-n c = λ w e. ap (λ (m : ℕ). refused_by m (text_offset c.args.bad)) c.number_at-number.ensures ∙ sym (text-stranger _ _ w _ e (omega arith))

pub returns-then-room-size : goal.returns-then-room-size
returns-then-room-size c = λ w e. sym (text-no-room _ _ w _ e (omega arith) (omega (arith, in-binary-is _ c.in_binary-size.ensures)))

pub returns : goal.returns
unfolding offset_in_binary
returns c = λ w e.
    let b = c.in_binary-size.ensures in
    ap Ok b ∙ sym (text-converted _ _ w _ e (omega arith) (omega (arith, in-binary-is _ b)))
