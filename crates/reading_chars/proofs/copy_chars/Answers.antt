-- `reading_chars::copy_chars` meets its contract. Assumes nothing.
use mathlib.Core.Path.{◌≡◌}
use Prim.Native.Nat.{◌+◌, ◌*◌, ◌/◌, ◌%◌}
use native.Mathlib.Omega.{arith}
use Rattle.reading_chars.proofs.Copying.{none_left}
use Rattle.reading_chars.proofs.copy_chars.Goals as goal

pub returns-then-item-gt3145728 : goal.returns-then-item-gt3145728
returns-then-item-gt3145728 c = λ w s r. absurd (omega arith)

pub returns-then-item-ne0 : goal.returns-then-item-ne0
returns-then-item-ne0 c = λ w s r. absurd (c.if-item-ne0.true w)

pub returns-then-size-from : goal.returns-then-size-from
returns-then-size-from c = λ w s r. none_left _ _ _ c.if-size-from.true

pub returns-then-out-size : goal.returns-then-out-size
returns-then-out-size c = λ w s r. absurd (omega arith)

pub returns : goal.returns
returns c =
    λ w s r.
    let a = c.args in
    let z : a.start.0 / 4 * 4 + a.start.0 % 4 ≡ a.start.0 = omega arith in
    rw z at c.copy_from.ensures
