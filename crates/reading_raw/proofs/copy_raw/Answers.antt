-- `reading_raw::copy_raw` meets its contract. Assumes nothing.
use mathlib.Core.Path.{ap}
use native.Mathlib.Omega.{arith}
use Rattle.format.specs.declared.TextOffset.{TextOffset}
use Rattle.laws.specs.Offsets.{in-binary-is, in-text-at, in-text-past}
use Rattle.reading_raw.proofs.copy_raw.Goals as goal

pub returns-then-size-from : goal.returns-then-size-from
returns-then-size-from c = λ f i room. absurd (omega (arith, in-binary-is _ c.in_binary-size.ensures))

pub returns-then-out-size : goal.returns-then-out-size
returns-then-out-size c = λ f i room. absurd (omega (arith, in-binary-is _ c.in_binary-size.ensures))

pub copy_from-requires : goal.copy_from-requires
copy_from-requires c =
    let size = in-binary-is _ c.in_binary-size.ensures in
    let at = in-text-at _ c.in_text.ensures c.in-Some.is in
    (ap (λ (t : TextOffset). t.0) at.1, omega (arith, size), omega (arith, size))

pub returns-in-Some : goal.returns-in-Some
returns-in-Some c = λ f i room. c.copy_from.ensures f

pub returns-in-None : goal.returns-in-None
returns-in-None c = λ f i room.
    let size = in-binary-is _ c.in_binary-size.ensures in
    absurd (omega (arith, size, f.short, in-text-past _ c.in_text.ensures c.in-None.is))
