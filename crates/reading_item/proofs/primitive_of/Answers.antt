-- `reading_item::primitive_of` meets its contract: within the bounds nothing is cut off. Assumes nothing.
use mathlib.Core.Path.{◌≡◌}
use native.Mathlib.Omega.{arith}
use Rattle.format.specs.Reading.{primitive_of}
use Rattle.reading_item.proofs.primitive_of.Goals as goal

pub returns : goal.returns
unfolding primitive_of
returns c =
    let a = c.args in
    λ few small shape.
    let h : c.min-few.result ≡ a.h = omega arith in
    let n : c.min-units.result ≡ a.n = omega arith in
    let r = c.raw_start-start.ensures (rw (h, n) shape) in
    rw (c.tags_of-tags.ensures, c.code_of-code.ensures, c.saturating_sub-raw.ensures, r, h, n)
