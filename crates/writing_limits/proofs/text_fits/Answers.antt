-- `writing_limits::text_fits` meets its contract: a text above the limit is not counted with its fill. Assumes nothing.
use Rattle.format.specs.Writing.{text_limit}
use Rattle.format.specs.Texts.{fill_for}
use Prim.Native.Nat.{◌<◌, ◌+◌}
use borrow.Author.Tests.{lt-leb}
use native.Mathlib.Omega.{arith}
use Rattle.writing_limits.proofs.text_fits.Goals as goal

pub returns-then-most-chars : goal.returns-then-most-chars
returns-then-most-chars c =
    let a = c.args in
    let h : text_limit a.head < a.chars + fill_for a.chars = omega (arith, c.text_limit-most.ensures.0) in
    rw (lt-leb _ _ h)

pub returns : goal.returns
returns c = rw (c.fill_for.ensures.0, c.text_limit-most.ensures.0)
