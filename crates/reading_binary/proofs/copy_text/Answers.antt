-- `reading_binary::copy_text` meets its contract: the item's own bytes are whole triplets within the limit. Assumes nothing.
use mathlib.Core.Path.{◌≡◌}
use Prim.Native.Nat.{◌+◌, ◌-◌, ◌*◌}
use native.Mathlib.Omega.{arith}
use lib.ListN.{drop, length-drop}
use lib.Seq.{length-take-le}
use Rattle.reading_binary.proofs.copy_text.Goals as goal

pub returns : goal.returns
returns c =
    let a = c.args in
    let z : a.from + 3 * a.size - a.from ≡ 3 * a.size = omega arith in
    let l = length-take-le (3 * a.size) (drop a.from a.s.now) (omega (arith, c.requires.0, length-drop a.from a.s.now)) in
    rw z at c.copy_chars.ensures (omega (arith, l)) (omega (arith, l, c.requires.1, c.requires.0)) (omega (arith, l, c.requires.2, c.requires.3))
