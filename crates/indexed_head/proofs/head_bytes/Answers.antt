-- `indexed_head::head_bytes` meets its contract: both units packed. Assumes nothing.
use mathlib.Core.Path.{◌∙◌}
use Rattle.laws.specs.Units.{bytes-size}
use Rattle.indexed_head.proofs.Heads.{nine}
use Rattle.indexed_head.specs.Heads.{head_bytes}
use Rattle.indexed_head.proofs.head_bytes.Goals as goal

pub returns : goal.returns
unfolding head_bytes
returns c =
    let a = c.pack-a.ensures in
    let b = c.pack-b.ensures in
    nine c.pack-a.result c.pack-b.result (rw a (bytes-size _)) (rw b (bytes-size _)) ∙ rw (a, b, c.first_unit.ensures, c.second_unit.ensures)
