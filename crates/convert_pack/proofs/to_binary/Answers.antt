-- `to_binary` meets its contract. Assumes nothing.
use mathlib.Core.Path.{sym}
use native.Mathlib.Omega.{arith}
use Rattle.laws.specs.Conversion.{all_known}
use Rattle.convert_pack.proofs.Left.{stranger-left, no-room-left, packed-left}
use Rattle.convert_pack.proofs.to_binary.Goals as goal

pub returns-then-known-src-clause-dst_after : goal.returns-then-known-src-clause-dst_after
returns-then-known-src-clause-dst_after c = sym (stranger-left _ _ (omega arith))

pub returns-then-dst-n-clause-dst_after : goal.returns-then-dst-n-clause-dst_after
returns-then-dst-n-clause-dst_after c = sym (no-room-left _ _ (omega arith) (omega arith))

pub pack-requires : goal.pack-requires
pack-requires c = (omega arith, all_known _ (omega arith), omega arith)

pub returns-clause-dst_after : goal.returns-clause-dst_after
returns-clause-dst_after c = packed-left _ _ (omega arith) (omega arith) _ c.pack.ensures
