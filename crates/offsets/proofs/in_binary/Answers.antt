use mathlib.Core.Path.{refl}
use Rattle.format.specs.Offsets.{offset_in_binary}
use Rattle.offsets.proofs.in_binary.Goals as goal

pub returns : goal.returns
unfolding offset_in_binary
returns c = refl
