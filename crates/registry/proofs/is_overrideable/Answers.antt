use mathlib.Core.Path.{refl}
use Rattle.format.specs.Registry.{is_overrideable}
use Rattle.registry.proofs.is_overrideable.Goals as goal

pub returns : goal.returns
unfolding is_overrideable
returns c = refl
