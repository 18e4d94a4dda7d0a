use mathlib.Core.Path.{refl}
use Rattle.format.specs.Reading.{no_tag}
use Rattle.reading_found.proofs.no_binary.Goals as goal

pub returns : goal.returns
unfolding no_tag
returns c = refl
