use mathlib.Core.Path.{refl}
use Rattle.format.specs.Alphabet.{sextet_table, sextet_of}
use Rattle.alphabet.proofs.sextets.Goals as goal

pub returns : goal.returns
unfolding sextet_table sextet_of
returns c = refl
