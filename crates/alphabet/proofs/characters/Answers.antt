use mathlib.Core.Path.{refl}
use Rattle.format.specs.Alphabet.{character_table, char_of}
use Rattle.alphabet.proofs.characters.Goals as goal

pub returns : goal.returns
unfolding character_table char_of
returns c = refl
