use borrow.Author.Rules.{rules}
use mathlib.Core.Path.{sym}
use Rattle.base.specs.Lists.{get_or-table}
use Rattle.format.specs.Alphabet.{character_table, char_of}
use Rattle.laws.specs.Alphabet.{char-past}
use Rattle.alphabet.proofs.character.Goals as goal

pub returns-then-v-lt64 : goal.returns-then-v-lt64
unfolding character_table
returns-then-v-lt64 c = rw (c.from.ensures, c.characters-chars.ensures) (get_or-table char_of 64 c.args.v (search rules))

pub returns-else-v-lt64 : goal.returns-else-v-lt64
returns-else-v-lt64 c = sym (char-past c.args.v (search rules))
