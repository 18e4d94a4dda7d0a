-- A table whose rows are filled from the alphabet's table holds the pairs. Assumes nothing.
use mathlib.Core.Path.{◌≡◌, ap, ◌∙◌}
use mathlib.Core.List.{List}
use Prim.Native.Nat.{ℕ, ◌+◌, ◌*◌, ◌/◌, ◌%◌, ◌<◌}
use native.Mathlib.Omega.{arith}
use lib.ListN.{get_or}
use Rattle.base.specs.Lists.{get_or-table}
use Rattle.format.specs.Alphabet.{sextet_of, sextet_table, char_of, character_table}
use Rattle.convert_pairs.specs.Pairs.{SextetPairs, CharacterPairs}

pub sextet-pairs-held : (values t : List ℕ) → values ≡ sextet_table
    → ((k l : ℕ) → k < 78 → l < 78 → get_or t (256 * l + k) 0 ≡ get_or values (k + 45) 0 * 64 + get_or values (l + 45) 0) → SextetPairs t
unfolding sextet_table
sextet-pairs-held values t e f i j h p =
    f i j h p ∙ rw (e, get_or-table sextet_of 256 (i + 45) (omega arith), get_or-table sextet_of 256 (j + 45) (omega arith))

pub character-pairs-held : (characters t : List ℕ) → characters ≡ character_table
    → ((k l : ℕ) → k < 64 → l < 64 → get_or t (64 * l + k) 0 ≡ get_or characters l 0 + get_or characters k 0 * 256) → CharacterPairs t
unfolding character_table
character-pairs-held characters t e f v h =
    let z : v ≡ 64 * (v / 64) + v % 64 = omega arith in
    ap (λ (x : ℕ). get_or t x 0) z ∙ f (v % 64) (v / 64) (omega arith) (omega arith)
    ∙ rw (e, get_or-table char_of 64 (v / 64) (omega arith), get_or-table char_of 64 (v % 64) (omega arith))
