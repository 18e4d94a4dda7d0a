-- 02 e: "11 included". Calls that write a group around 63 groups one in the other, and around 64, in the form of groups/Examples. They stand
-- by themselves since to compute them takes longer than all others. What is expected is 02's word. Assumes nothing.
use Rattle.std.specs.Prelude.{ℕ, zero, suc, ◌/◌, ◌%◌, refl, List, [], ◌∷◌}
use Rattle.format.specs.Alphabet.{char_of}
use Rattle.groups.specs.Examples.{Asked, Calls, text, nines, called}
use Rattle.groups.specs.Examples.Expected.{written, refused}
use Rattle.groups.specs.Examples.Calls.{end, ◌&◌}

-- `-D`, so many of them one in the other
abbrev nested : ℕ → List ℕ
nested zero = []
nested (suc k) = 45 ∷ 68 ∷ char_of (k / 64) ∷ char_of (k % 64) ∷ nested k

unfoldable pub calls : List Asked
calls =
    text 65 (nested 63) (nines 4) (written 256 (45 ∷ 65 ∷ 65 ∷ 95 ∷ nested 63)) ∷
    text 65 (nested 64) (nines 4) (refused 11 252) ∷
    []

pub calls-hold : Calls calls
unfolding called calls
calls-hold = refl & refl & end
