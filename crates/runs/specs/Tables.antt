-- A text's sextets and letters by their tables, and a table told by a test of its entries. Assumes nothing.
use Rattle.std.specs.Prelude.{ℕ, zero, suc, ◌<◌, ◌≡◌, refl, List, [], ◌∷◌, map, Bool, true, false, T, eqb, length, get_or}
use Rattle.std.proofs.Common.{sym, eqb→eq}
use Rattle.base.specs.Table.{both_left, both_right, every}
use Rattle.base.specs.Below.{below}
use Rattle.base.specs.Lists.{count_from, up_to, get_or-table}
use Rattle.format.specs.Alphabet.{sextet_of, sextet_table}
use Rattle.format.specs.Units.{text_sextets}
use Rattle.runs.specs.Plain.{sextets_by, class_of, class_table}

pub value : (c : ℕ) → c < 256 → get_or sextet_table c 0 ≡ sextet_of c
unfolding sextet_table
value c h = get_or-table sextet_of 256 c h

-- the table of the letters of groups
pub class-value : (c : ℕ) → c < 256 → get_or class_table c 0 ≡ class_of c
unfolding class_table
class-value c h = get_or-table class_of 256 c h

-- `-` is the one character of value 62
same : Bool → Bool → Bool
same true y = y
same false true = false
same false false = true

same-eq : (x y : Bool) → T (same x y) → x ≡ y
unfolding same
same-eq true true t = refl
same-eq true false t = absurd t
same-eq false true t = absurd t
same-eq false false t = refl

is_dash : ℕ → Bool
is_dash c = same (eqb c 45) (eqb (sextet_of c) 62)

pub dash : (c : ℕ) → c < 256 → eqb c 45 ≡ eqb (sextet_of c) 62
unfolding is_dash same sextet_of
dash c h = same-eq (eqb c 45) (eqb (sextet_of c) 62) (below is_dash 256 tt c h)

pub by-table : (s : List ℕ) → ((i : ℕ) → get_or s i 0 < 256) → sextets_by sextet_table s ≡ text_sextets s
unfolding sextets_by text_sextets
by-table [] h = refl
by-table (c ∷ s) h = rw (value c (h 0), by-table s (λ i. h (suc i)))

from-tests : (f : ℕ → ℕ) (i : ℕ) (xs : List ℕ) → T (every (λ j x. eqb x (f j)) i xs) → xs ≡ map f (count_from i (length xs))
from-tests f i [] t = refl
from-tests f i (x ∷ xs) t =
    rw (← (eqb→eq x (f i) (both_left (eqb x (f i)) _ t)), ← (from-tests f (suc i) xs (both_right (eqb x (f i)) _ t)))

pub is-table : (f : ℕ → ℕ) (xs : List ℕ) → T (every (λ j x. eqb x (f j)) 0 xs) → xs ≡ map f (up_to (length xs))
is-table f xs t = from-tests f 0 xs t
