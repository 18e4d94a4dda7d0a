-- A state of pieces (02 f) that C lends: numbers, which are the elements to a unit, the walk's state, and eighteen more. Assumes nothing.
use Rattle.std.specs.Prelude.{ℕ, ◌+◌, ◌%◌, Bool, true, false, List, [], ◌∷◌, ◌++◌, get_or, take, drop, ltb, eqb}
use Rattle.base.specs.Pick.{pick}
use Rattle.walk_state.specs.declared.Walk.{Walk}
use Rattle.pieces.specs.declared.Phase.{Phase}
use Rattle.pieces.specs.declared.Phase.TheVariants as P
use Rattle.pieces.specs.declared.Progress.{Progress}
use Rattle.pieces.specs.declared.Pieces.{Pieces}
use Rattle.exports_values.specs.Lent.{state_size, walk_of, state_of}

-- behind the walk's state: units read (0), a header's first unit (1 to 4), whether strangers are asked for (5), lead bytes (6), whether a text
-- comes next (7), number (8), place (9), start (10), items told (11), phase (12), what is held (13 to 16) and how many (17)
abbrev pub rest_size : ℕ
rest_size = 18

abbrev pub pieces_size : ℕ
pieces_size = 1 + state_size + rest_size

-- ---- from numbers to a state

abbrev pub four : List ℕ → ℕ → List ℕ
four t k = get_or t k 0 ∷ get_or t (k + 1) 0 ∷ get_or t (k + 2) 0 ∷ get_or t (k + 3) 0 ∷ []

unfoldable pub all_under : ℕ → List ℕ → Bool
all_under m [] = true
all_under m (x ∷ l) = pick (ltb x m) (all_under m l) false

-- what is a mark is 0 or 1, and what is a number of 8 bits is below 256
unfoldable pub is_narrow : List ℕ → Bool
is_narrow t =
    pick (all_under 256 (four t 1))
    (pick (all_under 256 (four t 5))
    (pick (all_under 256 (four t 13))
    (pick (ltb (get_or t 5 0) 2) (ltb (get_or t 7 0) 2) false)
    false)
    false)
    false

abbrev pub phase_of : ℕ → Phase
phase_of n = pick (eqb n 0) P.Framing (pick (eqb n 1) P.Unframed P.Ended)

-- numbers that are no state's are read as a state after the end, which is 13
unfoldable pub phase_in : List ℕ → Phase
phase_in t = pick (is_narrow t) (phase_of (get_or t 12 0)) P.Ended

abbrev pub four_bytes : List ℕ → ℕ → List ℕ
four_bytes t k = get_or t k 0 % 256 ∷ get_or t (k + 1) 0 % 256 ∷ get_or t (k + 2) 0 % 256 ∷ get_or t (k + 3) 0 % 256 ∷ []

unfoldable pub progress_in : Walk → List ℕ → Progress
progress_in w t = record {
  walk = w;
  read = get_or t 0 0;
  header = four_bytes t 1;
  scans = eqb (get_or t 5 0) 1;
  lead = get_or t 6 0 % 256;
  text = eqb (get_or t 7 0) 1;
  number = get_or t 8 0 % 256;
  place = get_or t 9 0;
  start = get_or t 10 0;
  items = get_or t 11 0;
  phase = phase_in t;
}

unfoldable pub pieces_with : ℕ → Walk → List ℕ → Pieces
pieces_with unit w t = record { unit = unit; progress = progress_in w t; held = four_bytes t 13; count = get_or t 17 0 }

unfoldable pub pieces_in : List ℕ → Pieces
pieces_in s = pieces_with (get_or s 0 0) (walk_of (take state_size (drop 1 s))) (take rest_size (drop (1 + state_size) s))

-- ---- and back

unfoldable pub phase_number : Phase → ℕ
phase_number P.Framing = 0
phase_number P.Unframed = 1
phase_number P.Ended = 2

unfoldable pub rest_of : Progress → List ℕ → ℕ → List ℕ
rest_of p held count =
    p.read ∷ get_or p.header 0 0 ∷ get_or p.header 1 0 ∷ get_or p.header 2 0 ∷ get_or p.header 3 0 ∷ pick p.scans 1 0 ∷ p.lead
    ∷ pick p.text 1 0 ∷ p.number ∷ p.place ∷ p.start ∷ p.items ∷ phase_number p.phase ∷ get_or held 0 0 ∷ get_or held 1 0 ∷ get_or held 2 0
    ∷ get_or held 3 0 ∷ count ∷ []

unfoldable pub numbers_of : Pieces → List ℕ
numbers_of st = st.unit ∷ (state_of st.progress.walk ++ rest_of st.progress st.held st.count)
