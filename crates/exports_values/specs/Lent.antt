-- The walk over a state that C lends: numbers, which are the ends of the groups open, as many as may be, the number open, the position,
-- the first-item mark and the mark of indexed items (0 or 1 each), in units. Assumes nothing.
use Rattle.std.specs.Prelude.{ℕ, ◌+◌, Bool, List, [], ◌∷◌, ◌++◌, get_or, ltb, eqb}
use Rattle.base.specs.Pick.{pick}
use Rattle.format.specs.Alphabet.{char_of}
use Rattle.format.specs.Indexed.{code_of_row}
use Rattle.format.specs.Judging.{max_depth}
use Rattle.format.specs.declared.Kind.{Kind}
use Rattle.format.specs.declared.Kind.TheVariants.{Fixed, Variable, Group, Genus, Indexed}
use Rattle.walk_state.specs.declared.Walk.{Walk}
use Rattle.walk_state.specs.declared.Place.{Place}
use Rattle.walk_state.specs.declared.Found.{Found}
use Rattle.walk_state.specs.declared.Found.TheVariants as T
use Rattle.walk_state.specs.Lent.{slots_in, walk_at}
use Rattle.format.specs.declared.TextOffset.{TextOffset}
use Rattle.format.specs.declared.BinaryOffset.{BinaryOffset}

-- ---- the state as numbers

abbrev pub state_size : ℕ
state_size = max_depth + 4

-- one more than may be open, which is 13 over every stream
abbrev pub too_many : ℕ
too_many = max_depth + 1

-- a mark that is neither 0 nor 1 is no state's
abbrev open_by : ℕ → ℕ → ℕ
open_by mark depth = pick (ltb 1 mark) too_many depth

-- the state but its ends: the four numbers behind them
unfoldable pub place_in : List ℕ → Place
place_in s = record {
  depth = open_by (get_or s (max_depth + 2) 0) (open_by (get_or s (max_depth + 3) 0) (get_or s max_depth 0));
  at = get_or s (max_depth + 1) 0;
  first = eqb (get_or s (max_depth + 2) 0) 1;
  indexed = eqb (get_or s (max_depth + 3) 0) 1;
}

unfoldable pub walk_of : List ℕ → Walk
walk_of s = walk_at s (place_in s)

abbrev pub place_numbers : ℕ → ℕ → Bool → Bool → List ℕ
place_numbers depth at first indexed = depth ∷ at ∷ pick first 1 0 ∷ pick indexed 1 0 ∷ []

unfoldable pub state_of : Walk → List ℕ
state_of w = slots_in w.ends ++ place_numbers w.depth w.at w.first w.indexed

-- ---- an item's code as three numbers

-- chars as for reading and writing; 7 for a small group, 8 for a large one, 9 for a genus/version, 10 for an indexed item; h: the header's
-- units
unfoldable pub sort_of : Kind → ℕ → ℕ
sort_of (Fixed c) h = c.chars
sort_of (Variable t lead count) h = pick (eqb h 1) 5 6
sort_of (Group letter) h = pick (eqb h 1) 7 8
sort_of Genus h = 9
sort_of (Indexed c) h = 10

-- the letter as a character; a genus/version has none
unfoldable pub sign_of : Kind → ℕ
sign_of (Fixed c) = char_of c.letter
sign_of (Variable t lead count) = char_of t
sign_of (Group letter) = char_of letter
sign_of Genus = 0
sign_of (Indexed c) = (code_of_row c).letter

-- a variable's lead bytes, which tell its selector; an indexed item's selector as a character, 0 where its letter stands alone
unfoldable pub lead_of : Kind → ℕ
lead_of (Fixed c) = 0
lead_of (Variable t lead count) = lead
lead_of (Group letter) = 0
lead_of Genus = 0
lead_of (Indexed c) = (code_of_row c).selector

-- ---- a step's answer: 0 for an item, 255 for the end, or 01's number and the place

unfoldable pub item_of : ℕ → ℕ → ℕ → Kind → ℕ → List ℕ
item_of offset size depth k h = offset ∷ size ∷ depth ∷ sort_of k h ∷ sign_of k ∷ lead_of k ∷ []

unfoldable pub text_step_number : Found TextOffset → ℕ
text_step_number (T.Item o n d k h) = 0
text_step_number (T.Refused number place) = number
text_step_number T.End = 255

unfoldable pub text_step_value : Found TextOffset → ℕ
text_step_value (T.Item o n d k h) = 0
text_step_value (T.Refused number place) = place.0
text_step_value T.End = 0

-- what a place that held before holds afterwards: a refusal and the end leave it
unfoldable pub text_yield_left : Found TextOffset → List ℕ → List ℕ
text_yield_left (T.Item o n d k h) before = item_of o.0 n.0 d k h
text_yield_left (T.Refused number place) before = before
text_yield_left T.End before = before

unfoldable pub text_state_left : Found TextOffset → Walk → List ℕ → List ℕ
text_state_left (T.Item o n d k h) w before = state_of w
text_state_left (T.Refused number place) w before = before
text_state_left T.End w before = before

unfoldable pub binary_step_number : Found BinaryOffset → ℕ
binary_step_number (T.Item o n d k h) = 0
binary_step_number (T.Refused number place) = number
binary_step_number T.End = 255

unfoldable pub binary_step_value : Found BinaryOffset → ℕ
binary_step_value (T.Item o n d k h) = 0
binary_step_value (T.Refused number place) = place.0
binary_step_value T.End = 0

unfoldable pub binary_yield_left : Found BinaryOffset → List ℕ → List ℕ
binary_yield_left (T.Item o n d k h) before = item_of o.0 n.0 d k h
binary_yield_left (T.Refused number place) before = before
binary_yield_left T.End before = before

unfoldable pub binary_state_left : Found BinaryOffset → Walk → List ℕ → List ℕ
binary_state_left (T.Item o n d k h) w before = state_of w
binary_state_left (T.Refused number place) w before = before
binary_state_left T.End w before = before
