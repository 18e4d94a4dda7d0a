-- 01, "The walk": steps with what they find and the state they leave, as one table under a single claim: each of 13's conditions, each order
-- of numbers that a step can tell. Text is written by its characters' numbers. What is expected is 01's word. Assumes nothing.
use Rattle.std.specs.Prelude.{ℕ, ◌+◌, ◌-◌, ◌*◌, ◌/◌, ◌%◌, ◌≡◌, refl, List, [], ◌∷◌, ◌++◌, Bool, true, false, length, replicate}
use Rattle.format.specs.declared.Kind.{Kind}
use Rattle.format.specs.declared.Kind.TheVariants.{Fixed, Group, Genus, Indexed}
use Rattle.format.specs.Units.{Domain, text, binary}
use Rattle.format.specs.Registry.{one_letter, letter_indexed, two_indexed, three_indexed}
use Rattle.format.specs.Deck.{given}
use Rattle.walk_state.specs.declared.Walk.{Walk}
use Rattle.walk_state.specs.declared.Found.TheVariants as F
use Rattle.walk_state.specs.declared.Stepped.{Stepped}
use Rattle.walk_state.specs.Walking.{start, all_below, slot_fits, is_fit, closed, moved_to, opened, past, next_of, stop_of, judged, framed_by, frame_at}
use Rattle.walk_state.specs.Walking.{step_fit, step, found_in, step_in}

infixr 5 ◌&◌
-- ---- a step and what is expected of it

-- 64 slots: the ends that are given, then zeros
abbrev state_of : Bool → List ℕ → ℕ → ℕ → Bool → Walk
state_of indexed ends depth at first =
    record { ends = ends ++ replicate (64 - length ends) 0; depth = depth; at = at; first = first; indexed = indexed }

abbrev pub state : List ℕ → ℕ → ℕ → Bool → Walk
state = state_of false

-- within a `-K` or `-L`
abbrev pub signatures : List ℕ → ℕ → ℕ → Bool → Walk
signatures = state_of true

-- so many `A`
abbrev filler : ℕ → List ℕ
filler n = replicate n 65

pub data Expected : Type 0 where
  yields : ℕ → ℕ → ℕ → Kind → ℕ → Walk → Expected  -- offset, size, depth, kind, header's units, the next state
  refuses : ℕ → ℕ → Expected  -- number, place; the state stays
  ends : Expected  -- the state stays

pub record Asked : Type 0 where
  pub form : Domain
  pub stream : List ℕ
  pub from : Walk
  pub gives : Expected

abbrev pub asked : Domain → List ℕ → Walk → Expected → Asked
asked d s w e = record { form = d; stream = s; from = w; gives = e }

-- ---- the table

unfoldable pub steps : List Asked
steps =
    asked text (45 ∷ 65 ∷ 65 ∷ 66 ∷ 77 ∷ 65 ∷ 65 ∷ 66 ∷ []) start (yields 0 8 0 (Group 0) 1 (state (2 ∷ []) 1 1 true)) ∷  -- `-AABMAAB`: a group is opened, and marks
    asked text (45 ∷ 65 ∷ 65 ∷ 66 ∷ 77 ∷ 65 ∷ 65 ∷ 66 ∷ []) (state (2 ∷ []) 1 1 true) (yields 4 4 1 (Fixed (one_letter 12 4 0 0)) 1 (state [] 0 2 false)) ∷  -- its item, and the group closes
    asked text (45 ∷ 65 ∷ 65 ∷ 66 ∷ 77 ∷ 65 ∷ 65 ∷ 66 ∷ []) (state [] 0 2 false) ends ∷  -- the end
    asked binary (248 ∷ 0 ∷ 1 ∷ 48 ∷ 0 ∷ 1 ∷ []) start (yields 0 6 0 (Group 0) 1 (state (2 ∷ []) 1 1 true)) ∷  -- the same in B
    asked binary (248 ∷ 0 ∷ 1 ∷ 48 ∷ 0 ∷ 1 ∷ []) (state (2 ∷ []) 1 1 true) (yields 3 3 1 (Fixed (one_letter 12 4 0 0)) 1 (state [] 0 2 false)) ∷
    asked text (45 ∷ 68 ∷ 65 ∷ 66 ∷ 77 ∷ 65 ∷ 65 ∷ 66 ∷ []) start (yields 0 8 0 (Group 3) 1 (state (2 ∷ []) 1 1 false)) ∷  -- `-DABMAAB`: opened, no mark
    asked text (45 ∷ 67 ∷ 65 ∷ 66 ∷ 77 ∷ 65 ∷ 65 ∷ 66 ∷ []) start (yields 0 8 0 (Group 2) 1 (state (2 ∷ []) 1 1 true)) ∷  -- `-CABMAAB`: the last that marks
    asked text (45 ∷ 65 ∷ 65 ∷ 65 ∷ []) start (yields 0 4 0 (Group 0) 1 (state [] 0 1 false)) ∷  -- `-AAA`: an empty group closes at once, and sets no mark
    asked text (45 ∷ 65 ∷ 65 ∷ 66 ∷ 45 ∷ 65 ∷ 65 ∷ 65 ∷ []) (state (2 ∷ []) 1 1 true) (yields 4 4 1 (Group 0) 1 (state [] 0 2 false)) ∷  -- `-AAB-AAA`: both close
    asked text (45 ∷ 65 ∷ 65 ∷ 67 ∷ 77 ∷ 65 ∷ 65 ∷ 66 ∷ 77 ∷ 65 ∷ 65 ∷ 66 ∷ []) (state (3 ∷ []) 1 1 true) (yields 4 4 1 (Fixed (one_letter 12 4 0 0)) 1 (state (3 ∷ []) 1 2 false)) ∷  -- `-AACMAABMAAB`: every other yielding step clears the mark
    asked text (45 ∷ 45 ∷ 65 ∷ 65 ∷ 65 ∷ 65 ∷ 65 ∷ 66 ∷ 77 ∷ 65 ∷ 65 ∷ 66 ∷ []) start (refuses 18 0) ∷  -- `--AAAAABMAAB`: a large group that a small one holds
    asked text (45 ∷ 65 ∷ 65 ∷ 68 ∷ 45 ∷ 45 ∷ 65 ∷ 65 ∷ 65 ∷ 65 ∷ 65 ∷ 66 ∷ 77 ∷ 65 ∷ 65 ∷ 66 ∷ []) (state (4 ∷ []) 1 1 true) (refuses 18 4) ∷  -- `-AAD--AAAAABMAAB`: with the place in the stream
    asked text (45 ∷ 45 ∷ 65 ∷ 65 ∷ 65 ∷ 65 ∷ 65 ∷ 67 ∷ 45 ∷ 95 ∷ 65 ∷ 65 ∷ 65 ∷ 66 ∷ 65 ∷ 65 ∷ []) start (refuses 18 0) ∷  -- `--AAAAAC-_AAABAA`: 18, then its items
    asked text (45 ∷ 45 ∷ 75 ∷ 65 ∷ 65 ∷ 65 ∷ 65 ∷ 66 ∷ 33 ∷ 65 ∷ 65 ∷ 65 ∷ []) start (refuses 18 0) ∷  -- `--KAAAAB!AAA`: 18, then its items
    asked text (45 ∷ 45 ∷ 65 ∷ 65 ∷ 65 ∷ 65 ∷ 65 ∷ 65 ∷ []) (state (replicate 64 2) 64 0 false) (refuses 11 0) ∷  -- within 64 groups: 11, then 18
    asked text (56 ∷ 65 ∷ 65 ∷ 66 ∷ 65 ∷ 65 ∷ 65 ∷ 65 ∷ []) start (refuses 18 0) ∷  -- `8AABAAAA`: a variable value, 18, then 9
    asked text (56 ∷ 65 ∷ 65 ∷ 66 ∷ 65 ∷ 65 ∷ 65 ∷ 66 ∷ 65 ∷ 71 ∷ 104 ∷ 33 ∷ []) start (refuses 5 11) ∷  -- `8AABAAABAGh!`: 5, then 18
    asked text (45 ∷ 65 ∷ 65 ∷ 67 ∷ 45 ∷ 95 ∷ 65 ∷ 65 ∷ 65 ∷ 66 ∷ 65 ∷ 65 ∷ []) (state (3 ∷ []) 1 1 true) (refuses 7 4) ∷  -- `-AAC-_AAABAA`: 7 where the mark is set
    asked text (45 ∷ 65 ∷ 65 ∷ 67 ∷ 45 ∷ 95 ∷ 65 ∷ 65 ∷ 65 ∷ 66 ∷ 65 ∷ 65 ∷ []) (state (3 ∷ []) 1 1 false) (yields 4 8 1 Genus 2 (state [] 0 3 false)) ∷  -- and not where it is clear
    asked text (45 ∷ 95 ∷ 65 ∷ 65 ∷ 65 ∷ 66 ∷ 65 ∷ 65 ∷ []) start (refuses 7 0) ∷  -- 7 at top level
    asked text (45 ∷ 65 ∷ 65 ∷ 66 ∷ 77 ∷ 81 ∷ 65 ∷ 65 ∷ []) start (yields 0 8 0 (Group 0) 1 (state (2 ∷ []) 1 1 true)) ∷  -- `-AABMQAA`: of a group only 11 and 18 are judged
    asked text (45 ∷ 65 ∷ 65 ∷ 66 ∷ 77 ∷ 81 ∷ 65 ∷ 65 ∷ []) (state (2 ∷ []) 1 1 true) (refuses 8 4) ∷  -- then 8, with the place in the stream
    asked text (45 ∷ 75 ∷ 65 ∷ 66 ∷ 77 ∷ 33 ∷ 65 ∷ 66 ∷ []) (state (replicate 64 2) 64 0 false) (refuses 11 0) ∷  -- within 64: 11, then 5
    asked text (45 ∷ 75 ∷ 65 ∷ 66 ∷ 77 ∷ 43 ∷ 65 ∷ 66 ∷ []) (state (replicate 64 2) 64 0 false) (refuses 11 0) ∷  -- within 64: 11, then 19
    asked text (45 ∷ 75 ∷ 65 ∷ 66 ∷ 77 ∷ 65 ∷ 65 ∷ 66 ∷ []) (state (replicate 64 1) 64 0 false) (refuses 4 0) ∷  -- 4, which is framing, then 11
    asked text (77 ∷ 65 ∷ 65 ∷ 66 ∷ 77 ∷ 65 ∷ []) (state [] 0 1 false) (refuses 4 4) ∷  -- `MAABMA`: a unit that is not whole
    asked text (77 ∷ 65 ∷ 65 ∷ 66 ∷ 48 ∷ 72 ∷ 69 ∷ 65 ∷ 65 ∷ 33 ∷ 65 ∷ 65 ∷ []) (state [] 0 1 false) (refuses 5 9) ∷  -- 5 behind the header, then 8
    asked text (77 ∷ 65 ∷ 65 ∷ 66 ∷ 48 ∷ 72 ∷ 69 ∷ 65 ∷ 65 ∷ 61 ∷ 65 ∷ 65 ∷ []) (state [] 0 1 false) (refuses 19 9) ∷  -- 19 behind the header, then 8
    asked text (77 ∷ 65 ∷ 65 ∷ 66 ∷ 45 ∷ 95 ∷ 65 ∷ 47 ∷ 65 ∷ 65 ∷ 65 ∷ 65 ∷ []) (state [] 0 1 false) (refuses 19 7) ∷  -- `MAAB-_A/AAAA`: 19 in framing, then 7
    asked text (77 ∷ 65 ∷ 65 ∷ 66 ∷ []) (state (1 ∷ []) 1 0 false) (yields 0 4 1 (Fixed (one_letter 12 4 0 0)) 1 (state [] 0 1 false)) ∷
    asked text (77 ∷ 65 ∷ 65 ∷ 66 ∷ 77 ∷ 65 ∷ 65 ∷ 66 ∷ []) (state (replicate 64 2) 65 0 false) (refuses 13 0) ∷  -- 13: more than 64 open
    asked text (77 ∷ 65 ∷ 65 ∷ 66 ∷ 77 ∷ 65 ∷ 65 ∷ 66 ∷ []) (state (2 ∷ 2 ∷ []) 1 0 false) (refuses 13 0) ∷  -- an unused slot not 0
    asked text (77 ∷ 65 ∷ 65 ∷ 66 ∷ 77 ∷ 65 ∷ 65 ∷ 66 ∷ []) (state (1 ∷ []) 1 1 false) (refuses 13 0) ∷  -- the position not before the innermost end
    asked text (77 ∷ 65 ∷ 65 ∷ 66 ∷ 77 ∷ 65 ∷ 65 ∷ 66 ∷ []) (state [] 0 3 false) (refuses 13 0) ∷  -- or past the stream
    asked text (77 ∷ 65 ∷ 65 ∷ 66 ∷ 77 ∷ 65 ∷ 65 ∷ 66 ∷ []) (state (1 ∷ 2 ∷ []) 2 0 false) (refuses 13 0) ∷  -- an inner end past its outer
    asked text (77 ∷ 65 ∷ 65 ∷ 66 ∷ 77 ∷ 65 ∷ 65 ∷ 66 ∷ []) (state (3 ∷ []) 1 0 false) (refuses 13 0) ∷  -- the outermost past the stream
    asked text (77 ∷ 65 ∷ 65 ∷ 66 ∷ 77 ∷ 65 ∷ 65 ∷ 66 ∷ []) (state [] 0 0 true) (refuses 13 0) ∷  -- the first-item mark set with none open
    asked text (77 ∷ 65 ∷ 65 ∷ 66 ∷ 77 ∷ 65 ∷ 65 ∷ 66 ∷ []) (state [] 0 2 true) (refuses 13 0) ∷  -- 13, then the end
    asked text (77 ∷ 65 ∷ 65 ∷ 66 ∷ 77 ∷ 65 ∷ 65 ∷ 66 ∷ []) (state (2 ∷ 2 ∷ []) 2 0 false) (yields 0 4 2 (Fixed (one_letter 12 4 0 0)) 1 (state (2 ∷ 2 ∷ []) 2 1 false)) ∷  -- equal ends are fit
    asked text (77 ∷ 65 ∷ 65 ∷ 66 ∷ 77 ∷ 65 ∷ 65 ∷ 66 ∷ []) (state (2 ∷ 2 ∷ []) 2 1 false) (yields 4 4 2 (Fixed (one_letter 12 4 0 0)) 1 (state [] 0 2 false)) ∷  -- and close together
    asked text (33 ∷ 65 ∷ 65 ∷ 66 ∷ []) (state [] 0 0 true) (refuses 13 0) ∷  -- 13, then 5
    asked text (43 ∷ 65 ∷ 65 ∷ 66 ∷ []) (state [] 0 0 true) (refuses 13 0) ∷  -- 13, then 19
    -- 02 a: "The walk opens these groups now, its state says whether the innermost open group is one, and that mark with none open is 13"
    asked text (45 ∷ 75 ∷ 65 ∷ 87 ∷ 65 ∷ 66 ∷ filler 86) start (yields 0 92 0 (Group 10) 1 (signatures (23 ∷ []) 1 1 false)) ∷  -- `-KAWABA..`: a signature group is opened, and its mark is set
    asked text (45 ∷ 75 ∷ 65 ∷ 87 ∷ 65 ∷ 66 ∷ filler 86) (signatures (23 ∷ []) 1 1 false) (yields 4 88 1 (Indexed (letter_indexed 0 0)) 1 (state [] 0 23 false)) ∷  -- its item, and the group closes
    asked text (45 ∷ 75 ∷ 65 ∷ 87 ∷ 65 ∷ 66 ∷ filler 86) (state (23 ∷ []) 1 1 false) (yields 4 44 1 (Fixed (one_letter 0 44 0 0)) 1 (state (23 ∷ []) 1 12 false)) ∷  -- without the mark it is read by the master table
    asked text (45 ∷ 76 ∷ 65 ∷ 95 ∷ 50 ∷ 67 ∷ 66 ∷ 95 ∷ 65 ∷ 67 ∷ (filler 86 ++ (51 ∷ 65 ∷ 66 ∷ 65 ∷ 65 ∷ 65 ∷ 65 ∷ 66 ∷ filler 152))) start (yields 0 256 0 (Group 11) 1 (signatures (64 ∷ []) 1 1 false)) ∷  -- `-LA_2CB_ACA..3ABAAAABA..`: a `-L` too
    asked text (45 ∷ 76 ∷ 65 ∷ 95 ∷ 50 ∷ 67 ∷ 66 ∷ 95 ∷ 65 ∷ 67 ∷ (filler 86 ++ (51 ∷ 65 ∷ 66 ∷ 65 ∷ 65 ∷ 65 ∷ 65 ∷ 66 ∷ filler 152))) (signatures (64 ∷ []) 1 1 false) (yields 4 92 1 (Indexed (two_indexed 2 0)) 2 (signatures (64 ∷ []) 1 24 false)) ∷  -- the mark stays between its items
    asked text (45 ∷ 76 ∷ 65 ∷ 95 ∷ 50 ∷ 67 ∷ 66 ∷ 95 ∷ 65 ∷ 67 ∷ (filler 86 ++ (51 ∷ 65 ∷ 66 ∷ 65 ∷ 65 ∷ 65 ∷ 65 ∷ 66 ∷ filler 152))) (signatures (64 ∷ []) 1 24 false) (yields 96 160 1 (Indexed (three_indexed 0 0)) 2 (state [] 0 64 false)) ∷
    asked text (45 ∷ 75 ∷ 65 ∷ 65 ∷ []) start (yields 0 4 0 (Group 10) 1 (state [] 0 1 false)) ∷  -- `-KAA`: an empty one closes at once, and leaves no mark
    asked text (45 ∷ 65 ∷ 65 ∷ 89 ∷ 45 ∷ 75 ∷ 65 ∷ 87 ∷ 65 ∷ 66 ∷ (filler 86 ++ (77 ∷ 65 ∷ 65 ∷ 66 ∷ []))) (state (25 ∷ []) 1 1 true) (yields 4 92 1 (Group 10) 1 (signatures (25 ∷ 24 ∷ []) 2 2 false)) ∷  -- `-AAY-KAWAB..MAAB`: as the first item of another, whose mark it clears
    asked text (45 ∷ 65 ∷ 65 ∷ 89 ∷ 45 ∷ 75 ∷ 65 ∷ 87 ∷ 65 ∷ 66 ∷ (filler 86 ++ (77 ∷ 65 ∷ 65 ∷ 66 ∷ []))) (signatures (25 ∷ 24 ∷ []) 2 2 false) (yields 8 88 2 (Indexed (letter_indexed 0 0)) 1 (state (25 ∷ []) 1 24 false)) ∷  -- the mark goes with the group
    asked text (45 ∷ 65 ∷ 65 ∷ 89 ∷ 45 ∷ 75 ∷ 65 ∷ 87 ∷ 65 ∷ 66 ∷ (filler 86 ++ (77 ∷ 65 ∷ 65 ∷ 66 ∷ []))) (state (25 ∷ []) 1 24 false) (yields 96 4 1 (Fixed (one_letter 12 4 0 0)) 1 (state [] 0 25 false)) ∷  -- and the master table is asked again
    asked text (45 ∷ 75 ∷ 65 ∷ 66 ∷ 77 ∷ 65 ∷ 65 ∷ 66 ∷ []) start (yields 0 8 0 (Group 10) 1 (signatures (2 ∷ []) 1 1 false)) ∷  -- `-KABMAAB`: of a group only 11 and 18 are judged
    asked text (45 ∷ 75 ∷ 65 ∷ 66 ∷ 77 ∷ 65 ∷ 65 ∷ 66 ∷ []) (signatures (2 ∷ []) 1 1 false) (refuses 6 4) ∷  -- any other start is 6
    asked text (45 ∷ 75 ∷ 65 ∷ 66 ∷ 45 ∷ 65 ∷ 65 ∷ 65 ∷ []) (signatures (2 ∷ []) 1 1 false) (refuses 6 4) ∷  -- `-KAB-AAA`: a group too
    asked text (45 ∷ 75 ∷ 65 ∷ 67 ∷ 45 ∷ 95 ∷ 65 ∷ 65 ∷ 65 ∷ 66 ∷ 65 ∷ 65 ∷ []) (signatures (3 ∷ []) 1 1 true) (refuses 6 4) ∷  -- `-KAC-_AAABAA`: both marks set are fit; a genus/version is 6, and never 7
    asked text (45 ∷ 75 ∷ 65 ∷ 66 ∷ 65 ∷ 33 ∷ 65 ∷ 65 ∷ []) start (yields 0 8 0 (Group 10) 1 (signatures (2 ∷ []) 1 1 false)) ∷  -- `-KABA!AA`: its own 5 is not the group's
    asked text (45 ∷ 75 ∷ 65 ∷ 66 ∷ 65 ∷ 33 ∷ 65 ∷ 65 ∷ []) (signatures (2 ∷ []) 1 1 false) (refuses 5 5) ∷  -- 5, then 4 (extent)
    asked text (45 ∷ 75 ∷ 65 ∷ 66 ∷ 65 ∷ 43 ∷ 33 ∷ 65 ∷ []) (signatures (2 ∷ []) 1 1 false) (refuses 19 5) ∷  -- `-KABA+!A`: 19, of the first bad character
    asked text (45 ∷ 75 ∷ 65 ∷ 66 ∷ 65 ∷ 33 ∷ 43 ∷ 65 ∷ []) (signatures (2 ∷ []) 1 1 false) (refuses 5 5) ∷  -- `-KABA!+A`
    asked text (45 ∷ 75 ∷ 65 ∷ 87 ∷ 65 ∷ 66 ∷ 69 ∷ filler 85) (signatures (23 ∷ []) 1 1 false) (refuses 8 4) ∷  -- `-KAWABEA..`: 8
    asked text (45 ∷ 75 ∷ 65 ∷ 110 ∷ 48 ∷ 66 ∷ 65 ∷ 66 ∷ filler 152) (signatures (40 ∷ []) 1 1 false) (refuses 15 4) ∷  -- `-KAn0BABA..`: 15
    asked text (45 ∷ 75 ∷ 65 ∷ 88 ∷ 50 ∷ 66 ∷ 65 ∷ 65 ∷ 65 ∷ 66 ∷ 69 ∷ filler 85) (signatures (24 ∷ []) 1 1 false) (refuses 8 4) ∷  -- `-KAX2BAAABEA..`: 8, then 15
    asked text (45 ∷ 75 ∷ 65 ∷ 66 ∷ 65 ∷ 33 ∷ 65 ∷ 65 ∷ []) (state (replicate 63 2) 63 0 false) (yields 0 8 63 (Group 10) 1 (signatures (replicate 64 2) 64 1 false)) ∷  -- within 63 groups
    asked text (65 ∷ 66 ∷ filler 86) (signatures [] 0 0 false) (refuses 13 0) ∷  -- 13: the mark with none open
    asked text (65 ∷ 66 ∷ filler 86) (signatures [] 0 22 false) (refuses 13 0) ∷  -- 13, then the end
    asked text (65 ∷ 66 ∷ filler 86) (signatures [] 0 0 true) (refuses 13 0) ∷  -- both marks
    asked text (65 ∷ 66 ∷ filler 86) (signatures (22 ∷ []) 1 0 false) (yields 0 88 1 (Indexed (letter_indexed 0 0)) 1 (state [] 0 22 false)) ∷  -- with one open it is fit
    asked text (65 ∷ 66 ∷ filler 86) (signatures (22 ∷ 22 ∷ []) 2 0 false) (yields 0 88 2 (Indexed (letter_indexed 0 0)) 1 (state [] 0 22 false)) ∷
    asked text (77 ∷ 65 ∷ 65 ∷ 66 ∷ 65 ∷ 66 ∷ filler 86) (signatures (23 ∷ 23 ∷ []) 2 1 false) (yields 4 88 2 (Indexed (letter_indexed 0 0)) 1 (state [] 0 23 false)) ∷
    []

-- ---- what it means

abbrev expected : Expected → Walk → Stepped ℕ
expected (yields o n e k h next) w = record { next = next; found = F.Item o n e k h }
expected (refuses m p) w = record { next = w; found = F.Refused m p }
expected ends w = record { next = w; found = F.End }

-- what the definition gives; to compute it is to open all of it
unfoldable pub stepped : Domain → List ℕ → Walk → Stepped ℕ
unfolding given start all_below slot_fits is_fit closed moved_to opened past next_of stop_of judged framed_by frame_at step_fit step found_in step_in
stepped d xs w = step_in d xs w

-- each step is so
pub data Steps : List Asked → Type 0 where
  end : Steps []
  ◌&◌ : {a : Asked} {more : List Asked} → stepped a.form a.stream a.from ≡ expected a.gives a.from → Steps more
      → Steps (a ∷ more)

-- ---- the claim

pub steps-hold : Steps steps
unfolding stepped steps
steps-hold =
    refl & refl & refl & refl & refl & refl & refl & refl & refl & refl & refl & refl & refl & refl & refl & refl &
    refl & refl & refl & refl & refl & refl & refl & refl & refl & refl & refl & refl & refl & refl & refl & refl &
    refl & refl & refl & refl & refl & refl & refl & refl & refl & refl & refl & refl & refl & refl & refl & refl &
    refl & refl & refl & refl & refl & refl & refl & refl & refl & refl & refl & refl & refl & refl & refl & refl &
    refl & refl & refl & refl & refl & refl & end

-- 02 h: "`--AAABAA` with its 4,096 units still passes": it is opened, and marks. Its item is `4B__` and 4,095 units
pub large-opens : stepped text (45 ∷ 45 ∷ 65 ∷ 65 ∷ 65 ∷ 66 ∷ 65 ∷ 65 ∷ 52 ∷ 66 ∷ 95 ∷ 95 ∷ replicate 16380 65) start
    ≡ record { next = state (4098 ∷ []) 1 2 true; found = F.Item 0 16392 0 (Group 0) 2 }
unfolding stepped
large-opens = refl
