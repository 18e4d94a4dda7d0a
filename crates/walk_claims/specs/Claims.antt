-- What is claimed of the walk, over its definition in walk's Walking. Statements only, a field a sentence, each below 01's own
-- words in quotes, or what is asked of the walk where they say so. What the words mean is in Words. Proved in Proved.
-- Assumes nothing.
use Rattle.std.specs.Prelude.{ℕ, ◌+◌, ◌*◌, ◌≤◌, ◌<◌, ◌≡◌, List, [], ◌∷◌, map, true, false, length, take}
use Rattle.format.specs.declared.Kind.{Kind}
use Rattle.format.specs.declared.Framed.TheVariants.{Item}
use Rattle.format.specs.declared.Verdict.TheVariants.{Refused}
use Rattle.format.specs.Units.{Domain, text, binary}
use Rattle.format.specs.Conversion.{to_binary, to_text}
use Rattle.format.specs.Judging.{max_depth}
use Rattle.format.specs.Report.{rows_in, refusals_in, remainder_in, frame_in, judge_in}
use Rattle.claims.specs.Words.{WholeText, WholeBinary}
use Rattle.claims_rules.specs.Order.{None, Among, Refusal}
use Rattle.walk_state.specs.declared.Walk.{Walk}
use Rattle.walk_state.specs.declared.Found.TheVariants as F
use Rattle.walk_state.specs.Walking.{is_fit, step_in}
use Rattle.walk_claims.specs.Words.{Fit, step_rules, units_in, after, found_at, Yields, Stops, Behind, outer_items, span_of, up_to_refusal}
use Rattle.walk_claims.specs.Words.{open_groups, innermost_indexed, found_of, first_refusal, Last, SameStep}

-- ---- of the test on a state

pub record ThirteenClaims : Type 0 where
  -- "13 is given exactly when: more than 16 open" (64 by 02 g: "the conditions of 13 follow the new size"), "an unused slot not 0, the
  -- position not before the innermost end, or past the stream, an inner end past its outer, the outermost past the stream, or the
  -- first-item mark set with none open", and 02 a: the mark of indexed items "with none open is 13": the test of a stream of n units passes
  -- exactly where none of these holds
  pub only-fit : (w : Walk) (n : ℕ) → is_fit w n ≡ true → Fit w n
  pub every-fit : (w : Walk) (n : ℕ) → Fit w n → is_fit w n ≡ true

-- ---- of a stream, text or binary

pub record StreamClaims (d : Domain) (xs : List ℕ) : Type 0 where
  -- demand 1: "Every public entry refuses bad input by number": neither 0, which is how a call for C says accepted, nor 255, by which it
  -- tells the end; 01's numbers for a step, in 01's order; and the state is left
  pub refuses : (w : Walk) (m p : ℕ) → (step_in d xs w).found ≡ F.Refused m p
      → Refusal (1 ∷ 13 ∷ 4 ∷ 5 ∷ 19 ∷ 6 ∷ 7 ∷ 11 ∷ 18 ∷ 9 ∷ 8 ∷ 16 ∷ 15 ∷ 10 ∷ []) (step_rules d xs w) m × (m < 255) × ((step_in d xs w).next ≡ w)
  -- an item is yielded only where none of them is to be given
  pub accepts : (w : Walk) (o n e h : ℕ) (k : Kind) → (step_in d xs w).found ≡ F.Item o n e k h → None (step_rules d xs w)
  -- and the end is told only of a fit state behind the last byte of a stream within the limit
  pub finishes : (w : Walk) → (step_in d xs w).found ≡ F.End
      → (length xs ≤ d.limit) × Fit w (units_in d xs) × (w.depth ≡ 0) × (w.at * d.unit ≡ length xs)
  -- "stream longer than 4,194,304 characters or 3,145,728 bytes", "1 comes before 13"
  pub one : (w : Walk) → d.limit < length xs → step_in d xs w ≡ record { next = w; found = F.Refused 1 0 }
  pub only_one : (w : Walk) (p : ℕ) → (step_in d xs w).found ≡ F.Refused 1 p → d.limit < length xs
  -- "walk state unfit for the stream"
  pub thirteen : (w : Walk) → length xs ≤ d.limit → is_fit w (units_in d xs) ≡ false
      → step_in d xs w ≡ record { next = w; found = F.Refused 13 0 }
  pub only-thirteen : (w : Walk) (p : ℕ) → (step_in d xs w).found ≡ F.Refused 13 p
      → (length xs ≤ d.limit) × (is_fit w (units_in d xs) ≡ false)
  -- "From the start state, every state that steps give is fit (no 13 on the way)"
  pub fit-on-the-way : (k : ℕ) → is_fit (after d xs k) (units_in d xs) ≡ true
  -- and so is every state that a step gives from a fit one, whoever made it
  pub keeps-fit : (w : Walk) → length w.ends ≡ max_depth → is_fit w (units_in d xs) ≡ true
      → (is_fit (step_in d xs w).next (units_in d xs) ≡ true) × (length (step_in d xs w).next.ends ≡ max_depth)
  -- "At a refusal or the end the state stays as it was."
  pub stays : (w : Walk) → Stops (step_in d xs w).found → (step_in d xs w).next ≡ w
  -- "each with offset, size, depth (the number of groups it stands within)": the item stands at the position, and the next
  -- position and mark are those behind it
  pub yields : (w : Walk) (o n e h : ℕ) (k : Kind) → (step_in d xs w).found ≡ F.Item o n e k h → Behind d w o n e k h (step_in d xs w).next
  -- 02 a: "its state says whether the innermost open group is one": all along the walk, of the groups that were yielded and are still open
  pub innermost : (k : ℕ) → (length (open_groups d xs k) ≡ (after d xs k).depth)
      × ((after d xs k).indexed ≡ innermost_indexed (open_groups d xs k))
  -- "the position never falls", and an item moves it on by a unit at least
  pub never_back : (w : Walk) → w.at ≤ (step_in d xs w).next.at
  pub moves-on : (w : Walk) → Yields (step_in d xs w).found → w.at < (step_in d xs w).next.at
  -- "and the walk ends: a number of steps bounded by the stream's units": after as many steps as it has whole units,
  -- or more, there is no item left
  pub ends : (k : ℕ) → units_in d xs ≤ k → Stops (found_at d xs k)
  -- and it stays ended
  pub ended : (k : ℕ) → Stops (found_at d xs k) → (j : ℕ) → after d xs (k + j) ≡ after d xs k
  -- "the items yielded at depth 0 up to the first refusal are the report's items": those up to the first refused
  -- one, which is yielded itself if it is a group that is opened: its own check (11, and 18 by 02 h) passes
  pub outer : length xs ≤ d.limit → (k : ℕ) → Stops (found_at d xs k) → outer_items d xs k ≡ up_to_refusal d xs (rows_in d xs)
  -- they are the first of the report's, in order, and all of them where none is refused
  pub outer-front : up_to_refusal d xs (rows_in d xs) ≡ take (length (up_to_refusal d xs (rows_in d xs))) (map span_of (rows_in d xs))
  pub outer-all : refusals_in d xs ≡ [] → up_to_refusal d xs (rows_in d xs) ≡ map span_of (rows_in d xs)
  -- "or the first refusal, or the end": where the walk stops it has the number and place of the first refusal of the stream's
  -- items one by one, or of what cannot be framed behind them
  pub first : length xs ≤ d.limit → (k : ℕ) → Stops (found_at d xs k) → found_at d xs k ≡ found_of (first_refusal d xs)
  -- in the report's rows: the first refused item's number and place, else the remainder's number, else it ends
  pub last : length xs ≤ d.limit → (k : ℕ) → Stops (found_at d xs k) → Last (rows_in d xs) (remainder_in d xs) (found_at d xs k)
  -- "running the walk over a framed item's own bytes ends without refusal exactly when judging accepts it, and else
  -- gives judging's number and place"
  pub item : (k : Kind) (h : ℕ) → length xs ≤ d.limit → frame_in d xs ≡ Item k h (length xs) → (j : ℕ) → Stops (found_at d xs j)
      → found_at d xs j ≡ found_of (judge_in d xs)
  -- so an item's verdict, which it has by itself (demand 3), is 0 or one of a step's numbers but 1 and 13
  pub verdicts : (k : Kind) (h m p : ℕ) → length xs ≤ d.limit → frame_in d xs ≡ Item k h (length xs) → judge_in d xs ≡ Refused m p
      → Among (4 ∷ 5 ∷ 19 ∷ 6 ∷ 7 ∷ 11 ∷ 18 ∷ 9 ∷ 8 ∷ 16 ∷ 15 ∷ 10 ∷ []) m

-- ---- of text and binary together

pub record FormClaims : Type 0 where
  -- "The same stream in text and binary yields the same items step by step in the ratio four to three (demand 2's
  -- premise)": from every state, and so all along the walk from the start
  pub text-step : (t : List ℕ) → WholeText t → (w : Walk) → SameStep (step_in text t w) (step_in binary (to_binary t) w)
  pub binary-step : (b : List ℕ) → WholeBinary b → (w : Walk) → SameStep (step_in text (to_text b) w) (step_in binary b w)
  pub text-walk : (t : List ℕ) → WholeText t → (k : ℕ) → after text t k ≡ after binary (to_binary t) k
  pub binary-walk : (b : List ℕ) → WholeBinary b → (k : ℕ) → after text (to_text b) k ≡ after binary b k

-- ---- all of it

pub record WalkClaims : Type 0 where
  pub tests : ThirteenClaims
  pub of-text : (xs : List ℕ) → StreamClaims text xs
  pub of-binary : (xs : List ℕ) → StreamClaims binary xs
  pub of-both : FormClaims
