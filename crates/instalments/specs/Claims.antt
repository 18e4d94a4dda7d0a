-- What 02 i asks of the walk in instalments, over its definition in Instalments. Statements only, a field a sentence below 02's words, of
-- every state, whoever made it; a premise on the slots holds of every state of the code. Proved in Proved. Assumes nothing.
use Rattle.std.specs.Prelude.{ℕ, suc, ◌+◌, ◌≤◌, ◌<◌, ◌≡◌, List, false, ◌⊎◌, length}
use Rattle.format.specs.Units.{Domain, text, binary}
use Rattle.format.specs.Conversion.{to_binary, to_text}
use Rattle.format.specs.Judging.{max_depth}
use Rattle.claims.specs.Words.{WholeText, WholeBinary}
use Rattle.walk_state.specs.declared.Walk.{Walk}
use Rattle.walk_state.specs.declared.Found.TheVariants as F
use Rattle.walk_state.specs.Walking.{is_fit, step_in}
use Rattle.walk_claims.specs.Words.{units_in, after, Yields}
use Rattle.instalments.specs.declared.Pause.{Pause}
use Rattle.instalments.specs.declared.Pause.TheVariants as P
use Rattle.instalments.specs.declared.Walked.{Walked}
use Rattle.instalments.specs.Instalments.{halted, walk_on}

-- v lies n steps of the single-step walk behind w, each of which yielded an item
pub data Between (d : Domain) (xs : List ℕ) : Walk → ℕ → Walk → Type 0 where
  here : {w : Walk} → Between d xs w 0 w
  on : {w v : Walk} {n : ℕ} → Yields (step_in d xs w).found → Between d xs (step_in d xs w).next n v → Between d xs w (suc n) v

-- what a pause says of where the walk stands: the budget is used up, or the step there finds the end or the refusal
abbrev pub Told : Domain → List ℕ → ℕ → ℕ → Walk → Pause ℕ → Type 0
Told d xs budget items next P.Spent = items ≡ budget
Told d xs budget items next P.End = (items < budget) × ((step_in d xs next).found ≡ F.End)
Told d xs budget items next (P.Refused m p) = (step_in d xs next).found ≡ F.Refused m p

-- two in turn and one: the same last state, and the same items in all
pub record Alike (a b c : Walked ℕ) : Type 0 where
  pub next : b.next ≡ c.next
  pub items : a.items + b.items ≡ c.items

pub record InstalmentClaims (d : Domain) (xs : List ℕ) : Type 0 where
  -- "Walk on by at most a stated number of items"
  pub at_most : (n : ℕ) (w : Walk) → (walk_on d xs n w).items ≤ n
  -- "and hand back the state and the number of items taken, which equals the number of steps of the single-step walk between the two
  -- states"
  pub steps : (n : ℕ) (w : Walk) → Between d xs w (walk_on d xs n w).items (walk_on d xs n w).next
  -- and no other number of steps lies between two states
  pub only : (w v : Walk) (n m : ℕ) → Between d xs w n v → Between d xs w m v → n ≡ m
  -- "It is the budget exactly, .."
  pub exactly : (n : ℕ) (w v : Walk) → Between d xs w n v → ((walk_on d xs n w).next ≡ v) × ((walk_on d xs n w).items ≡ n)
  -- ".. unless the end .. comes first"
  pub ends : (n k : ℕ) (w v : Walk) → Between d xs w k v → k < n → (step_in d xs v).found ≡ F.End
      → walk_on d xs n w ≡ record { next = v; items = k; pause = P.End }
  -- ".. or a refusal", "a refusal found on the way is returned with the items before it counted"
  pub refuses : (n k : ℕ) (w v : Walk) (m p : ℕ) → Between d xs w k v → k < n → (step_in d xs v).found ≡ F.Refused m p
      → walk_on d xs n w ≡ record { next = v; items = k; pause = P.Refused m p }
  -- and what is told is so
  pub told : (n : ℕ) (w : Walk) → Told d xs n (walk_on d xs n w).items (walk_on d xs n w).next (walk_on d xs n w).pause
  -- a refusal comes before the budget is used up, or else it is 1 or 13 to a budget of 0
  pub before : (n : ℕ) (w : Walk) (m p : ℕ) → length w.ends ≡ max_depth → (walk_on d xs n w).pause ≡ P.Refused m p
      → ((walk_on d xs n w).items < n) ⊎ ((n ≡ 0) × ((m ≡ 1) ⊎ (m ≡ 13)))
  -- "A budget of 0 returns the state as given."
  pub zero-budget : (w : Walk) → ((walk_on d xs 0 w).next ≡ w) × ((walk_on d xs 0 w).items ≡ 0)
  -- "Two calls in turn with budgets m and n end where one with m + n does, with the same items counted in all": m + n fits here; the code
  -- has it for every m + n that is a budget
  pub in-turn : (m n : ℕ) (w : Walk) → let a = walk_on d xs m w in Alike a (walk_on d xs n a.next) (walk_on d xs (m + n) w)
  -- and are over for the same reason, unless there is nothing to spend in the second
  pub pauses : (m n : ℕ) (w : Walk) → 0 < n → (walk_on d xs n (walk_on d xs m w).next).pause ≡ (walk_on d xs (m + n) w).pause
  -- "1 and 13 come as in 01, for a budget of 0 too": 1 before 13, no item, the state as given
  pub one : (n : ℕ) (w : Walk) → d.limit < length xs → walk_on d xs n w ≡ halted w (P.Refused 1 0)
  pub thirteen : (n : ℕ) (w : Walk) → length xs ≤ d.limit → is_fit w (units_in d xs) ≡ false
      → walk_on d xs n w ≡ halted w (P.Refused 13 0)
  -- and never else, so not on the way
  pub only_one : (n : ℕ) (w : Walk) (p : ℕ) → (walk_on d xs n w).pause ≡ P.Refused 1 p → d.limit < length xs
  pub only-thirteen : (n : ℕ) (w : Walk) (p : ℕ) → length w.ends ≡ max_depth → (walk_on d xs n w).pause ≡ P.Refused 13 p
      → is_fit w (units_in d xs) ≡ false
  -- from a stream's start, instalments of any size pass through the states of the walk
  pub on-the-way : (k n : ℕ) → (walk_on d xs n (after d xs k)).next ≡ after d xs (k + n)

-- an instalment of a text and of a binary: the same next state after the same number of items
pub record SameInstalment (t b : Walked ℕ) : Type 0 where
  pub next : t.next ≡ b.next
  pub items : t.items ≡ b.items

pub record Instalments : Type 0 where
  pub of-text : (xs : List ℕ) → InstalmentClaims text xs
  pub of-binary : (xs : List ℕ) → InstalmentClaims binary xs
  -- "The same stream in text and binary yields the same items step by step" (demand 2's premise), and so instalment by instalment
  pub text_same : (t : List ℕ) → WholeText t → (n : ℕ) (w : Walk) → SameInstalment (walk_on text t n w) (walk_on binary (to_binary t) n w)
  pub binary-same : (b : List ℕ) → WholeBinary b → (n : ℕ) (w : Walk) → SameInstalment (walk_on text (to_text b) n w) (walk_on binary b n w)
