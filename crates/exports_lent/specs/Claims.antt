-- What is claimed of an instalment of a state that C lends, over the definitions that the calls' contracts cite. Statements only, each
-- below 02's words or the mission's. Proved in Proved. Assumes nothing.
use Rattle.std.specs.Prelude.{ℕ, ◌≡◌, List, ◌↔◌, length}
use Rattle.format.specs.Units.{Domain, text, binary}
use Rattle.walk_state.specs.declared.Walk.{Walk}
use Rattle.instalments.specs.declared.Pause.TheVariants as P
use Rattle.instalments.specs.Instalments.{walk_on}
use Rattle.instalments.specs.Numbers.{pause_number}
use Rattle.exports_values.specs.Lent.{state_size, walk_of}
use Rattle.exports_lent.specs.Answers.{state_behind}

pub record LentClaims (d : Domain) (xs : List ℕ) : Type 0 where
  -- 0 is answered exactly where the budget was taken whole, 255 exactly at the end: no refusal can be taken for either
  pub zero-spent : (n : ℕ) (w : Walk) → (pause_number (walk_on d xs n w).pause ≡ 0) ↔ ((walk_on d xs n w).pause ≡ P.Spent)
  pub end-told : (n : ℕ) (w : Walk) → (pause_number (walk_on d xs n w).pause ≡ 255) ↔ ((walk_on d xs n w).pause ≡ P.End)
  -- "A budget of 0 returns the state as given", and so does every call that takes no item, 1 and 13 among them
  pub kept : (n : ℕ) (s : List ℕ) → (walk_on d xs n (walk_of s)).items ≡ 0 → state_behind (walk_on d xs n (walk_of s)) s ≡ s
  -- "hand back the state": the next call goes on from the state that was handed back
  pub handed-back : (n : ℕ) (s : List ℕ) → length s ≡ state_size
      → walk_of (state_behind (walk_on d xs n (walk_of s)) s) ≡ (walk_on d xs n (walk_of s)).next

pub record LentInstalments : Type 0 where
  pub of-text : (xs : List ℕ) → LentClaims text xs
  pub of-binary : (xs : List ℕ) → LentClaims binary xs
