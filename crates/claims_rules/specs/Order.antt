-- A refusal's number by conditions in order: 01 lists a call's numbers in the order in which they are asked. No proofs. Assumes nothing.
use Rattle.std.specs.Prelude.{ℕ, ◌<◌, ◌≡◌, List, [], ◌∷◌, ◌⊎◌}

infix 70 ◌when◌
-- a number, and what it is given for
pub record Rule : Type 1 where
  pub number : ℕ
  pub given : Type 0

abbrev pub ◌when◌ : ℕ → Type 0 → Rule
n when given = record { number = n; given = given }

-- the number of the first condition that holds: no earlier one does
abbrev pub First : List Rule → ℕ → Type 0
First [] n = ⊥
First (r ∷ rs) n = (r.given × (n ≡ r.number)) ⊎ ((r.given → ⊥) × First rs n)

-- no condition holds
abbrev pub None : List Rule → Type 0
None [] = Unit {0}
None (r ∷ rs) = (r.given → ⊥) × None rs

-- one of these numbers
abbrev pub Among : List ℕ → ℕ → Type 0
Among [] n = ⊥
Among (m ∷ ms) n = (n ≡ m) ⊎ Among ms n

-- a refusal of a call that 01 gives these numbers, for these conditions in this order
pub record Refusal (numbers : List ℕ) (rules : List Rule) (n : ℕ) : Type 0 where
  -- 0 is how a call for C says accepted
  pub not-accepted : 0 < n
  pub listed : Among numbers n
  pub in_order : First rules n
