-- What the claims on a written group speak of. No proofs. Assumes nothing.
use Rattle.std.specs.Prelude.{ℕ, zero, suc, ◌+◌, ◌≤◌, List, [], ◌∷◌}
use Rattle.format.specs.Units.{Domain}
use Rattle.walk_state.specs.declared.Walk.{Walk}
use Rattle.walk_state.specs.declared.Found.{Found}
use Rattle.walk_state.specs.declared.Found.TheVariants as F
use Rattle.walk_state.specs.Walking.{step_in}

-- an item in front of those behind it; a refusal or the end, and there are none
unfoldable pub ahead : Found ℕ → List (Found ℕ) → List (Found ℕ)
ahead (F.Item o n d k h) fs = F.Item o n d k h ∷ fs
ahead (F.Refused m p) fs = []
ahead F.End fs = []

-- the items that the first k steps of a walk yield
unfoldable pub yielded : Domain → List ℕ → ℕ → Walk → List (Found ℕ)
yielded d xs zero w = []
yielded d xs (suc k) w = ahead (step_in d xs w).found (yielded d xs k (step_in d xs w).next)

-- "their offsets counted on": by o elements
unfoldable pub found_on : ℕ → Found ℕ → Found ℕ
found_on o (F.Item a n d k h) = F.Item (o + a) n d k h
found_on o (F.Refused m q) = F.Refused m (o + q)
found_on o F.End = F.End

-- items that all stand within a group
abbrev pub Inner : List (Found ℕ) → Type 0
Inner [] = Unit {0}
Inner (F.Item o n d k h ∷ fs) = (1 ≤ d) × Inner fs
Inner (F.Refused m p ∷ fs) = ⊥
Inner (F.End ∷ fs) = ⊥
