-- Two refusals that are the same answer have one number and one place. Assumes nothing.
use Rattle.std.specs.Prelude.{ℕ, ◌≡◌, Ok, Err, Result}
use Rattle.std.proofs.Common.{ap}
use Rattle.format.specs.declared.Refusal.{Refusal}
use Rattle.format.specs.Refusals.{refused_by, refusal_number}

place_or : {A P : Type 0} → P → Result A (Refusal P) → P
place_or p (Ok a) = p
place_or p (Err e) = e.place

pub same_refusal : {A P : Type 0} (m n : ℕ) (p q : P) → ◌≡◌ {A = Result A (Refusal P)} (refused_by m p) (refused_by n q) → (m ≡ n) × (p ≡ q)
unfolding place_or
same_refusal m n p q e = (ap refusal_number e, ap (place_or p) e)
