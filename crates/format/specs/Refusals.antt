-- A refusal in a call's answer. Assumes nothing.
use Rattle.std.specs.Prelude.{ℕ, Ok, Err, Result}
use Rattle.format.specs.declared.Refusal.{Refusal}

-- a number and a place
abbrev pub refused_by : {A P : Type 0} → ℕ → P → Result A (Refusal P)
refused_by n p = Err (record { number = n; place = p })

-- the number and the place that an answer tells, 0 without a refusal
abbrev pub refusal_number : {A P : Type 0} → Result A (Refusal P) → ℕ
refusal_number (Ok a) = 0
refusal_number (Err e) = e.number

abbrev pub refusal_place : {A : Type 0} → Result A (Refusal ℕ) → ℕ
refusal_place (Ok a) = 0
refusal_place (Err e) = e.place
