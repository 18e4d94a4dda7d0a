-- Orders of judging that no item can show. Assumes nothing.
use Rattle.std.specs.Prelude.{ℕ, ◌+◌, ◌*◌, ◌/◌, ◌<◌, ◌≤◌, ◌≡◌, refl, List, Bool, true, false, ◌⊎◌, eqb, ltb, length, get_or}
use Rattle.std.proofs.Common.{sym, inl, inr, ⊎_elim, arith, eq-eqb, lt-ltb}
use Rattle.std.proofs.Math.Nat.{zero-div}
use Rattle.std.proofs.Math.ListN.{get_or-eq_default}
use Rattle.base.specs.Pick.{pick, pick-by}
use Rattle.base.specs.Cases.{lt-or-ge}
use Rattle.base.specs.Digits.{Below}
use Rattle.format.specs.declared.CodeRow.{CodeRow}
use Rattle.format.specs.declared.Verdict.{Verdict}
use Rattle.format.specs.declared.Verdict.TheVariants.{Accepted, Refused}
use Rattle.format.specs.Registry.{zero_bits_of, prepad_of}
use Rattle.format.specs.Judging.{and_then, unless, has_lead, zero_bits, prepad_right}
use Rattle.roundtrip_laws.specs.Bytes.{below-any}
use Rattle.roundtrip_limits.specs.Claims.{Orders}

-- a check that passes may stand on either side
then-accepted : (v : Verdict) → and_then v Accepted ≡ v
unfolding and_then
then-accepted Accepted = refl
then-accepted (Refused n p) = refl

passes : (m : ℕ) (b : Bool) (v : Verdict) → b ≡ true → and_then (unless m b) v ≡ and_then v (unless m b)
unfolding and_then unless
passes m b v e = rw e (sym (then-accepted v))

zeros-or-prepad : (c : CodeRow) → (zero_bits_of c ≡ 0) ⊎ (prepad_of c ≡ 0)
zeros-or-prepad c = tests (eqb c.tag 0) _ _
  where
    tests : (b : Bool) (z p : ℕ) → (pick b z 0 ≡ 0) ⊎ (pick b 0 p ≡ 0)
    tests true z p = inr refl
    tests false z p = inl refl

-- no bits are zero
no-zeros : (s : List ℕ) (i : ℕ) → Below 64 s → zero_bits s i 0 ≡ true
unfolding zero_bits
no-zeros s i low =
    let a : get_or s i 0 < 64 = below-any 64 s (omega arith) low i in
    let b : get_or s (i + 1) 0 < 64 = below-any 64 s (omega arith) low (i + 1) in
    let c : get_or s (i + 2) 0 < 64 = below-any 64 s (omega arith) low (i + 2) in
    let e : ((get_or s i 0 * 64 + get_or s (i + 1) 0) * 64 + get_or s (i + 2) 0) / 262144 ≡ 0 = omega arith in
    eq-eqb (((get_or s i 0 * 64 + get_or s (i + 1) 0) * 64 + get_or s (i + 2) 0) / 262144) 0 e

-- nothing but zeros behind the end
behind-end : (s : List ℕ) (i z : ℕ) → length s ≤ i → zero_bits s i z ≡ true
unfolding zero_bits
behind-end s i z h =
    rw (
      get_or-eq_default s 0 {n = i} h,
      get_or-eq_default s 0 {n = i + 1} (omega arith),
      get_or-eq_default s 0 {n = i + 2} (omega arith),
      zero-div,
    )

eight-ten : (c : CodeRow) (i : ℕ) (s : List ℕ) → Below 64 s
    → and_then (unless 8 (zero_bits s i (zero_bits_of c))) (unless 10 (prepad_right s i (prepad_of c)))
    ≡ and_then (unless 10 (prepad_right s i (prepad_of c))) (unless 8 (zero_bits s i (zero_bits_of c)))
unfolding prepad_right
eight-ten c i s low =
    ⊎_elim (λ e. passes 8 _ _ (rw e (no-zeros s i low))) (λ e. sym (passes 10 _ _ (rw e))) (zeros-or-prepad c)

no_lead : (lead count : ℕ) → 0 < count → has_lead lead count ≡ true
unfolding has_lead
no_lead lead count h = pick-by (λ (b : Bool). b ≡ true) (ltb 0 lead) (ltb 0 count) true (λ _. lt-ltb 0 count h) (λ _. refl)

nine-eight : (h lead count : ℕ) (s : List ℕ) → length s ≡ 4 * (h + count)
    → and_then (unless 9 (has_lead lead count)) (unless 8 (zero_bits s (4 * h) (8 * lead)))
    ≡ and_then (unless 8 (zero_bits s (4 * h) (8 * lead))) (unless 9 (has_lead lead count))
nine-eight h lead count s e =
    ⊎_elim (λ some. passes 9 _ _ (no_lead lead count some))
    (λ none. sym (passes 8 _ _ (behind-end s (4 * h) (8 * lead) (omega arith)))) (lt-or-ge 0 count)

pub orders : Orders
orders = record { zeros-or-prepad = zeros-or-prepad; eight-ten = eight-ten; nine-eight = nine-eight }
