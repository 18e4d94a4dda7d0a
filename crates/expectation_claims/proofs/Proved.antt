-- The claims on a comparison and on a pass hold. Assumes nothing.
use Rattle.std.specs.Prelude.{ℕ, suc, ◌+◌, ◌≤◌, ◌<◌, ◌≡◌, refl, List, [], ◌∷◌, ◌++◌, Bool, true, false, ◌↔◌, ltb, eqb, length, get_or}
use Rattle.std.proofs.Common.{ap, ◌∙◌, arith, ltb-true, eqb-true, eq-eqb}
use Rattle.base.specs.Pick.{pick}
use Rattle.format.specs.Units.{Domain, text, binary}
use Rattle.laws.specs.Domains.{Reader, text-reader, binary-reader}
use Rattle.claims.specs.Claims.{Demand3}
use Rattle.claims.proofs.Demand3.{text-demand3, binary-demand3}
use Rattle.expectation.specs.Expectation.{Verdicts, malformed, verdicts, expected, reported}
use Rattle.comparison.specs.Comparing.{passed, agree, compared_by, compared}
use Rattle.comparison.specs.Words.{passes}
use Rattle.comparison.proofs.Counting.{passes-are, fails-are, misses-are, sum, items}
use Rattle.expectation_claims.specs.Words.{file_of, SameCounts}
use Rattle.expectation_claims.proofs.Answers.{sums}
use Rattle.expectation_claims.proofs.Malformed.{twenty, only-twenty, wider, report-told, told-bad, bad-told}
use Rattle.expectation_claims.proofs.Own.{sees-by, reads, file-one-off, compares-by, own-by, one-off-by}
use Rattle.expectation_claims.proofs.Passed.{bad-report, read-report, nothing-refused, no_row, passes-only, passes-if, own-number}
use Rattle.expectation_claims.specs.Claims.{OwnClaims, OwnPass, ExpectationClaims}

-- ---- verdicts

none_passed : (es : List ℕ) → passed es [] ≡ 0
unfolding passed
none_passed [] = refl
none_passed (e ∷ es) = refl

not_there : (es vs more : List ℕ) → length es ≡ length vs → passed (es ++ more) vs ≡ passed es vs
unfolding passed
not_there [] [] more l = none_passed more
not_there [] (v ∷ vs) more l = absurd (omega arith)
not_there (e ∷ es) [] more l = absurd (omega arith)
not_there (e ∷ es) (v ∷ vs) more l = ap (λ (k : ℕ). pick (eqb e v) 1 0 + k) (not_there es vs more (omega arith))

by_number : (es vs : List ℕ) (i n : ℕ) → get_or vs i 0 ≡ suc n → passes es vs i ≡ true → (i < length vs) × (get_or es i 0 ≡ suc n)
by_number es vs i n v p = go (ltb i (length vs)) refl p
  where
    go : (b : Bool) → ltb i (length vs) ≡ b → pick b (eqb (get_or es i 0) (get_or vs i 0)) false ≡ true → (i < length vs) × (get_or es i 0 ≡ suc n)
    go true l q = (ltb-true i (length vs) l, eqb-true (get_or es i 0) (get_or vs i 0) q ∙ v)
    go false l q = let z : ◌≡◌ {A = ℕ} 0 1 = cc in absurd (omega arith)

-- ---- remainders

agree-by : (left over : List ℕ) → length left ≤ 1 → length over ≤ 1 → (agree left over ≡ true) ↔ (left ≡ over)
unfolding agree
agree-by [] [] l m = (λ _. refl, λ _. refl)
agree-by [] (n ∷ ns) l m = (λ e. let z : ◌≡◌ {A = ℕ} 0 1 = cc in absurd (omega arith), λ e. let z : ◌≡◌ {A = ℕ} 0 1 = cc in absurd (omega arith))
agree-by (m ∷ ms) [] l h = (λ e. let z : ◌≡◌ {A = ℕ} 0 1 = cc in absurd (omega arith), λ e. let z : ◌≡◌ {A = ℕ} 0 1 = cc in absurd (omega arith))
agree-by (m ∷ []) (n ∷ []) l h = (λ e. ap (λ (k : ℕ). k ∷ []) (eqb-true m n e), λ e. eq-eqb m n (cc))
agree-by (m ∷ []) (n ∷ k ∷ ns) l h = absurd (omega arith)
agree-by (m ∷ k ∷ ms) (n ∷ ns) l h = absurd (omega arith)

same-expected : (es left left' : List ℕ) (r : Verdicts) → SameCounts (compared_by (verdicts es left) r) (compared_by (verdicts es left') r)
unfolding compared_by
same-expected es left left' malformed = record { number = refl; passed = refl; failed = refl; unreached = refl; beyond = refl }
same-expected es left left' (verdicts vs over) = record { number = refl; passed = refl; failed = refl; unreached = refl; beyond = refl }

same-reported : (a : Verdicts) (vs over over' : List ℕ) → SameCounts (compared_by a (verdicts vs over)) (compared_by a (verdicts vs over'))
unfolding compared_by
same-reported malformed vs over over' = record { number = refl; passed = refl; failed = refl; unreached = refl; beyond = refl }
same-reported (verdicts es left) vs over over' = record { number = refl; passed = refl; failed = refl; unreached = refl; beyond = refl }

expected-apart : (es left left' rep : List ℕ) → length es < 4294967296 → length left ≤ 1 → length left' ≤ 1
    → SameCounts (compared (file_of es left) rep) (compared (file_of es left') rep)
unfolding compared
expected-apart es left left' rep few l m = rw (reads es left few l, reads es left' few m) (same-expected es left left' (reported rep))

reported-apart : (file vs over over' rep rep' : List ℕ) → reported rep ≡ verdicts vs over → reported rep' ≡ verdicts vs over'
    → SameCounts (compared file rep) (compared file rep')
unfolding compared
reported-apart file vs over over' rep rep' e f = rw (e, f) (same-reported (expected file) vs over over')

-- ---- all of it

own : (d : Domain) → Reader d → Demand3 d → d.limit ≤ 4194304 → OwnClaims d
own d R D few = record {
  sees = sees-by d R D few;
  compares = compares-by d R D few;
  own = own-by d R D few;
  one-off = one-off-by d R D few;
}

own-pass : (d : Domain) → Reader d → Demand3 d → d.limit ≤ 4194304 → OwnPass d
own-pass d R D few = record {
  exactly = λ xs l. (passes-only d R D few xs l, λ h. passes-if d R D few xs l h.0 h.1);
  well-made = own-number d R D few;
}

pub proved : ExpectationClaims
proved = record {
  counts = record {
    passes-are = passes-are;
    fails-are = fails-are;
    misses-are = λ es vs. misses-are vs (length es);
    sum = sum;
    items = items;
    not_there = not_there;
    nothing-there = none_passed;
    by_number = by_number;
  };
  answers = record { sum = λ file rep e. (sums file rep e).0; items = λ file rep e. (sums file rep e).1 };
  remainders = record { agree-exactly = agree-by; expected-apart = expected-apart; reported-apart = reported-apart };
  malformed-files = record { twenty = twenty; only-twenty = only-twenty; wider = wider };
  files = record { reads = reads; one-off = file-one-off };
  of-text = own text text-reader text-demand3 (omega arith);
  of-binary = own binary binary-reader binary-demand3 (omega arith);
  passes = record {
    twenty = λ rep b. bad-report rep (told-bad (report-told rep) b);
    only-twenty = λ rep n e. bad-told (report-told rep) (read-report rep n e);
    nothing-refused = nothing-refused;
    no_row = no_row;
  };
  text-passes = own-pass text text-reader text-demand3 (omega arith);
  binary-passes = own-pass binary binary-reader binary-demand3 (omega arith);
}
