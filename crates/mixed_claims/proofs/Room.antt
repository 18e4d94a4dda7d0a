-- The report's length, that the room the call asks for is enough, and what the call refuses. Assumes nothing.
use Rattle.std.specs.Prelude.{ℕ, ◌+◌, ◌*◌, ◌≡◌, refl, List, [], ◌∷◌, length}
use Rattle.std.proofs.Common.{ap, subst, inl, arith, length-append}
use Rattle.format.specs.Report.{ItemRow, RemainderRow, be4, row_bytes, refusal_bytes, remainder_bytes, section}
use Rattle.filling.specs.Stores.{concat-long, refusal-long}
use Rattle.claims_rules.specs.Order.{None, Refusal}
use Rattle.claims_rules.proofs.Rules.{Told, By, ask-lt, by-none, by_first, refusal}
use Rattle.claims_rules.proofs.Rules.Told.{accepted, told}
use Rattle.claims_rules.proofs.Rules.By.{none}
use Rattle.claims_rules.proofs.Rules.Allowed.{end, ◌&◌}
use Rattle.mixed.specs.Mixed.{rows_mixed, refusals_mixed, remainder_mixed, mixed_row_bytes, mixed_report, mixed_limit, mixed_answer}
use Rattle.mixed_claims.specs.Words.{mixed_rules}
use Rattle.std.specs.Prelude.{Ok, Err, Result}
use Rattle.format.specs.declared.Refusal.{Refusal as CallRefusal}
use Rattle.format.specs.Refusals.{refused_by}

section-long : {A : Type 0} (f : A → List ℕ) (n : ℕ) → ((a : A) → length (f a) ≡ n) → (l : List A) → length (section f l) ≡ 4 + n * length l
unfolding section be4
section-long f n h l = rw (concat-long f n h l) (omega arith)

row-ten : (xs : List ℕ) (r : ItemRow) → length (mixed_row_bytes xs r) ≡ 10
unfolding mixed_row_bytes row_bytes be4
row-ten xs r = refl

remainder-five : (r : RemainderRow) → length (remainder_bytes r) ≡ 5
unfolding remainder_bytes be4
remainder-five r = refl

pub report-long : (xs : List ℕ)
    → length (mixed_report xs) ≡ 12 + 10 * length (rows_mixed xs) + 9 * length (refusals_mixed xs) + 5 * length (remainder_mixed xs)
unfolding mixed_report
report-long xs =
    rw (
      length-append (section (mixed_row_bytes xs) (rows_mixed xs)),
      length-append (section refusal_bytes (refusals_mixed xs)),
      section-long (mixed_row_bytes xs) 10 (row-ten xs) (rows_mixed xs),
      section-long refusal_bytes 9 refusal-long (refusals_mixed xs),
      section-long remainder_bytes 5 remainder-five (remainder_mixed xs),
    )
    (omega arith)

-- ---- the call

told_report : Result ℕ (CallRefusal ℕ) → Told
told_report (Ok n) = accepted
told_report (Err r) = told r.number

in_order : (xs : List ℕ) (room : ℕ) → By (mixed_rules xs room) (told_report (mixed_answer xs room))
unfolding mixed_answer told_report
in_order xs room =
    ask-lt told_report mixed_limit (length xs) 1 _ _ _ refl
    (ask-lt told_report room (17 + 19 * length (rows_mixed xs)) 3 _ _ _ refl (none tt))

pub call-refuses : (xs : List ℕ) (room m p : ℕ) → mixed_answer xs room ≡ refused_by m p → Refusal (1 ∷ 3 ∷ []) (mixed_rules xs room) m
unfolding told_report
call-refuses xs room m p e =
    refusal _ _ m (λ z. z) (inl tt & inl tt & end) (by_first _ m (subst (By _) (ap told_report e) (in_order xs room)))

pub call-accepts : (xs : List ℕ) (room n : ℕ) → mixed_answer xs room ≡ Ok n → None (mixed_rules xs room)
unfolding told_report
call-accepts xs room n e = by-none _ (subst (By _) (ap told_report e) (in_order xs room))
