-- What a comparison sees of the judge's own report, and a stream's own expectation against it. Assumes nothing.
use Rattle.std.specs.Prelude.{ℕ, zero, suc, ◌+◌, ◌-◌, ◌*◌, ◌≤◌, ◌<◌, ◌≡◌, refl, List, [], ◌∷◌, ◌++◌, Bool, true, length, get_or}
use Rattle.std.proofs.Common.{sym, ap, ◌∙◌, subst, append-nil, arith, length-drop, le-ltb, eq-eqb, ne_eqb}
use Rattle.std.proofs.lemmas.List.{length-map}
use Rattle.format.specs.Units.{Domain}
use Rattle.format.specs.Report.{ItemRow, RefusalRow, RemainderRow, rows, rows_in, refusals_in, remainder_in, verdict_byte}
use Rattle.format.specs.Report.{be4, row_bytes, refusal_bytes, remainder_bytes, concat, section, report}
use Rattle.laws.specs.Domains.{Reader}
use Rattle.laws.specs.Frames.{frames}
use Rattle.laws.specs.Items.{rows_at, by-items, rows-nil, rows-refused, rows-item}
use Rattle.claims.specs.Claims.{Demand3}
use Rattle.expectation.specs.Expectation as E
use Rattle.expectation.specs.Expectation.{section_of, verdicts, ending, expected_by, expected, behind_items, reported_by, reported}
use Rattle.comparison.specs.Comparing.{passed, failed, agree, counted, compared_by, compared}
use Rattle.comparison.proofs.Counting.{sum}
use Rattle.expectation_claims.specs.Words.{file_of, verdicts_in, left_in, own_file, OneOff, OneFailed}
use Rattle.expectation_claims.proofs.Sections.{reads_section, reads-column, concat-size, column-self}

-- ---- reports

row-nine : (r : ItemRow) → length (row_bytes r) ≡ 9
unfolding row_bytes be4
row-nine r = refl

row-verdict : (r : ItemRow) → get_or (row_bytes r) 8 0 ≡ verdict_byte r.verdict
unfolding row_bytes be4
row-verdict r = refl

refusal-nine : (r : RefusalRow) → length (refusal_bytes r) ≡ 9
unfolding refusal_bytes be4
refusal-nine r = refl

refusal-number : (r : RefusalRow) → get_or (refusal_bytes r) 4 0 ≡ r.number
unfolding refusal_bytes be4
refusal-number r = refl

left-five : (r : RemainderRow) → length (remainder_bytes r) ≡ 5
unfolding remainder_bytes be4
left-five r = refl

left-number : (r : RemainderRow) → get_or (remainder_bytes r) 4 0 ≡ r.number
unfolding remainder_bytes be4
left-number r = refl

-- no more items than elements
pub few-rows : (d : Domain) → Reader d → (xs : List ℕ) → length (rows_in d xs) ≤ length xs
unfolding rows
few-rows d R xs =
    by-items d R (λ ys. (o : ℕ) → length (rows_at d o ys) ≤ length ys) (λ o. rw (rows-nil d R o) (omega arith))
    (λ ys n p f pos o. rw (rows-refused d R o ys pos f) (omega arith))
    (λ ys k h n f ih o.
    let w = (frames d R).within ys k h n f in
    rw (rows-item d R o ys f) (omega (arith, ih (o + n), length-drop n ys)))
    xs 0

pub sees-by : (d : Domain) → Reader d → Demand3 d → d.limit ≤ 4194304 → (xs : List ℕ) → length xs ≤ d.limit
    → reported (report d xs) ≡ verdicts (verdicts_in d xs) (left_in d xs)
unfolding reported report section reported_by behind_items ending
sees-by d R D few xs short =
    let rs : List ItemRow = rows_in d xs in
    let fs : List RefusalRow = refusals_in d xs in
    let ts : List RemainderRow = remainder_in d xs in
    let n : length rs ≤ length xs = few-rows d R xs in
    let m = D.counts xs in
    let one = D.apart xs in
    let a : section_of 9 ((be4 (length rs) ++ concat row_bytes rs)
    ++ ((be4 (length fs) ++ concat refusal_bytes fs) ++ (be4 (length ts) ++ concat remainder_bytes ts)))
    ≡ E.rows (length rs) (concat row_bytes rs) ((be4 (length fs) ++ concat refusal_bytes fs) ++ (be4 (length ts) ++ concat remainder_bytes ts)) =
    reads_section 9 (length rs) (concat row_bytes rs) _ (omega arith)
    (concat-size row_bytes (λ r. verdict_byte r.verdict) 9 8 row-nine (omega arith) row-verdict rs) in
    let b : section_of 9 ((be4 (length fs) ++ concat refusal_bytes fs) ++ (be4 (length ts) ++ concat remainder_bytes ts))
    ≡ E.rows (length fs) (concat refusal_bytes fs) (be4 (length ts) ++ concat remainder_bytes ts) =
    reads_section 9 (length fs) (concat refusal_bytes fs) _ (omega arith)
    (concat-size refusal_bytes (λ r. r.number) 9 4 refusal-nine (omega arith) refusal-number fs) in
    let c : section_of 5 (be4 (length ts) ++ concat remainder_bytes ts) ≡ E.rows (length ts) (concat remainder_bytes ts) [] =
    ap (section_of 5) (sym (append-nil (be4 (length ts) ++ concat remainder_bytes ts)))
    ∙ reads_section 5 (length ts) (concat remainder_bytes ts) [] (omega arith)
    (concat-size remainder_bytes (λ r. r.number) 5 4 left-five (omega arith) left-number ts) in
    rw (
      a,
      b,
      c,
      le-ltb 1 (length ts) one,
      reads-column row_bytes (λ r. verdict_byte r.verdict) 9 8 row-nine (omega arith) row-verdict rs,
      reads-column remainder_bytes (λ r. r.number) 5 4 left-five (omega arith) left-number ts,
    )

-- ---- expectation files

one_each : (xs : List ℕ) → length xs ≡ 1 * length xs
one_each xs = omega arith

pub reads : (es left : List ℕ) → length es < 4294967296 → length left ≤ 1 → expected (file_of es left) ≡ verdicts es left
unfolding expected expected_by ending
reads es left few one =
    let a : section_of 1 (file_of es left) ≡ E.rows (length es) es (be4 (length left) ++ left) =
    reads_section 1 (length es) es (be4 (length left) ++ left) few (one_each es) in
    let b : section_of 1 (be4 (length left) ++ left) ≡ E.rows (length left) left [] =
    ap (section_of 1) (sym (append-nil (be4 (length left) ++ left)))
    ∙ reads_section 1 (length left) left [] (omega arith) (one_each left) in
    rw (a, b, le-ltb 1 (length left) one, column-self es, column-self left)

-- ---- lists alike, and one off

passed-self : (vs : List ℕ) → (passed vs vs ≡ length vs) × (failed vs vs ≡ 0)
unfolding passed failed
passed-self [] = (refl, refl)
passed-self (v ∷ vs) =
    let p = passed-self vs in
    (rw (eq-eqb v v refl) (omega (arith, p.0)), rw (eq-eqb v v refl) (omega (arith, p.1)))

agree-self : (left : List ℕ) → agree left left ≡ true
unfolding agree
agree-self [] = refl
agree-self (n ∷ ns) = eq-eqb n n refl

all_alike : (es vs : List ℕ) → length es ≡ length vs → ((i : ℕ) → get_or es i 0 ≡ get_or vs i 0) → failed es vs ≡ 0
unfolding failed
all_alike [] vs l h = refl
all_alike (e ∷ es) [] l h = absurd (omega arith)
all_alike (e ∷ es) (v ∷ vs) l h = rw (eq-eqb e v (h 0)) (omega (arith, all_alike es vs (omega arith) (λ i. h (suc i))))

one-failed : (es vs : List ℕ) (at : ℕ) → length es ≡ length vs → at < length es → (get_or es at 0 ≡ get_or vs at 0 → ⊥)
    → ((i : ℕ) → (i ≡ at → ⊥) → get_or es i 0 ≡ get_or vs i 0) → failed es vs ≡ 1
unfolding failed
one-failed [] vs at l w o h = absurd (omega arith)
one-failed (e ∷ es) [] at l w o h = absurd (omega arith)
one-failed (e ∷ es) (v ∷ vs) zero l w o h =
    rw (ne_eqb e v o) (omega (arith, all_alike es vs (omega arith) (λ i. h (suc i) (λ q. omega arith))))
one-failed (e ∷ es) (v ∷ vs) (suc k) l w o h =
    rw (eq-eqb e v (h 0 (λ q. omega arith)))
    (omega (arith, one-failed es vs k (omega arith) (omega arith) o (λ i n. h (suc i) (λ q. n (omega arith)))))

one-by : (es vs : List ℕ) (g : Bool) → OneOff es vs → OneFailed (length es) (counted es vs g)
one-by es vs g o =
    let f : failed es vs ≡ 1 = one-failed es vs o.at o.as_many o.within o.other o.alike in
    let s = sum es vs in
    record {
      accepted = refl;
      one = f;
      others = omega (arith, o.as_many);
      all-reached = omega (arith, o.as_many);
      none-beyond = omega (arith, o.as_many);
    }

pub file-one-off : (es left vs over rep : List ℕ) → length es < 4294967296 → length left ≤ 1 → reported rep ≡ verdicts vs over → OneOff es vs
    → OneFailed (length es) (compared (file_of es left) rep)
unfolding compared compared_by
file-one-off es left vs over rep few one e o = rw (reads es left few one, e) (one-by es vs (agree left over) o)

-- ---- the judge's own report

module _ (d : Domain) (R : Reader d) (D : Demand3 d) (few : d.limit ≤ 4194304) where
  few-verdicts : (xs : List ℕ) → length xs ≤ d.limit → length (verdicts_in d xs) < 4294967296
  few-verdicts xs l = omega (arith, length-map (rows_in d xs) (λ (r : ItemRow). verdict_byte r.verdict), few-rows d R xs)

  one_left : (xs : List ℕ) → length (left_in d xs) ≤ 1
  one_left xs = omega (arith, length-map (remainder_in d xs) (λ (r : RemainderRow). r.number), D.apart xs)

  pub compares-by : (xs es left : List ℕ) → length xs ≤ d.limit → length es < 4294967296 → length left ≤ 1
      → compared (file_of es left) (report d xs) ≡ counted es (verdicts_in d xs) (agree left (left_in d xs))
  unfolding compared compared_by
  compares-by xs es left l n one = rw (reads es left n one, sees-by d R D few xs l)

  pub own-by : (xs : List ℕ) → length xs ≤ d.limit → compared (own_file d xs) (report d xs)
      ≡ record { number = 0; place = 0; passed = length (rows_in d xs); failed = 0; unreached = 0; beyond = 0; agree = true }
  own-by xs l =
      let vs : List ℕ = verdicts_in d xs in
      let p = passed-self vs in
      let z : length vs - length vs ≡ 0 = omega arith in
      compares-by xs vs (left_in d xs) l (few-verdicts xs l) (one_left xs)
      ∙ rw (p.0, p.1, agree-self (left_in d xs), z, length-map (rows_in d xs) (λ (r : ItemRow). verdict_byte r.verdict))

  pub one-off-by : (xs vs over rep : List ℕ) → length xs ≤ d.limit → reported rep ≡ verdicts vs over → OneOff (verdicts_in d xs) vs
      → OneFailed (length (rows_in d xs)) (compared (own_file d xs) rep)
  one-off-by xs vs over rep l e o =
      subst (λ (n : ℕ). OneFailed n (compared (own_file d xs) rep)) (length-map (rows_in d xs) (λ (r : ItemRow). verdict_byte r.verdict))
      (file-one-off (verdicts_in d xs) (left_in d xs) vs over rep (few-verdicts xs l) (one_left xs) e o)
