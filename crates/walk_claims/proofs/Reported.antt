-- What the report's lists say of the walk's answers. Assumes nothing.
use Rattle.std.specs.Prelude.{ℕ, suc, ◌+◌, ◌*◌, ◌/◌, ◌%◌, ◌≡◌, refl, List, [], ◌∷◌, ◌++◌, map, Bool, true, false, length, take}
use Rattle.std.proofs.Common.{ap, arith}
use Rattle.format.specs.declared.Verdict.{Verdict}
use Rattle.format.specs.declared.Verdict.TheVariants.{Accepted, Refused}
use Rattle.format.specs.Units.{Domain}
use Rattle.format.specs.Cutting.{Cut, cut}
use Rattle.format.specs.Cutting.Cut.{done, stopped, item}
use Rattle.format.specs.Judging.{shift, and_then}
use Rattle.format.specs.Report.{ItemRow, RefusalRow, rows_of, remainder_of, refusal, refusals_of, frame_in, judge_in, placed}
use Rattle.format.specs.Report.{rows, refusals, remainder, rows_in, refusals_in, remainder_in}
use Rattle.walk_state.specs.declared.Found.{Found}
use Rattle.walk_claims.specs.Words.{Span, span_of, up_to, up_to_refusal, found_of, first_of, first_refusal, LastBy, Last}

-- ---- the last answer

last-by : (v w : Verdict) (P : Found ℕ → Type 0) → P (found_of w) → LastBy v (found_of (and_then v w)) (P (found_of (and_then v w)))
unfolding and_then found_of
last-by Accepted w P h = h
last-by (Refused n p) w P h = refl

last_of : (d : Domain) (o : ℕ) (c : Cut) → Last (rows_of (judge_in d) o c) (remainder_of o c) (found_of (first_of d o c))
unfolding rows_of remainder_of first_of found_of shift placed
last_of d o done = refl
last_of d o (stopped n p r) = (p / 4 * d.unit + p % 4, refl)
last_of d o (item i c) =
    last-by (shift o (judge_in d i)) (first_of d (o + length i) c)
    (Last (rows_of (judge_in d) (o + length i) c) (remainder_of (o + length i) c)) (last_of d (o + length i) c)

pub last-answer : (d : Domain) (xs : List ℕ) → Last (rows_in d xs) (remainder_in d xs) (found_of (first_refusal d xs))
unfolding rows remainder
last-answer d xs = last_of d 0 (cut (frame_in d) xs)

-- ---- the items at depth 0

-- the first row, by its verdict
all-by : (k : ℕ) (v : Verdict) (b : Bool) (r : Span) (rs ss : List Span) (l : List RefusalRow) → refusal k v ++ l ≡ [] → (l ≡ [] → rs ≡ ss)
    → up_to v b r rs ≡ r ∷ ss
unfolding refusal up_to
all-by k Accepted b r rs ss l e f = ap (λ (q : List Span). r ∷ q) (f e)
all-by k (Refused n p) b r rs ss l e f = let z : ◌≡◌ {A = ℕ} 0 1 = cc in absurd (omega arith)

all_of : (d : Domain) (xs : List ℕ) (k : ℕ) (rs : List ItemRow) → refusals_of k rs ≡ [] → up_to_refusal d xs rs ≡ map span_of rs
unfolding refusals_of up_to_refusal
all_of d xs k [] e = refl
all_of d xs k (r ∷ rs) e = all-by k r.verdict _ (span_of r) _ _ (refusals_of (suc k) rs) e (all_of d xs (suc k) rs)

-- all of them, where none is refused
pub all-accepted : (d : Domain) (xs : List ℕ) → refusals_in d xs ≡ [] → up_to_refusal d xs (rows_in d xs) ≡ map span_of (rows_in d xs)
unfolding refusals
all-accepted d xs e = all_of d xs 0 (rows_in d xs) e

front_by : (v : Verdict) (b : Bool) (r : Span) (rs ss : List Span) → rs ≡ take (length rs) ss
    → up_to v b r rs ≡ take (length (up_to v b r rs)) (r ∷ ss)
unfolding up_to
front_by Accepted b r rs ss e = ap (λ (q : List Span). r ∷ q) e
front_by (Refused n p) true r rs ss e = refl
front_by (Refused n p) false r rs ss e = refl

-- the first of them, in order
pub front : (d : Domain) (xs : List ℕ) (rs : List ItemRow) → up_to_refusal d xs rs ≡ take (length (up_to_refusal d xs rs)) (map span_of rs)
unfolding up_to_refusal
front d xs [] = refl
front d xs (r ∷ rs) = front_by r.verdict _ (span_of r) (up_to_refusal d xs rs) (map span_of rs) (front d xs rs)
