-- The claims on the second judge hold. Assumes nothing.
use Rattle.std.specs.Prelude.{ℕ, ◌*◌, ◌/◌, ◌≤◌, ◌<◌, ◌≡◌, refl, List, ◌++◌, length, drop, take, ltb}
use Rattle.std.proofs.Common.{ap, ◌∙◌, ⊎_elim, arith, take_at, drop_at, lt-ltb, le-ltb}
use Rattle.base.specs.Cases.{lt-or-ge}
use Rattle.format.specs.Units.{binary}
use Rattle.format.specs.Conversion.{to_text}
use Rattle.format.specs.Report.{report_answer, report_left}
use Rattle.laws.specs.Conversion.{length-to-text}
use Rattle.second_claims.specs.Second.{second_binary, work_left}
use Rattle.second_claims.proofs.ByText.{rows-by-text, remainder-by-text}
use Rattle.second_claims.specs.Claims.{SecondClaims}
use Rattle.std.specs.Prelude.{Result}
use Rattle.format.specs.declared.Refusal.{Refusal}
use Rattle.format.specs.Refusals.{refused_by}

equal : (xs : List ℕ) (work room : ℕ) → length xs / 3 * 4 ≤ work → second_binary xs work room ≡ report_answer binary xs room
unfolding second_binary report_answer
equal xs work room h =
    ⊎_elim (λ over. rw (lt-ltb binary.limit (length xs) over)) (λ short. rw (le-ltb binary.limit (length xs) short, le-ltb work (length xs / 3 * 4) h))
    (lt-or-ge binary.limit (length xs))

less : (xs : List ℕ) (work room : ℕ) → length xs ≤ binary.limit → work < length xs / 3 * 4 → second_binary xs work room ≡ refused_by 3 0
unfolding second_binary
less xs work room short h = rw (le-ltb binary.limit (length xs) short, lt-ltb work (length xs / 3 * 4) h)

one : (xs : List ℕ) (work room : ℕ) → binary.limit < length xs → second_binary xs work room ≡ refused_by 1 0
unfolding second_binary
one xs work room over = rw (lt-ltb binary.limit (length xs) over)

kept-one : (xs work : List ℕ) → binary.limit < length xs → work_left xs work ≡ work
unfolding work_left
kept-one xs work over = rw (lt-ltb binary.limit (length xs) over)

kept_less : (xs work : List ℕ) → length work < length xs / 3 * 4 → work_left xs work ≡ work
unfolding work_left
kept_less xs work h =
    ⊎_elim (λ over. rw (lt-ltb binary.limit (length xs) over))
    (λ short. rw (le-ltb binary.limit (length xs) short, lt-ltb (length work) (length xs / 3 * 4) h)) (lt-or-ge binary.limit (length xs))

held : (xs work : List ℕ) → length xs ≤ binary.limit → length xs / 3 * 4 ≤ length work
    → work_left xs work ≡ to_text xs ++ drop (length xs / 3 * 4) work
unfolding work_left
held xs work short h = rw (le-ltb binary.limit (length xs) short, le-ltb (length work) (length xs / 3 * 4) h)

size : (xs : List ℕ) → length (to_text xs) ≡ length xs / 3 * 4
size xs = length-to-text xs ∙ omega arith

pub proved : SecondClaims
proved = record {
  rows-by-text = rows-by-text;
  remainder-by-text = remainder-by-text;
  equal = equal;
  equal-left = λ xs out work h. ap (λ (r : Result ℕ (Refusal ℕ)). report_left r binary xs out) (equal xs work (length out) h);
  less = less;
  one = one;
  kept-one = kept-one;
  kept_less = kept_less;
  holds = λ xs work short h.
      rw (held xs work short h) (
        take_at (to_text xs) (drop (length xs / 3 * 4) work) (length xs / 3 * 4) (size xs),
        drop_at (to_text xs) (drop (length xs / 3 * 4) work) (length xs / 3 * 4) (size xs),
      );
}
