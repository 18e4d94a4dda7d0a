-- The answers of the second judge's calls, and what they leave. Assumes nothing.
use Prim.Native.Nat.{ℕ, ◌*◌, ◌/◌, ◌%◌, ◌≤◌, ◌<◌}
use mathlib.Core.Path.{◌≡◌, refl, sym, ap, ◌∙◌}
use mathlib.Core.List.{List, [], ◌∷◌, ◌++◌, append-nil}
use native.Mathlib.Omega.{arith}
use lib.ListN.{length, take, drop, length-map, length-drop}
use lib.Seq.{take_at, length-take-le}
use borrow.Author.Tests.{lt-ltb, le-ltb}
use Rattle.format.specs.Units.{text, binary}
use Rattle.format.specs.Conversion.{to_text, binary_to_text, text_left}
use Rattle.format.specs.Report.{rows_in, report_answer, report_left}
use Rattle.laws.specs.Conversion.{length-to-text, binary-to-text-sextets, text-joins}
use Rattle.second_claims.specs.Second.{row_back, rows_by_text, second_binary, work_left}
use Rattle.second_claims.proofs.ByText.{rows-by-text}
use Rattle.second_report.specs.Reports.{form_of, Given, Answered}
use Rattle.std.specs.Prelude.{Result}
use Rattle.format.specs.declared.Refusal.{Refusal}
use Rattle.format.specs.Refusals.{refused_by}
use Rattle.format.specs.declared.TextOffset.{TextOffset}
use Rattle.format.specs.declared.BinaryOffset.{BinaryOffset}

-- ---- a text

pub text-long : (s out : List ℕ) → 4194304 < length s → (refused_by 1 0 ≡ report_answer text s (length out)) × (out ≡ report_left (refused_by 1 0) text s out)
unfolding report_answer report_left
text-long s out l = (rw (lt-ltb 4194304 (length s) l), refl)

pub text-given : (s : List ℕ) → length s ≤ 4194304 → Given 4 s s
unfolding form_of
text-given s l = record { form = refl; few = l; long = l; same = refl; items = refl }

pub text-answer : (s out : List ℕ) (r : Result ℕ (Refusal ℕ)) (out' : List ℕ) → Answered (form_of 4) s out r out'
    → (r ≡ report_answer text s (length out)) × (out' ≡ report_left r text s out)
unfolding form_of
text-answer s out r out' A = (A.answer, A.left)

-- ---- a binary

module _ (s work : List ℕ) where
  pub binary-long : (out : List ℕ) → 3145728 < length s
      → (refused_by 1 0 ≡ second_binary s (length work) (length out)) × (work ≡ work_left s work) × (out ≡ report_left (refused_by 1 0) binary s out)
  unfolding second_binary work_left report_left
  binary-long out l = (rw (lt-ltb 3145728 (length s) l), rw (lt-ltb 3145728 (length s) l), refl)

  module _ (few : length s ≤ 3145728) where
    same-room : length s / 3 * 4 ≡ 4 * (length s / 3)
    same-room = omega arith

    pub work-short : (out : List ℕ) → length work < 4 * (length s / 3)
        → (refused_by 3 0 ≡ second_binary s (length work) (length out)) × (work ≡ work_left s work) × (out ≡ report_left (refused_by 3 0) binary s out)
    unfolding second_binary work_left report_left
    work-short out l = (
      rw (le-ltb 3145728 (length s) few, same-room, lt-ltb (length work) (4 * (length s / 3)) l),
      rw (le-ltb 3145728 (length s) few, same-room, lt-ltb (length work) (4 * (length s / 3)) l),
      refl,
    )

    none : (l : List ℕ) → length l ≡ 0 → l ≡ []
    none [] e = refl
    none (x ∷ l) e = absurd (omega arith)

    -- the text of the whole triplets
    triplets-text : to_text (take (3 * (length s / 3)) s) ≡ to_text s
    triplets-text =
        let z : length s / 3 * 3 ≡ 3 * (length s / 3) = omega arith in
        let r : to_text (drop (length s / 3 * 3) s) ≡ [] =
        none _ (length-to-text (drop (length s / 3 * 3) s) ∙ omega (arith, length-drop (length s / 3 * 3) s)) in
        rw (← z) (sym (text-joins s (length s / 3) (omega arith) ∙ rw (r, append-nil)))

    text-size : length (to_text s) ≡ 4 * (length s / 3)
    text-size = length-to-text s ∙ omega arith

    items-same : length (rows_in text (to_text s)) ≡ length (rows_in binary s)
    unfolding rows_by_text
    items-same = sym (ap length (rows-by-text s) ∙ length-map (rows_in text (to_text s)) row_back)

    module _ (room : 4 * (length s / 3) ≤ length work) (r : Result TextOffset (Refusal BinaryOffset)) (er : r ≡ binary_to_text (take (3 * (length s / 3)) s) (length work)) (work' : List ℕ)
        (ew : work' ≡ text_left r (take (3 * (length s / 3)) s) work) where
      converted : work' ≡ to_text s ++ drop (4 * (length s / 3)) work
      unfolding binary_to_text text_left
      converted =
          let n : length (take (3 * (length s / 3)) s) ≡ 3 * (length s / 3) = length-take-le (3 * (length s / 3)) s (omega arith) in
          let c : 3 * (length s / 3) / 3 ≡ length s / 3 = omega arith in
          ew ∙ rw (
            er,
            n,
            le-ltb 3145728 (3 * (length s / 3)) (omega arith),
            le-ltb 0 (3 * (length s / 3) % 3) (omega arith),
            c,
            same-room,
            le-ltb (length work) (4 * (length s / 3)) room,
            triplets-text,
          )

      text-there : take (4 * (length s / 3)) work' ≡ to_text s
      text-there = rw converted (take_at (to_text s) (drop (4 * (length s / 3)) work) (4 * (length s / 3)) text-size)

      pub binary-given : Given 3 s (take (4 * (length s / 3)) work')
      unfolding form_of
      binary-given =
          rw text-there record {
            form = refl;
            few = few;
            long = omega (arith, text-size);
            same = binary-to-text-sextets s;
            items = items-same;
          }

      pub binary-answer : (out : List ℕ) (a : Result ℕ (Refusal ℕ)) (out' : List ℕ) → Answered (form_of 3) s out a out'
          → (a ≡ second_binary s (length work) (length out)) × (work' ≡ work_left s work) × (out' ≡ report_left a binary s out)
      unfolding form_of second_binary work_left
      binary-answer out a out' A = (
        A.answer ∙ rw (le-ltb 3145728 (length s) few, same-room, le-ltb (length work) (4 * (length s / 3)) room),
        converted ∙ rw (le-ltb 3145728 (length s) few, same-room, le-ltb (length work) (4 * (length s / 3)) room),
        A.left,
      )
