-- 01, "The report": three lists, each after its count, over any framing and any judge, and then for text and binary.
-- Assumes nothing.
use Rattle.std.specs.Prelude.{ℕ, suc, ◌+◌, ◌*◌, ◌/◌, ◌%◌, List, [], ◌∷◌, ◌++◌, Bool, true, false, length, drop, ltb}
use Rattle.base.specs.Pick.{pick}
use Rattle.base.specs.Digits.{digits_of}
use Rattle.format.specs.declared.Framed.{Framed}
use Rattle.format.specs.declared.Verdict.{Verdict}
use Rattle.format.specs.declared.Verdict.TheVariants.{Accepted, Refused}
use Rattle.format.specs.Units.{Domain}
use Rattle.format.specs.Framing.{frame_ruled, scale}
use Rattle.format.specs.Cutting.{Cut, cut}
use Rattle.format.specs.Cutting.Cut.{done, stopped, item}
use Rattle.format.specs.Judging.{shift, judge, max_depth}
use Rattle.std.specs.Prelude.{Ok, Err, Result}
use Rattle.format.specs.declared.Refusal.{Refusal}
use Rattle.format.specs.Refusals.{refused_by}

-- ---- three lists

pub record ItemRow : Type 0 where
  pub offset : ℕ
  pub size : ℕ
  pub verdict : Verdict  -- with its place in the whole stream

pub record RefusalRow : Type 0 where
  pub index : ℕ
  pub number : ℕ
  pub place : ℕ

pub record RemainderRow : Type 0 where
  pub offset : ℕ
  pub number : ℕ

-- the items from offset o on, each judged by its own bytes
module _ (judge : List ℕ → Verdict) where
  unfoldable pub rows_of : ℕ → Cut → List ItemRow
  rows_of o done = []
  rows_of o (stopped n p r) = []
  rows_of o (item i c) = record { offset = o; size = length i; verdict = shift o (judge i) } ∷ rows_of (o + length i) c

-- the first framing refusal starts the remainder
unfoldable pub remainder_of : ℕ → Cut → List RemainderRow
remainder_of o done = []
remainder_of o (stopped n p r) = record { offset = o; number = n } ∷ []
remainder_of o (item i c) = remainder_of (o + length i) c

unfoldable pub refusal : ℕ → Verdict → List RefusalRow
refusal k Accepted = []
refusal k (Refused n p) = record { index = k; number = n; place = p } ∷ []

unfoldable pub refusals_of : ℕ → List ItemRow → List RefusalRow
refusals_of k [] = []
refusals_of k (r ∷ rs) = refusal k r.verdict ++ refusals_of (suc k) rs

-- of any framing and any judge of an item's own bytes
module _ (frame : List ℕ → Framed) (judge : List ℕ → Verdict) where
  unfoldable pub rows : List ℕ → List ItemRow
  rows xs = rows_of judge 0 (cut frame xs)

  unfoldable pub refusals : List ℕ → List RefusalRow
  refusals xs = refusals_of 0 (rows xs)

  unfoldable pub remainder : List ℕ → List RemainderRow
  remainder xs = remainder_of 0 (cut frame xs)

-- ---- text and binary

-- a place in sextets as one in elements, u to the unit: the unit's start, and the character in it
unfoldable pub placed : ℕ → Verdict → Verdict
placed u Accepted = Accepted
placed u (Refused n p) = Refused n (p / 4 * u + p % 4)

-- top-level framing, 7 included
unfoldable pub frame_in : Domain → List ℕ → Framed
frame_in d xs = scale d.unit (frame_ruled (d.sextets xs))

-- an item's own bytes
unfoldable pub judge_in : Domain → List ℕ → Verdict
judge_in d xs = placed d.unit (judge max_depth (d.sextets xs))

abbrev pub rows_in : Domain → List ℕ → List ItemRow
rows_in d xs = rows (frame_in d) (judge_in d) xs

abbrev pub refusals_in : Domain → List ℕ → List RefusalRow
refusals_in d xs = refusals (frame_in d) (judge_in d) xs

abbrev pub remainder_in : Domain → List ℕ → List RemainderRow
remainder_in d xs = remainder (frame_in d) (judge_in d) xs

-- ---- bytes: "all numbers big-endian"

unfoldable pub be4 : ℕ → List ℕ
be4 n = n / 16777216 % 256 ∷ n / 65536 % 256 ∷ n / 256 % 256 ∷ n % 256 ∷ []

-- "verdict 0 means accepted, any other is the number of its refusal"
unfoldable pub verdict_byte : Verdict → ℕ
verdict_byte Accepted = 0
verdict_byte (Refused n p) = n

-- items (offset 4 bytes, size 4, verdict 1)
unfoldable pub row_bytes : ItemRow → List ℕ
row_bytes r = be4 r.offset ++ (be4 r.size ++ (verdict_byte r.verdict ∷ []))

-- refusals (item's index from 0 4 bytes, number 1, place 4)
unfoldable pub refusal_bytes : RefusalRow → List ℕ
refusal_bytes r = be4 r.index ++ (r.number ∷ be4 r.place)

-- remainder (offset 4, number 1)
unfoldable pub remainder_bytes : RemainderRow → List ℕ
remainder_bytes r = be4 r.offset ++ (r.number ∷ [])

unfoldable pub concat {ℓ} : {A : Type ℓ} → (A → List ℕ) → List A → List ℕ
concat f [] = []
concat f (a ∷ l) = f a ++ concat f l

-- a section: its count in 4 bytes, then its rows
unfoldable pub section {ℓ} : {A : Type ℓ} → (A → List ℕ) → List A → List ℕ
section f l = be4 (length l) ++ concat f l

unfoldable pub report : Domain → List ℕ → List ℕ
report d xs = section row_bytes (rows_in d xs) ++ (section refusal_bytes (refusals_in d xs) ++ section remainder_bytes (remainder_in d xs))

-- ---- the call: "Refused whole: 1, then 3 exactly if room is below 17 + 18 x items. The answer is the length written; bytes behind
-- it stay."

unfoldable pub report_answer : Domain → List ℕ → ℕ → Result ℕ (Refusal ℕ)
report_answer d xs room =
    pick (ltb d.limit (length xs)) (refused_by 1 0)
    (pick (ltb room (17 + 18 * length (rows_in d xs))) (refused_by 3 0)
    (Ok (length (report d xs))))

-- the answer as numbers: 0 and the length written, or 01's number and the place
unfoldable pub report_number : Result ℕ (Refusal ℕ) → ℕ
report_number (Ok n) = 0
report_number (Err e) = e.number

unfoldable pub report_value : Result ℕ (Refusal ℕ) → ℕ
report_value (Ok n) = n
report_value (Err e) = e.place

-- what a buffer that held out holds afterwards
unfoldable pub report_left : Result ℕ (Refusal ℕ) → Domain → List ℕ → List ℕ → List ℕ
report_left (Ok n) d xs out = report d xs ++ drop n out
report_left (Err e) d xs out = out
