-- What is claimed of mixed streams (02 d). Statements only, a field a sentence, each below 02's own words in quotes (the mission's and 01's
-- where they say so). What the words mean is in Words, and in damage's and claims' Words. Proved in Proved; examples are in mixed's Deck.
-- Assumes nothing.
use Rattle.std.specs.Prelude.{ℕ, ◌+◌, ◌*◌, ◌≤◌, ◌<◌, ◌≡◌, List, [], ◌∷◌, ◌++◌, map, length, take, drop}
use Rattle.base.specs.Digits.{number_of}
use Rattle.format.specs.declared.Form.{Form}
use Rattle.format.specs.declared.Form.TheVariants.{Text, Binary}
use Rattle.format.specs.declared.Kind.{Kind}
use Rattle.format.specs.declared.Framed.TheVariants.{Item, Unframed}
use Rattle.format.specs.declared.Verdict.TheVariants.{Accepted}
use Rattle.format.specs.Units.{domain}
use Rattle.format.specs.Conversion.{to_binary, to_text}
use Rattle.format.specs.Report.{refusal, rows, remainder, rows_in, remainder_in, frame_in, judge_in, refusal_bytes, remainder_bytes, section}
use Rattle.format.specs.Report.{report, report_answer}
use Rattle.damage.specs.Words.{row, item_at, head_of, Alike, accepted, with_index, ByItself, Partition}
use Rattle.claims_rules.specs.Order.{None, Refusal}
use Rattle.claims.specs.Words.{WholeText, WholeBinary}
use Rattle.mixed.specs.declared.Start.TheVariants.{Cesr, Json, Other}
use Rattle.mixed.specs.Json.{hex_of, json_size, frame_json}
use Rattle.mixed.specs.Mixed.{start_of, start_at, form_byte, frame_with, frame_mixed, judge_mixed, rows_mixed, refusals_mixed, remainder_mixed}
use Rattle.mixed.specs.Mixed.{mixed_row_bytes, mixed_report, mixed_answer, mixed_left}
use Rattle.mixed_claims.specs.Words.{json_rules, mixed_rules, Changed, HeadIs, SameItem, AllStart, SameReports}
use Rattle.std.specs.Prelude.{Ok}
use Rattle.format.specs.Refusals.{refused_by}

-- ---- the forms

pub record Forms : Type 0 where
  -- "Each top-level item starts with `-` (text CESR),"
  pub text : (b : ℕ) → start_of b ≡ Cesr Text → b ≡ 45
  pub is-text : start_of 45 ≡ Cesr Text
  -- "a byte F8 to FB (binary CESR),"
  pub binary : (b : ℕ) → start_of b ≡ Cesr Binary → (248 ≤ b) × (b ≤ 251)
  pub is-binary : (b : ℕ) → 248 ≤ b → b ≤ 251 → start_of b ≡ Cesr Binary
  -- "or `{` (JSON);"
  pub json : (b : ℕ) → start_of b ≡ Json → b ≡ 123
  pub is-json : start_of 123 ≡ Json
  -- "any other first byte is a remainder with number 17."
  pub other : (xs : List ℕ) → 0 < length xs → start_at xs 0 ≡ Other
      → (rows_mixed xs ≡ []) × (remainder_mixed xs ≡ record { offset = 0; number = 17 } ∷ [])
  -- "a last byte, 0 text, 1 binary, 2 JSON": every item has one of the three
  pub formed : (xs : List ℕ) (j : ℕ) → j < length (rows_mixed xs) → start_at xs (row (rows_mixed xs) j).offset ≡ Other → ⊥
  pub last-bytes : (form_byte (Cesr Text) ≡ 0) × (form_byte (Cesr Binary) ≡ 1) × (form_byte Json ≡ 2)
  -- the kind that stands for a JSON item's decides nothing
  pub kind-free : (k : Kind) (xs : List ℕ)
      → (rows (frame_with k) judge_mixed xs ≡ rows_mixed xs) × (remainder (frame_with k) judge_mixed xs ≡ remainder_mixed xs)

-- ---- JSON

pub record JsonClaims : Type 0 where
  -- "Fewer than 23 bytes left is a remainder 4; then a malformed header, or a length below 23, is 17; then a length past the end is 4."
  pub refuses : (k : Kind) (xs : List ℕ) (m p : ℕ) → frame_json k xs ≡ Unframed m p → Refusal (4 ∷ 17 ∷ []) (json_rules xs) m
  pub accepts : (k : Kind) (xs : List ℕ) (k' : Kind) (h n : ℕ) → frame_json k xs ≡ Item k' h n → None (json_rules xs)
  -- "Its header is those 23 bytes.", and its size is the total length
  pub sizes : (k : Kind) (xs : List ℕ) (k' : Kind) (h n : ℕ) → frame_json k xs ≡ Item k' h n → (h ≡ 23) × (n ≡ json_size xs)
  -- "six lowercase hexadecimal digits of total length"
  pub total : (xs : List ℕ) → 22 ≤ length xs → json_size xs ≡ number_of 16 (map hex_of (take 6 (drop 16 xs)))
  -- "The JSON body isn't judged."
  pub not-judged : (xs : List ℕ) (j : ℕ) → j < length (rows_mixed xs) → start_at xs (row (rows_mixed xs) j).offset ≡ Json
      → (row (rows_mixed xs) j).verdict ≡ Accepted

-- ---- the call

pub record CallClaims : Type 0 where
  -- demand 1, and 01: "Refused whole: 1, then 3"; a refused call leaves its buffer as it was
  pub refuses : (xs out : List ℕ) (m p : ℕ) → mixed_answer xs (length out) ≡ refused_by m p
      → Refusal (1 ∷ 3 ∷ []) (mixed_rules xs (length out)) m × (p ≡ 0) × (mixed_left (mixed_answer xs (length out)) xs out ≡ out)
  pub accepts : (xs : List ℕ) (room n : ℕ) → mixed_answer xs room ≡ Ok n → None (mixed_rules xs room) × (n ≡ length (mixed_report xs))
  -- "room here is 17 + 19 x items": it is always enough
  pub fits : (xs : List ℕ) → length (mixed_report xs) ≤ 17 + 19 * length (rows_mixed xs)

-- ---- demand 3: "Demand 3 holds with this header, both streams and an item by itself being judged by this mixed report under its own
-- limit"

pub record MixedDemand3 : Type 0 where
  -- 01's three sections, each after its count; "Item rows gain a last byte"
  pub sections : (xs : List ℕ) → mixed_report xs ≡ section (mixed_row_bytes xs) (rows_mixed xs)
      ++ (section refusal_bytes (refusals_mixed xs) ++ section remainder_bytes (remainder_mixed xs))
  -- of each item, by its form
  pub headers : (xs : List ℕ) (j : ℕ) → j < length (rows_mixed xs)
      → let own : List ℕ = item_at xs (row (rows_mixed xs) j) in
      HeadIs (start_at xs (row (rows_mixed xs) j).offset) own (head_of (frame_mixed own))
  -- "then has the same items in the same order, at the same offsets and lengths,"
  pub same-items : (xs ys : List ℕ) → Changed xs ys → Alike (rows_mixed xs) (rows_mixed ys)
  -- (and of the same form)
  pub same-forms : (xs ys : List ℕ) → Changed xs ys → (j : ℕ) → j < length (rows_mixed xs)
      → start_at ys (row (rows_mixed ys) j).offset ≡ start_at xs (row (rows_mixed xs) j).offset
  -- "and the same remainder."
  pub same-remainder : (xs ys : List ℕ) → Changed xs ys → remainder_mixed ys ≡ remainder_mixed xs
  -- "Each unchanged item keeps its verdict and place of refusal."
  pub unchanged : (xs ys : List ℕ) → Changed xs ys → (j : ℕ) → j < length (rows_mixed xs)
      → item_at ys (row (rows_mixed ys) j) ≡ item_at xs (row (rows_mixed xs) j) → (row (rows_mixed ys) j).verdict ≡ (row (rows_mixed xs) j).verdict
  -- "Each changed item gets the verdict it would get as a stream by itself, its place counted on from the item's offset."
  -- 01: "In each of them every item, changed or not"
  pub by_itself : (xs : List ℕ) (j : ℕ) → j < length (rows_mixed xs) → ByItself frame_mixed judge_mixed xs (row (rows_mixed xs) j)
  -- 01: "An item with a verdict other than 0 has exactly one refusal row: its index in the whole stream, that verdict, and the
  -- place that it gets by itself plus the item's offset."
  pub refusal-rows : (xs : List ℕ) (j : ℕ) → j < length (rows_mixed xs)
      → with_index j (refusals_mixed xs) ≡ refusal j (row (rows_mixed xs) j).verdict
  -- 01: "There are no other refusal rows."
  pub no_other : (xs : List ℕ) (j : ℕ) → length (rows_mixed xs) ≤ j → with_index j (refusals_mixed xs) ≡ []
  -- "Every byte of a stream lies in exactly one item, or else in the remainder."
  pub partition : (xs : List ℕ) → Partition (length xs) (rows_mixed xs) (remainder_mixed xs)
  -- "The number of items is the accepted plus the refused,"
  pub counts : (xs : List ℕ) → length (rows_mixed xs) ≡ accepted (rows_mixed xs) + length (refusals_mixed xs)
  -- "and no remainder is counted as either."
  pub apart : (xs : List ℕ) → length (remainder_mixed xs) ≤ 1

-- ---- CESR items

pub record CesrClaims : Type 0 where
  -- text and binary items are framed and judged by 01's rules
  pub framed : (f : Form) (xs : List ℕ) → start_at xs 0 ≡ Cesr f → frame_mixed xs ≡ frame_in (domain f) xs
  pub judged : (f : Form) (xs : List ℕ) → start_at xs 0 ≡ Cesr f → judge_mixed xs ≡ judge_in (domain f) xs
  -- so by itself such an item has the rows of 01's report, and no remainder there either
  pub by_itself : (f : Form) (xs : List ℕ) (j : ℕ) → j < length (rows_mixed xs) → start_at xs (row (rows_mixed xs) j).offset ≡ Cesr f
      → let own : List ℕ = item_at xs (row (rows_mixed xs) j) in (rows_mixed own ≡ rows_in (domain f) own) × (remainder_in (domain f) own ≡ [])
  -- "the four to three ratio holds per CESR item that as a stream by itself meets demand 2's premise"
  pub text-ratio : (xs : List ℕ) (j : ℕ) → j < length (rows_mixed xs) → start_at xs (row (rows_mixed xs) j).offset ≡ Cesr Text
      → let own : List ℕ = item_at xs (row (rows_mixed xs) j) in WholeText own
      → SameItem own (to_binary own) × (start_at (to_binary own) 0 ≡ Cesr Binary)
  pub binary-ratio : (xs : List ℕ) (j : ℕ) → j < length (rows_mixed xs) → start_at xs (row (rows_mixed xs) j).offset ≡ Cesr Binary
      → let own : List ℕ = item_at xs (row (rows_mixed xs) j) in WholeBinary own
      → SameItem (to_text own) own × (start_at (to_text own) 0 ≡ Cesr Text)
  -- a stream whose items and remainder, as 01's report of a form has them, all start as this form does (`-`; F8 to FB) has the same rows but
  -- for the last byte, the same refusals and the same remainder in both reports
  pub as-report : (f : Form) (xs : List ℕ) → AllStart f xs (rows_in (domain f) xs) (remainder_in (domain f) xs) → SameReports f xs
  -- the same if those of the mixed report do
  pub as-mixed : (f : Form) (xs : List ℕ) → AllStart f xs (rows_mixed xs) (remainder_mixed xs) → SameReports f xs
  -- and so within the form's limit (binary: 3,145,728 bytes) both calls write, the one a byte an item more
  pub calls : (f : Form) (xs : List ℕ) (room : ℕ) → SameReports f xs → length xs ≤ (domain f).limit → 17 + 19 * length (rows_mixed xs) ≤ room
      → (report_answer (domain f) xs room ≡ Ok (length (report (domain f) xs)))
      × (mixed_answer xs room ≡ Ok (length (report (domain f) xs) + length (rows_mixed xs)))

-- ---- all of it

pub record MixedClaims : Type 0 where
  pub forms : Forms
  pub json : JsonClaims
  pub call : CallClaims
  pub demand3 : MixedDemand3
  pub cesr : CesrClaims
