-- The demands of the mission, over the definitions of format. Statements only, a field a sentence, each below the mission's own
-- words in quotes (01's and 02's where they say so). What the words mean is in Words, and in damage's Words. `Claims` is proved in Proved;
-- the deck, in format_deck's Deck. What 02's requests ask besides is in claims_requests' Claims and, of indexed items, in claims_indexed'.
-- Assumes nothing.
use Rattle.std.specs.Prelude.{ℕ, ◌+◌, ◌*◌, ◌/◌, ◌≤◌, ◌<◌, ◌≡◌, List, [], ◌∷◌, ◌++◌, Bool, length, drop}
use Rattle.format.specs.declared.Kind.{Kind}
use Rattle.format.specs.declared.TextOffset.{TextOffset}
use Rattle.format.specs.declared.BinaryOffset.{BinaryOffset}
use Rattle.format.specs.declared.Code.{Code}
use Rattle.format.specs.declared.Primitive.{Primitive}
use Rattle.format.specs.Units.{Domain, text, binary, text_sextets, binary_sextets}
use Rattle.format.specs.Offsets.{text_offset, binary_offset}
use Rattle.format.specs.Conversion.{to_binary, to_text, text_to_binary, binary_left, binary_to_text, text_left}
use Rattle.format.specs.Report.{rows_in, refusals_in, remainder_in, refusal, frame_in, judge_in}
use Rattle.format.specs.Report.{row_bytes, refusal_bytes, remainder_bytes, concat, section, report, report_answer, report_left}
use Rattle.format.specs.Reading.{read_text, value_left, read_binary, chars_left, part_at}
use Rattle.format.specs.Writing.{write_text, text_item_left, write_binary, binary_item_left}
use Rattle.format.specs.declared.Opening.TheVariants.{Unknown}
use Rattle.format.specs.declared.Framed.TheVariants.{Item, Unframed}
use Rattle.format.specs.declared.Verdict.TheVariants.{Refused}
use Rattle.format.specs.Registry.{opening, header_units, extent}
use Rattle.format.specs.Framing.{digits4, sextet, frame_by}
use Rattle.format.specs.Judging.{behind}
use Rattle.format.specs.Values.{raw_start, raw_of}
use Rattle.damage.specs.Words.{row, item_at, head_of, Alike, accepted, with_index, Damaged, ByItself, Partition}
use Rattle.claims_rules.specs.Order.{None, Refusal}
use Rattle.claims.specs.Conditions.{to_binary_rules, to_text_rules, report_rules, read_text_rules, read_binary_rules, write_rules}
use Rattle.claims_rules.specs.Conditions.{framing, opening_of, item_kind}
use Rattle.claims.specs.Words.{WholeText, WholeBinary, SameReport, header_of, remainder_at}
use Rattle.std.specs.Prelude.{Ok}
use Rattle.format.specs.Refusals.{refused_by}

-- ---- demand 1: "Take any bytes of any length. Every public entry refuses bad input by number and asks nothing of its caller. Where a call
-- itself is refused, every output buffer holds what it held before." The walk's step is in walk_claims' Claims, what C sees of the
-- numbers in exports_claims' Claims. That nothing is asked is what the calls' contracts say: they have no premise.

-- a refusal has a number that is not 0, among those that 01 lists for the call (02 j: 19 beside 5), and of its conditions, in 01's order, the
-- first that holds; and an accepted call meets none of them. d: what the buffer lent held
pub record Demand1 : Type 0 where
  -- 01: "T to B gives 1, 2, 5, 3"
  pub to-binary : (s d : List ℕ) (m : ℕ) (p : TextOffset) → text_to_binary s (length d) ≡ refused_by m p
      → Refusal (1 ∷ 2 ∷ 5 ∷ 19 ∷ 3 ∷ []) (to_binary_rules s (length d)) m × (binary_left (text_to_binary s (length d)) s d ≡ d)
  pub to-binary-accepts : (s d : List ℕ) (n : BinaryOffset) → text_to_binary s (length d) ≡ Ok n → None (to_binary_rules s (length d))
  -- 01: "B to T 1, 2, 3"
  pub to-text : (s d : List ℕ) (m : ℕ) (p : BinaryOffset) → binary_to_text s (length d) ≡ refused_by m p
      → Refusal (1 ∷ 2 ∷ 3 ∷ []) (to_text_rules s (length d)) m × (text_left (binary_to_text s (length d)) s d ≡ d)
  pub to-text-accepts : (s d : List ℕ) (n : TextOffset) → binary_to_text s (length d) ≡ Ok n → None (to_text_rules s (length d))
  -- 01: "Refused whole: 1, then 3"
  pub reports : (f : Domain) (s d : List ℕ) (m p : ℕ) → report_answer f s (length d) ≡ refused_by m p
      → Refusal (1 ∷ 3 ∷ []) (report_rules f s (length d)) m × (report_left (report_answer f s (length d)) f s d ≡ d)
  pub reports-accepts : (f : Domain) (s d : List ℕ) (n : ℕ) → report_answer f s (length d) ≡ Ok n → None (report_rules f s (length d))
  -- 01: "Reading a primitive at an offset: 1, 4 at or past the end, framing (never 7), 14, judging, then 3 for T"; framing gives 4, 5 and
  -- 6, judging 5, 18 (02 h), 9, 8, 16 (02 c) and 10. 5 is for "character outside the alphabet (in T ..)"
  pub read-text : (s : List ℕ) (at : ℕ) (d : List ℕ) (m : ℕ) (p : TextOffset) → (read_text s at (length d)).found ≡ refused_by m p
      → Refusal (1 ∷ 4 ∷ 5 ∷ 19 ∷ 6 ∷ 14 ∷ 18 ∷ 9 ∷ 8 ∷ 16 ∷ 10 ∷ 3 ∷ []) (read_text_rules s at (length d)) m
      × (value_left (read_text s at (length d)).found s at d ≡ d)
  pub read-text-accepts : (s : List ℕ) (at : ℕ) (d : List ℕ) (q : Primitive) → (read_text s at (length d)).found ≡ Ok q
      → None (read_text_rules s at (length d))
  -- the same in B, where only a text is copied out (02 c: "in both forms, with 3 when room is short"): a refused read hands "an empty part" back
  pub read-binary : (s : List ℕ) (at : ℕ) (d : List ℕ) (m : ℕ) (p : BinaryOffset) → (read_binary s at (length d)).found ≡ refused_by m p
      → Refusal (1 ∷ 4 ∷ 6 ∷ 14 ∷ 18 ∷ 9 ∷ 8 ∷ 16 ∷ 10 ∷ 3 ∷ []) (read_binary_rules s at (length d)) m
      × (part_at s at (read_binary s at (length d)).found ≡ []) × (chars_left (read_binary s at (length d)).found s at d ≡ d)
  pub read-binary-accepts : (s : List ℕ) (at : ℕ) (d : List ℕ) (q : Primitive) → (read_binary s at (length d)).found ≡ Ok q
      → None (read_binary_rules s at (length d))
  -- 01: "Writing, to T or B: 6 (any code that isn't a primitive's), 12, 5 (tags), 3.", 02 h: 18 "directly after 12", 02 c: "The writer's order
  -- is 6, 12, 5 .., 16 .., 3"
  pub write-text : (code : Code) (tag : List ℕ) (tags : ℕ) (raw d : List ℕ) (m p : ℕ) → write_text code tag tags raw (length d) ≡ refused_by m p
      → Refusal (6 ∷ 12 ∷ 18 ∷ 5 ∷ 19 ∷ 16 ∷ 3 ∷ []) (write_rules 4 code tag tags raw (length d)) m
      × (text_item_left (write_text code tag tags raw (length d)) code tag tags raw d ≡ d)
  pub write-text-accepts : (code : Code) (tag : List ℕ) (tags : ℕ) (raw d : List ℕ) (n : TextOffset)
      → write_text code tag tags raw (length d) ≡ Ok n → None (write_rules 4 code tag tags raw (length d))
  pub write-binary : (code : Code) (tag : List ℕ) (tags : ℕ) (raw d : List ℕ) (m p : ℕ)
      → write_binary code tag tags raw (length d) ≡ refused_by m p
      → Refusal (6 ∷ 12 ∷ 18 ∷ 5 ∷ 19 ∷ 16 ∷ 3 ∷ []) (write_rules 3 code tag tags raw (length d)) m
      × (binary_item_left (write_binary code tag tags raw (length d)) code tag tags raw d ≡ d)
  pub write-binary-accepts : (code : Code) (tag : List ℕ) (tags : ℕ) (raw d : List ℕ) (n : BinaryOffset)
      → write_binary code tag tags raw (length d) ≡ Ok n → None (write_rules 3 code tag tags raw (length d))

-- ---- demand 2: "A binary stream of whole triplets, or a text one of whole quadlets in the alphabet, either within the length
-- limit, is the premise."

pub record Demand2 : Type 0 where
  -- "Text, binary .. forms convert each way": such a stream is not refused where there is room
  pub text-converts : (t : List ℕ) (room : ℕ) → WholeText t → length t / 4 * 3 ≤ room
      → text_to_binary t room ≡ Ok (binary_offset (length t / 4 * 3))
  pub binary-converts : (b : List ℕ) (room : ℕ) → WholeBinary b → length b / 3 * 4 ≤ room
      → binary_to_text b room ≡ Ok (text_offset (length b / 3 * 4))
  -- what is written is such a stream of the other form, and converts back to the first
  pub text-back : (t : List ℕ) → WholeText t → WholeBinary (to_binary t) × (to_text (to_binary t) ≡ t)
  pub binary-back : (b : List ℕ) → WholeBinary b → WholeText (to_text b) × (to_binary (to_text b) ≡ b)
  -- ".. and raw forms", reading: 01: "in B the raw value is always whole bytes at the item's end", whichever form is read
  pub text-raw : (t : List ℕ) (k : Kind) (h : ℕ) → WholeText t → raw_of k h (text_sextets t) ≡ drop (raw_start k h) (to_binary t)
  pub binary-raw : (b : List ℕ) (k : Kind) (h : ℕ) → WholeBinary b → raw_of k h (binary_sextets b) ≡ drop (raw_start k h) b
  -- "A whole stream converted at once equals its items, then any remainder, converted one by one,"
  pub text-items : (t : List ℕ) → WholeText t
      → to_binary t ≡ concat (λ r. to_binary (item_at t r)) (rows_in text t) ++ to_binary (remainder_at (remainder_in text t) t)
  pub binary-items : (b : List ℕ) → WholeBinary b
      → to_text b ≡ concat (λ r. to_text (item_at b r)) (rows_in binary b) ++ to_text (remainder_at (remainder_in binary b) b)
  -- each of them being such a stream again, so that no conversion refuses it
  pub text-parts : (t : List ℕ) → WholeText t
      → ((k : ℕ) → k < length (rows_in text t) → WholeText (item_at t (row (rows_in text t) k)))
      × WholeText (remainder_at (remainder_in text t) t)
  pub binary-parts : (b : List ℕ) → WholeBinary b
      → ((k : ℕ) → k < length (rows_in binary b) → WholeBinary (item_at b (row (rows_in binary b) k)))
      × WholeBinary (remainder_at (remainder_in binary b) b)
  -- "and its report is the same in text and binary, with offsets, sizes and places in the ratio four to three."
  pub text-report : (t : List ℕ) → WholeText t → SameReport t (to_binary t)
  pub binary-report : (b : List ℕ) → WholeBinary b → SameReport (to_text b) b

-- ---- demand 3

-- "Take any stream within the length limit, and change whichever bytes you like, to whatever values, behind the headers of its
-- top-level items. The length, every header and any unframed remainder stay."
pub record Changed (d : Domain) (xs ys : List ℕ) : Type 0 where
  pub within : length xs ≤ d.limit
  pub behind : Damaged (frame_in d) (rows_in d xs) xs ys

pub record Demand3 (d : Domain) : Type 0 where
  -- "The report that demand 2 defines": 01's three sections, each after its count
  pub sections : (xs : List ℕ) → report d xs ≡ section row_bytes (rows_in d xs)
      ++ (section refusal_bytes (refusals_in d xs) ++ section remainder_bytes (remainder_in d xs))
  -- 01: "A header is the first unit, or the first two for selectors `7` `8` `9` and codes `--` `-◌`": of each item
  pub headers : (xs : List ℕ) (k : ℕ) → k < length (rows_in d xs)
      → let own : List ℕ = item_at xs (row (rows_in d xs) k) in
      head_of (frame_in d own) ≡ header_of (sextet (d.sextets own) 0) (sextet (d.sextets own) 1) * d.unit
  -- "then has the same items in the same order, at the same offsets and lengths,"
  pub same-items : (xs ys : List ℕ) → Changed d xs ys → Alike (rows_in d xs) (rows_in d ys)
  -- "and the same remainder."
  pub same-remainder : (xs ys : List ℕ) → Changed d xs ys → remainder_in d ys ≡ remainder_in d xs
  -- "Each unchanged item keeps its verdict and place of refusal."
  pub unchanged : (xs ys : List ℕ) → Changed d xs ys → (k : ℕ) → k < length (rows_in d xs)
      → item_at ys (row (rows_in d ys) k) ≡ item_at xs (row (rows_in d xs) k) → (row (rows_in d ys) k).verdict ≡ (row (rows_in d xs) k).verdict
  -- "Each changed item gets the verdict it would get as a stream by itself, its place counted on from the item's offset."
  -- 01: "In each of them every item, changed or not"
  pub by_itself : (xs : List ℕ) (k : ℕ) → k < length (rows_in d xs) → ByItself (frame_in d) (judge_in d) xs (row (rows_in d xs) k)
  -- 01: "An item with a verdict other than 0 has exactly one refusal row: its index in the whole stream, that verdict, and the
  -- place that it gets by itself plus the item's offset."
  pub refusal-rows : (xs : List ℕ) (k : ℕ) → k < length (rows_in d xs)
      → with_index k (refusals_in d xs) ≡ refusal k (row (rows_in d xs) k).verdict
  -- 01: "There are no other refusal rows."
  pub no_other : (xs : List ℕ) (k : ℕ) → length (rows_in d xs) ≤ k → with_index k (refusals_in d xs) ≡ []
  -- "Every byte of a stream lies in exactly one item, or else in the remainder."
  pub partition : (xs : List ℕ) → Partition (length xs) (rows_in d xs) (remainder_in d xs)
  -- "The number of items is the accepted plus the refused,"
  pub counts : (xs : List ℕ) → length (rows_in d xs) ≡ accepted (rows_in d xs) + length (refusals_in d xs)
  -- "and no remainder is counted as either": it has a section of its own, with at most one row
  pub apart : (xs : List ℕ) → length (remainder_in d xs) ≤ 1

-- ---- framing, which the report, the reader and the walk share

pub record FramingClaims : Type 0 where
  -- 01: "Framing an item: 4 (first unit), 5 (its first bad character), 6, 4 (second unit), 5, 4 (extent)."; by either table
  pub refuses : (indexed : Bool) (s : List ℕ) (m p : ℕ) → frame_by indexed s ≡ Unframed m p
      → Refusal (4 ∷ 5 ∷ 19 ∷ 6 ∷ []) (framing indexed s) m
  pub accepts : (indexed : Bool) (s : List ℕ) (k : Kind) (h n : ℕ) → frame_by indexed s ≡ Item k h n → None (framing indexed s)
  -- an item's header and full size are the registry's rules of what its first unit opens, and of the second unit's digits
  pub header : (indexed : Bool) (s : List ℕ) (k : Kind) (h n : ℕ) → frame_by indexed s ≡ Item k h n → h ≡ header_units (opening_of indexed s)
  pub extent-by : (indexed : Bool) (s : List ℕ) (k : Kind) (h n : ℕ) → frame_by indexed s ≡ Item k h n
      → n ≡ extent (opening_of indexed s) (digits4 (sextet s))
  pub kind-by : (indexed : Bool) (s : List ℕ) (k : Kind) (h n : ℕ) → frame_by indexed s ≡ Item k h n → k ≡ item_kind indexed s
  -- which header has one unit and which two, at top level
  pub one-or-two : (a b c d : ℕ) → (opening a b c d ≡ Unknown → ⊥) → header_units (opening a b c d) ≡ header_of a b

-- ---- all of it

pub record Claims : Type 0 where
  pub demand1 : Demand1
  pub demand2 : Demand2
  pub framing : FramingClaims
  pub demand3-text : Demand3 text
  pub demand3-binary : Demand3 binary
