-- What 02's request a asks of the definitions of format: the calls on single indexed items, the items and the groups that hold them.
-- Statements only, a field a sentence, each below 02's own words in quotes. What the words mean is in Words and Conditions, and in claims'.
-- `Claims` is proved in Proved. Assumes nothing.
use Rattle.std.specs.Prelude.{ℕ, suc, ◌-◌, ◌*◌, ◌≤◌, ◌<◌, ◌≡◌, List, [], ◌∷◌, true, false, ◌⊎◌, length, drop}
use Rattle.format.specs.declared.Kind.{Kind}
use Rattle.format.specs.declared.Kind.TheVariants.{Group, Indexed}
use Rattle.format.specs.declared.TextOffset.{TextOffset}
use Rattle.format.specs.declared.BinaryOffset.{BinaryOffset}
use Rattle.format.specs.declared.IndexRow.{IndexRow}
use Rattle.format.specs.declared.IndexCode.{IndexCode}
use Rattle.format.specs.declared.IndexedItem.{IndexedItem}
use Rattle.format.specs.declared.Framed.TheVariants.{Item, Unframed}
use Rattle.format.specs.declared.Verdict.TheVariants.{Refused}
use Rattle.format.specs.Registry.{is_overrideable, indexed_codes, index_chars}
use Rattle.format.specs.Framing.{sextet, frame, frame_indexed}
use Rattle.format.specs.Judging.{shift, and_then, unless, behind, zero_bits, ondex_right, in_turn, contents, judge_with, judge}
use Rattle.format.specs.Values.{ondex_of}
use Rattle.format.specs.Indexed.{read_indexed_text, indexed_left, read_indexed_binary, indexed_part, write_indexed_text, text_indexed_left}
use Rattle.format.specs.Indexed.{write_indexed_binary, binary_indexed_left}
use Rattle.claims_rules.specs.Order.{None, Refusal}
use Rattle.claims_indexed.specs.Conditions.{read_indexed_text_rules, read_indexed_binary_rules, write_indexed_rules}
use Rattle.claims_indexed.specs.Words.{OneOf, IndexedStart}
use Rattle.std.specs.Prelude.{Ok}
use Rattle.format.specs.Refusals.{refused_by}

-- ---- 02's request a, of indexed items. That they are written back is in roundtrip_indexed's Claims, what it says of the walk in walk_claims'

-- demand 1 of the calls: "Add reading and writing of single indexed items, by 01's orders for primitives"
pub record IndexedCalls : Type 0 where
  -- 1, 4, framing, judging, then 3; "any other start is 6, for the single reader too": it gives no 14
  pub read-text : (s : List ℕ) (at : ℕ) (d : List ℕ) (m : ℕ) (p : TextOffset) → read_indexed_text s at (length d) ≡ refused_by m p
      → Refusal (1 ∷ 4 ∷ 5 ∷ 19 ∷ 6 ∷ 8 ∷ 15 ∷ 3 ∷ []) (read_indexed_text_rules s at (length d)) m
      × (indexed_left (read_indexed_text s at (length d)) s at d ≡ d)
  pub read-text-accepts : (s : List ℕ) (at : ℕ) (d : List ℕ) (q : IndexedItem) → read_indexed_text s at (length d) ≡ Ok q
      → None (read_indexed_text_rules s at (length d))
  -- the same in B, where nothing is written: a refused read hands "an empty part" back
  pub read-binary : (s : List ℕ) (at m : ℕ) (p : BinaryOffset) → read_indexed_binary s at ≡ refused_by m p
      → Refusal (1 ∷ 4 ∷ 6 ∷ 8 ∷ 15 ∷ []) (read_indexed_binary_rules s at) m × (indexed_part s at (read_indexed_binary s at) ≡ [])
  pub read-binary-accepts : (s : List ℕ) (at : ℕ) (q : IndexedItem) → read_indexed_binary s at ≡ Ok q → None (read_indexed_binary_rules s at)
  -- "an index or ondex too large for its digits (without digits, any but 0) is 12, a nonzero ondex for a "current only" code is 15 after
  -- 12, place 0"
  pub write-text : (code : IndexCode) (index ondex : ℕ) (raw d : List ℕ) (m p : ℕ)
      → write_indexed_text code index ondex raw (length d) ≡ refused_by m p
      → Refusal (6 ∷ 12 ∷ 15 ∷ 3 ∷ []) (write_indexed_rules 4 code index ondex (length raw) (length d)) m × (p ≡ 0)
      × (text_indexed_left (write_indexed_text code index ondex raw (length d)) code index ondex raw d ≡ d)
  pub write-text-accepts : (code : IndexCode) (index ondex : ℕ) (raw d : List ℕ) (n : TextOffset)
      → write_indexed_text code index ondex raw (length d) ≡ Ok n → None (write_indexed_rules 4 code index ondex (length raw) (length d))
  pub write-binary : (code : IndexCode) (index ondex : ℕ) (raw d : List ℕ) (m p : ℕ)
      → write_indexed_binary code index ondex raw (length d) ≡ refused_by m p
      → Refusal (6 ∷ 12 ∷ 15 ∷ 3 ∷ []) (write_indexed_rules 3 code index ondex (length raw) (length d)) m × (p ≡ 0)
      × (binary_indexed_left (write_indexed_binary code index ondex raw (length d)) code index ondex raw d ≡ d)
  pub write-binary-accepts : (code : IndexCode) (index ondex : ℕ) (raw d : List ℕ) (n : BinaryOffset)
      → write_indexed_binary code index ondex raw (length d) ≡ Ok n → None (write_indexed_rules 3 code index ondex (length raw) (length d))

-- of the items, by their own sextets, and of the groups that hold them
pub record SignatureClaims : Type 0 where
  -- "Read their contents by the Indexed Code Table of source document 003": those of `-K` and `-L`, which are 10 and 11, and of no other group,
  -- "large too"; l more groups may be entered
  pub signatures : (l letter h size : ℕ) (s : List ℕ) → (letter ≡ 10) ⊎ (letter ≡ 11) → frame s ≡ Item (Group letter) h size
      → length s ≡ 4 * size → (h ≡ 1) ⊎ (4096 ≤ size - h)
      → judge (suc l) s ≡ shift (4 * h) (in_turn (judge_with true l) (contents true false (drop (4 * h) s)))
  pub other-groups : (l letter h size : ℕ) (s : List ℕ) → ¬ ((letter ≡ 10) ⊎ (letter ≡ 11)) → frame s ≡ Item (Group letter) h size
      → length s ≡ 4 * size → (h ≡ 1) ⊎ (4096 ≤ size - h)
      → judge (suc l) s ≡ shift (4 * h) (in_turn (judge l) (contents false (is_overrideable letter) (drop (4 * h) s)))
  -- "twelve codes"
  pub twelve : length indexed_codes ≡ 12
  -- "Nothing but indexed items may stand there;"
  pub nothing-else : (s : List ℕ) (k : Kind) (h n : ℕ) → frame_indexed s ≡ Item k h n → (c : IndexRow) × (k ≡ Indexed c) × OneOf c indexed_codes
  -- "any other start is 6": `A` to `D`, `0A`, `0B`, `2A` to `2D`, `3A`, `3B` are the starts of the twelve
  pub other-starts : (s : List ℕ) → 4 ≤ length s → ((i : ℕ) → i < 4 → sextet s i < 64) → ¬ (IndexedStart (sextet s 0) (sextet s 1))
      → frame_indexed s ≡ Unframed 6 0
  pub starts : (s : List ℕ) (p : ℕ) → IndexedStart (sextet s 0) (sextet s 1) → ¬ (frame_indexed s ≡ Unframed 6 p)
  -- "The header is one unit, or two for selectors 2 and 3.", whose sextets are 54 and 55
  pub one_unit : (s : List ℕ) (k : Kind) (h n : ℕ) → frame_indexed s ≡ Item k h n → sextet s 0 < 54 → h ≡ 1
  pub two-units : (s : List ℕ) (k : Kind) (h n : ℕ) → frame_indexed s ≡ Item k h n → (sextet s 0 ≡ 54) ⊎ (sextet s 0 ≡ 55) → h ≡ 2
  -- "Four zero pad bits stand before the raw bytes of `A` to `D` and `2A` to `2D`, none in the others."
  pub four-bits : (s : List ℕ) (c : IndexRow) (h n : ℕ) → frame_indexed s ≡ Item (Indexed c) h n → (sextet s 0 < 4) ⊎ (sextet s 0 ≡ 54)
      → c.zeros ≡ 4
  pub no_bits : (s : List ℕ) (c : IndexRow) (h n : ℕ) → frame_indexed s ≡ Item (Indexed c) h n → (sextet s 0 ≡ 52) ⊎ (sextet s 0 ≡ 55)
      → c.zeros ≡ 0
  -- "must have them zero, else a new number 15, judged after 8": 5 behind the header, 8, 15
  pub verdict : (l : ℕ) (s : List ℕ) (c : IndexRow) (h n : ℕ) → frame_indexed s ≡ Item (Indexed c) h n
      → judge_with true l s
      ≡ and_then (behind h s) (and_then (unless 8 (zero_bits s (index_chars c) c.zeros)) (unless 15 (ondex_right c (ondex_of c s))))
  -- "The four "current only" codes that carry ondex digits": `0B`, `2B`, `2D`, `3B`
  pub current-only : (s : List ℕ) (c : IndexRow) (h n : ℕ) → frame_indexed s ≡ Item (Indexed c) h n → ondex_right c (ondex_of c s) ≡ false
      → ((sextet s 1 ≡ 1) × ((sextet s 0 ≡ 52) ⊎ ((sextet s 0 ≡ 54) ⊎ (sextet s 0 ≡ 55)))) ⊎ ((sextet s 0 ≡ 54) × (sextet s 1 ≡ 3))
  -- "(read as 0 where it has no digits)"
  pub no-digits : (c : IndexRow) (s : List ℕ) → c.ondex ≡ 0 → ondex_of c s ≡ 0

-- ---- all of it

pub record Claims : Type 0 where
  pub calls : IndexedCalls
  pub signatures : SignatureClaims
