-- What is claimed of the numbers that the calls for C answer and of the state that C lends, over the definitions that their contracts
-- cite. Statements only, each below the words of the mission or of 01 in quotes. What the words mean is in Words. Proved in Proved.
-- Assumes nothing.
use Rattle.std.specs.Prelude.{ℕ, ◌+◌, ◌<◌, false, ◌≡◌, List, [], ◌∷◌, ◌⊎◌, ◌↔◌, length, replicate, get_or}
use Rattle.format.specs.declared.Code.{Code}
use Rattle.format.specs.declared.IndexCode.{IndexCode}
use Rattle.format.specs.declared.Kind.TheVariants.{Variable, Group, Genus, Indexed}
use Rattle.format.specs.Units.{Domain, text, binary}
use Rattle.format.specs.Judging.{max_depth}
use Rattle.format.specs.Conversion.{text_to_binary, to_binary_number, binary_left, binary_to_text, to_text_number, text_left}
use Rattle.format.specs.Report.{report_answer, report_number, report_left}
use Rattle.format.specs.Reading.{read_text, value_left, read_binary, chars_left}
use Rattle.format.specs.Writing.{write_text, text_item_left, write_binary, binary_item_left}
use Rattle.format.specs.Indexed.{read_indexed_text, indexed_left, read_indexed_binary}
use Rattle.format.specs.Indexed.{write_indexed_text, text_indexed_left, write_indexed_binary, binary_indexed_left}
use Rattle.walk_state.specs.declared.Walk.{Walk}
use Rattle.walk_state.specs.declared.Found.TheVariants as TI
use Rattle.walk_state.specs.Walking.{start, is_fit, text_step, binary_step}
use Rattle.walk_claims.specs.Words.{after}
use Rattle.exports_values.specs.Answers.{text_found_number, text_tag_left, text_info_left, binary_found_number, binary_tag_left, binary_info_left}
use Rattle.exports_values.specs.Answers.{text_written_number, binary_written_number}
use Rattle.exports_indexed.specs.Answers.{text_number, text_info, binary_number, binary_info, info_of}
use Rattle.comparison.specs.Comparing.{compared}
use Rattle.expectation_claims.specs.Words.{BadFile, BadReport}
use Rattle.exports_values.specs.Counts.{counts_of}
use Rattle.exports_values.specs.Lent.{state_size, walk_of, state_of, item_of}
use Rattle.exports_values.specs.Lent.{text_step_number, text_yield_left, text_state_left, binary_step_number, binary_yield_left, binary_state_left}
use Rattle.exports_claims.specs.Words.{InBinary, InText, Report, ReadText, ReadBinary, WroteText, WroteBinary, YieldsText, YieldsBinary}
use Rattle.exports_claims.specs.Words.{ReadIndexedText, ReadIndexedBinary, text_lent, binary_lent, lone, paired, signature}

-- ---- the numbers: 0 is answered exactly where the call is accepted, so that no refusal can be taken for a pass; 255 exactly at the end of
-- a walk

pub record ZeroClaims : Type 0 where
  pub to-binary : (s d : List ℕ) → (to_binary_number (text_to_binary s (length d)) ≡ 0) ↔ InBinary (text_to_binary s (length d))
  pub to-text : (s d : List ℕ) → (to_text_number (binary_to_text s (length d)) ≡ 0) ↔ InText (binary_to_text s (length d))
  pub reports : (f : Domain) (s d : List ℕ) → (report_number (report_answer f s (length d)) ≡ 0) ↔ Report (report_answer f s (length d))
  pub read-text : (s : List ℕ) (at : ℕ) (d : List ℕ)
      → (text_found_number (read_text s at (length d)).found ≡ 0) ↔ ReadText (read_text s at (length d)).found
  pub read-binary : (s : List ℕ) (at : ℕ) (d : List ℕ)
      → (binary_found_number (read_binary s at (length d)).found ≡ 0) ↔ ReadBinary (read_binary s at (length d)).found
  pub write-text : (code : Code) (tag : List ℕ) (tags : ℕ) (raw d : List ℕ)
      → (text_written_number (write_text code tag tags raw (length d)) ≡ 0) ↔ WroteText (write_text code tag tags raw (length d))
  pub write-binary : (code : Code) (tag : List ℕ) (tags : ℕ) (raw d : List ℕ)
      → (binary_written_number (write_binary code tag tags raw (length d)) ≡ 0) ↔ WroteBinary (write_binary code tag tags raw (length d))
  -- 02 a: "Add reading and writing of single indexed items"
  pub read-indexed-text : (s : List ℕ) (at : ℕ) (d : List ℕ)
      → (text_number (read_indexed_text s at (length d)) ≡ 0) ↔ ReadIndexedText (read_indexed_text s at (length d))
  pub read-indexed-binary : (s : List ℕ) (at : ℕ) → (binary_number (read_indexed_binary s at) ≡ 0) ↔ ReadIndexedBinary (read_indexed_binary s at)
  pub write-indexed-text : (code : IndexCode) (index ondex : ℕ) (raw d : List ℕ)
      → (text_written_number (write_indexed_text code index ondex raw (length d)) ≡ 0) ↔ WroteText (write_indexed_text code index ondex raw (length d))
  pub write-indexed-binary : (code : IndexCode) (index ondex : ℕ) (raw d : List ℕ)
      → (binary_written_number (write_indexed_binary code index ondex raw (length d)) ≡ 0)
      ↔ WroteBinary (write_indexed_binary code index ondex raw (length d))
  pub walk-text : (s : List ℕ) (w : Walk) → (text_step_number (text_step s w).found ≡ 0) ↔ YieldsText (text_step s w).found
  pub walk-binary : (s : List ℕ) (w : Walk) → (binary_step_number (binary_step s w).found ≡ 0) ↔ YieldsBinary (binary_step s w).found
  pub end-text : (s : List ℕ) (w : Walk) → (text_step_number (text_step s w).found ≡ 255) ↔ ((text_step s w).found ≡ TI.End)
  pub end-binary : (s : List ℕ) (w : Walk) → (binary_step_number (binary_step s w).found ≡ 255) ↔ ((binary_step s w).found ≡ TI.End)

-- ---- "Where a call itself is refused, every output buffer holds what it held before": where the number is not 0, each place that is lent
-- but the one for `answer`

pub record KeepClaims : Type 0 where
  pub to-binary : (s d : List ℕ) → let a = text_to_binary s (length d) in (to_binary_number a ≡ 0 → ⊥) → binary_left a s d ≡ d
  pub to-text : (s d : List ℕ) → let a = binary_to_text s (length d) in (to_text_number a ≡ 0 → ⊥) → text_left a s d ≡ d
  pub reports : (f : Domain) (s d : List ℕ) → let a = report_answer f s (length d) in (report_number a ≡ 0 → ⊥) → report_left a f s d ≡ d
  pub read-text : (s : List ℕ) (at : ℕ) (d tag info : List ℕ) → let a = read_text s at (length d) in (text_found_number a.found ≡ 0 → ⊥)
      → (value_left a.found s at d ≡ d) × (text_tag_left a.found a.tag tag ≡ tag) × (text_info_left a.found info ≡ info)
  pub read-binary : (s : List ℕ) (at : ℕ) (d tag info : List ℕ) → let a = read_binary s at (length d) in (binary_found_number a.found ≡ 0 → ⊥)
      → (chars_left a.found s at d ≡ d) × (binary_tag_left a.found a.tag tag ≡ tag) × (binary_info_left a.found info ≡ info)
  pub write-text : (code : Code) (tag : List ℕ) (tags : ℕ) (raw d : List ℕ) → let a = write_text code tag tags raw (length d) in
      (text_written_number a ≡ 0 → ⊥) → text_item_left a code tag tags raw d ≡ d
  pub write-binary : (code : Code) (tag : List ℕ) (tags : ℕ) (raw d : List ℕ) → let a = write_binary code tag tags raw (length d) in
      (binary_written_number a ≡ 0 → ⊥) → binary_item_left a code tag tags raw d ≡ d
  pub read-indexed-text : (s : List ℕ) (at : ℕ) (d info : List ℕ) → let a = read_indexed_text s at (length d) in (text_number a ≡ 0 → ⊥)
      → (indexed_left a s at d ≡ d) × (text_info a info ≡ info)
  pub read-indexed-binary : (s : List ℕ) (at : ℕ) (info : List ℕ) → let a = read_indexed_binary s at in (binary_number a ≡ 0 → ⊥)
      → binary_info a info ≡ info
  pub write-indexed-text : (code : IndexCode) (index ondex : ℕ) (raw d : List ℕ) → let a = write_indexed_text code index ondex raw (length d) in
      (text_written_number a ≡ 0 → ⊥) → text_indexed_left a code index ondex raw d ≡ d
  pub write-indexed-binary : (code : IndexCode) (index ondex : ℕ) (raw d : List ℕ) → let a = write_indexed_binary code index ondex raw (length d) in
      (binary_written_number a ≡ 0 → ⊥) → binary_indexed_left a code index ondex raw d ≡ d
  -- "At a refusal or the end the state stays as it was."
  pub walk-text : (s : List ℕ) (w : Walk) (state item : List ℕ) → let a = text_step s w in (text_step_number a.found ≡ 0 → ⊥)
      → (text_yield_left a.found item ≡ item) × (text_state_left a.found a.next state ≡ state)
  pub walk-binary : (s : List ℕ) (w : Walk) (state item : List ℕ) → let a = binary_step s w in (binary_step_number a.found ≡ 0 → ⊥)
      → (binary_yield_left a.found item ≡ item) × (binary_state_left a.found a.next state ≡ state)

-- ---- the walk over a state that C lends

pub record LentClaims : Type 0 where
  -- a C caller's start: zeros alone
  pub zeros : walk_of (replicate state_size 0) ≡ start
  -- a state that a call wrote is read back as it was by the next
  pub back : (w : Walk) → length w.ends ≡ max_depth → walk_of (state_of w) ≡ w
  -- a mark that is neither 0 nor 1, of a first item or of indexed items, fits no stream: 13
  pub marks : (s : List ℕ) (n : ℕ) → (1 < get_or s (max_depth + 2) 0) ⊎ (1 < get_or s (max_depth + 3) 0) → is_fit (walk_of s) n ≡ false
  -- "Each step takes the state and gives the next one back": behind k calls the state lent is the walk's behind k steps
  pub text-walk : (xs : List ℕ) (k : ℕ) → walk_of (text_lent xs k) ≡ after text xs k
  pub binary-walk : (xs : List ℕ) (k : ℕ) → walk_of (binary_lent xs k) ≡ after binary xs k

-- ---- the numbers by which an item's code is told, beside `include/cesr.h`

pub record ToldClaims : Type 0 where
  -- an item of a walk: offset, size, depth, chars, letter, and a lead or a selector
  pub small-value : item_of 4 8 1 (Variable 1 2 1) 1 ≡ 4 ∷ 8 ∷ 1 ∷ 5 ∷ 66 ∷ 2 ∷ []  -- `6B`
  pub large-value : item_of 4 16396 1 (Variable 1 0 4096) 2 ≡ 4 ∷ 16396 ∷ 1 ∷ 6 ∷ 66 ∷ 0 ∷ []  -- `7AAB`
  pub small-group : item_of 0 8 0 (Group 10) 1 ≡ 0 ∷ 8 ∷ 0 ∷ 7 ∷ 75 ∷ 0 ∷ []  -- `-K`
  pub large-group : item_of 0 16392 0 (Group 10) 2 ≡ 0 ∷ 16392 ∷ 0 ∷ 8 ∷ 75 ∷ 0 ∷ []  -- `--K`
  pub genus : item_of 0 8 0 Genus 2 ≡ 0 ∷ 8 ∷ 0 ∷ 9 ∷ 0 ∷ 0 ∷ []
  -- 02 a: `A` and `2A` in a `-K`, their selector as a character, 0 where the letter stands alone
  pub indexed-alone : item_of 4 88 1 (Indexed lone) 1 ≡ 4 ∷ 88 ∷ 1 ∷ 10 ∷ 65 ∷ 0 ∷ []
  pub indexed-paired : item_of 4 92 1 (Indexed paired) 2 ≡ 4 ∷ 92 ∷ 1 ∷ 10 ∷ 65 ∷ 50 ∷ []
  -- a read of an indexed item: selector, letter, units, the raw value's start and length, index, ondex
  pub indexed-info : info_of signature ≡ 50 ∷ 65 ∷ 23 ∷ 5 ∷ 64 ∷ 64 ∷ 66 ∷ []

-- ---- a comparison: its five numbers are the answer, so that a refused call writes them too

pub record ComparedClaims : Type 0 where
  -- 0 is answered exactly where both the file and the report are well made
  pub zero-accepted : (file rep : List ℕ) → ((compared file rep).number ≡ 0) ↔ (BadFile file ⊎ BadReport rep → ⊥)
  -- "all counts are 0 and the remainders are answered as not agreeing", and the place is 0
  pub refused-zeros : (file rep : List ℕ) → ((compared file rep).number ≡ 0 → ⊥) → counts_of (compared file rep) ≡ replicate 5 0

-- ---- all of it

pub record ExportsClaims : Type 0 where
  pub zero-accepted : ZeroClaims
  pub refused-kept : KeepClaims
  pub lent : LentClaims
  pub told : ToldClaims
  pub comparison : ComparedClaims
