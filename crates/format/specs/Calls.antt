-- 01, "Numbers a vendor sees" and "The report": the form of calls with what they answer and what the buffer holds afterwards, a few of them,
-- the limits and the offsets; crate `format_deck` has the others. Text is written by its characters' numbers; a buffer holds nines. What is
-- expected is 01's word. Assumes nothing.
use Rattle.std.specs.Prelude.{ℕ, ◌*◌, ◌/◌, ◌≤◌, ◌<◌, ◌≡◌, refl, List, [], ◌∷◌, ◌++◌, length}
use Rattle.std.proofs.Common.{arith, lt-ltb, le-ltb}
use Rattle.base.specs.Each.{each}
use Rattle.format.specs.declared.Code.{Code}
use Rattle.format.specs.declared.Code.TheVariants as C
use Rattle.format.specs.declared.Primitive.{Primitive}
use Rattle.format.specs.Alphabet.{sextet_of, char_of}
use Rattle.format.specs.Units.{Domain, text, binary, bytes_of, sextets_of, triplet_of, quadlet_of, text_sextets, binary_sextets}
use Rattle.format.specs.Offsets.{text_offset, binary_offset, offset_in_binary, offset_in_text}
use Rattle.format.specs.Conversion.{to_binary, to_text, first_stranger, first_number, text_to_binary, binary_left, binary_to_text, text_left}
use Rattle.format.specs.Report.{refusal, refusals_of, refusals, be4, verdict_byte, row_bytes, refusal_bytes, remainder_bytes, concat}
use Rattle.format.specs.Report.{section, report, report_answer, report_left}
use Rattle.format.specs.Reading.{code_of, is_primitive, tags_of, primitive_of, judged, read_framed, reading, from, place_from, padded, no_tag}
use Rattle.format.specs.Reading.{value_at, text_at, text_answer, read_text, value_left, binary_answer, read_binary, chars_left, part_at}
use Rattle.format.specs.Texts.{fill_for, text_lead, text_count}
use Rattle.format.specs.Values.{value_of}
use Rattle.format.specs.Writing as W
use Rattle.format.specs.Deck.{given}
use Rattle.std.specs.Prelude.{Ok, Err, Some, None, Result}
use Rattle.format.specs.declared.Refusal.{Refusal}
use Rattle.format.specs.Refusals.{refused_by}
use Rattle.format.specs.declared.TextOffset.{TextOffset}
use Rattle.format.specs.declared.BinaryOffset.{BinaryOffset}

infixr 5 ◌&◌
-- ---- calls and what they answer

pub data Call : Type 0 where
  ToBinary ToText : List ℕ → List ℕ → Call  -- the stream, the buffer
  Reports : Domain → List ℕ → List ℕ → Call  -- the stream, the buffer
  ReadText ReadBinary : List ℕ → ℕ → List ℕ → Call  -- the stream, the offset, the buffer
  WriteText WriteBinary : Code → List ℕ → ℕ → List ℕ → List ℕ → Call  -- eleven places and their number, the raw value or a text, the buffer

pub data Outcome : Type 0 where
  refused : ℕ → ℕ → List ℕ → Outcome  -- number, place, the buffer
  written : ℕ → List ℕ → Outcome  -- length, the buffer
  read : Primitive → List ℕ → List ℕ → Outcome  -- tag characters, the buffer
  read_part : Primitive → List ℕ → List ℕ → List ℕ → Outcome  -- in B: tag characters, the buffer, the part

pub record Asked : Type 0 where
  pub call : Call
  pub gives : Outcome

abbrev pub asked : Call → Outcome → Asked
asked c o = record { call = c; gives = o }

-- ---- the table

unfoldable pub calls : List Asked
calls =
    asked (ToBinary (77 ∷ 65 ∷ 33 ∷ 66 ∷ []) []) (refused 5 2 []) ∷  -- `MA!B`, room 0: 5, then 3
    asked (ToText (48 ∷ 0 ∷ 1 ∷ []) (9 ∷ 9 ∷ 9 ∷ 9 ∷ 9 ∷ [])) (written 4 (77 ∷ 65 ∷ 65 ∷ 66 ∷ 9 ∷ [])) ∷  -- room 5: bytes behind it stay
    asked (Reports text (77 ∷ 65 ∷ 65 ∷ 66 ∷ []) (9 ∷ 9 ∷ 9 ∷ 9 ∷ 9 ∷ 9 ∷ 9 ∷ 9 ∷ 9 ∷ 9 ∷ 9 ∷ 9 ∷ 9 ∷ 9 ∷ 9 ∷ 9 ∷ 9 ∷ 9 ∷ 9 ∷ 9 ∷ 9 ∷ 9 ∷ 9 ∷ 9 ∷ 9 ∷ 9 ∷ 9 ∷ 9 ∷ 9 ∷ 9 ∷ 9 ∷ 9 ∷ 9 ∷ 9 ∷ [])) (refused 3 0 (9 ∷ 9 ∷ 9 ∷ 9 ∷ 9 ∷ 9 ∷ 9 ∷ 9 ∷ 9 ∷ 9 ∷ 9 ∷ 9 ∷ 9 ∷ 9 ∷ 9 ∷ 9 ∷ 9 ∷ 9 ∷ 9 ∷ 9 ∷ 9 ∷ 9 ∷ 9 ∷ 9 ∷ 9 ∷ 9 ∷ 9 ∷ 9 ∷ 9 ∷ 9 ∷ 9 ∷ 9 ∷ 9 ∷ 9 ∷ [])) ∷  -- `MAAB`, nothing refused, room 34: 3
    asked (ReadText (77 ∷ 65 ∷ 65 ∷ 66 ∷ 77 ∷ 65 ∷ 65 ∷ 66 ∷ []) 4 (9 ∷ [])) (refused 3 0 (9 ∷ [])) ∷  -- `MAABMAAB` at 4, room 1: 3, at place 0
    asked (ReadText (48 ∷ 74 ∷ 95 ∷ 65 ∷ []) 0 (9 ∷ [])) (read (record { code = (C.Fixed 2 74); size = 1; start = binary_offset 3; raw = 0; text = 0; tags = 1 }) (65 ∷ 0 ∷ 0 ∷ 0 ∷ 0 ∷ 0 ∷ 0 ∷ 0 ∷ 0 ∷ 0 ∷ 0 ∷ []) (9 ∷ [])) ∷  -- `0J_A` at 0, room 1: a tag: no raw, at the item's end
    asked (WriteText (C.Small 66) (33 ∷ 33 ∷ 33 ∷ 33 ∷ 33 ∷ 33 ∷ 33 ∷ 33 ∷ 33 ∷ 33 ∷ 33 ∷ []) 0 (104 ∷ 105 ∷ []) (9 ∷ 9 ∷ 9 ∷ 9 ∷ 9 ∷ 9 ∷ 9 ∷ 9 ∷ [])) (written 8 (53 ∷ 66 ∷ 65 ∷ 66 ∷ 65 ∷ 71 ∷ 104 ∷ 112 ∷ [])) ∷  -- `5BABAGhp`
    asked (WriteText (C.Large 72) (33 ∷ 33 ∷ 33 ∷ 33 ∷ 33 ∷ 33 ∷ 33 ∷ 33 ∷ 33 ∷ 33 ∷ 33 ∷ []) 0 (104 ∷ 105 ∷ []) (9 ∷ 9 ∷ 9 ∷ 9 ∷ 9 ∷ 9 ∷ 9 ∷ 9 ∷ 9 ∷ 9 ∷ 9 ∷ 9 ∷ [])) (refused 18 0 (9 ∷ 9 ∷ 9 ∷ 9 ∷ 9 ∷ 9 ∷ 9 ∷ 9 ∷ 9 ∷ 9 ∷ 9 ∷ 9 ∷ [])) ∷  -- the caller names large, and small holds it: 18
    asked (WriteBinary (C.Fixed 1 77) (33 ∷ 33 ∷ 33 ∷ 33 ∷ 33 ∷ 33 ∷ 33 ∷ 33 ∷ 33 ∷ 33 ∷ 33 ∷ []) 0 (0 ∷ 1 ∷ []) (9 ∷ 9 ∷ 9 ∷ 9 ∷ [])) (written 3 (48 ∷ 0 ∷ 1 ∷ 9 ∷ [])) ∷  -- `MAAB` in B
    -- 02 c: "Reading and writing such text gives the characters back .. Characters are copied out in both forms, with 3 when room is short"
    asked (ReadBinary (224 ∷ 0 ∷ 1 ∷ 251 ∷ 143 ∷ 185 ∷ []) 0 (9 ∷ 9 ∷ 9 ∷ 9 ∷ [])) (read_part (record { code = (C.Small 65); size = 2; start = binary_offset 6; raw = 0; text = 4; tags = 0 }) (0 ∷ 0 ∷ 0 ∷ 0 ∷ 0 ∷ 0 ∷ 0 ∷ 0 ∷ 0 ∷ 0 ∷ 0 ∷ []) (45 ∷ 52 ∷ 45 ∷ 53 ∷ []) []) ∷  -- `4AAB-4-5` in B, room 4: the characters, and an empty part
    asked (ReadBinary (224 ∷ 0 ∷ 1 ∷ 251 ∷ 143 ∷ 185 ∷ []) 0 (9 ∷ 9 ∷ 9 ∷ [])) (refused 3 0 (9 ∷ 9 ∷ 9 ∷ [])) ∷  -- room 3: 3 in B too
    asked (ReadBinary (48 ∷ 0 ∷ 1 ∷ 232 ∷ 0 ∷ 1 ∷ 0 ∷ 0 ∷ 62 ∷ []) 3 (9 ∷ 9 ∷ [])) (read_part (record { code = (C.Small 65); size = 2; start = binary_offset 6; raw = 0; text = 1; tags = 0 }) (0 ∷ 0 ∷ 0 ∷ 0 ∷ 0 ∷ 0 ∷ 0 ∷ 0 ∷ 0 ∷ 0 ∷ 0 ∷ []) (45 ∷ 9 ∷ []) []) ∷  -- `MAAB6AABAAA-` in B at 3, room 2
    asked (WriteText (C.Small 65) (33 ∷ 33 ∷ 33 ∷ 33 ∷ 33 ∷ 33 ∷ 33 ∷ 33 ∷ 33 ∷ 33 ∷ 33 ∷ []) 0 (65 ∷ 33 ∷ 61 ∷ []) []) (refused 5 1 []) ∷  -- 5 at the index in the text, then 16
    asked (WriteText (C.Small 65) (33 ∷ 33 ∷ 33 ∷ 33 ∷ 33 ∷ 33 ∷ 33 ∷ 33 ∷ 33 ∷ 33 ∷ 33 ∷ []) 0 (65 ∷ 45 ∷ 52 ∷ 45 ∷ 53 ∷ []) []) (refused 16 0 []) ∷  -- 16, then 3
    []

-- ---- what it means

abbrev in_binary : Result BinaryOffset (Refusal TextOffset) → List ℕ → Outcome
in_binary (Ok n) left = written n.0 left
in_binary (Err e) left = refused e.number e.place.0 left

abbrev in_text : Result TextOffset (Refusal BinaryOffset) → List ℕ → Outcome
in_text (Ok n) left = written n.0 left
in_text (Err e) left = refused e.number e.place.0 left

abbrev reported : Result ℕ (Refusal ℕ) → List ℕ → Outcome
reported (Ok n) left = written n left
reported (Err e) left = refused e.number e.place left

abbrev found_text : Result Primitive (Refusal TextOffset) → List ℕ → List ℕ → Outcome
found_text (Ok p) tag left = read p tag left
found_text (Err e) tag left = refused e.number e.place.0 left

abbrev found_binary : Result Primitive (Refusal BinaryOffset) → List ℕ → List ℕ → List ℕ → Outcome
found_binary (Ok p) tag left part = read_part p tag left part
found_binary (Err e) tag left part = refused e.number e.place.0 (left ++ part)

abbrev wrote_text : Result TextOffset (Refusal ℕ) → List ℕ → Outcome
wrote_text (Ok n) left = written n.0 left
wrote_text (Err e) left = refused e.number e.place left

abbrev wrote_binary : Result BinaryOffset (Refusal ℕ) → List ℕ → Outcome
wrote_binary (Ok n) left = written n.0 left
wrote_binary (Err e) left = refused e.number e.place left

-- what the definitions answer; to compute it is to open all of them
unfoldable pub answered : Call → Outcome
unfolding given to_text quadlet_of first_stranger first_number text_to_binary binary_left binary_to_text text_left refusal refusals_of refusals be4 verdict_byte
    row_bytes refusal_bytes remainder_bytes concat section report report_answer report_left code_of is_primitive tags_of primitive_of judged
    read_framed reading from place_from padded no_tag value_of value_at text_at text_answer read_text value_left binary_answer
    read_binary chars_left part_at fill_for text_lead text_count W.named_fixed W.named_variable W.named
    W.raw_size W.fits_row W.raw_limit W.fits_variable W.text_limit W.fits_text W.lead_for W.count_for W.code_sextets W.raw_prefix W.tag_prefix W.row_prefix
    W.variable_header W.variable_prefix W.filled W.text_bytes W.item_bytes W.units_of W.is_fit W.is_named W.is_short W.chars_of W.chars_for W.begins_right W.writing W.written_bytes W.text_outcome W.binary_outcome
    W.write_text W.write_binary W.text_item_left W.binary_item_left
answered (ToBinary s d) = in_binary (text_to_binary s (length d)) (binary_left (text_to_binary s (length d)) s d)
answered (ToText s d) = in_text (binary_to_text s (length d)) (text_left (binary_to_text s (length d)) s d)
answered (Reports f s d) = reported (report_answer f s (length d)) (report_left (report_answer f s (length d)) f s d)
answered (ReadText s at d) = found_text (read_text s at (length d)).found (read_text s at (length d)).tag (value_left (read_text s at (length d)).found s at d)
answered (ReadBinary s at d) =
    found_binary (read_binary s at (length d)).found (read_binary s at (length d)).tag (chars_left (read_binary s at (length d)).found s at d)
    (part_at s at (read_binary s at (length d)).found)
answered (WriteText code tag tags raw d) =
    wrote_text (W.write_text code tag tags raw (length d)) (W.text_item_left (W.write_text code tag tags raw (length d)) code tag tags raw d)
answered (WriteBinary code tag tags raw d) =
    wrote_binary (W.write_binary code tag tags raw (length d)) (W.binary_item_left (W.write_binary code tag tags raw (length d)) code tag tags raw d)

-- each call is answered so
pub data Answers : List Asked → Type 0 where
  end : Answers []
  ◌&◌ : {a : Asked} {more : List Asked} → answered a.call ≡ a.gives → Answers more → Answers (a ∷ more)

-- ---- the claim

pub calls-hold : Answers calls
unfolding answered calls
calls-hold =
    refl & refl & refl & refl & refl & refl & refl & refl & refl & refl & refl & refl & refl & end

-- ---- 1, which no table shows: "stream longer than 4,194,304 characters or 3,145,728 bytes". One that is longer by one is not whole units,
-- nor is there room; one of just that length is not refused with it

pub record LimitsHold : Type 0 where
  pub text-long : (s : List ℕ) → length s ≡ 4194305 → text_to_binary s 0 ≡ refused_by 1 (text_offset 0)
  pub binary-long : (s : List ℕ) → length s ≡ 3145729 → binary_to_text s 0 ≡ refused_by 1 (binary_offset 0)
  pub binary-just : (s : List ℕ) (room : ℕ) → length s ≡ 3145728 → 4194304 ≤ room → binary_to_text s room ≡ Ok (text_offset 4194304)
  pub report-long : (s : List ℕ) → length s ≡ 4194305 → report_answer text s 0 ≡ refused_by 1 0
  pub report-long-binary : (s : List ℕ) → length s ≡ 3145729 → report_answer binary s 0 ≡ refused_by 1 0
  pub read-long : (s : List ℕ) (at : ℕ) → length s ≡ 4194305 → (read_text s at 0).found ≡ refused_by 1 (text_offset 0)
  pub read-long-binary : (s : List ℕ) (at : ℕ) → length s ≡ 3145729 → (read_binary s at 0).found ≡ refused_by 1 (binary_offset 0)

pub limits-hold : LimitsHold
unfolding text_to_binary binary_to_text report_answer read_text read_binary
limits-hold = record {
  text-long = λ s e. rw e;
  binary-long = λ s e. rw e;
  binary-just = λ s room e l. rw (e, le-ltb room 4194304 l);
  report-long = λ s e. rw e;
  report-long-binary = λ s e. rw e;
  read-long = λ s at e. rw e;
  read-long-binary = λ s at e. rw e;
}

-- ---- offsets: "with the four-to-three conversion between them"; within a unit the unit's start

pub offsets-hold : (offset_in_binary (text_offset 8) ≡ binary_offset 6) × (offset_in_binary (text_offset 11) ≡ binary_offset 6)
    × (offset_in_text (binary_offset 6) ≡ Some (text_offset 8)) × (offset_in_text (binary_offset 8) ≡ Some (text_offset 8))
    × (offset_in_text (binary_offset 3145728) ≡ Some (text_offset 4194304)) × (offset_in_text (binary_offset 3145729) ≡ None)
unfolding offset_in_binary offset_in_text
offsets-hold = (refl, refl, refl, refl, refl, refl)
