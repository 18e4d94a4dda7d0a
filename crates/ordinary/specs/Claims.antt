-- 02's request j, over the definitions of format and of the walk. Statements only, a field a sentence, each below 02's own words in quotes.
-- What the words mean is in Words. Proved in Proved. A binary has no characters: its reader gives neither 5 nor 19 (claims' Demand1). That
-- the numbers stand in 01's order, 19 beside 5, is Demand1 and the walk's `refuses`; the table's marks are LookupClaims. Assumes nothing.
use Rattle.std.specs.Prelude.{ℕ, ◌≡◌, List, map, length}
use Rattle.format.specs.declared.TextOffset.{TextOffset}
use Rattle.format.specs.declared.Code.{Code}
use Rattle.format.specs.declared.Framed.TheVariants.{Unframed}
use Rattle.format.specs.declared.Verdict.TheVariants.{Refused}
use Rattle.format.specs.Units.{text}
use Rattle.format.specs.Conversion.{text_to_binary, binary_left}
use Rattle.format.specs.Report.{RefusalRow, rows_in, refusals_in, remainder_in, frame_in, judge_in, report, report_answer}
use Rattle.format.specs.Reading.{read_text, value_left}
use Rattle.format.specs.Writing.{named, chars_of, write_text, text_item_left, write_binary, binary_item_left}
use Rattle.format.specs.Indexed.{read_indexed_text, indexed_left}
use Rattle.walk_state.specs.declared.Walk.{Walk}
use Rattle.walk_state.specs.declared.Found.TheVariants as F
use Rattle.walk_state.specs.Walking.{step_in}
use Rattle.walk_claims.specs.Words.{after}
use Rattle.ordinary.specs.Words.{masked, masked_text, OrdinaryAt, as_five, verdict_five, framed_five, row_five, refusal_five, remainder_five, report_five}
use Rattle.ordinary.specs.Words.{to_binary_five, text_read_five, text_indexed_five, text_written_five, binary_written_five, stepped_five, Exactly, Each}
use Rattle.format.specs.Refusals.{refused_by}

-- ---- "every caller should report them as number 19 where they would have given 5, at the same place in the same order." If `!` stands for
-- each of the three, each answer is the same, but that 5 is given for 19

pub record MaskedClaims : Type 0 where
  -- the report: its lists row by row, its bytes, and what the call answers
  pub items : (s : List ℕ) → rows_in text (masked s) ≡ map row_five (rows_in text s)
  pub refused : (s : List ℕ) → refusals_in text (masked s) ≡ map refusal_five (refusals_in text s)
  pub left : (s : List ℕ) → remainder_in text (masked s) ≡ map remainder_five (remainder_in text s)
  pub report-bytes : (s : List ℕ) → report text (masked s) ≡ report_five s
  pub reports : (s : List ℕ) (room : ℕ) → report_answer text (masked s) room ≡ report_answer text s room
  -- conversion, and what the buffer that held d holds afterwards
  pub converts : (s : List ℕ) (room : ℕ) → text_to_binary (masked s) room ≡ to_binary_five (text_to_binary s room)
  pub converts-left : (s d : List ℕ)
      → binary_left (text_to_binary (masked s) (length d)) (masked s) d ≡ binary_left (text_to_binary s (length d)) s d
  -- reading a primitive
  pub reads : (s : List ℕ) (at room : ℕ) → read_text (masked s) at room ≡ text_read_five (read_text s at room)
  pub reads-left : (s : List ℕ) (at : ℕ) (d : List ℕ)
      → value_left (read_text (masked s) at (length d)).found (masked s) at d ≡ value_left (read_text s at (length d)).found s at d
  -- reading an indexed item (02 a); what its writer is given has no characters
  pub reads-indexed : (s : List ℕ) (at room : ℕ) → read_indexed_text (masked s) at room ≡ text_indexed_five (read_indexed_text s at room)
  pub reads-indexed-left : (s : List ℕ) (at : ℕ) (d : List ℕ)
      → indexed_left (read_indexed_text (masked s) at (length d)) (masked s) at d ≡ indexed_left (read_indexed_text s at (length d)) s at d
  -- writing a primitive, of its tag characters, and of a text's own (02 c)
  pub writes-text : (code : Code) (tag : List ℕ) (tags : ℕ) (raw : List ℕ) (room : ℕ)
      → write_text code (masked tag) tags (masked_text (named code) raw) room ≡ text_written_five (write_text code tag tags raw room)
  pub text-left : (code : Code) (tag : List ℕ) (tags : ℕ) (raw d : List ℕ) → let chars = masked_text (named code) raw in
      text_item_left (write_text code (masked tag) tags chars (length d)) code (masked tag) tags chars d
      ≡ text_item_left (write_text code tag tags raw (length d)) code tag tags raw d
  pub writes-binary : (code : Code) (tag : List ℕ) (tags : ℕ) (raw : List ℕ) (room : ℕ)
      → write_binary code (masked tag) tags (masked_text (named code) raw) room ≡ binary_written_five (write_binary code tag tags raw room)
  pub binary-left : (code : Code) (tag : List ℕ) (tags : ℕ) (raw d : List ℕ) → let chars = masked_text (named code) raw in
      binary_item_left (write_binary code (masked tag) tags chars (length d)) code (masked tag) tags chars d
      ≡ binary_item_left (write_binary code tag tags raw (length d)) code tag tags raw d
  -- a step of the walk from any state, and so the states all along
  pub steps : (s : List ℕ) (w : Walk) → step_in text (masked s) w ≡ stepped_five (step_in text s w)
  pub walks : (s : List ℕ) (k : ℕ) → after text (masked s) k ≡ after text s k

-- ---- "the first bad character is reported, of whichever kind": 19 is given exactly where 5 would be, at the place of one of the three

pub record NineteenClaims : Type 0 where
  -- the report: an item that is framed or not, its verdict by its own characters, and each refusal row with its place in the stream
  pub framed : (s : List ℕ) (p : ℕ) → Exactly (frame_in text s ≡ Unframed 19 p) ((frame_in text (masked s) ≡ Unframed 5 p) × OrdinaryAt s p)
  pub judged : (s : List ℕ) (p : ℕ) → Exactly (judge_in text s ≡ Refused 19 p) ((judge_in text (masked s) ≡ Refused 5 p) × OrdinaryAt s p)
  pub rows : (s : List ℕ) → Each (λ r. Exactly (r.number ≡ 19) (((refusal_five r).number ≡ 5) × OrdinaryAt s r.place)) (refusals_in text s)
  pub converted : (s : List ℕ) (room : ℕ) (p : TextOffset)
      → Exactly (text_to_binary s room ≡ refused_by 19 p) ((text_to_binary (masked s) room ≡ refused_by 5 p) × OrdinaryAt s p.0)
  pub read : (s : List ℕ) (at room : ℕ) (p : TextOffset)
      → Exactly ((read_text s at room).found ≡ refused_by 19 p) (((read_text (masked s) at room).found ≡ refused_by 5 p) × OrdinaryAt s p.0)
  pub read-indexed : (s : List ℕ) (at room : ℕ) (p : TextOffset)
      → Exactly (read_indexed_text s at room ≡ refused_by 19 p) ((read_indexed_text (masked s) at room ≡ refused_by 5 p) × OrdinaryAt s p.0)
  -- a writer's place is that among the characters asked: a text's own, for every other code the tag's
  pub written-text : (code : Code) (tag : List ℕ) (tags : ℕ) (raw : List ℕ) (room p : ℕ)
      → Exactly (write_text code tag tags raw room ≡ refused_by 19 p)
      ((write_text code (masked tag) tags (masked_text (named code) raw) room ≡ refused_by 5 p) × OrdinaryAt (chars_of (named code) tag raw) p)
  pub written-binary : (code : Code) (tag : List ℕ) (tags : ℕ) (raw : List ℕ) (room p : ℕ)
      → Exactly (write_binary code tag tags raw room ≡ refused_by 19 p)
      ((write_binary code (masked tag) tags (masked_text (named code) raw) room ≡ refused_by 5 p) × OrdinaryAt (chars_of (named code) tag raw) p)
  pub stepped : (s : List ℕ) (w : Walk) (p : ℕ)
      → Exactly ((step_in text s w).found ≡ F.Refused 19 p) (((step_in text (masked s) w).found ≡ F.Refused 5 p) × OrdinaryAt s p)

-- ---- all of it

pub record OrdinaryClaims : Type 0 where
  pub as-five : MaskedClaims
  pub exactly : NineteenClaims
