-- 01: "Where an answer is an enum, a definition gives this paper's number and values for every one of its cases." Those of conversion and
-- the report stand beside their calls, those of reading, writing and the walk where C sees them; here are the rest of this crate's. 0 is
-- accepted. Assumes nothing.
use Rattle.std.specs.Prelude.{ℕ}
use Rattle.format.specs.declared.Framed.{Framed}
use Rattle.format.specs.declared.Framed.TheVariants.{Item, Unframed}
use Rattle.format.specs.declared.Verdict.{Verdict}
use Rattle.format.specs.declared.Verdict.TheVariants.{Accepted, Refused}
use Rattle.std.specs.Prelude.{Some, None, Option}
use Rattle.format.specs.declared.TextOffset.{TextOffset}

-- framing: 0 and the full size, or 01's number and the place
unfoldable pub framed_number : Framed → ℕ
framed_number (Item k h n) = 0
framed_number (Unframed number place) = number

unfoldable pub framed_value : Framed → ℕ
framed_value (Item k h n) = n
framed_value (Unframed number place) = place

-- judging: 0, or 01's number and the place. The number is Report's verdict_byte
unfoldable pub verdict_place : Verdict → ℕ
verdict_place Accepted = 0
verdict_place (Refused number place) = place

-- an offset in text: 0 and the offset, or 1, since a text that has such an offset is longer than the longest stream
unfoldable pub in_text_number : Option TextOffset → ℕ
in_text_number (Some offset) = 0
in_text_number None = 1

unfoldable pub in_text_value : Option TextOffset → ℕ
in_text_value (Some offset) = offset.0
in_text_value None = 0
