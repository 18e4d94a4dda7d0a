-- 01, "Reading a primitive at an offset: 1, 4 at or past the end, framing (never 7), 14, judging, then 3 for T, where raw is
-- copied out. In B the raw value is handed back as the part of the binary stream where it lies. Up to eleven tag characters come
-- by value with their number, unused places 0." 02 c, of type `A`: "Characters are copied out in both forms, with 3 when room is
-- short". Assumes nothing.
use Rattle.std.specs.Prelude.{ℕ, ◌+◌, ◌-◌, ◌*◌, ◌/◌, ◌%◌, List, [], ◌++◌, Bool, true, false, ltb, leb, eqb, length, take, drop, replicate}
use Rattle.base.specs.Pick.{pick}
use Rattle.format.specs.declared.CodeRow.{CodeRow}
use Rattle.format.specs.declared.Kind.{Kind}
use Rattle.format.specs.declared.Kind.TheVariants.{Fixed, Variable, Group, Genus, Indexed}
use Rattle.format.specs.declared.Framed.{Framed}
use Rattle.format.specs.declared.Framed.TheVariants.{Item, Unframed}
use Rattle.format.specs.declared.Verdict.{Verdict}
use Rattle.format.specs.declared.Verdict.TheVariants.{Accepted, Refused}
use Rattle.format.specs.declared.Code.{Code}
use Rattle.format.specs.declared.Code.TheVariants as C
use Rattle.format.specs.declared.Primitive.{Primitive}
use Rattle.format.specs.declared.PrimitiveRead.{PrimitiveRead}
use Rattle.format.specs.Alphabet.{char_of}
use Rattle.format.specs.Units.{Domain, text, binary}
use Rattle.format.specs.Offsets.{text_offset, binary_offset}
use Rattle.format.specs.Framing.{frame}
use Rattle.format.specs.Judging.{judge_kind, own_check}
use Rattle.format.specs.Values.{raw_start, text_in, value_of, tag_of}
use Rattle.std.specs.Prelude.{Ok, Err, Result}
use Rattle.format.specs.declared.Refusal.{Refusal}
use Rattle.format.specs.Refusals.{refused_by}
use Rattle.format.specs.declared.TextOffset.{TextOffset}
use Rattle.format.specs.declared.BinaryOffset.{BinaryOffset}

-- ---- what a framed item is, in a caller's words

-- a primitive's code: the kind and the header's units, which tell small from large
unfoldable pub code_of : Kind → ℕ → Code
code_of (Fixed c) h = C.Fixed c.chars (char_of c.letter)
code_of (Variable t lead count) h = pick (eqb h 1) (C.Small (char_of t)) (C.Large (char_of t))
code_of (Group letter) h = C.Fixed 0 0
code_of Genus h = C.Fixed 0 0
code_of (Indexed c) h = C.Fixed 0 0

unfoldable pub is_primitive : Kind → Bool
is_primitive (Fixed c) = true
is_primitive (Variable t lead count) = true
is_primitive (Group letter) = false
is_primitive Genus = false
is_primitive (Indexed c) = false

unfoldable pub tags_of : Kind → ℕ
tags_of (Fixed c) = c.tag
tags_of (Variable t lead count) = 0
tags_of (Group letter) = 0
tags_of Genus = 0
tags_of (Indexed c) = 0

-- a framed primitive of n units; text: how many characters a text has
unfoldable pub primitive_of : Kind → ℕ → ℕ → ℕ → Primitive
primitive_of k h n text =
    record { code = code_of k h; size = n; start = binary_offset (raw_start k h); raw = 3 * n - raw_start k h; text = text; tags = tags_of k }

-- ---- one order for both forms, on the sextets from the item's start to the stream's end; places in sextets

pub data Reading : Type 0 where
  refused : ℕ → ℕ → Reading
  found : Kind → ℕ → ℕ → Reading  -- kind, header and full size in units

unfoldable pub judged : Kind → ℕ → ℕ → Verdict → Reading
judged k h n Accepted = found k h n
judged k h n (Refused m p) = refused m p

-- 14, judging
unfoldable pub read_framed : Framed → List ℕ → Reading
read_framed (Unframed m p) s = refused m p
read_framed (Item k h n) s = pick (is_primitive k) (judged k h n (judge_kind k h (take (4 * n) s) (own_check 0))) (refused 14 0)

-- 4 at the end, framing, 14, judging
unfoldable pub reading : List ℕ → Reading
reading s = read_framed (frame s) s

-- the part of a stream from an offset on: none where the offset is at or past the end, which framing refuses with 4
unfoldable pub from : ℕ → List ℕ → List ℕ
from at s = drop at s

-- the place of a refusal in the stream, p being in sextets from the offset on
unfoldable pub place_from : ℕ → ℕ → ℕ → ℕ
place_from u at p = at + (p / 4 * u + p % 4)

-- eleven places, the tag characters first
unfoldable pub padded : List ℕ → List ℕ
padded cs = cs ++ replicate (11 - length cs) 0

unfoldable pub no_tag : List ℕ
no_tag = replicate 11 0

-- ---- what is copied out, of the stream's sextets from the offset on: in T raw value and text, in B the text alone

unfoldable pub value_at : Reading → List ℕ → List ℕ
value_at (refused m p) s = []
value_at (found k h n) s = value_of k h (take (4 * n) s)

unfoldable pub text_at : Reading → List ℕ → List ℕ
text_at (refused m p) s = []
text_at (found k h n) s = text_in k h (take (4 * n) s)

-- ---- text: 3 where there is no room

unfoldable pub text_answer : ℕ → Reading → List ℕ → ℕ → PrimitiveRead TextOffset
text_answer at (refused m p) s room = record { found = refused_by m (text_offset (place_from 4 at p)); tag = no_tag }
text_answer at (found k h n) s room =
    pick (ltb room (length (value_at (found k h n) s))) (record { found = refused_by 3 (text_offset 0); tag = no_tag })
    (record { found = Ok (primitive_of k h n (length (text_at (found k h n) s))); tag = padded (tag_of k (take (4 * n) s)) })

unfoldable pub read_text : List ℕ → ℕ → ℕ → PrimitiveRead TextOffset
read_text xs at room =
    pick (ltb text.limit (length xs)) (record { found = refused_by 1 (text_offset 0); tag = no_tag })
    (text_answer at (reading (text.sextets (from at xs))) (text.sextets (from at xs)) room)

-- what a buffer that held d holds afterwards: the raw value or the text from its start
unfoldable pub value_left : Result Primitive (Refusal TextOffset) → List ℕ → ℕ → List ℕ → List ℕ
value_left (Ok p) xs at d = value_at (reading (text.sextets (from at xs))) (text.sextets (from at xs)) ++ drop (p.raw + p.text) d
value_left (Err e) xs at d = d

-- ---- binary: raw is handed back as a part; 3 where there is no room for a text

unfoldable pub binary_answer : ℕ → Reading → List ℕ → ℕ → PrimitiveRead BinaryOffset
binary_answer at (refused m p) s room = record { found = refused_by m (binary_offset (place_from 3 at p)); tag = no_tag }
binary_answer at (found k h n) s room =
    pick (ltb room (length (text_at (found k h n) s))) (record { found = refused_by 3 (binary_offset 0); tag = no_tag })
    (record { found = Ok (primitive_of k h n (length (text_at (found k h n) s))); tag = padded (tag_of k (take (4 * n) s)) })

unfoldable pub read_binary : List ℕ → ℕ → ℕ → PrimitiveRead BinaryOffset
read_binary xs at room =
    pick (ltb binary.limit (length xs)) (record { found = refused_by 1 (binary_offset 0); tag = no_tag })
    (binary_answer at (reading (binary.sextets (from at xs))) (binary.sextets (from at xs)) room)

-- what a buffer that held d holds afterwards: the text from its start
unfoldable pub chars_left : Result Primitive (Refusal BinaryOffset) → List ℕ → ℕ → List ℕ → List ℕ
chars_left (Ok p) xs at d = text_at (reading (binary.sextets (from at xs))) (binary.sextets (from at xs)) ++ drop p.text d
chars_left (Err e) xs at d = d

-- the part where the raw value lies, and an empty one where the read is refused
unfoldable pub part_at : List ℕ → ℕ → Result Primitive (Refusal BinaryOffset) → List ℕ
part_at xs at (Ok p) = take p.raw (drop (at + p.start.0) xs)
part_at xs at (Err e) = []
