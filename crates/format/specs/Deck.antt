-- The form of an example and what it means, and the table of examples that tells each number from the one asked next. Text is written by
-- its characters' numbers, with the text behind it; what is expected is 01's word. 01's deck itself is in crate `format_deck`: what stands
-- here is what is quickest to refuse a wrong definition. Assumes nothing.
use Rattle.std.specs.Prelude.{ℕ, zero, suc, ◌+◌, ◌*◌, ◌/◌, ◌%◌, ◌≡◌, refl, true, false, List, [], ◌∷◌, length}
use Rattle.base.specs.Each.{each}
use Rattle.format.specs.declared.Framed.{Framed}
use Rattle.format.specs.declared.Framed.TheVariants.{Item, Unframed}
use Rattle.format.specs.declared.Verdict.{Verdict}
use Rattle.format.specs.declared.Verdict.TheVariants.{Accepted, Refused}
use Rattle.format.specs.Alphabet.{sextet_of, stranger_number, char_of}
use Rattle.format.specs.Units.{Domain, text, binary, bytes_of, sextets_of, triplet_of, text_sextets, binary_sextets}
use Rattle.format.specs.Conversion.{to_binary}
use Rattle.format.specs.Registry.{codes, is_type, is_text, is_group, is_indexed, is_overrideable, fixed_among, fixed, opening, extent}
use Rattle.format.specs.Registry.{indexed_codes, index_head, indexed_row, indexed_among, indexed_by, indexed_opening}
use Rattle.format.specs.Framing.{fit, known, second, headed, frame_with, is_ours, ruled, frame, frame_ruled, frame_indexed, frame_next, scale}
use Rattle.format.specs.Cutting.{cut_by, cut_f, cut}
use Rattle.format.specs.Judging.{shift, and_then, unless, is_shortest, scan, behind, has_lead, zero_bits, prepad_right, judge_kind, judge_by}
use Rattle.format.specs.Judging.{ondex_right, in_turn, frame4, frame_next4, contents, own_check, group, judge_with}
use Rattle.format.specs.Report.{ItemRow, RemainderRow, rows_of, remainder_of, refusal, refusals_of, rows, refusals, remainder}
use Rattle.format.specs.Report.{placed, frame_in, judge_in, rows_in, remainder_in}
use Rattle.format.specs.Report.{be4, verdict_byte, row_bytes, refusal_bytes, remainder_bytes, concat, section, report}
use Rattle.format.specs.Values.{bytes_in, raw_start, raw_of, ondex_of, text_in, tag_of}
use Rattle.format.specs.Texts.{fills, fill_of, text_right, value_right, text_of}

infixr 5 ◌&◌
-- ---- what 01 says of a stream

pub data Expected : Type 0 where
  accepted : Expected  -- one item, accepted
  raw : List ℕ → Expected  -- one item, accepted, with this raw value
  tag : List ℕ → Expected  -- one item, accepted, with these tag characters
  spells : List ℕ → Expected  -- one item, accepted, a text of these characters
  in_binary : List ℕ → Expected  -- one item, accepted, which is this in B
  refused : ℕ → ℕ → Expected  -- one item, refused: number, and place in text
  unframed : ℕ → ℕ → Expected  -- no item, a remainder: number, and offset in text

pub record Example : Type 0 where
  pub stream : List ℕ  -- in text
  pub gives : Expected

abbrev pub example : List ℕ → Expected → Example
example s e = record { stream = s; gives = e }

-- so many `-A` groups, each holding the next one alone, and the last one ys
unfoldable pub around : ℕ → List ℕ → List ℕ
around zero ys = ys
around (suc n) ys = 45 ∷ 65 ∷ char_of ((n + length ys / 4) / 64) ∷ char_of ((n + length ys / 4) % 64) ∷ around n ys

-- ---- the order of the numbers: "Framing an item: 4 (first unit), 5 (its first bad character), 6, 4 (second unit), 5, 4 (extent)",
-- "Judging a framed primitive: 5 behind the header, 9, 8, 10", "Judging a group: 11, then its items one by one"; by 02 h 18 "directly after
-- 11 for groups" and "before 9 for primitives"; by 02 c 16 after 8

unfoldable pub order : List Example
order =
    example (77 ∷ 33 ∷ 65 ∷ []) (unframed 4 0) ∷  -- `M!A`: 4 (first unit), then 5
    example (98 ∷ 33 ∷ 33 ∷ 65 ∷ []) (unframed 5 0) ∷  -- `b!!A`: 5, then 6
    example (55 ∷ 65 ∷ 65 ∷ 71 ∷ []) (unframed 6 0) ∷  -- `7AAG`: 6, then 4 (second unit)
    example (55 ∷ 65 ∷ 65 ∷ 66 ∷ 33 ∷ 65 ∷ 65 ∷ []) (unframed 4 0) ∷  -- `7AAB!AA`: 4 (second unit), then 5
    example (55 ∷ 65 ∷ 65 ∷ 66 ∷ 33 ∷ 65 ∷ 65 ∷ 66 ∷ []) (unframed 5 0) ∷  -- `7AAB!AAB`: 5, then 4 (extent)
    example (45 ∷ 95 ∷ 65 ∷ 65 ∷ 65 ∷ 66 ∷ 65 ∷ 65 ∷ []) (unframed 7 0) ∷  -- `-_AAABAA`: at top level 7 is part of framing
    example (48 ∷ 72 ∷ 69 ∷ 65 ∷ 65 ∷ 33 ∷ 65 ∷ 65 ∷ []) (refused 5 5) ∷  -- `0HEAA!AA`: 5 behind the header, then 8
    example (56 ∷ 65 ∷ 65 ∷ 66 ∷ 65 ∷ 65 ∷ 65 ∷ 66 ∷ []) (unframed 4 0) ∷  -- `8AABAAAB`: 4 (extent), then 18
    example (56 ∷ 65 ∷ 65 ∷ 66 ∷ 65 ∷ 65 ∷ 65 ∷ 66 ∷ 95 ∷ 65 ∷ 65 ∷ 33 ∷ []) (refused 5 11) ∷  -- `8AABAAAB_AA!`: 5 behind the header, then 18
    example (56 ∷ 65 ∷ 65 ∷ 66 ∷ 65 ∷ 65 ∷ 65 ∷ 65 ∷ []) (refused 18 0) ∷  -- `8AABAAAA`: 18, then 9
    example (56 ∷ 65 ∷ 65 ∷ 66 ∷ 65 ∷ 65 ∷ 65 ∷ 66 ∷ 95 ∷ 65 ∷ 65 ∷ 65 ∷ []) (refused 18 0) ∷  -- `8AABAAAB_AAA`: 18, then 8
    example (around 64 (45 ∷ 45 ∷ 65 ∷ 65 ∷ 65 ∷ 65 ∷ 65 ∷ 65 ∷ [])) (refused 11 256) ∷  -- within 64 groups: 11, then 18
    example (45 ∷ 45 ∷ 65 ∷ 65 ∷ 65 ∷ 65 ∷ 65 ∷ 66 ∷ 77 ∷ 81 ∷ 65 ∷ 65 ∷ []) (refused 18 0) ∷  -- `--AAAAABMQAA`: 18, then its items
    example (45 ∷ 45 ∷ 65 ∷ 65 ∷ 65 ∷ 65 ∷ 65 ∷ 67 ∷ 45 ∷ 95 ∷ 65 ∷ 65 ∷ 65 ∷ 66 ∷ 65 ∷ 65 ∷ []) (refused 18 0) ∷  -- `--AAAAAC-_AAABAA`: an inner 7 too
    example (45 ∷ 45 ∷ 75 ∷ 65 ∷ 65 ∷ 65 ∷ 65 ∷ 66 ∷ 33 ∷ 65 ∷ 65 ∷ 65 ∷ []) (refused 18 0) ∷  -- `--KAAAAB!AAA`: of `-K` too
    example (45 ∷ 75 ∷ 65 ∷ 66 ∷ 65 ∷ 65 ∷ 33 ∷ 65 ∷ []) (refused 5 6) ∷  -- `-KABAA!A`: an inner 5
    -- 02 j: "report them as number 19 where they would have given 5, at the same place in the same order .. the first bad character is
    -- reported, of whichever kind"
    example (77 ∷ 43 ∷ 65 ∷ []) (unframed 4 0) ∷  -- `M+A`: 4 (first unit), then 19
    example (98 ∷ 43 ∷ 33 ∷ 65 ∷ []) (unframed 19 0) ∷  -- `b+!A`: 19, then 6
    example (77 ∷ 65 ∷ 43 ∷ 33 ∷ []) (unframed 19 0) ∷  -- `MA+!`: the first is ordinary
    example (77 ∷ 65 ∷ 33 ∷ 43 ∷ []) (unframed 5 0) ∷  -- `MA!+`: the first is not
    example (55 ∷ 65 ∷ 65 ∷ 66 ∷ 61 ∷ 65 ∷ 65 ∷ []) (unframed 4 0) ∷  -- `7AAB=AA`: 4 (second unit), then 19
    example (55 ∷ 65 ∷ 65 ∷ 66 ∷ 43 ∷ 65 ∷ 65 ∷ 66 ∷ []) (unframed 19 0) ∷  -- `7AAB+AAB`: 19 in the second unit, then 4 (extent)
    example (48 ∷ 72 ∷ 69 ∷ 65 ∷ 65 ∷ 61 ∷ 47 ∷ 33 ∷ []) (refused 19 5) ∷  -- `0HEAA=/!`: 19 behind the header, then 8
    example (48 ∷ 72 ∷ 68 ∷ 65 ∷ 65 ∷ 33 ∷ 61 ∷ 61 ∷ []) (refused 5 5) ∷  -- `0HDAA!==`: 5, and no 19 behind it
    example (45 ∷ 75 ∷ 65 ∷ 66 ∷ 65 ∷ 65 ∷ 47 ∷ 65 ∷ []) (refused 19 6) ∷  -- `-KABAA/A`: an inner 19
    example (45 ∷ 65 ∷ 65 ∷ 66 ∷ 77 ∷ 65 ∷ 65 ∷ 61 ∷ []) (refused 19 7) ∷  -- `-AABMAA=`: an inner 19 is the item's verdict
    example (77 ∷ 44 ∷ 65 ∷ 65 ∷ []) (unframed 5 0) ∷  -- `M,AA`: the neighbours of the three are other strangers
    example (77 ∷ 46 ∷ 65 ∷ 65 ∷ []) (unframed 5 0) ∷  -- `M.AA`
    example (77 ∷ 42 ∷ 65 ∷ 65 ∷ []) (unframed 5 0) ∷  -- `M*AA`
    example (77 ∷ 60 ∷ 65 ∷ 65 ∷ []) (unframed 5 0) ∷  -- `M<AA`
    example (77 ∷ 62 ∷ 65 ∷ 65 ∷ []) (unframed 5 0) ∷  -- `M>AA`
    -- 02 c: 16 "Judged after 8"
    example (53 ∷ 65 ∷ 65 ∷ 65 ∷ []) (refused 9 0) ∷  -- `5AAA`: 9, then 16
    example (54 ∷ 65 ∷ 65 ∷ 65 ∷ []) (refused 9 0) ∷  -- `6AAA`
    example (53 ∷ 65 ∷ 65 ∷ 66 ∷ 81 ∷ 65 ∷ 66 ∷ 67 ∷ []) (refused 8 0) ∷  -- `5AABQABC`: 8, then 16
    example (53 ∷ 65 ∷ 65 ∷ 66 ∷ 65 ∷ 81 ∷ 66 ∷ 67 ∷ []) (refused 8 0) ∷  -- `5AABAQBC`: the lead byte ends in the second character
    example (54 ∷ 65 ∷ 65 ∷ 66 ∷ 65 ∷ 66 ∷ 67 ∷ 68 ∷ []) (refused 8 0) ∷  -- `6AABABCD`: 8, then 16
    example (54 ∷ 65 ∷ 65 ∷ 66 ∷ 65 ∷ 65 ∷ 81 ∷ 67 ∷ []) (refused 8 0) ∷  -- `6AABAAQC`: the second lead byte ends in the third
    example (55 ∷ 65 ∷ 65 ∷ 65 ∷ 65 ∷ 65 ∷ 65 ∷ 66 ∷ 65 ∷ 65 ∷ 65 ∷ 65 ∷ []) (refused 18 0) ∷  -- `7AAAAAABAAAA`: 18, then 16
    example (55 ∷ 65 ∷ 65 ∷ 65 ∷ 65 ∷ 65 ∷ 65 ∷ 65 ∷ []) (refused 18 0) ∷  -- `7AAAAAAA`: the empty text, large
    example (52 ∷ 65 ∷ 65 ∷ 66 ∷ 65 ∷ 65 ∷ 65 ∷ 33 ∷ []) (refused 5 7) ∷  -- `4AABAAA!`: 5 behind the header, then 16
    example (52 ∷ 65 ∷ 65 ∷ 66 ∷ 65 ∷ 65 ∷ 61 ∷ 65 ∷ []) (refused 19 6) ∷  -- `4AABAA=A`: 19, then 16
    example (45 ∷ 65 ∷ 65 ∷ 67 ∷ 52 ∷ 65 ∷ 65 ∷ 66 ∷ 65 ∷ 65 ∷ 65 ∷ 65 ∷ []) (refused 16 4) ∷  -- `-AAC4AABAAAA`: in a group, at the item's start
    example (45 ∷ 65 ∷ 65 ∷ 67 ∷ 53 ∷ 65 ∷ 65 ∷ 66 ∷ 65 ∷ 66 ∷ 67 ∷ 68 ∷ []) (refused 16 4) ∷  -- `-AAC5AABABCD`: without the full fill too
    -- 02 a: "The header is one unit, or two for selectors 2 and 3"
    example (45 ∷ 75 ∷ 65 ∷ 67 ∷ 50 ∷ 65 ∷ 65 ∷ 65 ∷ 33 ∷ 65 ∷ 65 ∷ 65 ∷ []) (refused 5 8) ∷  -- `-KAC2AAA!AAA`: 5 in the second unit, then 4 (extent)
    example (45 ∷ 65 ∷ 65 ∷ 68 ∷ 45 ∷ 95 ∷ 65 ∷ 65 ∷ 65 ∷ 66 ∷ 65 ∷ 65 ∷ 77 ∷ 81 ∷ 65 ∷ 65 ∷ []) (refused 7 4) ∷  -- `-AAD-_AAABAAMQAA`: an inner 7, then the next item
    -- `-AACMQAA_AAA`: the first refusal stands, with number and place
    example (45 ∷ 65 ∷ 65 ∷ 67 ∷ 77 ∷ 81 ∷ 65 ∷ 65 ∷ 95 ∷ 65 ∷ 65 ∷ 65 ∷ []) (refused 8 4) ∷
    []

-- ---- what it means

pub record Seen : Type 0 where
  pub items : List ItemRow
  pub left : List RemainderRow
  pub value : List ℕ  -- what is asked of the item: raw value, tag characters, bytes; or nothing

abbrev pub value_by : Expected → Framed → List ℕ → List ℕ
value_by (raw bytes) (Item k h n) s = raw_of k h s
value_by (tag chars) (Item k h n) s = tag_of k s
value_by (spells cs) (Item k h n) s = text_in k h s
value_by (in_binary bytes) (Item k h n) s = bytes_in s
value_by accepted (Item k h n) s = []
value_by (refused n p) (Item k h m) s = []
value_by (unframed n o) (Item k h m) s = []
value_by e (Unframed n p) s = []

-- what the definitions give of a stream; to compute it is to open all of them
unfoldable pub given : Domain → List ℕ → Expected → Seen
unfolding around char_of rows remainder rows_of remainder_of cut cut_f cut_by frame_in judge_in placed frame_ruled frame frame_indexed frame_next
    frame_with ruled is_ours headed second known fit opening extent fixed fixed_among codes is_type is_text is_group is_indexed is_overrideable
    indexed_opening indexed_by indexed_among indexed_codes indexed_row index_head scale text_sextets sextet_of stranger_number judge_with judge_by
    judge_kind group own_check in_turn contents frame4 frame_next4 and_then shift unless is_shortest scan behind zero_bits has_lead prepad_right
    ondex_right ondex_of fills fill_of text_right value_right text_of text_in binary_sextets sextets_of bytes_of triplet_of to_binary each raw_start raw_of
    tag_of bytes_in
given d xs e = record { items = rows_in d xs; left = remainder_in d xs; value = value_by e (frame (d.sextets xs)) (d.sextets xs) }

-- one item that is the whole stream
abbrev pub only : List ℕ → Verdict → List ℕ → Seen
only xs v value = record { items = record { offset = 0; size = length xs; verdict = v } ∷ []; left = []; value = value }

-- a place in text as one in the domain
abbrev pub in_domain : Domain → ℕ → ℕ
in_domain d p = p / 4 * d.unit + p % 4

abbrev pub expected : Domain → List ℕ → Expected → Seen
expected d xs accepted = only xs Accepted []
expected d xs (raw bytes) = only xs Accepted bytes
expected d xs (tag chars) = only xs Accepted chars
expected d xs (spells cs) = only xs Accepted cs
expected d xs (in_binary bytes) = only xs Accepted bytes
expected d xs (refused n p) = only xs (Refused n (in_domain d p)) []
expected d xs (unframed n o) = record { items = []; left = record { offset = in_domain d o; number = n } ∷ []; value = [] }

-- a stream, in the form that is asked, gives what is expected
abbrev pub Gives : Domain → (List ℕ → List ℕ) → Example → Type 0
Gives d form e = given d (form e.stream) e.gives ≡ expected d (form e.stream) e.gives

-- and so do all
pub data Holds (d : Domain) (form : List ℕ → List ℕ) : List Example → Type 0 where
  end : Holds d form []
  ◌&◌ : {e : Example} {es : List Example} → Gives d form e → Holds d form es → Holds d form (e ∷ es)

-- ---- the claim

-- the order, in text: some of its characters are outside the alphabet
pub order-holds : Holds text (λ s. s) order
unfolding given order
order-holds =
    refl & refl & refl & refl & refl & refl & refl & refl & refl & refl & refl & refl & refl & refl & refl & refl &
    refl & refl & refl & refl & refl & refl & refl & refl & refl & refl & refl & refl & refl & refl & refl & refl &
    refl & refl & refl & refl & refl & refl & refl & refl & refl & refl & refl & refl & refl & refl & end

-- 02 h: "A large group below 4,096 units is thus 18, and `--AAABAA` with its 4,096 units still passes": the number itself
pub least-large : (is_shortest 2 4095 ≡ false) × (is_shortest 2 4096 ≡ true)
unfolding is_shortest
least-large = (refl, refl)

-- ---- reports

-- `-AAB0AAAMAAB`: 39 bytes, room 53
abbrev pub two : List ℕ
two = 45 ∷ 65 ∷ 65 ∷ 66 ∷ 48 ∷ 65 ∷ 65 ∷ 65 ∷ 77 ∷ 65 ∷ 65 ∷ 66 ∷ []

pub report-39 : (report text two ≡ 0 ∷ 0 ∷ 0 ∷ 2
    ∷ 0 ∷ 0 ∷ 0 ∷ 0 ∷ 0 ∷ 0 ∷ 0 ∷ 8 ∷ 4
    ∷ 0 ∷ 0 ∷ 0 ∷ 8 ∷ 0 ∷ 0 ∷ 0 ∷ 4 ∷ 0
    ∷ 0 ∷ 0 ∷ 0 ∷ 1
    ∷ 0 ∷ 0 ∷ 0 ∷ 0 ∷ 4 ∷ 0 ∷ 0 ∷ 0 ∷ 4
    ∷ 0 ∷ 0 ∷ 0 ∷ 0 ∷ [])
    × (length (report text two) ≡ 39) × (17 + 18 * length (rows_in text two) ≡ 53)
unfolding given refusals refusals_of refusal report section concat be4 row_bytes refusal_bytes remainder_bytes verdict_byte
report-39 = (refl, refl, refl)

-- "Empty stream: twelve zero bytes, room 17"
pub report-empty : (report text [] ≡ 0 ∷ 0 ∷ 0 ∷ 0 ∷ 0 ∷ 0 ∷ 0 ∷ 0 ∷ 0 ∷ 0 ∷ 0 ∷ 0 ∷ []) × (17 + 18 * length (rows_in text []) ≡ 17)
unfolding given refusals refusals_of refusal report section concat be4 row_bytes refusal_bytes remainder_bytes verdict_byte
report-empty = (refl, refl)
