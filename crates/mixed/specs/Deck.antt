-- 02 d's own order and what stands beside it, as one table under a single claim: streams with their item rows, refusals and remainder. Text
-- is written by its characters' numbers. What is expected is 02's word, and 01's on text and binary items. Assumes nothing.
use Rattle.std.specs.Prelude.{ℕ, ◌≡◌, refl, List, [], ◌∷◌, map, length, replicate}
use Rattle.format.specs.Report.{ItemRow, RefusalRow, RemainderRow, refusals, refusals_of, refusal, be4, verdict_byte}
use Rattle.format.specs.Report.{row_bytes, refusal_bytes, remainder_bytes, concat, section}
use Rattle.format.specs.Deck.{given}
use Rattle.mixed.specs.Json.{hex_of, meets, pattern, passes, hex_from, json_size, fit_json, frame_json}
use Rattle.mixed.specs.Mixed.{start_of, start_at, form_byte, frame_start, frame_with, judge_start, judge_mixed}
use Rattle.mixed.specs.Mixed.{rows_mixed, refusals_mixed, remainder_mixed, mixed_row_bytes, mixed_report, mixed_answer, mixed_left}
use Rattle.std.specs.Prelude.{Ok}
use Rattle.format.specs.Refusals.{refused_by}

infixr 5 ◌&◌
-- ---- a stream and what is expected of it

-- an item's row: offset, size, verdict, form
pub data Line : Type 0 where
  line : ℕ → ℕ → ℕ → ℕ → Line

abbrev line_of : List ℕ → ItemRow → Line
line_of xs r = line r.offset r.size (verdict_byte r.verdict) (form_byte (start_at xs r.offset))

-- index, number, place
abbrev refusal_at : ℕ → ℕ → ℕ → RefusalRow
refusal_at i n p = record { index = i; number = n; place = p }

-- offset, number
abbrev left : ℕ → ℕ → RemainderRow
left o n = record { offset = o; number = n }

pub record Case : Type 0 where
  pub stream : List ℕ
  pub items : List Line
  pub refused : List RefusalRow
  pub remains : List RemainderRow

abbrev case : List ℕ → List Line → List RefusalRow → List RemainderRow → Case
case s i r l = record { stream = s; items = i; refused = r; remains = l }

-- what the definitions give of a stream; to compute it is to open all of them
unfoldable pub told : List ℕ → Case
unfolding given refusals refusals_of refusal verdict_byte hex_of meets pattern passes hex_from json_size fit_json frame_json start_of form_byte frame_start
    frame_with judge_start judge_mixed
told xs = record { stream = xs; items = map (line_of xs) (rows_mixed xs); refused = refusals_mixed xs; remains = remainder_mixed xs }

abbrev pub Gives : Case → Type 0
Gives c = told c.stream ≡ c

pub data All : List Case → Type 0 where
  end : All []
  ◌&◌ : {c : Case} {cs : List Case} → Gives c → All cs → All (c ∷ cs)

-- ---- the table

unfoldable pub streams : List Case
streams =
    case [] [] [] [] ∷  -- the empty stream
    case (123 ∷ 34 ∷ 118 ∷ 34 ∷ 58 ∷ 34 ∷ 75 ∷ 69 ∷ 82 ∷ 73 ∷ 49 ∷ 48 ∷ 74 ∷ 83 ∷ 79 ∷ 78 ∷ 48 ∷ 48 ∷ 48 ∷ 48 ∷ 49 ∷ 55 ∷ []) [] [] (left 0 4 ∷ []) ∷  -- `{"v":"KERI10JSON000017`: 22 bytes: "Fewer than 23 bytes left is a remainder 4"
    case (123 ∷ 34 ∷ 120 ∷ 34 ∷ 58 ∷ 34 ∷ 75 ∷ 69 ∷ 82 ∷ 73 ∷ 49 ∷ 48 ∷ 74 ∷ 83 ∷ 79 ∷ 78 ∷ 48 ∷ 48 ∷ 48 ∷ 48 ∷ 49 ∷ 55 ∷ []) [] [] (left 0 4 ∷ []) ∷  -- `{"x":"KERI10JSON000017`: 22 bytes, and malformed
    case (123 ∷ []) [] [] (left 0 4 ∷ []) ∷  -- `{`: alone
    case (123 ∷ 34 ∷ 120 ∷ 34 ∷ 58 ∷ 34 ∷ 75 ∷ 69 ∷ 82 ∷ 73 ∷ 49 ∷ 48 ∷ 74 ∷ 83 ∷ 79 ∷ 78 ∷ 48 ∷ 48 ∷ 48 ∷ 48 ∷ 49 ∷ 55 ∷ 95 ∷ []) [] [] (left 0 17 ∷ []) ∷  -- `{"x":"KERI10JSON000017_`: 23 bytes: "then a malformed header .. is 17"
    case (123 ∷ 34 ∷ 118 ∷ 34 ∷ 58 ∷ 34 ∷ 75 ∷ 69 ∷ 82 ∷ 105 ∷ 49 ∷ 48 ∷ 74 ∷ 83 ∷ 79 ∷ 78 ∷ 48 ∷ 48 ∷ 48 ∷ 48 ∷ 49 ∷ 55 ∷ 95 ∷ []) [] [] (left 0 17 ∷ []) ∷  -- `{"v":"KERi10JSON000017_`: "four capital letters of protocol"
    case (123 ∷ 34 ∷ 118 ∷ 34 ∷ 58 ∷ 34 ∷ 75 ∷ 69 ∷ 82 ∷ 73 ∷ 49 ∷ 65 ∷ 74 ∷ 83 ∷ 79 ∷ 78 ∷ 48 ∷ 48 ∷ 48 ∷ 48 ∷ 49 ∷ 55 ∷ 95 ∷ []) [] [] (left 0 17 ∷ []) ∷  -- `{"v":"KERI1AJSON000017_`: "two lowercase hexadecimal digits of version"
    case (123 ∷ 34 ∷ 118 ∷ 34 ∷ 58 ∷ 34 ∷ 75 ∷ 69 ∷ 82 ∷ 73 ∷ 49 ∷ 48 ∷ 77 ∷ 71 ∷ 80 ∷ 75 ∷ 48 ∷ 48 ∷ 48 ∷ 48 ∷ 49 ∷ 55 ∷ 95 ∷ []) [] [] (left 0 17 ∷ []) ∷  -- `{"v":"KERI10MGPK000017_`: not `JSON`
    case (123 ∷ 34 ∷ 118 ∷ 34 ∷ 58 ∷ 34 ∷ 75 ∷ 69 ∷ 82 ∷ 73 ∷ 49 ∷ 48 ∷ 74 ∷ 83 ∷ 79 ∷ 78 ∷ 48 ∷ 48 ∷ 48 ∷ 48 ∷ 49 ∷ 65 ∷ 95 ∷ 65 ∷ 65 ∷ 65 ∷ []) [] [] (left 0 17 ∷ []) ∷  -- `{"v":"KERI10JSON00001A_AAA`: 26 bytes: "six lowercase hexadecimal digits of total length"
    case (123 ∷ 34 ∷ 118 ∷ 34 ∷ 58 ∷ 34 ∷ 75 ∷ 69 ∷ 82 ∷ 73 ∷ 49 ∷ 48 ∷ 74 ∷ 83 ∷ 79 ∷ 78 ∷ 48 ∷ 48 ∷ 48 ∷ 48 ∷ 49 ∷ 97 ∷ 95 ∷ 65 ∷ 65 ∷ 65 ∷ []) (line 0 26 0 2 ∷ []) [] [] ∷  -- `{"v":"KERI10JSON00001a_AAA`: the same in lower case
    case (123 ∷ 34 ∷ 118 ∷ 34 ∷ 58 ∷ 34 ∷ 75 ∷ 69 ∷ 82 ∷ 73 ∷ 49 ∷ 48 ∷ 74 ∷ 83 ∷ 79 ∷ 78 ∷ 48 ∷ 48 ∷ 48 ∷ 48 ∷ 49 ∷ 55 ∷ 34 ∷ []) [] [] (left 0 17 ∷ []) ∷  -- `{"v":"KERI10JSON000017"`: no `_`
    case (123 ∷ 34 ∷ 118 ∷ 34 ∷ 58 ∷ 34 ∷ 75 ∷ 69 ∷ 82 ∷ 73 ∷ 49 ∷ 48 ∷ 74 ∷ 83 ∷ 79 ∷ 78 ∷ 48 ∷ 48 ∷ 48 ∷ 48 ∷ 49 ∷ 54 ∷ 95 ∷ []) [] [] (left 0 17 ∷ []) ∷  -- `{"v":"KERI10JSON000016_`: 22: "or a length below 23, is 17"
    case (123 ∷ 34 ∷ 118 ∷ 34 ∷ 58 ∷ 34 ∷ 75 ∷ 69 ∷ 82 ∷ 73 ∷ 49 ∷ 48 ∷ 74 ∷ 83 ∷ 79 ∷ 78 ∷ 48 ∷ 48 ∷ 48 ∷ 48 ∷ 49 ∷ 55 ∷ 95 ∷ []) (line 0 23 0 2 ∷ []) [] [] ∷  -- `{"v":"KERI10JSON000017_`: 23, the header alone
    case (123 ∷ 34 ∷ 118 ∷ 34 ∷ 58 ∷ 34 ∷ 75 ∷ 69 ∷ 82 ∷ 73 ∷ 49 ∷ 48 ∷ 74 ∷ 83 ∷ 79 ∷ 78 ∷ 48 ∷ 48 ∷ 48 ∷ 48 ∷ 49 ∷ 56 ∷ 95 ∷ []) [] [] (left 0 4 ∷ []) ∷  -- `{"v":"KERI10JSON000018_`: 24, and 23 bytes left: "then a length past the end is 4"
    case (123 ∷ 34 ∷ 118 ∷ 34 ∷ 58 ∷ 34 ∷ 75 ∷ 69 ∷ 82 ∷ 73 ∷ 49 ∷ 48 ∷ 77 ∷ 71 ∷ 80 ∷ 75 ∷ 48 ∷ 48 ∷ 48 ∷ 48 ∷ 49 ∷ 56 ∷ 95 ∷ []) [] [] (left 0 17 ∷ []) ∷  -- `{"v":"KERI10MGPK000018_`: 17, then 4
    case (123 ∷ 34 ∷ 118 ∷ 34 ∷ 58 ∷ 34 ∷ 65 ∷ 67 ∷ 68 ∷ 67 ∷ 50 ∷ 102 ∷ 74 ∷ 83 ∷ 79 ∷ 78 ∷ 48 ∷ 48 ∷ 48 ∷ 48 ∷ 49 ∷ 56 ∷ 95 ∷ 125 ∷ []) (line 0 24 0 2 ∷ []) [] [] ∷  -- `{"v":"ACDC2fJSON000018_}`: 24
    case (123 ∷ 34 ∷ 118 ∷ 34 ∷ 58 ∷ 34 ∷ 75 ∷ 69 ∷ 82 ∷ 73 ∷ 49 ∷ 48 ∷ 74 ∷ 83 ∷ 79 ∷ 78 ∷ 48 ∷ 48 ∷ 48 ∷ 48 ∷ 49 ∷ 97 ∷ 95 ∷ 0 ∷ 255 ∷ 10 ∷ []) (line 0 26 0 2 ∷ []) [] [] ∷  -- `{"v":"KERI10JSON00001a_\x00\xff\x0a`: "The JSON body isn't judged."
    case (123 ∷ 34 ∷ 118 ∷ 34 ∷ 58 ∷ 34 ∷ 75 ∷ 69 ∷ 82 ∷ 73 ∷ 49 ∷ 48 ∷ 74 ∷ 83 ∷ 79 ∷ 78 ∷ 48 ∷ 48 ∷ 48 ∷ 48 ∷ 49 ∷ 55 ∷ 95 ∷ 123 ∷ 34 ∷ 118 ∷ 34 ∷ 58 ∷ 34 ∷ 75 ∷ 69 ∷ 82 ∷ 73 ∷ 49 ∷ 48 ∷ 74 ∷ 83 ∷ 79 ∷ 78 ∷ 48 ∷ 48 ∷ 48 ∷ 48 ∷ 49 ∷ 55 ∷ []) (line 0 23 0 2 ∷ []) [] (left 23 4 ∷ []) ∷  -- `{"v":"KERI10JSON000017_{"v":"KERI10JSON000017`: the second one has 22 bytes left
    case (77 ∷ 65 ∷ 65 ∷ 66 ∷ []) [] [] (left 0 17 ∷ []) ∷  -- `MAAB`: "any other first byte is a remainder with number 17"
    case (45 ∷ 65 ∷ 65 ∷ 65 ∷ 10 ∷ []) (line 0 4 0 0 ∷ []) [] (left 4 17 ∷ []) ∷  -- `-AAA\x0a`: a line feed
    case (45 ∷ 65 ∷ 65 ∷ 65 ∷ 32 ∷ 77 ∷ 65 ∷ 65 ∷ 66 ∷ []) (line 0 4 0 0 ∷ []) [] (left 4 17 ∷ []) ∷  -- `-AAA\x20MAAB`: a space
    case (247 ∷ 0 ∷ 0 ∷ []) [] [] (left 0 17 ∷ []) ∷  -- F7 00 00: the byte before F8
    case (252 ∷ 0 ∷ 0 ∷ []) [] [] (left 0 17 ∷ []) ∷  -- FC 00 00: the byte behind FB
    case (43 ∷ 65 ∷ 65 ∷ 65 ∷ []) [] [] (left 0 17 ∷ []) ∷  -- `+AAA`: 17, since it does not start with `-`
    case (45 ∷ 65 ∷ 65 ∷ 65 ∷ []) (line 0 4 0 0 ∷ []) [] [] ∷  -- `-AAA`: text
    case (248 ∷ 0 ∷ 0 ∷ []) (line 0 3 0 1 ∷ []) [] [] ∷  -- F8 00 00: `-AAA` in B
    case (45 ∷ 65 ∷ 33 ∷ 65 ∷ []) [] [] (left 0 5 ∷ []) ∷  -- `-A!A`: 01: 5, "its first bad character"
    case (45 ∷ 65 ∷ 65 ∷ 61 ∷ []) [] [] (left 0 19 ∷ []) ∷  -- `-AA=`: 02 j: 19 where 5 stands
    case (45 ∷ 65 ∷ 65 ∷ []) [] [] (left 0 4 ∷ []) ∷  -- `-AA`: no whole unit
    case (248 ∷ 0 ∷ []) [] [] (left 0 4 ∷ []) ∷  -- F8 00: no whole unit
    case (45 ∷ 65 ∷ 65 ∷ 66 ∷ 48 ∷ 65 ∷ 65 ∷ 65 ∷ []) (line 0 8 4 0 ∷ []) (refusal_at 0 4 4 ∷ []) [] ∷  -- `-AAB0AAA`: an inner item passes its group
    case (45 ∷ 95 ∷ 65 ∷ 65 ∷ 65 ∷ 66 ∷ 65 ∷ 65 ∷ []) [] [] (left 0 7 ∷ []) ∷  -- `-_AAABAA`: "7 is part of framing" at top level
    case (45 ∷ 95 ∷ 65 ∷ 65 ∷ 65 ∷ 67 ∷ 65 ∷ 65 ∷ 251 ∷ 240 ∷ 0 ∷ 0 ∷ 32 ∷ 0 ∷ []) (line 0 8 0 0 ∷ line 8 6 0 1 ∷ []) [] [] ∷  -- `-_AAACAA\xfb\xf0\x00\x00\x20\x00`: `-_AAACAA` in T, and in B
    case (45 ∷ 48 ∷ 65 ∷ 65 ∷ []) [] [] (left 0 6 ∷ []) ∷  -- `-0AA`: 6
    case (248 ∷ 0 ∷ 1 ∷ 48 ∷ 0 ∷ 1 ∷ []) (line 0 6 0 1 ∷ []) [] [] ∷  -- F8 00 01 30 00 01: `-AABMAAB` in B
    case (248 ∷ 0 ∷ 2 ∷ 48 ∷ 0 ∷ 1 ∷ []) [] [] (left 0 4 ∷ []) ∷  -- F8 00 02 30 00 01: `-AACMAAB` in B
    case (45 ∷ 65 ∷ 65 ∷ 65 ∷ 123 ∷ 34 ∷ 118 ∷ 34 ∷ 58 ∷ 34 ∷ 75 ∷ 69 ∷ 82 ∷ 73 ∷ 49 ∷ 48 ∷ 74 ∷ 83 ∷ 79 ∷ 78 ∷ 48 ∷ 48 ∷ 48 ∷ 48 ∷ 49 ∷ 55 ∷ 95 ∷ 248 ∷ 0 ∷ 1 ∷ 48 ∷ 0 ∷ 1 ∷ []) (line 0 4 0 0 ∷ line 4 23 0 2 ∷ line 27 6 0 1 ∷ []) [] [] ∷  -- `-AAA{"v":"KERI10JSON000017_\xf8\x00\x010\x00\x01`: all three forms
    case (45 ∷ 65 ∷ 65 ∷ 65 ∷ 248 ∷ 0 ∷ 1 ∷ 49 ∷ 0 ∷ 0 ∷ 45 ∷ 65 ∷ 65 ∷ 66 ∷ 77 ∷ 81 ∷ 65 ∷ 65 ∷ []) (line 0 4 0 0 ∷ line 4 6 8 1 ∷ line 10 8 8 0 ∷ []) (refusal_at 1 8 7 ∷ refusal_at 2 8 14 ∷ []) [] ∷  -- `-AAA\xf8\x00\x011\x00\x00-AABMQAA`: places in bytes of the mixed stream
    case (45 ∷ 65 ∷ 65 ∷ 66 ∷ 77 ∷ 81 ∷ 65 ∷ 65 ∷ 123 ∷ 34 ∷ 118 ∷ 34 ∷ 58 ∷ 34 ∷ 75 ∷ 69 ∷ 82 ∷ 73 ∷ 49 ∷ 48 ∷ 74 ∷ 83 ∷ 79 ∷ 78 ∷ 48 ∷ 48 ∷ 48 ∷ 48 ∷ 49 ∷ 54 ∷ 95 ∷ 45 ∷ 65 ∷ 65 ∷ 65 ∷ []) (line 0 8 8 0 ∷ []) (refusal_at 0 8 4 ∷ []) (left 8 17 ∷ []) ∷  -- `-AABMQAA{"v":"KERI10JSON000016_-AAA`: the remainder runs to the end
    []

pub streams-told : All streams
unfolding told streams
streams-told =
    refl & refl & refl & refl & refl & refl & refl & refl & refl & refl & refl & refl & refl & refl & refl & refl &
    refl & refl & refl & refl & refl & refl & refl & refl & refl & refl & refl & refl & refl & refl & refl & refl &
    refl & refl & refl & refl & refl & refl & refl &
    end

-- ---- calls: "room here is 17 + 19 x items". A buffer holds nines

abbrev json : List ℕ
json = 123 ∷ 34 ∷ 118 ∷ 34 ∷ 58 ∷ 34 ∷ 75 ∷ 69 ∷ 82 ∷ 73 ∷ 49 ∷ 48 ∷ 74 ∷ 83 ∷ 79 ∷ 78 ∷ 48 ∷ 48 ∷ 48 ∷ 48 ∷ 49 ∷ 55 ∷ 95 ∷ []

abbrev nines : ℕ → List ℕ
nines n = replicate n 9

pub record Rooms : Type 0 where
  -- 12 bytes of counts, room 17 for a remainder besides
  pub empty : (mixed_answer [] 17 ≡ Ok 12) × (mixed_answer [] 16 ≡ refused_by 3 0)
  -- one JSON item, `{"v":"KERI10JSON000017_`, and none refused: 22 bytes, room 36, since it might have been refused
  pub one-item : (mixed_answer json (length (nines 36)) ≡ Ok 22) × (mixed_answer json (length (nines 35)) ≡ refused_by 3 0)
  pub one_written : mixed_left (Ok 22) json (nines 24) ≡
      0 ∷ 0 ∷ 0 ∷ 1 ∷ 0 ∷ 0 ∷ 0 ∷ 0 ∷ 0 ∷ 0 ∷ 0 ∷ 23 ∷ 0 ∷ 2 ∷ 0 ∷ 0 ∷ 0 ∷ 0 ∷ 0 ∷ 0 ∷ 0 ∷ 0 ∷ 9 ∷ 9 ∷ []
  pub one-refused : mixed_left (refused_by 3 0) json (nines 24) ≡ nines 24

pub rooms : Rooms
unfolding told be4 row_bytes refusal_bytes remainder_bytes concat section mixed_row_bytes mixed_report mixed_answer mixed_left
rooms = record { empty = (refl, refl); one-item = (refl, refl); one_written = refl; one-refused = refl }
