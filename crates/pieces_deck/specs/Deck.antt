-- 02 f's words as tables of examples, each under a single claim: streams in pieces, with the rows that each piece gives and what the end tells; and
-- calls with what they answer. Text is written by its characters' numbers. What is expected is 02's word, and 01's on items. Assumes nothing.
use Rattle.std.specs.Prelude.{ℕ, ◌≡◌, refl, List, [], ◌∷◌, map, replicate}
use Rattle.format.specs.Units.{Domain, text, binary}
use Rattle.format.specs.Registry.{header_units}
use Rattle.format.specs.Report.{ItemRow, RefusalRow, RemainderRow, refusals, refusals_of, refusal, verdict_byte, row_bytes, refusal_bytes, remainder_bytes, be4, concat}
use Rattle.format.specs.Deck.{given}
use Rattle.walk_state.specs.Walking.{all_below, slot_fits, closed, moved_to, opened, past, next_of, stop_of}
use Rattle.walk_state.specs.Walking as W
use Rattle.pieces.specs.declared.Phase.TheVariants as P
use Rattle.pieces.specs.declared.Progress.{Progress}
use Rattle.pieces.specs.declared.Pieces.{Pieces}
use Rattle.pieces.specs.Headers.{room_of, all_known, is_long, asks7, framed_by, verdict_of, group_number, head_number, lead_of, opens_text, value_number}
use Rattle.pieces.specs.Steps.{none4, clear, end_of, settled, headed, at_first, at_second, valued, step_by, unit_step, is_whole_by, is_whole, rows_from, told}
use Rattle.pieces.specs.Feeding.{after, rows_after, begin, start, fed, items_out, refusals_out, number_at, remainder_out}
use Rattle.pieces.specs.Calls.{is_open, most_units, progress_fits, place_fits, is_fit, feed_answer, items_left, refusals_left, ended, end_answer, remainder_left}
use Rattle.std.specs.Prelude.{Ok}
use Rattle.format.specs.Refusals.{refused_by}

infixr 5 ◌&◌
-- ---- a stream in pieces, and what is expected of it

-- an item's row: offset, size, verdict
pub data Line : Type 0 where
  line : ℕ → ℕ → ℕ → Line

abbrev line_of : ItemRow → Line
line_of r = line r.offset r.size (verdict_byte r.verdict)

-- index, number, place
abbrev refusal_at : ℕ → ℕ → ℕ → RefusalRow
refusal_at i n p = record { index = i; number = n; place = p }

-- offset, number
abbrev left : ℕ → ℕ → RemainderRow
left o n = record { offset = o; number = n }

-- a piece, and the rows that it gives
pub record Piece : Type 0 where
  pub piece : List ℕ
  pub items : List Line
  pub refused : List RefusalRow

abbrev gives : List ℕ → List Line → List RefusalRow → Piece
gives s i r = record { piece = s; items = i; refused = r }

pub record Case : Type 0 where
  pub form : Domain
  pub pieces : List Piece
  pub remains : List RemainderRow

abbrev case : Domain → List Piece → List RemainderRow → Case
case d ps l = record { form = d; pieces = ps; remains = l }

-- what the definitions give of pieces from a state on, and the state behind them
unfoldable pub given_by : Domain → Pieces → List Piece → List Piece
given_by d st [] = []
given_by d st (p ∷ ps) = gives p.piece (map line_of (items_out d st p.piece)) (refusals_out d st p.piece) ∷ given_by d (fed d st p.piece) ps

unfoldable pub behind : Domain → Pieces → List Piece → Pieces
behind d st [] = st
behind d st (p ∷ ps) = behind d (fed d st p.piece) ps

-- to compute it is to open all of them
unfoldable pub seen : Case → Case
unfolding given header_units refusals refusals_of refusal verdict_byte given_by behind room_of all_known is_long asks7 framed_by verdict_of group_number head_number lead_of
    opens_text value_number end_of settled headed at_first at_second valued step_by unit_step is_whole_by is_whole rows_from told after rows_after begin start fed
    items_out refusals_out number_at remainder_out closed moved_to opened past next_of stop_of
seen c = let d : Domain = c.form in case d (given_by d (start d) c.pieces) (remainder_out d (behind d (start d) c.pieces))

abbrev pub Gives : Case → Type 0
Gives c = seen c ≡ c

pub data All : List Case → Type 0 where
  end : All []
  ◌&◌ : {c : Case} {cs : List Case} → Gives c → All cs → All (c ∷ cs)

-- ---- the table

unfoldable pub streams : List Case
streams =
    case text [] [] ∷  -- no piece: the empty stream
    case text (gives (45 ∷ 65 ∷ 65 ∷ 66 ∷ 48 ∷ 65 ∷ 65 ∷ 65 ∷ 77 ∷ 65 ∷ 65 ∷ 66 ∷ []) (line 0 8 4 ∷ line 8 4 0 ∷ []) (refusal_at 0 4 4 ∷ []) ∷ []) [] ∷  -- `-AAB0AAAMAAB`: 01's own stream in one piece
    case text (gives (45 ∷ 65 ∷ 65 ∷ 66 ∷ 48 ∷ 65 ∷ 65 ∷ []) [] [] ∷ gives (65 ∷ 77 ∷ 65 ∷ 65 ∷ 66 ∷ []) (line 0 8 4 ∷ line 8 4 0 ∷ []) (refusal_at 0 4 4 ∷ []) ∷ []) [] ∷  -- cut within the first item: "an item's rows are given when its last byte has come"
    case text (gives (45 ∷ 65 ∷ 65 ∷ 66 ∷ 48 ∷ 65 ∷ 65 ∷ 65 ∷ []) (line 0 8 4 ∷ []) (refusal_at 0 4 4 ∷ []) ∷ gives (77 ∷ 65 ∷ 65 ∷ 66 ∷ []) (line 8 4 0 ∷ []) [] ∷ []) [] ∷  -- cut behind it
    case text (gives (77 ∷ []) [] [] ∷ gives (65 ∷ []) [] [] ∷ gives (65 ∷ []) [] [] ∷ gives (66 ∷ []) (line 0 4 0 ∷ []) [] ∷ []) [] ∷  -- `MAAB`, a character at a time
    case text (gives [] [] [] ∷ gives (77 ∷ 65 ∷ []) [] [] ∷ gives [] [] [] ∷ gives (65 ∷ 66 ∷ []) (line 0 4 0 ∷ []) [] ∷ gives [] [] [] ∷ []) [] ∷  -- "Empty pieces change nothing."
    case text (gives (77 ∷ 65 ∷ 65 ∷ 66 ∷ 77 ∷ 81 ∷ []) (line 0 4 0 ∷ []) [] ∷ gives (65 ∷ 65 ∷ 77 ∷ 81 ∷ []) (line 4 4 8 ∷ []) (refusal_at 1 8 4 ∷ []) ∷ gives (65 ∷ 65 ∷ []) (line 8 4 8 ∷ []) (refusal_at 2 8 8 ∷ []) ∷ []) [] ∷  -- `MAABMQAAMQAA`: indices and places count on from the start
    case text (gives (45 ∷ 65 ∷ 65 ∷ 67 ∷ []) [] [] ∷ gives (77 ∷ 65 ∷ 65 ∷ 66 ∷ []) [] [] ∷ []) (left 0 4 ∷ []) ∷  -- `-AACMAAB`: "the remainder's when the end is told"
    case text (gives (77 ∷ 65 ∷ 65 ∷ 66 ∷ 77 ∷ 65 ∷ []) (line 0 4 0 ∷ []) [] ∷ []) (left 4 4 ∷ []) ∷  -- `MAABMA`: a unit that is not whole
    case text (gives (77 ∷ 65 ∷ 65 ∷ 66 ∷ 95 ∷ []) (line 0 4 0 ∷ []) [] ∷ gives (65 ∷ 65 ∷ 65 ∷ 77 ∷ 65 ∷ 65 ∷ 66 ∷ []) [] [] ∷ []) (left 4 6 ∷ []) ∷  -- `MAAB_AAAMAAB`: 6, and the remainder runs to the end
    case text (gives (77 ∷ 65 ∷ 33 ∷ []) [] [] ∷ gives (65 ∷ 77 ∷ 65 ∷ 65 ∷ 66 ∷ []) [] [] ∷ []) (left 0 5 ∷ []) ∷  -- `MA!AMAAB`: 5 in a header
    case text (gives (45 ∷ 95 ∷ 65 ∷ 65 ∷ []) [] [] ∷ gives (65 ∷ 66 ∷ 65 ∷ 65 ∷ 77 ∷ 65 ∷ 65 ∷ 66 ∷ []) [] [] ∷ []) (left 0 7 ∷ []) ∷  -- `-_AAABAAMAAB`: 7 at top level
    case text (gives (45 ∷ 45 ∷ 74 ∷ 65 ∷ []) [] [] ∷ gives (65 ∷ 65 ∷ 65 ∷ 67 ∷ 77 ∷ 65 ∷ 65 ∷ 66 ∷ 77 ∷ 65 ∷ []) [] [] ∷ gives (65 ∷ 66 ∷ 77 ∷ 65 ∷ 65 ∷ 66 ∷ []) (line 0 16 18 ∷ line 16 4 0 ∷ []) (refusal_at 0 18 0 ∷ []) ∷ []) [] ∷  -- `--JAAAACMAABMAABMAAB`: a header of two units, cut between them; 18
    case text (gives (48 ∷ 72 ∷ 69 ∷ 65 ∷ []) [] [] ∷ gives (65 ∷ 65 ∷ 33 ∷ 65 ∷ []) (line 0 8 5 ∷ []) (refusal_at 0 5 6 ∷ []) ∷ gives (77 ∷ 65 ∷ 65 ∷ 66 ∷ []) (line 8 4 0 ∷ []) [] ∷ []) [] ∷  -- `0HEAAA!AMAAB`: 5 behind the header, then 8
    case text (gives (48 ∷ 72 ∷ 69 ∷ 65 ∷ []) [] [] ∷ gives (65 ∷ 65 ∷ 65 ∷ 65 ∷ []) (line 0 8 8 ∷ []) (refusal_at 0 8 0 ∷ []) ∷ []) [] ∷  -- `0HEAAAAA`: 8, told with the last unit
    case text (gives (52 ∷ 65 ∷ 65 ∷ 66 ∷ []) [] [] ∷ gives (65 ∷ 65 ∷ 65 ∷ 65 ∷ []) (line 0 8 16 ∷ []) (refusal_at 0 16 0 ∷ []) ∷ []) [] ∷  -- `4AABAAAA`: 16, by the unit behind the header
    case text (gives (45 ∷ 75 ∷ 65 ∷ 66 ∷ []) [] [] ∷ gives (77 ∷ 65 ∷ 65 ∷ 66 ∷ []) (line 0 8 6 ∷ []) (refusal_at 0 6 4 ∷ []) ∷ []) [] ∷  -- `-KABMAAB`: within `-K` by the indexed table
    case text (gives (45 ∷ 65 ∷ 65 ∷ 67 ∷ 45 ∷ 95 ∷ []) [] [] ∷ gives (65 ∷ 65 ∷ 65 ∷ 66 ∷ 65 ∷ 65 ∷ []) (line 0 12 7 ∷ []) (refusal_at 0 7 4 ∷ []) ∷ []) [] ∷  -- `-AAC-_AAABAA`: 7 of a first item
    case binary (gives (248 ∷ 0 ∷ []) [] [] ∷ gives (1 ∷ 48 ∷ 0 ∷ []) [] [] ∷ gives (1 ∷ []) (line 0 6 0 ∷ []) [] ∷ []) [] ∷  -- F8 00 01 30 00 01: `-AABMAAB` in B
    case binary (gives (49 ∷ []) [] [] ∷ gives (0 ∷ 0 ∷ 48 ∷ []) (line 0 3 8 ∷ []) (refusal_at 0 8 0 ∷ []) ∷ gives (0 ∷ []) [] [] ∷ []) (left 3 4 ∷ []) ∷  -- 31 00 00 30 00: `MQAA` in B, and two bytes more
    []

pub streams-given : All streams
unfolding seen streams
streams-given =
    refl & refl & refl & refl & refl & refl & refl & refl & refl & refl & refl & refl & refl & refl & refl & refl &
    refl & refl & refl & refl &
    end

-- ---- calls: "Refusals come in the order 13, 1, 3"

-- a state behind a whole stream of the limit's length
unfoldable pub full : Pieces
full = record {
  unit = 4;
  progress = record {
    walk = clear 1048576;
    read = 1048576;
    header = none4;
    scans = begin.scans;
    lead = 0;
    text = begin.text;
    number = 0;
    place = 0;
    start = 1048576;
    items = 1;
    phase = P.Framing;
  };
  held = none4;
  count = 0;
}

abbrev maab : List ℕ
maab = 77 ∷ 65 ∷ 65 ∷ 66 ∷ []

-- refused 8
abbrev mqaa : List ℕ
mqaa = 77 ∷ 81 ∷ 65 ∷ 65 ∷ []

abbrev nines : ℕ → List ℕ
nines n = replicate n 9

pub record Calls : Type 0 where
  -- "Refusal 3 is given exactly when the rows that a piece, or the end, completes don't fit."
  pub one-item : (feed_answer text (start text) maab 9 0 ≡ Ok (record { items = 9; refusals = 0 })) × (feed_answer text (start text) maab 8 0 ≡ refused_by 3 0)
  pub one-refusal : (feed_answer text (start text) mqaa 9 9 ≡ Ok (record { items = 9; refusals = 9 })) × (feed_answer text (start text) mqaa 9 8 ≡ refused_by 3 0)
  pub no_row : feed_answer text (start text) (77 ∷ []) 0 0 ≡ Ok (record { items = 0; refusals = 0 })
  pub a-remainder : (end_answer text (fed text (start text) (77 ∷ [])) 5 ≡ Ok 5) × (end_answer text (fed text (start text) (77 ∷ [])) 4 ≡ refused_by 3 0)
  pub none_left : end_answer text (start text) 0 ≡ Ok 0
  -- what the buffers hold: rows from the start on, and what stood behind them
  pub written : items_left (Ok (record { items = 9; refusals = 0 })) text (start text) maab (nines 10) ≡ 0 ∷ 0 ∷ 0 ∷ 0 ∷ 0 ∷ 0 ∷ 0 ∷ 4 ∷ 0 ∷ 9 ∷ []
  pub told-refused : refusals_left (Ok (record { items = 9; refusals = 9 })) text (start text) mqaa (nines 10) ≡ 0 ∷ 0 ∷ 0 ∷ 0 ∷ 8 ∷ 0 ∷ 0 ∷ 0 ∷ 0 ∷ 9 ∷ []
  pub left_over : remainder_left (Ok 5) text (fed text (start text) (77 ∷ [])) (nines 6) ≡ 0 ∷ 0 ∷ 0 ∷ 0 ∷ 4 ∷ 9 ∷ []
  pub untouched : (items_left (refused_by 3 0) text (start text) maab (nines 8) ≡ nines 8) × (refusals_left (refused_by 3 0) text (start text) mqaa (nines 8) ≡ nines 8)
  -- "Refusal 1 now comes to the piece that passes the limit", before 3
  pub past-limit : (feed_answer text full (77 ∷ []) 0 0 ≡ refused_by 1 0) × (feed_answer text full [] 0 0 ≡ Ok (record { items = 0; refusals = 0 }))
  -- "13 is given exactly to a piece or end after the end", before 1 and 3, and to a state of the other form
  pub after-end : (feed_answer text (ended full) maab 0 0 ≡ refused_by 13 0) × (end_answer text (ended (start text)) 0 ≡ refused_by 13 0)
  pub other-form : (feed_answer binary (start text) maab 0 0 ≡ refused_by 13 0) × (end_answer text (start binary) 0 ≡ refused_by 13 0)

pub calls-hold : Calls
unfolding seen is_open most_units progress_fits place_fits is_fit feed_answer items_left refusals_left ended end_answer remainder_left full all_below slot_fits W.is_fit
    row_bytes refusal_bytes remainder_bytes be4 concat
calls-hold = record {
  one-item = (refl, refl);
  one-refusal = (refl, refl);
  no_row = refl;
  a-remainder = (refl, refl);
  none_left = refl;
  written = refl;
  told-refused = refl;
  left_over = refl;
  untouched = (refl, refl);
  past-limit = (refl, refl);
  after-end = (refl, refl);
  other-form = (refl, refl);
}
