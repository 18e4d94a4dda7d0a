-- What each number of a call is given for, in 01's words, a list for each call in 01's order; those of framing and judging are claims_rules'.
-- It cites single tests and the number of a report's items, and none of the definitions whose order is compared with it: those of the calls.
-- No proofs. Assumes nothing.
use Rattle.std.specs.Prelude.{ℕ, ◌+◌, ◌*◌, ◌/◌, ◌%◌, ◌≤◌, ◌<◌, ◌≡◌, List, [], ◌∷◌, ◌++◌, false, length, get_or, take, drop}
use Rattle.format.specs.declared.Code.{Code}
use Rattle.format.specs.Alphabet.{sextet_of}
use Rattle.format.specs.Units.{Domain, text, binary}
use Rattle.format.specs.Texts.{fill_for}
use Rattle.format.specs.Values.{text_in, value_of}
use Rattle.format.specs.Report.{rows_in}
use Rattle.format.specs.Reading.{is_primitive}
use Rattle.format.specs.Writing.{Named, raw_size, raw_limit, text_limit, named, chars_of, chars_for, units_of}
use Rattle.format.specs.Writing.Named.{unknown, row, variable, textual}
use Rattle.claims_rules.specs.Order.{Rule, ◌when◌}
use Rattle.claims_rules.specs.Conditions.{Other, Ordinary, FirstIs, item_kind, item_head, item_size, framing, judging}

-- the values of a text's characters
abbrev pub value_in : List ℕ → ℕ → ℕ
value_in s i = sextet_of (get_or s i 0)

-- ---- "Calls: T to B gives 1, 2, 5, 3; B to T 1, 2, 3. Room asked .. is the exact size written."

abbrev pub to_binary_rules : List ℕ → ℕ → List Rule
to_binary_rules s room =
    1 when (text.limit < length s) ∷
    2 when (0 < length s % 4) ∷
    5 when (FirstIs Other (value_in s) 0 (length s)) ∷
    19 when (FirstIs Ordinary (value_in s) 0 (length s)) ∷
    3 when (room < length s / 4 * 3) ∷
    []

abbrev pub to_text_rules : List ℕ → ℕ → List Rule
to_text_rules s room =
    1 when (binary.limit < length s) ∷
    2 when (0 < length s % 3) ∷
    3 when (room < length s / 3 * 4) ∷
    []

-- ---- "Refused whole: 1, then 3 exactly if room is below 17 + 18 x items."

abbrev pub report_rules : Domain → List ℕ → ℕ → List Rule
report_rules d xs room =
    1 when (d.limit < length xs) ∷
    3 when (room < 17 + 18 * length (rows_in d xs)) ∷
    []

-- ---- "Reading a primitive at an offset: 1, 4 at or past the end, framing (never 7), 14, judging, then 3 for T", and of type `A` by 02 c
-- "in both forms, with 3 when room is short"

-- s: the sextets from the offset on
abbrev pub read_rules : Domain → List ℕ → ℕ → List ℕ → List Rule
read_rules d xs at s =
    1 when (d.limit < length xs) ∷
    4 when (length xs ≤ at) ∷
    (framing false s
    ++ (14 when (is_primitive (item_kind false s) ≡ false) ∷ judging (item_kind false s) (item_head false s) (take (4 * item_size false s) s)))

abbrev pub read_text_rules : List ℕ → ℕ → ℕ → List Rule
read_text_rules xs at room =
    let s : List ℕ = text.sextets (drop at xs) in
    read_rules text xs at s ++ (3 when (room < length (value_of (item_kind false s) (item_head false s) (take (4 * item_size false s) s))) ∷ [])

abbrev pub read_binary_rules : List ℕ → ℕ → ℕ → List Rule
read_binary_rules xs at room =
    let s : List ℕ = binary.sextets (drop at xs) in
    read_rules binary xs at s ++ (3 when (room < length (text_in (item_kind false s) (item_head false s) (take (4 * item_size false s) s))) ∷ [])

-- ---- "Writing, to T or B: 6 (any code that isn't a primitive's), 12, 5 (tags), 3.", by 02 h 18 "directly after 12", and of type `A` by 02 c
-- "6, 12, 5 (place its index in the text), 16 (place 0), 3"

-- "raw length or tag length unfit for the code"
abbrev pub Unfit : Named → ℕ → ℕ → Type 0
Unfit unknown tags raw = ⊥
Unfit (row c) tags raw = (tags ≡ c.tag) × (raw ≡ raw_size c) → ⊥
Unfit (variable t h) tags raw = (tags ≡ 0) × (raw ≤ raw_limit h) → ⊥
Unfit (textual h) tags chars = (tags ≡ 0) × (chars + fill_for chars ≤ text_limit h) → ⊥

-- a large code where "small holds at most 12,285 raw bytes", and where "text with its fill is at most 16,380 characters small"
abbrev pub SmallHolds : Named → ℕ → Type 0
SmallHolds unknown raw = ⊥
SmallHolds (row c) raw = ⊥
SmallHolds (variable t h) raw = (h ≡ 1 → ⊥) × (raw ≤ 12285)
SmallHolds (textual h) chars = (h ≡ 1 → ⊥) × (chars + fill_for chars ≤ 16380)

-- 02 c: "A text that itself starts with `A`", which is 65
abbrev pub FromA : Named → List ℕ → Type 0
FromA unknown raw = ⊥
FromA (row c) raw = ⊥
FromA (variable t h) raw = ⊥
FromA (textual h) chars = get_or chars 0 0 ≡ 65

-- u elements to the unit. 5 is asked of a text's own characters, and for every other code of the tag's
abbrev pub write_rules : ℕ → Code → List ℕ → ℕ → List ℕ → ℕ → List Rule
write_rules u code tag tags raw room =
    6 when (named code ≡ unknown) ∷
    12 when (Unfit (named code) tags (length raw)) ∷
    18 when (SmallHolds (named code) (length raw)) ∷
    5 when (FirstIs Other (value_in (chars_of (named code) tag raw)) 0 (chars_for (named code) tags (length raw))) ∷
    19 when (FirstIs Ordinary (value_in (chars_of (named code) tag raw)) 0 (chars_for (named code) tags (length raw))) ∷
    16 when (FromA (named code) raw) ∷
    3 when (room < units_of (named code) (length raw) * u) ∷
    []
