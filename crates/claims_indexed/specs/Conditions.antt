-- What each number of a call on indexed items is given for, in 02's words, a list for each call in its order, as claims' Conditions has it of
-- 01's calls. No proofs. Assumes nothing.
use Rattle.std.specs.Prelude.{ℕ, ◌-◌, ◌*◌, ◌/◌, ◌^◌, ◌≤◌, ◌<◌, ◌≡◌, List, [], ◌∷◌, ◌++◌, true, length, take, drop}
use Rattle.format.specs.declared.IndexCode.{IndexCode}
use Rattle.format.specs.Units.{Domain, text, binary}
use Rattle.format.specs.Values.{raw_start}
use Rattle.format.specs.Indexed.{IndexNamed, indexed_raw_size, named_index}
use Rattle.format.specs.Indexed.IndexNamed.{none as no_code, row as code_row}
use Rattle.claims_rules.specs.Order.{Rule, ◌when◌}
use Rattle.claims_rules.specs.Conditions.{framing, item_kind, item_head, item_size, indexed_judging, SetOndex}

-- ---- 02 a: reading an indexed item, "by 01's orders for primitives"; "any other start is 6, for the single reader too"

abbrev pub read_indexed_rules : Domain → List ℕ → ℕ → List ℕ → List Rule
read_indexed_rules d xs at s =
    1 when (d.limit < length xs) ∷
    4 when (length xs ≤ at) ∷
    (framing true s ++ indexed_judging (item_kind true s) (item_head true s) (take (4 * item_size true s) s))

abbrev pub read_indexed_text_rules : List ℕ → ℕ → ℕ → List Rule
read_indexed_text_rules xs at room =
    let s : List ℕ = text.sextets (drop at xs) in
    read_indexed_rules text xs at s ++ (3 when (room < 3 * item_size true s - raw_start (item_kind true s) (item_head true s)) ∷ [])

abbrev pub read_indexed_binary_rules : List ℕ → ℕ → List Rule
read_indexed_binary_rules xs at = read_indexed_rules binary xs at (binary.sextets (drop at xs))

-- ---- 02 a: writing an indexed item: 6, 12, 15, 3

-- raw length unfit for the code; "an index or ondex too large for its digits (without digits, any but 0)"
abbrev pub UnfitIndexed : IndexNamed → ℕ → ℕ → ℕ → Type 0
UnfitIndexed no_code index ondex raw = ⊥
UnfitIndexed (code_row c) index ondex raw = (raw ≡ indexed_raw_size c) × (index < 64 ^ c.index) × (ondex < 64 ^ c.ondex) → ⊥

-- "a nonzero ondex for a "current only" code"
abbrev pub WrittenOndex : IndexNamed → ℕ → Type 0
WrittenOndex no_code ondex = ⊥
WrittenOndex (code_row c) ondex = SetOndex c ondex

abbrev pub indexed_units : IndexNamed → ℕ
indexed_units no_code = 0
indexed_units (code_row c) = c.size / 4

-- u elements to the unit
abbrev pub write_indexed_rules : ℕ → IndexCode → ℕ → ℕ → ℕ → ℕ → List Rule
write_indexed_rules u code index ondex raw room =
    6 when (named_index code ≡ no_code) ∷
    12 when (UnfitIndexed (named_index code) index ondex raw) ∷
    15 when (WrittenOndex (named_index code) ondex) ∷
    3 when (room < indexed_units (named_index code) * u) ∷
    []
