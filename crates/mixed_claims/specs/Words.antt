-- What the claims on mixed streams speak of: a JSON header in 02's words, the numbers of framing and of the call in 02's order, and what
-- two reports share. No proofs. Assumes nothing.
use Rattle.std.specs.Prelude.{ℕ, ◌+◌, ◌*◌, ◌≤◌, ◌<◌, ◌≡◌, List, [], ◌∷◌, ◌++◌, ◌⊎◌, length, get_or}
use Rattle.format.specs.declared.Form.{Form}
use Rattle.format.specs.Units.{domain}
use Rattle.format.specs.Framing.{sextet}
use Rattle.format.specs.Report.{ItemRow, RemainderRow, rows_in, refusals_in, remainder_in, row_bytes}
use Rattle.damage.specs.Words.{row, Damaged}
use Rattle.claims_rules.specs.Order.{Rule, ◌when◌}
use Rattle.claims.specs.Words.{header_of, Pairwise, ItemRatio, RefusalRatio}
use Rattle.mixed.specs.declared.Start.{Start}
use Rattle.mixed.specs.declared.Start.TheVariants.{Cesr, Json, Other}
use Rattle.mixed.specs.Json.{json_size}
use Rattle.mixed.specs.Mixed.{start_at, form_byte, frame_mixed, rows_mixed, refusals_mixed, remainder_mixed, mixed_row_bytes, mixed_limit}

-- ---- a JSON header

-- these bytes stand from an offset on
abbrev Stands : List ℕ → ℕ → List ℕ → Type 0
Stands bs at xs = (i : ℕ) → i < length bs → get_or xs (at + i) 0 ≡ get_or bs i 0

abbrev pub Capital : ℕ → Type 0
Capital c = (65 ≤ c) × (c ≤ 90)

-- a lowercase hexadecimal digit
abbrev pub Digit : ℕ → Type 0
Digit c = ((48 ≤ c) × (c ≤ 57)) ⊎ ((97 ≤ c) × (c ≤ 102))

-- n bytes of a class from an offset on
abbrev Each : (ℕ → Type 0) → ℕ → ℕ → List ℕ → Type 0
Each P n at xs = (i : ℕ) → i < n → P (get_or xs (at + i) 0)

-- "the bytes `{"v":"` and then the 17-character version 1 string: four capital letters of protocol, two lowercase hexadecimal digits of
-- version, `JSON`, six lowercase hexadecimal digits of total length, `_`"
pub record Opens (xs : List ℕ) : Type 0 where
  pub opening : Stands (123 ∷ 34 ∷ 118 ∷ 34 ∷ 58 ∷ 34 ∷ []) 0 xs
  pub protocol : Each Capital 4 6 xs
  pub version : Each Digit 2 10 xs
  pub format : Stands (74 ∷ 83 ∷ 79 ∷ 78 ∷ []) 12 xs
  pub total : Each Digit 6 16 xs
  pub closing : Stands (95 ∷ []) 22 xs

-- "Fewer than 23 bytes left is a remainder 4; then a malformed header, or a length below 23, is 17; then a length past the end is 4."
abbrev pub json_rules : List ℕ → List Rule
json_rules xs =
    4 when (length xs < 23) ∷
    17 when (Opens xs → ⊥) ∷
    17 when (json_size xs < 23) ∷
    4 when (length xs < json_size xs) ∷
    []

-- ---- the call: 01's "1, then 3 exactly if room is below", with "room here is 17 + 19 x items"

abbrev pub mixed_rules : List ℕ → ℕ → List Rule
mixed_rules xs room =
    1 when (mixed_limit < length xs) ∷
    3 when (room < 17 + 19 * length (rows_mixed xs)) ∷
    []

-- ---- damage

-- "both streams and an item by itself being judged by this mixed report under its own limit"
pub record Changed (xs ys : List ℕ) : Type 0 where
  pub within : length xs ≤ mixed_limit
  pub behind : Damaged frame_mixed (rows_mixed xs) xs ys

-- "with this header": 01's first unit or two in the form's own elements, or 02's 23 bytes
abbrev pub HeadIs : Start → List ℕ → ℕ → Type 0
HeadIs (Cesr f) own h = h ≡ header_of (sextet ((domain f).sextets own) 0) (sextet ((domain f).sextets own) 1) * (domain f).unit
HeadIs Json own h = h ≡ 23
HeadIs Other own h = ⊥

-- ---- text and binary

-- an item's two forms: a report of each by itself, with one row, no remainder, and all in the ratio
pub record SameItem (t b : List ℕ) : Type 0 where
  pub items : Pairwise ItemRatio (rows_mixed t) (rows_mixed b)
  pub refused : Pairwise RefusalRatio (refusals_mixed t) (refusals_mixed b)
  pub one : length (rows_mixed t) ≡ 1
  pub text-whole : remainder_mixed t ≡ []
  pub binary-whole : remainder_mixed b ≡ []

-- every item of these rows starts as the form does, and so does the remainder, if there is one
pub record AllStart (f : Form) (xs : List ℕ) (rs : List ItemRow) (ts : List RemainderRow) : Type 0 where
  pub items : (j : ℕ) → j < length rs → start_at xs (row rs j).offset ≡ Cesr f
  pub rest : (o n : ℕ) → ts ≡ record { offset = o; number = n } ∷ [] → start_at xs o ≡ Cesr f

-- "the same rows but for the last byte, the same refusals and the same remainder"
pub record SameReports (f : Form) (xs : List ℕ) : Type 0 where
  pub rows : rows_mixed xs ≡ rows_in (domain f) xs
  pub refusals : refusals_mixed xs ≡ refusals_in (domain f) xs
  pub remainder : remainder_mixed xs ≡ remainder_in (domain f) xs
  pub last_byte : (j : ℕ) → j < length (rows_in (domain f) xs)
      → mixed_row_bytes xs (row (rows_in (domain f) xs) j) ≡ row_bytes (row (rows_in (domain f) xs) j) ++ (form_byte (Cesr f) ∷ [])
