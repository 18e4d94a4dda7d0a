-- 02, request n: what an expectation file says, and what a report does. They are read as byte strings and no more: no stream, no framing,
-- no judge. Assumes nothing.
use Rattle.std.specs.Prelude.{ℕ, zero, suc, ◌*◌, List, [], ◌∷◌, ltb, length, get_or, take, drop}
use Rattle.base.specs.Pick.{pick}
use Rattle.base.specs.Digits.{number_of}

-- ---- sections: "each after its 4-byte big-endian count"

-- a count, the bytes of its rows and what stands behind them; or "a missing count, a section shorter than its count says"
pub data Section : Type 0 where
  short : Section
  rows : ℕ → List ℕ → List ℕ → Section

abbrev pub count_at : List ℕ → ℕ
count_at xs = number_of 256 (take 4 xs)

-- with rows of so many bytes each
unfoldable pub section_of : ℕ → List ℕ → Section
section_of width xs =
    pick (ltb (length xs) 4) short
    (pick (ltb (length (drop 4 xs)) (width * count_at xs)) short
    (rows (count_at xs) (take (width * count_at xs) (drop 4 xs)) (drop (width * count_at xs) (drop 4 xs))))

-- byte j of each of n rows
unfoldable pub column : ℕ → ℕ → ℕ → List ℕ → List ℕ
column width j zero xs = []
column width j (suc n) xs = get_or xs j 0 ∷ column width j n (drop width xs)

-- ---- what a file or a report says: a verdict for each item, and the number of a remainder, if there is one

pub data Verdicts : Type 0 where
  malformed : Verdicts  -- 20
  verdicts : List ℕ → List ℕ → Verdicts

-- the last section, the remainder's, whose byte j is the number: "a remainder count above 1, or bytes left over"
unfoldable pub ending : ℕ → ℕ → List ℕ → Section → Verdicts
ending width j vs short = malformed
ending width j vs (rows n xs []) = pick (ltb 1 n) malformed (verdicts vs (column width j n xs))
ending width j vs (rows n xs (x ∷ rest)) = malformed

-- "An expectation file has two sections in fixed order": "expected verdicts (one byte an item) and, if a remainder is expected, its
-- number (one byte, count 0 or 1)"
unfoldable pub expected_by : Section → Verdicts
expected_by short = malformed
expected_by (rows n xs rest) = ending 1 0 (column 1 0 n xs) (section_of 1 rest)

unfoldable pub expected : List ℕ → Verdicts
expected file = expected_by (section_of 1 file)

-- "It reads only 01's report": items of 9 bytes with the verdict last, refusals of 9, a remainder of 5 with the number last
unfoldable pub behind_items : List ℕ → Section → Verdicts
behind_items vs short = malformed
behind_items vs (rows n xs rest) = ending 5 4 vs (section_of 5 rest)

unfoldable pub reported_by : Section → Verdicts
reported_by short = malformed
reported_by (rows n xs rest) = behind_items (column 9 8 n xs) (section_of 9 rest)

unfoldable pub reported : List ℕ → Verdicts
reported file = reported_by (section_of 9 file)
