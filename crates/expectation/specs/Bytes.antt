-- What is answered of a file's bytes: where a section lies, and what the file says. Assumes nothing.
use Rattle.std.specs.Prelude.{ℕ, suc, ◌+◌, ◌*◌, ◌≤◌, ◌<◌, ◌≡◌, List, [], ◌∷◌, None, Some, Option, length, take, drop}
use Rattle.expectation.specs.declared.Section.{Section}
use Rattle.expectation.specs.declared.Verdicts as V
use Rattle.expectation.specs.Expectation.{Verdicts, malformed, verdicts, short, rows, section_of, ending, column}

-- the section from a position on
abbrev pub At : List ℕ → ℕ → ℕ → Option Section → Type 0
At s from width None = section_of width (drop from s) ≡ short
At s from width (Some r) = (r.end ≡ from + 4 + width * r.count) × (r.end ≤ length s) × (r.count < 4294967296)
    × (section_of width (drop from s) ≡ rows r.count (take (width * r.count) (drop (from + 4) s)) (drop r.end s))

-- a remainder's number, if there is one
abbrev pub number_if : Option ℕ → List ℕ
number_if (Some n) = n ∷ []
number_if None = []

-- the last section, behind any verdicts
abbrev pub EndAt : List ℕ → ℕ → ℕ → ℕ → Option V.Verdicts → Type 0
EndAt s from width items None = (vs : List ℕ) (j : ℕ) → suc j ≡ width → ending width j vs (section_of width (drop from s)) ≡ malformed
EndAt s from width items (Some v) = (v.items ≡ items)
    × ((vs : List ℕ) (j : ℕ) → suc j ≡ width → ending width j vs (section_of width (drop from s)) ≡ verdicts vs (number_if v.remainder))

-- what a file says whose rows have so many bytes, byte j of each being its verdict
abbrev pub Says : Verdicts → List ℕ → ℕ → ℕ → Option V.Verdicts → Type 0
Says told s width j None = told ≡ malformed
Says told s width j (Some v) = (4 + width * v.items ≤ length s) × (told ≡ verdicts (column width j v.items (drop 4 s)) (number_if v.remainder))
