-- The indexed table by place: a row, and what a letter opens among the rows of a selector. Assumes nothing.
use Rattle.std.specs.Prelude.{ℕ, ◌+◌, ltb, get_or}
use Rattle.base.specs.Pick.{pick}
use Rattle.format.specs.declared.IndexRow.{IndexRow}
use Rattle.format.specs.declared.Opening.{Opening}
use Rattle.format.specs.declared.Opening.TheVariants.{Unknown}
use Rattle.format.specs.Registry.{indexed_codes, indexed_row}

-- no code: what stands past the table's end
abbrev pub no_row : IndexRow
no_row = record { chars = 0; selector = 0; letter = 0; size = 0; index = 0; ondex = 0; zeros = 0; current = 0 }

unfoldable pub row_at : ℕ → IndexRow
row_at k = get_or indexed_codes k no_row

-- by place: `from` is where a selector's rows start, and a row's place behind it is its letter
unfoldable pub indexed_from : ℕ → ℕ → ℕ → Opening
indexed_from from count letter = pick (ltb letter count) (indexed_row (row_at (from + letter))) Unknown
