-- The table by place: a row, and what a letter opens among the rows of a code length. Assumes nothing.
use Rattle.std.specs.Prelude.{ℕ, ◌+◌, ◌/◌, ltb, get_or}
use Rattle.base.specs.Pick.{pick}
use Rattle.format.specs.declared.CodeRow.{CodeRow}
use Rattle.format.specs.declared.Kind.TheVariants.{Fixed}
use Rattle.format.specs.declared.Opening.{Opening}
use Rattle.format.specs.declared.Opening.TheVariants.{Unknown, Short}
use Rattle.format.specs.Registry.{codes}

-- no code: what stands past the table's end
abbrev pub no_row : CodeRow
no_row = record { chars = 0; letter = 0; size = 0; pad = 0; lead = 0; tag = 0 }

unfoldable pub row_at : ℕ → CodeRow
row_at k = get_or codes k no_row

abbrev pub fixed_row : CodeRow → Opening
fixed_row r = Short (Fixed r) (r.size / 4)

-- by place: `from` is where a code length's rows start, and a row's place behind it is its letter
unfoldable pub fixed_from : ℕ → ℕ → ℕ → Opening
fixed_from from count letter = pick (ltb letter count) (fixed_row (row_at (from + letter))) Unknown
