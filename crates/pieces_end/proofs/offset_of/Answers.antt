-- `pieces_end::offset_of` meets its contract. Assumes nothing.
use native.Mathlib.Omega.{arith}
use Rattle.pieces_end.proofs.offset_of.Goals as goal

pub returns-in-Text : goal.returns-in-Text
returns-in-Text c = rw c.in-Text.is (omega arith)

pub returns-in-Binary : goal.returns-in-Binary
returns-in-Binary c = rw c.in-Binary.is (omega arith)
