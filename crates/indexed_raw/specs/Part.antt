-- Where the part of a found indexed item lies. Assumes nothing.
use Rattle.std.specs.Prelude.{ℕ, ◌+◌}
use Rattle.std.specs.Prelude.{Ok, Err, Result}
use Rattle.format.specs.declared.Refusal.{Refusal}
use Rattle.format.specs.declared.BinaryOffset.{BinaryOffset}
use Rattle.format.specs.declared.IndexedItem.{IndexedItem}

-- 01: "the part of the binary stream where it lies": where it starts in the stream; a refused read's empty part is at the stream's start
unfoldable pub part_start : ℕ → Result IndexedItem (Refusal BinaryOffset) → ℕ
part_start at (Ok p) = at + p.start.0
part_start at (Err e) = 0
