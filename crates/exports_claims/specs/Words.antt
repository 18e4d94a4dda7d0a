-- What the claims on the calls for C speak of: which answers are accepted ones, and the state that is lent call after call. No proofs.
-- Assumes nothing.
use Rattle.std.specs.Prelude.{ℕ, zero, suc, List, replicate}
use Rattle.format.specs.declared.IndexRow.{IndexRow}
use Rattle.format.specs.declared.IndexedItem.{IndexedItem}
use Rattle.format.specs.Offsets.{binary_offset}
use Rattle.walk_state.specs.declared.Found.{Found}
use Rattle.walk_state.specs.declared.Found.TheVariants as TI
use Rattle.walk_state.specs.declared.Stepped.{Stepped}
use Rattle.walk_state.specs.Walking.{text_step, binary_step}
use Rattle.exports_values.specs.Lent.{state_size, walk_of, text_state_left, binary_state_left}
use Rattle.std.specs.Prelude.{Ok, Err, Result}
use Rattle.format.specs.declared.Refusal.{Refusal}
use Rattle.format.specs.declared.TextOffset.{TextOffset}
use Rattle.format.specs.declared.BinaryOffset.{BinaryOffset}
use Rattle.format.specs.declared.Primitive.{Primitive}

-- ---- accepted

abbrev pub InBinary : Result BinaryOffset (Refusal TextOffset) → Type 0
InBinary (Ok n) = Unit {0}
InBinary (Err e) = ⊥

abbrev pub InText : Result TextOffset (Refusal BinaryOffset) → Type 0
InText (Ok n) = Unit {0}
InText (Err e) = ⊥

abbrev pub Report : Result ℕ (Refusal ℕ) → Type 0
Report (Ok n) = Unit {0}
Report (Err e) = ⊥

abbrev pub ReadText : Result Primitive (Refusal TextOffset) → Type 0
ReadText (Ok p) = Unit {0}
ReadText (Err e) = ⊥

abbrev pub ReadBinary : Result Primitive (Refusal BinaryOffset) → Type 0
ReadBinary (Ok p) = Unit {0}
ReadBinary (Err e) = ⊥

abbrev pub WroteText : Result TextOffset (Refusal ℕ) → Type 0
WroteText (Ok n) = Unit {0}
WroteText (Err e) = ⊥

abbrev pub WroteBinary : Result BinaryOffset (Refusal ℕ) → Type 0
WroteBinary (Ok n) = Unit {0}
WroteBinary (Err e) = ⊥

abbrev pub ReadIndexedText : Result IndexedItem (Refusal TextOffset) → Type 0
ReadIndexedText (Ok p) = Unit {0}
ReadIndexedText (Err e) = ⊥

abbrev pub ReadIndexedBinary : Result IndexedItem (Refusal BinaryOffset) → Type 0
ReadIndexedBinary (Ok p) = Unit {0}
ReadIndexedBinary (Err e) = ⊥

-- ---- a step that yields, and one that tells the end

abbrev pub YieldsText : Found TextOffset → Type 0
YieldsText (TI.Item o n d k h) = Unit {0}
YieldsText (TI.Refused m p) = ⊥
YieldsText TI.End = ⊥

abbrev pub YieldsBinary : Found BinaryOffset → Type 0
YieldsBinary (TI.Item o n d k h) = Unit {0}
YieldsBinary (TI.Refused m p) = ⊥
YieldsBinary TI.End = ⊥

-- ---- the state lent, behind k calls of cesr_walk_text or cesr_walk_binary: zeros at first

unfoldable pub text_lent : List ℕ → ℕ → List ℕ
text_lent xs zero = replicate state_size 0
text_lent xs (suc k) =
    let a : Stepped TextOffset = text_step xs (walk_of (text_lent xs k)) in
    text_state_left a.found a.next (text_lent xs k)

unfoldable pub binary_lent : List ℕ → ℕ → List ℕ
binary_lent xs zero = replicate state_size 0
binary_lent xs (suc k) =
    let a : Stepped BinaryOffset = binary_step xs (walk_of (binary_lent xs k)) in
    binary_state_left a.found a.next (binary_lent xs k)

-- ---- two indexed codes, and an item

-- 003's `A` and `2A`
abbrev pub lone : IndexRow
lone = record { chars = 1; selector = 0; letter = 0; size = 88; index = 1; ondex = 0; zeros = 4; current = 0 }

abbrev pub paired : IndexRow
paired = record { chars = 2; selector = 54; letter = 0; size = 92; index = 2; ondex = 2; zeros = 4; current = 0 }

abbrev pub signature : IndexedItem
signature = record { code = record { selector = 50; letter = 65 }; size = 23; start = binary_offset 5; raw = 64; index = 64; ondex = 66 }
