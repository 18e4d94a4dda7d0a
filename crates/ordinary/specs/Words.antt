-- What 02's request j speaks of: a text with another stranger for each `+`, `/` and `=`, and answers with 5 for each 19. No proofs.
-- Assumes nothing.
use Rattle.std.specs.Prelude.{ℕ, ◌≤◌, ◌<◌, ◌≡◌, List, [], ◌∷◌, ◌++◌, map, Bool, true, eqb, length, get_or}
use Rattle.base.specs.Pick.{pick}
use Rattle.format.specs.declared.Verdict.{Verdict}
use Rattle.format.specs.declared.Verdict.TheVariants.{Accepted, Refused}
use Rattle.format.specs.declared.Framed.{Framed}
use Rattle.format.specs.declared.Framed.TheVariants.{Item, Unframed}
use Rattle.format.specs.declared.PrimitiveRead.{PrimitiveRead}
use Rattle.format.specs.Alphabet.{is_ordinary}
use Rattle.format.specs.Units.{text}
use Rattle.format.specs.Report.{ItemRow, RefusalRow, RemainderRow, rows_in, refusals_in, remainder_in}
use Rattle.format.specs.Report.{row_bytes, refusal_bytes, remainder_bytes, section}
use Rattle.format.specs.Writing.{Named}
use Rattle.format.specs.Writing.Named.{unknown, row, variable, textual}
use Rattle.walk_state.specs.declared.Found.{Found}
use Rattle.walk_state.specs.declared.Found.TheVariants as F
use Rattle.walk_state.specs.declared.Stepped.{Stepped}
use Rattle.std.specs.Prelude.{Ok, Err, Result}
use Rattle.format.specs.declared.Refusal.{Refusal}
use Rattle.format.specs.Refusals.{refused_by}
use Rattle.format.specs.declared.TextOffset.{TextOffset}
use Rattle.format.specs.declared.BinaryOffset.{BinaryOffset}
use Rattle.format.specs.declared.Primitive.{Primitive}
use Rattle.format.specs.declared.IndexedItem.{IndexedItem}

-- ---- the same text with `!`, which no alphabet has, for each of the three

unfoldable pub mask : ℕ → ℕ
mask c = pick (is_ordinary c) 33 c

abbrev pub masked : List ℕ → List ℕ
masked s = map mask s

-- what is given to a writer as a value: of type `A` its characters, masked; every other code's is bytes
abbrev pub masked_text : Named → List ℕ → List ℕ
masked_text unknown raw = raw
masked_text (row c) raw = raw
masked_text (variable t h) raw = raw
masked_text (textual h) chars = masked chars

-- one of the three stands at a place
abbrev pub OrdinaryAt : List ℕ → ℕ → Type 0
OrdinaryAt s p = is_ordinary (get_or s p 0) ≡ true

-- ---- the same answer with 5 for 19

unfoldable pub as_five : ℕ → ℕ
as_five n = pick (eqb n 19) 5 n

unfoldable pub verdict_five : Verdict → Verdict
verdict_five Accepted = Accepted
verdict_five (Refused n p) = Refused (as_five n) p

unfoldable pub framed_five : Framed → Framed
framed_five (Item k h n) = Item k h n
framed_five (Unframed n p) = Unframed (as_five n) p

-- a report's rows: nothing else changes
unfoldable pub row_five : ItemRow → ItemRow
row_five r = record { offset = r.offset; size = r.size; verdict = verdict_five r.verdict }

unfoldable pub refusal_five : RefusalRow → RefusalRow
refusal_five r = record { index = r.index; number = as_five r.number; place = r.place }

unfoldable pub remainder_five : RemainderRow → RemainderRow
remainder_five r = record { offset = r.offset; number = as_five r.number }

-- a text's report, its rows' bytes so changed
unfoldable pub report_five : List ℕ → List ℕ
report_five s =
    section (λ r. row_bytes (row_five r)) (rows_in text s)
    ++ (section (λ r. refusal_bytes (refusal_five r)) (refusals_in text s)
    ++ section (λ r. remainder_bytes (remainder_five r)) (remainder_in text s))

unfoldable pub to_binary_five : Result BinaryOffset (Refusal TextOffset) → Result BinaryOffset (Refusal TextOffset)
to_binary_five (Ok n) = Ok n
to_binary_five (Err e) = refused_by (as_five e.number) e.place

unfoldable pub text_found_five : Result Primitive (Refusal TextOffset) → Result Primitive (Refusal TextOffset)
text_found_five (Ok q) = Ok q
text_found_five (Err e) = refused_by (as_five e.number) e.place

unfoldable pub text_read_five : PrimitiveRead TextOffset → PrimitiveRead TextOffset
text_read_five r = record { found = text_found_five r.found; tag = r.tag }

unfoldable pub text_indexed_five : Result IndexedItem (Refusal TextOffset) → Result IndexedItem (Refusal TextOffset)
text_indexed_five (Ok q) = Ok q
text_indexed_five (Err e) = refused_by (as_five e.number) e.place

unfoldable pub text_written_five : Result TextOffset (Refusal ℕ) → Result TextOffset (Refusal ℕ)
text_written_five (Ok n) = Ok n
text_written_five (Err e) = refused_by (as_five e.number) e.place

unfoldable pub binary_written_five : Result BinaryOffset (Refusal ℕ) → Result BinaryOffset (Refusal ℕ)
binary_written_five (Ok n) = Ok n
binary_written_five (Err e) = refused_by (as_five e.number) e.place

unfoldable pub found_five : Found ℕ → Found ℕ
found_five (F.Item o n d k h) = F.Item o n d k h
found_five (F.Refused m p) = F.Refused (as_five m) p
found_five F.End = F.End

unfoldable pub stepped_five : Stepped ℕ → Stepped ℕ
stepped_five r = record { next = r.next; found = found_five r.found }

-- ---- words of statements

abbrev pub Exactly : Type 0 → Type 0 → Type 0
Exactly A B = (A → B) × (B → A)

-- of every one of a list
abbrev pub Each {ℓ} : {A : Type ℓ} → (A → Type 0) → List A → Type 0
Each P [] = Unit {0}
Each P (a ∷ l) = P a × Each P l
