-- 0 is answered exactly for an accepted call, 255 exactly at the end, and any number but 0 leaves what is lent. Assumes nothing.
use Rattle.std.specs.Prelude.{ℕ, ◌<◌, ◌≡◌, refl, List, ◌↔◌, length}
use Rattle.std.proofs.Common.{arith}
use Rattle.format.specs.declared.Code.{Code}
use Rattle.format.specs.declared.IndexCode.{IndexCode}
use Rattle.format.specs.declared.TextOffset.{TextOffset}
use Rattle.format.specs.declared.BinaryOffset.{BinaryOffset}
use Rattle.format.specs.Units.{Domain, text, binary}
use Rattle.format.specs.Offsets.{text_offset, binary_offset}
use Rattle.format.specs.Conversion.{text_to_binary, to_binary_number, binary_left, binary_to_text, to_text_number, text_left}
use Rattle.format.specs.Report.{report_answer, report_number, report_left}
use Rattle.format.specs.Reading.{read_text, value_left, read_binary, chars_left}
use Rattle.format.specs.Writing.{write_text, text_item_left, write_binary, binary_item_left}
use Rattle.format.specs.Indexed.{read_indexed_text, indexed_left, read_indexed_binary}
use Rattle.format.specs.Indexed.{write_indexed_text, text_indexed_left, write_indexed_binary, binary_indexed_left}
use Rattle.claims.specs.Claims.{Demand1}
use Rattle.claims_indexed.specs.Claims.{IndexedCalls}
use Rattle.claims.proofs.Demand1.{demand1}
use Rattle.claims_indexed.proofs.IndexedCalls.{indexed-calls}
use Rattle.walk_state.specs.declared.Walk.{Walk}
use Rattle.walk_state.specs.declared.Found.{Found}
use Rattle.walk_state.specs.declared.Found.TheVariants as F
use Rattle.walk_state.specs.Walking.{step_in, text_item, text_step, binary_item, binary_step}
use Rattle.walk_claims.proofs.Proved as W
use Rattle.exports_values.specs.Answers.{text_found_number, text_tag_left, text_info_left, binary_found_number, binary_tag_left, binary_info_left}
use Rattle.exports_values.specs.Answers.{text_written_number, binary_written_number}
use Rattle.exports_values.specs.Lent.{text_step_number, text_yield_left, text_state_left, binary_step_number, binary_yield_left, binary_state_left}
use Rattle.exports_claims.specs.Words.{InBinary, InText, Report, ReadText, ReadBinary, WroteText, WroteBinary, YieldsText, YieldsBinary}
use Rattle.exports_indexed.specs.Answers.{text_number, text_info, binary_number, binary_info}
use Rattle.exports_claims.specs.Words.{ReadIndexedText, ReadIndexedBinary}
use Rattle.exports_claims.specs.Claims.{ZeroClaims, KeepClaims}
use Rattle.std.specs.Prelude.{Ok, Err, Result}
use Rattle.format.specs.declared.Refusal.{Refusal}
use Rattle.format.specs.Refusals.{refused_by}
use Rattle.format.specs.declared.Primitive.{Primitive}
use Rattle.format.specs.declared.IndexedItem.{IndexedItem}

-- ---- each kind of answer: its number is 0 exactly where it is accepted, if no refusal has the number 0; and any other leaves what is lent

binary-zero : (a : Result BinaryOffset (Refusal TextOffset)) → ((m : ℕ) (p : TextOffset) → a ≡ refused_by m p → 0 < m) → (to_binary_number a ≡ 0) ↔ InBinary a
unfolding to_binary_number
binary-zero (Ok n) h = (λ _. tt, λ _. refl)
binary-zero (Err r) h = (λ e. absurd (omega (arith, e, h r.number r.place refl)), λ x. absurd x)

text-zero : (a : Result TextOffset (Refusal BinaryOffset)) → ((m : ℕ) (p : BinaryOffset) → a ≡ refused_by m p → 0 < m) → (to_text_number a ≡ 0) ↔ InText a
unfolding to_text_number
text-zero (Ok n) h = (λ _. tt, λ _. refl)
text-zero (Err r) h = (λ e. absurd (omega (arith, e, h r.number r.place refl)), λ x. absurd x)

report-zero : (a : Result ℕ (Refusal ℕ)) → ((m : ℕ) (p : ℕ) → a ≡ refused_by m p → 0 < m) → (report_number a ≡ 0) ↔ Report a
unfolding report_number
report-zero (Ok n) h = (λ _. tt, λ _. refl)
report-zero (Err r) h = (λ e. absurd (omega (arith, e, h r.number r.place refl)), λ x. absurd x)

text-found-zero : (a : Result Primitive (Refusal TextOffset)) → ((m : ℕ) (p : TextOffset) → a ≡ refused_by m p → 0 < m) → (text_found_number a ≡ 0) ↔ ReadText a
unfolding text_found_number
text-found-zero (Ok q) h = (λ _. tt, λ _. refl)
text-found-zero (Err r) h = (λ e. absurd (omega (arith, e, h r.number r.place refl)), λ x. absurd x)

binary-found-zero : (a : Result Primitive (Refusal BinaryOffset)) → ((m : ℕ) (p : BinaryOffset) → a ≡ refused_by m p → 0 < m) → (binary_found_number a ≡ 0) ↔ ReadBinary a
unfolding binary_found_number
binary-found-zero (Ok q) h = (λ _. tt, λ _. refl)
binary-found-zero (Err r) h = (λ e. absurd (omega (arith, e, h r.number r.place refl)), λ x. absurd x)

text-written-zero : (a : Result TextOffset (Refusal ℕ)) → ((m : ℕ) (p : ℕ) → a ≡ refused_by m p → 0 < m) → (text_written_number a ≡ 0) ↔ WroteText a
unfolding text_written_number
text-written-zero (Ok n) h = (λ _. tt, λ _. refl)
text-written-zero (Err r) h = (λ e. absurd (omega (arith, e, h r.number r.place refl)), λ x. absurd x)

binary-written-zero : (a : Result BinaryOffset (Refusal ℕ)) → ((m : ℕ) (p : ℕ) → a ≡ refused_by m p → 0 < m) → (binary_written_number a ≡ 0) ↔ WroteBinary a
unfolding binary_written_number
binary-written-zero (Ok n) h = (λ _. tt, λ _. refl)
binary-written-zero (Err r) h = (λ e. absurd (omega (arith, e, h r.number r.place refl)), λ x. absurd x)

text-indexed-zero : (a : Result IndexedItem (Refusal TextOffset)) → ((m : ℕ) (p : TextOffset) → a ≡ refused_by m p → 0 < m) → (text_number a ≡ 0) ↔ ReadIndexedText a
unfolding text_number
text-indexed-zero (Ok q) h = (λ _. tt, λ _. refl)
text-indexed-zero (Err r) h = (λ e. absurd (omega (arith, e, h r.number r.place refl)), λ x. absurd x)

binary-indexed-zero : (a : Result IndexedItem (Refusal BinaryOffset)) → ((m : ℕ) (p : BinaryOffset) → a ≡ refused_by m p → 0 < m) → (binary_number a ≡ 0) ↔ ReadIndexedBinary a
unfolding binary_number
binary-indexed-zero (Ok q) h = (λ _. tt, λ _. refl)
binary-indexed-zero (Err r) h = (λ e. absurd (omega (arith, e, h r.number r.place refl)), λ x. absurd x)

binary-keeps : (a : Result BinaryOffset (Refusal TextOffset)) (s d : List ℕ) → (to_binary_number a ≡ 0 → ⊥) → binary_left a s d ≡ d
unfolding to_binary_number binary_left
binary-keeps (Ok n) s d h = absurd (h refl)
binary-keeps (Err e) s d h = refl

text-keeps : (a : Result TextOffset (Refusal BinaryOffset)) (s d : List ℕ) → (to_text_number a ≡ 0 → ⊥) → text_left a s d ≡ d
unfolding to_text_number text_left
text-keeps (Ok n) s d h = absurd (h refl)
text-keeps (Err e) s d h = refl

report-keeps : (a : Result ℕ (Refusal ℕ)) (f : Domain) (s d : List ℕ) → (report_number a ≡ 0 → ⊥) → report_left a f s d ≡ d
unfolding report_number report_left
report-keeps (Ok n) f s d h = absurd (h refl)
report-keeps (Err e) f s d h = refl

text-found-keeps : (a : Result Primitive (Refusal TextOffset)) (s : List ℕ) (at : ℕ) (d chars tag info : List ℕ) → (text_found_number a ≡ 0 → ⊥)
    → (value_left a s at d ≡ d) × (text_tag_left a chars tag ≡ tag) × (text_info_left a info ≡ info)
unfolding text_found_number value_left text_tag_left text_info_left
text-found-keeps (Ok q) s at d chars tag info h = absurd (h refl)
text-found-keeps (Err e) s at d chars tag info h = (refl, refl, refl)

binary-found-keeps : (a : Result Primitive (Refusal BinaryOffset)) (s : List ℕ) (at : ℕ) (d chars tag info : List ℕ) → (binary_found_number a ≡ 0 → ⊥)
    → (chars_left a s at d ≡ d) × (binary_tag_left a chars tag ≡ tag) × (binary_info_left a info ≡ info)
unfolding binary_found_number chars_left binary_tag_left binary_info_left
binary-found-keeps (Ok q) s at d chars tag info h = absurd (h refl)
binary-found-keeps (Err e) s at d chars tag info h = (refl, refl, refl)

text-written-keeps : (a : Result TextOffset (Refusal ℕ)) (code : Code) (tag : List ℕ) (tags : ℕ) (raw d : List ℕ) → (text_written_number a ≡ 0 → ⊥)
    → text_item_left a code tag tags raw d ≡ d
unfolding text_written_number text_item_left
text-written-keeps (Ok n) code tag tags raw d h = absurd (h refl)
text-written-keeps (Err e) code tag tags raw d h = refl

binary-written-keeps : (a : Result BinaryOffset (Refusal ℕ)) (code : Code) (tag : List ℕ) (tags : ℕ) (raw d : List ℕ) → (binary_written_number a ≡ 0 → ⊥)
    → binary_item_left a code tag tags raw d ≡ d
unfolding binary_written_number binary_item_left
binary-written-keeps (Ok n) code tag tags raw d h = absurd (h refl)
binary-written-keeps (Err e) code tag tags raw d h = refl

text-indexed-keeps : (a : Result IndexedItem (Refusal TextOffset)) (s : List ℕ) (at : ℕ) (d info : List ℕ) → (text_number a ≡ 0 → ⊥)
    → (indexed_left a s at d ≡ d) × (text_info a info ≡ info)
unfolding text_number indexed_left text_info
text-indexed-keeps (Ok q) s at d info h = absurd (h refl)
text-indexed-keeps (Err e) s at d info h = (refl, refl)

binary-indexed-keeps : (a : Result IndexedItem (Refusal BinaryOffset)) (info : List ℕ) → (binary_number a ≡ 0 → ⊥) → binary_info a info ≡ info
unfolding binary_number binary_info
binary-indexed-keeps (Ok q) info h = absurd (h refl)
binary-indexed-keeps (Err e) info h = refl

text-indexed-written-keeps : (a : Result TextOffset (Refusal ℕ)) (code : IndexCode) (index ondex : ℕ) (raw d : List ℕ) → (text_written_number a ≡ 0 → ⊥)
    → text_indexed_left a code index ondex raw d ≡ d
unfolding text_written_number text_indexed_left
text-indexed-written-keeps (Ok n) code index ondex raw d h = absurd (h refl)
text-indexed-written-keeps (Err e) code index ondex raw d h = refl

binary-indexed-written-keeps : (a : Result BinaryOffset (Refusal ℕ)) (code : IndexCode) (index ondex : ℕ) (raw d : List ℕ) → (binary_written_number a ≡ 0 → ⊥)
    → binary_indexed_left a code index ondex raw d ≡ d
unfolding binary_written_number binary_indexed_left
binary-indexed-written-keeps (Ok n) code index ondex raw d h = absurd (h refl)
binary-indexed-written-keeps (Err r) code index ondex raw d h = refl

-- ---- a step: no refusal has the number 0 or 255

abbrev Numbered : Found ℕ → Type 0
Numbered f = (m p : ℕ) → f ≡ F.Refused m p → (0 < m) × (m < 255)

text-numbered : (s : List ℕ) (w : Walk) → Numbered (step_in text s w).found
text-numbered s w m p e = let q = ((W.proved).of-text s).refuses w m p e in (q.0.not-accepted, q.1)

text-yields : (f : Found ℕ) → Numbered f → (text_step_number (text_item f) ≡ 0) ↔ YieldsText (text_item f)
unfolding text_step_number text_item
text-yields (F.Item o n d k h) b = (λ _. tt, λ _. refl)
text-yields (F.Refused m p) b = (λ e. absurd (omega (arith, e, (b m p refl).0)), λ x. absurd x)
text-yields F.End b = (λ e. absurd (omega arith), λ x. absurd x)

text-ends : (f : Found ℕ) → Numbered f → (text_step_number (text_item f) ≡ 255) ↔ (text_item f ≡ F.End)
unfolding text_step_number text_item
text-ends (F.Item o n d k h) b = (λ e. absurd (omega arith), λ e. let z : ◌≡◌ {A = ℕ} 0 1 = cc in absurd (omega arith))
text-ends (F.Refused m p) b =
    (λ e. absurd (omega (arith, e, (b m p refl).1)), λ e. let z : ◌≡◌ {A = ℕ} 0 1 = cc in absurd (omega arith))
text-ends F.End b = (λ _. refl, λ _. refl)

text-step-keeps : (f : Found TextOffset) (w : Walk) (state item : List ℕ) → (text_step_number f ≡ 0 → ⊥)
    → (text_yield_left f item ≡ item) × (text_state_left f w state ≡ state)
unfolding text_step_number text_yield_left text_state_left
text-step-keeps (F.Item o n d k h) w state item h' = absurd (h' refl)
text-step-keeps (F.Refused m p) w state item h' = (refl, refl)
text-step-keeps F.End w state item h' = (refl, refl)

binary-numbered : (s : List ℕ) (w : Walk) → Numbered (step_in binary s w).found
binary-numbered s w m p e = let q = ((W.proved).of-binary s).refuses w m p e in (q.0.not-accepted, q.1)

binary-yields : (f : Found ℕ) → Numbered f → (binary_step_number (binary_item f) ≡ 0) ↔ YieldsBinary (binary_item f)
unfolding binary_step_number binary_item
binary-yields (F.Item o n d k h) b = (λ _. tt, λ _. refl)
binary-yields (F.Refused m p) b = (λ e. absurd (omega (arith, e, (b m p refl).0)), λ x. absurd x)
binary-yields F.End b = (λ e. absurd (omega arith), λ x. absurd x)

binary-ends : (f : Found ℕ) → Numbered f → (binary_step_number (binary_item f) ≡ 255) ↔ (binary_item f ≡ F.End)
unfolding binary_step_number binary_item
binary-ends (F.Item o n d k h) b = (λ e. absurd (omega arith), λ e. let z : ◌≡◌ {A = ℕ} 0 1 = cc in absurd (omega arith))
binary-ends (F.Refused m p) b =
    (λ e. absurd (omega (arith, e, (b m p refl).1)), λ e. let z : ◌≡◌ {A = ℕ} 0 1 = cc in absurd (omega arith))
binary-ends F.End b = (λ _. refl, λ _. refl)

binary-step-keeps : (f : Found BinaryOffset) (w : Walk) (state item : List ℕ) → (binary_step_number f ≡ 0 → ⊥)
    → (binary_yield_left f item ≡ item) × (binary_state_left f w state ≡ state)
unfolding binary_step_number binary_yield_left binary_state_left
binary-step-keeps (F.Item o n d k h) w state item h' = absurd (h' refl)
binary-step-keeps (F.Refused m p) w state item h' = (refl, refl)
binary-step-keeps F.End w state item h' = (refl, refl)

-- ---- the calls

pub zero-claims : ZeroClaims
unfolding text_step binary_step
zero-claims = record {
  to-binary = λ s d. binary-zero (text_to_binary s (length d)) (λ m p e. (demand1.to-binary s d m p e).0.not-accepted);
  to-text = λ s d. text-zero (binary_to_text s (length d)) (λ m p e. (demand1.to-text s d m p e).0.not-accepted);
  reports = λ f s d. report-zero (report_answer f s (length d)) (λ m p e. (demand1.reports f s d m p e).0.not-accepted);
  read-text = λ s at d. text-found-zero (read_text s at (length d)).found (λ m p e. (demand1.read-text s at d m p e).0.not-accepted);
  read-binary = λ s at d. binary-found-zero (read_binary s at (length d)).found (λ m p e. (demand1.read-binary s at d m p e).0.not-accepted);
  write-text = λ code tag tags raw d. text-written-zero (write_text code tag tags raw (length d))
      (λ m p e. (demand1.write-text code tag tags raw d m p e).0.not-accepted);
  write-binary = λ code tag tags raw d. binary-written-zero (write_binary code tag tags raw (length d))
      (λ m p e. (demand1.write-binary code tag tags raw d m p e).0.not-accepted);
  read-indexed-text = λ s at d. text-indexed-zero (read_indexed_text s at (length d))
      (λ m p e. (indexed-calls.read-text s at d m p e).0.not-accepted);
  read-indexed-binary = λ s at. binary-indexed-zero (read_indexed_binary s at) (λ m p e. (indexed-calls.read-binary s at m p e).0.not-accepted);
  write-indexed-text = λ code index ondex raw d. text-written-zero (write_indexed_text code index ondex raw (length d))
      (λ m p e. (indexed-calls.write-text code index ondex raw d m p e).0.not-accepted);
  write-indexed-binary = λ code index ondex raw d. binary-written-zero (write_indexed_binary code index ondex raw (length d))
      (λ m p e. (indexed-calls.write-binary code index ondex raw d m p e).0.not-accepted);
  walk-text = λ s w. text-yields (step_in text s w).found (text-numbered s w);
  walk-binary = λ s w. binary-yields (step_in binary s w).found (binary-numbered s w);
  end-text = λ s w. text-ends (step_in text s w).found (text-numbered s w);
  end-binary = λ s w. binary-ends (step_in binary s w).found (binary-numbered s w);
}

pub keep-claims : KeepClaims
keep-claims = record {
  to-binary = λ s d. binary-keeps (text_to_binary s (length d)) s d;
  to-text = λ s d. text-keeps (binary_to_text s (length d)) s d;
  reports = λ f s d. report-keeps (report_answer f s (length d)) f s d;
  read-text = λ s at d. text-found-keeps (read_text s at (length d)).found s at d (read_text s at (length d)).tag;
  read-binary = λ s at d. binary-found-keeps (read_binary s at (length d)).found s at d (read_binary s at (length d)).tag;
  write-text = λ code tag tags raw d. text-written-keeps (write_text code tag tags raw (length d)) code tag tags raw d;
  write-binary = λ code tag tags raw d. binary-written-keeps (write_binary code tag tags raw (length d)) code tag tags raw d;
  read-indexed-text = λ s at d. text-indexed-keeps (read_indexed_text s at (length d)) s at d;
  read-indexed-binary = λ s at. binary-indexed-keeps (read_indexed_binary s at);
  write-indexed-text = λ code index ondex raw d. text-indexed-written-keeps (write_indexed_text code index ondex raw (length d)) code index ondex raw d;
  write-indexed-binary = λ code index ondex raw d. binary-indexed-written-keeps (write_indexed_binary code index ondex raw (length d)) code index ondex raw d;
  walk-text = λ s w. text-step-keeps (text_step s w).found (text_step s w).next;
  walk-binary = λ s w. binary-step-keeps (binary_step s w).found (binary_step s w).next;
}
