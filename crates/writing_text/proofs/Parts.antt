-- A header and a text with its fill in a buffer of text: what these two parts leave. Assumes nothing.
use mathlib.Core.Path.{◌≡◌, ◌∙◌}
use mathlib.Core.List.{List, ◌++◌}
use Prim.Native.Nat.{ℕ, ◌+◌, ◌-◌, ◌*◌, ◌/◌, ◌≤◌}
use native.Mathlib.Omega.{arith}
use lib.ListN.{length, take, drop}
use lib.Seq.{length-take-le}
use Rattle.format.specs.Texts.{text_count}
use Rattle.format.specs.Conversion.{to_text, binary_to_text, text_left}
use Rattle.laws.specs.Conversion.{length-to-text}
use Rattle.writing_fill.specs.Filled.{filled_text}
use Rattle.writing_raw.proofs.Buffers.{converted-text, lent, behind}
use Rattle.std.specs.Prelude.{Result}
use Rattle.format.specs.declared.Refusal.{Refusal}
use Rattle.format.specs.declared.TextOffset.{TextOffset}
use Rattle.format.specs.declared.BinaryOffset.{BinaryOffset}

module _ (header : ℕ) (head chars d d₁ d₂ : List ℕ) (two : header ≤ 2) (nine : length head ≡ 9) where
  front_length : length (take (header * 3) head) ≡ header * 3
  front_length = length-take-le (header * 3) head (omega arith)

  pub text-put : (r : Result TextOffset (Refusal BinaryOffset)) → let front = take (header * 3) head in
      let part = take (length d₁ - header * 4) (drop (header * 4) d₁) in
      (header + text_count (length chars)) * 4 ≤ length d → r ≡ binary_to_text front (length d) → d₁ ≡ text_left r front d
      → d₂ ≡ filled_text chars ++ drop (4 * text_count (length chars)) part
      → take (header * 4) d₁ ++ (d₂ ++ drop (length d₁ - header * 4) (drop (header * 4) d₁))
      ≡ to_text front ++ filled_text chars ++ drop (header * 4 + 4 * text_count (length chars)) d
  text-put r room e p f =
      let front = take (header * 3) head in
      let l = front_length in
      let n : length front / 3 * 4 ≡ header * 4 = omega arith in
      let a : d₁ ≡ to_text front ++ drop (header * 4) d = converted-text front d d₁ r (omega arith) (omega arith) (omega arith) e p ∙ rw n in
      let t : length (to_text front) ≡ header * 4 = length-to-text front ∙ omega arith in
      behind (to_text front) d d₁ (header * 4) t a (filled_text chars) d₂ (4 * text_count (length chars)) (rw (lent (to_text front) d d₁ (header * 4) t a) at f)
