-- A text with its fill in a buffer of binary: what its two parts leave. Assumes nothing.
use mathlib.Core.Path.{◌≡◌, refl, ◌∙◌}
use mathlib.Core.List.{List, ◌++◌, append_assoc}
use Prim.Native.Nat.{ℕ, ◌+◌, ◌-◌, ◌*◌, ◌/◌, ◌%◌, ◌≤◌}
use native.Mathlib.Omega.{arith}
use lib.ListN.{length, take, drop, replicate, length-append, length-drop, length-replicate, take-append-drop}
use lib.Seq.{paste, take_at, drop_at, length-take-le}
use Rattle.format.specs.Texts.{fill_for, text_count}
use Rattle.format.specs.Conversion.{to_binary, first_stranger, text_to_binary, binary_left}
use Rattle.laws.specs.Conversion.{length-to-binary}
use Rattle.judging.proofs.Laws.{to_end}
use Rattle.writing_fill.specs.Filled.{filled_text}
use Rattle.writing_fill.proofs.Filled.{filled-known, known-take, known-drop, first_part}
use Rattle.writing_raw.proofs.Buffers.{converted-binary, lent, behind, binary-append}
use Rattle.std.specs.Prelude.{Result}
use Rattle.format.specs.declared.Refusal.{Refusal}
use Rattle.format.specs.declared.TextOffset.{TextOffset}
use Rattle.format.specs.declared.BinaryOffset.{BinaryOffset}

-- ---- the unit in which the fill ends, if there is one, and then the others

-- the characters of the first unit, and its bytes
pub first-sizes : (n : ℕ) → (fill_for n + n % 4 ≤ 4) × ((fill_for n + n % 4) / 4 * 3 ≤ 3 * text_count n)
unfolding fill_for text_count
first-sizes n = (omega arith, omega arith)

module _ (chars : List ℕ) where
  abbrev k : ℕ
  k = length chars % 4

  abbrev many : ℕ
  many = fill_for (length chars) + k

  abbrev first : List ℕ
  first = replicate (fill_for (length chars)) 65 ++ take k chars

  first-length : length first ≡ many
  first-length =
      length-append (replicate (fill_for (length chars)) 65) (take k chars)
      ∙ omega (arith, length-replicate {A = ℕ} (fill_for (length chars)) 65, length-take-le k chars (omega arith))

  first-whole : many % 4 ≡ 0
  unfolding fill_for
  first-whole = omega arith

  unit-front : (unit : List ℕ) → unit ≡ paste (replicate 4 65) (4 - k) chars k → take many unit ≡ first
  unfolding fill_for
  unit-front unit u = rw u (first_part chars k (fill_for (length chars)) (omega arith) (omega arith) refl)

  parts : filled_text chars ≡ first ++ drop k chars
  unfolding filled_text
  parts = rw (append_assoc, take-append-drop k chars)

  sizes : many / 4 * 3 + length (drop k chars) / 4 * 3 ≡ 3 * text_count (length chars)
  unfolding fill_for text_count
  sizes = omega (arith, length-drop k chars)

  pub packed-put : (unit d d₁ d₂ : List ℕ) (end : ℕ) (r₁ r₂ : Result BinaryOffset (Refusal TextOffset)) →
      let at = end / 4 * 3 in
      let rest = take (length chars - k) (drop k chars) in
      end ≡ many → 3 * text_count (length chars) ≤ length d → unit ≡ paste (replicate 4 65) (4 - k) chars k
      → r₁ ≡ text_to_binary (take end unit) (length d) → d₁ ≡ binary_left r₁ (take end unit) d
      → r₂ ≡ text_to_binary rest (length (take (length d₁ - at) (drop at d₁))) → d₂ ≡ binary_left r₂ rest (take (length d₁ - at) (drop at d₁))
      → length chars ≤ 4194304 → length chars ≤ first_stranger chars
      → take at d₁ ++ (d₂ ++ drop (length d₁ - at) (drop at d₁)) ≡ to_binary (filled_text chars) ++ drop (3 * text_count (length chars)) d
  packed-put unit d d₁ d₂ end r₁ r₂ q room u e₁ p₁ e₂ p₂ short clean =
      let at : ℕ = end / 4 * 3 in
      let low = filled-known chars clean in
      let few = first-sizes (length chars) in
      let s : at + length (drop k chars) / 4 * 3 ≡ 3 * text_count (length chars) = omega (arith, sizes) in
      let r = length-drop k chars in
      let l : length first ≡ end = omega (arith, first-length) in
      let w : length first % 4 ≡ 0 = rw (l, q) first-whole in
      let t : take end unit ≡ first = rw q (unit-front unit u) in
      let j : filled_text chars ≡ first ++ drop k chars = parts in
      let a : take end (filled_text chars) ≡ first = rw j (take_at first (drop k chars) end l) in
      let b : drop end (filled_text chars) ≡ drop k chars = rw j (drop_at first (drop k chars) end l) in
      let c₁ : d₁ ≡ to_binary first ++ drop at d =
      converted-binary first d d₁ r₁ (omega arith) w (rw a at (known-take end (filled_text chars) low)) (omega arith) (rw t at e₁) (rw t at p₁) ∙ rw l in
      let h : length (to_binary first) ≡ at = length-to-binary first ∙ omega arith in
      let v = lent (to_binary first) d d₁ at h c₁ in
      let g = length-drop at d in
      let c₂ =
      converted-binary (drop k chars) (drop at d) d₂ r₂ (omega arith) (omega arith) (rw b at (known-drop end (filled_text chars) low)) (omega arith)
      (rw (to_end chars k, v) at e₂) (rw (to_end chars k, v) at p₂) in
      behind (to_binary first) d d₁ at h c₁ (to_binary (drop k chars)) d₂ (length (drop k chars) / 4 * 3) c₂
      ∙ rw (s, j, binary-append first (drop k chars) w)

-- ---- behind the header

module _ (header : ℕ) (head chars d d₁ d₂ : List ℕ) (two : header ≤ 2) (nine : length head ≡ 9) where
  front_length : length (take (header * 3) head) ≡ header * 3
  front_length = length-take-le (header * 3) head (omega arith)

  pub binary-put : let front = take (header * 3) head in
      let part = take (length d₁ - header * 3) (drop (header * 3) d₁) in
      d₁ ≡ front ++ drop (header * 3) d
      → (length chars ≤ 4194304 → length chars ≤ first_stranger chars → d₂ ≡ to_binary (filled_text chars) ++ drop (3 * text_count (length chars)) part)
      → length chars ≤ 4194304 → length chars ≤ first_stranger chars
      → take (header * 3) d₁ ++ (d₂ ++ drop (length d₁ - header * 3) (drop (header * 3) d₁))
      ≡ front ++ to_binary (filled_text chars) ++ drop (header * 3 + 3 * text_count (length chars)) d
  binary-put p f short clean =
      let front = take (header * 3) head in
      let l = front_length in
      behind front d d₁ (header * 3) l p (to_binary (filled_text chars)) d₂ (3 * text_count (length chars)) (rw (lent front d d₁ (header * 3) l p) at (f short clean))
