-- What a buffer holds when two parts are written, the second into what is lent behind the first; and when they are what stands before a
-- raw value and the raw value, as text. Assumes nothing.
use mathlib.Core.Path.{◌≡◌, refl, ◌∙◌}
use mathlib.Core.List.{List, [], ◌++◌, append_assoc, append-nil}
use Prim.Native.Nat.{ℕ, ◌+◌, ◌-◌, ◌*◌, ◌/◌, ◌%◌, ◌≤◌}
use native.Mathlib.Omega.{arith}
use lib.ListN.{length, take, drop, length-append, length-drop, drop_of_length-le, take-append-drop}
use lib.Seq.{take_at, drop_at, drop-drop, take_all, paste, take-paste, length_paste_head, length-take-le}
use Rattle.base.specs.Digits.{Below}
use Rattle.format.specs.Units.{text_sextets}
use Rattle.format.specs.Conversion.{to_text, to_binary, binary_to_text, text_to_binary, text_left, binary_left}
use Rattle.laws.specs.Conversion.{text-joins, binary-joins, no-stranger, length-to-text}
use Rattle.convert_order.proofs.Answers.{length_whole, text-converted}
use Rattle.convert.proofs.Answers.{binary-converted}
use Rattle.std.specs.Prelude.{Result}
use Rattle.format.specs.declared.Refusal.{Refusal}
use Rattle.format.specs.declared.TextOffset.{TextOffset}
use Rattle.format.specs.declared.BinaryOffset.{BinaryOffset}

-- a part that is lent to the end
pub to_end : (s : List ℕ) (from : ℕ) → take (length s - from) (drop from s) ≡ drop from s
to_end s from = take_all (length s - from) (drop from s) (omega (arith, length-drop from s))

-- ---- one part

-- a conversion that has room
pub converted-text : (b d d' : List ℕ) (r : Result TextOffset (Refusal BinaryOffset)) → length b ≤ 3145728 → length b % 3 ≡ 0 → length b / 3 * 4 ≤ length d → r ≡ binary_to_text b (length d)
    → d' ≡ text_left r b d → d' ≡ to_text b ++ drop (length b / 3 * 4) d
unfolding text_left
converted-text b d d' r s w h e p = p ∙ rw (e ∙ binary-converted b (length d) s (omega arith) h)

pub converted-binary : (t d d' : List ℕ) (r : Result BinaryOffset (Refusal TextOffset)) → length t ≤ 4194304 → length t % 4 ≡ 0 → Below 64 (text_sextets t)
    → length t / 4 * 3 ≤ length d → r ≡ text_to_binary t (length d) → d' ≡ binary_left r t d → d' ≡ to_binary t ++ drop (length t / 4 * 3) d
unfolding binary_left
converted-binary t d d' r s w k h e p = p ∙ rw (e ∙ text-converted t (length d) (length_whole _ s (omega arith)) _ refl (omega (arith, no-stranger t k)) h)

-- ---- two parts

-- a front p in a buffer that held d
module _ (p d d₁ : List ℕ) (at : ℕ) (l : length p ≡ at) (e : d₁ ≡ p ++ drop at d) where
  -- the part behind it, as it is lent
  pub lent : take (length d₁ - at) (drop at d₁) ≡ drop at d
  lent = to_end d₁ at ∙ rw e (drop_at p (drop at d) at l)

  -- and when it is back
  pub behind : (q d₂ : List ℕ) (n : ℕ) → d₂ ≡ q ++ drop n (drop at d)
      → take at d₁ ++ (d₂ ++ drop (length d₁ - at) (drop at d₁)) ≡ p ++ q ++ drop (at + n) d
  behind q d₂ n f =
      let z : drop (length d₁ - at) (drop at d₁) ≡ [] = drop_of_length-le (drop at d₁) {i = length d₁ - at} (omega (arith, length-drop at d₁)) in
      rw (z, f, e, take_at p (drop at d) at l, append-nil, drop-drop n at d, append_assoc)

-- a front of whole units converts by itself
pub text-append : (p q : List ℕ) → length p % 3 ≡ 0 → to_text (p ++ q) ≡ to_text p ++ to_text q
text-append p q w =
    let e : length p / 3 * 3 ≡ length p = omega arith in
    let l = length-append p q in
    rw (e, take_at p q (length p) refl, drop_at p q (length p) refl) at (text-joins (p ++ q) (length p / 3) (omega arith))

pub binary-append : (p q : List ℕ) → length p % 4 ≡ 0 → to_binary (p ++ q) ≡ to_binary p ++ to_binary q
binary-append p q w =
    let e : length p / 4 * 4 ≡ length p = omega arith in
    let l = length-append p q in
    rw (e, take_at p q (length p) refl, drop_at p q (length p) refl) at (binary-joins (p ++ q) (length p / 4) (omega arith))

-- ---- what stands before a raw value, and the raw value

-- the units of the first bytes with the raw ones that fill the last of them, then the raw value's own
joined-text : (p raw : List ℕ) (k : ℕ) → length (p ++ take k raw) % 3 ≡ 0 → to_text (p ++ raw) ≡ to_text (p ++ take k raw) ++ to_text (drop k raw)
joined-text p raw k w = rw (← text-append (p ++ take k raw) (drop k raw) w, append_assoc, take-append-drop k raw)

pub put-text : (head first raw d d₁ d₂ : List ℕ) (start : ℕ) (r₁ r₂ : Result TextOffset (Refusal BinaryOffset)) → start ≤ 9 → (start + length raw) % 3 ≡ 0
    → (start + length raw) / 3 * 4 ≤ length d → length raw ≤ 3145728 → length head ≡ 9 → first ≡ paste head start raw (length raw % 3)
    → r₁ ≡ binary_to_text (take (start + length raw % 3) first) (length d) → d₁ ≡ text_left r₁ (take (start + length raw % 3) first) d
    → r₂ ≡ binary_to_text (take (length raw - length raw % 3) (drop (length raw % 3) raw)) (length (take (length d₁ - (start + length raw % 3) / 3 * 4) (drop ((start + length raw % 3) / 3 * 4) d₁)))
    → d₂ ≡ text_left r₂ (take (length raw - length raw % 3) (drop (length raw % 3) raw)) (take (length d₁ - (start + length raw % 3) / 3 * 4) (drop ((start + length raw % 3) / 3 * 4) d₁))
    → take ((start + length raw % 3) / 3 * 4) d₁ ++ (d₂ ++ drop (length d₁ - (start + length raw % 3) / 3 * 4) (drop ((start + length raw % 3) / 3 * 4) d₁))
    ≡ to_text (take start head ++ raw) ++ drop ((start + length raw) / 3 * 4) d
put-text head first raw d d₁ d₂ start r₁ r₂ s w h short nine j e₁ p₁ e₂ p₂ =
    let k = length raw % 3 in
    let at = (start + k) / 3 * 4 in
    let o : start ≤ length head = omega arith in
    let l = length-take-le start head o in
    let b : List ℕ = take start head ++ take k raw in
    let f : take (start + k) first ≡ b = rw j (take-paste head start raw k o (omega arith)) in
    let n : length b ≡ start + k = length_paste_head head start raw k o (omega arith) in
    let c₁ : d₁ ≡ to_text b ++ drop at d = rw n at (converted-text b d d₁ r₁ (omega arith) (omega arith) (omega arith) (rw f at e₁) (rw f at p₁)) in
    let t : length (to_text b) ≡ at = omega (arith, length-to-text b) in
    let v = lent (to_text b) d d₁ at t c₁ in
    let m = length-drop k raw in
    let i = length-drop at d in
    let c₂ = converted-text (drop k raw) (drop at d) d₂ r₂ (omega arith) (omega arith) (omega arith) (rw (to_end raw k, v) at e₂) (rw (to_end raw k, v) at p₂) in
    let z : at + length (drop k raw) / 3 * 4 ≡ (start + length raw) / 3 * 4 = omega arith in
    behind (to_text b) d d₁ at t c₁ (to_text (drop k raw)) d₂ (length (drop k raw) / 3 * 4) c₂
    ∙ rw (z, joined-text (take start head) raw k (omega arith))
