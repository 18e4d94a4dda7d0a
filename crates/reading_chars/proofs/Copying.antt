-- The characters of a binary from one of them on, which may stand within a unit: what is copied out. Assumes nothing.
use mathlib.Core.Path.{◌≡◌, sym, ap, ◌∙◌}
use mathlib.Core.List.{List, [], ◌++◌, append-nil, append_assoc}
use Prim.Native.Nat.{ℕ, ◌+◌, ◌-◌, ◌*◌, ◌/◌, ◌%◌, ◌<◌, ◌≤◌}
use native.Mathlib.Omega.{arith}
use lib.ListN.{length, take, drop, length-drop, drop_of_length-le}
use lib.Seq.{take_at, drop_at, drop-drop, drop-append-le, length-take-le, take_all}
use Rattle.base.specs.Each.{each}
use Rattle.format.specs.Units.{quadlet_of}
use Rattle.format.specs.Conversion.{to_text, binary_to_text, text_left}
use Rattle.laws.specs.Units.{quadlet-size}
use Rattle.laws.specs.Conversion.{text-joins, length-to-text}
use Rattle.convert.proofs.Answers.{binary-converted}
use Rattle.judging.proofs.Laws.{to_end}
use Rattle.reading_chars.specs.Chars.{chars_into}
use Rattle.std.specs.Prelude.{Result}
use Rattle.format.specs.declared.Refusal.{Refusal}
use Rattle.format.specs.declared.TextOffset.{TextOffset}
use Rattle.format.specs.declared.BinaryOffset.{BinaryOffset}

-- ---- from a character on

unit-first : (x : List ℕ) → 3 ≤ length x → to_text x ≡ quadlet_of (take 3 x) ++ to_text (drop 3 x)
unfolding to_text each
unit-first x h =
    let l : length (take 3 x) ≡ 3 = length-take-le 3 x h in
    let one : to_text (take 3 x) ≡ quadlet_of (take 3 x) = rw l (ap quadlet_of (take_all 3 (take 3 x) (omega arith))) in
    text-joins x 1 (omega arith) ∙ ap (λ (y : List ℕ). y ++ to_text (drop 3 x)) one

from-unit : (b : List ℕ) (k : ℕ) → k * 3 ≤ length b → drop (k * 4) (to_text b) ≡ to_text (drop (k * 3) b)
from-unit b k h =
    let l : length (to_text (take (k * 3) b)) ≡ k * 4 = omega (arith, length-to-text (take (k * 3) b), length-take-le (k * 3) b h) in
    rw (text-joins b k h) (drop_at (to_text (take (k * 3) b)) (to_text (drop (k * 3) b)) (k * 4) l)

within-unit : (b : List ℕ) (k r : ℕ) → k * 3 + 3 ≤ length b → r ≤ 4
    → drop (k * 4 + r) (to_text b) ≡ drop r (quadlet_of (take 3 (drop (k * 3) b))) ++ to_text (drop (k * 3 + 3) b)
within-unit b k r h few =
    let q = quadlet_of (take 3 (drop (k * 3) b)) in
    let m : 3 ≤ length (drop (k * 3) b) = omega (arith, length-drop (k * 3) b) in
    sym (drop-drop r (k * 4) (to_text b))
    ∙ ap (drop r) (from-unit b k (omega arith) ∙ unit-first (drop (k * 3) b) m ∙ ap (λ (y : List ℕ). q ++ to_text y) (drop-drop 3 (k * 3) b))
    ∙ drop-append-le r q (to_text (drop (k * 3 + 3) b)) (omega (arith, quadlet-size (take 3 (drop (k * 3) b))))

-- ---- into a buffer

-- whole triplets are converted, where there is room
converts : (b d : List ℕ) (r : Result TextOffset (Refusal BinaryOffset)) (d' : List ℕ) → length b ≤ 3145728 → length b % 3 ≡ 0 → length b / 3 * 4 ≤ length d
    → r ≡ binary_to_text b (length d) → d' ≡ text_left r b d → d' ≡ to_text b ++ drop (length b / 3 * 4) d
unfolding text_left
converts b d r d' l w h e p = p ∙ rw (e ∙ binary-converted b (length d) l (omega arith) h)

module _ (b d : List ℕ) (k r : ℕ) (few : r < 4) (there : k * 3 + 3 ≤ length b) (whole : length b % 3 ≡ 0) (short : length b ≤ 3145728)
    (room : length b / 3 * 4 - (k * 4 + r) ≤ length d) (q : List ℕ) (e : q ≡ quadlet_of (take 3 (drop (k * 3) b))) where
  size : length (drop r q) ≡ 4 - r
  size = length-drop r q ∙ omega (arith, ap length e ∙ quadlet-size (take 3 (drop (k * 3) b)))

  module _ (d₁ : List ℕ) (p : d₁ ≡ drop r q ++ drop (4 - r) d) where
    front : take (4 - r) d₁ ≡ drop r q
    front = rw p (take_at (drop r q) (drop (4 - r) d) (4 - r) size)

    rest : drop (4 - r) d₁ ≡ drop (4 - r) d
    rest = rw p (drop_at (drop r q) (drop (4 - r) d) (4 - r) size)

    -- the unit's last characters, and what is converted behind them
    pub copied : (t : Result TextOffset (Refusal BinaryOffset)) (d₂ : List ℕ)
        → t ≡ binary_to_text (take (length b - (k * 3 + 3)) (drop (k * 3 + 3) b)) (length (take (length d₁ - (4 - r)) (drop (4 - r) d₁)))
        → d₂ ≡ text_left t (take (length b - (k * 3 + 3)) (drop (k * 3 + 3) b)) (take (length d₁ - (4 - r)) (drop (4 - r) d₁))
        → take (4 - r) d₁ ++ (d₂ ++ drop (length d₁ - (4 - r)) (drop (4 - r) d₁)) ≡ chars_into b (k * 4 + r) d
    copied t d₂ a c =
        let l : length (drop (k * 3 + 3) b) ≡ length b - (k * 3 + 3) = length-drop (k * 3 + 3) b in
        let m : length (drop (4 - r) d) ≡ length d - (4 - r) = length-drop (4 - r) d in
        let none : drop (length d₁ - (4 - r)) (drop (4 - r) d₁) ≡ [] =
        drop_of_length-le (drop (4 - r) d₁) {i = length d₁ - (4 - r)} (omega (arith, length-drop (4 - r) d₁)) in
        let v = converts (drop (k * 3 + 3) b) (drop (4 - r) d) t d₂ (omega arith) (omega arith) (omega arith)
        (rw (to_end b (k * 3 + 3), to_end d₁ (4 - r), rest) at a) (rw (to_end b (k * 3 + 3), to_end d₁ (4 - r), rest) at c) in
        let z : 4 - r + (length b - (k * 3 + 3)) / 3 * 4 ≡ length b / 3 * 4 - (k * 4 + r) = omega arith in
        rw (front, none, append-nil, v, l, drop-drop ((length b - (k * 3 + 3)) / 3 * 4) (4 - r) d, z, within-unit b k r there (omega arith), ← e, append_assoc)

-- from past the end on there is nothing
pub none_left : (b d : List ℕ) (start : ℕ) → length b / 3 * 4 ≤ start → d ≡ chars_into b start d
none_left b d start h =
    let z : length b / 3 * 4 - start ≡ 0 = omega arith in
    rw (z, drop_of_length-le (to_text b) {i = start} (omega (arith, length-to-text b)))
