-- The bytes of a text from one of them on, which may stand within a unit: what is copied out. Assumes nothing.
use mathlib.Core.Path.{◌≡◌, refl, sym, ap, ◌∙◌}
use mathlib.Core.List.{List, [], ◌∷◌, ◌++◌, append-nil}
use Prim.Native.Nat.{ℕ, ◌+◌, ◌-◌, ◌*◌, ◌/◌, ◌%◌, ◌≤◌}
use native.Mathlib.Omega.{arith}
use lib.ListN.{length, get_or, take, drop, set, length-drop, drop_of_length-le}
use lib.Seq.{drop_at, drop-drop, drop-set-lt, length-take-le, take_all}
use Rattle.base.specs.Lists.{list3, map-drop}
use Rattle.base.specs.Digits.{below-drop}
use Rattle.base.specs.Each.{each}
use Rattle.format.specs.Alphabet.{sextet_of}
use Rattle.format.specs.Units.{triplet_of, text_sextets}
use Rattle.format.specs.Conversion.{to_binary, text_to_binary, binary_left}
use Rattle.laws.specs.Units.{triplet-size}
use Rattle.laws.specs.Conversion.{binary-joins, length-to-binary, no-stranger}
use Rattle.convert_order.proofs.Answers.{length_whole, text-converted}
use Rattle.judging.proofs.Laws.{to_end}
use Rattle.reading_raw.specs.Raw.{Fit, units_into, raw_into}
use Rattle.std.specs.Prelude.{Result}
use Rattle.format.specs.declared.Refusal.{Refusal}
use Rattle.format.specs.declared.TextOffset.{TextOffset}
use Rattle.format.specs.declared.BinaryOffset.{BinaryOffset}

-- ---- the units from a character on

pub fit-drop : (t : List ℕ) (k : ℕ) → k % 4 ≡ 0 → k ≤ length t → Fit t → Fit (drop k t)
unfolding text_sextets
fit-drop t k w h f = record {
  whole = omega (arith, length-drop k t, f.whole);
  known = rw (map-drop sextet_of k t) (below-drop 64 k (text_sextets t) f.known);
  short = omega (arith, length-drop k t, f.short);
}

-- a fit text is converted, where there is room
pub fit-converts : (t d : List ℕ) (r : Result BinaryOffset (Refusal TextOffset)) (d' : List ℕ) → Fit t → length t / 4 * 3 ≤ length d → r ≡ text_to_binary t (length d)
    → d' ≡ binary_left r t d → d' ≡ to_binary t ++ drop (length t / 4 * 3) d
unfolding binary_left
fit-converts t d r d' f h e p =
    let w = f.whole in
    let c = text-converted t (length d) (length_whole _ f.short (omega arith)) (length t) (sym (no-stranger t f.known)) (omega arith) h in
    p ∙ rw (e ∙ c)

-- ---- from a byte on

unit-first : (x : List ℕ) → 4 ≤ length x → to_binary x ≡ triplet_of (take 4 x) ++ to_binary (drop 4 x)
unfolding to_binary each
unit-first x h =
    let l : length (take 4 x) ≡ 4 = length-take-le 4 x h in
    let one : to_binary (take 4 x) ≡ triplet_of (take 4 x) = rw l (ap triplet_of (take_all 4 (take 4 x) (omega arith))) in
    binary-joins x 1 (omega arith) ∙ ap (λ (y : List ℕ). y ++ to_binary (drop 4 x)) one

pub from-unit : (t : List ℕ) (k : ℕ) → k * 4 ≤ length t → drop (k * 3) (to_binary t) ≡ to_binary (drop (k * 4) t)
from-unit t k h =
    let l : length (to_binary (take (k * 4) t)) ≡ k * 3 = omega (arith, length-to-binary (take (k * 4) t), length-take-le (k * 4) t h) in
    rw (binary-joins t k h) (drop_at (to_binary (take (k * 4) t)) (to_binary (drop (k * 4) t)) (k * 3) l)

pub within-unit : (t : List ℕ) (k r : ℕ) → k * 4 + 4 ≤ length t
    → drop (k * 3 + r) (to_binary t) ≡ drop r (triplet_of (take 4 (drop (k * 4) t)) ++ to_binary (drop (k * 4 + 4) t))
within-unit t k r h =
    let m : 4 ≤ length (drop (k * 4) t) = omega (arith, length-drop (k * 4) t) in
    sym (drop-drop r (k * 3) (to_binary t))
    ∙ ap (drop r) (from-unit t k (omega arith) ∙ unit-first (drop (k * 4) t) m
    ∙ ap (λ (y : List ℕ). triplet_of (take 4 (drop (k * 4) t)) ++ to_binary y) (drop-drop 4 (k * 4) t))

-- the last two bytes of a triplet, or the last one, and what follows
pub last-two : (u r : List ℕ) → length u ≡ 3 → drop 1 (u ++ r) ≡ get_or u 1 0 ∷ get_or u 2 0 ∷ r
last-two u r l = rw (list3 u l)

pub last_one : (u r : List ℕ) → length u ≡ 3 → drop 2 (u ++ r) ≡ get_or u 2 0 ∷ r
last_one u r l = rw (list3 u l)

-- ---- into a buffer

front-two : (d : List ℕ) (x y : ℕ) → 2 ≤ length d → take 2 (set (set d 0 x) 1 y) ≡ x ∷ y ∷ []
front-two [] x y h = absurd (omega arith)
front-two (a ∷ []) x y h = absurd (omega arith)
front-two (a ∷ b ∷ d) x y h = refl

front-one : (d : List ℕ) (x : ℕ) → 1 ≤ length d → take 1 (set d 0 x) ≡ x ∷ []
front-one [] x h = absurd (omega arith)
front-one (a ∷ d) x h = refl

module _ (t d : List ℕ) (start k : ℕ) (i : start ≤ length t / 4 * 3) (room : length t / 4 * 3 - start ≤ length d) where
  pub copied-whole : start ≡ k * 3 → (d' : List ℕ) → d' ≡ units_into t (k * 4) d 0 → d' ≡ raw_into t start d
  copied-whole e d' p =
      let n : 0 + (length t - k * 4) / 4 * 3 ≡ length t / 4 * 3 - start = omega arith in
      p ∙ rw (n, e, from-unit t k (omega arith))

  module _ (u : List ℕ) (v : u ≡ triplet_of (take 4 (drop (k * 4) t))) (there : k * 4 + 4 ≤ length t) where
    size : length u ≡ 3
    size = rw v (triplet-size (take 4 (drop (k * 4) t)))

    pub copied-two : start ≡ k * 3 + 1 → (d' : List ℕ) → d' ≡ units_into t (k * 4 + 4) (set (set d 0 (get_or u 1 0)) 1 (get_or u 2 0)) 2
        → d' ≡ raw_into t start d
    copied-two e d' p =
        let n : 2 + (length t - (k * 4 + 4)) / 4 * 3 ≡ length t / 4 * 3 - start = omega arith in
        p ∙ rw (
          front-two d (get_or u 1 0) (get_or u 2 0) (omega arith),
          drop-set-lt (2 + (length t - (k * 4 + 4)) / 4 * 3) (set d 0 (get_or u 1 0)) 1 (get_or u 2 0) (omega arith),
          drop-set-lt (2 + (length t - (k * 4 + 4)) / 4 * 3) d 0 (get_or u 1 0) (omega arith),
          n,
          e,
          within-unit t k 1 there,
          ← v,
          last-two u (to_binary (drop (k * 4 + 4) t)) size,
        )

    pub copied-one : start ≡ k * 3 + 2 → (d' : List ℕ) → d' ≡ units_into t (k * 4 + 4) (set d 0 (get_or u 2 0)) 1
        → d' ≡ raw_into t start d
    copied-one e d' p =
        let n : 1 + (length t - (k * 4 + 4)) / 4 * 3 ≡ length t / 4 * 3 - start = omega arith in
        p ∙ rw (
          front-one d (get_or u 2 0) (omega arith),
          drop-set-lt (1 + (length t - (k * 4 + 4)) / 4 * 3) d 0 (get_or u 2 0) (omega arith),
          n,
          e,
          within-unit t k 2 there,
          ← v,
          last_one u (to_binary (drop (k * 4 + 4) t)) size,
        )

-- what a lent part of the buffer holds when it is back
pub put-units : (t d : List ℕ) (at to : ℕ) (r : Result BinaryOffset (Refusal TextOffset)) (d' : List ℕ) → Fit t → at % 4 ≡ 0 → at ≤ length t
    → to + (length t - at) / 4 * 3 ≤ length d → r ≡ text_to_binary (take (length t - at) (drop at t)) (length (take (length d - to) (drop to d)))
    → d' ≡ binary_left r (take (length t - at) (drop at t)) (take (length d - to) (drop to d))
    → take to d ++ (d' ++ drop (length d - to) (drop to d)) ≡ units_into t at d to
put-units t d at to r d' f w h room e p =
    let l : length (drop at t) ≡ length t - at = length-drop at t in
    let k : length (drop to d) ≡ length d - to = length-drop to d in
    let n : drop (length d - to) (drop to d) ≡ [] = drop_of_length-le (drop to d) {i = length d - to} (omega arith) in
    let b = fit-converts (drop at t) (drop to d) r d' (fit-drop t at w h f) (omega arith) (rw (to_end t at, to_end d to) at e) (rw (to_end t at, to_end d to) at p) in
    rw (n, b, l, append-nil, drop-drop ((length t - at) / 4 * 3) to d)
