-- A group's header is framed as it was written. Assumes nothing.
use Rattle.std.specs.Prelude.{ℕ, ◌+◌, ◌*◌, ◌/◌, ◌%◌, ◌≤◌, ◌<◌, ◌≡◌, length}
use Rattle.std.proofs.Math.Path.{refl, sym, ap}
use Rattle.std.proofs.Common.{◌∙◌, get_or-take}
use mathlib.Core.List.{List, ◌∷◌}
use Rattle.std.proofs.Math.Bool.{true, false}
use Rattle.std.proofs.Math.Logic.{⊎_elim}
use native.Mathlib.Omega.{arith}
use Rattle.std.proofs.Math.Dec.{leb}
use Rattle.std.proofs.Math.ListN.{get_or, take}
use borrow.Author.Tests.{ltb-true, lt-ltb, le-ltb, le-leb, lt-leb}
use Rattle.base.specs.Pick.{pick-by}
use Rattle.base.specs.Cases.{lt-or-ge}
use Rattle.base.specs.Digits.{Below, more, digits_of, digits-below}
use Rattle.format.specs.declared.Form.{Form}
use Rattle.format.specs.declared.Form.TheVariants.{Text, Binary}
use Rattle.format.specs.Units.{domain}
use Rattle.format.specs.declared.Kind.TheVariants.{Group}
use Rattle.format.specs.declared.Opening.TheVariants.{Short, LargeGroup}
use Rattle.format.specs.declared.Framed.TheVariants.{Item}
use Rattle.format.specs.Registry.{is_group, opening, extent}
use Rattle.format.specs.Framing.{fit, second, headed, frame_with, ruled, sextet, frame, frame_ruled}
use Rattle.laws.specs.Framing.{Known, known_next}
use Rattle.groups.specs.Grouping.{head_units, head_sextets}

letter-low : (l : ℕ) → is_group l ≡ true → l < 29
unfolding is_group
letter-low l e = ltb-true l 29 e

small-opens : (l a b : ℕ) → is_group l ≡ true → opening 62 l a b ≡ Short (Group l) (1 + (a * 64 + b))
unfolding opening
small-opens l a b e = rw e

large-opens : (l a : ℕ) → is_group l ≡ true → opening 62 62 l a ≡ LargeGroup l a
unfolding opening is_group
large-opens l a e = rw e

-- a number by its five digits
five-digits : (n : ℕ) → n < 1073741824
    → n / 16777216 % 64 * 16777216 + (((n / 262144 % 64 * 64 + n / 4096 % 64) * 64 + n / 64 % 64) * 64 + n / 1 % 64) ≡ n
five-digits n few =
    let a : n ≡ n / 64 * 64 + n / 1 % 64 = omega arith in
    let b : n / 64 ≡ n / 4096 * 64 + n / 64 % 64 = omega arith in
    let c : n / 4096 ≡ n / 262144 * 64 + n / 4096 % 64 = omega arith in
    let d : n / 262144 ≡ n / 16777216 * 64 + n / 262144 % 64 = omega arith in
    let e : n / 16777216 % 64 ≡ n / 16777216 = omega arith in
    omega arith

module _ (q : List ℕ) (l n : ℕ) (g : is_group l ≡ true) where
  small-frames : n ≤ 4095 → 1 + n ≤ length q / 4 → sextet q 0 ≡ 62 → sextet q 1 ≡ l → sextet q 2 ≡ n / 64 % 64 → sextet q 3 ≡ n / 1 % 64
      → frame q ≡ Item (Group l) 1 (1 + n)
  unfolding frame frame_with headed fit
  small-frames few room a b c d =
      let low = letter-low l g in
      let k : Known (sextet q) 0 =
      rw (a, b, c, d) (refl, lt-ltb l 64 (omega arith), lt-ltb (n / 64 % 64) 64 (omega arith), lt-ltb (n / 1 % 64) 64 (omega arith)) in
      let z : n / 64 % 64 * 64 + n / 1 % 64 ≡ n = omega arith in
      rw (
        le-ltb (length q / 4) 1 (omega arith),
        known_next (sextet q) 0 _ k,
        a,
        b,
        c,
        d,
        small-opens l (n / 64 % 64) (n / 1 % 64) g,
        z,
        le-ltb (length q / 4) (1 + n) room,
      )

  large-frames : n < 1073741824 → 2 + n ≤ length q / 4 → sextet q 0 ≡ 62 → sextet q 1 ≡ 62 → sextet q 2 ≡ l → sextet q 3 ≡ n / 16777216 % 64
      → sextet q 4 ≡ n / 262144 % 64 → sextet q 5 ≡ n / 4096 % 64 → sextet q 6 ≡ n / 64 % 64 → sextet q 7 ≡ n / 1 % 64
      → frame q ≡ Item (Group l) 2 (2 + n)
  unfolding frame frame_with headed second fit extent
  large-frames few room a b c d a' b' c' d' =
      let low = letter-low l g in
      let k : Known (sextet q) 0 =
      rw (a, b, c, d) (refl, refl, lt-ltb l 64 (omega arith), lt-ltb (n / 16777216 % 64) 64 (omega arith)) in
      let k' : Known (sextet q) 4 =
      rw (a', b', c', d') (
        lt-ltb (n / 262144 % 64) 64 (omega arith),
        lt-ltb (n / 4096 % 64) 64 (omega arith),
        lt-ltb (n / 64 % 64) 64 (omega arith),
        lt-ltb (n / 1 % 64) 64 (omega arith),
      ) in
      let z : n / 16777216 % 64 * 16777216
      + (((n / 262144 % 64 * 64 + n / 4096 % 64) * 64 + n / 64 % 64) * 64 + n / 1 % 64) ≡ n = five-digits n few in
      rw (
        le-ltb (length q / 4) 1 (omega arith),
        known_next (sextet q) 0 _ k,
        a,
        b,
        c,
        d,
        large-opens l (n / 16777216 % 64) g,
        le-ltb (length q / 4) 2 (omega arith),
        known_next (sextet q) 4 _ k',
        a',
        b',
        c',
        d',
        z,
        le-ltb (length q / 4) (2 + n) room,
      )

  -- sextets that start with the header
  pub head-frames : n < 1073741824 → head_units n + n ≤ length q / 4 → take (4 * head_units n) q ≡ head_sextets l n
      → frame_ruled q ≡ Item (Group l) (head_units n) (head_units n + n)
  unfolding head_units head_sextets frame_ruled ruled
  head-frames few room e =
      ⊎_elim
      (λ lt. let low : n ≤ 4095 = omega arith in
      let t : leb n 4095 ≡ true = le-leb n 4095 low in
      let e' : take 4 q ≡ 62 ∷ l ∷ digits_of 64 2 n = rw t at e in
      let f = at 4 _ e' in
      rw (t, small-frames low (rw t at room) (f 0 (omega arith)) (f 1 (omega arith)) (f 2 (omega arith)) (f 3 (omega arith))))
      (λ ge. let high : 4095 < n = omega arith in
      let t : leb n 4095 ≡ false = lt-leb n 4095 high in
      let e' : take 8 q ≡ 62 ∷ 62 ∷ l ∷ digits_of 64 5 n = rw t at e in
      let f = at 8 _ e' in
      rw (
        t,
        large-frames few (rw t at room) (f 0 (omega arith)) (f 1 (omega arith)) (f 2 (omega arith)) (f 3 (omega arith))
            (f 4 (omega arith)) (f 5 (omega arith)) (f 6 (omega arith)) (f 7 (omega arith)),
      ))
      (lt-or-ge n 4096)
    where
      at : (m : ℕ) (ys : List ℕ) → take m q ≡ ys → (i : ℕ) → i < m → get_or q i 0 ≡ get_or ys i 0
      at m ys f i h = sym (get_or-take m q i 0 h) ∙ ap (λ (s : List ℕ). get_or s i 0) f

-- ---- the header's sextets

pub head-length : (l n : ℕ) → length (head_sextets l n) ≡ 4 * head_units n
unfolding head_sextets head_units
head-length l n = ⊎_elim (λ lt. rw (le-leb n 4095 (omega arith))) (λ ge. rw (lt-leb n 4095 (omega arith))) (lt-or-ge n 4096)

pub head-low : (l n : ℕ) → l < 64 → Below 64 (head_sextets l n)
unfolding head_sextets
head-low l n h =
    let dash : 62 < 64 = omega arith in
    ⊎_elim (λ lt. rw (le-leb n 4095 (omega arith)) (more dash (more h (digits-below 64 2 n (omega arith)))))
    (λ ge. rw (lt-leb n 4095 (omega arith)) (more dash (more dash (more h (digits-below 64 5 n (omega arith))))))
    (lt-or-ge n 4096)

-- ---- its size in elements

few : (n : ℕ) → head_units n ≤ 2
unfolding head_units
few n = pick-by (λ h. h ≤ 2) (leb n 4095) 1 2 (λ _. omega arith) (λ _. omega arith)

pub head-eight : (f : Form) (n : ℕ) → head_units n * (domain f).unit ≤ 8
head-eight Text n = omega (arith, few n)
head-eight Binary n = omega (arith, few n)
