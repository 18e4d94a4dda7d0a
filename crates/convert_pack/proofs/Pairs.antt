-- Two characters a look-up: where they stand in the table, what is found there, and the three bytes that two pairs are. Assumes nothing.
use mathlib.Core.Path.{◌≡◌, ap, sym, ◌∙◌}
use mathlib.Core.Bool.{Bool}
use mathlib.Core.List.{List, [], ◌∷◌, map}
use mathlib.Core.Logic.{⊎_elim}
use Prim.Native.Nat.{ℕ, ◌+◌, ◌-◌, ◌*◌, ◌/◌, ◌%◌, ◌<◌, ◌≤◌}
use native.Mathlib.Omega.{arith}
use lib.Dec.{ltb, leb, leb→le, lt→ltb}
use lib.ListN.{length, get_or, take, drop, length-map}
use Rattle.base.specs.Below.{below, implies, implies-elim}
use Rattle.base.specs.Cases.{lt-or-ge}
use Rattle.base.specs.Digits.{Below, below_at, below-take, below-drop, number_of, digits_of}
use Rattle.base.specs.Lists.{get_or-map-within, list4, map-take, map-drop}
use Rattle.format.specs.Alphabet.{sextet_of}
use Rattle.format.specs.Units.{text_sextets, bytes_of, triplet_of}
use Rattle.laws.specs.Alphabet.{sextet-past}
use Rattle.convert_pairs.specs.Pairs.{SextetPairs}
use Rattle.convert_pack.specs.Places.{place_of, Known, Places}

-- ---- characters of the alphabet lie from `-` to `z`

is_within : ℕ → Bool
is_within c = implies (ltb (sextet_of c) 64) (leb 45 c)

from-dash : (c : ℕ) → c < 123 → sextet_of c < 64 → 45 ≤ c
unfolding is_within sextet_of
from-dash c h l = leb→le 45 c (implies-elim (ltb (sextet_of c) 64) (leb 45 c) (below is_within 123 tt c h) (lt→ltb (sextet_of c) 64 l))

known-within : (c : ℕ) → sextet_of c < 64 → (45 ≤ c) × (c < 123)
known-within c l =
    ⊎_elim (λ h. (from-dash c h l, h)) (λ h. absurd (omega (arith, sextet-past c h))) (lt-or-ge c 123)

three-bytes : (n : ℕ) → n / 65536 % 256 ∷ n / 256 % 256 ∷ n % 256 ∷ [] ≡ digits_of 256 3 n
three-bytes n = let e : n % 256 ≡ n / 1 % 256 = omega arith in cc

-- ---- four of them

known_at : (q : List ℕ) → Below 64 (map sextet_of q) → (i : ℕ) → i < length q → sextet_of (get_or q i 0) < 64
known_at q h i l = rw (get_or-map-within sextet_of q i 0 0 l) at (below_at 64 (map sextet_of q) h i (rw (length-map q sextet_of) l))

pub known : (q : List ℕ) → length q ≡ 4 → Below 64 (map sextet_of q) → Known q
known q e h =
    record {
      size = e;
      first = known_at q h 0 (omega arith);
      second = known_at q h 1 (omega arith);
      third = known_at q h 2 (omega arith);
      fourth = known_at q h 3 (omega arith);
    }

-- ---- their places

module _ {q : List ℕ} (k : Known q) {w x y z : ℕ} (e : w ≡ get_or q 0 0) (f : x ≡ get_or q 1 0) (g : y ≡ get_or q 2 0) (h : z ≡ get_or q 3 0) where
  pub places-least : 757935405 ≤ w + x * 256 + y * 65536 + z * 16777216
  places-least =
      let a = known-within _ k.first in
      let b = known-within _ k.second in
      let c = known-within _ k.third in
      let d = known-within _ k.fourth in
      omega arith

  pub places-found : Places q (w + x * 256 + y * 65536 + z * 16777216 - 757935405)
  unfolding place_of
  places-found =
      let a = known-within _ k.first in
      let b = known-within _ k.second in
      let c = known-within _ k.third in
      let d = known-within _ k.fourth in
      record { known = k; low = omega arith; high = omega arith }

place-fits : (a b : ℕ) → sextet_of a < 64 → sextet_of b < 64 → place_of a b < 19790
unfolding place_of
place-fits a b l m = let p = known-within a l in let q = known-within b m in omega arith

pair_found : (table : List ℕ) → SextetPairs table → (a b : ℕ) → sextet_of a < 64 → sextet_of b < 64 → get_or table (place_of a b) 0 ≡ sextet_of a * 64 + sextet_of b
unfolding place_of
pair_found table h a b l m =
    let p = known-within a l in
    let q = known-within b m in
    let x : a - 45 + 45 ≡ a = omega arith in
    let y : b - 45 + 45 ≡ b = omega arith in
    h (a - 45) (b - 45) (omega arith) (omega arith) ∙ rw (x, y)

-- ---- two pairs of characters in the table, and the three bytes that they are

module _ {q : List ℕ} {p : ℕ} (at : Places q p) where
  pub low_fits : p % 65536 < 19790
  low_fits = rw at.low (place-fits _ _ at.known.first at.known.second)

  pub high_fits : p / 65536 < 19790
  high_fits = rw at.high (place-fits _ _ at.known.third at.known.fourth)

  module _ (table : List ℕ) (t : SextetPairs table) where
    low-found : get_or table (p % 65536) 0 ≡ sextet_of (get_or q 0 0) * 64 + sextet_of (get_or q 1 0)
    low-found = rw at.low (pair_found table t _ _ at.known.first at.known.second)

    high-found : get_or table (p / 65536) 0 ≡ sextet_of (get_or q 2 0) * 64 + sextet_of (get_or q 3 0)
    high-found = rw at.high (pair_found table t _ _ at.known.third at.known.fourth)

    module _ {v w : ℕ} (e : v ≡ get_or table (p % 65536) 0) (f : w ≡ get_or table (p / 65536) 0) where
      number_is : v * 4096 + w ≡ number_of 64 (map sextet_of q)
      number_is =
          let g = low-found in
          let h = high-found in
          let n : v * 4096 + w ≡ number_of 64 (map sextet_of (get_or q 0 0 ∷ get_or q 1 0 ∷ get_or q 2 0 ∷ get_or q 3 0 ∷ [])) = omega arith in
          n ∙ ap (λ (x : List ℕ). number_of 64 (map sextet_of x)) (sym (list4 q at.known.size))

      pub triplet-found : (v * 4096 + w) / 65536 % 256 ∷ (v * 4096 + w) / 256 % 256 ∷ (v * 4096 + w) % 256 ∷ [] ≡ triplet_of q
      unfolding triplet_of bytes_of
      triplet-found = rw (← number_is) (three-bytes (v * 4096 + w))

-- ---- a unit of a text in the alphabet

pub unit-known : (s : List ℕ) (at : ℕ) → Below 64 (text_sextets s) → Below 64 (map sextet_of (take 4 (drop at s)))
unfolding text_sextets
unit-known s at h = rw (map-take, map-drop) (below-take 64 4 _ (below-drop 64 at _ h))
