-- A unit of a binary, sextet by sextet and byte by byte. Assumes nothing.
use mathlib.Core.Path.{◌≡◌, refl, sym, ap, ◌∙◌}
use mathlib.Core.Bool.{Bool, true, false, not}
use mathlib.Core.List.{List}
use Prim.Native.Nat.{ℕ, ◌+◌, ◌*◌, ◌/◌, ◌%◌, ◌<◌, ◌≤◌}
use native.Mathlib.Omega.{arith}
use lib.Dec.{eqb, ltb}
use lib.ListN.{length, get_or}
use borrow.Author.Tests.{lt-ltb, le-ltb}
use Rattle.base.specs.Pick.{pick}
use Rattle.format.specs.Units.{binary_sextets}
use Rattle.format.specs.Registry.{is_group, is_indexed, is_overrideable}
use Rattle.laws.specs.Domains.{binary-reader}
use Rattle.laws.specs.Local.{binary-sextet}
use Rattle.runs.specs.Plain.{lettered, small_of, small_by, group_of, opens_by, unit_by, small_at, group_at, letter_at, signed_at, marks_at}
use Rattle.runs.specs.Units.{unit-at, unit-past}
use Rattle.runs_binary.specs.Bytes.{UnitBytes}
use Rattle.runs_value.specs.Values.{unit_number, is_selector, valued_of, other-valued, number_at, valued_at}

abbrev Bytes : List ℕ → Type 0
Bytes s = (i : ℕ) → get_or s i 0 < 256

-- the bytes of a unit, by what is known of all
pub unit-bytes : (s : List ℕ) (at : ℕ) → Bytes s → UnitBytes s at (get_or s (3 * at) 0) (get_or s (3 * at + 1) 0) (get_or s (3 * at + 2) 0)
unit-bytes s at b =
    record { first = refl; second = refl; third = refl; first_byte = b (3 * at); second-byte = b (3 * at + 1); third-byte = b (3 * at + 2) }

module _ (f : ℕ → ℕ → ℕ → ℕ → ℕ) (s : List ℕ) (at : ℕ) where
  pub binary-unit : at < length s / 3 → {x y z : ℕ} → UnitBytes s at x y z
      → f (x / 4) (x % 4 * 16 + y / 16) (y % 16 * 4 + z / 64) (z % 64) ≡ unit_by f (binary_sextets s) at
  binary-unit h b =
      let z : 4 * at + 0 ≡ 4 * at = omega arith in
      let d0 = rw z at (binary-sextet s at 0 h (omega arith)) in
      unit-at f (binary_sextets s) at (rw (binary-reader.units s) h) (omega (arith, d0)) (omega (arith, binary-sextet s at 1 h (omega arith)))
      (omega (arith, binary-sextet s at 2 h (omega arith))) (omega (arith, binary-sextet s at 3 h (omega arith)))

  -- its sextets in the middle by calls
  pub binary-four : at < length s / 3 → {x y z : ℕ} → UnitBytes s at x y z → (c d : ℕ) → c ≡ x % 4 * 16 + y / 16 → d ≡ y % 16 * 4 + z / 64
      → f (x / 4) c d (z % 64) ≡ unit_by f (binary_sextets s) at
  binary-four h b c d k l = rw (k, l) (binary-unit h b)

  pub binary-past : length s / 3 ≤ at → 0 ≡ unit_by f (binary_sextets s) at
  binary-past h = unit-past f (binary_sextets s) at (rw (binary-reader.units s) h)

-- ---- a group, by its bytes

either : (a g o : Bool) (k : ℕ) → pick a (pick g (pick o 0 k) 0) 0 ≡ pick (pick a (pick g (not o) false) false) k 0
either true true true k = refl
either true true false k = refl
either true false o k = refl
either false g o k = refl

small-either : (a g : Bool) (k : ℕ) → pick a (pick g k 0) 0 ≡ pick (pick a g false) k 0
small-either true g k = refl
small-either false g k = refl

small_bytes : (x y z : ℕ) → z < 256
    → small_of (x / 4) (x % 4 * 16 + y / 16) (y % 16 * 4 + z / 64) (z % 64) ≡ pick (small_by (x / 4) (x % 4 * 16 + y / 16)) (1 + (y % 16 * 256 + z)) 0
unfolding small_of lettered small_by
small_bytes x y z h =
    let n : (y % 16 * 4 + z / 64) * 64 + z % 64 ≡ y % 16 * 256 + z = omega arith in
    rw n (small-either (eqb (x / 4) 62) (is_group (x % 4 * 16 + y / 16)) (1 + (y % 16 * 256 + z)))

group-bytes : (x y z : ℕ) → z < 256
    → group_of (x / 4) (x % 4 * 16 + y / 16) (y % 16 * 4 + z / 64) (z % 64) ≡ pick (opens_by (x / 4) (x % 4 * 16 + y / 16)) (1 + (y % 16 * 256 + z)) 0
unfolding group_of opens_by
group-bytes x y z h =
    let n : (y % 16 * 4 + z / 64) * 64 + z % 64 ≡ y % 16 * 256 + z = omega arith in
    rw n (either (eqb (x / 4) 62) (is_group (x % 4 * 16 + y / 16)) (is_indexed (x % 4 * 16 + y / 16)) (1 + (y % 16 * 256 + z)))

module _ (s : List ℕ) (at : ℕ) where
  pub small-unit : at < length s / 3 → {x y z : ℕ} → UnitBytes s at x y z → (o : Bool) → o ≡ small_by (x / 4) (x % 4 * 16 + y / 16)
      → pick o (1 + (y % 16 * 256 + z)) 0 ≡ small_at (binary_sextets s) at
  small-unit h b o e = rw e (sym (small_bytes _ _ _ b.third-byte) ∙ binary-unit small_of s at h b)

  pub open-unit : at < length s / 3 → {x y z : ℕ} → UnitBytes s at x y z → (o : Bool) → o ≡ opens_by (x / 4) (x % 4 * 16 + y / 16)
      → pick o (1 + (y % 16 * 256 + z)) 0 ≡ group_at (binary_sextets s) at
  open-unit h b o e = rw e (sym (group-bytes _ _ _ b.third-byte) ∙ binary-unit group_of s at h b)

  letter-unit : at < length s / 3 → {b : ℕ} → b ≡ unit_by (λ a b c d. b) (binary_sextets s) at → b ≡ letter_at (binary_sextets s) at
  letter-unit h e = e ∙ sym (unit-at (λ a b c d. b) (binary_sextets s) at (rw (binary-reader.units s) h) refl refl refl refl)

  pub marks-unit : at < length s / 3 → {b : ℕ} → b ≡ unit_by (λ a b c d. b) (binary_sextets s) at → ltb b 3 ≡ marks_at (binary_sextets s) at
  unfolding marks_at is_overrideable
  marks-unit h e = rw (binary-reader.units s, lt-ltb _ _ h) (ap (λ (m : ℕ). ltb m 3) (letter-unit h e))

  pub signed-unit : at < length s / 3 → {b : ℕ} → b ≡ unit_by (λ a b c d. b) (binary_sextets s) at → (w : ℕ) → w ≡ b → (r : Bool) → r ≡ is_indexed w
      → r ≡ signed_at (binary_sextets s) at
  unfolding signed_at
  signed-unit h e w q r f = f ∙ rw (binary-reader.units s, lt-ltb _ _ h) (ap is_indexed (q ∙ letter-unit h e))

  pub signed-past : length s / 3 ≤ at → false ≡ signed_at (binary_sextets s) at
  unfolding signed_at
  signed-past h = rw (binary-reader.units s, le-ltb _ _ h)

  pub marks-past : length s / 3 ≤ at → false ≡ marks_at (binary_sextets s) at
  unfolding marks_at
  marks-past h = rw (binary-reader.units s, le-ltb _ _ h)

-- ---- a value, by its bytes

number-bytes : (x y z : ℕ) → y < 256 → z < 256
    → (x * 256 + y) * 256 + z ≡ unit_number (x / 4) (x % 4 * 16 + y / 16) (y % 16 * 4 + z / 64) (z % 64)
number-bytes x y z h l = omega arith

module _ (s : List ℕ) (at : ℕ) where
  pub number-unit : at < length s / 3 → {x y z : ℕ} → UnitBytes s at x y z → (x * 256 + y) * 256 + z ≡ number_at (binary_sextets s) at
  number-unit h b = number-bytes _ _ _ b.second-byte b.third-byte ∙ binary-unit unit_number s at h b

  -- none under `4` `5` `6`
  pub binary-other : at < length s / 3 → Bytes s → (y : Bool) → y ≡ is_selector (get_or s (3 * at) 0 / 4) → y ≡ false → 0 ≡ valued_at (binary_sextets s) at
  binary-other h b y e f =
      other-valued (number_at (binary_sextets s) (at + 1)) _ _ _ _ (sym e ∙ f)
      ∙ binary-unit (valued_of (number_at (binary_sextets s) (at + 1))) s at h (unit-bytes s at b)
