-- Two sextets a look-up: what is found in the table, and the four characters that two pairs are. Assumes nothing.
use mathlib.Core.Path.{◌≡◌, ap, ◌∙◌}
use mathlib.Core.List.{List, [], ◌∷◌, map}
use Prim.Native.Nat.{ℕ, ◌/◌, ◌%◌, ◌<◌}
use native.Mathlib.Omega.{arith}
use lib.ListN.{get_or}
use Rattle.base.specs.Digits.{number_of, digits_of}
use Rattle.format.specs.Alphabet.{char_of}
use Rattle.format.specs.Units.{sextets_of, quadlet_of}
use Rattle.laws.specs.Alphabet.{char-low}
use Rattle.convert_pairs.specs.Pairs.{CharacterPairs}

four : {a b c d x y z w : ℕ} → a ≡ x → b ≡ y → c ≡ z → d ≡ w → a ∷ b ∷ c ∷ d ∷ [] ≡ x ∷ y ∷ z ∷ w ∷ []
four p q r s = cc

-- ---- two pairs of characters

pair-bytes : (table : List ℕ) → CharacterPairs table → (v : ℕ) → v < 4096
    → (get_or table v 0 % 256 ≡ char_of (v / 64)) × (get_or table v 0 / 256 ≡ char_of (v % 64)) × (get_or table v 0 / 256 < 256)
pair-bytes table p v h =
    let e = p v h in
    let a = char-low (v / 64) (omega arith) in
    let b = char-low (v % 64) (omega arith) in (omega arith, omega arith, omega arith)

module _ (table t : List ℕ) (p : CharacterPairs table) {n : ℕ} (of : (n ≡ number_of 256 t) × (n < 16777216)) where
  pub quadlet-found
      : get_or table (n / 4096) 0 % 256 ∷ get_or table (n / 4096) 0 / 256 ∷ get_or table (n % 4096) 0 % 256 ∷ get_or table (n % 4096) 0 / 256 ∷ [] ≡ quadlet_of t
  unfolding quadlet_of sextets_of
  quadlet-found =
      let x = pair-bytes table p (n / 4096) (omega (arith, of.1)) in
      let y = pair-bytes table p (n % 4096) (omega arith) in
      let a : n / 4096 / 64 ≡ n / 262144 % 64 = omega (arith, of.1) in
      let c : n % 4096 / 64 ≡ n / 64 % 64 = omega arith in
      let d : n % 4096 % 64 ≡ n / 1 % 64 = omega arith in
      four (x.0 ∙ ap char_of a) x.1 (y.0 ∙ ap char_of c) (y.1 ∙ ap char_of d) ∙ ap (λ (m : ℕ). map char_of (digits_of 64 4 m)) of.0
