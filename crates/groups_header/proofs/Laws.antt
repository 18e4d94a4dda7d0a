-- The header by units is the header. Assumes nothing.
use Prim.Native.Nat.{ℕ, ◌/◌, ◌%◌, ◌≤◌, ◌<◌}
use mathlib.Core.Path.{◌≡◌}
use mathlib.Core.List.{List, [], ◌∷◌, map}
use native.Mathlib.Omega.{arith}
use lib.ListN.{length, get_or}
use borrow.Author.Tests.{le-leb, lt-leb}
use Rattle.base.specs.Each.{each}
use Rattle.format.specs.declared.Form.TheVariants.{Text, Binary}
use Rattle.format.specs.Alphabet.{char_of}
use Rattle.format.specs.Units.{bytes_of}
use Rattle.format.specs.Values.{bytes_in}
use Rattle.groups.specs.Grouping.{head_units, head_sextets, spelled}
use Rattle.groups_header.specs.Header.{first_unit, second_unit, head_bytes}

-- ---- sextets

pub small_units : (n : ℕ) → n ≤ 4095 → 1 ≡ head_units n
unfolding head_units
small_units n h = rw (le-leb n 4095 h)

pub large-units : (n : ℕ) → 4095 < n → 2 ≡ head_units n
unfolding head_units
large-units n h = rw (lt-leb n 4095 h)

pub small-first : (l n : ℕ) → n ≤ 4095 → 62 ∷ l ∷ n / 64 % 64 ∷ n % 64 ∷ [] ≡ first_unit l n
unfolding first_unit head_sextets
small-first l n h = let y : n / 1 % 64 ≡ n % 64 = omega arith in rw (le-leb n 4095 h, y)

pub large-first : (l n : ℕ) → 4095 < n → 62 ∷ 62 ∷ l ∷ n / 16777216 % 64 ∷ [] ≡ first_unit l n
unfolding first_unit head_sextets
large-first l n h = rw (lt-leb n 4095 h)

pub second : (n : ℕ) → n / 262144 % 64 ∷ n / 4096 % 64 ∷ n / 64 % 64 ∷ n % 64 ∷ [] ≡ second_unit n
unfolding second_unit
second n = let y : n / 1 % 64 ≡ n % 64 = omega arith in rw y

-- ---- characters

pub four : (u : List ℕ) (a b c d : ℕ) → length u ≡ 4 → a ≡ char_of (get_or u 0 0) → b ≡ char_of (get_or u 1 0) → c ≡ char_of (get_or u 2 0)
    → d ≡ char_of (get_or u 3 0) → a ∷ b ∷ c ∷ d ∷ [] ≡ map char_of u
four (p ∷ q ∷ r ∷ s ∷ []) a b c d l e f g h = rw (e, f, g, h)
four [] a b c d l e f g h = absurd (omega arith)
four (p ∷ []) a b c d l e f g h = absurd (omega arith)
four (p ∷ q ∷ []) a b c d l e f g h = absurd (omega arith)
four (p ∷ q ∷ r ∷ []) a b c d l e f g h = absurd (omega arith)
four (p ∷ q ∷ r ∷ s ∷ t ∷ u) a b c d l e f g h = absurd (omega arith)

module _ (l n : ℕ) where
  pub text-small : (u a : List ℕ) → n ≤ 4095 → u ≡ first_unit l n → a ≡ map char_of u
      → get_or a 0 0 ∷ get_or a 1 0 ∷ get_or a 2 0 ∷ get_or a 3 0 ∷ 0 ∷ 0 ∷ 0 ∷ 0 ∷ [] ≡ head_bytes Text l n
  unfolding first_unit head_sextets head_bytes spelled
  text-small u a h e q = rw (q, e, le-leb n 4095 h)

  pub text-large : (u a v b : List ℕ) → 4095 < n → u ≡ first_unit l n → a ≡ map char_of u → v ≡ second_unit n → b ≡ map char_of v
      → get_or a 0 0 ∷ get_or a 1 0 ∷ get_or a 2 0 ∷ get_or a 3 0 ∷ get_or b 0 0 ∷ get_or b 1 0 ∷ get_or b 2 0 ∷ get_or b 3 0 ∷ [] ≡ head_bytes Text l n
  unfolding first_unit second_unit head_sextets head_bytes spelled
  text-large u a v b h e q f r = rw (q, e, r, f, lt-leb n 4095 h)

  -- ---- bytes

  pub binary-small : (u a : List ℕ) → n ≤ 4095 → u ≡ first_unit l n → a ≡ bytes_of u
      → get_or a 0 0 ∷ get_or a 1 0 ∷ get_or a 2 0 ∷ 0 ∷ 0 ∷ 0 ∷ 0 ∷ 0 ∷ [] ≡ head_bytes Binary l n
  unfolding first_unit head_sextets head_bytes spelled bytes_in each bytes_of
  binary-small u a h e q = rw (q, e, le-leb n 4095 h)

  pub binary-large : (u a v b : List ℕ) → 4095 < n → u ≡ first_unit l n → a ≡ bytes_of u → v ≡ second_unit n → b ≡ bytes_of v
      → get_or a 0 0 ∷ get_or a 1 0 ∷ get_or a 2 0 ∷ get_or b 0 0 ∷ get_or b 1 0 ∷ get_or b 2 0 ∷ 0 ∷ 0 ∷ [] ≡ head_bytes Binary l n
  unfolding first_unit second_unit head_sextets head_bytes spelled bytes_in each bytes_of
  binary-large u a v b h e q f r = rw (q, e, r, f, lt-leb n 4095 h)
