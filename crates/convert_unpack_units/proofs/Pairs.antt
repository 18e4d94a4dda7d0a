-- Which units two numbers of twelve bytes are. Assumes nothing.
use mathlib.Core.Path.{◌≡◌}
use mathlib.Core.List.{List, [], ◌∷◌}
use Prim.Native.Nat.{ℕ, ◌+◌, ◌*◌, ◌/◌, ◌%◌, ◌<◌, ◌≤◌}
use native.Mathlib.Omega.{arith}
use lib.ListN.{length, get_or, take, drop}
use Rattle.base.specs.Digits.{digits_of}
use Rattle.base.specs.Each.{take3}
use Rattle.convert_unpack_units.specs.Numbers.{four_at, Twelve}

three : {a b c x y z : ℕ} → a ≡ x → b ≡ y → c ≡ z → a ∷ b ∷ c ∷ [] ≡ x ∷ y ∷ z ∷ []
three p q r = cc

-- ---- twelve bytes as two numbers, and their four units

parted : (a b c d e f g h i j k l w v : ℕ) → a < 256 → b < 256 → c < 256 → d < 256 → e < 256 → f < 256 → g < 256 → h < 256 → i < 256 → j < 256 → k < 256 → l < 256
    → w ≡ (((a * 256 + b) * 256 + c) * 256 + d) * 4294967296 + (((e * 256 + f) * 256 + g) * 256 + h) → v ≡ ((i * 256 + j) * 256 + k) * 256 + l
    → (w / 1099511627776 ≡ (a * 256 + b) * 256 + c)
    × (w / 65536 % 16777216 ≡ (d * 256 + e) * 256 + f)
    × (w % 65536 * 256 + v / 16777216 ≡ (g * 256 + h) * 256 + i)
    × (v % 16777216 ≡ (j * 256 + k) * 256 + l)
parted a b c d e f g h i j k l w v ha hb hc hd he hf hg hh hi hj hk hl p q = (omega arith, omega arith, omega arith, omega arith)

unit-bytes : (s : List ℕ) (at n : ℕ) → ((k : ℕ) → get_or s k 0 < 256) → at + 3 ≤ length s → n ≡ (get_or s at 0 * 256 + get_or s (at + 1) 0) * 256 + get_or s (at + 2) 0
    → digits_of 256 3 n ≡ take 3 (drop at s)
unit-bytes s at n b h e =
    let x = b at in
    let y = b (at + 1) in
    let z = b (at + 2) in
    rw (take3 s at h) (three (omega arith) (omega arith) (omega arith))

pub units-bytes : (s : List ℕ) (i w v : ℕ) → Twelve s i w v
    → (digits_of 256 3 (w / 1099511627776) ≡ take 3 (drop (3 * i) s))
    × (digits_of 256 3 (w / 65536 % 16777216) ≡ take 3 (drop (3 * (i + 1)) s))
    × (digits_of 256 3 (w % 65536 * 256 + v / 16777216) ≡ take 3 (drop (3 * (i + 2)) s))
    × (digits_of 256 3 (v % 16777216) ≡ take 3 (drop (3 * (i + 3)) s))
unfolding four_at
units-bytes s i w v t =
    let at = 3 * i in
    let b = t.bytes in
    let h = t.within in
    let r = parted (get_or s at 0) (get_or s (at + 1) 0) (get_or s (at + 2) 0) (get_or s (at + 3) 0) (get_or s (at + 4) 0) (get_or s (at + 4 + 1) 0) (get_or s (at + 4 + 2) 0)
    (get_or s (at + 4 + 3) 0) (get_or s (at + 8) 0) (get_or s (at + 8 + 1) 0) (get_or s (at + 8 + 2) 0) (get_or s (at + 8 + 3) 0) w v
    (b _) (b _) (b _) (b _) (b _) (b _) (b _) (b _) (b _) (b _) (b _) (b _) t.eight t.four in
    let a1 : 3 * (i + 1) ≡ at + 3 = omega arith in
    let b1 : 3 * (i + 1) + 1 ≡ at + 4 = omega arith in
    let c1 : 3 * (i + 1) + 2 ≡ at + 4 + 1 = omega arith in
    let a2 : 3 * (i + 2) ≡ at + 4 + 2 = omega arith in
    let b2 : 3 * (i + 2) + 1 ≡ at + 4 + 3 = omega arith in
    let c2 : 3 * (i + 2) + 2 ≡ at + 8 = omega arith in
    let a3 : 3 * (i + 3) ≡ at + 8 + 1 = omega arith in
    let b3 : 3 * (i + 3) + 1 ≡ at + 8 + 2 = omega arith in
    let c3 : 3 * (i + 3) + 2 ≡ at + 8 + 3 = omega arith in (
      unit-bytes s at _ b (omega arith) r.0,
      unit-bytes s (3 * (i + 1)) _ b (omega arith) (rw (c1, b1, a1) r.1),
      unit-bytes s (3 * (i + 2)) _ b (omega arith) (rw (c2, b2, a2) r.2),
      unit-bytes s (3 * (i + 3)) _ b (omega arith) (rw (c3, b3, a3) r.3),
    )
