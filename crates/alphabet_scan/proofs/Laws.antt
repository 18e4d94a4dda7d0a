-- The distances of the scan: 0 exactly for a character of the alphabet, by a test of every byte. Assumes nothing.
use Rattle.std.proofs.Common.{◌≡◌, ℕ, ◌+◌, ◌-◌, ◌%◌, ◌<◌, min, Bool, true, false, T, eqb, ltb, refl}
use lib.Bits.{bit_and, bit_xor}
use Rattle.base.specs.Below.{below}
use Rattle.format.specs.Alphabet.{sextet_of}

abbrev same : Bool → Bool → Bool
same true b = b
same false true = false
same false false = true

same-eq : (a b : Bool) → T (same a b) → a ≡ b
same-eq true true t = refl
same-eq true false t = absurd t
same-eq false true t = absurd t
same-eq false false t = refl

-- to the nearest part of the alphabet; less 65 is 191 more, modulo 256, and less 48 is 208 more
abbrev distance : ℕ → ℕ
distance c = min (min ((bit_and c 223 + 191) % 256 - 25) ((c + 208) % 256 - 9)) (min (bit_xor c 45) (bit_xor c 95))

is_right : ℕ → Bool
is_right c = same (eqb (distance c) 0) (ltb (sextet_of c) 64)

pub distance-right : (c : ℕ) → c < 256 → eqb (distance c) 0 ≡ ltb (sextet_of c) 64
unfolding is_right sextet_of
distance-right c h = same-eq (eqb (distance c) 0) (ltb (sextet_of c) 64) (below is_right 256 tt c h)
