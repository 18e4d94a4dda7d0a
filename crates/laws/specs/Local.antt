-- What code that reads headers needs: framing looks only at the sextets of the whole units that are there, eight at most; and
-- how a sextet is read from a stream. Assumes nothing.
use Rattle.std.specs.Prelude.{ℕ, zero, suc, ◌+◌, ◌-◌, ◌*◌, ◌/◌, ◌%◌, ◌^◌, ◌≤◌, ◌<◌, ◌≡◌, refl, List, [], ◌∷◌, length, get_or, take, drop}
use Rattle.std.proofs.Common.{sym, ap, ◌∙◌, ⊎_elim, arith, get_or-drop, lt-ltb, le-ltb}
use Rattle.std.proofs.Math.ListN.{get_or-append}
use Rattle.base.specs.Cases.{lt-or-ge}
use Rattle.base.specs.Lists.{get_or-map-within}
use Rattle.base.specs.Each.{each, each-front, each-drop, take3}
use Rattle.format.specs.declared.Kind.{Kind}
use Rattle.format.specs.declared.Kind.TheVariants.{Fixed, Variable, Group, Genus, Indexed}
use Rattle.format.specs.declared.Opening.{Opening}
use Rattle.format.specs.declared.Opening.TheVariants.{Unknown, Short, Long, LargeVariable, LargeGroup, Version}
use Rattle.format.specs.declared.Framed.{Framed}
use Rattle.format.specs.declared.Framed.TheVariants.{Item, Unframed}
use Rattle.format.specs.Alphabet.{sextet_of}
use Rattle.format.specs.Units.{sextets_of, text_sextets, binary_sextets}
use Rattle.format.specs.Registry.{extent}
use Rattle.format.specs.Framing.{known, second, headed, frame_with, is_ours, ruled}
use Rattle.laws.specs.Units.{sextets-size}
use Rattle.laws.specs.Registry.{Opens}
use Rattle.laws.specs.Framing.{Good, long, ruled_with, frame_with-good}

-- ---- framing looks at the units that are there

abbrev pub There : ℕ → (ℕ → ℕ) → (ℕ → ℕ) → Type 0
There len at at' = (i : ℕ) → i < 4 * len → i < 8 → at' i ≡ at i

long-there : (kind : ℕ → Kind) (size : ℕ → ℕ) (at at' : ℕ → ℕ) (len : ℕ) → There len at at' → long kind size at' len ≡ long kind size at len
unfolding second known
long-there kind size at at' len t =
    ⊎_elim (λ lt. rw (lt-ltb len 2 lt))
    (λ ge. rw (
      le-ltb len 2 ge,
      t 4 (omega arith) (omega arith),
      t 5 (omega arith) (omega arith),
      t 6 (omega arith) (omega arith),
      t 7 (omega arith) (omega arith),
    ))
    (lt-or-ge len 2)

headed-there : (o : Opening) (at at' : ℕ → ℕ) (len : ℕ) → There len at at' → headed o at' len ≡ headed o at len
unfolding headed
headed-there Unknown at at' len t = refl
headed-there (Short k n) at at' len t = refl
headed-there (Long k n) at at' len t = long-there (λ m. k) (extent (Long k n)) at at' len t
headed-there (LargeVariable c l) at at' len t = long-there (Variable c l) (extent (LargeVariable c l)) at at' len t
headed-there (LargeGroup l d) at at' len t = long-there (λ m. Group l) (extent (LargeGroup l d)) at at' len t
headed-there Version at at' len t = long-there (λ m. Genus) (extent Version) at at' len t

pub frame-there : (op : ℕ → ℕ → ℕ → ℕ → Opening) (at at' : ℕ → ℕ) (len : ℕ) → There len at at' → frame_with op at' len ≡ frame_with op at len
unfolding frame_with known
frame-there op at at' len t =
    ⊎_elim (λ lt. rw (lt-ltb len 1 lt))
    (λ ge. rw (
      le-ltb len 1 ge,
      t 0 (omega arith) (omega arith),
      t 1 (omega arith) (omega arith),
      t 2 (omega arith) (omega arith),
      t 3 (omega arith) (omega arith),
      headed-there (op (at 0) (at 1) (at 2) (at 3)) at at' len t,
    ))
    (lt-or-ge len 1)

-- 7 is asked of a genus/version, whose two units are there
ruled-same : (f : (ℕ → ℕ) → ℕ → Framed) (at at' : ℕ → ℕ) (len : ℕ) (r : Framed) → Good f at len r → There len at at'
    → ruled at' r ≡ ruled at r
unfolding ruled is_ours
ruled-same f at at' len (Unframed n p) g t = refl
ruled-same f at at' len (Item (Fixed c) h n) g t = refl
ruled-same f at at' len (Item (Variable v l m) h n) g t = refl
ruled-same f at at' len (Item (Group l) h n) g t = refl
ruled-same f at at' len (Item (Indexed c) h n) g t = refl
ruled-same f at at' len (Item Genus h n) g t =
    let two : 2 ≤ len = omega (arith, g.room, g.shape.1) in
    rw (
      t 2 (omega arith) (omega arith),
      t 3 (omega arith) (omega arith),
      t 4 (omega arith) (omega arith),
      t 5 (omega arith) (omega arith),
      t 6 (omega arith) (omega arith),
      t 7 (omega arith) (omega arith),
    )

pub ruled-there : (op : ℕ → ℕ → ℕ → ℕ → Opening) → ((a b c d : ℕ) → Opens (op a b c d)) → (at at' : ℕ → ℕ) (len : ℕ) → There len at at'
    → ruled_with op at' len ≡ ruled_with op at len
ruled-there op opens at at' len t =
    ap (ruled at') (frame-there op at at' len t)
    ∙ ruled-same (frame_with op) at at' len (frame_with op at len) (frame_with-good op opens at len) t

-- ---- a sextet of a text

pub text-sextet : (s : List ℕ) (i : ℕ) → i < length s → get_or (text_sextets s) i 0 ≡ sextet_of (get_or s i 0)
unfolding text_sextets
text-sextet s i h = get_or-map-within sextet_of s i 0 0 h

-- ---- a sextet of a binary: digit r of unit k

from_zero : (a b c : ℕ) → ((0 + a) * 256 + b) * 256 + c ≡ (a * 256 + b) * 256 + c
from_zero a b c = omega arith

unit-digits : (a b c r : ℕ) → r < 4 → get_or (sextets_of (a ∷ b ∷ c ∷ [])) r 0 ≡ ((a * 256 + b) * 256 + c) / 64 ^ (3 - r) % 64
unfolding sextets_of
unit-digits a b c zero h = ap (λ (m : ℕ). m / 262144 % 64) (from_zero a b c)
unit-digits a b c (suc zero) h = ap (λ (m : ℕ). m / 4096 % 64) (from_zero a b c)
unit-digits a b c (suc (suc zero)) h = ap (λ (m : ℕ). m / 64 % 64) (from_zero a b c)
unit-digits a b c (suc (suc (suc zero))) h = ap (λ (m : ℕ). m / 1 % 64) (from_zero a b c)
unit-digits a b c (suc (suc (suc (suc r)))) h = absurd (omega arith)

each-unit : (k j : ℕ) (s : List ℕ) (r : ℕ) → r < 4
    → get_or (each 3 sextets_of (k + suc j) s) (4 * k + r) 0 ≡ get_or (sextets_of (take 3 (drop (3 * k) s))) r 0
each-unit k j s r h =
    sym (get_or-drop (4 * k) (each 3 sextets_of (k + suc j) s) r 0)
    ∙ rw (each-drop 3 4 sextets_of sextets-size k (suc j) s, each-front 3 sextets_of j (drop (3 * k) s))
    (get_or-append (sextets_of (take 3 (drop (3 * k) s))) (each 3 sextets_of j (drop 3 (drop (3 * k) s))) 0 r (rw sextets-size h))

pub binary-sextet : (s : List ℕ) (k r : ℕ) → k < length s / 3 → r < 4
    → get_or (binary_sextets s) (4 * k + r) 0
    ≡ ((get_or s (3 * k) 0 * 256 + get_or s (3 * k + 1) 0) * 256 + get_or s (3 * k + 2) 0) / 64 ^ (3 - r) % 64
unfolding binary_sextets
binary-sextet s k r h l =
    let e : length s / 3 ≡ k + suc (length s / 3 - suc k) = omega arith in
    ap (λ (m : ℕ). get_or (each 3 sextets_of m s) (4 * k + r) 0) e
    ∙ each-unit k (length s / 3 - suc k) s r l
    ∙ ap (λ (q : List ℕ). get_or (sextets_of q) r 0) (take3 s (3 * k) (omega arith))
    ∙ unit-digits (get_or s (3 * k) 0) (get_or s (3 * k + 1) 0) (get_or s (3 * k + 2) 0) r l
