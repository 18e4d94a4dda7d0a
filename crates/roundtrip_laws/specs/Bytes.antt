-- An item's bytes and its sextets, unit by unit: there and back, joined, and the first unit written out. Assumes nothing.
use Rattle.std.specs.Prelude.{ℕ, zero, suc, ◌*◌, ◌/◌, ◌%◌, ◌≤◌, ◌<◌, ◌≡◌, refl, List, [], ◌∷◌, ◌++◌, length, get_or, take, drop}
use Rattle.std.proofs.Common.{ap, ◌∙◌, arith, lit<, length-append, take_at, drop_at, take_all}
use Rattle.base.specs.Lists.{part_length}
use Rattle.base.specs.Digits.{Below, none, more, below-take, below-drop, below-append}
use Rattle.base.specs.Each.{each, length-each, each_back, each-joins}
use Rattle.format.specs.Units.{bytes_of, sextets_of, binary_sextets}
use Rattle.format.specs.Values.{bytes_in}
use Rattle.laws.specs.Units.{bytes-size, bytes_below, sextets-size, sextets-bytes}

-- ---- lists of four and more

pub data Quad : List ℕ → Type 0 where
  quad : {x y u v : ℕ} {r : List ℕ} → Quad (x ∷ y ∷ u ∷ v ∷ r)

pub quad-of : (s : List ℕ) → 4 ≤ length s → Quad s
quad-of [] h = absurd (omega arith)
quad-of (a ∷ []) h = absurd (omega arith)
quad-of (a ∷ b ∷ []) h = absurd (omega arith)
quad-of (a ∷ b ∷ c ∷ []) h = absurd (omega arith)
quad-of (a ∷ b ∷ c ∷ d ∷ r) h = quad

pub no_length : (s : List ℕ) → length s ≡ 0 → s ≡ []
no_length [] e = refl
no_length (x ∷ s) e = absurd (omega arith)

-- past a list's end stands 0, which is below every bound too
pub below-any : (b : ℕ) (s : List ℕ) → 0 < b → Below b s → (i : ℕ) → get_or s i 0 < b
below-any b [] p h i = p
below-any b (x ∷ s) p (more q h) zero = q
below-any b (x ∷ s) p (more q h) (suc i) = below-any b s p h i

-- ---- joined: a front of whole units, and what stands behind it

units-join : (u : ℕ) (f : List ℕ → List ℕ) → 0 < u → (k : ℕ) (x y : List ℕ) → length x ≡ k * u
    → each u f (length (x ++ y) / u) (x ++ y) ≡ each u f (length x / u) x ++ each u f (length y / u) y
units-join u f p k x y e =
    rw (take_at x y (k * u) e, drop_at x y (k * u) e) at (each-joins u f p (x ++ y) k (rw length-append (omega arith)))

pub bytes-join : (k : ℕ) (x y : List ℕ) → length x ≡ k * 4 → bytes_in (x ++ y) ≡ bytes_in x ++ bytes_in y
unfolding bytes_in
bytes-join = units-join 4 bytes_of (lit< tt)

pub sextets-join : (k : ℕ) (x y : List ℕ) → length x ≡ k * 3 → binary_sextets (x ++ y) ≡ binary_sextets x ++ binary_sextets y
unfolding binary_sextets
sextets-join = units-join 3 sextets_of (lit< tt)

-- ---- sizes, bounds, and back

pub bytes-length : (s : List ℕ) → length (bytes_in s) ≡ 3 * (length s / 4)
unfolding bytes_in
bytes-length s = length-each 4 3 bytes_of bytes-size (length s / 4) s

each_below : (k : ℕ) (s : List ℕ) → Below 256 (each 4 bytes_of k s)
unfolding each
each_below zero s = none
each_below (suc k) s = below-append 256 _ _ (each_below k s) (bytes_below _)

pub bytes-in-below : (s : List ℕ) → Below 256 (bytes_in s)
unfolding bytes_in
bytes-in-below s = each_below (length s / 4) s

pub sextets-back : (s : List ℕ) → length s % 4 ≡ 0 → Below 64 s → binary_sextets (bytes_in s) ≡ s
unfolding bytes_in binary_sextets
sextets-back s w h =
    let l : length (each 4 bytes_of (length s / 4) s) / 3 ≡ length s / 4 =
    omega (arith, length-each 4 3 bytes_of bytes-size (length s / 4) s) in
    rw l
    (each_back 4 3 bytes_of sextets_of bytes-size (length s / 4) s
    (λ i p. sextets-bytes (take 4 (drop (4 * i) s)) (part_length 4 (4 * i) s (omega arith)) (below-take 64 4 _ (below-drop 64 (4 * i) _ h)))
    ∙ take_all (4 * (length s / 4)) s (omega arith))

pub binary-length : (b : List ℕ) → length (binary_sextets b) ≡ 4 * (length b / 3)
unfolding binary_sextets
binary-length b = length-each 3 4 sextets_of sextets-size (length b / 3) b

-- one unit
pub bytes-unit : (a b c d : ℕ) → bytes_in (a ∷ b ∷ c ∷ d ∷ []) ≡ bytes_of (a ∷ b ∷ c ∷ d ∷ [])
unfolding bytes_in each
bytes-unit a b c d = refl

-- the first unit's bytes, and then the others
pub bytes-front : (a b c d : ℕ) (r : List ℕ) → bytes_in (a ∷ b ∷ c ∷ d ∷ r) ≡ bytes_of (a ∷ b ∷ c ∷ d ∷ []) ++ bytes_in r
bytes-front a b c d r = bytes-join 1 (a ∷ b ∷ c ∷ d ∷ []) r refl ∙ ap (λ (q : List ℕ). q ++ bytes_in r) (bytes-unit a b c d)
