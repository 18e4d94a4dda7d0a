-- A unit there and back. Both ways are one law, there_and_back of base, at 64 ^ 4 = 256 ^ 3. Assumes nothing.
use Rattle.std.specs.Prelude.{ℕ, ◌<◌, ◌≡◌, refl, List, [], ◌∷◌, map, length, get_or, take, drop}
use Rattle.std.proofs.Common.{ap, ◌∙◌, lit<}
use Rattle.std.proofs.lemmas.List.{length-map}
use Rattle.base.specs.Lists.{get_or-table}
use Rattle.base.specs.Digits.{Below, more, below-take, below-drop, below_all, digits_of, number_of, length_digits, digits-below, there_and_back, map_back}
use Rattle.format.specs.Alphabet.{sextet_of, char_of}
use Rattle.format.specs.Alphabet.{sextet_table, character_table}
use Rattle.format.specs.Units.{bytes_of, sextets_of, triplet_of, quadlet_of, triplet_by, quadlet_by}
use Rattle.laws.specs.Alphabet.{sextet-char, char-sextet}

-- ---- sextets and bytes

pub bytes-size : (q : List ℕ) → length (bytes_of q) ≡ 3
unfolding bytes_of
bytes-size q = length_digits 256 3 (number_of 64 q)

pub sextets-size : (t : List ℕ) → length (sextets_of t) ≡ 4
unfolding sextets_of
sextets-size t = length_digits 64 4 (number_of 256 t)

pub bytes_below : (q : List ℕ) → Below 256 (bytes_of q)
unfolding bytes_of
bytes_below q = digits-below 256 3 (number_of 64 q) (lit< tt)

pub sextets-below : (t : List ℕ) → Below 64 (sextets_of t)
unfolding sextets_of
sextets-below t = digits-below 64 4 (number_of 256 t) (lit< tt)

pub sextets-bytes : (q : List ℕ) → length q ≡ 4 → Below 64 q → sextets_of (bytes_of q) ≡ q
unfolding sextets_of bytes_of
sextets-bytes q l h = there_and_back 64 4 256 3 (lit< tt) (lit< tt) refl q l h

pub bytes-sextets : (t : List ℕ) → length t ≡ 3 → Below 256 t → bytes_of (sextets_of t) ≡ t
unfolding sextets_of bytes_of
bytes-sextets t l h = there_and_back 256 3 64 4 (lit< tt) (lit< tt) refl t l h

-- ---- characters and bytes

pub triplet-size : (q : List ℕ) → length (triplet_of q) ≡ 3
unfolding triplet_of
triplet-size q = bytes-size (map sextet_of q)

pub quadlet-size : (t : List ℕ) → length (quadlet_of t) ≡ 4
unfolding quadlet_of
quadlet-size t = length-map (sextets_of t) char_of ∙ sextets-size t

-- a quadlet's sextets are its triplet's
pub triplet-sextets : (q : List ℕ) → length q ≡ 4 → Below 64 (map sextet_of q) → sextets_of (triplet_of q) ≡ map sextet_of q
unfolding triplet_of
triplet-sextets q l h = sextets-bytes (map sextet_of q) (length-map q sextet_of ∙ l) h

pub quadlet-sextets : (t : List ℕ) → map sextet_of (quadlet_of t) ≡ sextets_of t
unfolding quadlet_of
quadlet-sextets t = map_back sextet_of char_of 64 sextet-char (sextets_of t) (sextets-below t)

-- characters of the alphabet are their sextets' characters
pub chars-back : (q : List ℕ) → Below 64 (map sextet_of q) → map char_of (map sextet_of q) ≡ q
chars-back [] h = refl
chars-back (c ∷ q) (more h r) = rw (char-sextet c h, chars-back q r)

-- a quadlet in the alphabet, by way of its triplet
pub quadlet-back : (q : List ℕ) → length q ≡ 4 → Below 64 (map sextet_of q) → quadlet_of (triplet_of q) ≡ q
unfolding quadlet_of
quadlet-back q l h = ap (map char_of) (triplet-sextets q l h) ∙ chars-back q h

-- any triplet, by way of its quadlet
pub triplet-back : (t : List ℕ) → length t ≡ 3 → Below 256 t → triplet_of (quadlet_of t) ≡ t
unfolding triplet_of
triplet-back t l h = ap bytes_of (quadlet-sextets t) ∙ bytes-sextets t l h

-- ---- by table

map_below : (f g : ℕ → ℕ) (b : ℕ) → ((v : ℕ) → v < b → f v ≡ g v) → (l : List ℕ) → Below b l → map f l ≡ map g l
map_below f g b e [] h = refl
map_below f g b e (x ∷ l) (more p r) = rw (e x p, map_below f g b e l r)

pub triplet-by : (q : List ℕ) → Below 256 q → triplet_by sextet_table q ≡ triplet_of q
unfolding triplet_by triplet_of sextet_table
triplet-by q h = ap bytes_of (map_below (λ c. get_or sextet_table c 0) sextet_of 256 (λ c p. get_or-table sextet_of 256 c p) q h)

-- four bytes of a stream, read by the table
pub read-unit : (s : List ℕ) (at : ℕ) {values q t : List ℕ} → values ≡ sextet_table → ((i : ℕ) → get_or s i 0 < 256) → q ≡ take 4 (drop at s)
    → t ≡ triplet_by values q → t ≡ triplet_of (take 4 (drop at s))
read-unit s at e f g h = h ∙ rw (e, g) (triplet-by _ (below-take 256 4 _ (below-drop 256 at _ (below_all 256 s (λ i l. f i)))))

pub quadlet-by : (t : List ℕ) → quadlet_by character_table t ≡ quadlet_of t
unfolding quadlet_by quadlet_of character_table
quadlet-by t = map_below (λ v. get_or character_table v 0) char_of 64 (λ v p. get_or-table char_of 64 v p) (sextets_of t) (sextets-below t)

-- a unit's characters, taken from the table
pub read-unit-back : {characters t u q : List ℕ} → characters ≡ character_table → t ≡ u → q ≡ quadlet_by characters t → q ≡ quadlet_of u
read-unit-back e f g = g ∙ rw (e, f) (quadlet-by _)
