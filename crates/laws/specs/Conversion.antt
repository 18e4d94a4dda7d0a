-- Whole streams: both forms have the same sextets, there and back, and a front of whole units converts by itself.
-- Assumes nothing.
use Rattle.std.specs.Prelude.{ℕ, zero, suc, ◌+◌, ◌-◌, ◌*◌, ◌/◌, ◌%◌, ◌≤◌, ◌<◌, ◌≡◌, refl, List, [], ◌∷◌, ◌++◌, map, ltb, length, take, drop}
use Rattle.std.proofs.Common.{sym, ap, ◌∙◌, subst, arith, lit<, take_all, lt-ltb, le-ltb, ⊎_elim}
use Rattle.base.specs.Pick.{pick}
use Rattle.base.specs.Cases.{lt-or-ge}
use Rattle.base.specs.Lists.{map-take, map-drop, map-join, part_length}
use Rattle.base.specs.Digits.{Below, none, more, below-take, below-drop, below-append}
use Rattle.base.specs.Each.{each, length-each, each_back, each-through, each-joins}
use Rattle.format.specs.Alphabet.{sextet_of, char_of}
use Rattle.format.specs.Units.{sextets_of, triplet_of, quadlet_of, text_sextets, binary_sextets}
use Rattle.format.specs.Offsets.{text_offset, binary_offset}
use Rattle.format.specs.Conversion.{to_binary, to_text, first_stranger, text_to_binary, binary_to_text}
use Rattle.laws.specs.Units.{bytes_below, sextets-below, sextets-size, triplet-size, quadlet-size, triplet-sextets, quadlet-sextets, quadlet-back, triplet-back}

-- ---- lengths

pub length-to-binary : (t : List ℕ) → length (to_binary t) ≡ 3 * (length t / 4)
unfolding to_binary
length-to-binary t = length-each 4 3 triplet_of triplet-size (length t / 4) t

pub length-to-text : (b : List ℕ) → length (to_text b) ≡ 4 * (length b / 3)
unfolding to_text
length-to-text b = length-each 3 4 quadlet_of quadlet-size (length b / 3) b

-- ---- the same sextets

unit-below : (s : List ℕ) (i : ℕ) → Below 64 (map sextet_of s) → Below 64 (map sextet_of (take 4 (drop (4 * i) s)))
unit-below s i h = rw (map-take sextet_of 4 (drop (4 * i) s), map-drop sextet_of (4 * i) s) (below-take 64 4 _ (below-drop 64 (4 * i) _ h))

pub text-to-binary-sextets : (t : List ℕ) → length t % 4 ≡ 0 → Below 64 (text_sextets t) → text_sextets t ≡ binary_sextets (to_binary t)
unfolding text_sextets binary_sextets to_binary
text-to-binary-sextets t w h =
    let l : length (each 4 triplet_of (length t / 4) t) / 3 ≡ length t / 4 = omega (arith, length-each 4 3 triplet_of triplet-size (length t / 4) t) in
    let e : each 3 sextets_of (length t / 4) (each 4 triplet_of (length t / 4) t) ≡ map sextet_of (take (4 * (length t / 4)) t) =
    each-through 4 3 triplet_of sextets_of sextet_of triplet-size (length t / 4) t
    (λ i p. triplet-sextets (take 4 (drop (4 * i) t)) (part_length 4 (4 * i) t (omega arith)) (unit-below t i h)) in
    rw (l, e, take_all (4 * (length t / 4)) t (omega arith))

each-sextets : (k : ℕ) (b : List ℕ) → map sextet_of (each 3 quadlet_of k b) ≡ each 3 sextets_of k b
unfolding each
each-sextets zero b = refl
each-sextets (suc k) b = rw (map-join, each-sextets k b, quadlet-sextets)

pub binary-to-text-sextets : (b : List ℕ) → text_sextets (to_text b) ≡ binary_sextets b
unfolding text_sextets binary_sextets to_text
binary-to-text-sextets b = each-sextets (length b / 3) b

-- ---- what is written is in the alphabet, or bytes

each_below : (k : ℕ) (b : List ℕ) → Below 64 (each 3 sextets_of k b)
unfolding each
each_below zero b = none
each_below (suc k) b = below-append 64 _ _ (each_below k b) (sextets-below _)

pub binary-below : (b : List ℕ) → Below 64 (binary_sextets b)
unfolding binary_sextets
binary-below b = each_below (length b / 3) b

pub text-below : (b : List ℕ) → Below 64 (text_sextets (to_text b))
text-below b = subst (λ (l : List ℕ). Below 64 l) (sym (binary-to-text-sextets b)) (binary-below b)

each-bytes : (k : ℕ) (t : List ℕ) → Below 256 (each 4 triplet_of k t)
unfolding each triplet_of
each-bytes zero t = none
each-bytes (suc k) t = below-append 256 _ _ (each-bytes k t) (bytes_below _)

pub to-binary-below : (t : List ℕ) → Below 256 (to_binary t)
unfolding to_binary
to-binary-below t = each-bytes (length t / 4) t

-- ---- there and back

pub text-back : (t : List ℕ) → length t % 4 ≡ 0 → Below 64 (text_sextets t) → to_text (to_binary t) ≡ t
unfolding text_sextets to_text to_binary
text-back t w h =
    let l : length (each 4 triplet_of (length t / 4) t) / 3 ≡ length t / 4 = omega (arith, length-each 4 3 triplet_of triplet-size (length t / 4) t) in
    rw l
    (each_back 4 3 triplet_of quadlet_of triplet-size (length t / 4) t
    (λ i p. quadlet-back (take 4 (drop (4 * i) t)) (part_length 4 (4 * i) t (omega arith)) (unit-below t i h))
    ∙ take_all (4 * (length t / 4)) t (omega arith))

pub binary-back : (b : List ℕ) → length b % 3 ≡ 0 → Below 256 b → to_binary (to_text b) ≡ b
unfolding to_text to_binary
binary-back b w h =
    let l : length (each 3 quadlet_of (length b / 3) b) / 4 ≡ length b / 3 = omega (arith, length-each 3 4 quadlet_of quadlet-size (length b / 3) b) in
    rw l
    (each_back 3 4 quadlet_of triplet_of quadlet-size (length b / 3) b
    (λ i p. triplet-back (take 3 (drop (3 * i) b)) (part_length 3 (3 * i) b (omega arith)) (below-take 256 3 _ (below-drop 256 (3 * i) _ h)))
    ∙ take_all (3 * (length b / 3)) b (omega arith))

-- ---- a front of whole units, and then the rest

pub binary-joins : (t : List ℕ) (k : ℕ) → k * 4 ≤ length t → to_binary t ≡ to_binary (take (k * 4) t) ++ to_binary (drop (k * 4) t)
unfolding to_binary
binary-joins t k h = each-joins 4 triplet_of (lit< tt) t k h

pub text-joins : (b : List ℕ) (k : ℕ) → k * 3 ≤ length b → to_text b ≡ to_text (take (k * 3) b) ++ to_text (drop (k * 3) b)
unfolding to_text
text-joins b k h = each-joins 3 quadlet_of (lit< tt) b k h

-- ---- the first stranger

pub no-stranger : (s : List ℕ) → Below 64 (text_sextets s) → first_stranger s ≡ length s
unfolding first_stranger text_sextets
no-stranger [] h = refl
no-stranger (c ∷ s) (more p r) = rw (lt-ltb _ _ p, no-stranger s r)

pub all_known : (s : List ℕ) → length s ≤ first_stranger s → Below 64 (text_sextets s)
unfolding first_stranger text_sextets
all_known [] h = none
all_known (c ∷ s) h =
    ⊎_elim (λ l. more l (all_known s (omega (arith, rw (lt-ltb (sextet_of c) 64 l) at h))))
    (λ g. absurd (omega (arith, rw (le-ltb (sextet_of c) 64 g) at h)))
    (lt-or-ge (sextet_of c) 64)
