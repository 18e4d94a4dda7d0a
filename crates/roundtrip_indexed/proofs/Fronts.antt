-- What stands before an indexed item's raw value, in bytes and in sextets. Assumes nothing.
use Rattle.std.specs.Prelude.{ℕ, zero, suc, ◌+◌, ◌-◌, ◌*◌, ◌/◌, ◌%◌, ◌^◌, ◌≤◌, ◌<◌, ◌≡◌, refl, List, [], ◌∷◌, ◌++◌, true, ◌↔◌, length, get_or, take, drop}
use Rattle.std.proofs.Common.{ap, ◌∙◌, sym, arith, lit<, length-append, length-drop, take-append-drop, take_at, drop_at, take-add, length-take-le, get_or-drop, eq-eqb, eqb-true}
use Rattle.base.specs.Digits.{Below, none, more, below-take, below-drop, below-append}
use Rattle.format.specs.Units.{binary_sextets}
use Rattle.format.specs.Judging.{zero_bits}
use Rattle.format.specs.Values.{bytes_in}
use Rattle.roundtrip_laws.specs.Bytes.{Quad, quad, quad-of, below-any, bytes-join, bytes-length, sextets-back}
use Rattle.roundtrip_laws.specs.Prefix.{front, list2}

-- a front of k whole units, and n bytes more
front-and : (k n : ℕ) (p t : List ℕ) → length p ≡ k * 4 → take (3 * k + n) (bytes_in (p ++ t)) ≡ bytes_in p ++ take n (bytes_in t)
front-and k n p t l =
    let lp : length (bytes_in p) ≡ 3 * k = bytes-length p ∙ omega arith in
    rw (
      bytes-join k p t l,
      take-add (3 * k) n (bytes_in p ++ bytes_in t),
      take_at (bytes_in p) (bytes_in t) (3 * k) lp,
      drop_at (bytes_in p) (bytes_in t) (3 * k) lp,
    )

same_units : (p p' : List ℕ) (k : ℕ) → length p ≡ k * 4 → length p' ≡ k * 4 → Below 64 p → Below 64 p' → bytes_in p ≡ bytes_in p' → p ≡ p'
same_units p p' k l l' low low' e =
    sym (sextets-back p (omega arith) low) ∙ ap binary_sextets e ∙ sextets-back p' (omega arith) low'

-- two lists whose fronts are of the same length
split-front : (a b c d : List ℕ) → length a ≡ length b → a ++ c ≡ b ++ d → (a ≡ b) × (c ≡ d)
split-front a b c d l e = (
  sym (take_at a c (length a) refl) ∙ ap (take (length a)) e ∙ take_at b d (length a) (sym l),
  sym (drop_at a c (length a) refl) ∙ ap (drop (length a)) e ∙ drop_at b d (length a) (sym l),
)

module _ (k : ℕ) (p p' : List ℕ) (l : length p ≡ k * 4) (l' : length p' ≡ k * 4) (low : Below 64 p) (low' : Below 64 p') where
  bytes-first : (t : List ℕ) → take (3 * k) (bytes_in (p ++ t)) ≡ bytes_in p
  bytes-first t =
      let lp : length (bytes_in p) ≡ 3 * k = bytes-length p ∙ omega arith in
      ap (take (3 * k)) (bytes-join k p t l) ∙ take_at (bytes_in p) (bytes_in t) (3 * k) lp

  -- whole units
  pub whole-front : ((t : List ℕ) → take (3 * k) (bytes_in (p ++ t)) ≡ bytes_in p' → p ≡ p')
      × (p ≡ p' → (t : List ℕ) → take (3 * k) (bytes_in (p ++ t)) ≡ bytes_in p')
  whole-front = (λ t e. same_units p p' k l l' low low' (sym (bytes-first t) ∙ e), λ e t. bytes-first t ∙ ap bytes_in e)

  -- two sextets more, and four bits that are zero
  module _ (x y u v x' y' : ℕ) (r : List ℕ) (px : x < 64) (py : y < 64) (pu : u < 64) (pv : v < 64) (pr : Below 64 r) (px' : x' < 64)
      (py' : y' < 64) where
    pub half-front : (take (3 * k + 2) (bytes_in (p ++ (x ∷ y ∷ u ∷ v ∷ r))) ≡ take (3 * k + 2) (bytes_in (p' ++ (x' ∷ y' ∷ 0 ∷ 0 ∷ []))))
        ↔ ((p ≡ p') × (x ≡ x') × (y ≡ y') × (u < 4))
    half-front =
        let f : take 2 (bytes_in (x ∷ y ∷ u ∷ v ∷ r)) ≡ (x * 4 + y / 16) ∷ (y % 16 * 16 + u / 4) ∷ [] = ap (take 2) (front x y u v r px py pu pv pr) in
        let f' : take 2 (bytes_in (x' ∷ y' ∷ 0 ∷ 0 ∷ [])) ≡ (x' * 4 + y' / 16) ∷ (y' % 16 * 16 + 0) ∷ [] =
        ap (take 2) (front x' y' 0 0 [] px' py' (lit< tt) (lit< tt) none) in
        let a = front-and k 2 p (x ∷ y ∷ u ∷ v ∷ r) l in
        let a' = front-and k 2 p' (x' ∷ y' ∷ 0 ∷ 0 ∷ []) l' in (
          λ e. let q = split-front (bytes_in p) (bytes_in p') _ _ (omega (arith, bytes-length p, bytes-length p')) (sym a ∙ e ∙ a') in
              let w = sym f ∙ q.1 ∙ f' in
              let b : x * 4 + y / 16 ≡ x' * 4 + y' / 16 = ap (λ (z : List ℕ). get_or z 0 0) w in
              let c : y % 16 * 16 + u / 4 ≡ y' % 16 * 16 + 0 = ap (λ (z : List ℕ). get_or z 1 0) w in
              (same_units p p' k l l' low low' q.0, omega arith, omega arith, omega arith),
          λ e. let b = e.0 in
              let c = e.1 in
              let d = e.2 in
              let g = e.3 in
              a ∙ ap (λ (z : List ℕ). z ++ take 2 (bytes_in (x ∷ y ∷ u ∷ v ∷ r))) (ap bytes_in b)
              ∙ ap (λ (z : List ℕ). bytes_in p' ++ z) (f ∙ list2 (omega arith) (omega arith) ∙ sym f') ∙ sym a',
        )

-- four bits zero are a sextet below four
pub four-bits : (s : List ℕ) (i : ℕ) → Below 64 s → (zero_bits s i 4 ≡ true) ↔ (get_or s i 0 < 4)
unfolding zero_bits
four-bits s i low =
    let w = below-any 64 s (lit< tt) low in
    let n : ℕ = ((get_or s i 0 * 64 + get_or s (i + 1) 0) * 64 + get_or s (i + 2) 0) / 16384 in (
      λ e. let z : n ≡ 0 = eqb-true n 0 e in omega (arith, w i, w (i + 1), w (i + 2)),
      λ e. eq-eqb n 0 (omega (arith, w i, w (i + 1), w (i + 2))),
    )
