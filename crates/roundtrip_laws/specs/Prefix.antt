-- What stands before a raw value, in bytes and in sextets: the bytes are a code with its zero bits exactly where the sextets are
-- the code's and judging finds the bits zero. One unit of sextets has all of it. Assumes nothing.
use Prim.Native.Nat.{ℕ, zero, suc, ◌+◌, ◌*◌, ◌/◌, ◌%◌, ◌^◌, ◌≤◌, ◌<◌}
use Rattle.std.specs.Prelude.{◌≡◌, refl, true, ◌↔◌, take, replicate}
use Rattle.std.proofs.Math.Path.{ap, sym}
use Rattle.std.proofs.Common.{◌∙◌, lit<}
use mathlib.Core.List.{List, [], ◌∷◌, ◌++◌}
use native.Mathlib.Omega.{arith}
use Rattle.std.proofs.Math.ListN.{get_or}
use borrow.Author.Tests.{eq-eqb, eqb-true}
use Rattle.base.specs.Digits.{Below, more, number_of, digits_of}
use Rattle.format.specs.declared.CodeRow.{CodeRow}
use Rattle.format.specs.declared.Kind.TheVariants.{Fixed}
use Rattle.format.specs.Registry.{zero_bits_of}
use Rattle.format.specs.Units.{bytes_of}
use Rattle.format.specs.Judging.{zero_bits}
use Rattle.format.specs.Values.{bytes_in, raw_start}
use Rattle.format.specs.Writing.{code_sextets, raw_prefix}
use Rattle.roundtrip_laws.specs.Bytes.{Quad, quad, below-any, bytes-front}
use Rattle.roundtrip_laws.specs.Rows.{Spread, single, led, pair, whole}

-- the first n bytes are those of the sextets k and z zero bits, exactly where the first m sextets are k and the bits are zero
abbrev Fronts : List ℕ → ℕ → ℕ → ℕ → List ℕ → Type 0
Fronts s m z n k = (take n (bytes_in s) ≡ digits_of 256 n (number_of 64 k * 2 ^ z)) ↔ ((take m s ≡ k) × (zero_bits s m z ≡ true))

pub list2 : {a b a' b' : ℕ} → a ≡ a' → b ≡ b' → a ∷ b ∷ [] ≡ a' ∷ b' ∷ []
list2 p q = cc

list3 : {a b c a' b' c' : ℕ} → a ≡ a' → b ≡ b' → c ≡ c' → a ∷ b ∷ c ∷ [] ≡ a' ∷ b' ∷ c' ∷ []
list3 p q r = cc

-- two and three bytes of a number
digits2 : (m a b : ℕ) → m ≡ a * 256 + b → a < 256 → b < 256 → digits_of 256 2 m ≡ a ∷ b ∷ []
digits2 m a b e p q =
    let d : m / 256 ≡ a = omega arith in
    list2 (ap (λ (n : ℕ). n % 256) d ∙ omega arith) (omega arith)

digits3 : (m a b c : ℕ) → m ≡ a * 65536 + b * 256 + c → a < 256 → b < 256 → c < 256 → digits_of 256 3 m ≡ a ∷ b ∷ c ∷ []
digits3 m a b c e p q r =
    let d : m / 65536 ≡ a = omega arith in
    let d' : m / 256 ≡ a * 256 + b = omega arith in
    list3 (ap (λ (n : ℕ). n % 256) d ∙ omega arith) (ap (λ (n : ℕ). n % 256) d' ∙ omega arith) (omega arith)

module _ (x y u v : ℕ) (r : List ℕ) (px : x < 64) (py : y < 64) (pu : u < 64) (pv : v < 64) (low : Below 64 r) where
  -- the first unit's three bytes
  pub front : bytes_in (x ∷ y ∷ u ∷ v ∷ r) ≡ (x * 4 + y / 16) ∷ (y % 16 * 16 + u / 4) ∷ (u % 4 * 64 + v) ∷ bytes_in r
  unfolding bytes_of
  front =
      bytes-front x y u v r
      ∙ ap (λ (q : List ℕ). q ++ bytes_in r)
      (digits3 (number_of 64 (x ∷ y ∷ u ∷ v ∷ [])) (x * 4 + y / 16) (y % 16 * 16 + u / 4) (u % 4 * 64 + v)
      (omega arith) (omega arith) (omega arith) (omega arith))

  single-fronts : (l : ℕ) → l < 52 → Fronts (x ∷ y ∷ u ∷ v ∷ r) 1 2 1 (l ∷ [])
  unfolding zero_bits
  single-fronts l h =
      let bits : ℕ = ((y * 64 + u) * 64 + v) / 65536 in (
        λ g. let n = ap (λ (k : List ℕ). get_or k 0 0) (rw front at g) in
            let e : x ≡ l = omega arith in
            (cc, eq-eqb bits 0 (omega arith)),
        λ g. let e : x ≡ l = cc g.0 in
            let z : bits ≡ 0 = eqb-true bits 0 g.1 in
            rw front (ap (λ (m : ℕ). m ∷ []) (omega arith)),
      )

  led-fronts : (l : ℕ) → l < 52 → Fronts (x ∷ y ∷ u ∷ v ∷ r) 1 10 2 (l ∷ [])
  unfolding zero_bits
  led-fronts l h =
      let bits : ℕ = ((y * 64 + u) * 64 + v) / 256 in
      let code = digits2 (number_of 64 (l ∷ []) * 2 ^ 10) (l * 4) 0 (omega arith) (omega arith) (omega arith) in (
        λ g. let f = (rw front at g) ∙ code in
            let n = ap (λ (k : List ℕ). get_or k 0 0) f in
            let n' = ap (λ (k : List ℕ). get_or k 1 0) f in
            let e : x ≡ l = omega arith in
            (cc, eq-eqb bits 0 (omega arith)),
        λ g. let e : x ≡ l = cc g.0 in
            let z : bits ≡ 0 = eqb-true bits 0 g.1 in
            rw front (list2 (omega arith) (omega arith)) ∙ sym code,
      )

  pair-fronts : (l : ℕ) → l < 52 → Fronts (x ∷ y ∷ u ∷ v ∷ r) 2 4 2 (52 ∷ l ∷ [])
  unfolding zero_bits
  pair-fronts l h =
      let w = below-any 64 r (lit< tt) low 0 in
      let bits : ℕ = ((u * 64 + v) * 64 + get_or r 0 0) / 16384 in
      let code = digits2 (number_of 64 (52 ∷ l ∷ []) * 2 ^ 4) (208 + l / 16) (l % 16 * 16) (omega arith) (omega arith) (omega arith) in (
        λ g. let f = (rw front at g) ∙ code in
            let n = ap (λ (k : List ℕ). get_or k 0 0) f in
            let n' = ap (λ (k : List ℕ). get_or k 1 0) f in
            let e : x ≡ 52 = omega arith in
            let e' : y ≡ l = omega arith in
            (cc, eq-eqb bits 0 (omega arith)),
        λ g. let e : x ≡ 52 = cc g.0 in
            let e' : y ≡ l = cc g.0 in
            let z : bits ≡ 0 = eqb-true bits 0 g.1 in
            rw front (list2 (omega arith) (omega arith)) ∙ sym code,
      )

  whole-fronts : (l : ℕ) → l < 52 → Fronts (x ∷ y ∷ u ∷ v ∷ r) 4 0 3 (53 ∷ 0 ∷ 0 ∷ l ∷ [])
  unfolding zero_bits
  whole-fronts l h =
      let w = below-any 64 r (lit< tt) low in
      let code = digits3 (number_of 64 (53 ∷ 0 ∷ 0 ∷ l ∷ []) * 2 ^ 0) 212 0 l (omega arith) (omega arith) (omega arith) (omega arith) in (
        λ g. let f = (rw front at g) ∙ code in
            let n = ap (λ (k : List ℕ). get_or k 0 0) f in
            let n' = ap (λ (k : List ℕ). get_or k 1 0) f in
            let n'' = ap (λ (k : List ℕ). get_or k 2 0) f in
            let e : x ≡ 53 = omega arith in
            let e' : y ≡ 0 = omega arith in
            let e'' : u ≡ 0 = omega arith in
            let e''' : v ≡ l = omega arith in
            (cc, eq-eqb (((get_or r 0 0 * 64 + get_or r 1 0) * 64 + get_or r 2 0) / 262144) 0 (omega (arith, w 0, w 1, w 2))),
        λ g. let e : x ≡ 53 = cc g.0 in
            let e' : y ≡ 0 = cc g.0 in
            let e'' : u ≡ 0 = cc g.0 in
            let e''' : v ≡ l = cc g.0 in
            rw front (list3 (omega arith) (omega arith) (omega arith)) ∙ sym code,
      )

  byte-fronts : Fronts (x ∷ y ∷ u ∷ v ∷ r) 0 8 1 []
  unfolding zero_bits
  byte-fronts =
      let bits : ℕ = ((x * 64 + y) * 64 + u) / 1024 in (
        λ g. let n = ap (λ (k : List ℕ). get_or k 0 0) (rw front at g) in (refl, eq-eqb bits 0 (omega arith)),
        λ g. let z : bits ≡ 0 = eqb-true bits 0 g.1 in rw front (ap (λ (m : ℕ). m ∷ []) (omega arith)),
      )

  bytes-fronts : Fronts (x ∷ y ∷ u ∷ v ∷ r) 0 16 2 []
  unfolding zero_bits
  bytes-fronts =
      let bits : ℕ = ((x * 64 + y) * 64 + u) / 4 in (
        λ g. let f = rw front at g in
            let n = ap (λ (k : List ℕ). get_or k 0 0) f in
            let n' = ap (λ (k : List ℕ). get_or k 1 0) f in
            (refl, eq-eqb bits 0 (omega arith)),
        λ g. let z : bits ≡ 0 = eqb-true bits 0 g.1 in rw front (list2 (omega arith) (omega arith)),
      )

-- ---- a fixed code with a raw value, and a variable value's lead bytes

pub code-fronts : (c : CodeRow) (s : List ℕ) → c.tag ≡ 0 → Spread c → c.letter < 52 → Quad s → Below 64 s
    → (take (raw_start (Fixed c) 1) (bytes_in s) ≡ raw_prefix c)
    ↔ ((take c.chars s ≡ code_sextets c) × (zero_bits s c.chars (zero_bits_of c) ≡ true))
unfolding raw_start raw_prefix code_sextets
code-fronts c s t (single e z) l (quad {x} {y} {u} {v} {r}) (more px (more py (more pu (more pv pr)))) =
    rw (z, eq-eqb c.tag 0 t, e) (single-fronts x y u v r px py pu pv pr c.letter l)
code-fronts c s t (led e z) l (quad {x} {y} {u} {v} {r}) (more px (more py (more pu (more pv pr)))) =
    rw (z, eq-eqb c.tag 0 t, e) (led-fronts x y u v r px py pu pv pr c.letter l)
code-fronts c s t (pair e z) l (quad {x} {y} {u} {v} {r}) (more px (more py (more pu (more pv pr)))) =
    rw (z, eq-eqb c.tag 0 t, e) (pair-fronts x y u v r px py pu pv pr c.letter l)
code-fronts c s t (whole e z) l (quad {x} {y} {u} {v} {r}) (more px (more py (more pu (more pv pr)))) =
    rw (z, eq-eqb c.tag 0 t, e) (whole-fronts x y u v r px py pu pv pr c.letter l)

-- judging no bits finds them zero
pub no_bits : (s : List ℕ) (i : ℕ) → Below 64 s → zero_bits s i 0 ≡ true
unfolding zero_bits
no_bits s i low =
    let w = below-any 64 s (lit< tt) low in
    eq-eqb (((get_or s i 0 * 64 + get_or s (i + 1) 0) * 64 + get_or s (i + 2) 0) / 262144) 0 (omega (arith, w i, w (i + 1), w (i + 2)))

pub lead-fronts : (l : ℕ) (s : List ℕ) → l ≤ 2 → (0 < l → Quad s) → Below 64 s
    → (take l (bytes_in s) ≡ replicate l 0) ↔ (zero_bits s 0 (8 * l) ≡ true)
lead-fronts zero s h q low = (λ _. no_bits s 0 low, λ _. refl)
lead-fronts (suc zero) s h q low = one s (q (omega arith)) low
  where
    one : (s : List ℕ) → Quad s → Below 64 s → (take 1 (bytes_in s) ≡ 0 ∷ []) ↔ (zero_bits s 0 8 ≡ true)
    one s (quad {x} {y} {u} {v} {r}) (more px (more py (more pu (more pv pr)))) =
        let f = byte-fronts x y u v r px py pu pv pr in
        (λ g. (f.0 g).1, λ z. f.1 (refl, z))
lead-fronts (suc (suc zero)) s h q low = two s (q (omega arith)) low
  where
    two : (s : List ℕ) → Quad s → Below 64 s → (take 2 (bytes_in s) ≡ 0 ∷ 0 ∷ []) ↔ (zero_bits s 0 16 ≡ true)
    two s (quad {x} {y} {u} {v} {r}) (more px (more py (more pu (more pv pr)))) =
        let f = bytes-fronts x y u v r px py pu pv pr in
        (λ g. (f.0 g).1, λ z. f.1 (refl, z))
lead-fronts (suc (suc (suc l))) s h q low = absurd (omega arith)
