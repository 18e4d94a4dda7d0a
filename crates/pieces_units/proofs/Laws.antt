-- What is held and a piece behind it, element by element and unit by unit. Assumes nothing.
use Prim.Native.Nat.{ℕ, zero, suc, ◌+◌, ◌-◌, ◌*◌, ◌/◌, ◌%◌, ◌≤◌, ◌<◌}
use mathlib.Core.Path.{◌≡◌, refl, sym, ap, ◌∙◌, subst}
use mathlib.Core.List.{List, [], ◌∷◌, ◌++◌}
use Rattle.base.specs.Each.{each, take4, take3}
use native.Mathlib.Omega.{arith}
use native.Mathlib.Nat.{add-mul, div-add-mod'}
use lib.ListN.{length, get_or, take, drop, replicate, length-append, length-drop, length-replicate, get_or-append, get_or-eq_default}
use lib.Seq.{get_or-take, get_or-drop, get_or-append-add, length-take-le}
use Rattle.format.specs.declared.Form.{Form}
use Rattle.format.specs.declared.Form.TheVariants.{Text, Binary}
use Rattle.format.specs.Alphabet.{sextet_of}
use Rattle.format.specs.Units.{Domain, text, binary, domain, text_sextets, binary_sextets, sextets_of}
use Rattle.laws.specs.Domains.{Reader, reader}
use Rattle.laws.specs.Units.{sextets-size}
use Rattle.base.specs.Lists.{list4}
use Rattle.pieces_units.specs.Rests.{left_of, rest_of}

module _ (held : List ℕ) (count : ℕ) (piece : List ℕ) (four : length held ≡ 4) (few : count ≤ 4) where
  abbrev xs : List ℕ
  xs = take count held ++ piece

  held-long : length (take count held) ≡ count
  held-long = length-take-le count held (omega arith)

  pub held_at : (i : ℕ) → i < count → get_or held i 0 ≡ get_or xs i 0
  held_at i l = sym (get_or-append (take count held) piece 0 i (omega (arith, held-long)) ∙ get_or-take count held i 0 l)

  pub piece-at : (i : ℕ) → count ≤ i → get_or piece (i - count) 0 ≡ get_or xs i 0
  piece-at i l =
      let z : length (take count held) + (i - count) ≡ i = omega (arith, held-long) in
      sym (ap (λ (k : ℕ). get_or xs k 0) (sym z) ∙ get_or-append-add (take count held) piece (i - count) 0)

  pub all-long : length xs ≡ count + length piece
  all-long = omega (arith, length-append (take count held) piece, held-long)

-- ---- a unit's elements

one_each : (a b c : ℕ) → binary_sextets (a ∷ b ∷ c ∷ []) ≡ sextets_of (a ∷ b ∷ c ∷ [])
unfolding binary_sextets each
one_each a b c = refl

module _ (xs : List ℕ) (at : ℕ) where
  pub text-four : at + 4 ≤ length xs → (a b c d p q r s : ℕ) → a ≡ get_or xs at 0 → b ≡ get_or xs (at + 1) 0 → c ≡ get_or xs (at + 2) 0
      → d ≡ get_or xs (at + 3) 0 → p ≡ sextet_of a → q ≡ sextet_of b → r ≡ sextet_of c → s ≡ sextet_of d
      → p ∷ q ∷ r ∷ s ∷ [] ≡ text.sextets (take 4 (drop at xs))
  unfolding text_sextets
  text-four h a b c d p q r s ea eb ec ed ep eq er es = rw (ep, eq, er, es, ea, eb, ec, ed) (sym (ap text_sextets (take4 xs at h)))

  pub binary-three : at + 3 ≤ length xs → (a b c : ℕ) (u : List ℕ) → a ≡ get_or xs at 0 → b ≡ get_or xs (at + 1) 0 → c ≡ get_or xs (at + 2) 0
      → u ≡ sextets_of (a ∷ b ∷ c ∷ []) → u ≡ binary.sextets (take 3 (drop at xs))
  unfolding binary_sextets
  binary-three h a b c u ea eb ec eu = eu ∙ rw (ea, eb, ec) (sym (ap binary_sextets (take3 xs at h) ∙ one_each (get_or xs at 0) (get_or xs (at + 1) 0) (get_or xs (at + 2) 0)))

-- ---- units

pub unit-is : (form : Form) (xs : List ℕ) (k n : ℕ) → n ≡ (domain form).unit * k → (k + 1) * (domain form).unit ≤ length xs
    → (domain form).sextets (take (domain form).unit (drop n xs)) ≡ take 4 (drop (4 * k) ((domain form).sextets xs))
unit-is form xs k n e h =
    let d : Domain = domain form in
    let R : Reader d = reader form in
    let u : ℕ = d.unit in
    let m : k * u ≤ length xs = omega (arith, add-mul k 1 u) in
    let y : n ≡ k * u = omega arith in
    let x : 1 * u ≡ u = omega arith in
    let w : k * 4 ≡ 4 * k = omega arith in
    let l : 1 * u ≤ length (drop (k * u) xs) = omega (arith, length-drop (k * u) xs, add-mul k 1 u) in
    ap (λ (i : ℕ). d.sextets (take u (drop i xs))) y
    ∙ ap (λ (i : ℕ). d.sextets (take i (drop (k * u) xs))) (sym x)
    ∙ R.taken (drop (k * u) xs) 1 l ∙ ap (take 4) (R.dropped xs k m ∙ ap (λ (i : ℕ). drop i (d.sextets xs)) w)

-- of either form
module _ (form : Form) (k size : ℕ) (h : (k + 1) * (domain form).unit ≤ size) where
  pub text-some : form ≡ Text → size / 4 ≤ k → ⊥
  text-some e l = let g : (k + 1) * 4 ≤ size = subst (λ (f : Form). (k + 1) * (domain f).unit ≤ size) e h in omega arith

  pub binary-some : form ≡ Binary → size / 3 ≤ k → ⊥
  binary-some e l = let g : (k + 1) * 3 ≤ size = subst (λ (f : Form). (k + 1) * (domain f).unit ≤ size) e h in omega arith

module _ (form : Form) (held : List ℕ) (count : ℕ) (piece : List ℕ) (k : ℕ) (r : List ℕ) (four : length held ≡ 4) (few : count ≤ 4)
    (h : (k + 1) * (domain form).unit ≤ count + length piece) where
  abbrev Unit : Form → Type 0
  Unit f = r ≡ (domain f).sextets (take (domain f).unit (drop ((domain f).unit * k) (take count held ++ piece)))

  unit-found : Unit form → r ≡ take 4 (drop (4 * k) ((domain form).sextets (take count held ++ piece)))
  unit-found q =
      q ∙ unit-is form (take count held ++ piece) k ((domain form).unit * k) refl (omega (arith, all-long held count piece four few))

  pub text-found : form ≡ Text → Unit Text → r ≡ take 4 (drop (4 * k) ((domain form).sextets (take count held ++ piece)))
  text-found e q = unit-found (subst Unit (sym e) q)

  pub binary-found : form ≡ Binary → Unit Binary → r ≡ take 4 (drop (4 * k) ((domain form).sextets (take count held ++ piece)))
  binary-found e q = unit-found (subst Unit (sym e) q)

-- ---- behind the last whole unit

pub left-none : (xs : List ℕ) (from i : ℕ) → length xs ≤ from + i → 0 ≡ get_or (drop from xs) i 0
left-none xs from i l = sym (get_or-drop from xs i 0 ∙ get_or-eq_default xs 0 l)

zeros-at : (k i : ℕ) → ◌≡◌ {A = ℕ} (get_or (replicate k 0) i 0) 0
zeros-at zero i = refl
zeros-at (suc k) zero = refl
zeros-at (suc k) (suc i) = zeros-at k i

padded-at : (l : List ℕ) (k i : ℕ) → get_or (l ++ replicate k 0) i 0 ≡ get_or l i 0
padded-at [] k i = zeros-at k i
padded-at (x ∷ l) k zero = refl
padded-at (x ∷ l) k (suc i) = padded-at l k i

whole-and-left : (form : Form) (n : ℕ) → n - n % (domain form).unit ≡ n / (domain form).unit * (domain form).unit
whole-and-left form n = omega (arith, div-add-mod' n (domain form).unit)

left-few : (form : Form) (n : ℕ) → n % (domain form).unit ≤ 3
left-few Text n = omega arith
left-few Binary n = omega arith

pub left-within : (form : Form) (n : ℕ) → n % (domain form).unit ≤ n
left-within Text n = omega arith
left-within Binary n = omega arith

pub rest-made : (form : Form) (xs : List ℕ) (n from a b c d : ℕ) → length xs ≡ n → from ≡ n - n % (domain form).unit
    → a ≡ get_or (drop from xs) 0 0 → b ≡ get_or (drop from xs) 1 0 → c ≡ get_or (drop from xs) 2 0 → d ≡ get_or (drop from xs) 3 0
    → a ∷ b ∷ c ∷ d ∷ [] ≡ rest_of (domain form) xs
rest-made form xs n from a b c d ln ef ea eb ec ed =
    let at : from ≡ length xs / (domain form).unit * (domain form).unit = rw ln (ef ∙ whole-and-left form n) in
    let l : List ℕ = left_of (domain form) xs in
    let k : ℕ = 4 - length l in
    let few : length l ≤ 3 =
    omega (arith, length-drop (length xs / (domain form).unit * (domain form).unit) xs, whole-and-left form (length xs), left-few form (length xs)) in
    let four : length (l ++ replicate k 0) ≡ 4 = omega (arith, length-append l (replicate k 0), length-replicate {A = ℕ} k 0) in
    rw (ea, eb, ec, ed, at) (sym (list4 (l ++ replicate k 0) four ∙ rw (padded-at l k 0, padded-at l k 1, padded-at l k 2, padded-at l k 3)))
