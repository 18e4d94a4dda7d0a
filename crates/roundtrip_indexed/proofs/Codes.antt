-- The code's sextets and what the indexed table opens: the one decides the other. Assumes nothing.
use Rattle.std.specs.Prelude.{ℕ, ◌*◌, ◌<◌, ◌≡◌, refl, List, [], ◌∷◌, ◌⊎◌, ltb, eqb, length, take}
use Rattle.std.proofs.Common.{ap, ◌∙◌, sym, inl, inr, arith, lt-ltb, eqb-true}
use Rattle.base.specs.Pick.{pick, pick-by}
use Rattle.base.specs.Digits.{Below, none, more}
use Rattle.format.specs.declared.IndexRow.{IndexRow}
use Rattle.format.specs.declared.Kind.TheVariants.{Fixed, Variable, Group, Genus, Indexed}
use Rattle.format.specs.declared.Opening.{Opening}
use Rattle.format.specs.declared.Opening.TheVariants.{Unknown, Short, Long, LargeVariable, LargeGroup, Version}
use Rattle.format.specs.Registry.{index_head, indexed_row, indexed_by, indexed_opening}
use Rattle.format.specs.Framing.{sextet}
use Rattle.format.specs.Indexed.{index_code}
use Rattle.roundtrip_laws.specs.Bytes.{Quad, quad}
use Rattle.roundtrip_indexed.specs.Rows.{Facts, Finds, index-finds}

-- ---- the code's sextets

pub code-length : (c : IndexRow) → Facts c → length (index_code c) ≡ c.chars
unfolding index_code
code-length c f = by f.code
  where
    by : (c.chars ≡ 1) ⊎ (c.chars ≡ 2) → length (pick (eqb c.chars 1) (c.letter ∷ []) (c.selector ∷ c.letter ∷ [])) ≡ c.chars
    by (inl e) = rw e
    by (inr e) = rw e

pub code-low : (c : IndexRow) → Facts c → Below 64 (index_code c)
unfolding index_code
code-low c f =
    pick-by (Below 64) (eqb c.chars 1) _ _ (λ _. more f.letter none) (λ _. more f.selector (more f.letter none))

-- the first unit opens the row, where its first sextets are the row's code
pub code-opens : (c : IndexRow) (s : List ℕ) → Facts c → Quad s → take c.chars s ≡ index_code c
    → indexed_opening (sextet s 0) (sextet s 1) (sextet s 2) (sextet s 3) ≡ indexed_row c
unfolding index_code indexed_opening
code-opens c s f (quad {x} {y} {u} {v} {r}) h = by f.selects
  where
    goal : ℕ → ℕ → Type 0
    goal x y =
        pick (ltb x 52) (indexed_by 0 x) (pick (eqb x 52) (indexed_by 52 y) (pick (eqb x 54) (indexed_by 54 y) (pick (eqb x 55) (indexed_by 55 y) Unknown)))
        ≡ indexed_row c

    two : c.chars ≡ 2 → (c.selector ≡ 52) ⊎ ((c.selector ≡ 54) ⊎ (c.selector ≡ 55)) → x ≡ c.selector → y ≡ c.letter → goal x y
    two e (inl s) a b = let z : x ≡ 52 = a ∙ s in rw (z, b) (ap (λ (k : ℕ). indexed_by k c.letter) (sym s) ∙ f.found)
    two e (inr (inl s)) a b = let z : x ≡ 54 = a ∙ s in rw (z, b) (ap (λ (k : ℕ). indexed_by k c.letter) (sym s) ∙ f.found)
    two e (inr (inr s)) a b = let z : x ≡ 55 = a ∙ s in rw (z, b) (ap (λ (k : ℕ). indexed_by k c.letter) (sym s) ∙ f.found)

    by : ((c.chars ≡ 1) × (c.selector ≡ 0) × (c.letter < 52)) ⊎ ((c.chars ≡ 2) × ((c.selector ≡ 52) ⊎ ((c.selector ≡ 54) ⊎ (c.selector ≡ 55))))
        → goal x y
    by (inl e) =
        let g = rw e.0 at h in
        let a : x ≡ c.letter = cc in
        rw (a, lt-ltb c.letter 52 e.2) (ap (λ (k : ℕ). indexed_by k c.letter) (sym e.1) ∙ f.found)
    by (inr e) =
        let g = rw e.0 at h in
        let a : x ≡ c.selector = cc in
        let b : y ≡ c.letter = cc in
        two e.0 e.1 a b

-- what an opening by the table says of the first sextets
abbrev pub Says : List ℕ → Opening → Type 0
Says s Unknown = Unit {0}
Says s (Short (Fixed c) n) = ⊥
Says s (Short (Variable t l m) n) = ⊥
Says s (Short (Group l) n) = ⊥
Says s (Short Genus n) = ⊥
Says s (Short (Indexed c) n) = Facts c × (take c.chars s ≡ index_code c) × (4 * n ≡ c.size) × (index_head c ≡ 1)
Says s (Long (Fixed c) n) = ⊥
Says s (Long (Variable t l m) n) = ⊥
Says s (Long (Group l) n) = ⊥
Says s (Long Genus n) = ⊥
Says s (Long (Indexed c) n) = Facts c × (take c.chars s ≡ index_code c) × (4 * n ≡ c.size) × (index_head c ≡ 2)
Says s (LargeVariable t l) = ⊥
Says s (LargeGroup l d) = ⊥
Says s Version = ⊥

finds-says : (s : List ℕ) (a b : ℕ) (o : Opening) → ((c : IndexRow) → Facts c → c.selector ≡ a → c.letter ≡ b → take c.chars s ≡ index_code c)
    → Finds a b o → Says s o
finds-says s a b Unknown g f = tt
finds-says s a b (Short (Fixed c) n) g f = absurd f
finds-says s a b (Short (Variable t l m) n) g f = absurd f
finds-says s a b (Short (Group l) n) g f = absurd f
finds-says s a b (Short Genus n) g f = absurd f
finds-says s a b (Short (Indexed c) n) g f = (f.0, g c f.0 f.1 f.2, f.3, f.4)
finds-says s a b (Long (Fixed c) n) g f = absurd f
finds-says s a b (Long (Variable t l m) n) g f = absurd f
finds-says s a b (Long (Group l) n) g f = absurd f
finds-says s a b (Long Genus n) g f = absurd f
finds-says s a b (Long (Indexed c) n) g f = (f.0, g c f.0 f.1 f.2, f.3, f.4)
finds-says s a b (LargeVariable t l) g f = absurd f
finds-says s a b (LargeGroup l d) g f = absurd f
finds-says s a b Version g f = absurd f

-- a row by its letter alone, and by selector and letter
one_code : (c : IndexRow) (x : ℕ) (r : List ℕ) → Facts c → c.selector ≡ 0 → c.letter ≡ x → take c.chars (x ∷ r) ≡ index_code c
unfolding index_code
one_code c x r f s l = by f.selects
  where
    by : ((c.chars ≡ 1) × (c.selector ≡ 0) × (c.letter < 52)) ⊎ ((c.chars ≡ 2) × ((c.selector ≡ 52) ⊎ ((c.selector ≡ 54) ⊎ (c.selector ≡ 55))))
        → take c.chars (x ∷ r) ≡ pick (eqb c.chars 1) (c.letter ∷ []) (c.selector ∷ c.letter ∷ [])
    by (inl e) = rw (e.0, l)
    by (inr e) = absurd (other e.1)
      where
        other : (c.selector ≡ 52) ⊎ ((c.selector ≡ 54) ⊎ (c.selector ≡ 55)) → ⊥
        other (inl q) = omega arith
        other (inr (inl q)) = omega arith
        other (inr (inr q)) = omega arith

two-code : (c : IndexRow) (x y : ℕ) (r : List ℕ) → Facts c → 0 < x → c.selector ≡ x → c.letter ≡ y → take c.chars (x ∷ y ∷ r) ≡ index_code c
unfolding index_code
two-code c x y r f p s l = by f.selects
  where
    by : ((c.chars ≡ 1) × (c.selector ≡ 0) × (c.letter < 52)) ⊎ ((c.chars ≡ 2) × ((c.selector ≡ 52) ⊎ ((c.selector ≡ 54) ⊎ (c.selector ≡ 55))))
        → take c.chars (x ∷ y ∷ r) ≡ pick (eqb c.chars 1) (c.letter ∷ []) (c.selector ∷ c.letter ∷ [])
    by (inl e) = absurd (omega (arith, e.1))
    by (inr e) = rw (e.0, s, l)

pub opening-says : (s : List ℕ) → Quad s → Says s (indexed_opening (sextet s 0) (sextet s 1) (sextet s 2) (sextet s 3))
unfolding indexed_opening
opening-says s (quad {x} {y} {u} {v} {r}) =
    let P : Opening → Type 0 = Says (x ∷ y ∷ u ∷ v ∷ r) in
    pick-by P (ltb x 52) _ _ (λ _. finds-says _ 0 x (indexed_by 0 x) (λ c f s l. one_code c x _ f s l) (index-finds 0 x)) (λ _.
    pick-by P (eqb x 52) _ _ (λ e. by x y u v r 52 (eqb-true x 52 e) (omega arith)) (λ _.
    pick-by P (eqb x 54) _ _ (λ e. by x y u v r 54 (eqb-true x 54 e) (omega arith)) (λ _.
    pick-by P (eqb x 55) _ _ (λ e. by x y u v r 55 (eqb-true x 55 e) (omega arith)) (λ _. tt))))
  where
    by : (x y u v : ℕ) (r : List ℕ) (k : ℕ) → x ≡ k → 0 < k → Says (x ∷ y ∷ u ∷ v ∷ r) (indexed_by k y)
    by x y u v r k e p =
        finds-says _ k y (indexed_by k y) (λ c f s l. two-code c x y _ f (omega arith) (s ∙ sym e) l) (index-finds k y)
