-- What sizes and plain sizes say of the first unit: the kind that it opens, and that an item of it is accepted. Assumes nothing.
use Rattle.std.specs.Prelude.{ℕ, zero, suc, ◌+◌, ◌-◌, ◌*◌, ◌/◌, ◌%◌, ◌^◌, ◌≤◌, ◌<◌, ◌≡◌, List, [], ◌∷◌, ◌++◌, Bool, length, get_or, drop}
use Rattle.std.proofs.Math.Path.{refl, subst}
use Rattle.std.proofs.Common.{ap, ◌∙◌, ⊎_elim, arith}
use Rattle.std.proofs.Math.Bool.{true, false}
use Rattle.std.proofs.Math.Dec.{ltb, eqb}
use Rattle.std.proofs.lemmas.List.{length-map}
use Rattle.std.proofs.Math.ListN.{get_or-append, get_or-eq_default}
use borrow.Author.Tests.{ltb-true, lt-ltb, le-ltb, eqb-true, eq-eqb}
use Rattle.base.specs.Pick.{pick}
use Rattle.base.specs.Cases.{whether, lt-or-ge}
use Rattle.base.specs.Digits.{Below, below_at, below-drop}
use Rattle.base.specs.Lists.{up_to, get_or-table}
use Rattle.format.specs.declared.CodeRow.{CodeRow}
use Rattle.format.specs.declared.Kind.{Kind}
use Rattle.format.specs.declared.Kind.TheVariants.{Fixed, Variable, Group, Genus, Indexed}
use Rattle.format.specs.declared.Opening.{Opening}
use Rattle.format.specs.declared.Opening.TheVariants.{Unknown, Short, Long, LargeVariable, LargeGroup, Version}
use Rattle.format.specs.declared.Framed.TheVariants.{Item}
use Rattle.format.specs.declared.Verdict.{Verdict}
use Rattle.format.specs.declared.Verdict.TheVariants.{Accepted}
use Rattle.format.specs.Registry.{fixed, is_type, is_text, is_group, is_indexed, zero_bits_of, prepad_of, opening}
use Rattle.format.specs.Framing.{sextet, ruled}
use Rattle.format.specs.Texts.{value_right}
use Rattle.format.specs.Judging.{shift, and_then, unless, is_shortest, behind, has_lead, zero_bits, prepad_right, judge_kind}
use Rattle.laws.specs.Scan.{scan-below}
use Rattle.laws.specs.Registry.{Finds, fixed-finds}
use Rattle.runs.specs.Plain.{limit_of, plain_row, rows_of, plain_table, row_of, row_aa, typed, not_text, lettered, limited, sized_of, plain_of, small_of, group_of}

-- ---- choices that are not 0

pub some_then : (b : Bool) (m n : ℕ) → pick b m 0 ≡ n → 0 < n → (b ≡ true) × (m ≡ n)
some_then true m n e p = (refl, e)
some_then false m n e p = absurd (omega arith)

pub some-else : (b : Bool) (m n : ℕ) → pick b 0 m ≡ n → 0 < n → (b ≡ false) × (m ≡ n)
some-else false m n e p = (refl, e)
some-else true m n e p = absurd (omega arith)

-- ---- a row

pub record Row (op : Opening) (x n : ℕ) : Type 0 where
  pub row : CodeRow
  pub opens : op ≡ Short (Fixed row) n
  pub bare : prepad_of row ≡ 0
  pub few : zero_bits_of row ≤ 6
  pub low : x < 2 ^ (6 - zero_bits_of row)

no_row : (x n : ℕ) → limited 0 x ≡ n → 0 < n → ⊥
unfolding limited
no_row x n e p = omega (arith, (some_then (ltb x 0) 0 n e p).1)

limit_is : (c : CodeRow) (x : ℕ) → x < limit_of c → (prepad_of c ≡ 0) × (zero_bits_of c ≤ 6) × (x < 2 ^ (6 - zero_bits_of c))
unfolding limit_of
limit_is c x l =
    let inner : ℕ = pick (ltb (zero_bits_of c) 7) (2 ^ (6 - zero_bits_of c)) 0 in
    let a = some_then (eqb (prepad_of c) 0) inner (limit_of c) refl (omega arith) in
    let b = some_then (ltb (zero_bits_of c) 7) (2 ^ (6 - zero_bits_of c)) (limit_of c) a.1 (omega arith) in
    (eqb-true _ _ a.0, omega (arith, ltb-true (zero_bits_of c) 7 b.0), rw b.1 l)

fixed-row : (c : CodeRow) (k x n : ℕ) → limited (pick (ltb k 64) (k + 64 * limit_of c) 0) x ≡ n → 0 < n → Row (Short (Fixed c) k) x n
unfolding limited
fixed-row c k x n e p = ⊎_elim small large (whether (ltb k 64))
  where
    small : ltb k 64 ≡ true → Row (Short (Fixed c) k) x n
    small t =
        let lt : k < 64 = ltb-true _ _ t in
        let high : (k + 64 * limit_of c) / 64 ≡ limit_of c = omega arith in
        let low : (k + 64 * limit_of c) % 64 ≡ k = omega arith in
        let s = some_then (ltb x (limit_of c)) k n (rw (t, high, low) at e) p in
        let l = limit_is c x (ltb-true _ _ s.0) in
        let is-n : k ≡ n = s.1 in
        record { row = c; opens = rw is-n; bare = l.0; few = l.1; low = l.2 }

    large : ltb k 64 ≡ false → Row (Short (Fixed c) k) x n
    large f = absurd (no_row x n (rw f at e) p)

row-of : (op : Opening) (x n : ℕ) → limited (plain_row op) x ≡ n → 0 < n → Row op x n
unfolding plain_row
row-of Unknown x n e p = absurd (no_row x n e p)
row-of (Short (Variable t l m) k) x n e p = absurd (no_row x n e p)
row-of (Short (Group l) k) x n e p = absurd (no_row x n e p)
row-of (Short Genus k) x n e p = absurd (no_row x n e p)
row-of (Short (Indexed c) k) x n e p = absurd (no_row x n e p)
row-of (Long k m) x n e p = absurd (no_row x n e p)
row-of (LargeVariable t l) x n e p = absurd (no_row x n e p)
row-of (LargeGroup l d) x n e p = absurd (no_row x n e p)
row-of Version x n e p = absurd (no_row x n e p)
row-of (Short (Fixed c) k) x n e p = fixed-row c k x n e p

-- a size alone
size-of : (op : Opening) (n : ℕ) → plain_row op % 64 ≡ n → 0 < n → (row : CodeRow) × (op ≡ Short (Fixed row) n)
unfolding plain_row
size-of Unknown n e p = absurd (omega arith)
size-of (Short (Variable t l m) k) n e p = absurd (omega arith)
size-of (Short (Group l) k) n e p = absurd (omega arith)
size-of (Short Genus k) n e p = absurd (omega arith)
size-of (Short (Indexed c) k) n e p = absurd (omega arith)
size-of (Long k m) n e p = absurd (omega arith)
size-of (LargeVariable t l) n e p = absurd (omega arith)
size-of (LargeGroup l d) n e p = absurd (omega arith)
size-of Version n e p = absurd (omega arith)
size-of (Short (Fixed c) k) n e p = (c, ap (Short (Fixed c)) (sized_row (ltb k 64) refl e))
  where
    sized_row : (b : Bool) → ltb k 64 ≡ b → pick b (k + 64 * limit_of c) 0 % 64 ≡ n → k ≡ n
    sized_row true f q = omega (arith, ltb-true k 64 f)
    sized_row false f q = absurd (omega arith)

-- ---- zero bits

pub zero-by : (z x y w : ℕ) → z ≤ 6 → x < 2 ^ (6 - z) → y < 64 → w < 64 → eqb (((x * 64 + y) * 64 + w) / 2 ^ (18 - z)) 0 ≡ true
zero-by zero x y w h l p q = eq-eqb (((x * 64 + y) * 64 + w) / 2 ^ (18 - 0)) 0 (omega arith)
zero-by (suc zero) x y w h l p q = eq-eqb (((x * 64 + y) * 64 + w) / 2 ^ (18 - 1)) 0 (omega arith)
zero-by (suc (suc zero)) x y w h l p q = eq-eqb (((x * 64 + y) * 64 + w) / 2 ^ (18 - 2)) 0 (omega arith)
zero-by (suc (suc (suc zero))) x y w h l p q = eq-eqb (((x * 64 + y) * 64 + w) / 2 ^ (18 - 3)) 0 (omega arith)
zero-by (suc (suc (suc (suc zero)))) x y w h l p q = eq-eqb (((x * 64 + y) * 64 + w) / 2 ^ (18 - 4)) 0 (omega arith)
zero-by (suc (suc (suc (suc (suc zero))))) x y w h l p q = eq-eqb (((x * 64 + y) * 64 + w) / 2 ^ (18 - 5)) 0 (omega arith)
zero-by (suc (suc (suc (suc (suc (suc zero)))))) x y w h l p q = eq-eqb (((x * 64 + y) * 64 + w) / 2 ^ (18 - 6)) 0 (omega arith)
zero-by (suc (suc (suc (suc (suc (suc (suc z))))))) x y w h l p q = absurd (omega arith)

-- ---- a plain primitive

-- the kind that the first unit opens, of which 7 is never asked
pub record Opens (a b c d n : ℕ) : Type 0 where
  pub kind : Kind
  pub ruleless : (at : ℕ → ℕ) (h m : ℕ) → ruled at (Item kind h m) ≡ Item kind h m
  pub opens : opening a b c d ≡ Short kind n

-- and that an item of it is accepted if all its sextets are known
pub record Plain (a b c d n : ℕ) : Type 0 where
  pub told : Opens a b c d n
  pub accepts : (own : List ℕ) → sextet own 1 ≡ b → sextet own 2 ≡ c → Below 64 own → (inner : ℕ → ℕ → List ℕ → Verdict)
      → judge_kind told.kind 1 own inner ≡ Accepted

pub all-low : (x : List ℕ) → Below 64 x → (i : ℕ) → sextet x i < 64
all-low x b i = ⊎_elim (below_at 64 x b i) (λ h. rw (get_or-eq_default x 0 {n = i} h) (omega arith)) (lt-or-ge i (length x))

fixed-accepts : (row : CodeRow) (own : List ℕ) → prepad_of row ≡ 0 → zero_bits own row.chars (zero_bits_of row) ≡ true → Below 64 own
    → (inner : ℕ → ℕ → List ℕ → Verdict) → judge_kind (Fixed row) 1 own inner ≡ Accepted
unfolding judge_kind behind prepad_right unless and_then shift
fixed-accepts row own e z b inner = rw (scan-below (drop 4 own) (below-drop 64 4 own b), z, eq-eqb (prepad_of row) 0 e)

-- a small variable value, of which 9, 8 and 16 ask nothing
pub variable-accepts : (t lead m : ℕ) (own : List ℕ) → has_lead lead m ≡ true → zero_bits own 4 (8 * lead) ≡ true → value_right t lead (drop 4 own) ≡ true
    → Below 64 own → (inner : ℕ → ℕ → List ℕ → Verdict) → judge_kind (Variable t lead m) 1 own inner ≡ Accepted
unfolding judge_kind is_shortest behind unless and_then shift
variable-accepts t lead m own e z v b inner = rw (scan-below (drop 4 own) (below-drop 64 4 own b), e, z, v)

bytes-accepts : (t m : ℕ) (own : List ℕ) → is_text t ≡ false → Below 64 own → (inner : ℕ → ℕ → List ℕ → Verdict)
    → judge_kind (Variable t 0 m) 1 own inner ≡ Accepted
unfolding has_lead zero_bits value_right
bytes-accepts t m own e b inner =
    variable-accepts t 0 m own refl
    (zero-by 0 (sextet own 4) (sextet own 5) (sextet own 6) (omega arith) (all-low own b 4) (all-low own b 5) (all-low own b 6)) (rw e) b inner

-- ---- the table

front : (f g : List ℕ) (i k : ℕ) → length f ≡ k → i < k → get_or (f ++ g) i 0 ≡ get_or f i 0
front f g i k e h = get_or-append f g 0 i (omega arith)

back : (f g : List ℕ) (i k : ℕ) → length f ≡ k → get_or (f ++ g) (k + i) 0 ≡ get_or g i 0
back f g i k e = rw (← e) (go f)
  where
    go : (f : List ℕ) → get_or (f ++ g) (length f + i) 0 ≡ get_or g i 0
    go [] = let z : 0 + i ≡ i = omega arith in rw z
    go (x ∷ f) = let z : suc (length f) + i ≡ suc (length f + i) = omega arith in rw z (go f)

row_at : (chars letter : ℕ) → letter < 64 → get_or (rows_of chars) letter 0 ≡ plain_row (fixed chars letter)
unfolding rows_of
row_at chars letter h = get_or-table (λ (x : ℕ). plain_row (fixed chars x)) 64 letter h

rows_long : (chars : ℕ) → length (rows_of chars) ≡ 64
unfolding rows_of
rows_long chars = length-map (up_to 64) (λ (x : ℕ). plain_row (fixed chars x))

table-one : (a : ℕ) → a < 64 → row_of plain_table 0 a ≡ plain_row (fixed 1 a)
unfolding plain_table row_of
table-one a h = let z : 64 * 0 + a ≡ a = omega arith in rw (lt-ltb a 64 h, z) (front (rows_of 1) (rows_of 2 ++ rows_of 4) a 64 (rows_long 1) h ∙ row_at 1 a h)

table-two : (b : ℕ) → b < 64 → row_of plain_table 1 b ≡ plain_row (fixed 2 b)
unfolding plain_table row_of
table-two b h = rw (lt-ltb b 64 h) (back (rows_of 1) (rows_of 2 ++ rows_of 4) b 64 (rows_long 1) ∙ front (rows_of 2) (rows_of 4) b 64 (rows_long 2) h ∙ row_at 2 b h)

table-four : (d : ℕ) → d < 64 → row_of plain_table 2 d ≡ plain_row (fixed 4 d)
unfolding plain_table row_of
table-four d h =
    let z : 128 + d ≡ 64 + (64 + d) = omega arith in
    rw (lt-ltb d 64 h, z) (back (rows_of 1) (rows_of 2 ++ rows_of 4) (64 + d) 64 (rows_long 1) ∙ back (rows_of 2) (rows_of 4) d 64 (rows_long 2) ∙ row_at 4 d h)

none-limited : (x : ℕ) → limited 0 x ≡ 0
unfolding limited
none-limited x = rw (le-ltb x 0 (omega arith))

-- what `1AA` and a letter's row says
row-four : (b c d m : ℕ) → d < 64 → 0 < m → (f : ℕ → ℕ) → f 0 ≡ 0 → f (row_aa plain_table b c d) ≡ m
    → (eqb b 0 ≡ true) × (eqb c 0 ≡ true) × (f (plain_row (fixed 4 d)) ≡ m)
unfolding row_aa
row-four b c d m h p f z e = go (eqb b 0) (eqb c 0) refl refl e
  where
    go : (x y : Bool) → eqb b 0 ≡ x → eqb c 0 ≡ y → f (pick x (pick y (row_of plain_table 2 d) 0) 0) ≡ m
        → (eqb b 0 ≡ true) × (eqb c 0 ≡ true) × (f (plain_row (fixed 4 d)) ≡ m)
    go true true s t q = (s, t, rw (← (table-four d h)) q)
    go true false s t q = absurd (omega (arith, q, z))
    go false y s t q = absurd (omega (arith, q, z))

module _ (a b c d n : ℕ) (p : 0 < n) (la : a < 64) (lb : b < 64) (ld : d < 64) where
  fixed_plain : (chars letter x : ℕ) (r : Row (fixed chars letter) x n) → opening a b c d ≡ fixed chars letter
      → ((own : List ℕ) → sextet own 1 ≡ b → sextet own 2 ≡ c → Below 64 own → zero_bits own chars (zero_bits_of r.row) ≡ true) → Plain a b c d n
  unfolding ruled
  fixed_plain chars letter x r o z =
      let f = subst (Finds chars letter) r.opens (fixed-finds chars letter) in
      record {
        told = record { kind = Fixed r.row; ruleless = λ at h m. refl; opens = o ∙ r.opens };
        accepts = λ own y w k inner. fixed-accepts r.row own r.bare (rw f.2 (z own y w k)) k inner;
      }

  one_plain : ltb a 52 ≡ true → limited (plain_row (fixed 1 a)) b ≡ n → Plain a b c d n
  unfolding opening zero_bits
  one_plain t e =
      let r = row-of (fixed 1 a) b n e p in
      fixed_plain 1 a b r (rw t) (λ s x y k. rw x (zero-by (zero_bits_of r.row) b _ _ r.few r.low (all-low s k 2) (all-low s k 3)))

  two-plain : ltb a 52 ≡ false → eqb a 52 ≡ true → limited (plain_row (fixed 2 b)) c ≡ n → Plain a b c d n
  unfolding opening zero_bits
  two-plain f t e =
      let r = row-of (fixed 2 b) c n e p in
      fixed_plain 2 b c r (rw (f, t)) (λ s x y k. rw y (zero-by (zero_bits_of r.row) c _ _ r.few r.low (all-low s k 3) (all-low s k 4)))

  -- 63 is below the limit, so every sextet is
  four-plain : ltb a 52 ≡ false → eqb a 52 ≡ false → eqb a 53 ≡ true → limited (row_aa plain_table b c d) 63 ≡ n → Plain a b c d n
  unfolding opening zero_bits
  four-plain f g t e =
      let q = row-four b c d n ld p (λ (m : ℕ). limited m 63) (none-limited 63) e in
      let r = row-of (fixed 4 d) 63 n q.2 p in
      fixed_plain 4 d 63 r (rw (f, g, t, q.0, q.1))
      (λ s x y k. zero-by (zero_bits_of r.row) (sextet s 4) _ _ r.few (omega (arith, all-low s k 4, r.low)) (all-low s k 5) (all-low s k 6))

  variable-plain : eqb a 56 ≡ true → not_text b c d ≡ n → Plain a b c d n
  unfolding opening not_text typed ruled
  variable-plain t e =
      let x = some-else (is_text b) _ n e p in
      let q = some_then (is_type b) _ n x.1 p in
      let is : a ≡ 56 = eqb-true _ _ t in
      let s = q.1 in
      record {
        told = record { kind = Variable b 0 (c * 64 + d); ruleless = λ at h m. refl; opens = rw (is, q.0, s) };
        accepts = λ own y w k inner. bytes-accepts b (c * 64 + d) own x.0 k inner;
      }

  pub plain-opens : plain_of plain_table a b c d ≡ n → Plain a b c d n
  unfolding plain_of
  plain-opens e = go (ltb a 52) (eqb a 52) (eqb a 53) (eqb a 56) refl refl refl refl e
    where
      go : (x y z w : Bool) → ltb a 52 ≡ x → eqb a 52 ≡ y → eqb a 53 ≡ z → eqb a 56 ≡ w
          → pick x (limited (row_of plain_table 0 a) b) (pick y (limited (row_of plain_table 1 b) c) (pick z (limited (row_aa plain_table b c d) 63) (pick w (not_text b c d) 0))) ≡ n
          → Plain a b c d n
      go true y z w s t u v q = one_plain s (rw (table-one a la) at q)
      go false true z w s t u v q = two-plain s t (rw (table-two b lb) at q)
      go false false true w s t u v q = four-plain s t u q
      go false false false true s t u v q = variable-plain v q
      go false false false false s t u v q = absurd (omega arith)

  -- ---- a size alone

  fixed-sized : (chars letter : ℕ) → plain_row (fixed chars letter) % 64 ≡ n → opening a b c d ≡ fixed chars letter → Opens a b c d n
  unfolding ruled
  fixed-sized chars letter e o =
      let r = size-of (fixed chars letter) n e p in
      record { kind = Fixed r.0; ruleless = λ at h m. refl; opens = o ∙ r.1 }

  pub sized-opens : sized_of plain_table a b c d ≡ n → Opens a b c d n
  unfolding sized_of opening typed lettered ruled
  sized-opens e = go (ltb a 52) (eqb a 52) (eqb a 53) (ltb a 56) (ltb a 59) (eqb a 62) refl refl refl refl refl refl e
    where
      go : (x y z w v u : Bool) → ltb a 52 ≡ x → eqb a 52 ≡ y → eqb a 53 ≡ z → ltb a 56 ≡ w → ltb a 59 ≡ v → eqb a 62 ≡ u
          → pick x (row_of plain_table 0 a % 64) (pick y (row_of plain_table 1 b % 64) (pick z (row_aa plain_table b c d % 64)
          (pick w 0 (pick v (typed b c d) (pick u (lettered b c d) 0))))) ≡ n → Opens a b c d n
      go true y z w v u r s t k l m q = fixed-sized 1 a (rw (table-one a la) at q) (rw r)
      go false true z w v u r s t k l m q = fixed-sized 2 b (rw (table-two b lb) at q) (rw (r, s))
      go false false true w v u r s t k l m q =
          let j = row-four b c d n ld p (λ (i : ℕ). i % 64) refl q in
          fixed-sized 4 d j.2 (rw (r, s, t, j.0, j.1))
      go false false false true v u r s t k l m q = absurd (omega arith)
      go false false false false true u r s t k l m q =
          let j = some_then (is_type b) _ n q p in
          record { kind = Variable b (a - 56) (c * 64 + d); ruleless = λ at h i. refl; opens = rw (r, s, t, k, l, j.0, j.1) }
      go false false false false false true r s t k l m q =
          let j = some_then (is_group b) _ n q p in
          let is : a ≡ 62 = eqb-true _ _ m in
          record { kind = Group b; ruleless = λ at h i. refl; opens = rw (is, j.0, j.1) }
      go false false false false false false r s t k l m q = absurd (omega arith)

-- ---- a small group

pub small-opens : (a b c d n : ℕ) → 0 < n → small_of a b c d ≡ n → opening a b c d ≡ Short (Group b) n
unfolding small_of lettered opening
small-opens a b c d n p e =
    let x = some_then (eqb a 62) _ n e p in
    let y = some_then (is_group b) _ n x.1 p in
    let a-is : a ≡ 62 = eqb-true _ _ x.0 in
    rw (a-is, y.0, y.1)

-- whose items the master table frames
pub group-small : (a b c d n : ℕ) → 0 < n → group_of a b c d ≡ n → (small_of a b c d ≡ n) × (is_indexed b ≡ false)
unfolding group_of small_of lettered
group-small a b c d n p e =
    let x = some_then (eqb a 62) _ n e p in
    let y = some_then (is_group b) _ n x.1 p in
    let z = some-else (is_indexed b) _ n y.1 p in
    (rw (x.0, y.0) z.1, z.0)

pub small-group : (a b c d : ℕ) → is_indexed b ≡ false → small_of a b c d ≡ group_of a b c d
unfolding group_of small_of lettered
small-group a b c d e = rw e
