-- Items that begin alike have one size: by their first element, by their first unit. Assumes nothing.
use Prim.Native.Nat.{ℕ, zero, suc, ◌+◌, ◌-◌, ◌*◌, ◌/◌, ◌%◌, ◌≤◌, ◌<◌, min}
use mathlib.Core.Path.{◌≡◌, refl, sym, ap, ◌∙◌}
use mathlib.Core.Bool.{Bool, true, false}
use mathlib.Core.List.{List}
use native.Mathlib.Omega.{arith}
use native.Mathlib.Nat.{min-le_left, min-le_right}
use lib.ListN.{length, get_or}
use borrow.Author.Tests.{eqb-true, lt-ltb}
use Rattle.base.specs.Pick.{pick}
use Rattle.format.specs.declared.Form.{Form}
use Rattle.format.specs.declared.Form.TheVariants.{Text, Binary}
use Rattle.format.specs.Alphabet.{sextet_of, sextet_table}
use Rattle.format.specs.Units.{domain, text_sextets, binary_sextets}
use Rattle.format.specs.Framing.{sextet}
use Rattle.laws.specs.Domains.{reader}
use Rattle.laws.specs.Local.{binary-sextet}
use Rattle.runs.specs.Plain.{plain_table, row_of, unit_by, small_at}
use Rattle.runs.specs.Tables.{value}
use Rattle.runs.specs.Levels.{Clear, clear-less}
use Rattle.runs.specs.Runs.{Run, run_none, sized-by-letter, text-sextet}
use Rattle.runs_tables.specs.declared.Tables.{Tables}
use Rattle.runs_tables.specs.Lent.{Lent}
use Rattle.report_followers.specs.Followers.{same, same_two, same_unit, is_like, like_in}
use Rattle.report_followers.proofs.Laws.{picked}
use Rattle.report_sizes.specs.Sizes.{Tells, size_at, letter_by}
use Rattle.report_sizes.proofs.Laws.{tells-small, tells-sized, size-told}

both : (a b : Bool) → pick a b false ≡ true → (a ≡ true) × (b ≡ true)
both true b e = (refl, e)
both false b e = absurd (let y : ◌≡◌ {A = ℕ} 0 1 = cc in omega arith)

-- ---- by the first element

letter-is : (f : Form) (s : List ℕ) (i : ℕ) → ((j : ℕ) → get_or s j 0 < 256) → i < length s / (domain f).unit
    → sextet ((domain f).sextets s) (4 * i) ≡ letter_by f (get_or s ((domain f).unit * i) 0)
unfolding letter_by
letter-is Text s i b h = text-sextet s (4 * i) (omega arith)
letter-is Binary s i b h =
    let z : 4 * i + 0 ≡ 4 * i = omega arith in
    let x = b (3 * i) in
    let y = b (3 * i + 1) in
    let w = b (3 * i + 2) in
    omega (arith, rw z at (binary-sextet s i 0 h (omega arith)))

-- ---- by the first unit

same_text : (s : List ℕ) (p q : ℕ) → same_unit Text s p q ≡ true
    → (get_or s p 0 ≡ get_or s q 0) × (get_or s (p + 1) 0 ≡ get_or s (q + 1) 0) × (get_or s (p + 2) 0 ≡ get_or s (q + 2) 0) × (get_or s (p + 3) 0 ≡ get_or s (q + 3) 0)
unfolding same_unit
same_text s p q e =
    let a = both (same_two s p q) (same_two s (p + 2) (q + 2)) e in
    let b = both (same s p q) (same s (p + 1) (q + 1)) a.0 in
    let c = both (same s (p + 2) (q + 2)) (same s (p + 2 + 1) (q + 2 + 1)) a.1 in
    (eqb-true _ _ b.0, eqb-true _ _ b.1, eqb-true _ _ c.0, three-on (eqb-true (get_or s (p + 2 + 1) 0) (get_or s (q + 2 + 1) 0) c.1))
  where
    three-on : get_or s (p + 2 + 1) 0 ≡ get_or s (q + 2 + 1) 0 → get_or s (p + 3) 0 ≡ get_or s (q + 3) 0
    three-on e = let x : p + 2 + 1 ≡ p + 3 = omega arith in let y : q + 2 + 1 ≡ q + 3 = omega arith in rw (x, y) at e

same-binary : (s : List ℕ) (p q : ℕ) → same_unit Binary s p q ≡ true
    → (get_or s p 0 ≡ get_or s q 0) × (get_or s (p + 1) 0 ≡ get_or s (q + 1) 0) × (get_or s (p + 2) 0 ≡ get_or s (q + 2) 0)
unfolding same_unit
same-binary s p q e =
    let a = both (same_two s p q) (same s (p + 2) (q + 2)) e in
    let b = both (same s p q) (same s (p + 1) (q + 1)) a.0 in
    (eqb-true _ _ b.0, eqb-true _ _ b.1, eqb-true _ _ a.1)

-- the four sextets of two units are the same
abbrev Sextets : List ℕ → ℕ → ℕ → Type 0
Sextets S p i =
    (sextet S (4 * p) ≡ sextet S (4 * i)) × (sextet S (4 * p + 1) ≡ sextet S (4 * i + 1)) × (sextet S (4 * p + 2) ≡ sextet S (4 * i + 2))
    × (sextet S (4 * p + 3) ≡ sextet S (4 * i + 3))

same-sextets : (f : Form) (s : List ℕ) (p i : ℕ) → same_unit f s ((domain f).unit * p) ((domain f).unit * i) ≡ true → p < length s / (domain f).unit
    → i < length s / (domain f).unit → Sextets ((domain f).sextets s) p i
same-sextets Text s p i e h g =
    let t = same_text s (4 * p) (4 * i) e in
    (by (4 * p) (4 * i) t.0 (omega arith) (omega arith), by (4 * p + 1) (4 * i + 1) t.1 (omega arith) (omega arith), by (4 * p + 2) (4 * i + 2) t.2 (omega arith) (omega arith), by (4 * p + 3) (4 * i + 3) t.3 (omega arith) (omega arith))
  where
    by : (q j : ℕ) → get_or s q 0 ≡ get_or s j 0 → q < length s → j < length s → sextet (text_sextets s) q ≡ sextet (text_sextets s) j
    by q j e h g = text-sextet s q h ∙ ap sextet_of e ∙ sym (text-sextet s j g)
same-sextets Binary s p i e h g =
    let y : 4 * p + 0 ≡ 4 * p = omega arith in
    let z : 4 * i + 0 ≡ 4 * i = omega arith in
    (rw (y, z) at (by 0 (omega arith)), by 1 (omega arith), by 2 (omega arith), by 3 (omega arith))
  where
    by : (j : ℕ) → j < 4 → sextet (binary_sextets s) (4 * p + j) ≡ sextet (binary_sextets s) (4 * i + j)
    by j l = let t = same-binary s (3 * p) (3 * i) e in binary-sextet s p j h l ∙ rw (t.0, t.1, t.2) (sym (binary-sextet s i j g l))

-- what a first unit decides, it decides wherever it stands
unit-same : (g : ℕ → ℕ → ℕ → ℕ → ℕ) (f : Form) (s : List ℕ) (p i : ℕ) → same_unit f s ((domain f).unit * p) ((domain f).unit * i) ≡ true
    → p < length s / (domain f).unit → i < length s / (domain f).unit → unit_by g ((domain f).sextets s) p ≡ unit_by g ((domain f).sextets s) i
unfolding unit_by
unit-same g f s p i e h l =
    let S : List ℕ = (domain f).sextets s in
    let n : length S / 4 ≡ length s / (domain f).unit = (reader f).units s in
    let q = same-sextets f s p i e h l in
    rw (n, lt-ltb p _ h, lt-ltb i _ l, q.0, q.1, q.2, q.3)

-- ---- their sizes

module _ (f : Form) (s : List ℕ) (clean at size r : ℕ) (K : Clear ((domain f).sextets s) at clean) (p : 0 < size) where
  abbrev S : List ℕ
  S = (domain f).sextets s

  abbrev all : ℕ
  all = length s / (domain f).unit

  abbrev stop : ℕ
  stop = min clean all

  -- what is known of a unit behind the first one
  behind : (i : ℕ) → i + size ≤ stop → (i < clean) × (i < all) × (i + size ≤ all)
  behind i h =
      let x = min-le_left clean all in
      let y = min-le_right clean all in
      (omega arith, omega arith, omega arith)

  sized : (i : ℕ) → i + size ≤ stop → Tells S i size → size_at (domain f) s i ≡ size
  sized i h t = let b = behind i h in sym (size-told f s i size all refl b.1 (omega (arith, b.2)) p t)

  later : (j : ℕ) → Clear S (at + size + j * size) clean
  later j = clear-less S at clean (at + size + j * size) clean K (omega arith) (omega arith)

  sizes : (whole : Bool) → Run (like_in f s whole at size) size stop (at + size) r
      → ((i : ℕ) → is_like f s whole ((domain f).unit * at) ((domain f).unit * i) ≡ true → i + size ≤ stop → Clear S i clean → Tells S i size)
      → Run (size_at (domain f) s) size all (at + size) r
  sizes whole R t = record { some = p; each = λ j h. each j h }
    where
      each : (j : ℕ) → j < r → (size_at (domain f) s (at + size + j * size) ≡ size) × (at + size + j * size + size ≤ all)
      each j h =
          let z = R.each j h in
          let i : ℕ = at + size + j * size in
          (sized i z.1 (t i (picked _ size p z.0) z.1 (later j)), (behind i z.1).2)

  pub letter-sizes : ((j : ℕ) → get_or s j 0 < 256) → (a : ℕ) → a ≡ letter_by f (get_or s ((domain f).unit * at) 0) → a ≤ 51 → row_of plain_table 0 a % 64 ≡ size
      → Run (like_in f s false at size) size stop (at + size) r → Run (size_at (domain f) s) size all (at + size) r
  letter-sizes b a e l q R =
      sizes false R
      (λ i t h C.
      let n = behind i h in
      let x : get_or s ((domain f).unit * at) 0 ≡ get_or s ((domain f).unit * i) 0 = eqb-true _ _ t in
      let w : sextet S (4 * i) ≡ a = letter-is f s i b n.1 ∙ ap (letter_by f) (sym x) ∙ sym e in
      tells-sized S i clean size n.0 C (sized-by-letter S i a (rw ((reader f).units s) n.1) w (omega arith) size q))

  pub header-sizes : at < all → small_at S at ≡ size → Run (like_in f s true at size) size stop (at + size) r → Run (size_at (domain f) s) size all (at + size) r
  header-sizes h e R =
      sizes true R
      (λ i t g C.
      let n = behind i g in
      tells-small S i clean size n.0 C (sym (unit-same _ f s at i t h n.1) ∙ e))

-- ---- a unit in elements

pub in-text : (f : Form) (at n : ℕ) → f ≡ Text → at < n / (domain f).unit → at < n / 4
in-text f at n z h = rw z at h

pub in-binary : (f : Form) (at n : ℕ) → f ≡ Binary → at < n / (domain f).unit → at < n / 3
in-binary f at n z h = rw z at h

pub by-text : (f : Form) (values s : List ℕ) (at x : ℕ) → f ≡ Text → ((j : ℕ) → get_or s j 0 < 256) → x ≡ get_or values (get_or s (4 * at) 0) 0 → values ≡ sextet_table
    → x ≡ letter_by f (get_or s ((domain f).unit * at) 0)
unfolding letter_by
by-text f values s at x z b e v = e ∙ rw (v, z) (value _ (b (4 * at)))

pub by-binary : (f : Form) (s : List ℕ) (at : ℕ) → f ≡ Binary → get_or s (3 * at) 0 / 4 ≡ letter_by f (get_or s ((domain f).unit * at) 0)
unfolding letter_by
by-binary f s at z = rw z

-- ---- what is said of sizes

pub none-sized : (f : Form) (s : List ℕ) (at size : ℕ) → 0 < size → Run (size_at (domain f) s) size (length s / (domain f).unit) (at + size) 0
none-sized f s at size p = run_none _ _ _ _ p

-- the first unit is within the stream, or nothing follows
pub header-follows : (f : Form) (s : List ℕ) (clean at size r : ℕ) → Clear ((domain f).sextets s) at clean → small_at ((domain f).sextets s) at ≡ size → 0 < size
    → Run (like_in f s true at size) size (min clean (length s / (domain f).unit)) (at + size) r → Run (size_at (domain f) s) size (length s / (domain f).unit) (at + size) r
header-follows f s clean at size zero K e p R = none-sized f s at size p
header-follows f s clean at size (suc r) K e p R =
    let z = R.each 0 (omega arith) in
    header-sizes f s clean at size (suc r) K p (omega (arith, z.1, min-le_right clean (length s / (domain f).unit))) e R

pub letter-follows : (f : Form) (tables : Tables) (s : List ℕ) (clean at size r a row : ℕ) → ((j : ℕ) → get_or s j 0 < 256)
    → (tables.values ≡ sextet_table → a ≡ letter_by f (get_or s ((domain f).unit * at) 0)) → a ≤ 51 → row ≡ row_of tables.rows 0 a → row % 64 ≡ size
    → (0 < size → Run (like_in f s false at size) size (min clean (length s / (domain f).unit)) (at + size) r) → Lent tables
    → Clear ((domain f).sextets s) at clean → 0 < size → Run (size_at (domain f) s) size (length s / (domain f).unit) (at + size) r
letter-follows f tables s clean at size r a row b e l q z R L K p =
    letter-sizes f s clean at size r K p b a (e L.characters) l (rw (q, L.codes) at z) (R p)
