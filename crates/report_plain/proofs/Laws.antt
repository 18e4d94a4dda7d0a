-- Plain primitives of one letter, by how they begin. Assumes nothing.
use Prim.Native.Nat.{ℕ, zero, suc, ◌+◌, ◌-◌, ◌*◌, ◌/◌, ◌%◌, ◌^◌, ◌≤◌, ◌<◌, min}
use mathlib.Core.Path.{◌≡◌, refl, sym, ap, ◌∙◌}
use mathlib.Core.Bool.{Bool, true, false}
use mathlib.Core.List.{List}
use native.Mathlib.Omega.{arith}
use native.Mathlib.Nat.{mul_comm, mul-le-mul_left, mul-add, le-div_iff_mul-le, min-le_right, pos_of_ne-zero, suc-mul}
use lib.Dec.{ltb, eqb}
use mir.Syntax.{w8, w64}
use mir.Val.{Fits}
use lib.ListN.{length, get_or}
use lib.Seq.{sets}
use borrow.Author.Tests.{eqb-true, ltb-true}
use Rattle.base.specs.Pick.{pick}
use Rattle.format.specs.declared.Form.{Form}
use Rattle.format.specs.declared.Form.TheVariants.{Text, Binary}
use Rattle.format.specs.Alphabet.{sextet_of, sextet_table}
use Rattle.format.specs.Units.{domain, text_sextets, binary_sextets}
use Rattle.format.specs.Framing.{sextet}
use Rattle.format.specs.Report.{row_bytes, concat}
use Rattle.laws.specs.Domains.{reader, binary-reader}
use Rattle.laws.specs.Local.{binary-sextet}
use Rattle.runs.specs.Plain.{plain_table, row_of, plain_at}
use Rattle.runs.specs.Tables.{value}
use Rattle.runs.specs.Runs.{Run, run_none, plain-by-letter, text-sextet, text-long}
use Rattle.filling.specs.Stores.{run_of}
use Rattle.report_rows.specs.Stores.{run-start}
use Rattle.report_alike.specs.Alike.{is_alike, Alike, alike-units}
use Rattle.runs_tables.specs.declared.Tables.{Tables}
use Rattle.runs_tables.specs.Lent.{Lent}
use Rattle.report_plain.specs.Plain.{Like, Behind, Followed}

both : (a b : Bool) → pick a b false ≡ true → (a ≡ true) × (b ≡ true)
both true b e = (refl, e)
both false b e = absurd (let y : ◌≡◌ {A = ℕ} 0 1 = cc in omega arith)

-- ---- text

-- the letter x, and a second character below the limit of its row
pub like-text : (values rows : List ℕ) (x a row size : ℕ) → x < 256 → a ≡ get_or values x 0 → a ≤ 51 → row ≡ row_of rows 0 a → row % 64 ≡ size
    → Like Text values rows x size (row / 64)
unfolding is_alike
like-text values rows x a row size bx ea l er q p ev es s b i h t =
    let z = both (eqb (get_or s (4 * i) 0) x) (ltb (get_or values (get_or s (4 * i + 1) 0) 0) (row / 64)) t in
    let e : get_or s (4 * i) 0 ≡ x = eqb-true _ _ z.0 in
    let n : get_or values (get_or s (4 * i + 1) 0) 0 < row / 64 = ltb-true _ _ z.1 in
    let w : row ≡ row_of plain_table 0 a = er ∙ rw es in
    let first : sextet (text_sextets s) (4 * i) ≡ a = text-sextet s (4 * i) (omega arith) ∙ ap sextet_of e ∙ sym (ea ∙ rw ev (value x bx)) in
    let second : sextet (text_sextets s) (4 * i + 1) < row_of plain_table 0 a / 64 =
    rw (text-sextet s (4 * i + 1) (omega arith), ← w) (rw (ev, value _ (b (4 * i + 1))) at n) in
    plain-by-letter (text_sextets s) i a (rw (text-long s) h) first (omega arith) size (rw w at q) second

-- ---- binary

-- the code's two zero bits are in the first byte
pub like-binary : (rows : List ℕ) (x row size : ℕ) → x % 4 ≡ 0 → x ≤ 207 → row ≡ row_of rows 0 (x / 4) → row % 64 ≡ size → 16 ≤ row / 64
    → (values : List ℕ) → Like Binary values rows x size 1
unfolding is_alike
like-binary rows x row size m l er q g values p ev es s b i h t =
    let e : get_or s (3 * i) 0 ≡ x = eqb-true _ _ t in
    let w : row ≡ row_of plain_table 0 (x / 4) = er ∙ rw es in
    let y = b (3 * i + 1) in
    let v = b (3 * i + 2) in
    let u = b (3 * i) in
    let z : 4 * i + 0 ≡ 4 * i = omega arith in
    let first : sextet (binary_sextets s) (4 * i) ≡ x / 4 = omega (arith, rw z at (binary-sextet s i 0 h (omega arith))) in
    let n : sextet (binary_sextets s) (4 * i + 1) < 16 = omega (arith, binary-sextet s i 1 h (omega arith)) in
    let k : 16 ≤ row_of plain_table 0 (x / 4) / 64 = rw w at g in
    plain-by-letter (binary_sextets s) i (x / 4) (rw (binary-reader.units s) h) first (omega arith) size (rw w at q) (omega arith)

pub no-limit : (f : Form) (values rows : List ℕ) (x size : ℕ) → Like f values rows x size 0
no-limit f values rows x size p = absurd (omega arith)

pub in-form : (f g : Form) (values rows : List ℕ) (x size r : ℕ) → f ≡ g → Like g values rows x size r → Like f values rows x size r
in-form f g values rows x size r e L = rw e L

-- ---- those behind an item

module _ {f : Form} {s : List ℕ} {at size end : ℕ} (W : Behind f s at size end) (u : ℕ) (is-u : u ≡ (domain f).unit) where
  end-in : u * end ≤ length s
  end-in = rw (is-u, mul_comm (domain f).unit end) ((le-div_iff_mul-le (reader f).pos).0 W.inside)

  -- no element is past the end
  elements-in : (u * at ≤ u * end) × (u * size ≤ u * end) × (u * (at + size) ≤ u * end)
  elements-in = let h = W.fits in (mul-le-mul_left u (omega arith), mul-le-mul_left u (omega arith), mul-le-mul_left u h)

  -- nor does its number wrap
  module _ (l : length s * 1 < 2 ^ 63) where
    pub size_fits : Fits w64 (u * size)
    size_fits = omega (arith, elements-in.1, end-in)

    pub from-fits : Fits w64 (u * (at + size))
    from-fits = omega (arith, elements-in.2, end-in)

    pub end_fits : Fits w64 (u * end)
    end_fits = omega (arith, end-in)

  pub first_fits : length s * 1 < 2 ^ 63 → Fits w64 (u * at)
  first_fits l = omega (arith, elements-in.0, end-in)

  pub first-in : u * at < length s
  first-in =
      let q = W.first in
      let a : u * (at + 1) ≤ u * end = mul-le-mul_left u (omega arith) in
      let b : 0 < u = rw is-u (reader f).pos in
      omega (arith, end-in, mul-add u at 1)

  followers-are : (values rows : List ℕ) (x limit r : ℕ) → ((j : ℕ) → get_or s j 0 < 256) → Like f values rows x size limit → (limit ≡ 0 → ⊥)
      → Alike f values s x limit (u * size) (u * (at + size)) (u * end) r → 0 < size → values ≡ sextet_table → rows ≡ plain_table
      → Run (plain_at plain_table ((domain f).sextets s)) size end (at + size) r
  followers-are values rows x limit r b L n A p ev er = record { some = p; each = λ j q. each j q }
    where
      each : (j : ℕ) → j < r → (plain_at plain_table ((domain f).sextets s) (at + size + j * size) ≡ size) × (at + size + j * size + size ≤ end)
      each j q =
          let a = alike-units f values s x limit u size (at + size) end r (rw is-u (reader f).pos) A j q in
          (L (pos_of_ne-zero n) ev er s b (at + size + j * size) (omega (arith, a.1, W.inside)) (rw is-u at a.0), a.1)

  followers-end : (values : List ℕ) (x limit r : ℕ) → Alike f values s x limit (u * size) (u * (at + size)) (u * end) r → r * size ≤ end - (at + size)
  followers-end values x limit zero A = omega arith
  followers-end values x limit (suc r) A =
      let a = alike-units f values s x limit u size (at + size) end (suc r) (rw is-u (reader f).pos) A r (omega arith) in
      omega (arith, a.1, suc-mul r size)

  -- and their rows
  pub followers-stored : (values rows out out' : List ℕ) (row x limit r : ℕ)
      → (Alike f values s x limit (u * size) (u * (at + size)) (u * end) r) × (out' ≡ sets out row (concat row_bytes (run_of (u * (at + size)) (u * size) r)))
      → ((j : ℕ) → Fits w8 (get_or s j 0)) → Like f values rows x size limit → (limit ≡ 0 → ⊥)
      → Followed f values rows s at size end out row r out'
  followers-stored values rows out out' row x limit r A b L n = record {
    few = followers-end values x limit r A.0;
    run = followers-are values rows x limit r (λ j. omega (arith, b j)) L n A.0;
    stored = rw (← is-u) A.1;
  }

pub followed-none : (f : Form) (values rows s : List ℕ) (at size end : ℕ) (out : List ℕ) (row : ℕ)
    → Followed f values rows s at size end out row 0 out
followed-none f values rows s at size end out row =
    record { few = omega arith; run = λ p v e. run_none _ _ _ _ p; stored = run-start _ _ _ _ }

pub behind-fits : {f : Form} {s : List ℕ} {at size end : ℕ} → Behind f s at size end → Fits w64 end → Fits w64 (at + size)
behind-fits W h = omega (arith, W.fits, h)

-- ---- as far as characters are known

pub within : (f : Form) (s : List ℕ) (clean units end : ℕ) → units ≡ length s / (domain f).unit → end ≡ min clean units → end ≤ length s / (domain f).unit
within f s clean units end e q = rw (← e, q) (min-le_right clean units)

module _ (f : Form) (tables : Tables) (s : List ℕ) (clean units end : ℕ) (is-units : units ≡ length s / (domain f).unit) (is-end : end ≡ min clean units) where
  pub known-run : (at size r : ℕ) → (0 < size → tables.values ≡ sextet_table → tables.rows ≡ plain_table → Run (plain_at plain_table ((domain f).sextets s)) size end (at + size) r)
      → 0 < size → Lent tables → Run (plain_at plain_table ((domain f).sextets s)) size (min clean (length s / (domain f).unit)) (at + size) r
  known-run at size r R p L = rw (← is-units, ← is-end) (R p L.characters L.codes)
