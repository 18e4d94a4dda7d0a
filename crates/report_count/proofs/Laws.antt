-- Items counted, of either form: up to a unit, and what is still to count from there. Assumes nothing.
use Prim.Native.Nat.{ℕ, zero, suc, ◌+◌, ◌-◌, ◌*◌, ◌/◌, ◌^◌, ◌≤◌, ◌<◌}
use mathlib.Core.Path.{◌≡◌, refl, sym, ap, ◌∙◌}
use mathlib.Core.List.{List, []}
use native.Mathlib.Omega.{arith}
use native.Mathlib.Nat.{mul_comm, mul-add, suc-mul, pos_of_ne-zero, le-div_iff_mul-le, mul-le-mul_left}
use mir.Syntax.{w64}
use mir.Val.{Fits}
use lib.ListN.{length, drop, length-drop, drop_of_length-le}
use lib.Seq.{drop-drop}
use Rattle.format.specs.declared.Form.{Form}
use Rattle.format.specs.declared.Form.TheVariants.{Text, Binary}
use Rattle.format.specs.declared.Kind.{Kind}
use Rattle.format.specs.declared.Framed.{Framed}
use Rattle.format.specs.declared.Framed.TheVariants.{Item, Unframed}
use Rattle.format.specs.Units.{Domain, domain}
use Rattle.format.specs.Framing.{frame_ruled, scale}
use Rattle.format.specs.Report.{rows, rows_in, frame_in}
use Rattle.laws.specs.Domains.{reader}
use Rattle.laws.specs.Frames.{frames}
use Rattle.laws.specs.Items.{rows_at, rows-item, rows-refused, rows-nil}
use Rattle.runs.specs.Levels.{Clear, clear-less}
use Rattle.runs.specs.Runs.{Run, run_none}
use Rattle.runs_tables.specs.declared.Tables.{Tables}
use Rattle.runs_tables.specs.Lent.{Lent}
use Rattle.runs.specs.Plain.{small_at}
use Rattle.report_sizes.specs.Sizes.{Grouped, size_of, size_at}
use Rattle.report_sizes.proofs.Laws.{tells-small, size-told}
use Rattle.report_count.specs.Counts.{Sized, Stepped, Within, Together, Small, Next, Total}

pub units-few : (f : Form) (s : List ℕ) → length s / (domain f).unit ≤ length s
units-few Text s = omega arith
units-few Binary s = omega arith

-- ---- an item by its size

module _ (f : Form) (s : List ℕ) where
  abbrev d : Domain
  d = domain f

  abbrev u : ℕ
  u = (domain f).unit

  framed-by : (a m : ℕ) (g : Framed) → g ≡ frame_ruled (d.sextets (drop (u * a) s)) → m ≡ size_of g → 0 < m
      → (k : Kind) × (h : ℕ) × (frame_in d (drop (u * a) s) ≡ Item k h (u * m))
  unfolding size_of frame_in scale
  framed-by a m (Item k h n) e z p = (k, h * u, rw (← e, z, mul_comm u n))
  framed-by a m (Unframed n q) e z p = absurd (omega arith)

  unframed : (a n q : ℕ) → Unframed n q ≡ frame_ruled (d.sextets (drop (u * a) s)) → frame_in d (drop (u * a) s) ≡ Unframed n q
  unfolding frame_in scale
  unframed a n q e = rw (← e)

  none-by : (a : ℕ) (g : Framed) → g ≡ frame_ruled (d.sextets (drop (u * a) s)) → 0 ≡ size_of g → u * a < length s → rows_at d (u * a) (drop (u * a) s) ≡ []
  unfolding size_of frame_in scale
  none-by a (Item k h n) e z l =
      let w = (frames d (reader f)).within (drop (u * a) s) k (h * u) (n * u) (rw (← e)) in
      let y : n * u ≡ 0 = rw (← z) (omega arith) in
      absurd (omega (arith, w.0, w.1))
  none-by a (Unframed n q) e z l = rows-refused d (reader f) (u * a) (drop (u * a) s) (omega (arith, length-drop (u * a) s)) (unframed a n q e)

  -- ---- so many items up to a unit

  abbrev pub Counted : ℕ → ℕ → Type 0
  Counted a i = length (rows_in d s) ≡ i + length (rows_at d (u * a) (drop (u * a) s))

  pub counted_start : Counted 0 0
  unfolding rows
  counted_start = let y : 0 * u ≡ 0 = omega arith in let z : u * 0 ≡ 0 = mul_comm u 0 ∙ y in rw z (omega arith)

  counted-more : (a i m : ℕ) → Counted a i → m ≡ size_at d s a → 0 < m → Counted (a + m) (i + 1)
  counted-more a i m C e p =
      let q = framed-by a m _ refl e p in
      C ∙ rw (mul-add u a m, rows-item d (reader f) (u * a) (drop (u * a) s) q.2, drop-drop (u * m) (u * a) s) (omega arith)

  counted-run : (a i m stop r : ℕ) → Counted a i → Run (size_at d s) m stop a r → Counted (a + r * m) (i + r)
  counted-run a i m stop zero C R = let z : a + 0 * m ≡ a = omega arith in let y : i + 0 ≡ i = omega arith in rw (z, y) C
  counted-run a i m stop (suc r) C R =
      let z : a + suc r * m ≡ a + r * m + m = omega (arith, suc-mul r m) in
      let y : i + suc r ≡ i + r + 1 = omega arith in
      let R' : Run (size_at d s) m stop a r = record { some = R.some; each = λ j h. R.each j (omega arith) } in
      rw (z, y) (counted-more (a + r * m) (i + r) m (counted-run a i m stop r C R') (sym (R.each r (omega arith)).0) R.some)

  pub counted_next : (a i m r : ℕ) → Counted a i → Sized f s a m r → 0 < m → Counted (a + m + r * m) (i + 1 + r)
  counted_next a i m r C S p = counted-run (a + m) (i + 1) m _ r (counted-more a i m C S.first p) (S.behind p)

  pub counted-end : (a i : ℕ) → Counted a i → length s ≤ u * a → i ≡ length (rows_in d s)
  counted-end a i C l =
      let z : rows_at d (u * a) (drop (u * a) s) ≡ [] = rw (drop_of_length-le s {i = u * a} l) (rows-nil d (reader f) (u * a)) in
      omega (arith, C, ap length z)

  pub counted_stop : (a i m r : ℕ) → Counted a i → Sized f s a m r → m ≡ 0 → u * a < length s → i ≡ length (rows_in d s)
  counted_stop a i m r C S z l =
      let q = ap length (none-by a _ refl (sym z ∙ S.first) l) in
      omega (arith, C)

-- ---- what the sizes say

-- a small group, and those with its header
by-header : (f : Form) (s : List ℕ) (clean at size r : ℕ) → 0 < size → Grouped (domain f) s clean at size
    → (Clear ((domain f).sextets s) at clean → small_at ((domain f).sextets s) at ≡ size → 0 < size → Run (size_at (domain f) s) size (length s / (domain f).unit) (at + size) r)
    → Clear ((domain f).sextets s) at clean → Sized f s at size r
by-header f s clean at size r p G R K =
    let g = G p in
    let t = tells-small ((domain f).sextets s) at clean size g.1 K g.0 in
    record {
      first = size-told f s at size (length s / (domain f).unit) refl (omega (arith, g.2)) (omega (arith, g.2)) p t;
      behind = R K g.0;
    }

-- a step of an item and those behind it
stepped : (f : Form) (s : List ℕ) (at size r n j : ℕ) → 0 < size → Together size r n j → Sized f s at size r → Stepped f s at n j
stepped f s at size r n j p T S =
    record { size = size; more = r; sized = S; none = λ z. absurd (omega (arith, T.long)); some = λ _. (p, T.long, T.many) }

none-stepped : (f : Form) (s : List ℕ) (at m : ℕ) → m ≡ size_at (domain f) s at → m ≡ 0 → Stepped f s at 0 0
none-stepped f s at m e z = record {
  size = m;
  more = 0;
  sized = record { first = e; behind = λ p. absurd (omega arith) };
  none = λ _. z;
  some = λ p. absurd (omega arith);
}

pub step-items : {size r : ℕ} → Small size r → 1 + r ≤ size + r * size
step-items {size} {r} S = let z : r * 1 ≤ r * size = mul-le-mul_left r S.some in omega (arith, S.some)

-- no more items than units
step-within : (f : Form) (s : List ℕ) (at size r n j : ℕ) → 0 < size → size ≤ length s / (domain f).unit - at
    → r * size ≤ length s / (domain f).unit - (at + size) → Together size r n j → Within f s at n j
step-within f s at size r n j p h g T =
    let z : r * 1 ≤ r * size = mul-le-mul_left r p in
    (omega (arith, T.long), omega (arith, T.long, T.many))

module _ (f : Form) (tables : Tables) (s : List ℕ) (clean at size r : ℕ) (h : size ≤ length s / (domain f).unit - at)
    (g : r * size ≤ length s / (domain f).unit - (at + size)) where
  pub step_small : length s * 1 < 2 ^ 63 → 0 < size → Small size r
  step_small l p = record { some = p; fits = omega (arith, units-few f s) }

  -- groups with one header, and items with one letter
  pub by-headers : (n j : ℕ) → Together size r n j → 0 < size → (Lent tables → Grouped (domain f) s clean at size)
      → (Clear ((domain f).sextets s) at clean → small_at ((domain f).sextets s) at ≡ size → 0 < size → Run (size_at (domain f) s) size (length s / (domain f).unit) (at + size) r)
      → Next f tables s clean at n j
  by-headers n j T p G R = record {
    within = step-within f s at size r n j p h g T;
    right = λ L K. stepped f s at size r n j p T (by-header f s clean at size r p (G L) R K);
  }

  pub by-letters : (n j : ℕ) → Together size r n j → (size ≡ 0 → ⊥)
      → (Lent tables → Clear ((domain f).sextets s) at clean → size ≡ size_at (domain f) s at)
      → (Lent tables → Clear ((domain f).sextets s) at clean → 0 < size → Run (size_at (domain f) s) size (length s / (domain f).unit) (at + size) r)
      → Next f tables s clean at n j
  by-letters n j T p E R = record {
    within = step-within f s at size r n j (pos_of_ne-zero p) h g T;
    right = λ L K. stepped f s at size r n j (pos_of_ne-zero p) T (record { first = E L K; behind = R L K });
  }

-- a group by itself
module _ (f : Form) (tables : Tables) (s : List ℕ) (clean at size : ℕ) (h : size ≤ length s / (domain f).unit - at) where
  pub alone-small : length s * 1 < 2 ^ 63 → 0 < size → Small size 0
  alone-small l p = step_small f tables s clean at size 0 h (omega arith) l p

  pub by-alone : (n j : ℕ) → Together size 0 n j → 0 < size → (Lent tables → Grouped (domain f) s clean at size)
      → Next f tables s clean at n j
  by-alone n j T p G = by-headers f tables s clean at size 0 h (omega arith) n j T p G (λ K e q. run_none _ _ _ _ q)

pub no_step : (f : Form) (tables : Tables) (s : List ℕ) (clean at m : ℕ)
    → (Lent tables → Clear ((domain f).sextets s) at clean → m ≡ size_at (domain f) s at) → m ≡ 0
    → Next f tables s clean at 0 0
no_step f tables s clean at m E z =
    record { within = (omega arith, omega arith); right = λ L K. none-stepped f s at m (E L K) z }

-- ---- the loop

-- i items up to the unit a, as far as it can be said without the tables; and with them
pub record Counting (f : Form) (tables : Tables) (s : List ℕ) (known u clean a i : ℕ) : Type 0 where
  pub unit : u ≡ (domain f).unit
  pub within : a ≤ length s / (domain f).unit
  pub few : i ≤ a
  pub right : Lent tables → Clear ((domain f).sextets s) 0 known → Counted f s a i × Clear ((domain f).sextets s) a clean

module _ {f : Form} {tables : Tables} {s : List ℕ} {known u : ℕ} where
  pub counting-start : u ≡ (domain f).unit → Counting f tables s known u known 0 0
  counting-start e = record { unit = e; within = omega arith; few = omega arith; right = λ L K. (counted_start f s, K) }

  module _ {clean a i : ℕ} (C : Counting f tables s known u clean a i) where
    pub counting-fits : u * a ≤ length s
    counting-fits = rw (C.unit, mul_comm (domain f).unit a) ((le-div_iff_mul-le (reader f).pos).0 C.within)

    pub counting-end : length s ≤ u * a → Total f tables s known i
    counting-end l =
        record { few = omega (arith, C.few, C.within); right = λ L K. counted-end f s a i (C.right L K).0 (rw C.unit at l) }

    -- a step of n units and j items, where characters are known up to another unit
    module _ {to n j : ℕ} (N : Next f tables s to a n j) where
      moves : (a + n ≤ length s / (domain f).unit) × (i + j ≤ a + n) × (a + n ≤ length s)
      moves = (omega (arith, C.within, N.within.0), omega (arith, C.few, N.within.1), omega (arith, C.within, N.within.0, units-few f s))

      pub units-fit : length s * 1 < 2 ^ 63 → Fits w64 (a + n)
      units-fit l = omega (arith, moves)

      pub items-fit : length s * 1 < 2 ^ 63 → Fits w64 (i + j)
      items-fit l = omega (arith, moves)

      pub falls : (n ≡ 0 → ⊥) → length s / (domain f).unit - (a + n) < length s / (domain f).unit - a
      falls p = omega (arith, pos_of_ne-zero p, moves)

    module _ {to n j : ℕ} (known-to : Clear ((domain f).sextets s) a clean → Clear ((domain f).sextets s) a to)
        (N : Next f tables s to a n j) where
      pub counting-stop : u * a < length s → n ≡ 0 → Total f tables s known i
      counting-stop l z = record {
        few = omega (arith, C.few, C.within);
        right = λ L K.
            let q = C.right L K in
            let T = N.right L (known-to q.1) in
            counted_stop f s a i T.size T.more q.0 T.sized (T.none z) (rw C.unit at l);
      }

      pub counting-next : (n ≡ 0 → ⊥) → Counting f tables s known u to (a + n) (i + j)
      counting-next p = record {
        unit = C.unit;
        within = (moves N).0;
        few = (moves N).1;
        right = λ L K.
            let q = C.right L K in
            let K' = known-to q.1 in
            let T = N.right L K' in
            let w = T.some (pos_of_ne-zero p) in
            let y : a + n ≡ a + T.size + T.more * T.size = omega (arith, w.1) in
            let x : i + j ≡ i + 1 + T.more = omega (arith, w.2) in
            (rw (y, x) (counted_next f s a i T.size T.more q.0 T.sized w.0), clear-less ((domain f).sextets s) a to (a + n) to K' (omega arith) (omega arith));
      }
