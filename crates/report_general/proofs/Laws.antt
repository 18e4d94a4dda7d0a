-- A turn of the report's loop by the general way, over either form, u elements to the unit. Assumes nothing.
use Prim.Native.Nat.{ℕ, zero, suc, ◌+◌, ◌-◌, ◌*◌, ◌/◌, ◌≤◌, ◌<◌}
use mathlib.Core.Path.{◌≡◌, refl, sym, ap, ◌∙◌}
use mathlib.Core.Bool.{Bool, true, false}
use mathlib.Core.List.{List, [], ◌∷◌, ◌++◌}
use native.Mathlib.Omega.{arith}
use native.Mathlib.Nat.{mul_comm, mul-add, le-div_iff_mul-le}
use lib.ListN.{length, take, drop, length-drop}
use lib.Seq.{sets, length-sets}
use Rattle.format.specs.declared.Form.{Form}
use Rattle.format.specs.declared.Form.TheVariants.{Text, Binary}
use Rattle.format.specs.declared.Kind.{Kind}
use Rattle.format.specs.declared.Framed.{Framed}
use Rattle.format.specs.declared.Framed.TheVariants.{Item, Unframed}
use Rattle.format.specs.declared.Verdict.{Verdict}
use Rattle.format.specs.Units.{Domain, domain}
use Rattle.format.specs.Framing.{frame_ruled, scale}
use Rattle.format.specs.Judging.{shift}
use Rattle.format.specs.Report.{frame_in, judge_in, be4, row_bytes, verdict_byte, refusal_bytes, refusal, concat}
use Rattle.laws.specs.Domains.{reader}
use Rattle.laws.specs.Frames.{frames}
use Rattle.report_found.specs.Limits.{within-longest}
use Rattle.report_item.specs.Items.{Judges}
use Rattle.report_item.proofs.Laws.{framed-units}
use Rattle.filling.specs.Stores.{row_with, concat-long, row-long, refusal-long}
use Rattle.report_rows.specs.Stores.{put, put-fits}
use Rattle.filling.specs.Filling.{refusal-few, turn, filled-room, filled_more, filled-few}
use Rattle.report_general.specs.declared.Turn.{Turn}
use Rattle.report_general.specs.declared.Turn.TheVariants.{Stored, Rest}
use Rattle.report_general.specs.Turns.{Fill, Filling, After, Placed, Turned, Places}

-- ---- places

pub units-few : (f : Form) (s : List ℕ) → length s / (domain f).unit ≤ length s
units-few Text s = omega arith
units-few Binary s = omega arith

module _ {f : Form} {u : ℕ} {s : List ℕ} {n a i k : ℕ} (P : Placed f u s n a i k) where
  in-stream : (x : ℕ) → x ≤ length s / (domain f).unit → u * x ≤ length s
  in-stream x h = rw (P.unit, mul_comm (domain f).unit x) ((le-div_iff_mul-le (reader f).pos).0 h)

  pub placed-fits : (u * a ≤ length s) × (n ≤ 512409557603043100) × (i ≤ n) × (k ≤ n)
  placed-fits = (in-stream a P.inside, P.most, P.items, P.bad)

  -- and an item's size
  pub sized-fits : (m : ℕ) → m ≤ length s / (domain f).unit - a → u * m ≤ length s
  sized-fits m h = in-stream m (omega arith)

-- ---- an item at a unit

module _ (f : Form) (u : ℕ) (is-u : u ≡ (domain f).unit) (s : List ℕ) where
  abbrev d : Domain
  d = domain f

  pub framed-in : (a : ℕ) (k : Kind) (h m : ℕ) → frame_ruled (d.sextets (drop (d.unit * a) s)) ≡ Item k h m → frame_in d (drop (u * a) s) ≡ Item k (h * u) (u * m)
  unfolding frame_in scale
  framed-in a k h m e = rw (is-u, e, mul_comm d.unit m)

  unframed-in : (a m p : ℕ) → frame_ruled (d.sextets (drop (d.unit * a) s)) ≡ Unframed m p → frame_in d (drop (u * a) s) ≡ Unframed m p
  unfolding frame_in scale
  unframed-in a m p e = rw (is-u, e)

  -- it has a unit at least, and is within the stream
  pub item-fits : (a : ℕ) (k : Kind) (h m : ℕ) → u * a < length s → frame_in d (drop (u * a) s) ≡ Item k h (u * m) → (0 < m) × (u * (a + m) ≤ length s)
  item-fits a k h m l e =
      let w = (frames d (reader f)).within (drop (u * a) s) k h (u * m) e in
      (some m (omega (arith, w.0, w.1)), rw (mul-add u a m) (omega (arith, w.2, length-drop (u * a) s)))
    where
      some : (m : ℕ) → 0 < u * m → 0 < m
      some zero h = let z : u * 0 ≡ 0 = mul_comm u 0 ∙ omega arith in absurd (omega arith)
      some (suc m) h = omega arith

-- ---- the rows

module _ {f : Form} {u : ℕ} {s : List ℕ} {n a i k : ℕ} {out : List ℕ} (Φ : Filling f u s n a i k out) where
  -- a framed item has room for its rows
  pub room-here : (g : Kind) (h m : ℕ) → frame_in (domain f) (drop (u * a) s) ≡ Item g h (u * m) → (i < n) × (k ≤ i)
  room-here g h m e =
      filled-room (frame_in (domain f)) (judge_in (domain f)) (frames (domain f) (reader f)) row_bytes 9 row-long s Φ.held n Φ.count (u * a) i k out Φ.filled e

  -- no row is past what is stored
  pub filling-few : (i ≤ n) × (k ≤ n)
  filling-few =
      filled-few (frame_in (domain f)) (judge_in (domain f)) (frames (domain f) (reader f)) row_bytes 9 row-long s Φ.held n Φ.count (u * a) i k out Φ.filled

  -- by the general way
  module _ (t : Kind) (h m : ℕ) (e : frame_ruled ((domain f).sextets (drop ((domain f).unit * a) s)) ≡ Item t h m) where
    here_in : frame_in (domain f) (drop (u * a) s) ≡ Item t (h * u) (u * m)
    here_in = framed-in f u Φ.unit s a t h m e

    stored_is : (v : Verdict) (out' : List ℕ)
        → out' ≡ put (put out (4 + 9 * i) (be4 (u * a) ++ (be4 (u * m) ++ (verdict_byte v ∷ [])))) (8 + 9 * n + 9 * k) (concat refusal_bytes (refusal i v))
        → out' ≡ turn (frame_in (domain f)) (judge_in (domain f)) (frames (domain f) (reader f)) row_bytes 9 row-long s n i k (row_with (u * a) (u * m) v) out
    unfolding turn row_bytes
    stored_is v out' c =
        let r = room-here t (h * u) m here_in in
        let row : List ℕ = row_bytes (row_with (u * a) (u * m) v) in
        let x : length row ≡ 9 = row-long (row_with (u * a) (u * m) v) in
        let y = concat-long refusal_bytes 9 refusal-long (refusal i v) in
        let z = refusal-few i v in
        c
        ∙ ap (λ (l : List ℕ). put l (8 + 9 * n + 9 * k) (concat refusal_bytes (refusal i v))) (put-fits out (4 + 9 * i) row (omega (arith, Φ.room)))
        ∙ put-fits (sets out (4 + 9 * i) row) (8 + 9 * n + 9 * k) (concat refusal_bytes (refusal i v)) (omega (arith, Φ.room, length-sets out (4 + 9 * i) row))

    pub judged-turn : (v : Verdict) → Judges (domain f) s a m v → (b : ℕ) → b ≡ length (refusal i v) → (out' : List ℕ)
        → out' ≡ put (put out (4 + 9 * i) (be4 (u * a) ++ (be4 (u * m) ++ (verdict_byte v ∷ [])))) (8 + 9 * n + 9 * k) (concat refusal_bytes (refusal i v))
        → (o : List ℕ) → Fill f s o n (u * a) i k out → After f u s o n a i k (Stored m 1 b) out'
    judged-turn v J b eb out' c o φ =
        let w = item-fits f u Φ.unit s a t (h * u) m Φ.here here_in in
        let j : v ≡ shift (u * a) (judge_in (domain f) (take (u * m) (drop (u * a) s))) = rw Φ.unit (J.judged (within-longest f (length s) Φ.few) t h e) in
        (w.0, w.1, rw (mul-add u a m, eb, stored_is v out' c) (filled_more (frame_in (domain f)) (judge_in (domain f)) (frames (domain f) (reader f)) row_bytes 9 row-long s o n Φ.count (u * a) i k out φ here_in v j))

  pub rest-turn : (g : Framed) → g ≡ frame_ruled ((domain f).sextets (drop ((domain f).unit * a) s)) → (m p : ℕ) → g ≡ Unframed m p → (o : List ℕ)
      → Fill f s o n (u * a) i k out → After f u s o n a i k (Rest m) out
  rest-turn g e m p q o φ = (p, unframed-in f u Φ.unit s a m p (sym e ∙ q), φ)

-- ---- a size that framing gives

pub framed-size : (f : Form) (s : List ℕ) (a : ℕ) (g : Framed) → g ≡ frame_ruled ((domain f).sextets (drop ((domain f).unit * a) s)) → (t : Kind) (h m : ℕ)
    → g ≡ Item t h m → m ≤ length s / (domain f).unit - a
framed-size f s a g e t h m q = omega (arith, framed-units (domain f) (reader f) s a m t h (sym e ∙ q))

-- ---- places that no report has

module _ {f : Form} {u : ℕ} {s : List ℕ} {n a i k : ℕ} {out : List ℕ} (Φ : Filling f u s n a i k out) where
  pub not-many : length out / 18 < n → ⊥
  not-many h = omega (arith, Φ.room)

  pub not-stored : n < i → ⊥
  not-stored h = omega (arith, filling-few Φ)

  pub not-refused : n < k → ⊥
  not-refused h = omega (arith, filling-few Φ)

  pub not-inside : (units : ℕ) → units ≡ length s / (domain f).unit → units < a → ⊥
  not-inside units e h =
      let l : a * (domain f).unit ≤ length s = rw (mul_comm a (domain f).unit, ← Φ.unit) (omega (arith, Φ.here)) in
      let m : a ≤ length s / (domain f).unit = (le-div_iff_mul-le (reader f).pos).1 l in
      omega arith

-- ---- what the test of places says

module _ {f : Form} {s : List ℕ} {room n a i k : ℕ} where
  no_place : ((out : List ℕ) → length out ≡ room → Filling f (domain f).unit s n a i k out → ⊥) → Places f s room n a i k false
  no_place h = record { placed = λ e. absurd (let y : ◌≡◌ {A = ℕ} 0 1 = cc in omega arith); not-placed = λ _. h }

  pub too_many : room / 18 < n → Places f s room n a i k false
  too_many h = no_place (λ out l Φ. not-many Φ (omega arith))

  pub too_far : n < i → Places f s room n a i k false
  too_far h = no_place (λ out l Φ. not-stored Φ h)

  pub too-bad : n < k → Places f s room n a i k false
  too-bad h = no_place (λ out l Φ. not-refused Φ h)

  pub past_all : (u : ℕ) → u ≡ length s / (domain f).unit → u < a → Places f s room n a i k false
  past_all u e h = no_place (λ out l Φ. not-inside Φ u e h)

  pub a-place : (u : ℕ) → n ≤ room / 18 → i ≤ n → k ≤ n → u ≡ length s / (domain f).unit → a ≤ u → Places f s room n a i k true
  a-place u m g h e l = record {
    placed = λ _ b. record { unit = refl; most = omega arith; items = g; bad = h; inside = omega arith };
    not-placed = λ e. absurd (let y : ◌≡◌ {A = ℕ} 0 1 = cc in omega arith);
  }

  pub placed-here : {r : Bool} {u : ℕ} → Places f s room n a i k r → r ≡ true → room ≤ 9223372036854775807 → u ≡ (domain f).unit → Placed f u s n a i k
  placed-here P t b e = rw e (P.placed t b)

-- u elements to the unit
module _ (f : Form) (u : ℕ) (s : List ℕ) (n a i k : ℕ) (out : List ℕ) (r : Turn) (out' : List ℕ) (e : u ≡ (domain f).unit) where
  pub turned-from : Turned f u s n a i k out r out' → Turned f (domain f).unit s n a i k out r out'
  turned-from T = rw (← e) T

  pub turned-to : Turned f (domain f).unit s n a i k out r out' → Turned f u s n a i k out r out'
  turned-to T = rw e T
