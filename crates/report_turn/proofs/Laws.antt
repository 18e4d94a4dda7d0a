-- A turn of the report's loop, over either form, u elements to the unit: by the fast way, and a run of like items.
-- Assumes nothing.
use Prim.Native.Nat.{ℕ, ◌+◌, ◌-◌, ◌*◌, ◌/◌, ◌≤◌, ◌<◌, min}
use mathlib.Core.Path.{◌≡◌, refl, sym, ◌∙◌}
use mathlib.Core.Bool.{Bool, true, false}
use mathlib.Core.List.{List, [], ◌∷◌, ◌++◌}
use native.Mathlib.Omega.{arith}
use native.Mathlib.Nat.{mul_comm, mul-add, mul-le-mul_left, le-div_iff_mul-le, min-le_left, min-le_right}
use lib.Dec.{leb}
use lib.ListN.{length, take, drop, length-append}
use lib.Seq.{sets, length-sets}
use Rattle.base.specs.Pick.{pick, pick-by}
use Rattle.format.specs.declared.Form.{Form}
use Rattle.format.specs.declared.Form.TheVariants.{Text, Binary}
use Rattle.format.specs.declared.Kind.{Kind}
use Rattle.format.specs.declared.Framed.TheVariants.{Item}
use Rattle.format.specs.declared.Verdict.TheVariants.{Accepted}
use Rattle.format.specs.Units.{Domain, domain}
use Rattle.format.specs.Judging.{shift, max_depth}
use Rattle.format.specs.Report.{frame_in, judge_in, be4, row_bytes, verdict_byte, concat}
use Rattle.laws.specs.Domains.{reader}
use Rattle.laws.specs.Frames.{frames}
use Rattle.laws.specs.Levels.{Taken}
use Rattle.runs.specs.Plain.{plain_table, plain_at}
use Rattle.runs.specs.Levels.{Clear, clear-less, plain-taken}
use Rattle.runs.specs.Runs.{Run}
use Rattle.report_found.specs.Limits.{longest, within-longest}
use Rattle.report_found.specs.Finds.{Inside}
use Rattle.report_found.proofs.Laws.{wide}
use Rattle.runs_tables.specs.declared.Tables.{Tables}
use Rattle.runs_tables.specs.Lent.{Lent}
use Rattle.report_fast_laws.specs.Fast.{Reach, Good, Take}
use Rattle.report_fast_laws.specs.Laws.{taken-good, top-reach, top-good}
use Rattle.filling.specs.Stores.{row_with, run_of, be4-long, row-long}
use Rattle.report_rows.specs.Stores.{put, put-fits}
use Rattle.report_rows.proofs.Laws.{row_put}
use Rattle.report_alike.specs.Alike.{in-elements}
use Rattle.filling.specs.Filling.{filled-good, filled-run}
use Rattle.report_general.specs.declared.Turn.{Turn}
use Rattle.report_general.specs.declared.Turn.TheVariants.{Stored}
use Rattle.report_general.specs.Turns.{Fill, Filling, After, Placed, Turned}
use Rattle.report_general.proofs.Laws.{units-few, placed-fits, framed-in, item-fits, room-here}
use Rattle.report_turn.specs.Turns.{Next, RowPut, Turns}

-- ---- places

module _ {f : Form} {u : ℕ} {s : List ℕ} {n a i k : ℕ} (P : Placed f u s n a i k) where
  -- an item and those that follow it
  pub run_fits : (m r : ℕ) → m ≤ length s / (domain f).unit - a → r * m ≤ length s / (domain f).unit - (a + m) → m + r * m ≤ length s
  run_fits m r h g = omega (arith, units-few f s)

pub items-few : (m r : ℕ) → 0 < m → 1 + r ≤ m + r * m
items-few m r p = let z : r * 1 ≤ r * m = mul-le-mul_left r p in omega arith

-- ---- an item at a unit

module _ (f : Form) (u : ℕ) (is-u : u ≡ (domain f).unit) (s : List ℕ) where
  abbrev d : Domain
  d = domain f

  good-framed : (a m : ℕ) → Good d s a m → (k : Kind) × (h : ℕ) × (frame_in d (drop (u * a) s) ≡ Item k h (u * m))
  good-framed a m g = (g.kind, g.head * u, framed-in f u is-u s a g.kind g.head m g.framed)

  good-judged : (a m : ℕ) → Good d s a m → Accepted ≡ shift (u * a) (judge_in d (take (u * m) (drop (u * a) s)))
  good-judged a m g = rw is-u g.judged

  -- a run of plain primitives: each is framed and accepted
  run-good : length s ≤ longest → (a clean k from r : ℕ) → Clear (d.sextets s) a clean → a ≤ from
      → Run (plain_at plain_table (d.sextets s)) k (min clean (length s / d.unit)) from r → (j : ℕ) → j < r → Good d s (from + j * k) k
  run-good few a clean k from r K le R j h =
      let S : List ℕ = d.sextets s in
      let stop : ℕ = min clean (length s / d.unit) in
      let z = R.each j h in
      let m = min-le_left clean (length s / d.unit) in
      let I : Inside d s (from + j * k) stop = record {
        order = omega (arith, z.1);
        room = rw (mul_comm d.unit stop) ((le-div_iff_mul-le (reader f).pos).0 (min-le_right clean (length s / d.unit)));
        few = few;
      } in
      let t : Taken S false max_depth true (from + j * k) stop k =
      plain-taken S max_depth stop (wide f s false max_depth true (from + j * k) stop I) true (from + j * k) k stop z.0 R.some z.1
      (clear-less S a clean (from + j * k) stop K (omega arith) (omega arith)) z.1 in
      taken-good f s (from + j * k) stop k I t

-- ---- the rows

pub not-long : {f : Form} {u : ℕ} {s : List ℕ} {n a i k : ℕ} {out : List ℕ} → Filling f u s n a i k out → length s ≤ longest
not-long {f} {u} {s} Φ = within-longest f (length s) Φ.few

module _ {f : Form} {u : ℕ} {s : List ℕ} {n a i k : ℕ} {out : List ℕ} (Φ : Filling f u s n a i k out) where
  -- by the fast way: an item of m units
  module _ (m : ℕ) (g : Good (domain f) s a m) where
    good-stored : (out' : List ℕ) → out' ≡ put out (4 + 9 * i) (be4 (u * a) ++ (be4 (u * m) ++ (0 ∷ [])))
        → (i < n) × (out' ≡ sets out (4 + 9 * i) (row_bytes (row_with (u * a) (u * m) Accepted)))
    unfolding row_bytes verdict_byte
    good-stored out' c =
        let e = good-framed f u Φ.unit s a m g in
        let r = room-here Φ e.0 e.1 m e.2 in
        let row : List ℕ = row_bytes (row_with (u * a) (u * m) Accepted) in
        (r.0, c ∙ put-fits out (4 + 9 * i) row (omega (arith, Φ.room, row-long (row_with (u * a) (u * m) Accepted))))

    good-filled : (out' : List ℕ) → out' ≡ put out (4 + 9 * i) (be4 (u * a) ++ (be4 (u * m) ++ (0 ∷ []))) → (o : List ℕ) → Fill f s o n (u * a) i k out
        → (0 < m) × (u * (a + m) ≤ length s) × Fill f s o n (u * (a + m)) (i + 1) k out'
    good-filled out' c o φ =
        let e = good-framed f u Φ.unit s a m g in
        let w = item-fits f u Φ.unit s a e.0 e.1 m Φ.here e.2 in
        (w.0, w.1, rw (mul-add u a m, (good-stored out' c).1) (filled-good (frame_in (domain f)) (judge_in (domain f)) (frames (domain f) (reader f)) row_bytes 9 row-long s o n Φ.count (u * a) i k out φ e.2 (good-judged f u Φ.unit s a m g)))

    pub good_turn : (out' : List ℕ) → out' ≡ put out (4 + 9 * i) (be4 (u * a) ++ (be4 (u * m) ++ (0 ∷ []))) → (o : List ℕ)
        → Fill f s o n (u * a) i k out → After f u s o n a i k (Stored m 1 0) out'
    good_turn out' c o φ = let z : k + 0 ≡ k = omega arith in let w = good-filled out' c o φ in (w.0, w.1, rw z w.2)

    -- and r plain primitives behind it
    module _ (r clean : ℕ) (K : Clear ((domain f).sextets s) a clean)
        (Q : Run (plain_at plain_table ((domain f).sextets s)) m (min clean (length s / (domain f).unit)) (a + m) r) where
      each : (j : ℕ) → j < r → (g : Kind) × (h : ℕ) × (frame_in (domain f) (drop (u * (a + m) + j * (u * m)) s) ≡ Item g h (u * m))
          × (Accepted ≡ shift (u * (a + m) + j * (u * m)) (judge_in (domain f) (take (u * m) (drop (u * (a + m) + j * (u * m)) s))))
      each j h =
          let z = in-elements u (a + m) j m in
          let g = run-good f u Φ.unit s (not-long Φ) a clean m (a + m) r K (omega arith) Q j h in
          let e = good-framed f u Φ.unit s (a + m + j * m) m g in
          (e.0, e.1, rw (← z) e.2, rw (← z) (good-judged f u Φ.unit s (a + m + j * m) m g))

      pub run-turn : (out₁ out₂ : List ℕ) → out₁ ≡ put out (4 + 9 * i) (be4 (u * a) ++ (be4 (u * m) ++ (0 ∷ [])))
          → out₂ ≡ sets out₁ (13 + 9 * i) (concat row_bytes (run_of ((domain f).unit * (a + m)) ((domain f).unit * m) r)) → r * m ≤ length s / (domain f).unit - (a + m)
          → (o : List ℕ) → Fill f s o n (u * a) i k out → After f u s o n a i k (Stored (m + r * m) (1 + r) 0) out₂
      run-turn out₁ out₂ c₁ c₂ b o φ =
          let w = good-filled out₁ c₁ o φ in
          let z : k + 0 ≡ k = omega arith in
          let y : 13 + 9 * i ≡ 4 + 9 * (i + 1) = omega arith in
          let x : i + (1 + r) ≡ i + 1 + r = omega arith in
          let v : a + (m + r * m) ≡ a + m + r * m = omega arith in
          let q : u * (a + (m + r * m)) ≡ u * (a + m) + r * (u * m) = rw v (in-elements u (a + m) r m) in
          let c : out₂ ≡ sets out₁ (4 + 9 * (i + 1)) (concat row_bytes (run_of (u * (a + m)) (u * m) r)) = rw (← y, Φ.unit) c₂ in
          (omega (arith, w.0), end-in, rw (q, z, x, c) (filled-run (frame_in (domain f)) (judge_in (domain f)) (frames (domain f) (reader f)) row_bytes 9 row-long s o n Φ.count (u * (a + m)) (i + 1) k (u * m) r out₁ w.2 each))
        where
          end-in : u * (a + (m + r * m)) ≤ length s
          end-in =
              let w = good-filled out₁ c₁ o φ in
              let l : a + m ≤ length s / (domain f).unit = (le-div_iff_mul-le (reader f).pos).1 (rw (mul_comm (a + m) (domain f).unit, ← Φ.unit) w.1) in
              rw (Φ.unit, mul_comm (domain f).unit (a + (m + r * m))) ((le-div_iff_mul-le (reader f).pos).0 (omega arith))

-- ---- signature groups that follow one another

here_in : (f : Form) (s : List ℕ) (a : ℕ) → a < length s / (domain f).unit → (domain f).unit * a < length s
here_in Text s a h = omega arith
here_in Binary s a h = omega arith

same-long : (out bs : List ℕ) (at : ℕ) → length (put out at bs) ≡ length out
unfolding put
same-long out bs at =
    pick-by (λ (l : List ℕ). length l ≡ length out) (leb (at + length bs) (length out)) (sets out at bs) out (λ _. length-sets out at bs) (λ _. refl)

-- a row in two parts
pub in_parts : {out out₁ out₂ : List ℕ} (i offset size : ℕ) → out₁ ≡ put out (4 + 9 * i) (be4 offset)
    → out₂ ≡ put out₁ (8 + 9 * i) (be4 size ++ (0 ∷ [])) → RowPut out i offset size out₂
in_parts {out} {out₁} {out₂} i offset size c₁ c₂ = record { long = longs; right = row }
  where
    longs : length out₂ ≡ length out
    longs = rw (c₂, same-long out₁ (be4 size ++ (0 ∷ [])) (8 + 9 * i), c₁) (same-long out (be4 offset) (4 + 9 * i))

    row : 13 + 9 * i ≤ length out → out₂ ≡ put out (4 + 9 * i) (be4 offset ++ (be4 size ++ (0 ∷ [])))
    row h =
        let b = length-append (be4 size) (0 ∷ []) in
        let l = length-append (be4 offset) (be4 size ++ (0 ∷ [])) in
        let x : 8 + 9 * i ≡ 4 + 9 * i + 4 = omega arith in
        let m : length out₁ ≡ length out = rw c₁ (same-long out (be4 offset) (4 + 9 * i)) in
        row_put out (4 + 9 * i) offset size 0 (c₁ ∙ put-fits out (4 + 9 * i) (be4 offset) (omega (arith, be4-long offset)))
        (rw x at (c₂ ∙ put-fits out₁ (8 + 9 * i) (be4 size ++ (0 ∷ [])) (omega (arith, b, be4-long size))))
        ∙ sym (put-fits out (4 + 9 * i) (be4 offset ++ (be4 size ++ (0 ∷ []))) (omega (arith, b, l, be4-long size, be4-long offset)))

pub none-next : {f : Form} {tables : Tables} {s : List ℕ} {n end a i : ℕ} → Next f tables s n end a i 0
none-next = record { fits = omega arith; left = λ p. absurd (omega arith); right = λ clean e few L K p. absurd (omega arith) }

pub told-next : {f : Form} {tables : Tables} {s : List ℕ} {n end a i : ℕ} (r : ℕ) → i < n → r ≤ end - a
    → (Reach f s a end → (l : ℕ) (first : Bool) → 0 < l → Take f tables s false l first a end r)
    → Next f tables s n end a i r
told-next {f} {tables} {s} {n} {end} {a} {i} r l h T = record {
  fits = h;
  left = λ p. l;
  right = λ clean e few L K p.
      let here : a < end = omega arith in
      let W = top-reach f tables s a clean (length s / (domain f).unit) end e refl here in
      (top-good f tables s a clean (length s / (domain f).unit) end e refl here r (T W.0 max_depth true (omega arith))).1 few L K p;
}

-- those from a unit to another are stored, and so many rows with them
pub record Passed (f : Form) (u : ℕ) (tables : Tables) (s : List ℕ) (n clean end a i k : ℕ) (out : List ℕ) (at j : ℕ) (out₁ : List ℕ)
    : Type 0 where
  pub ends : end ≡ min clean (length s / (domain f).unit)
  pub placed : Placed f u s n at j k
  pub long : length out₁ ≡ length out
  pub from : a ≤ at
  pub since : i ≤ j
  pub each : j - i ≤ at - a
  pub fills : Lent tables → Clear ((domain f).sextets s) a clean → Filling f u s n a i k out → (o : List ℕ) → Fill f s o n (u * a) i k out
      → Fill f s o n (u * at) j k out₁

module _ {f : Form} {u : ℕ} {tables : Tables} {s : List ℕ} {n clean end a i k : ℕ} {out : List ℕ} where
  pub passed_start : end ≡ min clean (length s / (domain f).unit) → Placed f u s n a i k → Passed f u tables s n clean end a i k out a i out
  passed_start e P = record { ends = e; placed = P; long = refl; from = omega arith; since = omega arith; each = omega arith; fills = λ L K Φ o φ. φ }

  module _ {at j : ℕ} {out₁ : List ℕ} (S : Passed f u tables s n clean end a i k out at j out₁) where
    -- what a turn from there would ask
    asks : Lent tables → Clear ((domain f).sextets s) a clean → Filling f u s n a i k out → at < length s / (domain f).unit
        → Filling f u s n at j k out₁
    asks L K Φ h = record {
      unit = Φ.unit;
      few = Φ.few;
      here = rw Φ.unit (here_in f s at h);
      count = Φ.count;
      room = omega (arith, Φ.room, S.long);
      held = Φ.held;
      filled = S.fills L K Φ Φ.held Φ.filled;
    }

    module _ {size : ℕ} (N : Next f tables s n end at j size) where
      pub next_fits : size ≤ length s / (domain f).unit - at
      next_fits = omega (arith, N.fits, S.ends, min-le_right clean (length s / (domain f).unit))

      pub next-in : at + size ≤ length s
      next-in = omega (arith, next_fits, S.placed.inside, units-few f s)

      pub next-less : 0 < size → length s / (domain f).unit - (at + size) < length s / (domain f).unit - at
      next-less p = omega (arith, next_fits)

      -- one more
      pub passed-more : 0 < size → (out₂ : List ℕ) → RowPut out₁ j (u * at) (u * size) out₂
          → Passed f u tables s n clean end a i k out (at + size) (j + 1) out₂
      passed-more p out₂ c = record {
        ends = S.ends;
        placed = record {
          unit = S.placed.unit;
          most = S.placed.most;
          items = omega (arith, N.left p);
          bad = S.placed.bad;
          inside = omega (arith, next_fits, S.placed.inside);
        };
        long = c.long ∙ S.long;
        from = omega (arith, S.from);
        since = omega (arith, S.since);
        each = omega (arith, S.each, S.from, S.since);
        fills = λ L K Φ o φ.
            let Φ₁ = asks L K Φ (omega (arith, next_fits, p)) in
            let g = N.right clean S.ends (not-long Φ) L (clear-less ((domain f).sextets s) a clean at clean K S.from (omega arith)) p in
            (good-filled Φ₁ size g out₂ (c.right (omega (arith, Φ₁.room, N.left p))) o (S.fills L K Φ o φ)).2;
      }

    -- some are stored
    pub passed-some : a < at → Lent tables → Clear ((domain f).sextets s) a clean → Turned f u s n a i k out (Stored (at - a) (j - i) 0) out₁
    passed-some h L K Φ o φ =
        let x : a + (at - a) ≡ at = omega arith in
        let y : i + (j - i) ≡ j = omega (arith, S.since) in
        let z : k + 0 ≡ k = omega arith in
        (omega arith, rw x (placed-fits S.placed).0, rw (x, y, z) (S.fills L K Φ o φ))

    -- or none, and the turn goes on
    module _ (h : at ≤ a) (L : Lent tables) (K : Clear ((domain f).sextets s) a clean) (Φ : Filling f u s n a i k out) where
      pub passed-fill : (o : List ℕ) → Fill f s o n (u * a) i k out → Fill f s o n (u * a) i k out₁
      passed-fill o φ =
          let x : at ≡ a = omega (arith, S.from) in
          let y : j ≡ i = omega (arith, S.since, S.each) in
          rw (x, y) at (S.fills L K Φ o φ)

      pub passed-again : Filling f u s n a i k out₁
      passed-again = record {
        unit = Φ.unit;
        few = Φ.few;
        here = Φ.here;
        count = Φ.count;
        room = omega (arith, Φ.room, S.long);
        held = Φ.held;
        filled = passed-fill Φ.held Φ.filled;
      }

pub by-unit : (f : Form) (u : ℕ) (tables : Tables) (s : List ℕ) (n clean a i k : ℕ) (out : List ℕ) (r : Turn) (out' : List ℕ)
    → u ≡ (domain f).unit
    → (Lent tables → Clear ((domain f).sextets s) a clean → Turned f u s n a i k out r out')
    → Turns f tables s n clean a i k out r out'
by-unit f u tables s n clean a i k out r out' e T = record { right = λ L K. rw (← e) (T L K) }
