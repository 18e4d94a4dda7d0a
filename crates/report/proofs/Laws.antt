-- The report's loop, a turn at a time, its last stores, and the calls' answers, over either form. Assumes nothing.
use Prim.Native.Nat.{ℕ, ◌+◌, ◌-◌, ◌*◌, ◌/◌, ◌^◌, ◌≤◌, ◌<◌}
use mathlib.Core.Path.{◌≡◌, refl, sym, ap, ◌∙◌, subst}
use mathlib.Core.List.{List}
use native.Mathlib.Omega.{arith}
use native.Mathlib.Nat.{mul_comm, le-div_iff_mul-le}
use mir.Syntax.{w64}
use mir.Val as val
use lib.ListN.{length}
use lib.Seq.{sets, sets-eq, length-sets}
use borrow.Author.Tests.{lt-ltb, le-ltb}
use Rattle.format.specs.declared.Form.{Form}
use Rattle.format.specs.declared.Form.TheVariants.{Text, Binary}
use Rattle.format.specs.Units.{Domain, domain}
use Rattle.format.specs.Report.{rows_in, frame_in, judge_in, be4, row_bytes, report, report_answer, report_left}
use Rattle.laws.specs.Domains.{reader}
use Rattle.laws.specs.Frames.{frames}
use Rattle.claims.specs.Claims.{Demand3}
use Rattle.claims.proofs.Demand3.{text-demand3, binary-demand3}
use Rattle.claims.proofs.Room.{report-fits}
use Rattle.runs.specs.Levels.{Clear, clear-less}
use Rattle.runs_tables.specs.declared.Tables.{Tables}
use Rattle.runs_tables.specs.Lent.{Lent}
use Rattle.filling.specs.Stores.{row-long, be4-long}
use Rattle.report_rows.specs.Stores.{put}
use Rattle.filling.specs.Filling.{report_of, filled-start, filled-few, filled-counts, stop-rows, end-rows, stop-all, end-all}
use Rattle.report_count.specs.Counts.{Total}
use Rattle.report_general.specs.declared.Turn.{Turn}
use Rattle.report_general.specs.declared.Turn.TheVariants.{Stored, Rest}
use Rattle.report_general.specs.Turns.{Fill, Filling, After, Turned}
use Rattle.report_turn.specs.Turns.{Turns}
use Rattle.report_last.specs.Last.{refused_of, Last, Lasts}
use Rattle.report_last.proofs.Laws.{puts, put-counts, put_last}
use Rattle.report.specs.Turns.{Read, Counted, Begun, Ends, Ended, Written, Answered}
use Rattle.report_last.specs.declared.End.{End}
use Rattle.report_last.specs.declared.End.TheVariants.{Whole}
use Rattle.report_last.specs.declared.End.TheVariants as E
use Rattle.std.specs.Prelude.{Ok}
use Rattle.format.specs.Refusals.{refused_by}

-- the report of a domain is that of its framing, judge and rows
report-is : (f : Form) (s : List ℕ) → report (domain f) s ≡ report_of (frame_in (domain f)) (judge_in (domain f)) (frames (domain f) (reader f)) row_bytes 9 row-long s
unfolding report report_of
report-is f s = refl

begin : (f : Form) (s o : List ℕ) (n : ℕ) → Fill f s o n 0 0 0 (sets o 0 (be4 n))
begin f s o n = filled-start (frame_in (domain f)) (judge_in (domain f)) (frames (domain f) (reader f)) row_bytes 9 row-long s o n

units-few : (f : Form) (s : List ℕ) → length s / (domain f).unit ≤ length s
units-few Text s = omega arith
units-few Binary s = omega arith

limit-most : (f : Form) → (domain f).limit ≤ 4194304
limit-most Text = omega arith
limit-most Binary = omega arith

-- ---- all turns

-- some items are stored, up to a unit
pub record Reached (f : Form) (u : ℕ) (tables : Tables) (s : List ℕ) (known n : ℕ) (out out₁ : List ℕ) (clean a i k : ℕ) : Type 0 where
  pub begun : Begun f u tables s known n out
  pub inside : u * a ≤ length s
  pub long : length out₁ ≡ length out
  pub clear : Clear ((domain f).sextets s) a clean
  pub fills : (o : List ℕ) → Fill f s o n 0 0 0 out → Fill f s o n (u * a) i k out₁

module _ {f : Form} {u : ℕ} {tables : Tables} {s : List ℕ} {known n : ℕ} {out : List ℕ} where
  pub reached-start : Begun f u tables s known n out → Reached f u tables s known n out out known 0 0 0
  reached-start B =
      let y : 0 * u ≡ 0 = omega arith in
      let z : u * 0 ≡ 0 = mul_comm u 0 ∙ y in
      record { begun = B; inside = rw z (omega arith); long = refl; clear = B.counted.read.clear; fills = λ o φ. rw z φ }

  module _ {out₁ : List ℕ} {clean a i k : ℕ} (T : Reached f u tables s known n out out₁ clean a i k) where
    pub lent : Lent tables
    lent = T.begun.counted.read.lent

    asks : u * a < length s → Filling f u s n a i k out₁
    asks l = record {
      unit = T.begun.counted.read.unit;
      few = T.begun.counted.read.few;
      here = l;
      count = T.begun.counted.count;
      room = omega (arith, T.begun.counted.room, T.long);
      held = T.begun.held;
      filled = T.fills T.begun.held T.begun.filled;
    }

    -- a turn, where characters are known up to another unit
    module _ {to : ℕ} {r : Turn} {out₂ : List ℕ} (A : Turns f tables s n to a i k out₁ r out₂)
        (known-to : Clear ((domain f).sextets s) a clean → Clear ((domain f).sextets s) a to) (l : u * a < length s) where
      after : (o : List ℕ) → Fill f s o n 0 0 0 out → After f u s o n a i k r out₂
      after o φ = turned (asks l) o (T.fills o φ)
        where
          turned : Turned f u s n a i k out₁ r out₂
          turned = rw T.begun.counted.read.unit (A.right lent (known-to T.clear))

      stored : (m j b : ℕ) → r ≡ Stored m j b → (o : List ℕ) → Fill f s o n 0 0 0 out
          → (0 < m) × (u * (a + m) ≤ length s) × Fill f s o n (u * (a + m)) (i + j) (k + b) out₂
      stored m j b e o φ = subst (λ (t : Turn). After f u s o n a i k t out₂) e (after o φ)

      pub reached-more : (m j b : ℕ) → r ≡ Stored m j b → length out₂ ≡ length out₁
          → Reached f u tables s known n out out₂ to (a + m) (i + j) (k + b)
      reached-more m j b e long₂ =
          let w = stored m j b e T.begun.held T.begun.filled in
          record {
            begun = T.begun;
            inside = w.1;
            long = long₂ ∙ T.long;
            clear = clear-less ((domain f).sextets s) a to (a + m) to (known-to T.clear) (omega arith) (omega arith);
            fills = λ o φ. (stored m j b e o φ).2;
          }

      moves : (m j b : ℕ) → r ≡ Stored m j b → (0 < m) × (a + m ≤ length s) × (i + j ≤ n) × (k + b ≤ n)
      moves m j b e =
          let w = stored m j b e T.begun.held T.begun.filled in
          let c = filled-few (frame_in (domain f)) (judge_in (domain f)) (frames (domain f) (reader f)) row_bytes 9 row-long s T.begun.held n T.begun.counted.count (u * (a + m)) (i + j) (k + b) out₂ w.2 in
          (w.0, few (a + m) w.1, c.0, c.1)
        where
          few : (x : ℕ) → u * x ≤ length s → x ≤ length s
          few x h =
              let z : x * (domain f).unit ≤ length s = rw (mul_comm x (domain f).unit, ← T.begun.counted.read.unit) h in
              let y = (le-div_iff_mul-le {x = x} {y = length s} (reader f).pos).1 z in
              omega (arith, y, units-few f s)

      -- the sums fit, and fewer units are left
      pub units-fit : (m j b : ℕ) → r ≡ Stored m j b → val.Fits w64 (a + m)
      units-fit m j b e = omega (arith, moves m j b e, T.begun.counted.read.few, limit-most f)

      pub items-fit : (m j b : ℕ) → r ≡ Stored m j b → length out * 1 < 2 ^ 63 → val.Fits w64 (i + j)
      items-fit m j b e h = omega (arith, moves m j b e, T.begun.counted.room)

      pub refused-fit : (m j b x : ℕ) → r ≡ Stored m j b → length out * 1 < 2 ^ 63 → x ≤ b → val.Fits w64 (k + x)
      refused-fit m j b x e h l = omega (arith, moves m j b e, T.begun.counted.room)

      pub falls : (m j b : ℕ) → r ≡ Stored m j b → length s - (a + m) < length s - a
      falls m j b e = let h = moves m j b e in omega (arith, h.0, h.1)

      ends_there : (x : ℕ) → r ≡ Rest x → (o : List ℕ) → Fill f s o n 0 0 0 out → Ends f s o n (E.Rest (u * a) k x) out₂
      unfolding Ends
      ends_there x e o φ =
          let w = subst (λ (t : Turn). After f u s o n a i k t out₂) e (after o φ) in
          let is-n = T.begun.counted.count in
          let stop = stop-rows (frame_in (domain f)) (judge_in (domain f)) (frames (domain f) (reader f)) row_bytes 9 row-long s o n is-n (u * a) i k out₂ w.2 l w.1 in
          let c = filled-counts (frame_in (domain f)) (judge_in (domain f)) (frames (domain f) (reader f)) row_bytes 9 row-long s o n is-n (u * a) i k out₂ w.2 stop in
          let q = stop-all (frame_in (domain f)) (judge_in (domain f)) (frames (domain f) (reader f)) row_bytes 9 row-long s o n is-n (u * a) i k out₂ w.2 l w.1 in
          (c.1, q.0 ∙ ap (sets o 0) (sym (report-is f s)), ap length (report-is f s) ∙ q.1)

      pub ends-rest : (x : ℕ) → r ≡ Rest x → Ended f s n out (E.Rest (u * a) k x) out₂
      ends-rest x e = record { ends = ends_there x e }

    ends-here : length s ≤ u * a → (o : List ℕ) → Fill f s o n 0 0 0 out → Ends f s o n (Whole k) out₁
    unfolding Ends
    ends-here l o φ =
        let φ' = T.fills o φ in
        let is-n = T.begun.counted.count in
        let stop = end-rows (frame_in (domain f)) (judge_in (domain f)) (frames (domain f) (reader f)) row_bytes 9 row-long s o n is-n (u * a) i k out₁ φ' l in
        let c = filled-counts (frame_in (domain f)) (judge_in (domain f)) (frames (domain f) (reader f)) row_bytes 9 row-long s o n is-n (u * a) i k out₁ φ' stop in
        let q = end-all (frame_in (domain f)) (judge_in (domain f)) (frames (domain f) (reader f)) row_bytes 9 row-long s o n is-n (u * a) i k out₁ φ' l in
        (c.1, q.0 ∙ ap (sets o 0) (sym (report-is f s)), ap length (report-is f s) ∙ q.1)

    pub ends-whole : length s ≤ u * a → Ended f s n out (Whole k) out₁
    ends-whole l = record { ends = ends-here l }

-- ---- what is filled

module _ {f : Form} {u : ℕ} {tables : Tables} {s : List ℕ} {known n : ℕ} {o : List ℕ} (C : Counted f u tables s known n o) (out : List ℕ)
    (p : out ≡ put o 0 (be4 n)) where
  stored-count : out ≡ sets o 0 (be4 n)
  stored-count = puts o 0 (be4 n) (omega (arith, be4-long n, C.room)) p

  pub begun : Begun f u tables s known n out
  begun = record {
    counted = record { read = C.read; count = C.count; room = omega (arith, C.room, ap length stored-count, length-sets o 0 (be4 n)) };
    held = o;
    filled = rw stored-count (begin f s o n);
  }

  pub ended : (r : End) (last : List ℕ) → Ended f s n out r last → Ends f s o n r last
  ended r last E = E.ends o (rw stored-count (begin f s o n))

-- the last stores make the report
module _ {f : Form} {u : ℕ} {tables : Tables} {s : List ℕ} {known n : ℕ} {o : List ℕ} (C : Counted f u tables s known n o) where
  ends-few : (e : End) (mid : List ℕ) → Ends f s o n e mid → refused_of e ≤ n
  unfolding Ends refused_of
  ends-few (Whole k) mid w = w.0
  ends-few (E.Rest p k x) mid w = w.0

  -- behind rows of nine bytes
  by_last : (e : End) (mid : List ℕ) → Ends f s o n e mid → length mid ≡ length o → (r : ℕ) (last : List ℕ) → Last (4 + 9 * n) e mid r last → Written f s o r last
  unfolding Ends
  by_last (Whole k) mid w z r last c =
      let y : 4 + 9 * n + 4 + 9 * k ≡ 8 + 9 * n + 9 * k = omega arith in
      record {
        long = omega (arith, c.0, w.2);
        held = rw y at (put-counts mid (4 + 9 * n) k (omega (arith, C.room, w.0)) refl 0 c.1) ∙ w.1;
      }
  by_last (E.Rest p k x) mid w z r last c =
      let y : 4 + 9 * n + 4 + 9 * k ≡ 8 + 9 * n + 9 * k = omega arith in
      let x' : 4 + 9 * n + 8 + 9 * k ≡ 12 + 9 * n + 9 * k = omega arith in
      record {
        long = omega (arith, c.0, w.2);
        held = rw (y, x') at (put_last mid (4 + 9 * n) k (omega (arith, C.room, w.0)) refl p x refl c.1) ∙ w.1;
      }

  pub ends_last : (e : End) (mid : List ℕ) → Ends f s o n e mid → length mid ≡ length o → (r : ℕ) (last : List ℕ) → Lasts (4 + 9 * n) e mid r last → Written f s o r last
  ends_last e mid w z r last c = by_last e mid w z r last (c.right (omega (arith, C.room, ends-few e mid w)))

-- ---- the answers

module _ {f : Form} {u : ℕ} {tables : Tables} {s : List ℕ} {known : ℕ} (Q : Read f u tables s known) where
  pub read-few : {n : ℕ} → Total f tables s known n → n ≤ 4194304
  read-few T = omega (arith, T.few, units-few f s, Q.few, limit-most f)

  pub read_count : (n : ℕ) → Total f tables s known n → n ≡ length (rows_in (domain f) s)
  read_count n T = T.right Q.lent Q.clear

demand3 : (f : Form) → Demand3 (domain f)
demand3 Text = text-demand3
demand3 Binary = binary-demand3

known-first : (s : List ℕ) → Clear s 0 0
known-first s i h l = absurd (omega arith)

pub too_long : (d : Domain) (xs out : List ℕ) → d.limit < length xs → refused_by 1 0 ≡ report_answer d xs (length out)
unfolding report_answer
too_long d xs out l = rw (lt-ltb d.limit (length xs) l)

module _ (f : Form) (xs out : List ℕ) where
  abbrev d : Domain
  d = domain f

  module _ {u : ℕ} {tables : Tables} {known n : ℕ} (Q : Read f u tables xs known)
      (T : Total f tables xs known n) where
    pub no_room : length out < 17 + 18 * n → Answered f xs out (refused_by 3 0) out
    unfolding report_answer report_left
    no_room k = record { answer = rw (le-ltb d.limit (length xs) Q.few, ← read_count Q n T, lt-ltb (length out) (17 + 18 * n) k); left = refl }

    pub with-room : 17 + 18 * n ≤ length out → (w : ℕ) (out' : List ℕ) → Written f xs out w out' → Answered f xs out (Ok w) out'
    unfolding report_answer report_left
    with-room k w out' W =
        let z : 0 + length (report d xs) ≡ length (report d xs) = omega arith in
        let e = read_count Q n T in
        let fits : 0 + length (report d xs) ≤ length out = omega (arith, report-fits d (demand3 f) xs) in
        record {
          answer = rw (le-ltb d.limit (length xs) Q.few, ← e, le-ltb (length out) (17 + 18 * n) k) (ap Ok W.long);
          left = W.held ∙ sets-eq (report d xs) out 0 fits ∙ rw (z, W.long);
        }

-- the tables as they are named, and characters known from the start
pub reads : (f : Form) (u : ℕ) (tables : Tables) (s : List ℕ) (known : ℕ) → u ≡ (domain f).unit → Lent tables
    → length s ≤ (domain f).limit → (Clear ((domain f).sextets s) 0 0 → Clear ((domain f).sextets s) 0 known)
    → Read f u tables s known
reads f u tables s known e t l c =
    record { unit = e; lent = t; few = l; clear = c (known-first ((domain f).sextets s)) }
