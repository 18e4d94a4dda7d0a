-- The mixed report's loop, a turn at a time, its last stores, and the call's answer. Assumes nothing.
use Prim.Native.Nat.{ℕ, ◌+◌, ◌-◌, ◌*◌, ◌^◌, ◌≤◌, ◌<◌}
use mathlib.Core.Path.{◌≡◌, refl, sym, ap, ◌∙◌, subst}
use mathlib.Core.List.{List}
use native.Mathlib.Omega.{arith}
use mir.Syntax.{w64}
use mir.Val as val
use lib.ListN.{length}
use lib.Seq.{sets, sets-eq, length-sets}
use borrow.Author.Tests.{lt-ltb, le-ltb}
use Rattle.format.specs.Report.{be4}
use Rattle.filling.specs.Stores.{be4-long}
use Rattle.filling.specs.Filling.{report_of, filled-start, filled-few, filled-counts, stop-rows, end-rows, stop-all, end-all}
use Rattle.report_rows.specs.Stores.{put}
use Rattle.report_last.specs.Last.{refused_of, Last, Lasts}
use Rattle.report_last.proofs.Laws.{puts, put-counts, put_last}
use Rattle.report_last.specs.declared.End.{End}
use Rattle.report_last.specs.declared.End.TheVariants.{Whole}
use Rattle.report_last.specs.declared.End.TheVariants as E
use Rattle.mixed.specs.Mixed.{frame_mixed, judge_mixed, mixed_row_bytes, mixed_report, mixed_limit, mixed_answer, mixed_left}
use Rattle.mixed_laws.specs.Frames.{frames-mixed}
use Rattle.mixed_claims.proofs.Proved.{proved}
use Rattle.mixed_known.specs.Known.{Known, known_start, known_on}
use Rattle.mixed_count.specs.Sizes.{Total}
use Rattle.mixed_rows.specs.Rows.{row-ten}
use Rattle.mixed_turn.specs.declared.Turn.{Turn}
use Rattle.mixed_turn.specs.declared.Turn.TheVariants.{Stored, Rest}
use Rattle.mixed_turn.specs.Turns.{Fill, Filling, After, Turns}
use Rattle.mixed_report.specs.Turns.{Read, Counted, Begun, Ends, Ended, Written, Answered}
use Rattle.runs_tables.specs.declared.Tables.{Tables}
use Rattle.std.specs.Prelude.{Ok}
use Rattle.format.specs.Refusals.{refused_by}

-- the report is that of the mixed framing, judge and rows
report-is : (s : List ℕ) → mixed_report s ≡ report_of frame_mixed judge_mixed frames-mixed (mixed_row_bytes s) 10 (row-ten s) s
unfolding mixed_report report_of
report-is s = refl

begin : (s o : List ℕ) (n : ℕ) → Fill s o n 0 0 0 (sets o 0 (be4 n))
begin s o n = filled-start frame_mixed judge_mixed frames-mixed (mixed_row_bytes s) 10 (row-ten s) s o n

-- ---- all turns

-- some items are stored, up to a byte
pub record Reached (tables : Tables) (s : List ℕ) (first n : ℕ) (out out₁ : List ℕ) (to at i k : ℕ) : Type 0 where
  pub begun : Begun tables s first n out
  pub inside : at ≤ length s
  pub long : length out₁ ≡ length out
  pub known : Known s at to
  pub fills : (o : List ℕ) → Fill s o n 0 0 0 out → Fill s o n at i k out₁

module _ {tables : Tables} {s : List ℕ} {first n : ℕ} {out : List ℕ} where
  pub reached-start : Begun tables s first n out → Reached tables s first n out out first 0 0 0
  reached-start B = record { begun = B; inside = omega arith; long = refl; known = B.counted.read.clean; fills = λ o φ. φ }

  module _ {out₁ : List ℕ} {to at i k : ℕ} (T : Reached tables s first n out out₁ to at i k) where
    asks : at < length s → Filling s n at i k out₁
    asks l = record {
      few = T.begun.counted.read.few;
      here = l;
      count = T.begun.counted.count;
      room = omega (arith, T.begun.counted.room, T.long);
      held = T.begun.held;
      filled = T.fills T.begun.held T.begun.filled;
    }

    -- a turn, where characters are known up to another byte
    module _ {to' : ℕ} {r : Turn} {out₂ : List ℕ} (A : Turns tables s n to' at i k out₁ r out₂)
        (known-to : Known s at to → Known s at to') (l : at < length s) where
      after : (o : List ℕ) → Fill s o n 0 0 0 out → After s o n at i k r out₂
      after o φ = A.right T.begun.counted.read.lent (known-to T.known) (asks l) o (T.fills o φ)

      stored : (m b : ℕ) → r ≡ Stored m b → (o : List ℕ) → Fill s o n 0 0 0 out
          → (0 < m) × (at + m ≤ length s) × Fill s o n (at + m) (i + 1) (k + b) out₂
      stored m b e o φ = subst (λ (t : Turn). After s o n at i k t out₂) e (after o φ)

      pub reached-more : (m b : ℕ) → r ≡ Stored m b → length out₂ ≡ length out₁ → Reached tables s first n out out₂ to' (at + m) (i + 1) (k + b)
      reached-more m b e long₂ =
          let w = stored m b e T.begun.held T.begun.filled in
          record {
            begun = T.begun;
            inside = w.1;
            long = long₂ ∙ T.long;
            known = known_on s at to' (at + m) (omega arith) (known-to T.known);
            fills = λ o φ. (stored m b e o φ).2;
          }

      moves : (m b : ℕ) → r ≡ Stored m b → (0 < m) × (at + m ≤ length s) × (i + 1 ≤ n) × (k + b ≤ n)
      moves m b e =
          let w = stored m b e T.begun.held T.begun.filled in
          let c = filled-few frame_mixed judge_mixed frames-mixed (mixed_row_bytes s) 10 (row-ten s) s T.begun.held n T.begun.counted.count (at + m) (i + 1) (k + b) out₂ w.2 in
          (w.0, w.1, c.0, c.1)

      -- the sums fit, and fewer bytes are left
      pub bytes_fit : (m b : ℕ) → r ≡ Stored m b → val.Fits w64 (at + m)
      bytes_fit m b e = omega (arith, moves m b e, T.begun.counted.read.few)

      pub items-fit : (m b : ℕ) → r ≡ Stored m b → length out * 1 < 2 ^ 63 → val.Fits w64 (i + 1)
      items-fit m b e h = omega (arith, moves m b e, T.begun.counted.room)

      pub refused-fit : (m b : ℕ) → r ≡ Stored m b → length out * 1 < 2 ^ 63 → val.Fits w64 (k + b)
      refused-fit m b e h = omega (arith, moves m b e, T.begun.counted.room)

      pub falls : (m b : ℕ) → r ≡ Stored m b → length s - (at + m) < length s - at
      falls m b e = let h = moves m b e in omega (arith, h.0, h.1)

      ends_there : (x : ℕ) → r ≡ Rest x → (o : List ℕ) → Fill s o n 0 0 0 out → Ends s o n (E.Rest at k x) out₂
      unfolding Ends
      ends_there x e o φ =
          let w = subst (λ (t : Turn). After s o n at i k t out₂) e (after o φ) in
          let is-n = T.begun.counted.count in
          let stop = stop-rows frame_mixed judge_mixed frames-mixed (mixed_row_bytes s) 10 (row-ten s) s o n is-n at i k out₂ w.2 l w.1 in
          let c = filled-counts frame_mixed judge_mixed frames-mixed (mixed_row_bytes s) 10 (row-ten s) s o n is-n at i k out₂ w.2 stop in
          let q = stop-all frame_mixed judge_mixed frames-mixed (mixed_row_bytes s) 10 (row-ten s) s o n is-n at i k out₂ w.2 l w.1 in
          (c.1, q.0 ∙ ap (sets o 0) (sym (report-is s)), ap length (report-is s) ∙ q.1)

      pub ends-rest : (x : ℕ) → r ≡ Rest x → Ended s n out (E.Rest at k x) out₂
      ends-rest x e = record { ends = ends_there x e }

    ends-here : length s ≤ at → (o : List ℕ) → Fill s o n 0 0 0 out → Ends s o n (Whole k) out₁
    unfolding Ends
    ends-here l o φ =
        let φ' = T.fills o φ in
        let is-n = T.begun.counted.count in
        let stop = end-rows frame_mixed judge_mixed frames-mixed (mixed_row_bytes s) 10 (row-ten s) s o n is-n at i k out₁ φ' l in
        let c = filled-counts frame_mixed judge_mixed frames-mixed (mixed_row_bytes s) 10 (row-ten s) s o n is-n at i k out₁ φ' stop in
        let q = end-all frame_mixed judge_mixed frames-mixed (mixed_row_bytes s) 10 (row-ten s) s o n is-n at i k out₁ φ' l in
        (c.1, q.0 ∙ ap (sets o 0) (sym (report-is s)), ap length (report-is s) ∙ q.1)

    pub ends-whole : length s ≤ at → Ended s n out (Whole k) out₁
    ends-whole l = record { ends = ends-here l }

-- ---- what is filled

module _ {tables : Tables} {s : List ℕ} {known n : ℕ} {o : List ℕ} (C : Counted tables s known n o) (out : List ℕ) (p : out ≡ put o 0 (be4 n)) where
  stored-count : out ≡ sets o 0 (be4 n)
  stored-count = puts o 0 (be4 n) (omega (arith, be4-long n, C.room)) p

  pub begun : Begun tables s known n out
  begun = record {
    counted = record { read = C.read; count = C.count; room = omega (arith, C.room, ap length stored-count, length-sets o 0 (be4 n)) };
    held = o;
    filled = rw stored-count (begin s o n);
  }

  pub ended : (r : End) (last : List ℕ) → Ended s n out r last → Ends s o n r last
  ended r last E = E.ends o (rw stored-count (begin s o n))

-- the last stores, behind rows of ten bytes, make the report
module _ {tables : Tables} {s : List ℕ} {known n : ℕ} {o : List ℕ} (C : Counted tables s known n o) where
  ends-few : (e : End) (mid : List ℕ) → Ends s o n e mid → refused_of e ≤ n
  unfolding Ends refused_of
  ends-few (Whole k) mid w = w.0
  ends-few (E.Rest p k x) mid w = w.0

  by_last : (e : End) (mid : List ℕ) → Ends s o n e mid → length mid ≡ length o → (r : ℕ) (last : List ℕ) → Last (4 + 10 * n) e mid r last → Written s o r last
  unfolding Ends
  by_last (Whole k) mid w z r last c =
      let y : 4 + 10 * n + 4 + 9 * k ≡ 8 + 10 * n + 9 * k = omega arith in
      record {
        long = omega (arith, c.0, w.2);
        held = rw y at (put-counts mid (4 + 10 * n) k (omega (arith, C.room, w.0)) refl 0 c.1) ∙ w.1;
      }
  by_last (E.Rest p k x) mid w z r last c =
      let y : 4 + 10 * n + 4 + 9 * k ≡ 8 + 10 * n + 9 * k = omega arith in
      let x' : 4 + 10 * n + 8 + 9 * k ≡ 12 + 10 * n + 9 * k = omega arith in
      record {
        long = omega (arith, c.0, w.2);
        held = rw (y, x') at (put_last mid (4 + 10 * n) k (omega (arith, C.room, w.0)) refl p x refl c.1) ∙ w.1;
      }

  pub ends_last : (e : End) (mid : List ℕ) → Ends s o n e mid → length mid ≡ length o → (r : ℕ) (last : List ℕ) → Lasts (4 + 10 * n) e mid r last → Written s o r last
  ends_last e mid w z r last c = by_last e mid w z r last (c.right (omega (arith, C.room, ends-few e mid w)))

-- ---- the answer

pub known-first : (xs : List ℕ) (to : ℕ) → (Known xs 0 0 → Known xs 0 to) → Known xs 0 to
known-first xs to k = k (known_start xs)

pub too_long : (xs out : List ℕ) → mixed_limit < length xs → refused_by 1 0 ≡ mixed_answer xs (length out)
unfolding mixed_answer
too_long xs out l = rw (lt-ltb mixed_limit (length xs) l)

module _ (xs out : List ℕ) {tables : Tables} {known : ℕ} (Q : Read tables xs known) (n : ℕ) (T : Total tables xs known n) where
  pub no_room : length out < 17 + 19 * n → Answered xs out (refused_by 3 0) out
  unfolding mixed_answer mixed_left
  no_room k = record { answer = rw (le-ltb mixed_limit (length xs) Q.few, ← (T.right Q.lent Q.clean), lt-ltb (length out) (17 + 19 * n) k); left = refl }

  pub with-room : 17 + 19 * n ≤ length out → (w : ℕ) (out' : List ℕ) → Written xs out w out' → Answered xs out (Ok w) out'
  unfolding mixed_answer mixed_left
  with-room k w out' W =
      let z : 0 + length (mixed_report xs) ≡ length (mixed_report xs) = omega arith in
      let e = T.right Q.lent Q.clean in
      let fits : 0 + length (mixed_report xs) ≤ length out = omega (arith, proved.call.fits xs) in
      record {
        answer = rw (le-ltb mixed_limit (length xs) Q.few, ← e, le-ltb (length out) (17 + 19 * n) k) (ap Ok W.long);
        left = W.held ∙ sets-eq (mixed_report xs) out 0 fits ∙ rw (z, W.long);
      }

  pub counted : 17 + 19 * n ≤ length out → Counted tables xs known n out
  counted k = record { read = Q; count = T.right Q.lent Q.clean; room = k }
