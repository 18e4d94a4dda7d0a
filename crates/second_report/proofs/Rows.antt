-- A stream's rows stored one by one, over either form, by the text it is judged by. Assumes nothing.
use Prim.Native.Nat.{ℕ, ◌+◌, ◌-◌, ◌*◌, ◌/◌, ◌≤◌, ◌<◌}
use mathlib.Core.Path.{◌≡◌, refl, sym, ap, ◌∙◌}
use mathlib.Core.Bool.{true, false}
use mathlib.Core.List.{List, [], ◌∷◌, ◌++◌}
use native.Mathlib.Omega.{arith}
use native.Mathlib.Nat.{add-mul, mul_comm, le-div_iff_mul-le}
use mir.Syntax.{w64}
use mir.Val as val
use lib.ListN.{length, take, drop, length-drop}
use lib.Seq.{sets, sets-eq, length-sets, length-take-le}
use borrow.Author.Tests.{lt-ltb, le-ltb}
use Rattle.format.specs.declared.Form.{Form}
use Rattle.format.specs.declared.Form.TheVariants.{Text, Binary}
use Rattle.format.specs.declared.Framed.TheVariants.{Item, Unframed}
use Rattle.format.specs.declared.Verdict.{Verdict}
use Rattle.format.specs.Units.{domain, text, text_sextets}
use Rattle.format.specs.Framing.{frame_by, frame_ruled, frame_next, scale}
use Rattle.format.specs.Judging.{shift, judge_with}
use Rattle.format.specs.Report.{rows_in, frame_in, judge_in, placed, be4, row_bytes, report, report_answer, report_left}
use Rattle.laws.specs.Domains.{reader}
use Rattle.laws.specs.Frames.{frames}
use Rattle.laws.specs.Levels.{any-item, item-sizes, judge-own}
use Rattle.claims.specs.Claims.{Demand3}
use Rattle.claims.proofs.Demand3.{text-demand3, binary-demand3}
use Rattle.claims.proofs.Room.{report-fits}
use Rattle.filling.specs.Stores.{row_with, row-long}
use Rattle.filling.specs.Filling.{Filled, report_of, turn, refusal-few, filled-start, filled-room, filled_more, filled-few, stop-all, end-all}
use Rattle.second_characters.proofs.Found.{text-length, text-rest}
use Rattle.second.specs.declared.Judged.{Judged}
use Rattle.second.specs.declared.Judged.TheVariants as J
use Rattle.second.specs.Items.{Next}
use Rattle.second.proofs.Groups.{Found, item-is, unframed-is, near-wider, near-own}
use Rattle.second_report.proofs.Counts.{behind4}
use Rattle.second_report.specs.Reports.{form_of, Given, Answered, Row, Put, verdict_at, item_left, end_answer, end_left, Ended}
use Rattle.std.specs.Prelude.{Ok, Result}
use Rattle.format.specs.declared.Refusal.{Refusal}
use Rattle.format.specs.Refusals.{refused_by}

-- rows of nine bytes
abbrev Fill : Form → List ℕ → List ℕ → ℕ → ℕ → ℕ → ℕ → List ℕ → Type 0
Fill f s o n at i k out = Filled (frame_in (domain f)) (judge_in (domain f)) (frames (domain f) (reader f)) row_bytes 9 row-long s o n at i k out

report-is : (f : Form) (s : List ℕ) → report (domain f) s ≡ report_of (frame_in (domain f)) (judge_in (domain f)) (frames (domain f) (reader f)) row_bytes 9 row-long s
unfolding report report_of
report-is f s = refl

unit-few : (f : Form) → (domain f).unit ≤ 4
unit-few Text = omega arith
unit-few Binary = omega arith

demand3 : (f : Form) → Demand3 (domain f)
demand3 Text = text-demand3
demand3 Binary = binary-demand3

-- ---- room for the report

module _ (unit : ℕ) (s t out : List ℕ) (n : ℕ) (G : Given unit s t) (e : n ≡ length (rows_in text t)) where
  counted : n ≡ length (rows_in (domain (form_of unit)) s)
  counted = e ∙ G.items

  pub no_room : length out < 17 + 18 * n → Answered (form_of unit) s out (refused_by 3 0) out
  unfolding report_answer report_left
  no_room k = record { answer = rw (le-ltb (domain (form_of unit)).limit (length s) G.few, ← counted, lt-ltb (length out) (17 + 18 * n) k); left = refl }

-- the whole report is written
all-written : (f : Form) (s o : List ℕ) (n : ℕ) → length s ≤ (domain f).limit → n ≡ length (rows_in (domain f) s) → 17 + 18 * n ≤ length o → (m : ℕ) (last : List ℕ)
    → m ≡ length (report (domain f) s) → last ≡ sets o 0 (report (domain f) s) → Answered f s o (Ok m) last
unfolding report_answer report_left
all-written f s o n few count room m last em el =
    let z : 0 + length (report (domain f) s) ≡ length (report (domain f) s) = omega arith in
    let fits : 0 + length (report (domain f) s) ≤ length o = omega (arith, count, report-fits (domain f) (demand3 f) s) in
    record {
      answer = rw (le-ltb (domain f).limit (length s) few, ← count, le-ltb (length o) (17 + 18 * n) room) (ap Ok em);
      left = el ∙ sets-eq (report (domain f) s) o 0 fits ∙ rw (z, em);
    }

-- ---- the items up to a unit are stored, whatever the buffer held before their number

pub record Reached (unit : ℕ) (s t : List ℕ) (n : ℕ) (out₀ out : List ℕ) (start i k : ℕ) : Type 0 where
  pub given : Given unit s t
  pub count : n ≡ length (rows_in (domain (form_of unit)) s)
  pub few : n ≤ 1048576
  pub room : 17 + 18 * n ≤ length out₀
  pub inside : 4 * start ≤ length t
  pub long : length out ≡ length out₀
  pub held : List ℕ
  pub begun : out₀ ≡ sets held 0 (be4 n)
  pub fills : (o : List ℕ) → out₀ ≡ sets o 0 (be4 n) → Fill (form_of unit) s o n (start * (domain (form_of unit)).unit) i k out

pub reached-start : (unit : ℕ) (s t : List ℕ) (n : ℕ) (o out₀ : List ℕ) → Given unit s t → n ≡ length (rows_in text t) → n ≤ 1048576
    → 17 + 18 * n ≤ length o → out₀ ≡ sets o 0 (be4 n) → Reached unit s t n out₀ out₀ 0 0 0
reached-start unit s t n o out₀ G c few room e = record {
  given = G;
  count = counted unit s t o n G c;
  few = few;
  room = omega (arith, room, ap length e, length-sets o 0 (be4 n));
  inside = omega arith;
  long = refl;
  held = o;
  begun = e;
  fills = λ o' q.
      let z : 0 * (domain (form_of unit)).unit ≡ 0 = omega arith in
      rw (z, q) (filled-start (frame_in (domain (form_of unit))) (judge_in (domain (form_of unit))) (frames (domain (form_of unit)) (reader (form_of unit))) row_bytes 9 row-long s o' n);
}

module _ {unit : ℕ} {s t : List ℕ} {n : ℕ} {out₀ out : List ℕ} {start i k : ℕ} (w : Reached unit s t n out₀ out start i k) where
  abbrev f : Form
  f = form_of unit

  abbrev offset : ℕ
  offset = start * (domain f).unit

  filled : Fill f s w.held n offset i k out
  filled = w.fills w.held w.begun

  stored-few : (i ≤ n) × (k ≤ n)
  stored-few =
      filled-few (frame_in (domain f)) (judge_in (domain f)) (frames (domain f) (reader f)) row_bytes 9 row-long s w.held n w.count offset i k out filled

  units-few : start ≤ 1048576
  units-few = omega (arith, w.inside, w.given.long)

  four : unit ≤ 4
  four = rw w.given.form (unit-few f)

  -- so many units are so many elements
  scaled : (m : ℕ) → unit * m ≡ m * (domain f).unit
  scaled m = mul_comm unit m ∙ ap (λ (u : ℕ). m * u) w.given.form

  pub refusals-fit : val.Fits w64 (9 * k)
  refusals-fit = omega (arith, stored-few, w.few)

  pub rows_fit : val.Fits w64 (8 + 9 * n + 9 * k)
  rows_fit = omega (arith, stored-few, w.few)

  pub end-asks : (k ≤ n) × (n ≤ 4194304) × (17 + 18 * n ≤ length out)
  end-asks = (stored-few.1, omega (arith, w.few), omega (arith, w.room, w.long))

  pub written-end : (o : List ℕ) → out₀ ≡ sets o 0 (be4 n) → length s ≤ unit * start → (r : Result ℕ (Refusal ℕ)) (last : List ℕ) → Ended n k 0 0 0 out r last
      → Answered f s o r last
  unfolding end_answer end_left
  written-end o q l r last E =
      let a =
      end-all (frame_in (domain f)) (judge_in (domain f)) (frames (domain f) (reader f)) row_bytes 9 row-long s o n w.count offset i k out (w.fills o q) (omega (arith, scaled start)) in
      rw E.answer (all-written f s o n w.given.few w.count (omega (arith, w.room, ap length q, length-sets o 0 (be4 n))) _ last (sym a.1 ∙ sym (ap length (report-is f s)))
      (E.left ∙ a.0 ∙ ap (sets o 0) (sym (report-is f s))))

  module _ (lt : unit * start < length s) (j : Judged) (N : Next false true 64 (take (length t - 4 * start) (drop (4 * start) t)) j) where
    -- the rest of the text has the sextets of the rest of the stream
    abbrev rest : List ℕ
    rest = text_sextets (take (length t - 4 * start) (drop (4 * start) t))

    rest-is : rest ≡ (domain f).sextets (drop offset s)
    rest-is =
        let z : 4 * start ≡ start * 4 = omega arith in
        text-rest t (4 * start) ∙ rw (z, w.given.same) (sym ((reader f).dropped s start (omega (arith, scaled start))))

    ruled-is : frame_next false true rest ≡ frame_ruled ((domain f).sextets (drop offset s))
    unfolding frame_next frame_ruled
    ruled-is = rw rest-is

    pub written-rest : (o : List ℕ) → out₀ ≡ sets o 0 (be4 n) → (m p : ℕ) → j ≡ J.Unframed m p → (r : Result ℕ (Refusal ℕ)) (last : List ℕ) → Ended n k 1 (unit * start) m out r last
        → Answered f s o r last
    unfolding frame_in scale end_answer end_left
    written-rest o q m p e r last E =
        let u = unframed-is 64 rest _ m p (sym N.is ∙ e) in
        let un : frame_in (domain f) (drop offset s) ≡ Unframed m p = rw (← ruled-is, u) in
        let a =
        stop-all (frame_in (domain f)) (judge_in (domain f)) (frames (domain f) (reader f)) row_bytes 9 row-long s o n w.count offset i k out (w.fills o q) (omega (arith, scaled start)) un in
        rw E.answer (all-written f s o n w.given.few w.count (omega (arith, w.room, ap length q, length-sets o 0 (be4 n))) _ last (sym a.1 ∙ sym (ap length (report-is f s)))
        (E.left ∙ sym (behind4 (sets out (4 + 9 * n) (be4 k)) _ (8 + 9 * n + 9 * k) (12 + 9 * n + 9 * k) 1 (be4 (unit * start) ++ (m ∷ [])) refl (omega arith))
        ∙ rw (scaled start) (a.0 ∙ ap (sets o 0) (sym (report-is f s)))))

    module _ (m : ℕ) (v : Verdict) (e : j ≡ J.Item m v) where
      found : Found 64 rest (frame_next false true rest) m v
      found = item-is 64 rest _ m v (sym N.is ∙ e)

      framed : frame_by false rest ≡ Item found.kind found.head m
      framed = any-item false true rest found.kind found.head m found.framed

      item_in : frame_in (domain f) (drop offset s) ≡ Item found.kind (found.head * (domain f).unit) (m * (domain f).unit)
      unfolding frame_in scale
      item_in = rw (← ruled-is, found.framed)

      rest-long : length (take (length t - 4 * start) (drop (4 * start) t)) ≡ length t - 4 * start
      rest-long = length-take-le (length t - 4 * start) (drop (4 * start) t) (omega (arith, length-drop (4 * start) t))

      inner : m ≤ length rest / 4
      inner = (item-sizes false rest found.kind found.head m framed).2

      sizes : (0 < m) × (4 * (start + m) ≤ length t)
      sizes =
          let b = item-sizes false rest found.kind found.head m framed in (
            omega (arith, b.0, b.1),
            omega (arith, b.2, text-length (take (length t - 4 * start) (drop (4 * start) t)), rest-long, w.inside),
          )

      room-here : (i < n) × (k ≤ i)
      room-here =
          filled-room (frame_in (domain f)) (judge_in (domain f)) (frames (domain f) (reader f)) row_bytes 9 row-long s w.held n w.count offset i k out filled item_in

      pub item-asks : Row unit start m v i (8 + 9 * n + 9 * k) (length out)
      item-asks = record {
        four = four;
        here = units-few;
        few = omega (arith, sizes, w.given.long);
        near = near-wider (length (take (length t - 4 * start) (drop (4 * start) t)) + 8) 4194312 v (omega (arith, rest-long, w.given.long)) (near-own _ j m v e N.near);
        behind = omega (arith, room-here);
        fits = omega (arith, room-here, w.room, w.long);
      }

      pub end_fits : val.Fits w64 (start + m)
      end_fits = omega (arith, sizes, w.given.long)

      pub less : length t - 4 * (start + m) < length t - 4 * start
      less = omega (arith, sizes)

      pub k-fits : (b : ℕ) (out₂ : List ℕ) → Put unit start m v i (8 + 9 * n + 9 * k) out b out₂ → val.Fits w64 (k + b)
      k-fits b out₂ P = omega (arith, room-here, w.few, P.refusals, refusal-few i (verdict_at unit start v))

      taken : take (4 * m) rest ≡ (domain f).sextets (take (m * (domain f).unit) (drop offset s))
      taken =
          let z : 4 * m ≡ m * 4 = omega arith in
          let u : length rest / 4 ≡ length (drop offset s) / (domain f).unit = rw rest-is ((reader f).units (drop offset s)) in
          rw (z, rest-is)
          (sym ((reader f).taken (drop offset s) m ((le-div_iff_mul-le (reader f).pos).0 (omega (arith, inner)))))

      judged : v ≡ judge_with false 64 ((domain f).sextets (take (m * (domain f).unit) (drop offset s)))
      judged =
          let z : 4 * m ≡ m * 4 = omega arith in
          found.judged ∙ rw z (sym (judge-own false 64 rest found.kind found.head m framed)) ∙ ap (λ (x : ℕ). judge_with false 64 (take x rest)) (sym z)
          ∙ ap (judge_with false 64) taken

      module _ (b : ℕ) (out₂ : List ℕ) (P : Put unit start m v i (8 + 9 * n + 9 * k) out b out₂) (same : length out₂ ≡ length out) where
        is-v : verdict_at unit start v ≡ shift offset (judge_in (domain f) (take (m * (domain f).unit) (drop offset s)))
        unfolding verdict_at judge_in
        is-v =
            ap (λ (u : ℕ). shift (start * u) (placed u v)) w.given.form ∙ ap (λ (x : Verdict). shift offset (placed (domain f).unit x)) judged

        turned : out₂ ≡ turn (frame_in (domain f)) (judge_in (domain f)) (frames (domain f) (reader f)) row_bytes 9 row-long s n i k (row_with offset (m * (domain f).unit) (verdict_at unit start v)) out
        unfolding item_left turn row_bytes
        turned = P.left ∙ rw (scaled start, scaled m)

        pub reached-more : Reached unit s t n out₀ out₂ (start + m) (i + 1) (k + b)
        reached-more = record {
          given = w.given;
          count = w.count;
          few = w.few;
          room = w.room;
          inside = sizes.1;
          long = same ∙ w.long;
          held = w.held;
          begun = w.begun;
          fills = λ o q.
              rw (add-mul start m (domain f).unit, P.refusals, turned)
              (filled_more (frame_in (domain f)) (judge_in (domain f)) (frames (domain f) (reader f)) row_bytes 9 row-long s o n w.count offset i k out (w.fills o q) item_in (verdict_at unit start v) is-v);
        }
