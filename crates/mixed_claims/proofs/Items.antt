-- The items of a mixed stream by their form: none has another first byte, JSON ones are accepted, CESR ones are 01's. Assumes nothing.
use Rattle.std.specs.Prelude.{ℕ, ◌+◌, ◌*◌, ◌≤◌, ◌<◌, ◌≡◌, refl, List, [], ◌∷◌, length}
use Rattle.std.proofs.Common.{sym, ap, ◌∙◌, arith, le-ltb}
use Rattle.format.specs.declared.Form.{Form}
use Rattle.format.specs.declared.Form.TheVariants.{Text, Binary}
use Rattle.format.specs.declared.Kind.{Kind}
use Rattle.format.specs.declared.Framed.TheVariants.{Item, Unframed}
use Rattle.format.specs.declared.Verdict.TheVariants.{Accepted}
use Rattle.format.specs.Units.{domain}
use Rattle.format.specs.Judging.{shift}
use Rattle.format.specs.Report.{ItemRow, rows_in, rows, remainder, rows_of, remainder_of, frame_in, report, report_answer}
use Rattle.damage.specs.Words.{row, item_at}
use Rattle.damage.proofs.Cuts as C
use Rattle.claims.proofs.Room.{report-length}
use Rattle.mixed.specs.declared.Start.TheVariants.{Cesr, Json, Other}
use Rattle.mixed.specs.Mixed.{start_at, frame_mixed, judge_start, judge_mixed, rows_mixed, remainder_mixed, mixed_report, mixed_limit, mixed_answer}
use Rattle.mixed_laws.specs.Frames.{frames-mixed, cesr-frame, cesr-judge, other-frame}
use Rattle.mixed_claims.specs.Words.{SameReports}
use Rattle.mixed_claims.proofs.Demand3.{single, by, row-start, own-framed}
use Rattle.mixed_claims.proofs.Ratio as Q
use Rattle.mixed_claims.proofs.Room.{report-long}
use Rattle.mixed_claims.proofs.Ties as T
use Rattle.mixed_claims.specs.Claims.{CesrClaims}
use Rattle.std.specs.Prelude.{Ok}

-- ---- no item

pub other-remains : (xs : List ℕ) → 0 < length xs → start_at xs 0 ≡ Other
    → (rows_mixed xs ≡ []) × (remainder_mixed xs ≡ record { offset = 0; number = 17 } ∷ [])
unfolding rows remainder rows_of remainder_of
other-remains xs pos e = rw (C.cut-refused frame_mixed frames-mixed xs pos (other-frame xs e)) (refl, refl)

pub formed : (xs : List ℕ) (j : ℕ) → j < length (rows_mixed xs) → start_at xs (row (rows_mixed xs) j).offset ≡ Other → ⊥
formed xs j l e =
    let i : List ℕ = item_at xs (row (rows_mixed xs) j) in
    let f = own-framed xs j l in
    let w : Unframed 17 0 ≡ Item f.0 f.1 (length i) = sym (other-frame i (row-start xs j l ∙ e)) ∙ f.2 in
    let z : ◌≡◌ {A = ℕ} 0 1 = cc in
    omega arith

-- ---- JSON

json-judged : (i : List ℕ) → start_at i 0 ≡ Json → judge_mixed i ≡ Accepted
unfolding judge_mixed judge_start
json-judged i e = rw e

first-verdict : {r s : ItemRow} {rs ss : List ItemRow} → r ∷ rs ≡ s ∷ ss → r.verdict ≡ s.verdict
first-verdict e = cc

pub not-judged : (xs : List ℕ) (j : ℕ) → j < length (rows_mixed xs) → start_at xs (row (rows_mixed xs) j).offset ≡ Json
    → (row (rows_mixed xs) j).verdict ≡ Accepted
unfolding shift
not-judged xs j l e =
    let i : List ℕ = item_at xs (row (rows_mixed xs) j) in
    let b = by xs j l in
    let s = single frame_mixed judge_mixed frames-mixed i (own-framed xs j l).2 in
    let own : b.own ≡ Accepted = first-verdict (sym b.one-row ∙ s.0) ∙ json-judged i (row-start xs j l ∙ e) in
    b.counted-on ∙ rw own

-- ---- CESR

cesr-framed : (f : Form) (xs : List ℕ) (j : ℕ) → j < length (rows_mixed xs) → start_at xs (row (rows_mixed xs) j).offset ≡ Cesr f
    → let i = item_at xs (row (rows_mixed xs) j) in (start_at i 0 ≡ Cesr f) × (k : Kind) × (h : ℕ) × (frame_in (domain f) i ≡ Item k h (length i))
cesr-framed f xs j l e =
    let i : List ℕ = item_at xs (row (rows_mixed xs) j) in
    let s : start_at i 0 ≡ Cesr f = row-start xs j l ∙ e in
    let o = own-framed xs j l in
    (s, o.0, o.1, sym (cesr-frame i f s) ∙ o.2)

limits : (f : Form) (n : ℕ) → n ≤ (domain f).limit → n ≤ mixed_limit
limits Text n h = h
limits Binary n h = omega arith

calls : (f : Form) (xs : List ℕ) (room : ℕ) → SameReports f xs → length xs ≤ (domain f).limit → 17 + 19 * length (rows_mixed xs) ≤ room
    → (report_answer (domain f) xs room ≡ Ok (length (report (domain f) xs)))
    × (mixed_answer xs room ≡ Ok (length (report (domain f) xs) + length (rows_mixed xs)))
unfolding report_answer mixed_answer
calls f xs room S l h =
    let n : length (rows_mixed xs) ≡ length (rows_in (domain f) xs) = ap length S.rows in
    let long : length (mixed_report xs) ≡ length (report (domain f) xs) + length (rows_mixed xs) =
    omega (arith, report-long xs, report-length (domain f) xs, n, ap length S.refusals, ap length S.remainder) in (
      rw (le-ltb (domain f).limit (length xs) l, le-ltb room (17 + 18 * length (rows_in (domain f) xs)) (omega arith)),
      rw (le-ltb mixed_limit (length xs) (limits f (length xs) l), le-ltb room (17 + 19 * length (rows_mixed xs)) h, long),
    )

pub cesr : CesrClaims
cesr = record {
  framed = λ f xs. cesr-frame xs f;
  judged = λ f xs. cesr-judge xs f;
  by_itself = λ f xs j l e.
      let i = cesr-framed f xs j l e in
      let s = Q.same-alone f (item_at xs (row (rows_mixed xs) j)) i.0 i.3 in
      (s.0, s.1);
  text-ratio = λ xs j l e w. let i = cesr-framed Text xs j l e in Q.text-ratio (item_at xs (row (rows_mixed xs) j)) i.0 i.3 w;
  binary-ratio = λ xs j l e w. let i = cesr-framed Binary xs j l e in Q.binary-ratio (item_at xs (row (rows_mixed xs) j)) i.0 i.3 w;
  as-report = T.as-report;
  as-mixed = T.as-mixed;
  calls = calls;
}
