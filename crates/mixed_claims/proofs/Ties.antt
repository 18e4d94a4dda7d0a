-- Where all items and the remainder start as one form does, the mixed report has what 01's report of that form has: two framings that
-- agree on such streams, and two judges that agree on such items, give the same rows. Assumes nothing.
use Rattle.std.specs.Prelude.{ℕ, suc, ◌+◌, ◌<◌, ◌≡◌, length, get_or, take, drop}
use Rattle.std.proofs.Math.Path.{refl, ap}
use Rattle.std.proofs.Common.{sym, ◌∙◌, arith, get_or-take, get_or-drop, drop-drop}
use mathlib.Core.List.{List, [], ◌∷◌}
use Rattle.format.specs.declared.Form.{Form}
use Rattle.format.specs.declared.Kind.{Kind}
use Rattle.format.specs.declared.Framed.{Framed}
use Rattle.format.specs.declared.Framed.TheVariants.{Item, Unframed}
use Rattle.format.specs.declared.Verdict.{Verdict}
use Rattle.format.specs.Units.{domain}
use Rattle.format.specs.Cutting.{cut}
use Rattle.format.specs.Report.{ItemRow, RemainderRow, rows_of, remainder_of, rows, remainder, refusals, refusals_of}
use Rattle.format.specs.Report.{rows_in, remainder_in, frame_in, judge_in}
use Rattle.damage.specs.Words.{Frames, row}
use Rattle.damage.proofs.Cuts as C
use Rattle.damage.proofs.Damage as D
use Rattle.laws.specs.Domains.{reader}
use Rattle.laws.specs.Frames.{frames}
use Rattle.mixed.specs.declared.Start.{Start}
use Rattle.mixed.specs.declared.Start.TheVariants.{Cesr}
use Rattle.mixed.specs.Mixed.{start_of, start_at, frame_mixed, judge_mixed, rows_mixed, remainder_mixed, mixed_row_bytes}
use Rattle.mixed_laws.specs.Frames.{frames-mixed, cesr-frame, cesr-judge}
use Rattle.mixed_claims.specs.Words.{AllStart, SameReports}

-- two framings and two judges, and the streams on which they agree: those that start in one way
module _ (t : Start) (frame frame' : List ℕ → Framed) (judge judge' : List ℕ → Verdict) (F : Frames frame) (G : Frames frame')
    (same-frame : (xs : List ℕ) → start_at xs 0 ≡ t → frame' xs ≡ frame xs) (same-judge : (xs : List ℕ) → start_at xs 0 ≡ t → judge' xs ≡ judge xs)
    (zs : List ℕ) where
  -- the items from offset o on, and what is left, start so
  pub record StartFrom (rs : List ItemRow) (ts : List RemainderRow) : Type 0 where
    pub items : (j : ℕ) → j < length rs → start_at zs (row rs j).offset ≡ t
    pub rest : (o n : ℕ) → ts ≡ record { offset = o; number = n } ∷ [] → start_at zs o ≡ t

  abbrev Same : List ℕ → ℕ → Type 0
  Same xs o = (rows_of judge' o (cut frame' xs) ≡ rows_of judge o (cut frame xs)) × (remainder_of o (cut frame' xs) ≡ remainder_of o (cut frame xs))

  abbrev From : List ℕ → Type 0
  From xs = (o : ℕ) → drop o zs ≡ xs → StartFrom (rows_of judge o (cut frame xs)) (remainder_of o (cut frame xs)) → Same xs o

  here : (o : ℕ) (xs : List ℕ) → drop o zs ≡ xs → start_at zs o ≡ t → start_at xs 0 ≡ t
  here o xs e s =
      let z : o + 0 ≡ o = omega arith in
      ap start_of (ap (λ (l : List ℕ). get_or l 0 0) (sym e) ∙ get_or-drop o zs 0 0 ∙ ap (λ (m : ℕ). get_or zs m 0) z) ∙ s

  from-nil : From []
  unfolding rows_of remainder_of
  from-nil o e S = rw (C.cut-nil frame F, C.cut-nil frame' G) (refl, refl)

  from-refused : (xs : List ℕ) (n p : ℕ) → frame xs ≡ Unframed n p → 0 < length xs → From xs
  unfolding rows_of remainder_of
  from-refused xs n p f pos o e S =
      let left : remainder_of o (cut frame xs) ≡ record { offset = o; number = n } ∷ [] = rw (C.cut-refused frame F xs pos f) in
      let s = here o xs e (S.rest o n left) in
      rw (C.cut-refused frame F xs pos f, C.cut-refused frame' G xs pos (same-frame xs s ∙ f)) (refl, refl)

  -- the items behind the first
  tail : (r : ItemRow) (rs : List ItemRow) (ts : List RemainderRow) → StartFrom (r ∷ rs) ts → StartFrom rs ts
  tail r rs ts S = record { items = λ j l. S.items (suc j) (omega arith); rest = S.rest }

  from-item : (xs : List ℕ) (k : Kind) (h n : ℕ) → frame xs ≡ Item k h n → From (drop n xs) → From xs
  from-item xs k h n f ih o e S =
      let rs : List ItemRow = rows_of judge (o + n) (cut frame (drop n xs)) in
      let ts : List RemainderRow = remainder_of (o + n) (cut frame (drop n xs)) in
      let S' : StartFrom (D.row_of frame judge o xs n ∷ rs) ts = rw (D.rows-item frame judge F o xs f, D.remainder-item frame judge F o xs f) at S in
      let s = here o xs e (S'.items 0 (omega arith)) in
      let g : frame' xs ≡ Item k h n = same-frame xs s ∙ f in
      let w = F.within xs k h n f in
      let own : start_at (take n xs) 0 ≡ t = ap start_of (get_or-take n xs 0 0 (omega arith)) ∙ s in
      let next = ih (o + n) (sym (drop-drop n o zs) ∙ ap (drop n) e) (tail _ rs ts S') in
      rw (D.rows-item frame judge F o xs f, D.rows-item frame' judge' G o xs g, D.remainder-item frame judge F o xs f, D.remainder-item frame' judge' G o xs g, same-judge (take n xs) own, next.0)
      (refl, next.1)

  pub same_rows : StartFrom (rows frame judge zs) (remainder frame judge zs)
      → (rows frame' judge' zs ≡ rows frame judge zs) × (remainder frame' judge' zs ≡ remainder frame judge zs)
  unfolding rows remainder
  same_rows S = C.by-items frame F From from-nil from-refused from-item zs 0 refl S

-- ---- the two reports

module _ (f : Form) (xs : List ℕ) where
  told : (rows_mixed xs ≡ rows_in (domain f) xs) × (remainder_mixed xs ≡ remainder_in (domain f) xs)
      → ((j : ℕ) → j < length (rows_in (domain f) xs) → start_at xs (row (rows_in (domain f) xs) j).offset ≡ Cesr f) → SameReports f xs
  unfolding refusals mixed_row_bytes
  told e s = record {
    rows = e.0;
    refusals = ap (refusals_of 0) e.0;
    remainder = e.1;
    last_byte = λ j l. rw (s j l);
  }

  pub as-report : AllStart f xs (rows_in (domain f) xs) (remainder_in (domain f) xs) → SameReports f xs
  as-report S =
      told
      (same_rows (Cesr f) (frame_in (domain f)) frame_mixed (judge_in (domain f)) judge_mixed (frames (domain f) (reader f)) frames-mixed
      (λ ys s. cesr-frame ys f s) (λ ys s. cesr-judge ys f s) xs (record { items = S.items; rest = S.rest }))
      S.items

  pub as-mixed : AllStart f xs (rows_mixed xs) (remainder_mixed xs) → SameReports f xs
  as-mixed S =
      let e = same_rows (Cesr f) frame_mixed (frame_in (domain f)) judge_mixed (judge_in (domain f)) frames-mixed (frames (domain f) (reader f))
      (λ ys s. sym (cesr-frame ys f s)) (λ ys s. sym (cesr-judge ys f s)) xs (record { items = S.items; rest = S.rest }) in
      told (sym e.0, sym e.1) (rw (sym e.0) at S.items)
