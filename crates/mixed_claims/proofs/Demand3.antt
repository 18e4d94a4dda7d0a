-- Demand 3 for mixed streams: the damage theorem of `damage` over the mixed framing and judge, and that an item keeps its form. Assumes
-- nothing.
use Rattle.std.specs.Prelude.{ℕ, ◌+◌, ◌<◌, ◌≡◌, refl, List, [], ◌∷◌, length, get_or, drop}
use Rattle.std.proofs.Common.{ap, ◌∙◌, subst, arith, length-take, get_or-take, get_or-drop}
use Rattle.std.proofs.Math.Seq.{take-length, drop-length}
use Rattle.format.specs.declared.Kind.{Kind}
use Rattle.format.specs.declared.Framed.{Framed}
use Rattle.format.specs.declared.Framed.TheVariants.{Item, Unframed}
use Rattle.format.specs.declared.Verdict.{Verdict}
use Rattle.format.specs.Units.{domain}
use Rattle.format.specs.Cutting.{cut}
use Rattle.format.specs.Cutting.Cut.{done, item}
use Rattle.format.specs.Report.{ItemRow, rows_of, remainder_of, rows, remainder}
use Rattle.damage.specs.Words.{Frames, row, item_at, head_of, Behind, Damaged, ByItself}
use Rattle.damage.proofs.Cuts as C
use Rattle.damage.proofs.Damage as D
use Rattle.damage.proofs.Counts.{Numbered, counts, refusal-rows, no-other-refusals, remainder-once}
use Rattle.claims.proofs.Numbers.{judged-numbered}
use Rattle.claims.proofs.Header.{header-elements}
use Rattle.mixed.specs.declared.Start.{Start}
use Rattle.mixed.specs.declared.Start.TheVariants.{Cesr, Json, Other}
use Rattle.mixed.specs.Mixed.{start_of, start_at, frame_start, frame_with, frame_mixed, judge_start, judge_mixed, rows_mixed, mixed_report}
use Rattle.mixed_laws.specs.Json.{json-headed}
use Rattle.mixed_laws.specs.Frames.{frames-mixed}
use Rattle.mixed_claims.specs.Words.{HeadIs}
use Rattle.mixed_claims.specs.Claims.{MixedDemand3}

-- ---- numbers

numbered-start : (t : Start) (xs : List ℕ) → Numbered (judge_start t xs)
unfolding judge_start
numbered-start (Cesr f) xs = judged-numbered (domain f) xs
numbered-start Json xs = tt
numbered-start Other xs = tt

numbered : (xs : List ℕ) → Numbered (judge_mixed xs)
unfolding judge_mixed
numbered xs = numbered-start (start_at xs 0) xs

-- ---- a stream that is one item, and headers that stay: over any framing

module _ (frame : List ℕ → Framed) (judge : List ℕ → Verdict) (F : Frames frame) where
  pub single : (xs : List ℕ) {k : Kind} {h : ℕ} → frame xs ≡ Item k h (length xs)
      → (rows frame judge xs ≡ record { offset = 0; size = length xs; verdict = judge xs } ∷ []) × (remainder frame judge xs ≡ [])
  unfolding rows remainder rows_of remainder_of
  single xs f =
      let c : cut frame xs ≡ item xs done = C.cut-item frame F xs f ∙ rw (take-length xs, drop-length xs, C.cut-nil frame F) in
      (rw (c, D.shift_zero (judge xs)), rw c)

  header-kept : (xs ys : List ℕ) → Damaged frame (rows frame judge xs) xs ys → (j : ℕ) → j < length (rows frame judge xs)
      → (i : ℕ) → i < head_of (frame (item_at xs (row (rows frame judge xs) j)))
      → let o = (row (rows frame judge xs) j).offset in get_or ys (o + i) 0 ≡ get_or xs (o + i) 0
  header-kept xs ys d j lt i h =
      let rs : List ItemRow = rows frame judge xs in
      let b = (D.by_itself frame judge F xs j lt).framed in
      let w = F.within (item_at xs (row rs j)) b.0 b.1 (row rs j).size b.2 in
      let e : head_of (frame (item_at xs (row rs j))) ≡ b.1 = ap head_of b.2 in
      d.kept ((row rs j).offset + i)
      (λ k l behind.
      let same : k ≡ j = (D.partition frame judge F xs).once k j ((row rs j).offset + i) l lt
      (omega arith, omega arith) (omega arith, omega arith) in
      let behind' : Behind frame xs (row rs j) ((row rs j).offset + i) =
      subst (λ (m : ℕ). Behind frame xs (row rs m) ((row rs j).offset + i)) same behind in
      omega arith)

-- ---- an item of a mixed stream

pub by : (xs : List ℕ) (j : ℕ) → j < length (rows_mixed xs) → ByItself frame_mixed judge_mixed xs (row (rows_mixed xs) j)
by = D.by_itself frame_mixed judge_mixed frames-mixed

-- its own first byte is the stream's at its offset
pub row-start : (xs : List ℕ) (j : ℕ) → j < length (rows_mixed xs)
    → start_at (item_at xs (row (rows_mixed xs) j)) 0 ≡ start_at xs (row (rows_mixed xs) j).offset
row-start xs j l =
    let r : ItemRow = row (rows_mixed xs) j in
    let f = (by xs j l).framed in
    let w = frames-mixed.within (item_at xs r) f.0 f.1 r.size f.2 in
    let z : r.offset + 0 ≡ r.offset = omega arith in
    ap start_of (get_or-take r.size (drop r.offset xs) 0 0 (omega arith) ∙ get_or-drop r.offset xs 0 0 ∙ ap (λ (m : ℕ). get_or xs m 0) z)

-- its own length is its row's size
own-length : (xs : List ℕ) (j : ℕ) → j < length (rows_mixed xs) → length (item_at xs (row (rows_mixed xs) j)) ≡ (row (rows_mixed xs) j).size
own-length xs j l =
    let r : ItemRow = row (rows_mixed xs) j in
    let f = (by xs j l).framed in
    let w = frames-mixed.within (item_at xs r) f.0 f.1 r.size f.2 in
    omega (arith, length-take r.size (drop r.offset xs))

pub own-framed : (xs : List ℕ) (j : ℕ) → j < length (rows_mixed xs) → let i = item_at xs (row (rows_mixed xs) j) in
    (k : Kind) × (h : ℕ) × (frame_mixed i ≡ Item k h (length i))
own-framed xs j l = let f = (by xs j l).framed in (f.0, f.1, rw (own-length xs j l) f.2)

-- ---- headers

head-start : (k₀ : Kind) (t : Start) (xs : List ℕ) (r : Framed) (k : Kind) (h n : ℕ) → frame_start k₀ t xs ≡ r → r ≡ Item k h n → HeadIs t xs (head_of r)
unfolding frame_start
head-start k₀ (Cesr f) xs r k h n e i = header-elements (domain f) xs r k h n e i
head-start k₀ Json xs r k h n e i = rw i (json-headed k₀ xs (e ∙ i)).head
head-start k₀ Other xs r k h n e i = let w : Unframed 17 0 ≡ Item k h n = e ∙ i in let z : ◌≡◌ {A = ℕ} 0 1 = cc in absurd (omega arith)

headers : (xs : List ℕ) (j : ℕ) → j < length (rows_mixed xs)
    → let own : List ℕ = item_at xs (row (rows_mixed xs) j) in HeadIs (start_at xs (row (rows_mixed xs) j).offset) own (head_of (frame_mixed own))
unfolding frame_with
headers xs j l =
    let i : List ℕ = item_at xs (row (rows_mixed xs) j) in
    let f = (by xs j l).framed in
    subst (λ (t : Start). HeadIs t i (head_of (frame_mixed i))) (row-start xs j l) (head-start _ (start_at i 0) i (frame_mixed i) f.0 f.1 _ refl f.2)

-- ---- the demand

pub demand3 : MixedDemand3
unfolding mixed_report
demand3 = record {
  sections = λ xs. refl;
  headers = headers;
  same-items = λ xs ys c. (D.rows_alike frame_mixed judge_mixed frames-mixed xs ys c.behind).0;
  same-forms = λ xs ys c j l.
      let a = (D.rows_alike frame_mixed judge_mixed frames-mixed xs ys c.behind).0 in
      let r : ItemRow = row (rows_mixed xs) j in
      let f = (by xs j l).framed in
      let w = frames-mixed.within (item_at xs r) f.0 f.1 r.size f.2 in
      let h : head_of (frame_mixed (item_at xs r)) ≡ f.1 = ap head_of f.2 in
      let z : r.offset + 0 ≡ r.offset = omega arith in
      let same : get_or ys r.offset 0 ≡ get_or xs r.offset 0 =
      rw z at (header-kept frame_mixed judge_mixed frames-mixed xs ys c.behind j l 0 (omega arith)) in
      ap (start_at ys) (a.offsets j) ∙ ap start_of same;
  same-remainder = λ xs ys c. (D.rows_alike frame_mixed judge_mixed frames-mixed xs ys c.behind).1;
  unchanged = λ xs ys c. D.unchanged-verdict frame_mixed judge_mixed frames-mixed xs ys c.behind;
  by_itself = by;
  refusal-rows = refusal-rows frame_mixed judge_mixed;
  no_other = no-other-refusals frame_mixed judge_mixed;
  partition = D.partition frame_mixed judge_mixed frames-mixed;
  counts = counts judge_mixed numbered frame_mixed;
  apart = remainder-once frame_mixed judge_mixed;
}
