-- The damage theorem over any framing that obeys Frames, and any judge. Assumes nothing.
use Prim.Native.Nat.{ℕ, zero, suc, ◌+◌, ◌-◌, ◌≤◌, ◌<◌}
use Rattle.std.specs.Prelude.{◌≡◌, ◌⊎◌, get_or, take, drop}
use Rattle.std.proofs.Math.Path.{refl, ap}
use Rattle.std.proofs.Common.{sym, ◌∙◌, inl, inr, ⊎_elim, length-take, length-drop, get_or-drop, drop-drop, ext_get_or}
use mathlib.Core.List.{List, [], ◌∷◌}
use native.Mathlib.Omega.{arith}
use Rattle.std.proofs.Math.Decide.{dec_lt}
use Rattle.std.proofs.Math.ListN.{length}
use Rattle.format.specs.declared.Kind.{Kind}
use Rattle.format.specs.declared.Framed.{Framed}
use Rattle.format.specs.declared.Framed.TheVariants.{Item, Unframed}
use Rattle.format.specs.declared.Verdict.{Verdict}
use Rattle.format.specs.declared.Verdict.TheVariants.{Accepted, Refused}
use Rattle.format.specs.Cutting.{Cut, cut}
use Rattle.format.specs.Cutting.Cut.{done, stopped, item}
use Rattle.format.specs.Judging.{shift}
use Rattle.format.specs.Report.{ItemRow, RemainderRow, rows_of, remainder_of, rows, remainder}
use Rattle.damage.specs.Words.{Frames, row, item_at, head_of, Alike, In, Left, Behind, Damaged, ByItself, Partition}
use Rattle.damage.proofs.Cuts as C

pub shift_zero : (v : Verdict) → shift 0 v ≡ v
unfolding shift
shift_zero Accepted = refl
shift_zero (Refused n p) = ap (Refused n) (omega arith)

alike_refl : (rs : List ItemRow) → Alike rs rs
alike_refl rs = record { count = refl; offsets = λ k. refl; sizes = λ k. refl }

alike-cons : (r s : ItemRow) (rs ss : List ItemRow) → s.offset ≡ r.offset → s.size ≡ r.size → Alike rs ss → Alike (r ∷ rs) (s ∷ ss)
alike-cons r s rs ss e f a = record { count = ap suc a.count; offsets = at; sizes = long }
  where
    at : (k : ℕ) → (row (s ∷ ss) k).offset ≡ (row (r ∷ rs) k).offset
    at zero = e
    at (suc k) = a.offsets k

    long : (k : ℕ) → (row (s ∷ ss) k).size ≡ (row (r ∷ rs) k).size
    long zero = f
    long (suc k) = a.sizes k

first-row : {r s : ItemRow} {rs ss : List ItemRow} → r ∷ rs ≡ s ∷ ss → r ≡ s
first-row e = cc

module _ (frame : List ℕ → Framed) (judge : List ℕ → Verdict) where
  -- the rows and the remainder of xs, which stands at offset o
  abbrev pub rows_from : ℕ → List ℕ → List ItemRow
  rows_from o xs = rows_of judge o (cut frame xs)

  abbrev pub remainder_from : ℕ → List ℕ → List RemainderRow
  remainder_from o xs = remainder_of o (cut frame xs)

  -- the row of its first item, of n bytes
  abbrev pub row_of : ℕ → List ℕ → ℕ → ItemRow
  row_of o xs n = record { offset = o; size = n; verdict = shift o (judge (take n xs)) }

  pub offset-ge : (o : ℕ) (c : Cut) (k : ℕ) → k < length (rows_of judge o c) → o ≤ (row (rows_of judge o c) k).offset
  unfolding rows_of
  offset-ge o done k h = absurd (omega arith)
  offset-ge o (stopped n p r) k h = absurd (omega arith)
  offset-ge o (item i c) zero h = omega arith
  offset-ge o (item i c) (suc k) h = omega (arith, offset-ge (o + length i) c k (omega arith))

  module _ (F : Frames frame) where
    -- ---- the equations of the rows and the remainder

    pub item-length : (xs : List ℕ) {k : Kind} {h n : ℕ} → frame xs ≡ Item k h n → length (take n xs) ≡ n
    item-length xs {k} {h} {n} f = omega (arith, length-take n xs, C.frame-item frame F xs f)

    pub rows-item : (o : ℕ) (xs : List ℕ) {k : Kind} {h n : ℕ} → frame xs ≡ Item k h n
        → rows_from o xs ≡ row_of o xs n ∷ rows_from (o + n) (drop n xs)
    unfolding rows_of
    rows-item o xs {k} {h} {n} f =
        ap (rows_of judge o) (C.cut-item frame F xs f)
        ∙ ap (λ (j : ℕ). record { offset = o; size = j; verdict = shift o (judge (take n xs)) } ∷ rows_from (o + j) (drop n xs))
        (item-length xs f)

    pub remainder-item : (o : ℕ) (xs : List ℕ) {k : Kind} {h n : ℕ} → frame xs ≡ Item k h n
        → remainder_from o xs ≡ remainder_from (o + n) (drop n xs)
    unfolding remainder_of
    remainder-item o xs {k} {h} {n} f =
        ap (remainder_of o) (C.cut-item frame F xs f) ∙ ap (λ (j : ℕ). remainder_from (o + j) (drop n xs)) (item-length xs f)

    -- ---- the same items and the same remainder

    module _ (zs ws : List ℕ) (len : length ws ≡ length zs) where
      -- from o on they agree, but behind the headers of these rows' items
      abbrev KeptFrom : ℕ → List ItemRow → Type 0
      KeptFrom o rs = (i : ℕ) → o ≤ i → ((k : ℕ) → k < length rs → ¬ Behind frame zs (row rs k) i) → get_or ws i 0 ≡ get_or zs i 0

      abbrev Kept : List ℕ → ℕ → Type 0
      Kept xs o = Alike (rows_from o xs) (rows_from o (drop o ws)) × (remainder_from o (drop o ws) ≡ remainder_from o xs)

      abbrev From : List ℕ → Type 0
      From xs = (o : ℕ) → drop o zs ≡ xs → o ≤ length zs → KeptFrom o (rows_from o xs) → Kept xs o

      same_from : (o : ℕ) → o ≤ length zs → ((i : ℕ) → o ≤ i → get_or ws i 0 ≡ get_or zs i 0) → drop o ws ≡ drop o zs
      same_from o le f =
          ext_get_or 0 (drop o ws) (drop o zs) (simp (length-drop, len))
          (λ i h. get_or-drop o ws i 0 ∙ f (o + i) (omega arith) ∙ sym (get_or-drop o zs i 0))

      unchanged : (xs : List ℕ) (o : ℕ) → drop o zs ≡ xs → drop o ws ≡ drop o zs → Kept xs o
      unchanged xs o e q = rw (q, e) (alike_refl (rows_from o xs), refl)

      -- an index in an item's header is behind no header
      ahead : (o : ℕ) (xs : List ℕ) (h n : ℕ) (tail : List ItemRow) → h ≤ n → head_of (frame (take n (drop o zs))) ≡ h
          → ((k : ℕ) → k < length tail → o + n ≤ (row tail k).offset)
          → (i : ℕ) → i < h → (k : ℕ) → k < suc (length tail) → ¬ Behind frame zs (row (row_of o xs n ∷ tail) k) (o + i)
      ahead o xs h n tail hn hd ge i lt zero l b = omega arith
      ahead o xs h n tail hn hd ge i lt (suc k) l b = omega (arith, ge k (omega arith))

      -- an index past an item that is behind no later header is behind no header
      later : (o : ℕ) (xs : List ℕ) (n : ℕ) (tail : List ItemRow) (i : ℕ) → o + n ≤ i
          → ((k : ℕ) → k < length tail → ¬ Behind frame zs (row tail k) i)
          → (k : ℕ) → k < suc (length tail) → ¬ Behind frame zs (row (row_of o xs n ∷ tail) k) i
      later o xs n tail i h clear zero l b = omega arith
      later o xs n tail i h clear (suc k) l b = clear k (omega arith) b

      from-nil : From []
      unfolding rows_of
      from-nil o e le kept =
          unchanged [] o e (same_from o le (λ i h. kept i h (rw (C.cut-nil frame F) (λ k lt. absurd (omega arith)))))

      from-refused : (xs : List ℕ) (n p : ℕ) → frame xs ≡ Unframed n p → 0 < length xs → From xs
      unfolding rows_of
      from-refused xs n p f pos o e le kept =
          unchanged xs o e (same_from o le (λ i h. kept i h (rw (C.cut-refused frame F xs pos f) (λ k lt. absurd (omega arith)))))

      from-item : (xs : List ℕ) (k : Kind) (h n : ℕ) → frame xs ≡ Item k h n → From (drop n xs) → From xs
      from-item xs k h n f ih o e le kept =
          let sizes = C.frame-item frame F xs f in
          let lx : length xs ≡ length zs - o = ap length (sym e) ∙ length-drop o zs in
          let tail : List ItemRow = rows_from (o + n) (drop n xs) in
          let kept' : KeptFrom o (row_of o xs n ∷ tail) = rw (rows-item o xs f) at kept in
          let hd : head_of (frame (take n (drop o zs))) ≡ h = rw (e, C.frame-take frame F xs f) in
          let clear : (i : ℕ) → i < h → (j : ℕ) → j < suc (length tail) → ¬ Behind frame zs (row (row_of o xs n ∷ tail) j) (o + i) =
          ahead o xs h n tail sizes.1 hd (offset-ge (o + n) (cut frame (drop n xs))) in
          let fw : frame (drop o ws) ≡ Item k h n = C.frame-alike frame F xs (drop o ws) f
          (λ i lt. get_or-drop o ws i 0 ∙ kept' (o + i) (omega arith) (clear i lt) ∙ sym (get_or-drop o zs i 0)
          ∙ ap (λ (l : List ℕ). get_or l i 0) e)
          (omega (arith, length-drop o ws)) in
          let next : Kept (drop n xs) (o + n) = ih (o + n) (sym (drop-drop n o zs) ∙ ap (drop n) e) (omega arith)
          (λ i l cl. kept' i (omega arith) (later o xs n tail i l cl)) in
          rw (rows-item o xs f, rows-item o (drop o ws) fw, remainder-item o xs f, remainder-item o (drop o ws) fw, drop-drop n o ws)
          (alike-cons (row_of o xs n) (row_of o (drop o ws) n) tail (rows_from (o + n) (drop (o + n) ws)) refl refl next.0, next.1)

    pub rows_alike : (xs ys : List ℕ) → Damaged frame (rows frame judge xs) xs ys
        → Alike (rows frame judge xs) (rows frame judge ys) × (remainder frame judge ys ≡ remainder frame judge xs)
    unfolding rows remainder
    rows_alike xs ys d =
        C.by-items frame F (From xs ys d.long) (from-nil xs ys d.long) (from-refused xs ys d.long) (from-item xs ys d.long)
        xs 0 refl (omega arith) (λ i h clear. d.kept i clear)

    -- ---- every item by itself

    own_row : (zs xs : List ℕ) (o : ℕ) {k : Kind} {h n : ℕ} → drop o zs ≡ xs → frame xs ≡ Item k h n
        → ByItself frame judge zs (row_of o xs n)
    unfolding rows remainder rows_of remainder_of
    own_row zs xs o {k} {h} {n} e f = record {
      framed = (k, h, rw (e, C.frame-take frame F xs f));
      own = judge (take n xs);
      one-row = rw (e, C.cut-own frame F xs f, item-length xs f, shift_zero (judge (take n xs)));
      nothing_left = rw (e, C.cut-own frame F xs f);
      counted-on = refl;
    }

    module _ (zs : List ℕ) where
      abbrev Own : List ℕ → Type 0
      Own xs = (o : ℕ) → drop o zs ≡ xs → (j : ℕ) → j < length (rows_from o xs) → ByItself frame judge zs (row (rows_from o xs) j)

      own-nil : Own []
      unfolding rows_of
      own-nil o e = rw (C.cut-nil frame F) (λ j h. absurd (omega arith))

      own-refused : (xs : List ℕ) (n p : ℕ) → frame xs ≡ Unframed n p → 0 < length xs → Own xs
      unfolding rows_of
      own-refused xs n p f pos o e = rw (C.cut-refused frame F xs pos f) (λ j h. absurd (omega arith))

      own-item : (xs : List ℕ) (k : Kind) (h n : ℕ) → frame xs ≡ Item k h n → Own (drop n xs) → Own xs
      own-item xs k h n f ih o e = rw (rows-item o xs f) go
        where
          go : (j : ℕ) → j < suc (length (rows_from (o + n) (drop n xs)))
              → ByItself frame judge zs (row (row_of o xs n ∷ rows_from (o + n) (drop n xs)) j)
          go zero l = own_row zs xs o e f
          go (suc j) l = ih (o + n) (sym (drop-drop n o zs) ∙ ap (drop n) e) j (omega arith)

    pub by_itself : (xs : List ℕ) (k : ℕ) → k < length (rows frame judge xs) → ByItself frame judge xs (row (rows frame judge xs) k)
    unfolding rows
    by_itself xs = C.by-items frame F (Own xs) (own-nil xs) (own-refused xs) (own-item xs) xs 0 refl

    -- an unchanged item keeps its verdict and its place of refusal
    pub unchanged-verdict : (xs ys : List ℕ) → Damaged frame (rows frame judge xs) xs ys → (k : ℕ) → k < length (rows frame judge xs)
        → item_at ys (row (rows frame judge ys) k) ≡ item_at xs (row (rows frame judge xs) k)
        → (row (rows frame judge ys) k).verdict ≡ (row (rows frame judge xs) k).verdict
    unchanged-verdict xs ys d k h e =
        let a = (rows_alike xs ys d).0 in
        let p = by_itself xs k h in
        let q = by_itself ys k (omega (arith, a.count)) in
        let same : q.own ≡ p.own =
        ap (λ (r : ItemRow). r.verdict) (first-row (sym q.one-row ∙ ap (rows frame judge) e ∙ p.one-row)) in
        q.counted-on ∙ rw (a.offsets k, same) (sym p.counted-on)

    -- ---- every byte in one item, or in the remainder

    abbrev Covers : List ℕ → Type 0
    Covers xs = (o i : ℕ) → o ≤ i → i < o + length xs
        → ((k : ℕ) × (k < length (rows_from o xs)) × In (row (rows_from o xs) k) i) ⊎ Left (remainder_from o xs) i

    covers-item : (xs : List ℕ) (k : Kind) (h n : ℕ) → frame xs ≡ Item k h n → Covers (drop n xs) → Covers xs
    covers-item xs k h n f ih o i a b =
        rw (rows-item o xs f, remainder-item o xs f)
        (elim (dec_lt i (o + n)) [
          | yes lt ↦ inl (0, omega arith, omega arith)
          | no ge ↦
              ⊎_elim (λ w. inl (suc w.0, omega arith, w.2)) (λ w. inr w)
              (ih (o + n) i (omega arith) (omega (arith, length-drop n xs, C.frame-item frame F xs f)))
        ])

    covers : (xs : List ℕ) → Covers xs
    unfolding rows_of remainder_of
    covers =
        C.by-items frame F Covers (λ o i a b. absurd (omega arith))
        (λ xs n p f pos o i a b. rw (C.cut-refused frame F xs pos f) (inr a)) covers-item

    one_of : (o : ℕ) (c : Cut) (j k i : ℕ) → j < length (rows_of judge o c) → k < length (rows_of judge o c)
        → In (row (rows_of judge o c) j) i → In (row (rows_of judge o c) k) i → j ≡ k
    unfolding rows_of
    one_of o done j k i a b p q = absurd (omega arith)
    one_of o (stopped n m r) j k i a b p q = absurd (omega arith)
    one_of o (item l c) zero zero i a b p q = refl
    one_of o (item l c) zero (suc k) i a b p q = absurd (omega (arith, offset-ge (o + length l) c k (omega arith)))
    one_of o (item l c) (suc j) zero i a b p q = absurd (omega (arith, offset-ge (o + length l) c j (omega arith)))
    one_of o (item l c) (suc j) (suc k) i a b p q = ap suc (one_of (o + length l) c j k i (omega arith) (omega arith) p q)

    remainder-ge : (o : ℕ) (c : Cut) (i : ℕ) → Left (remainder_of o c) i → o ≤ i
    unfolding remainder_of
    remainder-ge o done i h = absurd h
    remainder-ge o (stopped n p r) i h = h
    remainder-ge o (item l c) i h = omega (arith, remainder-ge (o + length l) c i h)

    apart : (o : ℕ) (c : Cut) (k i : ℕ) → k < length (rows_of judge o c) → In (row (rows_of judge o c) k) i → Left (remainder_of o c) i → ⊥
    unfolding rows_of remainder_of
    apart o done k i a p q = q
    apart o (stopped n m r) k i a p q = omega arith
    apart o (item l c) zero i a p q = omega (arith, remainder-ge (o + length l) c i q)
    apart o (item l c) (suc k) i a p q = apart (o + length l) c k i (omega arith) p q

    pub partition : (xs : List ℕ) → Partition (length xs) (rows frame judge xs) (remainder frame judge xs)
    unfolding rows remainder
    partition xs = record {
      covered = λ i h. covers xs 0 i (omega arith) (omega arith);
      once = one_of 0 (cut frame xs);
      never_both = apart 0 (cut frame xs);
    }
