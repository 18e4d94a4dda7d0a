-- All units of a stream: the rows that come out are the report's, and what is told at the end is its remainder. Assumes nothing.
use Rattle.std.specs.Prelude.{ℕ, zero, suc, ◌+◌, ◌-◌, ◌*◌, ◌/◌, ◌%◌, ◌≤◌, ◌<◌, ◌≡◌, List, [], ◌∷◌, ◌++◌, Bool, false, ltb, take, drop}
use Rattle.std.proofs.Math.Path.{refl}
use Rattle.std.proofs.Common.{sym, ap, ◌∙◌, subst, append-nil, append_assoc, add-mul, div-add-mod', length-drop, drop-drop}
use Rattle.std.proofs.Math.Bool.{true}
use Rattle.std.proofs.Math.Logic.{⊎_elim}
use native.Mathlib.Omega.{arith}
use Rattle.std.proofs.Math.ListN.{length}
use borrow.Author.Tests.{ltb-false, lt-ltb, le-ltb}
use Rattle.base.specs.Pick.{pick}
use Rattle.base.specs.Cases.{lt-or-ge, whether}
use Rattle.format.specs.declared.Kind.{Kind}
use Rattle.format.specs.declared.Framed.{Framed}
use Rattle.format.specs.declared.Framed.TheVariants.{Item, Unframed}
use Rattle.format.specs.declared.Verdict.{Verdict}
use Rattle.format.specs.Units.{Domain}
use Rattle.format.specs.Framing.{frame_ruled}
use Rattle.format.specs.Judging.{shift, judge_kind, group, max_depth}
use Rattle.format.specs.Report.{ItemRow, RemainderRow, frame_in, placed, rows, remainder, rows_in, remainder_in}
use Rattle.laws.specs.Domains.{Reader}
use Rattle.laws.specs.Levels.{part, part_length, part-drop, part-take, take-of-drop}
use Rattle.laws.specs.Frames.{frames}
use Rattle.damage.proofs.Cuts as C
use Rattle.laws.specs.Items.{rows_at, left_at, first_row, rows-nil, left-nil, rows-refused, left-refused, rows-item, left-item}
use Rattle.walk_claims.specs.Words.{units_in, tail_of}
use Rattle.walk_claims.proofs.Streams.{placed-shift, from, from_on, judged-from, framed-item, framed-refused, framed-end, some_left, tail-left, none_left}
use Rattle.pieces.specs.declared.Phase.TheVariants as P
use Rattle.pieces.specs.declared.Progress.{Progress}
use Rattle.pieces.specs.Feeding.{after, rows_after, number_at, begin}
use Rattle.pieces_inside.specs.Ends.{clear-fits}
use Rattle.pieces_whole.specs.Run.{Fresh, after-add, rows-add}
use Rattle.pieces_whole.specs.Item as I
use Rattle.pieces_whole.specs.Remainder.{unit-part, units-left, Cut, cut_of}

-- ---- an item that ends within the stream

module _ (d : Domain) (R : Reader d) (xs : List ℕ) (a i : ℕ) (fresh : Fresh a i (after begin (d.sextets xs) a)) (lt : a < units_in d xs)
    (k : Kind) (h m : ℕ) (e : frame_ruled (part (d.sextets xs) a (units_in d xs)) ≡ Item k h m) where
  abbrev s : List ℕ
  s = d.sextets xs

  abbrev ahead : List ℕ
  ahead = part s a (units_in d xs)

  sizes : (0 < h) × (h ≤ m) × (m ≤ length ahead / 4)
  sizes = I.ruled-sizes ahead k h m e

  within : a + m ≤ units_in d xs
  within = omega (arith, units-left d R xs a, sizes.2)

  front : (j : ℕ) → a + j ≤ units_in d xs → take (4 * j) ahead ≡ part s a (a + j)
  front j l = let z : 4 * j ≡ j * 4 = omega arith in rw z (part-take s a j (units_in d xs) l)

  comes : (j : ℕ) → j < m → take 4 (drop (4 * j) (drop (4 * a) s)) ≡ take 4 (drop (4 * j) ahead)
  comes j l =
      let z : 4 * a + 4 * j ≡ 4 * (a + j) = omega arith in
      let y : 4 * j + 4 ≡ 4 * (j + 1) = omega arith in
      let x : a + j + 1 ≡ a + (j + 1) = omega arith in
      ap (take 4) (drop-drop (4 * j) (4 * a) s ∙ ap (λ (n : ℕ). drop n s) z) ∙ unit-part s (a + j) ∙ ap (part s (a + j)) x
      ∙ sym (part-drop s a j (a + (j + 1)))
      ∙ sym (take-of-drop 4 (4 * j) ahead ∙ ap (λ (n : ℕ). drop (4 * j) (take n ahead)) y ∙ ap (drop (4 * j)) (front (j + 1) (omega (arith, within))))

  its-row : I.its_row d.unit (after begin s a) a i fresh ahead k h m e (drop (4 * a) s) m comes
      ≡ first_row d (a * d.unit) (from d xs a) (m * d.unit)
  its-row =
      let fits : m * d.unit ≤ length (from d xs a) = (C.frame-item (frame_in d) (frames d R) (from d xs a) (framed-item d R xs a k h m lt e)).2 in
      rw (front m within, placed-shift d.unit a (judge_kind k h (part s a (a + m)) (group max_depth)), ← judged-from d R xs a k h m (omega arith) e fits)

  ended : Fresh (a + m) (i + 1) (after begin s (a + m))
      × (rows_after d.unit begin s (a + m) ≡ rows_after d.unit begin s a ++ (first_row d (a * d.unit) (from d xs a) (m * d.unit) ∷ []))
  ended =
      let o = I.whole_item d.unit (after begin s a) a i fresh ahead k h m e (drop (4 * a) s) m comes (omega arith) in (
        subst (Fresh (a + m) (i + 1)) (sym (after-add begin s a m)) o.0,
        rows-add d.unit begin s a m ∙ ap (λ (l : List ItemRow). rows_after d.unit begin s a ++ l) (o.1 ∙ ap (λ (r : ItemRow). r ∷ []) its-row),
      )

-- ---- the whole stream

-- what is told at the end of a stream of so many elements, u to the unit
unfoldable pub end_rows : ℕ → ℕ → Progress → List RemainderRow
end_rows u size p = pick (ltb (p.start * u) size) (record { offset = p.start * u; number = number_at p.phase p.number } ∷ []) []

module _ (d : Domain) (R : Reader d) (xs : List ℕ) where
  abbrev pub last : Progress
  last = after begin (d.sextets xs) (units_in d xs)

  -- from a unit on
  pub record Told (a i : ℕ) : Type 0 where
    pub rows : rows_after d.unit begin (d.sextets xs) (units_in d xs)
        ≡ rows_after d.unit begin (d.sextets xs) a ++ rows_at d (a * d.unit) (from d xs a)
    pub items : last.items ≡ i + length (rows_at d (a * d.unit) (from d xs a))
    pub remainder : end_rows d.unit (length xs) last ≡ left_at d (a * d.unit) (from d xs a)

  one_left : (start number : ℕ) → last.start ≡ start → number_at last.phase last.number ≡ number → start * d.unit < length xs
      → end_rows d.unit (length xs) last ≡ record { offset = start * d.unit; number = number } ∷ []
  unfolding end_rows
  one_left start number e f l = rw (e, f, lt-ltb (start * d.unit) (length xs) l)

  -- no item follows
  told-stop : (a i number : ℕ) → rows_at d (a * d.unit) (from d xs a) ≡ [] → left_at d (a * d.unit) (from d xs a) ≡ record { offset = a * d.unit; number = number } ∷ []
      → rows_after d.unit begin (d.sextets xs) (units_in d xs) ≡ rows_after d.unit begin (d.sextets xs) a → last.items ≡ i
      → last.start ≡ a → number_at last.phase last.number ≡ number → 0 < length (from d xs a) → Told a i
  told-stop a i number none one rows items start tells some = record {
    rows = rw none (rows ∙ sym (append-nil (rows_after d.unit begin (d.sextets xs) a)));
    items = rw none (items ∙ omega arith);
    remainder = one_left a number start tells (omega (arith, length-drop (a * d.unit) xs)) ∙ sym one;
  }

  framing-tells : (p : Progress) → p.phase ≡ P.Framing → number_at p.phase p.number ≡ 4
  unfolding number_at
  framing-tells p e = rw e

  told-end : (i : ℕ) → Fresh (units_in d xs) i last → Told (units_in d xs) i
  unfolding end_rows
  told-end i f = ⊎_elim tail none (whether (tail_of d xs))
    where
      tail : tail_of d xs ≡ true → Told (units_in d xs) i
      tail e =
          let l : 0 < length (from d xs (units_in d xs)) = tail-left d R xs e in
          told-stop (units_in d xs) i 4 (rows-refused d R _ (from d xs (units_in d xs)) l (framed-end d R xs))
          (left-refused d R _ (from d xs (units_in d xs)) l (framed-end d R xs)) refl f.items f.start (framing-tells last f.phase) l

      none : tail_of d xs ≡ false → Told (units_in d xs) i
      none e =
          let z : from d xs (units_in d xs) ≡ [] = none_left d R xs e in
          let l : length xs ≤ units_in d xs * d.unit =
          omega (arith, ltb-false 0 (length xs % d.unit) e, div-add-mod' (length xs) d.unit) in
          record {
            rows = rw (z, rows-nil d R (units_in d xs * d.unit)) (sym (append-nil (rows_after d.unit begin (d.sextets xs) (units_in d xs))));
            items = rw (z, rows-nil d R (units_in d xs * d.unit)) (f.items ∙ omega arith);
            remainder = rw (z, left-nil d R (units_in d xs * d.unit), f.start, le-ltb (units_in d xs * d.unit) (length xs) l);
          }

  told-refused : (a i : ℕ) → Fresh a i (after begin (d.sextets xs) a) → a < units_in d xs → (m p : ℕ)
      → frame_ruled (part (d.sextets xs) a (units_in d xs)) ≡ Unframed m p → Told a i
  told-refused a i f lt m p e =
      let c : Cut d R xs a i f lt m = cut_of d R xs a i f lt m p e in
      let l : 0 < length (from d xs a) = some_left d R xs a lt in
      let g : frame_in d (from d xs a) ≡ Unframed m p = framed-refused d R xs a m p lt e in
      told-stop a i m (rows-refused d R _ (from d xs a) l g) (left-refused d R _ (from d xs a) l g) c.rows c.items c.start c.tells l

  told-item : (a i : ℕ) (f : Fresh a i (after begin (d.sextets xs) a)) (lt : a < units_in d xs) (k : Kind) (h m : ℕ)
      (e : frame_ruled (part (d.sextets xs) a (units_in d xs)) ≡ Item k h m) → Told (a + m) (i + 1) → Told a i
  told-item a i f lt k h m e t =
      let g : frame_in d (from d xs a) ≡ Item k (h * d.unit) (m * d.unit) = framed-item d R xs a k h m lt e in
      let o = ended d R xs a i f lt k h m e in
      let z : a * d.unit + m * d.unit ≡ (a + m) * d.unit = sym (add-mul a m d.unit) in
      let r : rows_at d (a * d.unit) (from d xs a) ≡ first_row d (a * d.unit) (from d xs a) (m * d.unit) ∷ rows_at d ((a + m) * d.unit) (from d xs (a + m)) =
      rows-item d R (a * d.unit) (from d xs a) g ∙ rw (z, from_on d xs a m) in
      let l : left_at d (a * d.unit) (from d xs a) ≡ left_at d ((a + m) * d.unit) (from d xs (a + m)) =
      left-item d R (a * d.unit) (from d xs a) g ∙ rw (z, from_on d xs a m) in
      record {
        rows = t.rows ∙ rw (o.1, r)
            (append_assoc (rows_after d.unit begin (d.sextets xs) a) (first_row d (a * d.unit) (from d xs a) (m * d.unit) ∷ []) _);
        items = t.items ∙ rw r (omega arith);
        remainder = t.remainder ∙ sym l;
      }

  -- the stream's end, or an item, or what cannot be framed
  told-by : (a i : ℕ) → a ≤ units_in d xs → (f : Fresh a i (after begin (d.sextets xs) a))
      → ((m : ℕ) → 0 < m → a + m ≤ units_in d xs → Fresh (a + m) (i + 1) (after begin (d.sextets xs) (a + m)) → Told (a + m) (i + 1)) → Told a i
  told-by a i in-it f rec = ⊎_elim (λ lt. by lt (frame_ruled (part (d.sextets xs) a (units_in d xs))) refl) (λ ge. at-end (omega arith)) (lt-or-ge a (units_in d xs))
    where
      at-end : a ≡ units_in d xs → Told a i
      at-end z = subst (λ (x : ℕ). Fresh x i (after begin (d.sextets xs) x) → Told x i) (sym z) (told-end i) f

      by : a < units_in d xs → (x : Framed) → frame_ruled (part (d.sextets xs) a (units_in d xs)) ≡ x → Told a i
      by lt (Unframed m p) e = told-refused a i f lt m p e
      by lt (Item k h m) e =
          let b = sizes d R xs a i f lt k h m e in
          told-item a i f lt k h m e (rec m (omega arith) (within d R xs a i f lt k h m e) (ended d R xs a i f lt k h m e).0)

  told-from : (fuel a i : ℕ) → units_in d xs - a ≤ fuel → a ≤ units_in d xs → Fresh a i (after begin (d.sextets xs) a) → Told a i
  told-from zero a i le in-it f = told-by a i in-it f (λ m some l g. absurd (omega arith))
  told-from (suc fuel) a i le in-it f = told-by a i in-it f (λ m some l g. told-from fuel (a + m) (i + 1) (omega arith) l g)

  fresh-begin : Fresh 0 0 (after begin (d.sextets xs) 0)
  unfolding after begin
  fresh-begin = record {
    phase = refl;
    fits = clear-fits 0 0 (omega arith);
    closed = refl;
    position = refl;
    read = refl;
    start = refl;
    items = refl;
  }

  told-all : Told 0 0
  told-all = told-from (units_in d xs) 0 0 (omega arith) (omega arith) fresh-begin

  from_start : from d xs 0 ≡ xs
  from_start = let z : 0 * d.unit ≡ 0 = omega arith in rw z

  -- the rows that come out are the report's
  pub all-rows : rows_after d.unit begin (d.sextets xs) (units_in d xs) ≡ rows_in d xs
  unfolding rows_after rows
  all-rows = let z : 0 * d.unit ≡ 0 = omega arith in told-all.rows ∙ rw (from_start, z)

  pub all-items : last.items ≡ length (rows_in d xs)
  unfolding rows
  all-items = let z : 0 * d.unit ≡ 0 = omega arith in told-all.items ∙ rw (from_start, z) (omega arith)

  -- and what is told at the end is its remainder
  pub all_left : end_rows d.unit (length xs) last ≡ remainder_in d xs
  unfolding remainder
  all_left = let z : 0 * d.unit ≡ 0 = omega arith in told-all.remainder ∙ rw (from_start, z)
