-- A binary stream's items are those of its text, counted back. Assumes nothing.
use Rattle.std.specs.Prelude.{ℕ, zero, suc, ◌+◌, ◌-◌, ◌*◌, ◌/◌, ◌%◌, ◌≤◌, ◌<◌, ◌≡◌, refl, List, [], ◌∷◌, ◌++◌, map, Bool, true, false, ltb, length, take, drop}
use Rattle.std.proofs.Common.{sym, ap, ◌∙◌, subst, ⊎_elim, arith, length-drop, take_at, drop_at, length-take-le, lt-ltb, le-ltb}
use Rattle.base.specs.Pick.{pick}
use Rattle.base.specs.Cases.{lt-or-ge}
use Rattle.format.specs.declared.Kind.{Kind}
use Rattle.format.specs.declared.Framed.{Framed}
use Rattle.format.specs.declared.Framed.TheVariants.{Item, Unframed}
use Rattle.format.specs.declared.Verdict.{Verdict}
use Rattle.format.specs.declared.Verdict.TheVariants.{Accepted, Refused}
use Rattle.format.specs.Units.{text, binary, text_sextets, binary_sextets}
use Rattle.format.specs.Conversion.{to_text}
use Rattle.format.specs.Framing.{frame, frame_with, ruled, frame_ruled, scale}
use Rattle.format.specs.Judging.{shift, judge, max_depth}
use Rattle.format.specs.Report.{ItemRow, RemainderRow, rows, remainder, rows_in, remainder_in, frame_in, judge_in, placed}
use Rattle.laws.specs.Conversion.{length-to-text, binary-to-text-sextets, text-joins}
use Rattle.laws.specs.Domains.{text-reader, binary-reader}
use Rattle.laws.specs.Framing.{unscale, unscale-unframed}
use Rattle.laws.specs.Frames.{frames}
use Rattle.laws.specs.Items.{rows_at, left_at, first_row, by-items, rows-nil, left-nil, rows-refused, left-refused, rows-item, left-item}
use Rattle.second_claims.specs.Second.{in_bytes, verdict_back, row_back, left_back, left_over, rows_by_text, remainder_by_text}

-- ---- framing the text

frame-unframed : (b : List ℕ) (n p : ℕ) → frame_in binary b ≡ Unframed n p → frame_in text (to_text b) ≡ Unframed n p
unfolding frame_in scale
frame-unframed b n p e =
    rw (binary-to-text-sextets b, unscale-unframed 3 (frame_ruled (binary_sextets b)) n p e)

scaled : (b : List ℕ) (k : Kind) (h n : ℕ) → frame_ruled (binary_sextets b) ≡ Item k h n → frame_in text (to_text b) ≡ Item k (h * 4) (n * 4)
unfolding frame_in scale
scaled b k h n e = rw (binary-to-text-sextets b, e)

-- ---- verdicts counted back

back : (o : ℕ) (v : Verdict) → shift (o * 3) (placed 3 v) ≡ verdict_back (shift (o * 4) (placed 4 v))
unfolding shift placed verdict_back
back o Accepted = refl
back o (Refused n p) =
    let a : (o * 4 + (p / 4 * 4 + p % 4)) / 4 ≡ o + p / 4 = omega arith in
    let b : (o * 4 + (p / 4 * 4 + p % 4)) % 4 ≡ p % 4 = omega arith in
    rw (a, b) (ap (Refused n) (omega arith))

judged-back : (o : ℕ) (b t : List ℕ) → binary_sextets b ≡ text_sextets t → shift (o * 3) (judge_in binary b) ≡ verdict_back (shift (o * 4) (judge_in text t))
unfolding judge_in
judged-back o b t e = rw e (back o (judge max_depth (text_sextets t)))

-- a whole front converts by itself
text-take : (b : List ℕ) (k : ℕ) → k * 3 ≤ length b → take (k * 4) (to_text b) ≡ to_text (take (k * 3) b)
text-take b k h =
    ap (take (k * 4)) (text-joins b k h)
    ∙ take_at (to_text (take (k * 3) b)) (to_text (drop (k * 3) b)) (k * 4)
    (length-to-text (take (k * 3) b) ∙ omega (arith, length-take-le (k * 3) b h))

text-drop : (b : List ℕ) (k : ℕ) → k * 3 ≤ length b → drop (k * 4) (to_text b) ≡ to_text (drop (k * 3) b)
text-drop b k h =
    ap (drop (k * 4)) (text-joins b k h)
    ∙ drop_at (to_text (take (k * 3) b)) (to_text (drop (k * 3) b)) (k * 4)
    (length-to-text (take (k * 3) b) ∙ omega (arith, length-take-le (k * 3) b h))

-- ---- rows and remainder of what stands o units on

tail_at : ℕ → List ℕ → List RemainderRow → List RemainderRow
tail_at o b [] = pick (ltb 0 (length b % 3)) (record { offset = o * 3 + length b / 3 * 3; number = 4 } ∷ []) []
tail_at o b (r ∷ rs) = r ∷ rs

record Same (b : List ℕ) (o : ℕ) : Type 0 where
  rows : rows_at binary (o * 3) b ≡ map row_back (rows_at text (o * 4) (to_text b))
  left : left_at binary (o * 3) b ≡ tail_at o b (map left_back (left_at text (o * 4) (to_text b)))

no_text : (b : List ℕ) → length b < 3 → to_text b ≡ []
no_text b h = none (to_text b) (length-to-text b ∙ omega arith)
  where
    none : (s : List ℕ) → length s ≡ 0 → s ≡ []
    none [] e = refl
    none (x ∷ s) e = absurd (omega arith)

text-some : (b : List ℕ) → 3 ≤ length b → 0 < length (to_text b)
text-some b h = omega (arith, length-to-text b)

four : (o : ℕ) → in_bytes (o * 4) ≡ o * 3
four o = omega arith

same-nil : (o : ℕ) → Same [] o
unfolding tail_at
same-nil o =
    let e : to_text [] ≡ [] = no_text [] (omega arith) in
    record {
      rows = rw (rows-nil binary binary-reader (o * 3), e, rows-nil text text-reader (o * 4));
      left = rw (left-nil binary binary-reader (o * 3), e, left-nil text text-reader (o * 4));
    }

-- fewer bytes than a unit: 4
short-four : (b : List ℕ) (n p : ℕ) → length b < 3 → frame_in binary b ≡ Unframed n p → n ≡ 4
unfolding frame_in frame_ruled frame frame_with ruled scale
short-four b n p h e =
    let l : length (binary_sextets b) / 4 ≡ 0 = binary-reader.units b ∙ omega arith in
    let f = rw l at e in
    cc

same-refused : (b : List ℕ) (n p : ℕ) → frame_in binary b ≡ Unframed n p → 0 < length b → (o : ℕ) → Same b o
unfolding tail_at
same-refused b n p f pos o =
    ⊎_elim
    (λ lt. let e = no_text b lt in
    let q : n ≡ 4 = short-four b n p lt f in
    let z : o * 3 + length b / 3 * 3 ≡ o * 3 = omega arith in
    record {
      rows = rw (rows-refused binary binary-reader (o * 3) b pos f, e, rows-nil text text-reader (o * 4));
      left = rw (
        left-refused binary binary-reader (o * 3) b pos f,
        e,
        left-nil text text-reader (o * 4),
        lt-ltb 0 (length b % 3) (omega arith),
        q,
        z,
      );
    })
    (λ ge. let g = frame-unframed b n p f in
    let s = text-some b ge in
    record {
      rows = rw (rows-refused binary binary-reader (o * 3) b pos f, rows-refused text text-reader (o * 4) (to_text b) s g);
      left = rw (left-refused binary binary-reader (o * 3) b pos f, left-refused text text-reader (o * 4) (to_text b) s g, four o);
    })
    (lt-or-ge (length b) 3)

tail-on : (o k : ℕ) (b : List ℕ) (rs : List RemainderRow) → k * 3 ≤ length b → tail_at (o + k) (drop (k * 3) b) rs ≡ tail_at o b rs
unfolding tail_at
tail-on o k b (r ∷ rs) h = refl
tail-on o k b [] h =
    let l : length (drop (k * 3) b) ≡ length b - k * 3 = length-drop (k * 3) b in
    let m : length (drop (k * 3) b) % 3 ≡ length b % 3 = omega arith in
    let z : (o + k) * 3 + length (drop (k * 3) b) / 3 * 3 ≡ o * 3 + length b / 3 * 3 = omega arith in
    rw (m, z)

same_item : (b : List ℕ) (k : Kind) (h n : ℕ) → frame_in binary b ≡ Item k h n → ((o : ℕ) → Same (drop n b) o) → (o : ℕ) → Same b o
unfolding frame_in
same_item b k h n f ih o = by (unscale 3 (frame_ruled (binary_sextets b)) f).0 (unscale 3 (frame_ruled (binary_sextets b)) f).1
    (unscale 3 (frame_ruled (binary_sextets b)) f).2 (unscale 3 (frame_ruled (binary_sextets b)) f).4
  where
    by : (h' m : ℕ) → frame_ruled (binary_sextets b) ≡ Item k h' m → n ≡ m * 3 → Same b o
    by h' m e z =
        let w = (frames binary binary-reader).within b k h n f in
        let inside : m * 3 ≤ length b = omega arith in
        let g : frame_in text (to_text b) ≡ Item k (h' * 4) (m * 4) = scaled b k h' m e in
        let f' : frame_in binary b ≡ Item k h (m * 3) = rw z at f in
        let r : Same (drop (m * 3) b) (o + m) = rw z at (ih (o + m)) in
        let a3 : o * 3 + m * 3 ≡ (o + m) * 3 = omega arith in
        let a4 : o * 4 + m * 4 ≡ (o + m) * 4 = omega arith in
        let v : shift (o * 3) (judge_in binary (take (m * 3) b)) ≡ verdict_back (shift (o * 4) (judge_in text (take (m * 4) (to_text b)))) =
        judged-back o (take (m * 3) b) (take (m * 4) (to_text b))
        (sym (binary-to-text-sextets (take (m * 3) b)) ∙ ap text_sextets (sym (text-take b m inside))) in
        record {
          rows = rw (
            rows-item binary binary-reader (o * 3) b f',
            rows-item text text-reader (o * 4) (to_text b) g,
            a3,
            a4,
            r.rows,
            text-drop b m inside,
            v,
            four o,
            four m,
          );
          left = rw (
            left-item binary binary-reader (o * 3) b f',
            left-item text text-reader (o * 4) (to_text b) g,
            a3,
            a4,
            r.left,
            text-drop b m inside,
          ) (tail-on o m b _ inside);
        }

same : (b : List ℕ) (o : ℕ) → Same b o
same = by-items binary binary-reader (λ b. (o : ℕ) → Same b o) same-nil same-refused same_item

pub rows-by-text : (b : List ℕ) → rows_in binary b ≡ rows_by_text b
unfolding rows rows_by_text
rows-by-text b = (same b 0).rows

tail-zero : (b : List ℕ) (rs : List RemainderRow) → tail_at 0 b rs ≡ left_over b rs
unfolding tail_at left_over
tail-zero b [] = let z : 0 * 3 + length b / 3 * 3 ≡ length b / 3 * 3 = omega arith in rw z
tail-zero b (r ∷ rs) = refl

pub remainder-by-text : (b : List ℕ) → remainder_in binary b ≡ remainder_by_text b
unfolding remainder remainder_by_text
remainder-by-text b = (same b 0).left ∙ tail-zero b (map left_back (left_at text 0 (to_text b)))
