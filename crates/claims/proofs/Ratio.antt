-- A text and a binary with the same sextets have the same report. Assumes nothing.
use Rattle.std.specs.Prelude.{ℕ, suc, ◌+◌, ◌*◌, ◌/◌, ◌%◌, ◌≤◌, ◌<◌, ◌≡◌, refl, List, [], ◌∷◌, ◌++◌, length, take, drop}
use Rattle.std.proofs.Common.{sym, ap, ◌∙◌, subst, arith, length-drop}
use Rattle.base.specs.Digits.{Below, below-take, below-drop}
use Rattle.format.specs.declared.Kind.{Kind}
use Rattle.format.specs.declared.Framed.TheVariants.{Item, Unframed}
use Rattle.format.specs.declared.Verdict.{Verdict}
use Rattle.format.specs.declared.Verdict.TheVariants.{Accepted, Refused}
use Rattle.format.specs.Units.{text, binary, text_sextets, binary_sextets}
use Rattle.format.specs.Framing.{frame_ruled, scale}
use Rattle.format.specs.Judging.{shift, judge, max_depth}
use Rattle.format.specs.Report.{ItemRow, RefusalRow, refusal, refusals_of, rows, refusals, remainder, rows_in, frame_in, judge_in, placed}
use Rattle.laws.specs.Domains.{text-reader, binary-reader}
use Rattle.laws.specs.Framing.{unscale, unscale-unframed}
use Rattle.laws.specs.Frames.{frames}
use Rattle.laws.specs.Items.{rows_at, left_at, by-items, rows-nil, left-nil, rows-refused, left-refused, rows-item, left-item}
use Rattle.claims.specs.Words.{VerdictRatio, ItemRatio, RefusalRatio, RemainderRatio, Pairwise, SameReport}
use Rattle.claims.proofs.Aligned.{Aligned, judged-aligned}

-- a text and a binary with the same sextets, both of whole units in the alphabet
pub record Same (t b : List ℕ) : Type 0 where
  pub sextets : text_sextets t ≡ binary_sextets b
  pub quadlets : length t % 4 ≡ 0
  pub triplets : length b % 3 ≡ 0
  pub alphabet : Below 64 (text_sextets t)

pub same_units : (t b : List ℕ) → Same t b → length t / 4 ≡ length b / 3
same_units t b s = sym (text-reader.units t) ∙ ap (λ (l : List ℕ). length l / 4) s.sextets ∙ binary-reader.units b

same_drop : (t b : List ℕ) (n : ℕ) → n ≤ length t / 4 → Same t b → Same (drop (n * 4) t) (drop (n * 3) b)
same_drop t b n l s =
    let u : length t / 4 ≡ length b / 3 = same_units t b s in
    let a : n * 4 ≤ length t = omega arith in
    let c : n * 3 ≤ length b = omega arith in
    record {
      sextets = text-reader.dropped t n a ∙ ap (drop (n * 4)) s.sextets ∙ sym (binary-reader.dropped b n c);
      quadlets = let q = s.quadlets in omega (arith, length-drop (n * 4) t);
      triplets = let q = s.triplets in omega (arith, length-drop (n * 3) b);
      alphabet = rw (text-reader.dropped t n a) (below-drop 64 (n * 4) (text_sextets t) s.alphabet);
    }

-- ---- one item

placed-ratio : (o : ℕ) (v : Verdict) → Aligned v → VerdictRatio (shift (o * 4) (placed 4 v)) (shift (o * 3) (placed 3 v))
unfolding shift placed
placed-ratio o Accepted h = tt
placed-ratio o (Refused n p) h = (refl, omega arith)

same-verdict : (t b : List ℕ) (o n : ℕ) → n ≤ length t / 4 → Same t b
    → VerdictRatio (shift (o * 4) (judge_in text (take (n * 4) t))) (shift (o * 3) (judge_in binary (take (n * 3) b)))
unfolding judge_in
same-verdict t b o n l s =
    let u : length t / 4 ≡ length b / 3 = same_units t b s in
    let own : List ℕ = take (n * 4) (text_sextets t) in
    let a : text_sextets (take (n * 4) t) ≡ own = text-reader.taken t n (omega arith) in
    let c : binary_sextets (take (n * 3) b) ≡ own = binary-reader.taken b n (omega arith) ∙ ap (take (n * 4)) (sym s.sextets) in
    rw (a, c) (placed-ratio o (judge max_depth own) (judged-aligned max_depth own (below-take 64 (n * 4) (text_sextets t) s.alphabet)))

refused-too : (t b : List ℕ) (n p : ℕ) → frame_in text t ≡ Unframed n p → Same t b → frame_in binary b ≡ Unframed n p
unfolding frame_in scale
refused-too t b n p f s =
    ap (λ (l : List ℕ). scale 3 (frame_ruled l)) (sym s.sextets) ∙ ap (scale 3) (unscale-unframed 4 (frame_ruled (text_sextets t)) n p f)

framed-too : (t b : List ℕ) (k : Kind) (h n : ℕ) → frame_in text t ≡ Item k h n → Same t b
    → (h' : ℕ) × (n' : ℕ) × (n ≡ n' * 4) × (frame_in binary b ≡ Item k (h' * 3) (n' * 3))
unfolding frame_in scale
framed-too t b k h n f s =
    let q = unscale 4 (frame_ruled (text_sextets t)) f in
    (q.0, q.1, q.4, ap (λ (l : List ℕ). scale 3 (frame_ruled l)) (sym s.sextets) ∙ ap (scale 3) q.2)

-- ---- all items, from the unit o on

abbrev At : List ℕ → List ℕ → ℕ → Type 0
At t b o =
    Pairwise ItemRatio (rows_at text (o * 4) t) (rows_at binary (o * 3) b)
    × Pairwise RemainderRatio (left_at text (o * 4) t) (left_at binary (o * 3) b)

abbrev Both : List ℕ → Type 0
Both t = (b : List ℕ) (o : ℕ) → Same t b → At t b o

empty : (b : List ℕ) → length b ≡ 0 → b ≡ []
empty [] h = refl
empty (x ∷ b) h = absurd (omega arith)

both-nil : Both []
both-nil b o s =
    let e : b ≡ [] = empty b (let q = s.triplets in omega (arith, same_units [] b s)) in
    rw (
      e,
      rows-nil text text-reader (o * 4),
      rows-nil binary binary-reader (o * 3),
      left-nil text text-reader (o * 4),
      left-nil binary binary-reader (o * 3),
    )
    (tt, tt)

both-refused : (t : List ℕ) (n p : ℕ) → frame_in text t ≡ Unframed n p → 0 < length t → Both t
both-refused t n p f pos b o s =
    let g : frame_in binary b ≡ Unframed n p = refused-too t b n p f s in
    let l : 0 < length b = let q = s.quadlets in omega (arith, same_units t b s) in
    rw (
      rows-refused text text-reader (o * 4) t pos f,
      rows-refused binary binary-reader (o * 3) b l g,
      left-refused text text-reader (o * 4) t pos f,
      left-refused binary binary-reader (o * 3) b l g,
    )
    (tt, ((omega arith, refl), tt))

step : (t b : List ℕ) (k : Kind) (h h' n o : ℕ) → frame_in text t ≡ Item k h (n * 4) → frame_in binary b ≡ Item k (h' * 3) (n * 3)
    → Both (drop (n * 4) t) → Same t b → At t b o
step t b k h h' n o f g ih s =
    let l : n * 4 ≤ length t = ((frames text text-reader).within t k h (n * 4) f).2 in
    let r = ih (drop (n * 3) b) (o + n) (same_drop t b n (omega arith) s) in
    let e4 : (o + n) * 4 ≡ o * 4 + n * 4 = omega arith in
    let e3 : (o + n) * 3 ≡ o * 3 + n * 3 = omega arith in
    rw (
      rows-item text text-reader (o * 4) t f,
      rows-item binary binary-reader (o * 3) b g,
      left-item text text-reader (o * 4) t f,
      left-item binary binary-reader (o * 3) b g,
    )
    (((omega arith, omega arith, same-verdict t b o n (omega arith) s), rw (e4, e3) at r.0), rw (e4, e3) at r.1)

both-item : (t : List ℕ) (k : Kind) (h n : ℕ) → frame_in text t ≡ Item k h n → Both (drop n t) → Both t
both-item t k h n f ih b o s =
    let q = framed-too t b k h n f s in
    step t b k h q.0 q.1 o (f ∙ ap (Item k h) q.2) q.3 (subst (λ (m : ℕ). Both (drop m t)) q.2 ih) s

both : (t : List ℕ) → Both t
both = by-items text text-reader Both both-nil both-refused both-item

-- ---- refusal rows

one-ratio : (k : ℕ) (v w : Verdict) (rs ss : List RefusalRow) → VerdictRatio v w → Pairwise RefusalRatio rs ss
    → Pairwise RefusalRatio (refusal k v ++ rs) (refusal k w ++ ss)
unfolding refusal
one-ratio k Accepted Accepted rs ss h p = p
one-ratio k Accepted (Refused m q) rs ss h p = absurd h
one-ratio k (Refused n x) Accepted rs ss h p = absurd h
one-ratio k (Refused n x) (Refused m q) rs ss h p = ((refl, h.0, h.1), p)

refusals-ratio : (k : ℕ) (rs ss : List ItemRow) → Pairwise ItemRatio rs ss → Pairwise RefusalRatio (refusals_of k rs) (refusals_of k ss)
unfolding refusals_of
refusals-ratio k [] [] p = tt
refusals-ratio k [] (s ∷ ss) p = absurd p
refusals-ratio k (r ∷ rs) [] p = absurd p
refusals-ratio k (r ∷ rs) (s ∷ ss) p =
    one-ratio k r.verdict s.verdict (refusals_of (suc k) rs) (refusals_of (suc k) ss) p.0.2 (refusals-ratio (suc k) rs ss p.1)

pub same-report : (t b : List ℕ) → Same t b → SameReport t b
unfolding rows refusals remainder
same-report t b s =
    let r = both t b 0 s in
    record { items = r.0; refused = refusals-ratio 0 (rows_in text t) (rows_in binary b) r.0; left = r.1 }
