-- The report of a masked text, row by row and byte by byte. Assumes nothing.
use Rattle.std.specs.Prelude.{ℕ, suc, ◌+◌, ◌*◌, ◌≡◌, refl, List, [], ◌∷◌, ◌++◌, map, length}
use Rattle.std.proofs.Common.{ap, ◌∙◌, arith, length-append}
use Rattle.std.proofs.lemmas.List.{length-map}
use Rattle.base.specs.Lists.{map-join}
use Rattle.format.specs.declared.Framed.{Framed}
use Rattle.format.specs.declared.Verdict.{Verdict}
use Rattle.format.specs.declared.Verdict.TheVariants.{Accepted, Refused}
use Rattle.format.specs.Units.{Domain, text}
use Rattle.format.specs.Framing.{frame_ruled}
use Rattle.format.specs.Cutting.{Cut, cut}
use Rattle.format.specs.Cutting.Cut.{done, stopped, item}
use Rattle.format.specs.Judging.{shift, judge, max_depth}
use Rattle.format.specs.Report.{ItemRow, RefusalRow, RemainderRow, rows_of, remainder_of, refusal, refusals_of, rows, refusals, remainder}
use Rattle.format.specs.Report.{placed, frame_in, judge_in, rows_in, refusals_in, remainder_in, be4, row_bytes, refusal_bytes, remainder_bytes}
use Rattle.format.specs.Report.{concat, section, report, report_answer}
use Rattle.ordinary.specs.Words.{mask, masked, as_five, verdict_five, framed_five, row_five, refusal_five, remainder_five, report_five}
use Rattle.ordinary.proofs.Marks.{plain, sextets-masked}
use Rattle.ordinary.proofs.Framed.{frame_ruled-five, scale-five}
use Rattle.ordinary.proofs.Judged.{shift-five, judge-five, cut_five, cut-five}

placed-five : (u : ℕ) (v : Verdict) → placed u (verdict_five v) ≡ verdict_five (placed u v)
unfolding placed verdict_five
placed-five u Accepted = refl
placed-five u (Refused n p) = refl

pub framed-masked : (s : List ℕ) → frame_in text (masked s) ≡ framed_five (frame_in text s)
unfolding frame_in
framed-masked s = rw (sextets-masked s, frame_ruled-five (text.sextets s)) (scale-five 4 (frame_ruled (text.sextets s)))

pub judged-masked : (s : List ℕ) → judge_in text (masked s) ≡ verdict_five (judge_in text s)
unfolding judge_in
judged-masked s = rw (sextets-masked s, judge-five max_depth (text.sextets s)) (placed-five 4 (judge max_depth (text.sextets s)))

-- ---- three lists

rows-five : (o : ℕ) (c : Cut) → rows_of (judge_in text) o (cut_five mask c) ≡ map row_five (rows_of (judge_in text) o c)
unfolding rows_of cut_five row_five
rows-five o done = refl
rows-five o (stopped n p r) = refl
rows-five o (item i c) =
    rw (length-map i mask, judged-masked i, shift-five o (judge_in text i), rows-five (o + length i) c)

remainder-five : (o : ℕ) (c : Cut) → remainder_of o (cut_five mask c) ≡ map remainder_five (remainder_of o c)
unfolding remainder_of cut_five remainder_five
remainder-five o done = refl
remainder-five o (stopped n p r) = refl
remainder-five o (item i c) = ap (λ (m : ℕ). remainder_of (o + m) (cut_five mask c)) (length-map i mask) ∙ remainder-five (o + length i) c

refusal-five : (k : ℕ) (v : Verdict) → refusal k (verdict_five v) ≡ map refusal_five (refusal k v)
unfolding refusal verdict_five refusal_five
refusal-five k Accepted = refl
refusal-five k (Refused n p) = refl

map-append {ℓ κ} : {A : Type ℓ} {B : Type κ} (f : A → B) (s t : List A) → map f (s ++ t) ≡ map f s ++ map f t
map-append f [] t = refl
map-append f (x ∷ s) t = rw (map-append f s t)

refusals-five : (k : ℕ) (rs : List ItemRow) → refusals_of k (map row_five rs) ≡ map refusal_five (refusals_of k rs)
unfolding refusals_of row_five
refusals-five k [] = refl
refusals-five k (r ∷ rs) =
    rw (refusal-five k r.verdict, refusals-five (suc k) rs, map-append refusal_five (refusal k r.verdict) (refusals_of (suc k) rs))

pub items : (s : List ℕ) → rows_in text (masked s) ≡ map row_five (rows_in text s)
unfolding rows
items s = rw (cut-five mask (frame_in text) framed-masked s) (rows-five 0 (cut (frame_in text) s))

pub refused : (s : List ℕ) → refusals_in text (masked s) ≡ map refusal_five (refusals_in text s)
unfolding refusals
refused s = rw (items s) (refusals-five 0 (rows_in text s))

pub left : (s : List ℕ) → remainder_in text (masked s) ≡ map remainder_five (remainder_in text s)
unfolding remainder
left s = rw (cut-five mask (frame_in text) framed-masked s) (remainder-five 0 (cut (frame_in text) s))

-- ---- bytes

concat-map {ℓ} : {A : Type ℓ} (f : A → List ℕ) (g : A → A) (l : List A) → concat f (map g l) ≡ concat (λ a. f (g a)) l
unfolding concat
concat-map f g [] = refl
concat-map f g (a ∷ l) = rw (concat-map f g l)

section-map {ℓ} : {A : Type ℓ} (f : A → List ℕ) (g : A → A) (l : List A) → section f (map g l) ≡ section (λ a. f (g a)) l
unfolding section
section-map f g l = rw (length-map l g, concat-map f g l)

pub report-bytes : (s : List ℕ) → report text (masked s) ≡ report_five s
unfolding report report_five
report-bytes s =
    rw (
      items s,
      refused s,
      left s,
      section-map row_bytes row_five (rows_in text s),
      section-map refusal_bytes refusal_five (refusals_in text s),
      section-map remainder_bytes remainder_five (remainder_in text s),
    )

-- ---- as long as before

-- rows of the same length
concat-length {ℓ} : {A : Type ℓ} (f g : A → List ℕ) → ((a : A) → length (f a) ≡ length (g a)) → (l : List A)
    → length (concat f l) ≡ length (concat g l)
unfolding concat
concat-length f g e [] = refl
concat-length f g e (a ∷ l) =
    length-append (f a) (concat f l) ∙ rw (e a, concat-length f g e l, length-append (g a) (concat g l)) refl

section-length {ℓ} : {A : Type ℓ} (f g : A → List ℕ) → ((a : A) → length (f a) ≡ length (g a)) → (l : List A)
    → length (section f l) ≡ length (section g l)
unfolding section
section-length f g e l =
    length-append (be4 (length l)) (concat f l)
    ∙ rw (concat-length f g e l, length-append (be4 (length l)) (concat g l)) refl

three-length : (a b c a' b' c' : List ℕ) → length a ≡ length a' → length b ≡ length b' → length c ≡ length c'
    → length (a ++ (b ++ c)) ≡ length (a' ++ (b' ++ c'))
three-length a b c a' b' c' e f g =
    omega (arith, length-append a (b ++ c), length-append b c, length-append a' (b' ++ c'), length-append b' c')

report-length : (s : List ℕ) → length (report text (masked s)) ≡ length (report text s)
unfolding report report_five row_bytes row_five refusal_bytes refusal_five remainder_bytes remainder_five be4
report-length s =
    ap length (report-bytes s)
    ∙ three-length
    (section (λ r. row_bytes (row_five r)) (rows_in text s))
    (section (λ r. refusal_bytes (refusal_five r)) (refusals_in text s))
    (section (λ r. remainder_bytes (remainder_five r)) (remainder_in text s))
    (section row_bytes (rows_in text s)) (section refusal_bytes (refusals_in text s)) (section remainder_bytes (remainder_in text s))
    (section-length (λ r. row_bytes (row_five r)) row_bytes (λ r. refl) (rows_in text s))
    (section-length (λ r. refusal_bytes (refusal_five r)) refusal_bytes (λ r. refl) (refusals_in text s))
    (section-length (λ r. remainder_bytes (remainder_five r)) remainder_bytes (λ r. refl) (remainder_in text s))

pub reports : (s : List ℕ) (room : ℕ) → report_answer text (masked s) room ≡ report_answer text s room
unfolding report_answer
reports s room = rw (length-map s mask, report-length s, items s, length-map (rows_in text s) row_five)
