-- A CESR item of a mixed stream: 01's report of its own bytes, and four to three. Assumes nothing.
use Rattle.std.specs.Prelude.{ℕ, ◌*◌, ◌/◌, ◌%◌, ◌≤◌, ◌≡◌, refl, List, [], Bool, true, eqb, leb, length, get_or}
use Rattle.std.proofs.Common.{sym, ap, ◌∙◌, arith, eqb-true, ne_eqb, le-leb, leb-true}
use Rattle.base.specs.Pick.{pick-by}
use Rattle.base.specs.Digits.{Below, below_at}
use Rattle.format.specs.declared.Form.{Form}
use Rattle.format.specs.declared.Form.TheVariants.{Text, Binary}
use Rattle.format.specs.declared.Kind.{Kind}
use Rattle.format.specs.declared.Framed.TheVariants.{Item}
use Rattle.format.specs.Alphabet.{sextet_of, char_of, within}
use Rattle.format.specs.Units.{domain, text, binary, text_sextets, binary_sextets}
use Rattle.format.specs.Conversion.{to_binary, to_text}
use Rattle.format.specs.Framing.{frame_ruled, scale}
use Rattle.format.specs.Report.{rows_in, refusals_in, remainder_in, refusals, refusals_of, frame_in, judge_in}
use Rattle.laws.specs.Alphabet.{char-sextet}
use Rattle.laws.specs.Conversion.{length-to-binary, length-to-text, text-to-binary-sextets, binary-to-text-sextets}
use Rattle.laws.specs.Local.{text-sextet, binary-sextet}
use Rattle.laws.specs.Domains.{reader}
use Rattle.laws.specs.Framing.{unscale}
use Rattle.laws.specs.Frames.{frames}
use Rattle.claims.specs.Words.{WholeText, WholeBinary, SameReport}
use Rattle.claims.proofs.Demand2.{demand2}
use Rattle.mixed.specs.declared.Start.{Start}
use Rattle.mixed.specs.declared.Start.TheVariants.{Cesr, Json, Other}
use Rattle.mixed.specs.Mixed.{start_of, start_at, frame_mixed, judge_mixed, rows_mixed, refusals_mixed, remainder_mixed}
use Rattle.mixed_laws.specs.Frames.{frames-mixed, cesr-frame, cesr-judge}
use Rattle.mixed_claims.specs.Words.{SameItem}
use Rattle.mixed_claims.proofs.Demand3.{single}

-- ---- forms and first bytes

within-bounds : (low high b : ℕ) → within low high b ≡ true → (low ≤ b) × (b ≤ high)
within-bounds low high b =
    pick-by (λ (t : Bool). t ≡ true → (low ≤ b) × (b ≤ high)) (leb low b) _ _ (λ l e. (leb-true low b l, leb-true b high e))
    (λ _ e. let z : ◌≡◌ {A = ℕ} 0 1 = cc in absurd (omega arith))

-- what a first byte is, by what it starts
abbrev Byte : ℕ → Start → Type 0
Byte b (Cesr Text) = b ≡ 45
Byte b (Cesr Binary) = (248 ≤ b) × (b ≤ 251)
Byte b Json = b ≡ 123
Byte b Other = Unit {0}

pub first_byte : (b : ℕ) → Byte b (start_of b)
unfolding start_of
first_byte b =
    pick-by (Byte b) (eqb b 45) _ _ (λ t. eqb-true b 45 t)
    (λ _. pick-by (Byte b) (within 248 251 b) _ _ (λ t. within-bounds 248 251 b t)
    (λ _. pick-by (Byte b) (eqb b 123) _ _ (λ t. eqb-true b 123 t) (λ _. tt)))

pub byte-as : (b : ℕ) (t : Start) → start_of b ≡ t → Byte b t
byte-as b t e = rw (← e) (first_byte b)

pub starts-text : (b : ℕ) → b ≡ 45 → start_of b ≡ Cesr Text
unfolding start_of
starts-text b e = rw e

pub starts-binary : (b : ℕ) → 248 ≤ b → b ≤ 251 → start_of b ≡ Cesr Binary
unfolding start_of
starts-binary b l h = rw (ne_eqb b 45 (λ e. omega arith), le-leb 248 b l, le-leb b 251 h)

pub starts-json : start_of 123 ≡ Json
unfolding start_of
starts-json = refl

-- ---- the first byte of the other form

first-sextet : (b : List ℕ) → 3 ≤ length b → Below 256 b → get_or (binary_sextets b) 0 0 ≡ get_or b 0 0 / 4
first-sextet b l low =
    let x = below_at 256 b low 0 (omega arith) in
    let y = below_at 256 b low 1 (omega arith) in
    let z = below_at 256 b low 2 (omega arith) in
    binary-sextet b 0 0 (omega arith) (omega arith) ∙ omega arith

to-binary-start : (t : List ℕ) → WholeText t → WholeBinary (to_binary t) → 4 ≤ length t → start_at t 0 ≡ Cesr Text → start_at (to_binary t) 0 ≡ Cesr Binary
unfolding sextet_of
to-binary-start t w v l e =
    let c : get_or t 0 0 ≡ 45 = byte-as (get_or t 0 0) (Cesr Text) e in
    let s : get_or (binary_sextets (to_binary t)) 0 0 ≡ 62 =
    ap (λ (q : List ℕ). get_or q 0 0) (sym (text-to-binary-sextets t w.quadlets w.alphabet)) ∙ text-sextet t 0 (omega arith) ∙ ap sextet_of c in
    let f : get_or (binary_sextets (to_binary t)) 0 0 ≡ get_or (to_binary t) 0 0 / 4 =
    first-sextet (to_binary t) (omega (arith, length-to-binary t)) v.bytes in
    starts-binary (get_or (to_binary t) 0 0) (omega arith) (omega arith)

to-text-start : (b : List ℕ) → WholeBinary b → 3 ≤ length b → start_at b 0 ≡ Cesr Binary → start_at (to_text b) 0 ≡ Cesr Text
unfolding char_of
to-text-start b w l e =
    let r = byte-as (get_or b 0 0) (Cesr Binary) e in
    let s : sextet_of (get_or (to_text b) 0 0) ≡ 62 =
    sym (text-sextet (to_text b) 0 (omega (arith, length-to-text b)))
    ∙ ap (λ (q : List ℕ). get_or q 0 0) (binary-to-text-sextets b) ∙ first-sextet b l w.bytes ∙ omega (arith, r.0, r.1) in
    starts-text (get_or (to_text b) 0 0) (sym (char-sextet (get_or (to_text b) 0 0) (omega arith)) ∙ ap char_of s)

-- ---- 01's report of one item

pub same-alone : (f : Form) (xs : List ℕ) → start_at xs 0 ≡ Cesr f → {k : Kind} {h : ℕ} → frame_in (domain f) xs ≡ Item k h (length xs)
    → (rows_mixed xs ≡ rows_in (domain f) xs) × (remainder_in (domain f) xs ≡ []) × (remainder_mixed xs ≡ []) × (length (rows_mixed xs) ≡ 1)
same-alone f xs e i =
    let m = single frame_mixed judge_mixed frames-mixed xs (cesr-frame xs f e ∙ i) in
    let o = single (frame_in (domain f)) (judge_in (domain f)) (frames (domain f) (reader f)) xs i in
    (m.0 ∙ rw (cesr-judge xs f e) (sym o.0), o.1, m.1, ap length m.0)

same-refusals : (f : Form) (xs : List ℕ) → rows_mixed xs ≡ rows_in (domain f) xs → refusals_mixed xs ≡ refusals_in (domain f) xs
unfolding refusals
same-refusals f xs e = ap (refusals_of 0) e

-- ---- four to three

both-forms : (t b : List ℕ) → SameReport t b → start_at t 0 ≡ Cesr Text → start_at b 0 ≡ Cesr Binary
    → {k : Kind} {h : ℕ} → frame_in text t ≡ Item k h (length t) → {k' : Kind} {h' : ℕ} → frame_in binary b ≡ Item k' h' (length b)
    → SameItem t b
both-forms t b s et eb ft fb =
    let x = same-alone Text t et ft in
    let y = same-alone Binary b eb fb in
    record {
      items = rw (x.0, y.0) s.items;
      refused = rw (same-refusals Text t x.0, same-refusals Binary b y.0) s.refused;
      one = x.3;
      text-whole = x.2;
      binary-whole = y.2;
    }

-- a framing of the same sextets in the other form
scaled : (u : ℕ) (s r : List ℕ) (k : Kind) (h n m : ℕ) → s ≡ r → frame_ruled s ≡ Item k h n → n * u ≡ m
    → scale u (frame_ruled r) ≡ Item k (h * u) m
unfolding scale
scaled u s r k h n m e f g = rw (← e, f, g)

frame-binary : (t b : List ℕ) → text_sextets t ≡ binary_sextets b → length t % 4 ≡ 0 → length b ≡ 3 * (length t / 4)
    → {k : Kind} {h : ℕ} → frame_in text t ≡ Item k h (length t) → (h' : ℕ) × (frame_in binary b ≡ Item k h' (length b))
unfolding frame_in
frame-binary t b s q l {k} f =
    let u = unscale 4 (frame_ruled (text_sextets t)) f in
    (u.0 * 3, scaled 3 (text_sextets t) (binary_sextets b) k u.0 u.1 (length b) s u.2 (omega (arith, u.4)))

frame-text : (t b : List ℕ) → text_sextets t ≡ binary_sextets b → length b % 3 ≡ 0 → length t ≡ 4 * (length b / 3)
    → {k : Kind} {h : ℕ} → frame_in binary b ≡ Item k h (length b) → (h' : ℕ) × (frame_in text t ≡ Item k h' (length t))
unfolding frame_in
frame-text t b s q l {k} f =
    let u = unscale 3 (frame_ruled (binary_sextets b)) f in
    (u.0 * 4, scaled 4 (binary_sextets b) (text_sextets t) k u.0 u.1 (length t) (sym s) u.2 (omega (arith, u.4)))

pub text-ratio : (t : List ℕ) → start_at t 0 ≡ Cesr Text → {k : Kind} {h : ℕ} → frame_in text t ≡ Item k h (length t) → WholeText t
    → SameItem t (to_binary t) × (start_at (to_binary t) 0 ≡ Cesr Binary)
text-ratio t e f w =
    let some = (frames text (reader Text)).within t _ _ (length t) f in
    let v = (demand2.text-back t w).0 in
    let g = frame-binary t (to_binary t) (text-to-binary-sextets t w.quadlets w.alphabet) w.quadlets (length-to-binary t) f in
    let b = to-binary-start t w v (omega (arith, w.quadlets)) e in
    (both-forms t (to_binary t) (demand2.text-report t w) e b f g.1, b)

pub binary-ratio : (b : List ℕ) → start_at b 0 ≡ Cesr Binary → {k : Kind} {h : ℕ} → frame_in binary b ≡ Item k h (length b) → WholeBinary b
    → SameItem (to_text b) b × (start_at (to_text b) 0 ≡ Cesr Text)
binary-ratio b e f w =
    let some = (frames binary (reader Binary)).within b _ _ (length b) f in
    let g = frame-text (to_text b) b (binary-to-text-sextets b) w.triplets (length-to-text b) f in
    let t = to-text-start b w (omega (arith, w.triplets)) e in
    (both-forms (to_text b) b (demand2.binary-report b w) t e g.1 f, t)
