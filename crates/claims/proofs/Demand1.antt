-- Demand 1: each call refuses by Conditions, in order, and a refusal leaves every buffer. Assumes nothing.
use Rattle.std.specs.Prelude.{ℕ, zero, suc, ◌+◌, ◌-◌, ◌*◌, ◌/◌, ◌%◌, ◌≤◌, ◌<◌, ◌≡◌, List, [], ◌∷◌, ◌++◌, map, Bool, true, not, ◌⊎◌, length, get_or, take, drop, ltb, leb, eqb}
use Rattle.std.proofs.Math.Path.{refl}
use Rattle.std.proofs.Common.{subst, ap, sym, ◌∙◌, inl, inr, ⊎_elim, arith, length-drop, get_or-take, ltb-true, ltb-false, leb-true, leb-false, eqb-true, lt-ltb}
use Rattle.std.proofs.Math.Bool.{false}
use Rattle.std.proofs.Math.ListN.{get_or-eq_default}
use Rattle.std.proofs.Math.Seq.{take-length}
use Rattle.std.proofs.lemmas.Bool.{eqb-false}
use Rattle.base.specs.Pick.{pick, pick-by}
use Rattle.base.specs.Cases.{lt-or-ge}
use Rattle.base.specs.Digits.{Below, below_at, below-take}
use Rattle.format.specs.declared.CodeRow.{CodeRow}
use Rattle.format.specs.declared.Kind.{Kind}
use Rattle.format.specs.declared.Kind.TheVariants.{Fixed, Variable, Group, Genus, Indexed}
use Rattle.format.specs.declared.Framed.{Framed}
use Rattle.format.specs.declared.Framed.TheVariants.{Item, Unframed}
use Rattle.format.specs.declared.Verdict.{Verdict}
use Rattle.format.specs.declared.Verdict.TheVariants.{Accepted, Refused}
use Rattle.format.specs.declared.TextOffset.{TextOffset}
use Rattle.format.specs.declared.BinaryOffset.{BinaryOffset}
use Rattle.format.specs.declared.Code.{Code}
use Rattle.format.specs.declared.PrimitiveRead.{PrimitiveRead}
use Rattle.format.specs.Alphabet.{char_of, sextet_of}
use Rattle.format.specs.Units.{Domain, text, binary, text_sextets, binary_sextets}
use Rattle.format.specs.Framing.{sextet, frame, frame_with}
use Rattle.format.specs.Judging.{is_shortest, judge_kind, own_check}
use Rattle.format.specs.Conversion.{first_stranger, first_number, text_to_binary, binary_to_text, binary_left, text_left}
use Rattle.format.specs.Report.{rows_in, report_answer, report_left}
use Rattle.format.specs.Reading.{Reading, judged, read_framed, reading, from, value_at, text_at, is_primitive}
use Rattle.format.specs.Reading.{text_answer, read_text, value_left, binary_answer, read_binary, chars_left, part_at}
use Rattle.format.specs.Reading.Reading.{refused, found}
use Rattle.format.specs.Texts.{fills, fill_for, text_count}
use Rattle.format.specs.Values.{text_in, value_of}
use Rattle.format.specs.Writing as W
use Rattle.laws.specs.Alphabet.{char-sextet}
use Rattle.laws.specs.Conversion.{binary-below}
use Rattle.laws.specs.Domains.{Reader, text-reader, binary-reader}
use Rattle.claims_rules.specs.Order.{Rule, ◌when◌, First, None}
use Rattle.claims_rules.proofs.Rules.{Told, By, Allowed, skip, behind, in-front, ask, ask-lt, by-none, by_first, refusal}
use Rattle.claims_rules.proofs.Rules.Told.{accepted, told}
use Rattle.claims_rules.proofs.Rules.By.{none, first}
use Rattle.claims_rules.proofs.Rules.Allowed.{end, ◌&◌}
use Rattle.claims.specs.Conditions as C
use Rattle.claims_rules.specs.Conditions as K
use Rattle.claims_rules.proofs.Strangers.{Clean, strange, clean-other, clean-ordinary, ask-strange}
use Rattle.claims.specs.Claims.{Demand1}
use Rattle.claims_rules.proofs.Framed.{framed-found, unframed-first}
use Rattle.claims_rules.proofs.Judged.{Judged, true-false, long-form, short-form, own-judged}
use Rattle.claims_rules.proofs.Judged.Judged.{passes, refuses}
use Rattle.std.specs.Prelude.{Ok, Err, Result}
use Rattle.format.specs.declared.Refusal.{Refusal}
use Rattle.format.specs.declared.Primitive.{Primitive}

-- ---- strangers among characters

known : (n : ℕ) (s : List ℕ) → Clean (C.value_in s) 0 (first_stranger (take n s))
unfolding first_stranger
known zero s j a b = absurd (omega arith)
known (suc n) [] j a b = absurd (omega arith)
known (suc n) (c ∷ s) j a b = go (ltb (sextet_of c) 64) refl j b (known n s)
  where
    go : (t : Bool) → ltb (sextet_of c) 64 ≡ t → (j : ℕ) → j < pick t (suc (first_stranger (take n s))) 0
        → Clean (C.value_in s) 0 (first_stranger (take n s)) → C.value_in (c ∷ s) j < 64
    go true e zero l next = ltb-true (sextet_of c) 64 e
    go true e (suc j) l next = next j (omega arith) (omega arith)
    go false e j l next = absurd (omega arith)

bad : (n : ℕ) (s : List ℕ) → first_stranger (take n s) < n → 64 ≤ C.value_in s (first_stranger (take n s))
unfolding first_stranger sextet_of
bad zero s l = absurd (omega arith)
bad (suc n) [] l = omega arith
bad (suc n) (c ∷ s) l = go (ltb (sextet_of c) 64) refl l (bad n s)
  where
    go : (t : Bool) → ltb (sextet_of c) 64 ≡ t → pick t (suc (first_stranger (take n s))) 0 < suc n
        → (first_stranger (take n s) < n → 64 ≤ C.value_in s (first_stranger (take n s)))
        → 64 ≤ C.value_in (c ∷ s) (pick t (suc (first_stranger (take n s))) 0)
    go true e h next = next (omega arith)
    go false e h next = ltb-false (sextet_of c) 64 e

-- the first of n characters that is outside the alphabet, where there is one
module _ (n : ℕ) (s : List ℕ) where
  stranger-in : first_stranger (take n s) < n
      → (0 ≤ first_stranger (take n s)) × (first_stranger (take n s) < n) × Clean (C.value_in s) 0 (first_stranger (take n s))
      × (64 ≤ C.value_in s (first_stranger (take n s)))
  stranger-in l = (omega arith, l, known n s, bad n s l)

  no-stranger-in : n ≤ first_stranger (take n s) → Clean (C.value_in s) 0 n
  no-stranger-in l j a b = known n s j a (omega arith)

-- ---- conversion

told_binary : Result BinaryOffset (Refusal TextOffset) → Told
told_binary (Ok n) = accepted
told_binary (Err r) = told r.number

to-binary : (s : List ℕ) (room : ℕ) → By (C.to_binary_rules s room) (told_binary (text_to_binary s room))
unfolding text_to_binary first_number told_binary
to-binary s room =
    ask-lt told_binary text.limit (length s) 1 _ _ _ refl
    (ask-lt told_binary 0 (length s % 4) 2 _ _ _ refl
    (ask-strange told_binary (ltb (first_stranger s) (length s)) (C.value_in s) 0 (length s) (first_stranger s) _ _ _ (λ _. refl)
    (λ e. rw (take-length s) at (stranger-in (length s) s (rw (take-length s) (ltb-true (first_stranger s) (length s) e))))
    (λ e. no-stranger-in (length s) s (rw (take-length s) (ltb-false (first_stranger s) (length s) e)))
    (ask-lt told_binary room (length s / 4 * 3) 3 _ _ _ refl
    (none tt))))

told_text : Result TextOffset (Refusal BinaryOffset) → Told
told_text (Ok n) = accepted
told_text (Err e) = told e.number

to-text : (s : List ℕ) (room : ℕ) → By (C.to_text_rules s room) (told_text (binary_to_text s room))
unfolding binary_to_text told_text
to-text s room =
    ask-lt told_text binary.limit (length s) 1 _ _ _ refl
    (ask-lt told_text 0 (length s % 3) 2 _ _ _ refl
    (ask-lt told_text room (length s / 3 * 4) 3 _ _ _ refl
    (none tt)))

-- ---- the report

told_report : Result ℕ (Refusal ℕ) → Told
told_report (Ok n) = accepted
told_report (Err e) = told e.number

report : (d : Domain) (xs : List ℕ) (room : ℕ) → By (C.report_rules d xs room) (told_report (report_answer d xs room))
unfolding report_answer told_report
report d xs room =
    ask-lt told_report d.limit (length xs) 1 _ _ _ refl
    (ask-lt told_report room (17 + 18 * length (rows_in d xs)) 3 _ _ _ refl (none tt))

-- ---- writing

unfoldable pub told_writing : W.Writing → Told
told_writing (W.refused m p) = told m
told_writing (W.written n) = accepted

-- no tag characters, and so many at most
no-tag-fits : (tags many most : ℕ) → pick (eqb tags 0) (leb many most) false ≡ true → ((tags ≡ 0) × (many ≤ most) → ⊥) → ⊥
no-tag-fits tags many most e u = go (eqb tags 0) refl e
  where
    go : (b : Bool) → eqb tags 0 ≡ b → pick b (leb many most) false ≡ true → ⊥
    go true f g = u (eqb-true tags 0 f, leb-true many most g)
    go false f g = let z : ◌≡◌ {A = ℕ} 0 1 = cc in omega arith

no-tag-unfit : (tags many most : ℕ) → pick (eqb tags 0) (leb many most) false ≡ false → (tags ≡ 0) × (many ≤ most) → ⊥
no-tag-unfit tags many most e q = go (eqb tags 0) refl e
  where
    go : (b : Bool) → eqb tags 0 ≡ b → pick b (leb many most) false ≡ false → ⊥
    go true f g = omega (arith, leb-false many most g, q.1)
    go false f g = eqb-false tags 0 f q.0

fits : (n : W.Named) (tags raw : ℕ) → W.is_fit n tags raw ≡ true → C.Unfit n tags raw → ⊥
unfolding W.is_fit W.fits_row W.fits_variable W.fits_text
fits W.unknown tags raw e u = u
fits (W.row c) tags raw e u = go (eqb tags c.tag) refl e
  where
    go : (b : Bool) → eqb tags c.tag ≡ b → pick b (eqb raw (W.raw_size c)) false ≡ true → ⊥
    go true f g = u (eqb-true tags c.tag f, eqb-true raw (W.raw_size c) g)
    go false f g = let z : ◌≡◌ {A = ℕ} 0 1 = cc in omega arith
fits (W.variable t h) tags raw e u = no-tag-fits tags raw (W.raw_limit h) e u
fits (W.textual h) tags raw e u = no-tag-fits tags (raw + fill_for raw) (W.text_limit h) e u

unfit : (n : W.Named) (tags raw : ℕ) → W.is_named n ≡ true → W.is_fit n tags raw ≡ false → C.Unfit n tags raw
unfolding W.is_fit W.is_named W.fits_row W.fits_variable W.fits_text
unfit W.unknown tags raw i e = let z : ◌≡◌ {A = ℕ} 0 1 = cc in absurd (omega arith)
unfit (W.row c) tags raw i e = λ q. go q (eqb tags c.tag) refl e
  where
    go : (tags ≡ c.tag) × (raw ≡ W.raw_size c) → (b : Bool) → eqb tags c.tag ≡ b → pick b (eqb raw (W.raw_size c)) false ≡ false → ⊥
    go q true f g = eqb-false raw (W.raw_size c) g q.1
    go q false f g = eqb-false tags c.tag f q.0
unfit (W.variable t h) tags raw i e = no-tag-unfit tags raw (W.raw_limit h) e
unfit (W.textual h) tags raw i e = no-tag-unfit tags (raw + fill_for raw) (W.text_limit h) e

-- two digits count the triplets of 12,285 bytes, and of no more
few-units : (raw : ℕ) → W.count_for raw < 4096 → raw ≤ 12285
unfolding W.count_for W.lead_for
few-units raw l = omega arith

many-units : (raw : ℕ) → raw ≤ 12285 → W.count_for raw < 4096
unfolding W.count_for W.lead_for
many-units raw l = omega arith

-- and the quadlets of a text of 16,380 characters with its fill
few-quadlets : (chars : ℕ) → text_count chars < 4096 → chars + fill_for chars ≤ 16380
unfolding text_count fill_for
few-quadlets chars l = omega arith

many-quadlets : (chars : ℕ) → chars + fill_for chars ≤ 16380 → text_count chars < 4096
unfolding text_count fill_for
many-quadlets chars l = omega arith

long : (n : W.Named) (raw : ℕ) → W.is_short n raw ≡ false → C.SmallHolds n raw
unfolding W.is_short
long W.unknown raw e = absurd (true-false e)
long (W.row c) raw e = absurd (true-false e)
long (W.variable t h) raw e = let f = long-form h (W.count_for raw) e in (f.0, few-units raw f.1)
long (W.textual h) raw e = let f = long-form h (text_count raw) e in (f.0, few-quadlets raw f.1)

short : (n : W.Named) (raw : ℕ) → W.is_short n raw ≡ true → C.SmallHolds n raw → ⊥
unfolding W.is_short
short W.unknown raw e q = q
short (W.row c) raw e q = q
short (W.variable t h) raw e q = short-form h (W.count_for raw) e (q.0, many-units raw q.1)
short (W.textual h) raw e q = short-form h (text_count raw) e (q.0, many-quadlets raw q.1)

-- 16: `A` alone has the value 0
first-a : (chars : List ℕ) → fills 1 (map sextet_of chars) ≡ true → get_or chars 0 0 ≡ 65
unfolding fills char_of
first-a [] e = let z : ◌≡◌ {A = ℕ} 0 1 = cc in absurd (omega arith)
first-a (c ∷ chars) e =
    pick-by (λ (b : Bool). b ≡ true → c ≡ 65) (eqb (sextet_of c) 0) true false
    (λ t _. let v : sextet_of c ≡ 0 = eqb-true (sextet_of c) 0 t in sym (char-sextet c (omega arith)) ∙ ap char_of v)
    (λ _ q. let z : ◌≡◌ {A = ℕ} 0 1 = cc in absurd (omega arith)) e

a_first : (chars : List ℕ) → get_or chars 0 0 ≡ 65 → fills 1 (map sextet_of chars) ≡ true
unfolding fills sextet_of
a_first [] e = absurd (omega arith)
a_first (c ∷ chars) e = let q : c ≡ 65 = e in rw q

from-a : (n : W.Named) (raw : List ℕ) → W.begins_right n raw ≡ false → C.FromA n raw
unfolding W.begins_right
from-a W.unknown raw e = absurd (true-false e)
from-a (W.row c) raw e = absurd (true-false e)
from-a (W.variable t h) raw e = absurd (true-false e)
from-a (W.textual h) raw e = by (fills 1 (map sextet_of raw)) refl e
  where
    by : (b : Bool) → fills 1 (map sextet_of raw) ≡ b → not b ≡ false → get_or raw 0 0 ≡ 65
    by true f g = first-a raw f
    by false f g = absurd (true-false g)

from-other : (n : W.Named) (raw : List ℕ) → W.begins_right n raw ≡ true → C.FromA n raw → ⊥
unfolding W.begins_right
from-other W.unknown raw e q = q
from-other (W.row c) raw e q = q
from-other (W.variable t h) raw e q = q
from-other (W.textual h) raw e q = true-false (sym e ∙ ap not (a_first raw q))

-- 5 and 19: the characters asked are the first so many of a list
pub asked : (n : W.Named) (tag : List ℕ) (tags : ℕ) (raw : List ℕ)
    → W.chars_of n (take tags tag) raw ≡ take (W.chars_for n tags (length raw)) (W.chars_of n tag raw)
unfolding W.chars_of W.chars_for
asked W.unknown tag tags raw = refl
asked (W.row c) tag tags raw = refl
asked (W.variable t h) tag tags raw = refl
asked (W.textual h) tag tags raw = sym (take-length raw)

-- what stands behind 6, of a code that is named
module _ (u : ℕ) (n : W.Named) (tag : List ℕ) (tags : ℕ) (raw : List ℕ) (room : ℕ) where
  abbrev chars : List ℕ
  chars = W.chars_of n tag raw

  abbrev many : ℕ
  many = W.chars_for n tags (length raw)

  abbrev behind_strangers : List Rule
  behind_strangers = 16 when (C.FromA n raw) ∷ 3 when (room < W.units_of n (length raw) * u) ∷ []

  abbrev behind_twelve : List Rule
  behind_twelve = 18 when (C.SmallHolds n (length raw)) ∷ strange (C.value_in chars) 0 many behind_strangers

  abbrev write_by : List Rule
  write_by = 6 when (n ≡ W.unknown) ∷ 12 when (C.Unfit n tags (length raw)) ∷ behind_twelve

  -- 16, 3
  begins : By behind_strangers
      (told_writing (pick (W.begins_right n raw)
      (pick (ltb room (W.units_of n (length raw) * u)) (W.refused 3 0) (W.written (W.units_of n (length raw)))) (W.refused 16 0)))
  unfolding told_writing
  begins =
      pick-by (λ (w : W.Writing). By behind_strangers (told_writing w)) (W.begins_right n raw) _ _
      (λ e. skip (16 when (C.FromA n raw)) _ _ (from-other n raw e)
      (ask-lt told_writing room (W.units_of n (length raw) * u) 3 _ _ _ refl (none tt)))
      (λ e. first (inl (from-a n raw e, refl)))

  named : (n ≡ W.unknown → ⊥) → W.is_named n ≡ true → By write_by (told_writing (W.writing u n tag tags raw room))
  unfolding W.writing first_number told_writing
  named not-unknown i =
      rw (i, asked n tag tags raw) (skip (6 when (n ≡ W.unknown)) _ _ not-unknown
      (pick-by (λ (w : W.Writing). By (12 when (C.Unfit n tags (length raw)) ∷ behind_twelve) (told_writing w))
      (W.is_fit n tags (length raw)) _ _
      (λ e. skip (12 when (C.Unfit n tags (length raw))) _ _ (fits n tags (length raw) e)
      (pick-by (λ (w : W.Writing). By behind_twelve (told_writing w)) (W.is_short n (length raw)) _ _
      (λ s. skip (18 when (C.SmallHolds n (length raw))) _ _ (short n (length raw) s)
      (ask-strange told_writing (ltb (first_stranger (take many chars)) many) (C.value_in chars) 0 many (first_stranger (take many chars)) _ _ _
      (λ f. rw (get_or-take many chars (first_stranger (take many chars)) 0 (ltb-true _ many f)))
      (λ f. stranger-in many chars (ltb-true _ many f)) (λ f. no-stranger-in many chars (ltb-false _ many f)) begins))
      (λ s. first (inl (long n (length raw) s, refl)))))
      (λ e. first (inl (unfit n tags (length raw) i e, refl)))))

writes : (u : ℕ) (n : W.Named) (tag : List ℕ) (tags : ℕ) (raw : List ℕ) (room : ℕ)
    → By (write_by u n tag tags raw room) (told_writing (W.writing u n tag tags raw room))
unfolding W.writing W.is_named told_writing
writes u W.unknown tag tags raw room = first (inl (refl, refl))
writes u (W.row c) tag tags raw room = named u (W.row c) tag tags raw room (λ e. let z : ◌≡◌ {A = ℕ} 0 1 = cc in omega arith) refl
writes u (W.variable t h) tag tags raw room =
    named u (W.variable t h) tag tags raw room (λ e. let z : ◌≡◌ {A = ℕ} 0 1 = cc in omega arith) refl
writes u (W.textual h) tag tags raw room = named u (W.textual h) tag tags raw room (λ e. let z : ◌≡◌ {A = ℕ} 0 1 = cc in omega arith) refl

-- ---- reading

-- an item that was found is the one that the first unit opens
pub data Reads (rs : List Rule) (k : Kind) (h n : ℕ) : Reading → Type 0 where
  there : None rs → Reads rs k h n (found k h n)
  not_there : {m p : ℕ} → First rs m → Reads rs k h n (refused m p)

-- 14, judging
abbrev from_kind : Kind → ℕ → ℕ → List ℕ → List Rule
from_kind k h n s = 14 when (is_primitive k ≡ false) ∷ K.judging k h (take (4 * n) s)

skip-kind : (k : Kind) (h n : ℕ) (s : List ℕ) (v : Verdict) → is_primitive k ≡ true → Judged (K.judging k h (take (4 * n) s)) v
    → Reads (from_kind k h n s) k h n (judged k h n v)
unfolding judged
skip-kind k h n s v i (passes q) = there (λ e. let z : ◌≡◌ {A = ℕ} 0 1 = cc in omega arith, q)
skip-kind k h n s v i (refuses f) = not_there (inr (λ e. let z : ◌≡◌ {A = ℕ} 0 1 = cc in omega arith, f))

kind-reads : (k : Kind) (h n : ℕ) (s : List ℕ) → Reads (from_kind k h n s) k h n (read_framed (Item k h n) s)
unfolding read_framed is_primitive
kind-reads (Fixed c) h n s = skip-kind (Fixed c) h n s _ refl (own-judged 0 (Fixed c) h (take (4 * n) s))
kind-reads (Variable t l c) h n s = skip-kind (Variable t l c) h n s _ refl (own-judged 0 (Variable t l c) h (take (4 * n) s))
kind-reads (Group l) h n s = not_there (inl (refl, refl))
kind-reads Genus h n s = not_there (inl (refl, refl))
kind-reads (Indexed c) h n s = not_there (inl (refl, refl))

pub behind-framing : (rs qs : List Rule) (k : Kind) (h n : ℕ) (r : Reading) → None rs → Reads qs k h n r → Reads (rs ++ qs) k h n r
behind-framing rs qs k h n r no-rs (there q) = there (by-none (rs ++ qs) (behind rs qs accepted no-rs (none q)))
behind-framing rs qs k h n r no-rs (not_there {m = m} f) = not_there (by_first (rs ++ qs) m (behind rs qs (told m) no-rs (first f)))

module _ (s : List ℕ) where
  abbrev from_framing : List Rule
  from_framing = K.framing false s ++ from_kind (K.item_kind false s) (K.item_head false s) (K.item_size false s) s

  reads : Reads from_framing (K.item_kind false s) (K.item_head false s) (K.item_size false s) (reading s)
  unfolding reading read_framed
  reads = go (frame s) refl
    where
      go : (r : Framed) → frame s ≡ r → Reads from_framing (K.item_kind false s) (K.item_head false s) (K.item_size false s) (read_framed r s)
      go (Unframed m p) e = not_there (in-front (K.framing false s) (from_kind (K.item_kind false s) (K.item_head false s) (K.item_size false s) s) m (unframed-first false s m p e))
      go (Item k h n) e =
          let f = framed-found false s k h n e in
          rw (f.kind, f.head, f.size) (behind-framing (K.framing false s) (from_kind (K.item_kind false s) (K.item_head false s) (K.item_size false s) s) _ _ _ _ f.none (kind-reads (K.item_kind false s) (K.item_head false s) (K.item_size false s) s))

-- at or past the end there is no unit, which is 4
no-unit : (s : List ℕ) → length s / 4 ≡ 0 → reading s ≡ refused 4 0
unfolding reading read_framed frame frame_with
no-unit s e = rw (lt-ltb (length s / 4) 1 (omega arith))

told_text_found : Result Primitive (Refusal TextOffset) → Told
told_text_found (Ok p) = accepted
told_text_found (Err e) = told e.number

told_binary_found : Result Primitive (Refusal BinaryOffset) → Told
told_binary_found (Ok p) = accepted
told_binary_found (Err e) = told e.number

told_text_read : PrimitiveRead TextOffset → Told
told_text_read r = told_text_found r.found

told_binary_read : PrimitiveRead BinaryOffset → Told
told_binary_read r = told_binary_found r.found

-- 3, behind all that reading asks
text-answer : (at : ℕ) (rs : List Rule) (k : Kind) (h n : ℕ) (r : Reading) (s : List ℕ) (room : ℕ) → Reads rs k h n r
    → By (rs ++ (3 when (room < length (value_of k h (take (4 * n) s))) ∷ [])) (told_text_read (text_answer at r s room))
unfolding text_answer value_at told_text_read told_text_found
text-answer at rs k h n r s room (not_there {m = m} f) = first (in-front rs _ m f)
text-answer at rs k h n r s room (there q) =
    behind rs _ _ q (ask-lt told_text_read room (length (value_of k h (take (4 * n) s))) 3 _ _ _ refl (none tt))

binary-answer : (at : ℕ) (rs : List Rule) (k : Kind) (h n : ℕ) (r : Reading) (s : List ℕ) (room : ℕ) → Reads rs k h n r
    → By (rs ++ (3 when (room < length (text_in k h (take (4 * n) s))) ∷ [])) (told_binary_read (binary_answer at r s room))
unfolding binary_answer text_at told_binary_read told_binary_found
binary-answer at rs k h n r s room (not_there {m = m} f) = first (in-front rs _ m f)
binary-answer at rs k h n r s room (there q) =
    behind rs _ _ q (ask-lt told_binary_read room (length (text_in k h (take (4 * n) s))) 3 _ _ _ refl (none tt))

text-read : (xs : List ℕ) (at room : ℕ) → By (C.read_text_rules xs at room) (told_text_read (read_text xs at room))
unfolding read_text from text_answer told_text_read told_text_found
text-read xs at room =
    let s : List ℕ = text.sextets (drop at xs) in
    ask-lt told_text_read text.limit (length xs) 1 _ _ _ refl
    (⊎_elim (λ l. skip (4 when (length xs ≤ at)) _ _ (λ g. omega arith) (text-answer at (from_framing s) _ _ _ (reading s) s room (reads s)))
    (λ g. rw (no-unit s (omega (arith, text-reader.units (drop at xs), length-drop at xs))) (first (inl (g, refl))))
    (lt-or-ge at (length xs)))

binary-read : (xs : List ℕ) (at room : ℕ) → By (C.read_binary_rules xs at room) (told_binary_read (read_binary xs at room))
unfolding read_binary from binary_answer told_binary_read told_binary_found
binary-read xs at room =
    let s : List ℕ = binary.sextets (drop at xs) in
    ask-lt told_binary_read binary.limit (length xs) 1 _ _ _ refl
    (⊎_elim (λ l. skip (4 when (length xs ≤ at)) _ _ (λ g. omega arith) (binary-answer at (from_framing s) _ _ _ (reading s) s room (reads s)))
    (λ g. rw (no-unit s (omega (arith, binary-reader.units (drop at xs), length-drop at xs))) (first (inl (g, refl))))
    (lt-or-ge at (length xs)))

-- ---- no sextet of a binary is outside the alphabet, so its reader gives neither 5 nor 19

pub clean : (s : List ℕ) → Below 64 s → (start stop : ℕ) → Clean (sextet s) start stop
clean s b start stop i l u =
    ⊎_elim (λ g. below_at 64 s b i g) (λ g. omega (arith, get_or-eq_default s 0 {n = i} g)) (lt-or-ge i (length s))

module _ (xs : List ℕ) (at room : ℕ) where
  abbrev from_offset : List ℕ
  from_offset = binary.sextets (drop at xs)

  all_known : (start stop : ℕ) → Clean (sextet from_offset) start stop
  all_known = clean from_offset (binary-below (drop at xs))

  own-known : (start stop : ℕ) → Clean (sextet (take (4 * K.item_size false from_offset) from_offset)) start stop
  own-known = clean _ (below-take 64 (4 * K.item_size false from_offset) from_offset (binary-below (drop at xs)))

  -- in the first unit, in the header, behind it
  no-five : Allowed (1 ∷ 4 ∷ 6 ∷ 14 ∷ 18 ∷ 9 ∷ 8 ∷ 16 ∷ 10 ∷ 3 ∷ []) (C.read_binary_rules xs at room)
  no-five =
      inl tt & inl tt & inl tt & inr (clean-other _ _ _ (all_known _ _)) & inr (clean-ordinary _ _ _ (all_known _ _)) & inl tt & inl tt
      & inr (clean-other _ _ _ (all_known _ _)) & inr (clean-ordinary _ _ _ (all_known _ _)) & inl tt & inl tt
      & inr (clean-other _ _ _ (own-known _ _)) & inr (clean-ordinary _ _ _ (own-known _ _)) & inl tt & inl tt & inl tt & inl tt & inl tt & inl tt & end

-- ---- all of it

unfoldable pub told_text_written : Result TextOffset (Refusal ℕ) → Told
told_text_written (Ok n) = accepted
told_text_written (Err e) = told e.number

unfoldable pub told_binary_written : Result BinaryOffset (Refusal ℕ) → Told
told_binary_written (Ok n) = accepted
told_binary_written (Err e) = told e.number

pub text-outcome : (w : W.Writing) → told_text_written (W.text_outcome w) ≡ told_writing w
unfolding W.text_outcome told_text_written told_writing
text-outcome (W.refused m p) = refl
text-outcome (W.written n) = refl

pub binary-outcome : (w : W.Writing) → told_binary_written (W.binary_outcome w) ≡ told_writing w
unfolding W.binary_outcome told_binary_written told_writing
binary-outcome (W.refused m p) = refl
binary-outcome (W.written n) = refl

write-text : (code : Code) (tag : List ℕ) (tags : ℕ) (raw : List ℕ) (room : ℕ)
    → By (C.write_rules 4 code tag tags raw room) (told_text_written (W.write_text code tag tags raw room))
unfolding W.write_text
write-text code tag tags raw room = rw text-outcome (writes 4 (W.named code) tag tags raw room)

write-binary : (code : Code) (tag : List ℕ) (tags : ℕ) (raw : List ℕ) (room : ℕ)
    → By (C.write_rules 3 code tag tags raw room) (told_binary_written (W.write_binary code tag tags raw room))
unfolding W.write_binary
write-binary code tag tags raw room = rw binary-outcome (writes 3 (W.named code) tag tags raw room)

pub demand1 : Demand1
unfolding binary_left text_left report_left value_left chars_left part_at W.text_item_left W.binary_item_left told_binary told_text told_report told_text_read
    told_text_found told_binary_read told_binary_found told_text_written told_binary_written
demand1 = record {
  to-binary = λ s d m p e.
      (refusal _ _ m (λ z. z) (inl tt & inl tt & inl tt & inl tt & inl tt & end) (by_first _ m (subst (By _) (ap told_binary e) (to-binary s (length d)))), rw e);
  to-binary-accepts = λ s d n e. by-none _ (subst (By _) (ap told_binary e) (to-binary s (length d)));
  to-text = λ s d m p e.
      (refusal _ _ m (λ z. z) (inl tt & inl tt & inl tt & end) (by_first _ m (subst (By _) (ap told_text e) (to-text s (length d)))), rw e);
  to-text-accepts = λ s d n e. by-none _ (subst (By _) (ap told_text e) (to-text s (length d)));
  reports = λ f s d m p e.
      (refusal _ _ m (λ z. z) (inl tt & inl tt & end) (by_first _ m (subst (By _) (ap told_report e) (report f s (length d)))), rw e);
  reports-accepts = λ f s d n e. by-none _ (subst (By _) (ap told_report e) (report f s (length d)));
  read-text = λ s at d m p e. (
    refusal _ (C.read_text_rules s at (length d)) m (λ z. z)
        (inl tt & inl tt & inl tt & inl tt & inl tt & inl tt & inl tt & inl tt & inl tt & inl tt & inl tt & inl tt & inl tt & inl tt & inl tt & inl tt & inl tt & inl tt & inl tt & end)
        (by_first _ m (subst (By (C.read_text_rules s at (length d))) (ap told_text_found e) (text-read s at (length d)))),
    rw e,
  );
  read-text-accepts = λ s at d q e.
      by-none (C.read_text_rules s at (length d)) (subst (By (C.read_text_rules s at (length d))) (ap told_text_found e) (text-read s at (length d)));
  read-binary = λ s at d m p e. (
    refusal _ (C.read_binary_rules s at (length d)) m (λ z. z) (no-five s at (length d))
        (by_first _ m (subst (By (C.read_binary_rules s at (length d))) (ap told_binary_found e) (binary-read s at (length d)))),
    rw e,
    rw e,
  );
  read-binary-accepts = λ s at d q e.
      by-none (C.read_binary_rules s at (length d)) (subst (By (C.read_binary_rules s at (length d))) (ap told_binary_found e) (binary-read s at (length d)));
  write-text = λ code tag tags raw d m p e. (
    refusal _ _ m (λ z. z) (inl tt & inl tt & inl tt & inl tt & inl tt & inl tt & inl tt & end)
        (by_first _ m (subst (By _) (ap told_text_written e) (write-text code tag tags raw (length d)))),
    rw e,
  );
  write-text-accepts = λ code tag tags raw d n e. by-none _ (subst (By _) (ap told_text_written e) (write-text code tag tags raw (length d)));
  write-binary = λ code tag tags raw d m p e. (
    refusal _ _ m (λ z. z) (inl tt & inl tt & inl tt & inl tt & inl tt & inl tt & inl tt & end)
        (by_first _ m (subst (By _) (ap told_binary_written e) (write-binary code tag tags raw (length d)))),
    rw e,
  );
  write-binary-accepts = λ code tag tags raw d n e.
      by-none _ (subst (By _) (ap told_binary_written e) (write-binary code tag tags raw (length d)));
}
