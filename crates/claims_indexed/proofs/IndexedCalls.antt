-- Demand 1 of the calls that read and write single indexed items: they refuse by Conditions, in order. Assumes nothing.
use Rattle.std.specs.Prelude.{ℕ, ◌+◌, ◌-◌, ◌*◌, ◌/◌, ◌^◌, ◌≤◌, ◌<◌, List, [], ◌∷◌, ◌++◌, Bool, false, length, take, drop, ltb, eqb}
use Rattle.std.proofs.Math.Path.{◌≡◌, refl}
use Rattle.std.proofs.Common.{subst, ap, sym, ◌∙◌, inl, inr, ⊎_elim, arith, length-drop, ltb-true, ltb-false, eqb-true, lt-ltb}
use Rattle.std.proofs.Math.Bool.{true}
use Rattle.std.proofs.lemmas.Bool.{eqb-false}
use Rattle.base.specs.Pick.{pick, pick-by}
use Rattle.base.specs.Cases.{lt-or-ge}
use Rattle.base.specs.Digits.{below-take}
use Rattle.format.specs.declared.IndexRow.{IndexRow}
use Rattle.format.specs.declared.IndexCode.{IndexCode}
use Rattle.format.specs.declared.IndexedItem.{IndexedItem}
use Rattle.format.specs.declared.Kind.{Kind}
use Rattle.format.specs.declared.Kind.TheVariants.{Fixed, Variable, Group, Genus, Indexed}
use Rattle.format.specs.declared.Framed.{Framed}
use Rattle.format.specs.declared.Framed.TheVariants.{Item, Unframed}
use Rattle.format.specs.declared.Verdict.{Verdict}
use Rattle.format.specs.declared.TextOffset.{TextOffset}
use Rattle.format.specs.declared.BinaryOffset.{BinaryOffset}
use Rattle.format.specs.Units.{Domain, text, binary}
use Rattle.format.specs.Framing.{sextet, frame_with, frame_indexed}
use Rattle.format.specs.Judging.{ondex_right, judge_kind, own_check, behind}
use Rattle.format.specs.Values.{bytes_in, raw_start, raw_of}
use Rattle.format.specs.Reading.{Reading, judged, from}
use Rattle.format.specs.Reading.Reading.{refused, found}
use Rattle.format.specs.Writing as W
use Rattle.format.specs.Indexed as I
use Rattle.laws.specs.Conversion.{binary-below}
use Rattle.laws.specs.Domains.{text-reader, binary-reader}
use Rattle.laws.specs.Indexed.{FramesIndexed, frame-indexed}
use Rattle.claims_rules.specs.Order.{Rule, ◌when◌, First, None}
use Rattle.claims_rules.proofs.Rules.{Told, By, Allowed, skip, behind as behind-rules, in-front, ask-lt, by-none, by_first, refusal}
use Rattle.claims_rules.proofs.Rules.Told.{accepted, told}
use Rattle.claims_rules.proofs.Rules.By.{none, first}
use Rattle.claims_rules.proofs.Rules.Allowed.{end, ◌&◌}
use Rattle.claims_rules.specs.Conditions as C
use Rattle.claims_indexed.specs.Conditions as Q
use Rattle.claims_rules.proofs.Strangers.{Clean, clean-other, clean-ordinary}
use Rattle.claims_indexed.specs.Claims.{IndexedCalls}
use Rattle.claims_rules.proofs.Framed.{framed-found, unframed-first}
use Rattle.claims_rules.proofs.Judged.{Judged, ondex-set, ondex-clear, own-judged}
use Rattle.claims_rules.proofs.Judged.Judged.{passes, refuses}
use Rattle.claims.proofs.Demand1.{Reads, there, not_there, behind-framing, clean, told_writing, told_text_written, told_binary_written}
use Rattle.claims.proofs.Demand1.{text-outcome, binary-outcome}
use Rattle.std.specs.Prelude.{Ok, Err, Result}
use Rattle.format.specs.declared.Refusal.{Refusal}
use Rattle.format.specs.Refusals.{refused_by, refusal_place}

-- ---- writing

-- 12
fits : (c : IndexRow) (i j raw : ℕ) → I.fits_indexed c i j raw ≡ true → (raw ≡ I.indexed_raw_size c) × (i < 64 ^ c.index) × (j < 64 ^ c.ondex)
unfolding I.fits_indexed
fits c i j raw = by (eqb raw (I.indexed_raw_size c)) (ltb i (64 ^ c.index)) refl refl
  where
    by : (a b : Bool) → eqb raw (I.indexed_raw_size c) ≡ a → ltb i (64 ^ c.index) ≡ b → pick a (pick b (ltb j (64 ^ c.ondex)) false) false ≡ true
        → (raw ≡ I.indexed_raw_size c) × (i < 64 ^ c.index) × (j < 64 ^ c.ondex)
    by true true ea eb t = (eqb-true _ _ ea, ltb-true i _ eb, ltb-true j _ t)
    by true false ea eb t = let z : ◌≡◌ {A = ℕ} 0 1 = cc in absurd (omega arith)
    by false b ea eb t = let z : ◌≡◌ {A = ℕ} 0 1 = cc in absurd (omega arith)

unfit : (c : IndexRow) (i j raw : ℕ) → I.fits_indexed c i j raw ≡ false
    → (raw ≡ I.indexed_raw_size c) × (i < 64 ^ c.index) × (j < 64 ^ c.ondex) → ⊥
unfolding I.fits_indexed
unfit c i j raw e q = by (eqb raw (I.indexed_raw_size c)) (ltb i (64 ^ c.index)) refl refl e
  where
    by : (a b : Bool) → eqb raw (I.indexed_raw_size c) ≡ a → ltb i (64 ^ c.index) ≡ b → pick a (pick b (ltb j (64 ^ c.ondex)) false) false ≡ false
        → ⊥
    by true true ea eb t = omega (arith, ltb-false j (64 ^ c.ondex) t, q.2)
    by true false ea eb t = omega (arith, ltb-false i (64 ^ c.index) eb, q.1)
    by false b ea eb t = eqb-false raw (I.indexed_raw_size c) ea q.0

abbrev write_by : ℕ → I.IndexNamed → ℕ → ℕ → ℕ → ℕ → List Rule
write_by u n i j raw room =
    6 when (n ≡ I.none) ∷ 12 when (Q.UnfitIndexed n i j raw) ∷ 15 when (Q.WrittenOndex n j) ∷ 3 when (room < Q.indexed_units n * u) ∷ []

writes : (u : ℕ) (n : I.IndexNamed) (i j raw room : ℕ) → By (write_by u n i j raw room) (told_writing (I.writing_indexed u n i j raw room))
unfolding I.writing_indexed told_writing
writes u I.none i j raw room = first (inl (refl, refl))
writes u (I.row c) i j raw room =
    skip (6 when (I.row c ≡ I.none)) _ _ (λ e. let z : ◌≡◌ {A = ℕ} 0 1 = cc in omega arith)
    (pick-by (λ (w : W.Writing). By behind_six (told_writing w)) (I.fits_indexed c i j raw) _ _
    (λ e. skip (12 when (Q.UnfitIndexed (I.row c) i j raw)) _ _ (λ q. q (fits c i j raw e))
    (pick-by (λ (w : W.Writing). By behind_twelve (told_writing w)) (ondex_right c j) _ _
    (λ r. skip (15 when (C.SetOndex c j)) _ _ (ondex-clear c j r) (ask-lt told_writing room (c.size / 4 * u) 3 _ _ _ refl (none tt)))
    (λ r. first (inl (ondex-set c j r, refl)))))
    (λ e. first (inl (unfit c i j raw e, refl))))
  where
    behind_twelve : List Rule
    behind_twelve = 15 when (C.SetOndex c j) ∷ 3 when (room < c.size / 4 * u) ∷ []

    behind_six : List Rule
    behind_six = 12 when (Q.UnfitIndexed (I.row c) i j raw) ∷ behind_twelve

-- "place 0"
abbrev AtZero : W.Writing → Type 0
AtZero (W.refused m p) = p ≡ 0
AtZero (W.written n) = Unit {0}

at_zero : (u : ℕ) (n : I.IndexNamed) (i j raw room : ℕ) → AtZero (I.writing_indexed u n i j raw room)
unfolding I.writing_indexed
at_zero u I.none i j raw room = refl
at_zero u (I.row c) i j raw room =
    pick-by AtZero (I.fits_indexed c i j raw) _ _
    (λ _. pick-by AtZero (ondex_right c j) _ _ (λ _. pick-by AtZero (ltb room (c.size / 4 * u)) _ _ (λ _. refl) (λ _. tt)) (λ _. refl)) (λ _. refl)

module _ (code : IndexCode) (i j : ℕ) (raw : List ℕ) (room : ℕ) where
  write-text : By (Q.write_indexed_rules 4 code i j (length raw) room) (told_text_written (I.write_indexed_text code i j raw room))
  unfolding I.write_indexed_text
  write-text = rw text-outcome (writes 4 (I.named_index code) i j (length raw) room)

  write-binary : By (Q.write_indexed_rules 3 code i j (length raw) room) (told_binary_written (I.write_indexed_binary code i j raw room))
  unfolding I.write_indexed_binary
  write-binary = rw binary-outcome (writes 3 (I.named_index code) i j (length raw) room)

  text-zero : (m p : ℕ) → I.write_indexed_text code i j raw room ≡ refused_by m p → p ≡ 0
  unfolding I.write_indexed_text W.text_outcome
  text-zero m p = by (I.writing_indexed 4 (I.named_index code) i j (length raw) room) (at_zero 4 (I.named_index code) i j (length raw) room)
    where
      by : (w : W.Writing) → AtZero w → W.text_outcome w ≡ refused_by m p → p ≡ 0
      by (W.refused n q) z e = let y : q ≡ p = ap refusal_place e in sym y ∙ z
      by (W.written n) z e = let y : ◌≡◌ {A = ℕ} 0 1 = cc in absurd (omega arith)

  binary-zero : (m p : ℕ) → I.write_indexed_binary code i j raw room ≡ refused_by m p → p ≡ 0
  unfolding I.write_indexed_binary W.binary_outcome
  binary-zero m p = by (I.writing_indexed 3 (I.named_index code) i j (length raw) room) (at_zero 3 (I.named_index code) i j (length raw) room)
    where
      by : (w : W.Writing) → AtZero w → W.binary_outcome w ≡ refused_by m p → p ≡ 0
      by (W.refused n q) z e = let y : q ≡ p = ap refusal_place e in sym y ∙ z
      by (W.written n) z e = let y : ◌≡◌ {A = ℕ} 0 1 = cc in absurd (omega arith)

-- ---- reading

by-verdict : (k : Kind) (h n : ℕ) (s : List ℕ) (v : Verdict) → Judged (C.indexed_judging k h (take (4 * n) s)) v
    → Reads (C.indexed_judging k h (take (4 * n) s)) k h n (judged k h n v)
unfolding judged
by-verdict k h n s v (passes q) = there q
by-verdict k h n s v (refuses f) = not_there f

-- the indexed table opens no other kind
kind-reads : (k : Kind) (h n : ℕ) (s : List ℕ) → FramesIndexed (Item k h n)
    → Reads (C.indexed_judging k h (take (4 * n) s)) k h n (I.read_indexed_framed (Item k h n) s)
unfolding I.read_indexed_framed
kind-reads (Fixed c) h n s i = absurd i
kind-reads (Variable t l c) h n s i = absurd i
kind-reads (Group l) h n s i = absurd i
kind-reads Genus h n s i = absurd i
kind-reads (Indexed c) h n s i = by-verdict (Indexed c) h n s _ (own-judged 0 (Indexed c) h (take (4 * n) s))

module _ (s : List ℕ) where
  abbrev behind_framing : List Rule
  behind_framing = C.indexed_judging (C.item_kind true s) (C.item_head true s) (take (4 * C.item_size true s) s)

  abbrev from_framing : List Rule
  from_framing = C.framing true s ++ behind_framing

  reads : Reads from_framing (C.item_kind true s) (C.item_head true s) (C.item_size true s) (I.reading_indexed s)
  unfolding I.reading_indexed I.read_indexed_framed
  reads = go (frame_indexed s) refl (frame-indexed s)
    where
      go : (r : Framed) → frame_indexed s ≡ r → FramesIndexed r
          → Reads from_framing (C.item_kind true s) (C.item_head true s) (C.item_size true s) (I.read_indexed_framed r s)
      go (Unframed m p) e i = not_there (in-front (C.framing true s) behind_framing m (unframed-first true s m p e))
      go (Item k h n) e i =
          let f = framed-found true s k h n e in
          rw (f.kind, f.head, f.size) (behind-framing (C.framing true s) behind_framing _ _ _ _ f.none
          (kind-reads (C.item_kind true s) (C.item_head true s) (C.item_size true s) s (subst (λ (x : Kind). FramesIndexed (Item x h n)) f.kind i)))

  -- at or past the end there is no unit, which is 4
  no-unit : length s / 4 ≡ 0 → I.reading_indexed s ≡ refused 4 0
  unfolding I.reading_indexed I.read_indexed_framed frame_indexed frame_with
  no-unit e = rw (lt-ltb (length s / 4) 1 (omega arith))

told_text_found : Result IndexedItem (Refusal TextOffset) → Told
told_text_found (Ok p) = accepted
told_text_found (Err e) = told e.number

told_binary_found : Result IndexedItem (Refusal BinaryOffset) → Told
told_binary_found (Ok p) = accepted
told_binary_found (Err e) = told e.number

-- 3, behind all that reading asks
text-answer : (at : ℕ) (rs : List Rule) (k : Kind) (h n : ℕ) (r : Reading) (s : List ℕ) (room : ℕ) → Reads rs k h n r
    → By (rs ++ (3 when (room < 3 * n - raw_start k h) ∷ [])) (told_text_found (I.text_indexed_answer at r s room))
unfolding I.text_indexed_answer told_text_found
text-answer at rs k h n r s room (not_there {m = m} f) = first (in-front rs _ m f)
text-answer at rs k h n r s room (there q) =
    behind-rules rs _ _ q (ask-lt told_text_found room (3 * n - raw_start k h) 3 _ _ _ refl (none tt))

binary-answer : (at : ℕ) (rs : List Rule) (k : Kind) (h n : ℕ) (r : Reading) (s : List ℕ) → Reads rs k h n r
    → By rs (told_binary_found (I.binary_indexed_answer at r s))
unfolding I.binary_indexed_answer told_binary_found
binary-answer at rs k h n r s (not_there f) = first f
binary-answer at rs k h n r s (there q) = none q

text-read : (xs : List ℕ) (at room : ℕ) → By (Q.read_indexed_text_rules xs at room) (told_text_found (I.read_indexed_text xs at room))
unfolding I.read_indexed_text from I.text_indexed_answer told_text_found
text-read xs at room =
    let s : List ℕ = text.sextets (drop at xs) in
    ask-lt told_text_found text.limit (length xs) 1 _ _ _ refl
    (⊎_elim (λ l. skip (4 when (length xs ≤ at)) _ _ (λ g. omega arith) (text-answer at (from_framing s) _ _ _ (I.reading_indexed s) s room (reads s)))
    (λ g. rw (no-unit s (omega (arith, text-reader.units (drop at xs), length-drop at xs))) (first (inl (g, refl))))
    (lt-or-ge at (length xs)))

binary-read : (xs : List ℕ) (at : ℕ) → By (Q.read_indexed_binary_rules xs at) (told_binary_found (I.read_indexed_binary xs at))
unfolding I.read_indexed_binary from I.binary_indexed_answer told_binary_found
binary-read xs at =
    let s : List ℕ = binary.sextets (drop at xs) in
    ask-lt told_binary_found binary.limit (length xs) 1 _ _ _ refl
    (⊎_elim (λ l. skip (4 when (length xs ≤ at)) _ _ (λ g. omega arith) (binary-answer at (from_framing s) _ _ _ (I.reading_indexed s) s (reads s)))
    (λ g. rw (no-unit s (omega (arith, binary-reader.units (drop at xs), length-drop at xs))) (first (inl (g, refl))))
    (lt-or-ge at (length xs)))

-- no sextet of a binary is outside the alphabet: neither 5 nor 19
module _ (xs : List ℕ) (at : ℕ) where
  abbrev from_offset : List ℕ
  from_offset = binary.sextets (drop at xs)

  all_known : (start stop : ℕ) → Clean (sextet from_offset) start stop
  all_known = clean from_offset (binary-below (drop at xs))

  own-known : (start stop : ℕ) → Clean (sextet (take (4 * C.item_size true from_offset) from_offset)) start stop
  own-known = clean _ (below-take 64 (4 * C.item_size true from_offset) from_offset (binary-below (drop at xs)))

  no-five : Allowed (1 ∷ 4 ∷ 6 ∷ 8 ∷ 15 ∷ []) (Q.read_indexed_binary_rules xs at)
  no-five =
      inl tt & inl tt & inl tt & inr (clean-other _ _ _ (all_known _ _)) & inr (clean-ordinary _ _ _ (all_known _ _)) & inl tt & inl tt
      & inr (clean-other _ _ _ (all_known _ _)) & inr (clean-ordinary _ _ _ (all_known _ _)) & inl tt
      & inr (clean-other _ _ _ (own-known _ _)) & inr (clean-ordinary _ _ _ (own-known _ _)) & inl tt & inl tt & end

-- ---- all of it

pub indexed-calls : IndexedCalls
unfolding I.indexed_left I.indexed_part I.text_indexed_left I.binary_indexed_left told_text_found told_binary_found told_text_written told_binary_written
indexed-calls = record {
  read-text = λ s at d m p e. (
    refusal _ (Q.read_indexed_text_rules s at (length d)) m (λ z. z)
        (inl tt & inl tt & inl tt & inl tt & inl tt & inl tt & inl tt & inl tt & inl tt & inl tt & inl tt & inl tt & inl tt & inl tt & inl tt & end)
        (by_first _ m (subst (By (Q.read_indexed_text_rules s at (length d))) (ap told_text_found e) (text-read s at (length d)))),
    rw e,
  );
  read-text-accepts = λ s at d q e.
      by-none (Q.read_indexed_text_rules s at (length d))
      (subst (By (Q.read_indexed_text_rules s at (length d))) (ap told_text_found e) (text-read s at (length d)));
  read-binary = λ s at m p e. (
    refusal _ (Q.read_indexed_binary_rules s at) m (λ z. z) (no-five s at)
        (by_first _ m (subst (By (Q.read_indexed_binary_rules s at)) (ap told_binary_found e) (binary-read s at))),
    rw e,
  );
  read-binary-accepts = λ s at q e.
      by-none (Q.read_indexed_binary_rules s at) (subst (By (Q.read_indexed_binary_rules s at)) (ap told_binary_found e) (binary-read s at));
  write-text = λ code i j raw d m p e. (
    refusal _ _ m (λ z. z) (inl tt & inl tt & inl tt & inl tt & end)
        (by_first _ m (subst (By _) (ap told_text_written e) (write-text code i j raw (length d)))),
    text-zero code i j raw (length d) m p e,
    rw e,
  );
  write-text-accepts = λ code i j raw d n e. by-none _ (subst (By _) (ap told_text_written e) (write-text code i j raw (length d)));
  write-binary = λ code i j raw d m p e. (
    refusal _ _ m (λ z. z) (inl tt & inl tt & inl tt & inl tt & end)
        (by_first _ m (subst (By _) (ap told_binary_written e) (write-binary code i j raw (length d)))),
    binary-zero code i j raw (length d) m p e,
    rw e,
  );
  write-binary-accepts = λ code i j raw d n e. by-none _ (subst (By _) (ap told_binary_written e) (write-binary code i j raw (length d)));
}
