-- The writer writes own sextets back, and what it writes are own sextets, whatever the code. Assumes nothing.
use Rattle.std.specs.Prelude.{ℕ, ◌+◌, ◌≤◌, ◌<◌, refl, Bool, true, false, not, ◌⊎◌, eqb, length}
use Rattle.std.proofs.Math.Path.{◌≡◌}
use Rattle.std.proofs.Common.{ap, ◌∙◌, sym, subst, inl, inr, arith, eqb-true, leb-true}
use mathlib.Core.List.{List, []}
use Rattle.std.proofs.Math.Logic.{⊎_elim}
use Rattle.std.proofs.lemmas.Bool.{eqb-false}
use Rattle.base.specs.Pick.{pick, pick-by}
use Rattle.base.specs.Cases.{whether}
use Rattle.base.specs.Digits.{Below}
use Rattle.format.specs.declared.CodeRow.{CodeRow}
use Rattle.format.specs.declared.Kind.{Kind}
use Rattle.format.specs.declared.Kind.TheVariants.{Fixed, Variable, Group, Genus, Indexed}
use Rattle.format.specs.declared.Opening.{Opening}
use Rattle.format.specs.declared.Opening.TheVariants.{Unknown, Short, Long, LargeVariable, LargeGroup, Version}
use Rattle.format.specs.declared.Code.{Code}
use Rattle.format.specs.declared.Code.TheVariants as C
use Rattle.format.specs.Alphabet.{sextet_of, char_of}
use Rattle.format.specs.Units.{text_sextets}
use Rattle.format.specs.Registry.{is_type, is_text, fixed}
use Rattle.format.specs.Texts.{fill_for}
use Rattle.format.specs.Framing.{sextet}
use Rattle.format.specs.Values.{value_of, tag_of}
use Rattle.format.specs.Reading.{code_of, tags_of}
use Rattle.format.specs.Writing.{Named, unknown, row, variable, textual, named_fixed, named_variable, named, raw_size, fits_row, raw_limit, fits_variable}
use Rattle.format.specs.Writing.{text_limit, fits_text, is_named, is_fit, is_short, chars_of, begins_right}
use Rattle.laws.specs.Alphabet.{sextet-char, char-sextet}
use Rattle.roundtrip_laws.specs.Bytes.{no_length}
use Rattle.roundtrip_laws.specs.Rows.{Row, row-found, type-low}
use Rattle.roundtrip_laws.specs.Own.{Headed, small, large, Own}
use Rattle.roundtrip_laws.specs.Words.{name_of, code_for, Writes, Made, fixed-value, counted-value}
use Rattle.roundtrip_laws.specs.Raws.{raw-writes, raw-made}
use Rattle.roundtrip_laws.specs.Tags.{tag-writes, tag-made}
use Rattle.roundtrip_laws.specs.Counts.{counted-writes, counted-made}
use Rattle.roundtrip_laws.specs.Texts.{text-writes, text-made}

-- ---- codes

-- what a code names
data Names : Code → Named → Type 0 where
  fixed_code : {c : CodeRow} {n chars letter : ℕ} → Row c n → c.chars ≡ chars → c.letter ≡ sextet_of letter
      → Names (C.Fixed chars letter) (row c)
  small_code : {letter : ℕ} → is_type (sextet_of letter) ≡ true → is_text (sextet_of letter) ≡ false
      → Names (C.Small letter) (variable (sextet_of letter) 1)
  large_code : {letter : ℕ} → is_type (sextet_of letter) ≡ true → is_text (sextet_of letter) ≡ false
      → Names (C.Large letter) (variable (sextet_of letter) 2)
  small_text : {letter : ℕ} → is_text (sextet_of letter) ≡ true → Names (C.Small letter) (textual 1)
  large_text : {letter : ℕ} → is_text (sextet_of letter) ≡ true → Names (C.Large letter) (textual 2)
  no_code : {code : Code} → Names code unknown

names : (code : Code) → Names code (named code)
unfolding named named_fixed named_variable
names (C.Fixed chars letter) = by (fixed chars (sextet_of letter)) refl
  where
    by : (o : Opening) → fixed chars (sextet_of letter) ≡ o → Names (C.Fixed chars letter) (named_fixed o)
    by Unknown e = no_code
    by (Short (Fixed c) n) e = let r = row-found chars (sextet_of letter) c n e in fixed_code r.0 r.1 r.2
    by (Short (Variable t l m) n) e = no_code
    by (Short (Group l) n) e = no_code
    by (Short Genus n) e = no_code
    by (Short (Indexed c) n) e = no_code
    by (Long k n) e = no_code
    by (LargeVariable t l) e = no_code
    by (LargeGroup l d) e = no_code
    by Version e = no_code
names (C.Small letter) =
    pick-by (Names (C.Small letter)) (is_type (sextet_of letter)) _ _
    (λ a. pick-by (Names (C.Small letter)) (is_text (sextet_of letter)) _ _ small_text (small_code a)) (λ _. no_code)
names (C.Large letter) =
    pick-by (Names (C.Large letter)) (is_type (sextet_of letter)) _ _
    (λ a. pick-by (Names (C.Large letter)) (is_text (sextet_of letter)) _ _ large_text (large_code a)) (λ _. no_code)

text-letter : (letter : ℕ) → is_text (sextet_of letter) ≡ true → char_of 0 ≡ letter
unfolding is_text
text-letter letter t =
    let z : sextet_of letter ≡ 0 = eqb-true (sextet_of letter) 0 t in
    ap char_of (sym z) ∙ char-sextet letter (omega arith)

-- such a code is what the reader calls it
code_is : (code : Code) (name : Named) → Names code name → is_named name ≡ true → code_for name ≡ code
unfolding is_named
code_is _ _ (fixed_code {c} {n} {chars} {letter} r a b) k =
    let l : sextet_of letter < 64 = omega (arith, r.lettered) in
    rw (a, b, char-sextet letter l)
code_is _ _ (small_code {letter} t p) k = rw (char-sextet letter (type-low (sextet_of letter) t))
code_is _ _ (large_code {letter} t p) k = rw (char-sextet letter (type-low (sextet_of letter) t))
code_is _ _ (small_text {letter} t) k = ap C.Small (text-letter letter t)
code_is _ _ (large_text {letter} t) k = ap C.Large (text-letter letter t)
code_is _ _ no_code k = let z : ◌≡◌ {A = ℕ} 0 1 = cc in absurd (omega arith)

-- what was read is what its code names
pub own-named : (k : Kind) (h n : ℕ) (s : List ℕ) → Own k h n s → named (code_of k h) ≡ name_of k h
unfolding named named_fixed named_variable code_of
own-named (Fixed c) h n s o =
    let r = o.form.row in
    let l : c.letter < 64 = omega (arith, r.lettered) in
    ap (λ (x : ℕ). named_fixed (fixed c.chars x)) (sextet-char c.letter l) ∙ ap named_fixed r.found
own-named (Variable t l m) h n s o = by o.form.head
  where
    by : Headed t l m h (sextet s) → named (pick (eqb h 1) (C.Small (char_of t)) (C.Large (char_of t))) ≡ pick (is_text t) (textual h) (variable t h)
    by (small e a b d) = rw (e, sextet-char t (type-low t o.form.type), o.form.type)
    by (large e a b c d g) = rw (e, sextet-char t (type-low t o.form.type), o.form.type)
own-named (Group l) h n s o = absurd o.form
own-named Genus h n s o = absurd o.form
own-named (Indexed c) h n s o = absurd o.form

-- ---- written back

pub own-writes : (k : Kind) (h n : ℕ) (s : List ℕ) → Own k h n s → n ≤ 1048576
    → Writes (name_of k h) (tag_of k s) (tags_of k) (value_of k h s) n s
own-writes (Fixed c) h n s o few =
    rw (fixed-value c h s)
    (⊎_elim (λ e. raw-writes c n o.form.row (eqb-true c.tag 0 e) h s o)
    (λ e. tag-writes c n o.form.row (eqb-false c.tag 0 e) h s o)
    (whether (eqb c.tag 0)))
own-writes (Variable t l m) h n s o few =
    ⊎_elim (λ e. by true e (text-writes t l m h n s o e few))
    (λ e. by false e (rw (counted-value t l m h s e) (counted-writes t l m h n s o e few)))
    (whether (is_text t))
  where
    by : (b : Bool) → is_text t ≡ b
        → Writes (pick b (textual h) (variable t h)) (tag_of (Variable t l m) s) (tags_of (Variable t l m)) (value_of (Variable t l m) h s) n s
        → Writes (name_of (Variable t l m) h) (tag_of (Variable t l m) s) (tags_of (Variable t l m)) (value_of (Variable t l m) h s) n s
    by b e w =
        subst (λ (x : Bool). Writes (pick x (textual h) (variable t h)) (tag_of (Variable t l m) s) (tags_of (Variable t l m))
        (value_of (Variable t l m) h s) n s) (sym e) w
own-writes (Group l) h n s o few = absurd o.form
own-writes Genus h n s o few = absurd o.form
own-writes (Indexed c) h n s o few = absurd o.form

-- ---- written

row_fits : (c : CodeRow) (tags raw : ℕ) → fits_row c tags raw ≡ true → (tags ≡ c.tag) × (raw ≡ raw_size c)
unfolding fits_row
row_fits c tags raw =
    pick-by (λ b. b ≡ true → (tags ≡ c.tag) × (raw ≡ raw_size c)) (eqb tags c.tag) _ _
    (λ a b. (eqb-true tags c.tag a, eqb-true raw (raw_size c) b)) (λ a b. let z : ◌≡◌ {A = ℕ} 0 1 = cc in absurd (omega arith))

variable-fits : (h tags raw : ℕ) → fits_variable h tags raw ≡ true → (tags ≡ 0) × (raw ≤ raw_limit h)
unfolding fits_variable
variable-fits h tags raw =
    pick-by (λ b. b ≡ true → (tags ≡ 0) × (raw ≤ raw_limit h)) (eqb tags 0) _ _
    (λ a b. (eqb-true tags 0 a, leb-true raw (raw_limit h) b)) (λ a b. let z : ◌≡◌ {A = ℕ} 0 1 = cc in absurd (omega arith))

pub text-fits : (h tags chars : ℕ) → fits_text h tags chars ≡ true → (tags ≡ 0) × (chars + fill_for chars ≤ text_limit h)
unfolding fits_text
text-fits h tags chars =
    pick-by (λ b. b ≡ true → (tags ≡ 0) × (chars + fill_for chars ≤ text_limit h)) (eqb tags 0) _ _
    (λ a b. (eqb-true tags 0 a, leb-true (chars + fill_for chars) (text_limit h) b)) (λ a b. let z : ◌≡◌ {A = ℕ} 0 1 = cc in absurd (omega arith))

not-true : (b : Bool) → not b ≡ true → b ≡ false
not-true true e = let z : ◌≡◌ {A = ℕ} 0 1 = cc in absurd (omega arith)
not-true false e = refl

module _ (tag raw : List ℕ) (tags : ℕ) (count : length tag ≡ tags) (bytes : Below 256 raw) where
  texted : (h : ℕ) → (h ≡ 1) ⊎ (h ≡ 2) → fits_text h tags (length raw) ≡ true → is_short (textual h) (length raw) ≡ true
      → Below 64 (text_sextets raw) → begins_right (textual h) raw ≡ true → Made (textual h) tag tags raw
  unfolding is_short begins_right text_sextets
  texted h small-or-large f short alphabet begins =
      let v = text-fits h tags (length raw) f in
      let none : tag ≡ [] = no_length tag (count ∙ v.0) in
      rw (none, v.0) (text-made raw alphabet (not-true _ begins) h small-or-large v.1 short)

  variable-made : (t h : ℕ) → is_type t ≡ true → is_text t ≡ false → (h ≡ 1) ⊎ (h ≡ 2) → fits_variable h tags (length raw) ≡ true
      → is_short (variable t h) (length raw) ≡ true → Made (variable t h) tag tags raw
  unfolding is_short
  variable-made t h ty plain small-or-large f short =
      let v = variable-fits h tags (length raw) f in
      let none : tag ≡ [] = no_length tag (count ∙ v.0) in
      rw (none, v.0) (counted-made t raw ty plain bytes h small-or-large v.1 short)

  made_by : (code : Code) (name : Named) → Names code name → is_fit name tags (length raw) ≡ true → is_short name (length raw) ≡ true
      → Below 64 (text_sextets (chars_of name tag raw)) → begins_right name raw ≡ true → Made name tag tags raw
  unfolding is_fit chars_of
  made_by _ _ (fixed_code {c} {n} {chars} {letter} r a b) f short alphabet begins =
      let v = row_fits c tags (length raw) f in
      ⊎_elim (λ e. raw-made c n r (eqb-true c.tag 0 e) tag raw tags v.0 v.1 count bytes)
      (λ e. tag-made c n r (eqb-false c.tag 0 e) tag raw tags v.0 v.1 count alphabet)
      (whether (eqb c.tag 0))
  made_by _ _ (small_code {letter} t p) f short alphabet begins = variable-made (sextet_of letter) 1 t p (inl refl) f short
  made_by _ _ (large_code {letter} t p) f short alphabet begins = variable-made (sextet_of letter) 2 t p (inr refl) f short
  made_by _ _ (small_text {letter} t) f short alphabet begins = texted 1 (inl refl) f short alphabet begins
  made_by _ _ (large_text {letter} t) f short alphabet begins = texted 2 (inr refl) f short alphabet begins
  made_by _ _ no_code f short alphabet begins = let z : ◌≡◌ {A = ℕ} 0 1 = cc in absurd (omega arith)

  pub made : (code : Code) → is_fit (named code) tags (length raw) ≡ true → is_short (named code) (length raw) ≡ true
      → Below 64 (text_sextets (chars_of (named code) tag raw)) → begins_right (named code) raw ≡ true → Made (named code) tag tags raw
  made code f short alphabet begins = made_by code (named code) (names code) f short alphabet begins

pub made_code : (code : Code) → is_named (named code) ≡ true → code_for (named code) ≡ code
made_code code k = code_is code (named code) (names code) k
