-- One spelling: a primitive's type and value decide its own sextets. What they leave open is a small or a large header, and the count decides
-- that. Assumes nothing.
use Rattle.std.specs.Prelude.{ℕ, ◌+◌, ◌*◌, ◌≤◌, ◌≡◌, refl, List, ◌++◌, Bool, true, false, eqb, length, take, drop}
use Rattle.std.proofs.Math.Path.{ap, sym}
use Rattle.std.proofs.Common.{◌∙◌, arith, lit<, leb-true}
use Rattle.base.specs.Pick.{pick, pick-by}
use Rattle.base.specs.Digits.{Below}
use Rattle.format.specs.declared.Kind.{Kind}
use Rattle.format.specs.declared.Kind.TheVariants.{Fixed, Variable, Group, Genus, Indexed}
use Rattle.format.specs.declared.Primitive.{Primitive}
use Rattle.format.specs.declared.Code.{Code}
use Rattle.format.specs.declared.Code.TheVariants as C
use Rattle.format.specs.Alphabet.{char_of, sextet_of}
use Rattle.format.specs.Units.{text, binary_sextets}
use Rattle.format.specs.Conversion.{to_text}
use Rattle.format.specs.Registry.{is_type, is_text}
use Rattle.format.specs.Texts.{text_count}
use Rattle.format.specs.Framing.{sextet}
use Rattle.format.specs.Judging.{is_shortest}
use Rattle.format.specs.Values.{bytes_in, value_of, tag_of}
use Rattle.format.specs.Reading.{code_of, tags_of, primitive_of, found, reading, padded, read_text, value_left, read_binary, chars_left, part_at}
use Rattle.format.specs.Writing.{Named, unknown, row, variable, textual, count_for, units_of, named, written_bytes}
use Rattle.laws.specs.Alphabet.{sextet-char}
use Rattle.roundtrip_laws.specs.Bytes.{below-any, sextets-back}
use Rattle.roundtrip_laws.specs.Rows.{type-low}
use Rattle.roundtrip_laws.specs.Own.{Headed, small, large, Own}
use Rattle.roundtrip_laws.specs.Words.{name_of}
use Rattle.roundtrip_laws.specs.Reads.{read-own}
use Rattle.roundtrip_laws.specs.Writes.{own-named, own-writes}
use Rattle.roundtrip.proofs.Sextets.{reads-written}
use Rattle.roundtrip.proofs.Calls.{From, value-length, text-short, binary-short, text-from, text-back, text-whole, text-value}
use Rattle.roundtrip.proofs.Calls.{binary-from, binary-back, binary-value}
use Rattle.roundtrip.specs.Claims.{type_of, OneSpelling}
use Rattle.std.specs.Prelude.{Ok}

-- ---- the code

pub type-small : (t h : ℕ) → type_of (pick (eqb h 1) (C.Small (char_of t)) (C.Large (char_of t))) ≡ C.Small (char_of t)
type-small t h = pick-by (λ (c : Code). type_of c ≡ C.Small (char_of t)) (eqb h 1) _ _ (λ _. refl) (λ _. refl)

-- a small header counts below 4,096 units, a large one from there on
same_head : (t l m h t' l' m' h' : ℕ) (s s' : List ℕ) (n n' : ℕ) → Own (Variable t l m) h n s → Own (Variable t' l' m') h' n' s'
    → m ≡ m' → h ≡ h'
unfolding is_shortest
same_head t l m h t' l' m' h' s s' n n' o o' e = by o.form.head o'.form.head
  where
    by : Headed t l m h (sextet s) → Headed t' l' m' h' (sextet s') → h ≡ h'
    by (small a b c d) (small a' b' c' d') = a ∙ sym a'
    by (large a b c d f g) (large a' b' c' d' f' g') = a ∙ sym a'
    by (small a b c d) (large a' b' c' d' f' g') =
        let w = below-any 64 s (lit< tt) o.low in
        absurd (omega (arith, w 2, w 3, leb-true 4096 m' (rw a' at o'.form.shortest)))
    by (large a b c d f g) (small a' b' c' d') =
        let w = below-any 64 s' (lit< tt) o'.low in
        absurd (omega (arith, w 2, w 3, leb-true 4096 m (rw a at o.form.shortest)))

-- a value of type t and so many bytes, or characters, has so many units
abbrev units_for : ℕ → ℕ → ℕ
units_for t r = pick (is_text t) (text_count r) (count_for r)

units-named : (t h r : ℕ) (b : Bool) → units_of (pick b (textual h) (variable t h)) r ≡ h + pick b (text_count r) (count_for r)
unfolding units_of
units-named t h r true = refl
units-named t h r false = refl

count-is : (t l m h n : ℕ) (s : List ℕ) → Own (Variable t l m) h n s → n ≤ 1048576 → units_for t (length (value_of (Variable t l m) h s)) ≡ m
count-is t l m h n s o few =
    let w = own-writes (Variable t l m) h n s o few in
    omega (arith, w.units, units-named t h (length (value_of (Variable t l m) h s)) (is_text t), o.form.units)

pub same-letter : (t t' : ℕ) → is_type t ≡ true → is_type t' ≡ true → char_of t ≡ char_of t' → t ≡ t'
same-letter t t' e e' c = sym (sextet-char t (type-low t e)) ∙ ap sextet_of c ∙ sextet-char t' (type-low t' e')

-- the value's length tells the count, and this the header
same_code : (k k' : Kind) (h h' n n' : ℕ) (s s' : List ℕ) → Own k h n s → Own k' h' n' s' → n ≤ 1048576 → n' ≤ 1048576
    → type_of (code_of k h) ≡ type_of (code_of k' h') → length (value_of k h s) ≡ length (value_of k' h' s') → code_of k h ≡ code_of k' h'
unfolding code_of
same_code (Fixed c) (Fixed c') h h' n n' s s' o o' few few' t e = t
same_code (Fixed c) (Variable t' l' m') h h' n n' s s' o o' few few' t e =
    let q = t ∙ type-small t' h' in let z : ◌≡◌ {A = ℕ} 0 1 = cc in absurd (omega arith)
same_code (Variable t₁ l m) (Fixed c') h h' n n' s s' o o' few few' t e =
    let q = sym t ∙ type-small t₁ h in let z : ◌≡◌ {A = ℕ} 0 1 = cc in absurd (omega arith)
same_code (Variable t₁ l m) (Variable t' l' m') h h' n n' s s' o o' few few' t e =
    let letter : C.Small (char_of t₁) ≡ C.Small (char_of t') = sym (type-small t₁ h) ∙ t ∙ type-small t' h' in
    let c : char_of t₁ ≡ char_of t' = cc in
    let type : t₁ ≡ t' = same-letter t₁ t' o.form.type o'.form.type c in
    let r = length (value_of (Variable t' l' m') h' s') in
    let count : m ≡ m' =
    sym (count-is t₁ l m h n s o few) ∙ ap (units_for t₁) e ∙ ap (λ (x : ℕ). units_for x r) type ∙ count-is t' l' m' h' n' s' o' few' in
    let head : h ≡ h' = same_head t₁ l m h t' l' m' h' s s' n n' o o' count in
    rw (head, c)
same_code (Group l) k' h h' n n' s s' o o' few few' t e = absurd o.form
same_code Genus k' h h' n n' s s' o o' few few' t e = absurd o.form
same_code (Indexed c) k' h h' n n' s s' o o' few few' t e = absurd o.form
same_code (Fixed c) (Group l') h h' n n' s s' o o' few few' t e = absurd o'.form
same_code (Fixed c) Genus h h' n n' s s' o o' few few' t e = absurd o'.form
same_code (Fixed c) (Indexed c') h h' n n' s s' o o' few few' t e = absurd o'.form
same_code (Variable t₁ l m) (Group l') h h' n n' s s' o o' few few' t e = absurd o'.form
same_code (Variable t₁ l m) Genus h h' n n' s s' o o' few few' t e = absurd o'.form
same_code (Variable t₁ l m) (Indexed c') h h' n n' s s' o o' few few' t e = absurd o'.form

-- and the code how many tag characters there are
abbrev tags_in : Named → ℕ
tags_in unknown = 0
tags_in (row c) = c.tag
tags_in (variable t h) = 0
tags_in (textual h) = 0

tags-named : (k : Kind) (h : ℕ) → tags_in (name_of k h) ≡ tags_of k
unfolding tags_of
tags-named (Fixed c) h = refl
tags-named (Variable t l m) h = pick-by (λ (x : Named). tags_in x ≡ 0) (is_text t) (textual h) (variable t h) (λ _. refl) (λ _. refl)
tags-named (Group l) h = refl
tags-named Genus h = refl
tags-named (Indexed c) h = refl

same-tags : (k k' : Kind) (h h' n n' : ℕ) (s s' : List ℕ) → Own k h n s → Own k' h' n' s' → code_of k h ≡ code_of k' h' → tags_of k ≡ tags_of k'
same-tags k k' h h' n n' s s' o o' c =
    sym (tags-named k h) ∙ ap tags_in (sym (own-named k h n s o) ∙ ap named c ∙ own-named k' h' n' s' o') ∙ tags-named k' h'

-- ---- the sextets

-- the writer is given the same
same_bytes : (c c' : Code) (g g' : List ℕ) (n n' : ℕ) (raw raw' : List ℕ) → c ≡ c' → g ≡ g' → n ≡ n' → raw ≡ raw'
    → written_bytes c g n raw ≡ written_bytes c' g' n' raw'
same_bytes c c' g g' n n' raw raw' a b d e = rw (a, b, d, e)

same-sextets : (s s' : List ℕ) (k k' : Kind) (h h' n n' : ℕ) → reading s ≡ found k h n → reading s' ≡ found k' h' n'
    → n * 4 ≤ text.limit → n' * 4 ≤ text.limit → type_of (code_of k h) ≡ type_of (code_of k' h')
    → let own = take (4 * n) s in let own' = take (4 * n') s' in
    tag_of k own ≡ tag_of k' own' → value_of k h own ≡ value_of k' h' own' → own ≡ own'
same-sextets s s' k k' h h' n n' r r' few few' t g value =
    let own = take (4 * n) s in
    let own' = take (4 * n') s' in
    let o = (read-own s k h n r).0 in
    let o' = (read-own s' k' h' n' r').0 in
    let c = same_code k k' h h' n n' own own' o o' (omega arith) (omega arith) t (ap length value) in
    let b : bytes_in own ≡ bytes_in own' =
    sym (reads-written s k h n r (omega arith)).bytes
    ∙ same_bytes _ _ _ _ _ _ _ _ c (ap padded g) (same-tags k k' h h' n n' own own' o o' c) value
    ∙ (reads-written s' k' h' n' r' (omega arith)).bytes in
    sym (sextets-back own (omega (arith, o.size)) o.low) ∙ ap binary_sextets b ∙ sextets-back own' (omega (arith, o'.size)) o'.low

-- ---- the calls

module _ {s s' : List ℕ} {long limit long' limit' : ℕ} (p p' : Primitive) (f : From s long limit p) (f' : From s' long' limit' p')
    (short : length s ≤ 4194304) (short' : length s' ≤ 4194304) (t : type_of p.code ≡ type_of p'.code)
    (e : p.raw + p.text ≡ p'.raw + p'.text) where
  own_first : Own f.kind f.head f.size (take (4 * f.size) s) × (4 * f.size ≤ length s)
  own_first = read-own s f.kind f.head f.size f.reads

  own-second : Own f'.kind f'.head f'.size (take (4 * f'.size) s') × (4 * f'.size ≤ length s')
  own-second = read-own s' f'.kind f'.head f'.size f'.reads

  code-of : code_of f.kind f.head ≡ code_of f'.kind f'.head
  unfolding primitive_of
  code-of =
      same_code _ _ _ _ _ _ _ _ own_first.0 own-second.0 (omega (arith, own_first.1)) (omega (arith, own-second.1))
      (ap (λ (x : Primitive). type_of x.code) (sym f.item) ∙ t ∙ ap (λ (x : Primitive). type_of x.code) f'.item)
      (value-length _ _ _ _ own_first.0 ∙ ap (λ (x : Primitive). x.raw + x.text) (sym f.item) ∙ e
      ∙ ap (λ (x : Primitive). x.raw + x.text) f'.item ∙ sym (value-length _ _ _ _ own-second.0))

  told-code : p.code ≡ p'.code
  unfolding primitive_of
  told-code = ap (λ (x : Primitive). x.code) f.item ∙ code-of ∙ ap (λ (x : Primitive). x.code) (sym f'.item)

  told-tags : p.tags ≡ p'.tags
  unfolding primitive_of
  told-tags =
      ap (λ (x : Primitive). x.tags) f.item ∙ same-tags _ _ _ _ _ _ _ _ own_first.0 own-second.0 code-of
      ∙ ap (λ (x : Primitive). x.tags) (sym f'.item)

text-calls : (xs xs' : List ℕ) (at at' room room' : ℕ) (p p' : Primitive) (d d' : List ℕ)
    → (read_text xs at room).found ≡ Ok p → (read_text xs' at' room').found ≡ Ok p'
    → type_of p.code ≡ type_of p'.code → (read_text xs at room).tag ≡ (read_text xs' at' room').tag
    → take (p.raw + p.text) (value_left (Ok p) xs at d) ≡ take (p'.raw + p'.text) (value_left (Ok p') xs' at' d')
    → take (p.size * 4) (drop at xs) ≡ take (p'.size * 4) (drop at' xs')
text-calls xs xs' at at' room room' p p' d d' r r' t g value =
    let f = (text-from xs at room p r).0 in
    let f' = (text-from xs' at' room' p' r').0 in
    let s = text-short xs at f.short in
    let s' = text-short xs' at' f'.short in
    let l = sym (text-value xs at room p d r) ∙ ap length value ∙ text-value xs' at' room' p' d' r' in
    let w = (text-back xs at room p d r).bytes in
    let w' = (text-back xs' at' room' p' d' r').bytes in
    sym (ap to_text w ∙ text-whole xs at room p r)
    ∙ ap to_text (same_bytes _ _ _ _ _ _ _ _ (told-code p p' f f' s s' t l) g (told-tags p p' f f' s s' t l) value)
    ∙ (ap to_text w' ∙ text-whole xs' at' room' p' r')

binary-calls : (xs xs' : List ℕ) (at at' room room' : ℕ) (p p' : Primitive) (d d' : List ℕ) → Below 256 xs → Below 256 xs'
    → (read_binary xs at room).found ≡ Ok p → (read_binary xs' at' room').found ≡ Ok p'
    → type_of p.code ≡ type_of p'.code → (read_binary xs at room).tag ≡ (read_binary xs' at' room').tag
    → part_at xs at (Ok p) ≡ part_at xs' at' (Ok p')
    → take p.text (chars_left (Ok p) xs at d) ≡ take p'.text (chars_left (Ok p') xs' at' d')
    → take (p.size * 3) (drop at xs) ≡ take (p'.size * 3) (drop at' xs')
binary-calls xs xs' at at' room room' p p' d d' low low' r r' t g part text =
    let f = (binary-from xs at room p r).0 in
    let f' = (binary-from xs' at' room' p' r').0 in
    let s = binary-short xs at f.short in
    let s' = binary-short xs' at' f'.short in
    let value = ap (λ (x : List ℕ). x ++ take p.text (chars_left (Ok p) xs at d)) part
    ∙ ap (λ (x : List ℕ). part_at xs' at' (Ok p') ++ x) text in
    let l = sym (binary-value xs at room p d r) ∙ ap length value ∙ binary-value xs' at' room' p' d' r' in
    sym (binary-back xs at room p d low r).bytes
    ∙ same_bytes _ _ _ _ _ _ _ _ (told-code p p' f f' s s' t l) g (told-tags p p' f f' s s' t l) value
    ∙ (binary-back xs' at' room' p' d' low' r').bytes

pub spelling : OneSpelling
spelling = record { sextets = same-sextets; text-calls = text-calls; binary-calls = binary-calls }
