-- What the proofs say of an item that is to be written and of the sextets that it then has. Assumes nothing.
use Rattle.std.specs.Prelude.{ℕ, ◌≤◌, ◌≡◌, refl, List, [], true, false, eqb, length}
use Rattle.std.proofs.Common.{append-nil}
use Rattle.base.specs.Pick.{pick}
use Rattle.base.specs.Digits.{Below}
use Rattle.format.specs.declared.CodeRow.{CodeRow}
use Rattle.format.specs.declared.Kind.{Kind}
use Rattle.format.specs.declared.Kind.TheVariants.{Fixed, Variable, Group, Genus, Indexed}
use Rattle.format.specs.declared.Code.{Code}
use Rattle.format.specs.declared.Code.TheVariants as C
use Rattle.format.specs.Alphabet.{char_of}
use Rattle.format.specs.Units.{text_sextets}
use Rattle.format.specs.Registry.{is_text}
use Rattle.format.specs.Values.{bytes_in, raw_of, text_in, value_of, tag_of}
use Rattle.format.specs.Reading.{code_of, tags_of}
use Rattle.format.specs.Writing.{Named, unknown, row, variable, textual, is_named, is_fit, is_short, chars_of, chars_for, begins_right, item_bytes, units_of}
use Rattle.roundtrip_laws.specs.Own.{Own}

-- what a framed primitive is to the writer
abbrev pub name_of : Kind → ℕ → Named
name_of (Fixed c) h = row c
name_of (Variable t l m) h = pick (is_text t) (textual h) (variable t h)
name_of (Group l) h = unknown
name_of Genus h = unknown
name_of (Indexed c) h = unknown

-- and what the reader calls it
abbrev pub code_for : Named → Code
code_for unknown = C.Fixed 0 0
code_for (row c) = C.Fixed c.chars (char_of c.letter)
code_for (variable t h) = pick (eqb h 1) (C.Small (char_of t)) (C.Large (char_of t))
code_for (textual h) = pick (eqb h 1) (C.Small (char_of 0)) (C.Large (char_of 0))

-- and what of its value are a text's characters: all, or none
abbrev pub chars_in : Named → List ℕ → List ℕ
chars_in unknown raw = []
chars_in (row c) raw = []
chars_in (variable t h) raw = []
chars_in (textual h) raw = raw

-- the writer takes the tag characters and the raw value, and writes the item with these sextets
pub record Writes (name : Named) (tag : List ℕ) (tags : ℕ) (raw : List ℕ) (n : ℕ) (s : List ℕ) : Type 0 where
  pub known : is_named name ≡ true
  pub fits : is_fit name tags (length raw) ≡ true
  pub shortest : is_short name (length raw) ≡ true
  pub count : length tag ≡ tags
  pub many : length (chars_of name tag raw) ≡ chars_for name tags (length raw)
  pub alphabet : Below 64 (text_sextets (chars_of name tag raw))
  pub begins : begins_right name raw ≡ true
  pub units : units_of name (length raw) ≡ n
  pub bytes : item_bytes name tag raw ≡ bytes_in s

-- the own sextets of what the writer writes, with what the reader finds in them
pub record Made (name : Named) (tag : List ℕ) (tags : ℕ) (raw : List ℕ) : Type 0 where
  pub kind : Kind
  pub head : ℕ
  pub size : ℕ
  pub sextets : List ℕ
  pub own : Own kind head size sextets
  pub units : units_of name (length raw) ≡ size
  -- a stream may be so long
  pub short : size ≤ 1048576
  pub code : code_of kind head ≡ code_for name
  pub tagged : tag_of kind sextets ≡ tag
  pub count : tags_of kind ≡ tags
  pub value : value_of kind head sextets ≡ raw
  pub text : text_in kind head sextets ≡ chars_in name raw
  pub bytes : item_bytes name tag raw ≡ bytes_in sextets

-- a fixed code has no text, and its value is its raw value; and so a variable type but `A`
pub fixed-text : (c : CodeRow) (h : ℕ) (s : List ℕ) → text_in (Fixed c) h s ≡ []
unfolding text_in
fixed-text c h s = refl

pub fixed-value : (c : CodeRow) (h : ℕ) (s : List ℕ) → value_of (Fixed c) h s ≡ raw_of (Fixed c) h s
unfolding value_of text_in
fixed-value c h s = append-nil (raw_of (Fixed c) h s)

pub counted-text : (t l m h : ℕ) (s : List ℕ) → is_text t ≡ false → text_in (Variable t l m) h s ≡ []
unfolding text_in
counted-text t l m h s e = rw e

pub counted-value : (t l m h : ℕ) (s : List ℕ) → is_text t ≡ false → value_of (Variable t l m) h s ≡ raw_of (Variable t l m) h s
unfolding value_of text_in
counted-value t l m h s e = rw e (append-nil (raw_of (Variable t l m) h s))
