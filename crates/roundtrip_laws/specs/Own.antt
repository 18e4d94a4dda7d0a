-- A primitive's own sextets, as the reader accepts them and the writer makes them. Assumes nothing.
use Rattle.std.specs.Prelude.{ℕ, ◌+◌, ◌*◌, ◌≤◌, ◌≡◌, List, true, length, take, drop}
use Rattle.base.specs.Digits.{Below}
use Rattle.format.specs.declared.CodeRow.{CodeRow}
use Rattle.format.specs.declared.Kind.{Kind}
use Rattle.format.specs.declared.Kind.TheVariants.{Fixed, Variable, Group, Genus, Indexed}
use Rattle.format.specs.Registry.{zero_bits_of, prepad_of, is_type}
use Rattle.format.specs.Framing.{sextet, digits4}
use Rattle.format.specs.Texts.{value_right}
use Rattle.format.specs.Judging.{is_shortest, has_lead, zero_bits, prepad_right}
use Rattle.format.specs.Writing.{code_sextets}
use Rattle.roundtrip_laws.specs.Rows.{Row}

-- a header of h units: selector, type and count
pub data Headed (t l m h : ℕ) (at : ℕ → ℕ) : Type 0 where
  small : h ≡ 1 → at 0 ≡ 56 + l → at 1 ≡ t → at 2 * 64 + at 3 ≡ m → Headed t l m h at
  large : h ≡ 2 → at 0 ≡ 59 + l → at 1 ≡ 0 → at 2 ≡ 0 → at 3 ≡ t → digits4 at ≡ m → Headed t l m h at

-- a fixed code
pub record Coded (c : CodeRow) (h n : ℕ) (s : List ℕ) : Type 0 where
  pub head : h ≡ 1
  pub row : Row c n
  pub code : take c.chars s ≡ code_sextets c
  pub zeros : zero_bits s c.chars (zero_bits_of c) ≡ true
  pub prepad : prepad_right s c.chars (prepad_of c) ≡ true

-- a variable type, with l lead bytes and m units behind the header; type `A` has the right fill
pub record Counted (t l m h n : ℕ) (s : List ℕ) : Type 0 where
  pub type : is_type t ≡ true
  pub few : l ≤ 2
  pub units : n ≡ h + m
  pub head : Headed t l m h (sextet s)
  pub shortest : is_shortest h m ≡ true
  pub led : has_lead l m ≡ true
  pub zeros : zero_bits s (4 * h) (8 * l) ≡ true
  pub right : value_right t l (drop (4 * h) s) ≡ true

abbrev pub Form : Kind → ℕ → ℕ → List ℕ → Type 0
Form (Fixed c) h n s = Coded c h n s
Form (Variable t l m) h n s = Counted t l m h n s
Form (Group l) h n s = ⊥
Form Genus h n s = ⊥
Form (Indexed c) h n s = ⊥

pub record Own (k : Kind) (h n : ℕ) (s : List ℕ) : Type 0 where
  pub size : length s ≡ 4 * n
  pub low : Below 64 s
  pub form : Form k h n s
