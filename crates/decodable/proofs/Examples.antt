-- Of each wrong format values that it writes alike, or of which one begins the other, so that the sentences of 02 l do not hold of it; and
-- what ours does with the same values. Text is written by its characters' numbers, and computed. Assumes nothing.
use Rattle.std.specs.Prelude.{ℕ, ◌≡◌, refl, Bool, true, false, ltb, T, length, get_or}
use Rattle.std.proofs.Math.Path.{sym}
use Rattle.std.proofs.Common.{ap, ◌∙◌, arith, ltb→lt}
use mathlib.Core.List.{List, [], ◌∷◌, ◌++◌, append-nil}
use Rattle.base.specs.Table.{every, at}
use Rattle.base.specs.Digits.{Below, below_all}
use Rattle.format.specs.declared.Code.{Code}
use Rattle.format.specs.declared.Code.TheVariants as C
use Rattle.format.specs.declared.IndexCode.{IndexCode}
use Rattle.format.specs.Report.{concat}
use Rattle.format.specs.Signatures.{filler}
use Rattle.format.specs.SignatureCalls.{code, zeros, told}
use Rattle.roundtrip.specs.Claims.{Given}
use Rattle.roundtrip_indexed.specs.Claims as I
use Rattle.decodable.specs.Words.{UniquelyDecodable, PrefixFree}
use Rattle.decodable.specs.Claims.{Same, SameIndexed}
use Rattle.decodable.specs.Formats.{Format, ours, code_begins, no_sixteen, one_selector, length_unasked, ours_indexed, ondex_dropped, index_modulo}

-- ---- 02 l's sentences, of any format

pub record Taken {G : Type 0} (f : Format G) : Type 0 where
  pub given : G
  pub taken : f.takes given ≡ true

module _ {G : Type 0} (f : Format G) (Same : G → G → Type 0) where
  abbrev pub Decodable : Type 0
  Decodable = UniquelyDecodable (λ (a : Taken f). f.text a.given) (λ a b. Same a.given b.given)

  abbrev pub NoneBegins : Type 0
  NoneBegins = PrefixFree (λ (a : Taken f). f.text a.given) (λ a b. Same a.given b.given)

  -- two that are not the same have one text
  pub record Alike (a b : G) (text : List ℕ) : Type 0 where
    pub takes_first : f.takes a ≡ true
    pub takes-second : f.takes b ≡ true
    pub text-first : f.text a ≡ text
    pub text-second : f.text b ≡ text
    pub differ : Same a b → ⊥

  pub not-decodable : {a b : G} {text : List ℕ} → Alike a b text → Decodable → ⊥
  unfolding concat
  not-decodable {a} {b} {text} e d =
      e.differ (d (record { given = a; taken = e.takes_first } ∷ []) (record { given = b; taken = e.takes-second } ∷ [])
      (ap (λ (s : List ℕ). s ++ []) (e.text-first ∙ sym e.text-second))).0

-- ---- what is given

pub by-test : (s : List ℕ) → T (every (λ i x. ltb x 256) 0 s) → Below 256 s
by-test s t = below_all 256 s (λ i h. ltb→lt (get_or s i 0) 256 (at (λ i x. ltb x 256) s t i h))

abbrev pub value : Code → (raw : List ℕ) → T (every (λ i x. ltb x 256) 0 raw) → Given
value c raw t = record { code = c; tag = []; tags = 0; raw = raw; bytes = by-test raw t }

-- code `1`, which there is not, with raw 00 05
abbrev pub one : Given
one = value (C.Fixed 1 49) (0 ∷ 5 ∷ []) tt

-- `M` with raw 00 00
abbrev pub number : Given
number = value (C.Fixed 1 77) (0 ∷ 0 ∷ []) tt

-- `1AAF` with tag characters `MAAA`
abbrev pub tag : Given
tag = record { code = C.Fixed 4 70; tag = 77 ∷ 65 ∷ 65 ∷ 65 ∷ []; tags = 4; raw = []; bytes = Below.none }

-- type `A`: `A-a-personal`, `-a-personal`
abbrev pub from_a : Given
from_a = value (C.Small 65) (65 ∷ 45 ∷ 97 ∷ 45 ∷ 112 ∷ 101 ∷ 114 ∷ 115 ∷ 111 ∷ 110 ∷ 97 ∷ 108 ∷ []) tt

abbrev pub not_from_a : Given
not_from_a = value (C.Small 65) (45 ∷ 97 ∷ 45 ∷ 112 ∷ 101 ∷ 114 ∷ 115 ∷ 111 ∷ 110 ∷ 97 ∷ 108 ∷ []) tt

-- type `B`: raw 61, raw 00 00 61
abbrev pub led : Given
led = value (C.Small 66) (97 ∷ []) tt

abbrev pub unled : Given
unled = value (C.Small 66) (0 ∷ 0 ∷ 97 ∷ []) tt

-- `M`: raw 61, raw 00 61
abbrev pub short : Given
short = value (C.Fixed 1 77) (97 ∷ []) tt

abbrev pub long : Given
long = value (C.Fixed 1 77) (0 ∷ 97 ∷ []) tt

-- an indexed item of 64 zero bytes
abbrev pub indexed : IndexCode → ℕ → ℕ → I.Given
indexed c index ondex = record { code = c; index = index; ondex = ondex; raw = zeros 64; bytes = by-test (zeros 64) tt }

-- ---- two that are written alike

-- `4AADA-a-personal`
no-sixteen : Alike no_sixteen Same from_a not_from_a (52 ∷ 65 ∷ 65 ∷ 68 ∷ 65 ∷ 45 ∷ 97 ∷ 45 ∷ 112 ∷ 101 ∷ 114 ∷ 115 ∷ 111 ∷ 110 ∷ 97 ∷ 108 ∷ [])
unfolding told no_sixteen
no-sixteen = record {
  takes_first = refl;
  takes-second = refl;
  text-first = refl;
  text-second = refl;
  differ = λ s. let l : ◌≡◌ {A = ℕ} 12 11 = ap length s.value in omega arith;
}

-- `4BABAABh`
one-selector : Alike one_selector Same led unled (52 ∷ 66 ∷ 65 ∷ 66 ∷ 65 ∷ 65 ∷ 66 ∷ 104 ∷ [])
unfolding told one_selector
one-selector = record {
  takes_first = refl;
  takes-second = refl;
  text-first = refl;
  text-second = refl;
  differ = λ s. let l : ◌≡◌ {A = ℕ} 1 3 = ap length s.value in omega arith;
}

-- `MABh`
length-unasked : Alike length_unasked Same short long (77 ∷ 65 ∷ 66 ∷ 104 ∷ [])
unfolding told length_unasked
length-unasked = record {
  takes_first = refl;
  takes-second = refl;
  text-first = refl;
  text-second = refl;
  differ = λ s. let l : ◌≡◌ {A = ℕ} 1 2 = ap length s.value in omega arith;
}

-- `2BABAAA..`
ondex-dropped : Alike ondex_dropped SameIndexed (indexed (code 50 66) 1 0) (indexed (code 50 66) 1 5) (50 ∷ 66 ∷ 65 ∷ 66 ∷ filler 88)
unfolding told ondex_dropped
ondex-dropped = record {
  takes_first = refl;
  takes-second = refl;
  text-first = refl;
  text-second = refl;
  differ = λ s. let l : ◌≡◌ {A = ℕ} 0 5 = s.ondex in omega arith;
}

-- `ABA..`
index-modulo : Alike index_modulo SameIndexed (indexed (code 0 65) 1 0) (indexed (code 0 65) 65 0) (65 ∷ 66 ∷ filler 86)
unfolding told index_modulo
index-modulo = record {
  takes_first = refl;
  takes-second = refl;
  text-first = refl;
  text-second = refl;
  differ = λ s. let l : ◌≡◌ {A = ℕ} 1 65 = s.index in omega arith;
}

-- ---- a code that begins another: `1AAF` and `MAAA`, `1AAFMAAA`

abbrev begun : Given → Type 0
begun g = code_begins.takes g ≡ true

one-taken : begun one × begun number × begun tag
unfolding told code_begins
one-taken = (refl, refl, refl)

one-begins : code_begins.text tag ≡ code_begins.text one ++ code_begins.text number
unfolding told code_begins
one-begins = refl

number-text : code_begins.text number ≡ 77 ∷ 65 ∷ 65 ∷ 65 ∷ []
unfolding told code_begins
number-text = refl

-- ---- of no wrong format do the sentences hold

pub record WrongFormats : Type 0 where
  pub code-begins : (NoneBegins code_begins Same → ⊥) × (Decodable code_begins Same → ⊥)
  pub no-sixteen : Decodable no_sixteen Same → ⊥
  pub one-selector : Decodable one_selector Same → ⊥
  pub length-unasked : Decodable length_unasked Same → ⊥
  pub ondex-dropped : Decodable ondex_dropped SameIndexed → ⊥
  pub index-modulo : Decodable index_modulo SameIndexed → ⊥

abbrev first : Taken code_begins
first = record { given = one; taken = one-taken.0 }

abbrev second : Taken code_begins
second = record { given = number; taken = one-taken.1 }

abbrev whole : Taken code_begins
whole = record { given = tag; taken = one-taken.2 }

none-begins-not : NoneBegins code_begins Same → ⊥
none-begins-not p =
    let l : ◌≡◌ {A = ℕ} 4 0 = ap length (sym number-text ∙ (p first whole (code_begins.text number) one-begins).0) in omega arith

not-lists : Decodable code_begins Same → ⊥
unfolding concat
not-lists d =
    (d (first ∷ second ∷ []) (whole ∷ [])
    (ap (λ (s : List ℕ). code_begins.text one ++ s) (append-nil (code_begins.text number)) ∙ sym one-begins ∙ sym (append-nil (code_begins.text tag)))
    ).1

pub wrong-formats : WrongFormats
wrong-formats = record {
  code-begins = (none-begins-not, not-lists);
  no-sixteen = not-decodable no_sixteen Same no-sixteen;
  one-selector = not-decodable one_selector Same one-selector;
  length-unasked = not-decodable length_unasked Same length-unasked;
  ondex-dropped = not-decodable ondex_dropped SameIndexed ondex-dropped;
  index-modulo = not-decodable index_modulo SameIndexed index-modulo;
}

-- ---- what ours does with the same values

pub record Apart : Type 0 where
  pub unknown-code : ours.takes one ≡ false
  pub from-a : (ours.takes from_a ≡ false) × (ours.text not_from_a ≡ 52 ∷ 65 ∷ 65 ∷ 68 ∷ 65 ∷ 45 ∷ 97 ∷ 45 ∷ 112 ∷ 101 ∷ 114 ∷ 115 ∷ 111 ∷ 110 ∷ 97 ∷ 108 ∷ [])
  pub leads : (ours.takes led ≡ true) × (ours.text led ≡ 54 ∷ 66 ∷ 65 ∷ 66 ∷ 65 ∷ 65 ∷ 66 ∷ 104 ∷ []) × (ours.text unled ≡ 52 ∷ 66 ∷ 65 ∷ 66 ∷ 65 ∷ 65 ∷ 66 ∷ 104 ∷ [])
  pub lengths : (ours.takes short ≡ false) × (ours.text long ≡ 77 ∷ 65 ∷ 66 ∷ 104 ∷ [])
  pub ondex : (ours_indexed.takes (indexed (code 50 66) 1 5) ≡ false) × (ours_indexed.takes (indexed (code 50 66) 1 0) ≡ true)
  pub index : (ours_indexed.takes (indexed (code 0 65) 65 0) ≡ false) × (ours_indexed.takes (indexed (code 0 65) 1 0) ≡ true)

pub apart : Apart
unfolding told ours ours_indexed
apart = record {
  unknown-code = refl;
  from-a = (refl, refl);
  leads = (refl, refl, refl);
  lengths = (refl, refl);
  ondex = (refl, refl);
  index = (refl, refl);
}
