-- Format's writing, refused or not, by the refusal that comes before 3. Assumes nothing.
use mathlib.Core.Path.{◌≡◌, refl}
use mathlib.Core.List.{List}
use mathlib.Core.Bool.{Bool, true, false, not}
use mathlib.Core.Logic.{⊎_elim}
use Prim.Native.Nat.{ℕ, ◌≤◌}
use native.Mathlib.Omega.{arith}
use borrow.Author.Tests.{ltb-false}
use lib.Dec.{ltb}
use lib.ListN.{length, take}
use Rattle.base.specs.Pick.{pick}
use Rattle.base.specs.Cases.{whether}
use Rattle.format.specs.Alphabet.{stranger_number}
use Rattle.format.specs.Units.{text_sextets}
use Rattle.format.specs.Conversion.{first_stranger, first_number}
use Rattle.format.specs.Texts.{fills}
use Rattle.format.specs.Writing.{Named, is_named, is_fit, is_short, chars_of, chars_for, begins_right, units_of, Writing, writing}
use Rattle.format.specs.Writing.Named.{unknown, row, variable, textual}
use Rattle.format.specs.Writing.Writing.{refused}
use Rattle.std.specs.Prelude.{None, Some, Option}
use Rattle.format.specs.declared.Refusal.{Refusal}
use Rattle.writing_raw.specs.Item.{room_for}
use Rattle.writing_refusal.specs.Refusals.{refusal, tag_refusal, text_refusal, chars_refusal, refusal_of}

-- ---- format's last tests

-- refused as the characters are, or else w
abbrev pub by : Option (Refusal ℕ) → Writing → Writing
by None w = w
by (Some r) w = refused r.number r.place

tag-tests : (d : Bool) (v i : ℕ) (w : Writing)
    → pick d (refused (stranger_number v) i) w ≡ by (pick d (refusal (stranger_number v) i) None) w
tag-tests true v i w = refl
tag-tests false v i w = refl

text-tests : (d b : Bool) (v i : ℕ) (w : Writing)
    → pick d (refused (stranger_number v) i) (pick (not b) w (refused 16 0))
    ≡ by (pick d (refusal (stranger_number v) i) (pick b (refusal 16 0) None)) w
text-tests true b v i w = refl
text-tests false true v i w = refl
text-tests false false v i w = refl

abbrev char_tests : Named → List ℕ → ℕ → List ℕ → Writing → Writing
char_tests n tag tags raw w =
    let chars : List ℕ = chars_of n (take tags tag) raw in
    pick (ltb (first_stranger chars) (chars_for n tags (length raw))) (refused (first_number chars) (first_stranger chars)) (pick (begins_right n raw) w (refused 16 0))

by-chars : (n : Named) (tag : List ℕ) (tags : ℕ) (raw : List ℕ) (w : Writing) → char_tests n tag tags raw w ≡ by (chars_refusal n tag tags raw) w
unfolding chars_of chars_for begins_right chars_refusal tag_refusal text_refusal first_number text_sextets
by-chars unknown tag tags raw w = tag-tests (ltb (first_stranger (take tags tag)) tags) _ (first_stranger (take tags tag)) w
by-chars (row c) tag tags raw w = tag-tests (ltb (first_stranger (take tags tag)) tags) _ (first_stranger (take tags tag)) w
by-chars (variable t h) tag tags raw w = tag-tests (ltb (first_stranger (take tags tag)) tags) _ (first_stranger (take tags tag)) w
by-chars (textual h) tag tags raw w = text-tests (ltb (first_stranger raw) (length raw)) (fills 1 (text_sextets raw)) _ (first_stranger raw) w

by_tests : (a b c : Bool) (r : Option (Refusal ℕ)) (w : Writing) →
    let q = pick a (pick b (pick c r (refusal 18 0)) (refusal 12 0)) (refusal 6 0) in
    pick a (pick b (pick c (by r w) (refused 18 0)) (refused 12 0)) (refused 6 0) ≡ by q w
by_tests false b c r w = refl
by_tests true false c r w = refl
by_tests true true false r w = refl
by_tests true true true r w = refl

some-none : (r : Refusal ℕ) → Some r ≡ None → ⊥
some-none r e = let z : ◌≡◌ {A = ℕ} 0 1 = cc in omega arith

module _ (n : Named) (tag : List ℕ) (tags : ℕ) (raw : List ℕ) where
  -- what is not refused fits, and its characters are not refused
  pub unrefused : refusal_of n tag tags raw ≡ None → (is_fit n tags (length raw) ≡ true) × (chars_refusal n tag tags raw ≡ None)
  unfolding refusal_of
  unrefused z = tests (is_named n) (is_fit n tags (length raw)) (is_short n (length raw)) z
    where
      tests : (a b c : Bool) → pick a (pick b (pick c (chars_refusal n tag tags raw) (refusal 18 0)) (refusal 12 0)) (refusal 6 0) ≡ None
          → (b ≡ true) × (chars_refusal n tag tags raw ≡ None)
      tests true true true z = (refl, z)
      tests true true false z = absurd (some-none _ z)
      tests true false c z = absurd (some-none _ z)
      tests false b c z = absurd (some-none _ z)

  -- refused, or 3 where there is no room, or written
  pub by-refusal : (u room : ℕ) → writing u n tag tags raw room
      ≡ by (refusal_of n tag tags raw) (room_for u (units_of n (length raw)) room)
  unfolding writing refusal_of
  by-refusal u room =
      rw (by-chars n tag tags raw (room_for u (units_of n (length raw)) room))
      (by_tests (is_named n) (is_fit n tags (length raw)) (is_short n (length raw)) (chars_refusal n tag tags raw) (room_for u (units_of n (length raw)) room))

-- a text whose characters are not refused is in the alphabet
pub text-clean : (chars : List ℕ) → text_refusal chars ≡ None → length chars ≤ first_stranger chars
unfolding text_refusal first_number
text-clean chars z =
    ⊎_elim (λ d. absurd (some-none _ (rw d at z))) (λ d. ltb-false _ _ d)
    (whether (ltb (first_stranger chars) (length chars)))
