-- What a variable form holds, the least and the most: what the writer takes and refuses, and where the numbers come from. Assumes nothing.
use Rattle.std.specs.Prelude.{ℕ, zero, suc, ◌+◌, ◌-◌, ◌*◌, ◌/◌, ◌%◌, ◌<◌, ◌≤◌, ◌≡◌, refl, List, [], ◌∷◌, true, false, length, get_or, take}
use Rattle.std.proofs.Common.{arith}
use borrow.Author.Tests.{le-leb, lt-leb, le-ltb, lt-ltb}
use Rattle.format.specs.declared.Code.TheVariants as Code
use Rattle.format.specs.Alphabet.{sextet_of, stranger_number}
use Rattle.format.specs.Units.{text_sextets}
use Rattle.format.specs.Conversion.{first_stranger, first_number}
use Rattle.format.specs.Registry.{is_type, is_text}
use Rattle.format.specs.Texts.{fills, fill_for, text_count}
use Rattle.format.specs.Judging.{is_shortest}
use Rattle.format.specs.Writing.{chars_of, chars_for, begins_right, textual, named_variable, text_limit, fits_text}
use Rattle.format.specs.Writing.{variable, refused, written, named, is_named, is_fit, is_short, fits_variable, raw_limit, lead_for, count_for, units_of, writing}
use Rattle.base.specs.Digits.{Below, more}
use Rattle.laws.specs.Conversion.{no-stranger}
use Rattle.roundtrip_limits.specs.Claims.{Holds, HoldsText, Limits}

accepted : (u t h room : ℕ) (tag raw : List ℕ) → length raw ≤ raw_limit h → is_shortest h (count_for (length raw)) ≡ true
    → (h + count_for (length raw)) * u ≤ room → writing u (variable t h) tag 0 raw room ≡ written (h + count_for (length raw))
unfolding writing is_named is_fit is_short chars_of chars_for begins_right fits_variable units_of first_stranger
accepted u t h room tag raw few short fits = rw (le-leb (length raw) (raw_limit h) few, short, le-ltb _ _ fits)

twelve : (u t h room : ℕ) (tag raw : List ℕ) → raw_limit h < length raw → writing u (variable t h) tag 0 raw room ≡ refused 12 0
unfolding writing is_named is_fit fits_variable
twelve u t h room tag raw many = rw (lt-leb (length raw) (raw_limit h) many)

few-units : (raw : ℕ) → raw < 12286 → is_shortest 2 (count_for raw) ≡ false
unfolding is_shortest count_for lead_for
few-units raw h = lt-leb 4096 ((raw + (3 - raw % 3) % 3) / 3) (omega arith)

many-units : (raw : ℕ) → 12286 ≤ raw → is_shortest 2 (count_for raw) ≡ true
unfolding is_shortest count_for lead_for
many-units raw h = le-leb 4096 ((raw + (3 - raw % 3) % 3) / 3) (omega arith)

eighteen : (u t room : ℕ) (tag raw : List ℕ) → length raw < 12286 → writing u (variable t 2) tag 0 raw room ≡ refused 18 0
unfolding writing is_named is_fit is_short fits_variable raw_limit
eighteen u t room tag raw few = rw (le-leb (length raw) 3145722 (omega arith), few-units (length raw) few)

small : Holds Code.Small 1 0 12285
unfolding named named_variable raw_limit is_shortest
small = record {
  accepts = λ u letter room tag raw e some few fits. rw (e.0, e.1) (accepted u (sextet_of letter) 1 room tag raw few refl fits);
  refuses = λ u letter room tag raw e many. rw (e.0, e.1) (twelve u (sextet_of letter) 1 room tag raw many);
  too_few = λ u letter room tag raw e none. absurd (omega arith);
}

large : Holds Code.Large 2 12286 3145722
unfolding named named_variable raw_limit
large = record {
  accepts = λ u letter room tag raw e some few fits.
      rw (e.0, e.1) (accepted u (sextet_of letter) 2 room tag raw few (many-units (length raw) some) fits);
  refuses = λ u letter room tag raw e many. rw (e.0, e.1) (twelve u (sextet_of letter) 2 room tag raw many);
  too_few = λ u letter room tag raw e few. rw (e.0, e.1) (eighteen u (sextet_of letter) room tag raw few);
}

-- ---- texts

-- the first character outside the alphabet
stranger-at : (chars : List ℕ) (i : ℕ) → i < length chars → Below 64 (text_sextets (take i chars)) → 64 ≤ sextet_of (get_or chars i 0)
    → first_stranger chars ≡ i
unfolding first_stranger text_sextets
stranger-at [] i l low bad = absurd (omega arith)
stranger-at (c ∷ chars) zero l low bad = rw (le-ltb (sextet_of c) 64 bad)
stranger-at (c ∷ chars) (suc i) l (more p low) bad = rw (lt-ltb (sextet_of c) 64 p, stranger-at chars i (omega arith) low bad)

-- of a text that is neither too long nor too short for its header
module _ (u h room : ℕ) (tag chars : List ℕ) (few : length chars + fill_for (length chars) ≤ text_limit h)
    (short : is_shortest h (text_count (length chars)) ≡ true) where
  text-accepted : Below 64 (text_sextets chars) → fills 1 (text_sextets chars) ≡ false → (h + text_count (length chars)) * u ≤ room
      → writing u (textual h) tag 0 chars room ≡ written (h + text_count (length chars))
  unfolding writing is_named is_fit is_short chars_of chars_for begins_right fits_text units_of text_sextets
  text-accepted low starts fits =
      rw (
        le-leb _ (text_limit h) few,
        short,
        le-ltb (first_stranger chars) (length chars) (omega (arith, no-stranger chars low)),
        starts,
        le-ltb _ _ fits,
      )

  text-stranger : (i : ℕ) → i < length chars → Below 64 (text_sextets (take i chars)) → 64 ≤ sextet_of (get_or chars i 0)
      → writing u (textual h) tag 0 chars room ≡ refused (stranger_number (sextet_of (get_or chars i 0))) i
  unfolding writing is_named is_fit is_short chars_of chars_for fits_text first_number
  text-stranger i l low bad = rw (le-leb _ (text_limit h) few, short, stranger-at chars i l low bad, lt-ltb i (length chars) l)

  text-from-a : Below 64 (text_sextets chars) → fills 1 (text_sextets chars) ≡ true → writing u (textual h) tag 0 chars room ≡ refused 16 0
  unfolding writing is_named is_fit is_short chars_of chars_for begins_right fits_text text_sextets
  text-from-a low starts =
      rw (
        le-leb _ (text_limit h) few,
        short,
        le-ltb (first_stranger chars) (length chars) (omega (arith, no-stranger chars low)),
        starts,
      )

text-twelve : (u h room : ℕ) (tag chars : List ℕ) → text_limit h < length chars + fill_for (length chars)
    → writing u (textual h) tag 0 chars room ≡ refused 12 0
unfolding writing is_named is_fit fits_text
text-twelve u h room tag chars many = rw (lt-leb _ (text_limit h) many)

text-short : (n : ℕ) → n + fill_for n < 16381 → is_shortest 2 (text_count n) ≡ false
unfolding is_shortest text_count fill_for
text-short n h = lt-leb 4096 ((n + (4 - n % 4) % 4) / 4) (omega arith)

text-long : (n : ℕ) → 16381 ≤ n + fill_for n → is_shortest 2 (text_count n) ≡ true
unfolding is_shortest text_count fill_for
text-long n h = le-leb 4096 ((n + (4 - n % 4) % 4) / 4) (omega arith)

text-eighteen : (u room : ℕ) (tag chars : List ℕ) → length chars + fill_for (length chars) < 16381
    → writing u (textual 2) tag 0 chars room ≡ refused 18 0
unfolding writing is_named is_fit is_short fits_text text_limit
text-eighteen u room tag chars few = rw (le-leb (length chars + fill_for (length chars)) 4194296 (omega arith), text-short (length chars) few)

small-chars : HoldsText (Code.Small 65) 1 0 16380
unfolding named named_variable text_limit is_shortest is_type is_text sextet_of
small-chars = record {
  accepts = λ u room tag chars f. text-accepted u 1 room tag chars f.few refl;
  stranger = λ u room tag chars i f. text-stranger u 1 room tag chars f.few refl i;
  from-a = λ u room tag chars f. text-from-a u 1 room tag chars f.few refl;
  refuses = λ u room tag chars many. text-twelve u 1 room tag chars many;
  too_few = λ u room tag chars none. absurd (omega arith);
}

large-chars : HoldsText (Code.Large 65) 2 16381 4194296
unfolding named named_variable text_limit is_type is_text sextet_of
large-chars = record {
  accepts = λ u room tag chars f. text-accepted u 2 room tag chars f.few (text-long (length chars) f.enough);
  stranger = λ u room tag chars i f. text-stranger u 2 room tag chars f.few (text-long (length chars) f.enough) i;
  from-a = λ u room tag chars f. text-from-a u 2 room tag chars f.few (text-long (length chars) f.enough);
  refuses = λ u room tag chars many. text-twelve u 2 room tag chars many;
  too_few = λ u room tag chars few. text-eighteen u room tag chars few;
}

pub limits : Limits
unfolding count_for lead_for text_count fill_for
limits = record {
  small = small;
  large = large;
  small-chars = small-chars;
  large-chars = large-chars;
  small-digits = λ raw h. omega arith;
  small-most = λ raw h. omega arith;
  large-fits = λ raw h. (omega arith, omega arith);
  large-text = λ raw h. omega arith;
  large-binary = λ raw h. omega arith;
  small-chars-digits = λ chars h. omega arith;
  small-chars-most = λ chars h. omega arith;
  large-chars-fit = λ chars h. (omega arith, omega arith);
  large-chars-text = λ chars h. omega arith;
  large-chars-binary = λ chars h. omega arith;
}
