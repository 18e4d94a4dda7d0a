-- A text with its fill: whole units in the alphabet, whose bytes are format's and whose text is itself. Assumes nothing.
use mathlib.Core.Path.{◌≡◌, refl, ◌∙◌}
use mathlib.Core.List.{List, ◌++◌, map}
use Prim.Native.Nat.{ℕ, zero, suc, ◌+◌, ◌-◌, ◌*◌, ◌%◌, ◌<◌, ◌≤◌}
use native.Mathlib.Omega.{arith}
use lib.Dec.{lit<}
use lib.ListN.{length, take, drop, replicate, length-append, length-replicate}
use lib.Seq.{paste, take-paste}
use Rattle.base.specs.Lists.{map-join, map-take, map-drop}
use Rattle.base.specs.Digits.{Below, none, more, below-append, below-take, below-drop}
use Rattle.format.specs.Alphabet.{sextet_of}
use Rattle.format.specs.Units.{text_sextets}
use Rattle.format.specs.Texts.{fill_for, text_count}
use Rattle.format.specs.Values.{bytes_in}
use Rattle.format.specs.Conversion.{to_binary, to_text, first_stranger}
use Rattle.format.specs.Writing.{filled}
use Rattle.laws.specs.Conversion.{text-back, all_known}
use Rattle.laws.specs.Values.{text-bytes}
use Rattle.writing_fill.specs.Filled.{filled_text}

-- ---- sizes

-- with its fill a text is whole units
fill-whole : (n : ℕ) → fill_for n + n ≡ 4 * text_count n
unfolding fill_for text_count
fill-whole n = omega arith

length-filled : (chars : List ℕ) → length (filled_text chars) ≡ 4 * text_count (length chars)
unfolding filled_text
length-filled chars =
    length-append (replicate (fill_for (length chars)) 65) chars ∙ omega (arith, length-replicate {A = ℕ} (fill_for (length chars)) 65, fill-whole (length chars))

-- ---- sextets

fill-sextets : (n : ℕ) → map sextet_of (replicate n 65) ≡ replicate n 0
unfolding sextet_of
fill-sextets zero = refl
fill-sextets (suc n) = rw (fill-sextets n)

filled-sextets : (chars : List ℕ) → filled chars ≡ text_sextets (filled_text chars)
unfolding filled filled_text text_sextets
filled-sextets chars = rw (map-join, fill-sextets)

zeros-below : (n : ℕ) → Below 64 (replicate n 0)
zeros-below zero = none
zeros-below (suc n) = more (lit< tt) (zeros-below n)

pub filled-known : (chars : List ℕ) → length chars ≤ first_stranger chars → Below 64 (text_sextets (filled_text chars))
unfolding filled text_sextets
filled-known chars h = rw (← filled-sextets chars) (below-append 64 _ _ (zeros-below (fill_for (length chars))) (all_known chars h))

-- parts of what is in the alphabet are
pub known-take : (n : ℕ) (s : List ℕ) → Below 64 (text_sextets s) → Below 64 (text_sextets (take n s))
unfolding text_sextets
known-take n s h = rw (map-take sextet_of n s) (below-take 64 n _ h)

pub known-drop : (n : ℕ) (s : List ℕ) → Below 64 (text_sextets s) → Below 64 (text_sextets (drop n s))
unfolding text_sextets
known-drop n s h = rw (map-drop sextet_of n s) (below-drop 64 n _ h)

-- ---- its bytes, and their text

pub filled-bytes : (chars : List ℕ) → bytes_in (filled chars) ≡ to_binary (filled_text chars)
filled-bytes chars = rw (filled-sextets chars) (text-bytes (filled_text chars))

pub filled-text : (chars : List ℕ) → length chars ≤ first_stranger chars → to_text (bytes_in (filled chars)) ≡ filled_text chars
filled-text chars h =
    let l = length-filled chars in
    rw (filled-bytes chars) (text-back (filled_text chars) (omega arith) (filled-known chars h))

-- ---- its first unit: the fill, and the characters that are no whole units

pub first_part : (chars : List ℕ) (k f : ℕ) → k < 4 → k ≤ length chars → f ≡ (4 - k) % 4
    → take (f + k) (paste (replicate 4 65) (4 - k) chars k) ≡ replicate f 65 ++ take k chars
first_part chars zero f h l e = rw e
first_part chars (suc zero) f h l e = rw e (take-paste (replicate 4 65) 3 chars 1 (omega arith) l)
first_part chars (suc (suc zero)) f h l e = rw e (take-paste (replicate 4 65) 2 chars 2 (omega arith) l)
first_part chars (suc (suc (suc zero))) f h l e = rw e (take-paste (replicate 4 65) 1 chars 3 (omega arith) l)
first_part chars (suc (suc (suc (suc k)))) f h l e = absurd (omega arith)
