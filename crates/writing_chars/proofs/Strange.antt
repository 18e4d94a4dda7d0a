-- The first stranger of a text, or an `A` in front of it, or none. Assumes nothing.
use mathlib.Core.Path.{◌≡◌, refl}
use mathlib.Core.List.{List, [], ◌∷◌}
use mathlib.Core.Bool.{Bool, true, false}
use Prim.Native.Nat.{ℕ, ◌<◌, ◌≤◌}
use native.Mathlib.Omega.{arith}
use borrow.Author.Tests.{lt-ltb, le-ltb}
use lib.Dec.{eqb}
use lib.ListN.{length, get_or}
use Rattle.base.specs.Pick.{pick}
use Rattle.format.specs.Alphabet.{sextet_of, stranger_number}
use Rattle.format.specs.Units.{text_sextets}
use Rattle.format.specs.Conversion.{first_stranger, first_number}
use Rattle.format.specs.Texts.{fills}
use Rattle.std.specs.Prelude.{None}
use Rattle.writing_refusal.specs.Refusals.{refusal, text_refusal}

module _ (chars : List ℕ) (i : ℕ) (e : i ≡ first_stranger chars) where
  pub text-strange : i < length chars → refusal (stranger_number (sextet_of (get_or chars i 0))) i ≡ text_refusal chars
  unfolding text_refusal first_number
  text-strange h = rw (← e, lt-ltb i (length chars) h)

  pub text-filled : length chars ≤ i → fills 1 (text_sextets chars) ≡ true → refusal 16 0 ≡ text_refusal chars
  unfolding text_refusal
  text-filled h b = rw (← e, le-ltb i (length chars) h, b)

  pub text-none : length chars ≤ i → fills 1 (text_sextets chars) ≡ false → None ≡ text_refusal chars
  unfolding text_refusal
  text-none h b = rw (← e, le-ltb i (length chars) h, b)

-- an `A` in front of a text
pub not-filled : (chars : List ℕ) → length chars ≡ 0 → false ≡ fills 1 (text_sextets chars)
unfolding fills text_sextets
not-filled [] e = refl
not-filled (c ∷ chars) e = absurd (omega arith)

same_test : (b : Bool) → b ≡ pick b true false
same_test true = refl
same_test false = refl

pub first-fills : (chars : List ℕ) (v : ℕ) → (length chars ≡ 0 → ⊥) → v ≡ sextet_of (get_or chars 0 0) → eqb v 0 ≡ fills 1 (text_sextets chars)
unfolding fills text_sextets
first-fills [] v h e = absurd (h refl)
first-fills (c ∷ chars) v h e = rw e (same_test (eqb (sextet_of c) 0))
