-- The search for a stranger is format's scan. Assumes nothing.
use mathlib.Core.Path.{◌≡◌, refl, ap}
use mathlib.Core.List.{List, [], ◌∷◌}
use mathlib.Core.Logic.{⊎_elim}
use Prim.Native.Nat.{ℕ, suc, ◌+◌, ◌-◌, ◌*◌, ◌/◌, ◌<◌, ◌≤◌}
use native.Mathlib.Omega.{arith}
use lib.ListN.{length, get_or, take, drop, length-drop, drop_of_length-le}
use lib.Seq.{get_or-drop, take_all}
use borrow.Author.Tests.{lt-ltb, le-ltb}
use Rattle.base.specs.Cases.{lt-or-ge}
use Rattle.base.specs.Lists.{map-drop}
use Rattle.format.specs.declared.Verdict.TheVariants.{Accepted, Refused}
use Rattle.format.specs.Alphabet.{sextet_of, stranger_number}
use Rattle.format.specs.Units.{text_sextets}
use Rattle.format.specs.Conversion.{first_stranger, first_number}
use Rattle.format.specs.Judging.{shift, scan, behind}

pub scan-bad : (s : List ℕ) → first_stranger s < length s → scan (text_sextets s) ≡ Refused (first_number s) (first_stranger s)
unfolding scan first_stranger first_number text_sextets shift
scan-bad [] h = absurd (omega arith)
scan-bad (c ∷ s) h =
    let z : 1 + first_stranger s ≡ suc (first_stranger s) = omega arith in
    ⊎_elim (λ l. rw (lt-ltb (sextet_of c) 64 l) (rw (scan-bad s (omega (arith, rw (lt-ltb (sextet_of c) 64 l) at h)), z) refl))
    (λ g. rw (le-ltb (sextet_of c) 64 g)) (lt-or-ge (sextet_of c) 64)

pub scan-clean : (s : List ℕ) → length s ≤ first_stranger s → scan (text_sextets s) ≡ Accepted
unfolding scan first_stranger text_sextets shift
scan-clean [] h = refl
scan-clean (c ∷ s) h =
    ⊎_elim (λ l. rw (lt-ltb (sextet_of c) 64 l, scan-clean s (omega (arith, rw (lt-ltb (sextet_of c) 64 l) at h))))
    (λ g. absurd (omega (arith, rw (le-ltb (sextet_of c) 64 g) at h))) (lt-or-ge (sextet_of c) 64)

behind-part : (item : List ℕ) (h : ℕ) → behind h (text_sextets item) ≡ shift (4 * h) (scan (text_sextets (drop (4 * h) item)))
unfolding behind text_sextets
behind-part item h = rw (map-drop sextet_of (4 * h) item)

module _ (item : List ℕ) (h i : ℕ) (e : i ≡ first_stranger (drop (4 * h) item)) where
  pub behind-bad : i < length item - 4 * h
      → Refused (stranger_number (sextet_of (get_or item (4 * h + i) 0))) (4 * h + i) ≡ behind h (text_sextets item)
  unfolding shift first_number
  behind-bad l =
      rw (behind-part item h, scan-bad (drop (4 * h) item) (rw (← e, length-drop (4 * h) item) l), ← e, get_or-drop (4 * h) item i 0)

  pub behind-clean : length item - 4 * h ≤ i → Accepted ≡ behind h (text_sextets item)
  unfolding shift
  behind-clean l = rw (behind-part item h, scan-clean (drop (4 * h) item) (rw (← e, length-drop (4 * h) item) l))

pub behind-past : (item : List ℕ) (h : ℕ) → length item / 4 < h → Accepted ≡ behind h (text_sextets item)
unfolding shift scan text_sextets
behind-past item h l = rw (behind-part item h, drop_of_length-le item {i = 4 * h} (omega arith))

-- a part that is lent to the end has the same first stranger
pub first-to-end : (s : List ℕ) (from : ℕ) → first_stranger (take (length s - from) (drop from s)) ≡ first_stranger (drop from s)
first-to-end s from = ap first_stranger (take_all (length s - from) (drop from s) (omega (arith, length-drop from s)))
