-- What a look along the characters says, over format's definitions alone. Assumes nothing.
use mathlib.Core.Path.{◌≡◌, refl, sym, ap, ◌∙◌}
use mathlib.Core.List.{List, [], ◌∷◌, map}
use Prim.Native.Nat.{ℕ, zero, suc, ◌+◌, ◌-◌, ◌*◌, ◌/◌, ◌<◌, ◌≤◌}
use native.Mathlib.Omega.{arith}
use lib.ListN.{length, get_or, take, drop, length-map, length-drop, get_or-eq_default}
use lib.Seq.{take_all, get_or-drop}
use borrow.Author.Tests.{lt-ltb, le-ltb}
use Rattle.base.specs.Lists.{map-drop}
use Rattle.format.specs.declared.Verdict.{Verdict}
use Rattle.format.specs.declared.Verdict.TheVariants.{Accepted, Refused}
use Rattle.format.specs.Alphabet.{sextet_of, stranger_number}
use Rattle.format.specs.Units.{text_sextets}
use Rattle.format.specs.Framing.{sextet}
use Rattle.format.specs.Judging.{shift, scan, behind}
use Rattle.laws.specs.Domains.{text-reader}
use Rattle.laws.specs.Local.{text-sextet}
use Rattle.second_characters.specs.Found.{First, Bad}

-- ---- sextets

pub text-there : (s : List ℕ) (i r : ℕ) → i < length s → r ≡ sextet_of (get_or s i 0) → r ≡ sextet (text_sextets s) i
text-there s i r h e = rw (text-sextet s i h) e

pub text-past : (s : List ℕ) (i : ℕ) → length s ≤ i → 0 ≡ sextet (text_sextets s) i
unfolding text_sextets
text-past s i h = sym (get_or-eq_default (map sextet_of s) 0 {n = i} (rw (length-map s sextet_of) h))

pub text-units : (s : List ℕ) → length (text_sextets s) / 4 ≡ length s / 4
text-units s = text-reader.units s

pub text-length : (t : List ℕ) → length (text_sextets t) ≡ length t
unfolding text_sextets
text-length t = length-map t sextet_of

-- a part that is lent to the end
pub text-rest : (t : List ℕ) (f : ℕ) → text_sextets (take (length t - f) (drop f t)) ≡ drop f (text_sextets t)
unfolding text_sextets
text-rest t f = ap (map sextet_of) (take_all (length t - f) (drop f t) (omega (arith, length-drop f t))) ∙ map-drop sextet_of f t

-- ---- 5 or 19

module _ (s : List ℕ) (from to p : ℕ) (F : First s from to 64 p) where
  pub stranger-here : p < to → (v n : ℕ) → v ≡ sextet s p → n ≡ stranger_number v → Bad s from to (Refused n p)
  stranger-here h v n e q = record { low = F.low; high = h; below = F.below; here = F.stops h; number = q ∙ ap stranger_number e }

  pub stranger-none : to ≤ p → Bad s from to Accepted
  stranger-none h = λ k a b. F.below k a (omega arith)

-- of a list by itself
scan-some : (l : List ℕ) (p : ℕ) → ((k : ℕ) → k < p → get_or l k 0 < 64) → 64 ≤ get_or l p 0 → scan l ≡ Refused (stranger_number (get_or l p 0)) p
unfolding scan shift
scan-some [] p f h = absurd (omega arith)
scan-some (x ∷ l) zero f h = rw (le-ltb x 64 h)
scan-some (x ∷ l) (suc p) f h =
    rw (lt-ltb x 64 (f 0 (omega arith)), scan-some l p (λ k q. f (suc k) (omega arith)) h) (ap (Refused (stranger_number (get_or l p 0))) (omega arith))

scan-none : (l : List ℕ) → ((k : ℕ) → k < length l → get_or l k 0 < 64) → scan l ≡ Accepted
unfolding scan shift
scan-none [] f = refl
scan-none (x ∷ l) f = rw (lt-ltb x 64 (f 0 (omega arith)), scan-none l (λ k q. f (suc k) (omega arith)))

-- behind a header of h units
pub behind-is : (h : ℕ) (t : List ℕ) (v : Verdict) → 4 * h ≤ length t → Bad (text_sextets t) (4 * h) (length t) v → v ≡ behind h (text_sextets t)
unfolding behind shift
behind-is h t Accepted l b =
    rw (scan-none (drop (4 * h) (text_sextets t))
    (λ k q. rw (get_or-drop (4 * h) (text_sextets t) k 0) (b (4 * h + k) (omega arith) (omega (arith, length-drop (4 * h) (text_sextets t), text-length t)))))
behind-is h t (Refused n p) l b =
    let z : 4 * h + (p - 4 * h) ≡ p = omega (arith, b.low) in
    let g : get_or (drop (4 * h) (text_sextets t)) (p - 4 * h) 0 ≡ sextet (text_sextets t) p = get_or-drop (4 * h) (text_sextets t) (p - 4 * h) 0 ∙ rw z in
    rw (
      scan-some (drop (4 * h) (text_sextets t)) (p - 4 * h)
          (λ k q. rw (get_or-drop (4 * h) (text_sextets t) k 0) (b.below (4 * h + k) (omega arith) (omega arith)))
          (rw g b.here),
      g,
      z,
      ← b.number,
    )
