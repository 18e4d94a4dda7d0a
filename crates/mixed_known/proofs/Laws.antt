-- Characters up to the first stranger are known, and make known units. Assumes nothing.
use Prim.Native.Nat.{ℕ, zero, suc, ◌+◌, ◌-◌, ◌*◌, ◌^◌, ◌≤◌, ◌<◌}
use mathlib.Core.Path.{◌≡◌}
use mathlib.Core.List.{List, [], ◌∷◌}
use mathlib.Core.Logic.{⊎_elim}
use native.Mathlib.Omega.{arith}
use mir.Syntax.{w64}
use mir.Val as val
use lib.Dec.{ltb}
use lib.ListN.{length, get_or, take, drop, length-drop, length-map, get_or-eq_default}
use lib.Seq.{get_or-drop}
use borrow.Author.Tests.{ltb-true}
use Rattle.base.specs.Pick.{pick-by}
use Rattle.base.specs.Cases.{lt-or-ge}
use Rattle.format.specs.declared.Form.{Form}
use Rattle.format.specs.declared.Form.TheVariants.{Text, Binary}
use Rattle.format.specs.Alphabet.{sextet_of}
use Rattle.format.specs.Units.{domain, text_sextets, binary_sextets}
use Rattle.format.specs.Conversion.{first_stranger}
use Rattle.laws.specs.Conversion.{binary-below}
use Rattle.laws.specs.Local.{text-sextet}
use Rattle.runs.specs.Levels.{Clear, clear-below}
use Rattle.judging.proofs.Laws.{to_end}
use Rattle.mixed_known.specs.Known.{Known}

-- ---- up to the first stranger

first-known : (s : List ℕ) (i : ℕ) → i < first_stranger s → sextet_of (get_or s i 0) < 64
unfolding first_stranger
first-known [] i h = absurd (omega arith)
first-known (c ∷ s) zero h =
    pick-by (λ (n : ℕ). 0 < n → sextet_of c < 64) (ltb (sextet_of c) 64) (suc (first_stranger s)) 0 (λ t _. ltb-true (sextet_of c) 64 t) (λ _ z. absurd (omega arith)) h
first-known (c ∷ s) (suc i) h =
    pick-by (λ (n : ℕ). suc i < n → sextet_of (get_or s i 0) < 64) (ltb (sextet_of c) 64) (suc (first_stranger s)) 0 (λ _ l. first-known s i (omega arith)) (λ _ z. absurd (omega arith)) h

pub known_from : (s : List ℕ) (at n : ℕ) → n ≡ first_stranger (take (length s - at) (drop at s)) → Known s at (at + n)
known_from s at n e i p q =
    let f : n ≡ first_stranger (drop at s) = rw (to_end s at) at e in
    let z : at + (i - at) ≡ i = omega arith in
    rw (get_or-drop at s (i - at) 0, z) at (first-known (drop at s) (i - at) (omega arith))

most : (l : List ℕ) → first_stranger l ≤ length l
unfolding first_stranger
most [] = omega arith
most (c ∷ l) = pick-by (λ (n : ℕ). n ≤ suc (length l)) (ltb (sextet_of c) 64) _ _ (λ _. omega (arith, most l)) (λ _. omega arith)

pub sum_fits : (s : List ℕ) (at n : ℕ) → n ≡ first_stranger (take (length s - at) (drop at s)) → at ≤ length s → length s * 1 < 2 ^ 63 → val.Fits w64 (at + n)
sum_fits s at n e l b = let f : n ≡ first_stranger (drop at s) = rw (to_end s at) at e in omega (arith, most (drop at s), length-drop at s)

-- ---- units

length-sextets : (s : List ℕ) → length (text_sextets s) ≡ length s
unfolding text_sextets
length-sextets s = length-map s sextet_of

text-clear : (s : List ℕ) (at to r : ℕ) → 4 * r ≤ to - at → Known s at to → Clear (text_sextets (drop at s)) 0 r
text-clear s at to r h K i p q =
    ⊎_elim
    (λ l. rw (text-sextet (drop at s) i l, get_or-drop at s i 0) (K (at + i) (omega arith) (omega arith)))
    (λ l. rw (get_or-eq_default (text_sextets (drop at s)) 0 {n = i} (rw (length-sextets (drop at s)) l)) (omega arith))
    (lt-or-ge i (length (drop at s)))

module _ (f : Form) (s : List ℕ) (at to r : ℕ) where
  pub clean-text : f ≡ Text → 4 * r ≤ to - at → Known s at to → Clear ((domain f).sextets (drop at s)) 0 r
  clean-text e h K = rw e (text-clear s at to r h K)

  pub clean-binary : f ≡ Binary → Known s at to → Clear ((domain f).sextets (drop at s)) 0 r
  clean-binary e K = rw e (clear-below (binary_sextets (drop at s)) 0 r (binary-below (drop at s)))
