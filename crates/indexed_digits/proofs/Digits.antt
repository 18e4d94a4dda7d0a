-- The number of the digits from a place of a list on: one, two and three. Assumes nothing.
use mathlib.Core.Path.{◌≡◌, ap, sym, ◌∙◌}
use mathlib.Core.List.{List, ◌∷◌, ◌++◌}
use Prim.Native.Nat.{ℕ, ◌+◌, ◌*◌, ◌≤◌}
use native.Mathlib.Omega.{arith}
use lib.ListN.{length, get_or, take, drop, take-append-drop}
use Rattle.base.specs.Digits.{number_of}
use Rattle.base.specs.Each.{take3}

three : (s : List ℕ) (i : ℕ) → i + 3 ≤ length s → drop i s ≡ get_or s i 0 ∷ get_or s (i + 1) 0 ∷ get_or s (i + 2) 0 ∷ drop 3 (drop i s)
three s i h = sym (take-append-drop 3 (drop i s)) ∙ ap (λ (t : List ℕ). t ++ drop 3 (drop i s)) (take3 s i h)

module _ (s : List ℕ) (i : ℕ) (h : i + 3 ≤ length s) where
  pub one-digit : get_or s i 0 ≡ number_of 64 (take 1 (drop i s))
  one-digit = rw (three s i h) (omega arith)

  pub two_digits : get_or s i 0 * 64 + get_or s (i + 1) 0 ≡ number_of 64 (take 2 (drop i s))
  two_digits = rw (three s i h) (omega arith)

  pub three-digits : (get_or s i 0 * 64 + get_or s (i + 1) 0) * 64 + get_or s (i + 2) 0 ≡ number_of 64 (take 3 (drop i s))
  three-digits = rw (three s i h) (omega arith)
