-- The first bad character of a unit, wherever the unit begins. Assumes nothing.
use mathlib.Core.Path.{◌≡◌}
use Prim.Native.Nat.{ℕ, ◌+◌, ◌<◌, ◌≤◌}
use borrow.Author.Tests.{lt-ltb, le-ltb}
use Rattle.format.specs.declared.Framed.{Framed}
use Rattle.format.specs.declared.Framed.TheVariants.{Unframed}
use Rattle.format.specs.Alphabet.{stranger_number}
use Rattle.format.specs.Framing.{known}

module _ (at : ℕ → ℕ) (i : ℕ) (next : Framed) where
  -- an answer that tells the character n behind the unit's start
  abbrev Told : Framed → ℕ → Type 0
  Told r n = r ≡ Unframed (stranger_number (at (i + n))) (i + n) → r ≡ known at i next

  pub bad0 : (r : Framed) → 64 ≤ at i → r ≡ Unframed (stranger_number (at i)) i → r ≡ known at i next
  unfolding known
  bad0 r h e = simp (le-ltb (at i) 64 h, e)

  pub bad1 : (r : Framed) → at i < 64 → 64 ≤ at (i + 1) → Told r 1
  unfolding known
  bad1 r h0 h e = simp (lt-ltb (at i) 64 h0, le-ltb (at (i + 1)) 64 h, e)

  pub bad2 : (r : Framed) → at i < 64 → at (i + 1) < 64 → 64 ≤ at (i + 2) → Told r 2
  unfolding known
  bad2 r h0 h1 h e = simp (lt-ltb (at i) 64 h0, lt-ltb (at (i + 1)) 64 h1, le-ltb (at (i + 2)) 64 h, e)

  pub bad3 : (r : Framed) → at i < 64 → at (i + 1) < 64 → at (i + 2) < 64 → 64 ≤ at (i + 3) → Told r 3
  unfolding known
  bad3 r h0 h1 h2 h e =
      simp (lt-ltb (at i) 64 h0, lt-ltb (at (i + 1)) 64 h1, lt-ltb (at (i + 2)) 64 h2, le-ltb (at (i + 3)) 64 h, e)

  pub good : at i < 64 → at (i + 1) < 64 → at (i + 2) < 64 → at (i + 3) < 64 → next ≡ known at i next
  unfolding known
  good h0 h1 h2 h3 = simp (lt-ltb (at i) 64 h0, lt-ltb (at (i + 1)) 64 h1, lt-ltb (at (i + 2)) 64 h2, lt-ltb (at (i + 3)) 64 h3)
