-- Framing at a unit, over either form. Assumes nothing.
use Prim.Native.Nat.{ℕ, ◌-◌, ◌*◌, ◌/◌, ◌^◌, ◌≤◌, ◌<◌}
use mathlib.Core.Path.{◌≡◌, subst}
use mathlib.Core.List.{List}
use native.Mathlib.Omega.{arith}
use mir.Syntax.{w64}
use mir.Val as val
use lib.ListN.{length, take, drop, drop_of_length-le}
use Rattle.format.specs.declared.Form.{Form}
use Rattle.format.specs.declared.Form.TheVariants.{Text, Binary}
use Rattle.format.specs.declared.Framed.{Framed}
use Rattle.format.specs.declared.Framed.TheVariants.{Unframed}
use Rattle.format.specs.Units.{domain, text_sextets, binary_sextets}
use Rattle.base.specs.Each.{each}
use Rattle.format.specs.Framing.{frame, frame_ruled, frame_with, ruled}
use Rattle.judging.proofs.Laws.{to_end}

text_at : (f : Form) (s : List ℕ) (at r : ℕ) → r ≡ length s / (domain f).unit → at ≤ r → f ≡ Text → 4 * at ≤ length s
text_at f s at r e h q =
    let z : r ≡ length s / 4 = subst (λ (g : Form). r ≡ length s / (domain g).unit) q e in
    omega arith

binary-at : (f : Form) (s : List ℕ) (at r : ℕ) → r ≡ length s / (domain f).unit → at ≤ r → f ≡ Binary → 3 * at ≤ length s
binary-at f s at r e h q =
    let z : r ≡ length s / 3 = subst (λ (g : Form). r ≡ length s / (domain g).unit) q e in
    omega arith

module _ (f : Form) (s : List ℕ) (at r : ℕ) (e : r ≡ length s / (domain f).unit) (h : at ≤ r) where
  pub text-from : f ≡ Text → 4 * at ≤ length s
  text-from q = text_at f s at r e h q

  pub text-fits : f ≡ Text → length s * 1 < 2 ^ 63 → val.Fits w64 (4 * at)
  text-fits q l = omega (arith, text_at f s at r e h q)

  pub binary-from : f ≡ Binary → 3 * at ≤ length s
  binary-from q = binary-at f s at r e h q

  pub binary-fits : f ≡ Binary → length s * 1 < 2 ^ 63 → val.Fits w64 (3 * at)
  binary-fits q l = omega (arith, binary-at f s at r e h q)

pub text-framed : (f : Form) (s : List ℕ) (at : ℕ) (g : Framed) → f ≡ Text
    → g ≡ frame_ruled (text_sextets (take (length s - 4 * at) (drop (4 * at) s)))
    → g ≡ frame_ruled ((domain f).sextets (drop ((domain f).unit * at) s))
text-framed f s at g q e = rw q (rw (to_end s (4 * at)) at e)

pub binary-framed : (f : Form) (s : List ℕ) (at : ℕ) (g : Framed) → f ≡ Binary
    → g ≡ frame_ruled (binary_sextets (take (length s - 3 * at) (drop (3 * at) s)))
    → g ≡ frame_ruled ((domain f).sextets (drop ((domain f).unit * at) s))
binary-framed f s at g q e = rw q (rw (to_end s (3 * at)) at e)

-- past the last unit nothing is framed
pub none-framed : (f : Form) (s : List ℕ) (at r : ℕ) → r ≡ length s / (domain f).unit → r < at
    → Unframed 4 0 ≡ frame_ruled ((domain f).sextets (drop ((domain f).unit * at) s))
unfolding frame_ruled frame frame_with ruled text_sextets binary_sextets each
none-framed Text s at r e h = rw (drop_of_length-le s {i = 4 * at} (omega arith))
none-framed Binary s at r e h = rw (drop_of_length-le s {i = 3 * at} (omega arith))
