-- Laws of the walk of the body and of the call's answer. Assumes nothing.
use Prim.Native.Nat.{ℕ, ◌+◌, ◌*◌, ◌/◌, ◌^◌, ◌≤◌, ◌<◌}
use mathlib.Core.Path.{◌≡◌, sym, ap, ◌∙◌}
use mathlib.Core.List.{List}
use native.Mathlib.Omega.{arith}
use mir.Syntax.{w64}
use mir.Val.{Fits}
use lib.ListN.{length, take}
use Rattle.format.specs.declared.Form.{Form}
use Rattle.format.specs.declared.Form.TheVariants.{Text, Binary}
use Rattle.format.specs.Units.{domain}
use Rattle.walk_state.specs.declared.Walk.{Walk}
use Rattle.instalments.specs.declared.Pause.{Pause}
use Rattle.instalments.specs.declared.Walked.{Walked}
use Rattle.instalments.specs.Instalments.{walk_on}
use Rattle.groups.specs.Grouping.{within, body_walk, room_for, grouped}
use Rattle.groups_order.specs.declared.Before.{Before}
use Rattle.groups_order.specs.declared.Before.TheVariants as B
use Rattle.groups_order.specs.Order.{before_walk, answered, in_order, body-there}
use Rattle.std.specs.Prelude.{Result}
use Rattle.format.specs.declared.Refusal.{Refusal}
use Rattle.format.specs.Refusals.{refused_by}

-- ---- the walk of the body

pub budget-fits : (f : Form) (n len : ℕ) → n ≡ len / (domain f).unit → len * 1 < 2 ^ 63 → Fits w64 (n + 1)
budget-fits Text n len e h = omega arith
budget-fits Binary n len e h = omega arith

pub walked : (f : Form) (l : ℕ) (body : List ℕ) (n : ℕ) (w : Walk) (r : Walked ℕ) → n ≡ length body / (domain f).unit → w ≡ within l n
    → r ≡ walk_on (domain f) body (n + 1) w → r.pause ≡ body_walk (domain f) l body
unfolding body_walk
walked f l body n w r e q p = ap (λ (x : Walked ℕ). x.pause) p ∙ rw (q, e)

-- ---- the answer, by what is asked before the walk

module _ (f : Form) (letter len : ℕ) (buf : List ℕ) (b : Before) (e : b ≡ before_walk f letter len (length buf)) where
  told : answered b f len buf ≡ grouped f letter len buf
  told = ap (λ (x : Before). answered x f len buf) e ∙ in_order f len buf letter

  pub by_number : (m : ℕ) → b ≡ B.Refused m → refused_by m 0 ≡ grouped f letter len buf
  unfolding answered
  by_number m q = ap (λ (x : Before). answered x f len buf) (sym q) ∙ told

  module _ (l size : ℕ) (q : b ≡ B.Contents l size) where
    pub there : len ≤ length buf
    there = body-there f letter len (length buf) l size (sym e ∙ q)

    pub by-walk : (p : Pause ℕ) (r : Result ℕ (Refusal ℕ)) → p ≡ body_walk (domain f) l (take len buf) → r ≡ room_for p size (length buf)
        → r ≡ grouped f letter len buf
    unfolding answered
    by-walk p r ep er = er ∙ rw ep (ap (λ (x : Before). answered x f len buf) (sym q) ∙ told)
