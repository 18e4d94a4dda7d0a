-- The definitions case by case, as the code's answers cite them. Assumes nothing.
use Prim.Native.Nat.{ℕ, ◌-◌, ◌≤◌, ◌<◌}
use mathlib.Core.Path.{◌≡◌, refl, sym, ap, ◌∙◌}
use mathlib.Core.Bool.{Bool, true, false}
use mathlib.Core.List.{List}
use lib.Dec.{eqb}
use borrow.Author.Tests.{lt-ltb, le-ltb, le-leb, lt-leb}
use Rattle.base.specs.Pick.{pick}
use Rattle.format.specs.declared.CodeRow.{CodeRow}
use Rattle.format.specs.declared.IndexRow.{IndexRow}
use Rattle.format.specs.declared.Kind.{Kind}
use Rattle.format.specs.declared.Kind.TheVariants.{Fixed, Variable, Group, Genus, Indexed}
use Rattle.format.specs.declared.Opening.{Opening}
use Rattle.format.specs.declared.Verdict.{Verdict}
use Rattle.format.specs.Registry.{opening_by, header_units}
use Rattle.format.specs.Framing.{sextet}
use Rattle.format.specs.Judging.{and_then, unless, is_shortest, has_lead, max_depth, zero_bits, prepad_right, ondex_right}
use Rattle.format.specs.Report.{verdict_byte}
use Rattle.judging_fixed.specs.Checks.{fixed_checks}
use Rattle.judging_indexed.specs.Checks.{indexed_checks}
use Rattle.pieces.specs.Headers.{all_known, is_long, group_number, head_number}

-- ---- 11 and 18

module _ (k : Kind) (letter depth h n : ℕ) (e : k ≡ Group letter) where
  pub group-deep : max_depth ≤ depth → 11 ≡ group_number k depth h n
  unfolding group_number
  group-deep l = rw (e, le-leb max_depth depth l)

  pub group-short : depth < max_depth → (u : ℕ) (b : Bool) → u ≡ n - h → b ≡ is_shortest h u → b ≡ true → 0 ≡ group_number k depth h n
  unfolding group_number
  group-short l u b x y z = rw (e, lt-leb max_depth depth l, ← x, ← y, z)

  pub group-long : depth < max_depth → (u : ℕ) (b : Bool) → u ≡ n - h → b ≡ is_shortest h u → b ≡ false → 18 ≡ group_number k depth h n
  unfolding group_number
  group-long l u b x y z = rw (e, lt-leb max_depth depth l, ← x, ← y, z)

-- ---- a primitive's header

two-numbers : (m n : ℕ) (a b : Bool) → verdict_byte (and_then (unless m a) (unless n b)) ≡ pick a (pick b 0 n) m
unfolding verdict_byte and_then unless
two-numbers m n true true = refl
two-numbers m n true false = refl
two-numbers m n false b = refl

module _ (k : Kind) (h x : ℕ) (cs : List ℕ) (v : Verdict) where
  pub fixed_number : (c : CodeRow) → k ≡ Fixed c → v ≡ fixed_checks c cs → x ≡ verdict_byte v → x ≡ head_number k h cs
  unfolding fixed_checks head_number
  fixed_number c e f g = g ∙ ap verdict_byte f ∙ two-numbers 8 10 _ _ ∙ rw e

  pub indexed-number : (c : IndexRow) → k ≡ Indexed c → v ≡ indexed_checks c cs → x ≡ verdict_byte v → x ≡ head_number k h cs
  unfolding indexed_checks head_number
  indexed-number c e f g = g ∙ ap verdict_byte f ∙ two-numbers 8 15 _ _ ∙ rw e

module _ (k : Kind) (t lead count h : ℕ) (cs : List ℕ) (s : Bool) (e : k ≡ Variable t lead count) (f : s ≡ is_shortest h count) where
  pub variable-long : s ≡ false → 18 ≡ head_number k h cs
  unfolding head_number
  variable-long g = rw (e, ← f, g)

  pub variable-led : (l : Bool) → s ≡ true → l ≡ has_lead lead count → l ≡ true → 0 ≡ head_number k h cs
  unfolding head_number
  variable-led l g x y = rw (e, ← f, g, ← x, y)

  pub variable-bare : (l : Bool) → s ≡ true → l ≡ has_lead lead count → l ≡ false → 9 ≡ head_number k h cs
  unfolding head_number
  variable-bare l g x y = rw (e, ← f, g, ← x, y)

-- ---- a second unit

module _ (t : Bool) (q : List ℕ) (room : ℕ) where
  pub long-none : room ≤ 1 → false ≡ is_long t q room
  unfolding is_long
  long-none l = rw (le-ltb 1 room l)

  pub long-unknown : 1 < room → (b : Bool) → b ≡ all_known q → b ≡ false → false ≡ is_long t q room
  unfolding is_long
  long-unknown l b e f = rw (lt-ltb 1 room l, ← e, f)

  pub long-units : 1 < room → (b : Bool) → b ≡ all_known q → b ≡ true → (o : Opening) (n : ℕ)
      → o ≡ opening_by t (sextet q 0) (sextet q 1) (sextet q 2) (sextet q 3) → n ≡ header_units o → eqb n 2 ≡ is_long t q room
  unfolding is_long
  long-units l b e f o n g h = rw (lt-ltb 1 room l, ← e, f, h, g)
