-- Laws of the call's order, one for each way through the code. Assumes nothing.
use Prim.Native.Nat.{ℕ, ◌+◌, ◌-◌, ◌*◌, ◌/◌, ◌%◌, ◌≤◌, ◌<◌}
use mathlib.Core.Path.{◌≡◌, refl, sym, ap, ◌∙◌}
use mathlib.Core.Bool.{Bool, true, false}
use native.Mathlib.Omega.{arith}
use mir.Syntax.{w64}
use mir.Val.{Fits}
use borrow.Author.Tests.{lt-ltb, le-ltb, eq-eqb, ne_eqb}
use Rattle.format.specs.declared.Form.{Form}
use Rattle.format.specs.declared.Form.TheVariants.{Text, Binary}
use Rattle.format.specs.Alphabet.{sextet_of}
use Rattle.format.specs.Units.{domain}
use Rattle.format.specs.Registry.{is_group, is_indexed, is_overrideable}
use Rattle.walk_state.specs.declared.Walk.{Walk}
use Rattle.walk_state.specs.Walking.{start, closed, opened, past, next_of}
use Rattle.walk_state.specs.Moving.{finished, entered, step_over}
use Rattle.instalments.specs.declared.Pause.{Pause}
use Rattle.instalments.specs.declared.Pause.TheVariants as P
use Rattle.groups.specs.Grouping.{head_units, group_size, within, room_for}
use Rattle.groups_claims.proofs.Heads.{head-eight}
use Rattle.groups_order.specs.declared.Before.{Before}
use Rattle.groups_order.specs.declared.Before.TheVariants as B
use Rattle.groups_order.specs.Order.{before_walk}
use Rattle.std.specs.Prelude.{Ok}
use Rattle.format.specs.Refusals.{refused_by}

-- ---- the header's size

pub head-sized : (f : Form) (m h u : ℕ) → h ≡ head_units m → u ≡ (domain f).unit → (h * u ≡ head_units m * (domain f).unit) × (h * u ≤ 8)
head-sized f m h u e q = rw (e, q) (refl, head-eight f m)

pub head-fits : (f : Form) (m h u : ℕ) → h ≡ head_units m → u ≡ (domain f).unit → Fits w64 (h * u)
head-fits f m h u e q = omega (arith, (head-sized f m h u e q).1)

limit-some : (f : Form) → 8 ≤ (domain f).limit
limit-some Text = omega arith
limit-some Binary = omega arith

pub within-limit : (f : Form) (h lim : ℕ) → h ≤ 8 → lim ≡ (domain f).limit → h ≤ lim
within-limit f h lim g e = omega (arith, limit-some f)

pub unit-some : (f : Form) (u : ℕ) → u ≡ (domain f).unit → 0 < u
unit-some Text u e = omega arith
unit-some Binary u e = omega arith

-- ---- the order

module _ (f : Form) (letter len room : ℕ) where
  abbrev answer : Before
  answer = before_walk f letter len room

  pub too_short : room < len → B.Refused 3 ≡ answer
  unfolding before_walk
  too_short h = rw (lt-ltb room len h)

  module _ (there : len ≤ room) (h lim : ℕ) (eh : (h ≡ head_units (len / (domain f).unit) * (domain f).unit) × (h ≤ 8))
      (el : lim ≡ (domain f).limit) where
    sized : h + len ≡ group_size (domain f) len
    unfolding group_size
    sized = rw eh.0

    pub too_long : lim - h < len → B.Refused 1 ≡ answer
    unfolding before_walk
    too_long g =
        let o : (domain f).limit < group_size (domain f) len = omega (arith, sized, within-limit f h lim eh.1 el, el) in
        rw (le-ltb room len there, lt-ltb (domain f).limit (group_size (domain f) len) o)

    module _ (fits : len ≤ lim - h) (l : ℕ) (lettered : l ≡ sextet_of letter) (b : Bool) (is : b ≡ is_group l) where
      short : group_size (domain f) len ≤ (domain f).limit
      short = omega (arith, sized, within-limit f h lim eh.1 el, el)

      group-is : (t : Bool) → b ≡ t → is_group (sextet_of letter) ≡ t
      group-is t e = ap is_group (sym lettered) ∙ sym is ∙ e

      pub no-letter : b ≡ false → B.Refused 6 ≡ answer
      unfolding before_walk
      no-letter e = rw (le-ltb room len there, le-ltb (domain f).limit (group_size (domain f) len) short, group-is false e)

      module _ (yes : b ≡ true) (u : ℕ) (eu : u ≡ (domain f).unit) where
        pub not-whole : (len % u ≡ 0 → ⊥) → B.Refused 2 ≡ answer
        unfolding before_walk
        not-whole w =
            let w' : len % (domain f).unit ≡ 0 → ⊥ = rw eu at w in
            rw (
              le-ltb room len there,
              le-ltb (domain f).limit (group_size (domain f) len) short,
              group-is true yes,
              ne_eqb (len % (domain f).unit) 0 w',
            )

        pub to-walk : len % u ≡ 0 → B.Contents l (h + len) ≡ answer
        unfolding before_walk
        to-walk w =
            let w' : len % (domain f).unit ≡ 0 = rw eu at w in
            let s : h + len ≡ group_size (domain f) len = sized in
            rw (
              s,
              lettered,
              le-ltb room len there,
              le-ltb (domain f).limit (group_size (domain f) len) short,
              group-is true yes,
              eq-eqb (len % (domain f).unit) 0 w',
            )

-- ---- the walk

-- a group stepped into that has no header
pub into : (l n : ℕ) (w : Walk) (first indexed : Bool) (r : Walk) → w ≡ start → first ≡ is_overrideable l → indexed ≡ is_indexed l
    → r ≡ step_over w 0 n true first indexed → r ≡ within l n
unfolding step_over finished entered within next_of past opened start closed
into l n w first indexed r e f g q = let z : 0 + n ≡ n = omega arith in q ∙ rw (e, f, g, z)

-- ---- room

module _ (p : Pause ℕ) (size room : ℕ) where
  pub no_room : p ≡ P.End → room < size → refused_by 3 0 ≡ room_for p size room
  unfolding room_for
  no_room e h = rw (e, lt-ltb room size h)

  pub has_room : p ≡ P.End → size ≤ room → Ok size ≡ room_for p size room
  unfolding room_for
  has_room e h = rw (e, le-ltb room size h)

  pub no_walk : (m at : ℕ) → p ≡ P.Refused m at → refused_by m at ≡ room_for p size room
  unfolding room_for
  no_walk m at e = rw e

  pub spent : p ≡ P.Spent → refused_by 13 0 ≡ room_for p size room
  unfolding room_for
  spent e = rw e
