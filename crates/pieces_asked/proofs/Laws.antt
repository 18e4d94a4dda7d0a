-- The tests of 13 as the code asks them. Assumes nothing.
use Prim.Native.Nat.{ℕ, ◌+◌, ◌-◌, ◌*◌, ◌/◌, ◌≤◌, ◌<◌}
use mathlib.Core.Path.{◌≡◌, refl, sym, ap, ◌∙◌}
use mathlib.Core.Bool.{Bool, true, false}
use mathlib.Core.Logic.{⊎_elim}
use native.Mathlib.Omega.{arith}
use lib.Dec.{ltb, leb, eqb}
use lib.ListN.{get_or}
use mathlib.Core.List.{List}
use borrow.Author.Tests.{le-leb, lt-leb}
use Rattle.base.specs.Cases.{lt-or-ge}
use Rattle.format.specs.declared.Form.{Form}
use Rattle.format.specs.declared.Form.TheVariants.{Text, Binary}
use Rattle.format.specs.Units.{domain}
use Rattle.pieces.specs.Headers.{endless}
use Rattle.base.specs.Pick.{pick}
use Rattle.walk_state.specs.Walking.{all_below}
use Rattle.pieces.specs.Calls.{most_units, place_fits}

-- two tests of order that say the same
same-leb : (a b x y : ℕ) → (a ≤ b → x ≤ y) → (b < a → y < x) → leb a b ≡ leb x y
same-leb a b x y f g =
    ⊎_elim (λ (l : b < a). lt-leb a b l ∙ sym (lt-leb x y (g l))) (λ (l : a ≤ b). le-leb a b l ∙ sym (le-leb x y (f l))) (lt-or-ge b a)

pub place-few : (place read : ℕ) → leb (place / 4) read ≡ leb place (4 * read + 3)
place-few place read = same-leb (place / 4) read place (4 * read + 3) (λ l. omega arith) (λ l. omega arith)

pub taken-many : (form : Form) (read count : ℕ) → (domain form).limit < count → false ≡ leb (read * (domain form).unit + count) (domain form).limit
taken-many form read count l = sym (lt-leb (read * (domain form).unit + count) (domain form).limit (omega arith))

pub taken-few : (form : Form) (read count : ℕ) → count ≤ (domain form).limit
    → leb read (((domain form).limit - count) / (domain form).unit) ≡ leb (read * (domain form).unit + count) (domain form).limit
taken-few Text read count l =
    same-leb read ((4194304 - count) / 4) (read * 4 + count) 4194304 (λ m. omega arith) (λ m. omega arith)
taken-few Binary read count l =
    same-leb read ((3145728 - count) / 3) (read * 3 + count) 3145728 (λ m. omega arith) (λ m. omega arith)

-- the units of the longest stream, of either form
pub reach-is : (form : Form) → 1074790402 ≡ most_units (domain form) + endless
unfolding most_units
reach-is Text = omega arith
reach-is Binary = omega arith

-- four places, one by one
same-pick : (b : Bool) → b ≡ pick b true false
same-pick true = refl
same-pick false = refl

pub places-all : (held : List ℕ) (count : ℕ)
    → pick (pick (ltb 3 count) true (eqb (get_or held 3 0) 0))
    (pick (pick (ltb 2 count) true (eqb (get_or held 2 0) 0))
    (pick (pick (ltb 1 count) true (eqb (get_or held 1 0) 0)) (pick (ltb 0 count) true (eqb (get_or held 0 0) 0)) false) false) false
    ≡ all_below (place_fits held count) 4
unfolding all_below place_fits
places-all held count =
    ap (λ (x : Bool). pick (place_fits held count 3) (pick (place_fits held count 2) (pick (place_fits held count 1) x false) false) false)
    (same-pick (place_fits held count 0))
