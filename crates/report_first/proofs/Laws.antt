-- What first units tell, over either form. Assumes nothing.
use Prim.Native.Nat.{ℕ, zero, suc, ◌+◌, ◌-◌, ◌*◌, ◌/◌, ◌≤◌, ◌<◌, min}
use mathlib.Core.Path.{◌≡◌, refl, sym, ◌∙◌}
use mathlib.Core.Bool.{Bool, true, false}
use mathlib.Core.List.{List}
use native.Mathlib.Omega.{arith}
use lib.Dec.{ltb, eqb}
use native.Mathlib.Nat.{min-le_left, min-le_right}
use lib.ListN.{length, get_or, drop}
use mathlib.Core.Logic.{⊎_elim}
use borrow.Author.Tests.{ltb-true, le-ltb}
use Rattle.base.specs.Cases.{lt-or-ge}
use Rattle.base.specs.Pick.{pick, pick-by}
use Rattle.format.specs.declared.Form.{Form}
use Rattle.format.specs.declared.Form.TheVariants.{Text, Binary}
use Rattle.format.specs.Units.{domain, text_sextets, binary_sextets}
use Rattle.format.specs.Registry.{is_indexed, is_overrideable}
use Rattle.format.specs.Conversion.{first_stranger}
use Rattle.laws.specs.Conversion.{binary-below}
use Rattle.runs.specs.Plain.{plain_table, unit_by, sized_at, plain_at, small_at, group_at, letter_at, signed_at, marks_at, nested, nested_at, sextets_by, group_by, class_by}
use Rattle.runs.specs.Tables.{by-table}
use Rattle.runs.specs.Levels.{Clear, clear-below}
use Rattle.runs.specs.Runs.{clear-from, small_by_lem, nested-by, signed_by, marks-by, signed-at, marks-at, nested_is}
use Rattle.runs_value.specs.Values.{valued_at}
use Rattle.runs_indexed.specs.Indexed.{indexed_at}
use Rattle.runs_tables.specs.declared.Tables.{Tables}
use Rattle.runs_tables.specs.Lent.{Lent}

-- ---- first units: a text by its tables

module _ (tables : Tables) (s : List ℕ) (L : Lent tables) (b : (i : ℕ) → get_or s i 0 < 256) (at : ℕ) where
  pub text-plain : (k : ℕ) → k ≡ plain_at tables.rows (sextets_by tables.values s) at → plain_at plain_table (text_sextets s) at ≡ k
  text-plain k q = sym (q ∙ rw (L.codes, L.characters, by-table s b))

  pub text-sized : (k : ℕ) → k ≡ sized_at tables.rows (sextets_by tables.values s) at → sized_at plain_table (text_sextets s) at ≡ k
  text-sized k q = sym (q ∙ rw (L.codes, L.characters, by-table s b))

  pub text-valued : (k : ℕ) → k ≡ valued_at (sextets_by tables.values s) at → valued_at (text_sextets s) at ≡ k
  text-valued k q = sym (q ∙ rw (L.characters, by-table s b))

  pub text-indexed : (k : ℕ) → k ≡ indexed_at (sextets_by tables.values s) at → indexed_at (text_sextets s) at ≡ k
  text-indexed k q = sym (q ∙ rw (L.characters, by-table s b))

  pub text-small : (g : ℕ) → g ≡ group_by tables.values tables.classes 2 s at → small_at (text_sextets s) at ≡ g
  text-small g q = sym (q ∙ rw (L.letters, L.characters) (small_by_lem s b at))

  pub text-signed : (m : Bool) → 0 < small_at (text_sextets s) at → m ≡ class_by tables.classes 2 s at → m ≡ is_indexed (letter_at (text_sextets s) at)
  text-signed m p q = q ∙ rw L.letters (signed_by s b at _ refl p)

  pub text-marks : (m : Bool) → 0 < group_at (text_sextets s) at → m ≡ class_by tables.classes 1 s at → m ≡ is_overrideable (letter_at (text_sextets s) at)
  text-marks m p q = q ∙ rw L.letters (marks-by s b at _ refl p)

  pub text-nested : (stop n d : ℕ) → stop ≤ length s / 4 → d ≡ nested_at (group_by tables.values tables.classes 1 s) (length s / 4) stop n at
      → nested (group_at (text_sextets s)) stop n at ≡ d
  text-nested stop n d h q =
      let w : d ≡ nested (group_by tables.values tables.classes 1 s) stop n at = q ∙ nested_is (group_by tables.values tables.classes 1 s) (length s / 4) stop n at h in
      sym (w ∙ rw (L.letters, L.characters) (nested-by s b stop n at))

-- ---- a binary

pub binary-codes : (tables : Tables) (s : List ℕ) → Lent tables → (at k : ℕ) → k ≡ plain_at tables.rows (binary_sextets s) at
    → plain_at plain_table (binary_sextets s) at ≡ k
binary-codes tables s L at k q = sym (q ∙ rw L.codes)

pub binary-sizes : (tables : Tables) (s : List ℕ) → Lent tables → (at k : ℕ) → k ≡ sized_at tables.rows (binary_sextets s) at
    → sized_at plain_table (binary_sextets s) at ≡ k
binary-sizes tables s L at k q = sym (q ∙ rw L.codes)

unit-within : (f : ℕ → ℕ → ℕ → ℕ → ℕ) (s : List ℕ) (at : ℕ) → 0 < unit_by f s at → at < length s / 4
unfolding unit_by
unit-within f s at p = ⊎_elim (λ l. l) (λ h. absurd (omega (arith, rw (le-ltb at (length s / 4) h) at p))) (lt-or-ge at (length s / 4))

pub binary-signed : (s : List ℕ) (at : ℕ) (m : Bool) → 0 < small_at (binary_sextets s) at → m ≡ signed_at (binary_sextets s) at
    → m ≡ is_indexed (letter_at (binary_sextets s) at)
binary-signed s at m p q = q ∙ signed-at (binary_sextets s) at (unit-within _ (binary_sextets s) at p)

pub binary-marks : (s : List ℕ) (at : ℕ) (m : Bool) → 0 < group_at (binary_sextets s) at → m ≡ marks_at (binary_sextets s) at
    → m ≡ is_overrideable (letter_at (binary_sextets s) at)
binary-marks s at m p q = q ∙ marks-at (binary_sextets s) at (unit-within _ (binary_sextets s) at p)

pub binary-nested : (s : List ℕ) (at stop n d : ℕ) → stop ≤ length s / 3 → d ≡ nested_at (group_at (binary_sextets s)) (length s / 3) stop n at
    → nested (group_at (binary_sextets s)) stop n at ≡ d
binary-nested s at stop n d h q = sym (q ∙ nested_is (group_at (binary_sextets s)) (length s / 3) stop n at h)

-- ---- how far groups that stand one in the other can go, whatever the rule

nested-few : (g : ℕ → ℕ) (stop n at : ℕ) → (nested g stop n at ≤ n) × (nested g stop n at ≤ stop - at)
unfolding nested
nested-few g stop zero at = (omega arith, omega arith)
nested-few g stop (suc n) at = go (nested-few g stop n (at + 1)) (ltb at stop) (eqb (g at) (stop - at)) refl
  where
    go : (nested g stop n (at + 1) ≤ n) × (nested g stop n (at + 1) ≤ stop - (at + 1)) → (x y : Bool) → ltb at stop ≡ x
        → (pick x (pick y (suc (nested g stop n (at + 1))) 0) 0 ≤ suc n) × (pick x (pick y (suc (nested g stop n (at + 1))) 0) 0 ≤ stop - at)
    go h false y p = (omega arith, omega arith)
    go h true false p = (omega arith, omega arith)
    go h true true p = (omega (arith, h.0), omega (arith, h.1, ltb-true at stop p))

pub nested-bounds : (g : ℕ → ℕ) (units stop n at r : ℕ) → r ≡ nested_at g units stop n at → (r ≤ n) × (r ≤ stop - at)
unfolding nested_at
nested-bounds g units stop n at r e = rw e (pick-by (λ (k : ℕ). (k ≤ n) × (k ≤ stop - at)) (ltb units stop) 0 (nested g stop n at) (λ _. (omega arith, omega arith)) (λ _. nested-few g stop n at))

-- ---- known characters

pub known-text : (f : Form) (s : List ℕ) (at clean n : ℕ) → f ≡ Text → n ≡ first_stranger (drop (4 * at) s) → Clear ((domain f).sextets s) at clean
    → Clear ((domain f).sextets s) at (at + n / 4)
known-text f s at clean n e q _ = rw (e, q) (clear-from s at)

pub known-binary : (f : Form) (s : List ℕ) (at clean to : ℕ) → f ≡ Binary → Clear ((domain f).sextets s) at clean → Clear ((domain f).sextets s) at to
known-binary f s at clean to e _ = rw e (clear-below (binary_sextets s) at to (binary-below s))

-- ---- the lesser of two

pub least-right : (x y r : ℕ) → r ≡ min x y → r ≤ y
least-right x y r e = rw e (min-le_right x y)

pub least-left : (x y r : ℕ) → r ≡ min x y → r ≤ x
least-left x y r e = rw e (min-le_left x y)
