-- What is known of a code that is named and fits: a row of the registry is sound, a variable one has one header unit or two, and
-- what it holds is within its limit. Assumes nothing.
use mathlib.Core.Path.{◌≡◌, refl, ◌∙◌}
use mathlib.Core.Bool.{Bool, true, false}
use mathlib.Core.Logic.{◌⊎◌, inl, inr}
use Prim.Native.Nat.{ℕ, ◌+◌, ◌≤◌}
use native.Mathlib.Omega.{arith}
use borrow.Author.Tests.{eqb-true, eqb-false, eq-eqb, leb-true}
use lib.Dec.{eqb, leb}
use Rattle.base.specs.Pick.{pick, pick-by}
use Rattle.format.specs.declared.CodeRow.{CodeRow}
use Rattle.format.specs.declared.Kind.TheVariants.{Fixed, Variable, Group, Genus, Indexed}
use Rattle.format.specs.declared.Opening.{Opening}
use Rattle.format.specs.declared.Opening.TheVariants.{Unknown, Short, Long, LargeVariable, LargeGroup, Version}
use Rattle.format.specs.declared.Code.{Code}
use Rattle.format.specs.declared.Code.TheVariants as C
use Rattle.format.specs.Alphabet.{sextet_of}
use Rattle.format.specs.Registry.{is_type, is_text, fixed}
use Rattle.format.specs.Texts.{fill_for}
use Rattle.format.specs.Writing.{named_fixed, named_variable, named, is_fit, fits_row, fits_variable, fits_text, raw_size, raw_limit, text_limit}
use Rattle.format.specs.Writing.Named.{unknown, row, variable, textual}
use Rattle.laws.specs.Registry.{Finds, fixed-finds}
use Rattle.writing_code.specs.Names.{Able}

-- ---- fit

pub fits-row : (c : CodeRow) (tags raw w r : ℕ) → w ≡ c.tag → tags ≡ w → r ≡ raw_size c → eqb raw r ≡ is_fit (row c) tags raw
unfolding is_fit fits_row
fits-row c tags raw w r e f g = rw (eq-eqb tags c.tag (f ∙ e), g)

both_hold : (a b : Bool) → pick a b false ≡ true → (a ≡ true) × (b ≡ true)
both_hold true b e = (refl, e)
both_hold false b e = let z : ◌≡◌ {A = ℕ} 0 1 = cc in absurd (omega arith)

never : {X : Type 0} → ◌≡◌ {A = Bool} false true → X
never e = let z : ◌≡◌ {A = ℕ} 0 1 = cc in absurd (omega arith)

able-fixed : (chars letter : ℕ) (o : Opening) (tags raw : ℕ) → Finds chars letter o → is_fit (named_fixed o) tags raw ≡ true → Able (named_fixed o) tags raw
unfolding is_fit fits_row named_fixed Able
able-fixed chars letter Unknown tags raw f e = never e
able-fixed chars letter (Short (Fixed c) n) tags raw f e =
    let b = both_hold (eqb tags c.tag) (eqb raw (raw_size c)) e in
    (f.0, eqb-true tags c.tag b.0, eqb-true raw (raw_size c) b.1)
able-fixed chars letter (Short (Variable t l m) n) tags raw f e = never e
able-fixed chars letter (Short (Group l) n) tags raw f e = never e
able-fixed chars letter (Short Genus n) tags raw f e = never e
able-fixed chars letter (Short (Indexed c) n) tags raw f e = never e
able-fixed chars letter (Long k n) tags raw f e = never e
able-fixed chars letter (LargeVariable t l) tags raw f e = never e
able-fixed chars letter (LargeGroup l d) tags raw f e = never e
able-fixed chars letter Version tags raw f e = never e

-- a limit is the larger one at most, and the small one of a header of one unit
limit : (h small large n : ℕ) → small ≤ large → n ≤ pick (eqb h 1) small large → (n ≤ large) × (h ≡ 1 → n ≤ small)
limit h small large n s =
    pick-by (λ (m : ℕ). n ≤ m → (n ≤ large) × (h ≡ 1 → n ≤ small)) (eqb h 1) _ _
    (λ _ l. (omega arith, λ _. l)) (λ z l. (l, λ e. absurd (eqb-false h 1 z e)))

able-variable : (t h tags raw : ℕ) → (h ≡ 1) ⊎ (h ≡ 2) → is_fit (variable t h) tags raw ≡ true → Able (variable t h) tags raw
unfolding is_fit fits_variable raw_limit Able
able-variable t h tags raw w e =
    let b = both_hold (eqb tags 0) (leb raw (raw_limit h)) e in
    let l = limit h 12285 3145722 raw (omega arith) (leb-true raw (raw_limit h) b.1) in
    (w, eqb-true tags 0 b.0, l.0, l.1)

able-textual : (h tags chars : ℕ) → (h ≡ 1) ⊎ (h ≡ 2) → is_fit (textual h) tags chars ≡ true → Able (textual h) tags chars
unfolding is_fit fits_text text_limit Able
able-textual h tags chars w e =
    let b = both_hold (eqb tags 0) (leb (chars + fill_for chars) (text_limit h)) e in
    let l = limit h 16380 4194296 (chars + fill_for chars) (omega arith) (leb-true (chars + fill_for chars) (text_limit h) b.1) in
    (w, eqb-true tags 0 b.0, l.0, l.1)

able-typed : (a b : Bool) (t h tags raw : ℕ) → (h ≡ 1) ⊎ (h ≡ 2) → is_fit (pick a (pick b (textual h) (variable t h)) unknown) tags raw ≡ true
    → Able (pick a (pick b (textual h) (variable t h)) unknown) tags raw
unfolding is_fit
able-typed true true t h tags raw w e = able-textual h tags raw w e
able-typed true false t h tags raw w e = able-variable t h tags raw w e
able-typed false b t h tags raw w e = never e

pub able : (code : Code) (tags raw : ℕ) → is_fit (named code) tags raw ≡ true → Able (named code) tags raw
unfolding named named_variable
able (C.Fixed chars letter) tags raw e = able-fixed chars (sextet_of letter) (fixed chars (sextet_of letter)) tags raw (fixed-finds chars (sextet_of letter)) e
able (C.Small letter) tags raw e = able-typed (is_type (sextet_of letter)) (is_text (sextet_of letter)) (sextet_of letter) 1 tags raw (inl refl) e
able (C.Large letter) tags raw e = able-typed (is_type (sextet_of letter)) (is_text (sextet_of letter)) (sextet_of letter) 2 tags raw (inr refl) e
