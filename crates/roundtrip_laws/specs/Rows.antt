-- What a search of the registry finds, beyond its size arithmetic: one more test over the whole table. Assumes nothing.
use Rattle.std.specs.Prelude.{ℕ, ◌*◌, ◌≤◌, ◌<◌, ◌≡◌, List, [], ◌∷◌, Bool, true, T, ltb, leb, eqb}
use Rattle.std.proofs.Common.{ap, ◌∙◌, subst, ⊎_elim, arith, ltb→lt, leb→le, le-ltb, eq-eqb, ne_eqb}
use Rattle.base.specs.Pick.{pick-by}
use Rattle.base.specs.Table.{both, both_left, both_right}
use Rattle.base.specs.Cases.{lt-or-ge}
use Rattle.format.specs.declared.CodeRow.{CodeRow}
use Rattle.format.specs.declared.Kind.TheVariants.{Fixed, Variable, Group, Genus, Indexed}
use Rattle.format.specs.declared.Opening.{Opening}
use Rattle.format.specs.declared.Opening.TheVariants.{Unknown, Short, Long, LargeVariable, LargeGroup, Version}
use Rattle.format.specs.Registry.{codes, zero_bits_of, is_type, fixed_among, fixed}
use Rattle.laws.specs.Registry.{Sound, Code, one, two, four, Finds, fixed-finds}

-- ---- the test

-- a letter, and a lead byte only behind one character
is_lettered : CodeRow → Bool
is_lettered c = both (ltb c.letter 52) (leb (c.lead * c.chars) 1)

all_lettered : List CodeRow → Bool
all_lettered [] = true
all_lettered (c ∷ cs) = both (is_lettered c) (all_lettered cs)

table-lettered : T (all_lettered codes)
unfolding all_lettered is_lettered codes
table-lettered = tt

-- ---- what it says

-- how a raw code spreads over the first unit: its characters, and its zero bits
pub data Spread (c : CodeRow) : Type 0 where
  single : c.chars ≡ 1 → zero_bits_of c ≡ 2 → Spread c
  led : c.chars ≡ 1 → zero_bits_of c ≡ 10 → Spread c
  pair : c.chars ≡ 2 → zero_bits_of c ≡ 4 → Spread c
  whole : c.chars ≡ 4 → zero_bits_of c ≡ 0 → Spread c

spread : (c : CodeRow) → Code c → c.lead * c.chars ≤ 1 → c.tag ≡ 0 → Spread c
spread c (one e p) l t =
    let l1 : c.lead * 1 ≤ 1 = rw e at l in
    let z = eq-eqb c.tag 0 t in
    ⊎_elim (λ h. let n : c.lead ≡ 0 = omega arith in single e (rw (z, p, n)))
    (λ h. let n : c.lead ≡ 1 = omega arith in led e (rw (z, p, n)))
    (lt-or-ge c.lead 1)
spread c (two e p) l t =
    let l2 : c.lead * 2 ≤ 1 = rw e at l in
    let n : c.lead ≡ 0 = omega arith in
    pair e (rw (eq-eqb c.tag 0 t, p, n))
spread c (four e p) l t =
    let l4 : c.lead * 4 ≤ 1 = rw e at l in
    let n : c.lead ≡ 0 = omega arith in
    whole e (rw (eq-eqb c.tag 0 t, p, n))

-- a row of the registry, of n units
pub record Row (c : CodeRow) (n : ℕ) : Type 0 where
  pub found : fixed c.chars c.letter ≡ Short (Fixed c) n
  pub sound : Sound c
  pub units : 4 * n ≡ c.size
  pub lettered : c.letter < 52
  pub spreads : c.tag ≡ 0 → Spread c

abbrev Passes : Opening → Type 0
Passes Unknown = Unit {0}
Passes (Short (Fixed c) n) = T (is_lettered c)
Passes (Short (Variable t l m) n) = Unit {0}
Passes (Short (Group l) n) = Unit {0}
Passes (Short Genus n) = Unit {0}
Passes (Short (Indexed c) n) = Unit {0}
Passes (Long k n) = Unit {0}
Passes (LargeVariable t l) = Unit {0}
Passes (LargeGroup l d) = Unit {0}
Passes Version = Unit {0}

among-passes : (cs : List CodeRow) → T (all_lettered cs) → (chars letter : ℕ) → Passes (fixed_among cs chars letter)
unfolding fixed_among all_lettered
among-passes [] t chars letter = tt
among-passes (c ∷ cs) t chars letter =
    let next = among-passes cs (both_right (is_lettered c) (all_lettered cs) t) chars letter in
    pick-by Passes (eqb c.chars chars) _ _
    (λ _. pick-by Passes (eqb c.letter letter) _ _ (λ _. both_left (is_lettered c) (all_lettered cs) t) (λ _. next))
    (λ _. next)

pub row-found : (chars letter : ℕ) (c : CodeRow) (n : ℕ) → fixed chars letter ≡ Short (Fixed c) n
    → Row c n × (c.chars ≡ chars) × (c.letter ≡ letter)
unfolding fixed is_lettered
row-found chars letter c n e =
    let finds = subst (Finds chars letter) e (fixed-finds chars letter) in
    let passes = subst Passes e (among-passes codes table-lettered chars letter) in
    let short = leb→le (c.lead * c.chars) 1 (both_right (ltb c.letter 52) _ passes) in (
      record {
        found = ap (λ (m : ℕ). fixed m c.letter) finds.2 ∙ ap (fixed chars) finds.3 ∙ e;
        sound = finds.0;
        units = finds.1;
        lettered = ltb→lt c.letter 52 (both_left (ltb c.letter 52) _ passes);
        spreads = spread c finds.0.code short;
      },
      finds.2,
      finds.3,
    )

-- a variable type is a letter too
pub type-low : (t : ℕ) → is_type t ≡ true → t < 64
unfolding is_type
type-low t e =
    ⊎_elim (λ p. p)
    (λ p. let z : ◌≡◌ {A = ℕ} 0 1 = cc (e, le-ltb t 6 (omega arith), ne_eqb t 7 (λ q. omega arith)) in absurd (omega arith))
    (lt-or-ge t 64)
