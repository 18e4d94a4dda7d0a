-- The indexed table opens nothing but indexed items. Assumes nothing.
use Rattle.std.specs.Prelude.{ℕ, ◌/◌, ◌≡◌, List, [], ◌∷◌, Bool, true, false, ltb, eqb, length}
use Rattle.std.proofs.Common.{subst}
use Rattle.base.specs.Pick.{pick-by}
use Rattle.format.specs.declared.IndexRow.{IndexRow}
use Rattle.format.specs.declared.Kind.{Kind}
use Rattle.format.specs.declared.Kind.TheVariants.{Fixed, Variable, Group, Genus, Indexed}
use Rattle.format.specs.declared.Opening.{Opening}
use Rattle.format.specs.declared.Opening.TheVariants.{Unknown, Short, Long, LargeVariable, LargeGroup, Version}
use Rattle.format.specs.declared.Framed.{Framed}
use Rattle.format.specs.declared.Framed.TheVariants.{Item, Unframed}
use Rattle.format.specs.Registry.{indexed_codes, index_head, indexed_row, indexed_among, indexed_by, indexed_opening}
use Rattle.format.specs.Framing.{fit, second, headed, frame_with, ruled, sextet, frame_indexed, frame_next}
use Rattle.laws.specs.Framing.{known_by}

-- ---- kinds and openings

abbrev IsIndexed : Kind → Type 0
IsIndexed (Fixed c) = ⊥
IsIndexed (Variable t l m) = ⊥
IsIndexed (Group l) = ⊥
IsIndexed Genus = ⊥
IsIndexed (Indexed c) = Unit {0}

abbrev Opens : Opening → Type 0
Opens Unknown = Unit {0}
Opens (Short k n) = IsIndexed k
Opens (Long k n) = IsIndexed k
Opens (LargeVariable t l) = ⊥
Opens (LargeGroup l d) = ⊥
Opens Version = ⊥

among-opens : (cs : List IndexRow) (selector letter : ℕ) → Opens (indexed_among cs selector letter)
unfolding indexed_among indexed_row
among-opens [] selector letter = tt
among-opens (c ∷ cs) selector letter =
    pick-by Opens (eqb c.selector selector) _ _
    (λ _. pick-by Opens (eqb c.letter letter) _ _ (λ _. pick-by Opens (eqb (index_head c) 1) _ _ (λ _. tt) (λ _. tt))
    (λ _. among-opens cs selector letter))
    (λ _. among-opens cs selector letter)

code-opens : (selector letter : ℕ) → Opens (indexed_by selector letter)
unfolding indexed_by
code-opens = among-opens indexed_codes

unit-opens : (a b c d : ℕ) → Opens (indexed_opening a b c d)
unfolding indexed_opening
unit-opens a b c d =
    pick-by Opens (ltb a 52) _ _ (λ _. code-opens 0 a) (λ _.
    pick-by Opens (eqb a 52) _ _ (λ _. code-opens 52 b) (λ _.
    pick-by Opens (eqb a 54) _ _ (λ _. code-opens 54 b) (λ _.
    pick-by Opens (eqb a 55) _ _ (λ _. code-opens 55 b) (λ _. tt))))

-- ---- framing

abbrev pub FramesIndexed : Framed → Type 0
FramesIndexed (Item k h n) = IsIndexed k
FramesIndexed (Unframed n p) = Unit {0}

fit-indexed : (k : Kind) (h n len : ℕ) → IsIndexed k → FramesIndexed (fit k h n len)
unfolding fit
fit-indexed k h n len o = pick-by FramesIndexed (ltb len n) _ _ (λ _. tt) (λ _. o)

headed-indexed : (o : Opening) (at : ℕ → ℕ) (len : ℕ) → Opens o → FramesIndexed (headed o at len)
unfolding headed second
headed-indexed Unknown at len p = tt
headed-indexed (Short k n) at len p = fit-indexed k 1 n len p
headed-indexed (Long k n) at len p =
    pick-by FramesIndexed (ltb len 2) _ _ (λ _. tt) (λ _. known_by FramesIndexed at 4 _ (λ j b. tt) (λ _. fit-indexed k 2 _ len p))
headed-indexed (LargeVariable t l) at len p = absurd p
headed-indexed (LargeGroup l d) at len p = absurd p
headed-indexed Version at len p = absurd p

pub frame-indexed : (s : List ℕ) → FramesIndexed (frame_indexed s)
unfolding frame_indexed frame_with
frame-indexed s =
    pick-by FramesIndexed (ltb (length s / 4) 1) _ _ (λ _. tt)
    (λ _. known_by FramesIndexed (sextet s) 0 _ (λ j b. tt) (λ _. headed-indexed _ (sextet s) _ (unit-opens _ _ _ _)))

-- 7 takes none away
ruled-indexed : (at : ℕ → ℕ) (r : Framed) → FramesIndexed r → FramesIndexed (ruled at r)
unfolding ruled
ruled-indexed at (Unframed n p) i = tt
ruled-indexed at (Item (Fixed c) h n) i = absurd i
ruled-indexed at (Item (Variable t l m) h n) i = absurd i
ruled-indexed at (Item (Group l) h n) i = absurd i
ruled-indexed at (Item Genus h n) i = absurd i
ruled-indexed at (Item (Indexed c) h n) i = tt

-- 02 a: "Nothing but indexed items may stand there"
pub indexed-only : (first : Bool) (s : List ℕ) → FramesIndexed (frame_next true first s)
unfolding frame_next
indexed-only true s = ruled-indexed (sextet s) (frame_indexed s) (frame-indexed s)
indexed-only false s = frame-indexed s
