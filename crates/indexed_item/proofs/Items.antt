-- What a read item is, in a caller's words, by its first sextets; and where it lies. Assumes nothing.
use mathlib.Core.Path.{◌≡◌, sym, ◌∙◌}
use mathlib.Core.List.{List}
use mathlib.Core.Logic.{⊎_elim}
use Prim.Native.Nat.{ℕ, ◌+◌, ◌*◌, ◌≤◌}
use native.Mathlib.Omega.{arith}
use lib.ListN.{length, take}
use Rattle.base.specs.Digits.{Below}
use Rattle.format.specs.declared.IndexRow.{IndexRow}
use Rattle.format.specs.declared.Kind.{Kind}
use Rattle.format.specs.declared.Kind.TheVariants.{Fixed, Variable, Group, Genus, Indexed}
use Rattle.format.specs.declared.Framed.TheVariants.{Item}
use Rattle.format.specs.declared.IndexedItem.{IndexedItem}
use Rattle.format.specs.Registry.{index_chars, index_head}
use Rattle.format.specs.Values.{raw_start, index_of, ondex_of}
use Rattle.format.specs.Indexed.{indexed_of, reading_indexed}
use Rattle.framing_head.specs.Heads.{head_of}
use Rattle.framing_head.proofs.Laws.{part-head, within-head}
use Rattle.roundtrip_indexed.specs.Rows.{Spread, whole, half, Facts}
use Rattle.roundtrip_indexed.proofs.Reading.{Read, read-own}
use Rattle.reading_part.specs.Outcome.{outcome}
use Rattle.reading_part.proofs.Answers.{is_found}
use Rattle.indexed_name.proofs.Names.{few}
use Rattle.indexed_item.specs.Items.{PlacedIn}

-- ---- what is read

-- a row of the table with its place, and its own sextets
pub record Inside (s : List ℕ) (k : Kind) (h n : ℕ) : Type 0 where
  pub placed : PlacedIn k
  pub few : n ≤ 40
  pub room : 4 * n ≤ length s
  pub start : raw_start k h ≤ 3 * n
  pub low : Below 64 (take (4 * n) s)

head_small : (c : IndexRow) → Facts c → index_head c ≤ 2
head_small c f = ⊎_elim (λ e. omega arith) (λ e. omega arith) f.head

chars-small : (c : IndexRow) → Facts c → (index_chars c ≤ 8) × (c.zeros ≤ 4)
chars-small c f = by f.spread
  where
    by : Spread c → (index_chars c ≤ 8) × (c.zeros ≤ 4)
    by (whole z e) = (omega (arith, head_small c f), omega arith)
    by (half z e) = (omega (arith, head_small c f), omega arith)

inside-by : (k : Kind) (h n : ℕ) (s : List ℕ) → Read k h n (take (4 * n) s) → 4 * n ≤ length s → Inside s k h n
unfolding raw_start
inside-by (Fixed c) h n s r l = absurd r
inside-by (Variable t m p) h n s r l = absurd r
inside-by (Group g) h n s r l = absurd r
inside-by Genus h n s r l = absurd r
inside-by (Indexed c) h n s r l =
    let o = r.1 in
    let f = o.facts in
    let digits = few _ c (sym f.named) in
    let small = chars-small c f in
    record {
      placed = record { from = omega arith; index = digits.0; ondex = digits.1 };
      few = omega (arith, f.small, o.units);
      room = l;
      start = omega (arith, f.room, o.units);
      low = o.low;
    }

pub inside : (s : List ℕ) (k : Kind) (h n : ℕ) → outcome (reading_indexed s) ≡ Item k h n → Inside s k h n
inside s k h n e = let r = read-own s k h n (is_found (reading_indexed s) k h n e) in inside-by k h n s r.0 r.1

-- ---- what is told of it, by its first sextets

head-tells : (c : IndexRow) (h n : ℕ) (t : List ℕ) → index_chars c ≤ 8 → index_chars c ≤ length t
    → indexed_of (Indexed c) 1 n (head_of t) ≡ indexed_of (Indexed c) h n t
unfolding indexed_of index_of ondex_of raw_start
head-tells c h n t few l =
    rw (part-head t c.chars c.index (omega arith) (omega arith), part-head t (c.chars + c.index) c.ondex (omega arith) (omega arith))

told-by : (k : Kind) (h n : ℕ) (s own : List ℕ) → Read k h n (take (4 * n) s) → Inside s k h n → own ≡ head_of (take (4 * n) s) → (p : IndexedItem)
    → (PlacedIn k → n ≤ 1048576 → p ≡ indexed_of k 1 n own) → p ≡ indexed_of k h n (take (4 * n) s)
told-by (Fixed c) h n s own r i e p f = absurd r
told-by (Variable t m q) h n s own r i e p f = absurd r
told-by (Group g) h n s own r i e p f = absurd r
told-by Genus h n s own r i e p f = absurd r
told-by (Indexed c) h n s own r i e p f =
    let o = r.1 in
    f i.placed (omega (arith, i.few))
    ∙ rw e (head-tells c h n (take (4 * n) s) (chars-small c o.facts).0 (omega (arith, o.facts.room, o.units, o.size)))

pub told : (s : List ℕ) (k : Kind) (h n : ℕ) → outcome (reading_indexed s) ≡ Item k h n → (cs own : List ℕ) → cs ≡ head_of s
    → own ≡ head_of (take (4 * n) cs) → (p : IndexedItem) → (PlacedIn k → n ≤ 1048576 → p ≡ indexed_of k 1 n own) → p ≡ indexed_of k h n (take (4 * n) s)
told s k h n e cs own a b p f =
    told-by k h n s own (read-own s k h n (is_found (reading_indexed s) k h n e)).0 (inside s k h n e) (b ∙ rw (a, within-head s n)) p f
