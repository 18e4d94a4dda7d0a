-- There and back by the calls: what they answer where the sextets are those of an indexed item. Assumes nothing.
use Rattle.std.specs.Prelude.{ℕ, ◌+◌, ◌-◌, ◌*◌, ◌/◌, ◌≤◌, ◌≡◌, refl, List, ◌++◌, ltb, take, drop}
use Rattle.std.proofs.Math.Path.{ap, sym}
use Rattle.std.proofs.Common.{◌∙◌, subst, arith, length-drop, take_at, length-take-le}
use Rattle.std.proofs.Math.ListN.{length}
use borrow.Author.Tests.{le-ltb, ltb-false}
use Rattle.base.specs.Pick.{pick-by}
use Rattle.base.specs.Digits.{Below, below-take, below-drop}
use Rattle.format.specs.declared.IndexRow.{IndexRow}
use Rattle.format.specs.declared.IndexedItem.{IndexedItem}
use Rattle.format.specs.declared.Kind.{Kind}
use Rattle.format.specs.declared.Kind.TheVariants.{Fixed, Variable, Group, Genus, Indexed}
use Rattle.format.specs.Units.{text, binary, text_sextets, binary_sextets}
use Rattle.format.specs.Conversion.{to_binary, to_text}
use Rattle.format.specs.Registry.{index_chars, index_head}
use Rattle.format.specs.Values.{bytes_in, raw_start, raw_of, index_of, ondex_of}
use Rattle.format.specs.Reading.{Reading, refused, found, from}
use Rattle.format.specs.Indexed.{code_of_row, indexed_of, reading_indexed, text_indexed_answer, read_indexed_text, indexed_raw, indexed_left}
use Rattle.format.specs.Indexed.{binary_indexed_answer, read_indexed_binary, indexed_part}
use Rattle.laws.specs.Conversion.{text-back as text-there}
use Rattle.laws.specs.Domains.{text-reader}
use Rattle.roundtrip_laws.specs.Bytes.{bytes-length, binary-length}
use Rattle.roundtrip.proofs.Calls.{text-length, binary-own, text-own, part-at}
use Rattle.roundtrip_indexed.specs.Rows.{Spread, whole, half}
use Rattle.roundtrip_indexed.specs.Own.{Own}
use Rattle.roundtrip_indexed.proofs.Reading.{Read, read-own}
use Rattle.roundtrip_indexed.proofs.Sextets.{Back, reads-written}
use Rattle.roundtrip_indexed.specs.Claims.{Given, Reads, Tells, BinaryReads, TextReads, WritesBack}
use Rattle.std.specs.Prelude.{Ok, Result}
use Rattle.format.specs.declared.Refusal.{Refusal}
use Rattle.format.specs.declared.TextOffset.{TextOffset}
use Rattle.format.specs.declared.BinaryOffset.{BinaryOffset}

-- ---- what is found is an indexed item

record Item (s : List ℕ) (k : Kind) (h n : ℕ) : Type 0 where
  row : IndexRow
  kind : k ≡ Indexed row
  head : h ≡ index_head row
  own : Own row n (take (4 * n) s)
  inside : 4 * n ≤ length s

item_by : (s : List ℕ) (k : Kind) (h n : ℕ) → Read k h n (take (4 * n) s) → 4 * n ≤ length s → Item s k h n
item_by s (Fixed c) h n r l = absurd r
item_by s (Variable t lead m) h n r l = absurd r
item_by s (Group letter) h n r l = absurd r
item_by s Genus h n r l = absurd r
item_by s (Indexed c) h n r l = record { row = c; kind = refl; head = sym r.0; own = r.1; inside = l }

item : (s : List ℕ) (k : Kind) (h n : ℕ) → reading_indexed s ≡ found k h n → Item s k h n
item s k h n e = let r = read-own s k h n e in item_by s k h n r.0 r.1

-- ---- the raw value lies at the item's end

own-inside : (c : IndexRow) (n : ℕ) (s : List ℕ) → Own c n s → raw_start (Indexed c) (index_head c) ≤ 3 * n
unfolding raw_start
own-inside c n s o = by o.facts.spread
  where
    by : Spread c → (6 * index_chars c + c.zeros) / 8 ≤ 3 * n
    by (whole z e) = omega (arith, o.facts.long, o.units)
    by (half z e) = omega (arith, o.facts.long, o.units)

raw-length : (c : IndexRow) (n : ℕ) (s : List ℕ) → Own c n s
    → length (raw_of (Indexed c) (index_head c) s) ≡ 3 * n - raw_start (Indexed c) (index_head c)
unfolding raw_of
raw-length c n s o = length-drop (raw_start (Indexed c) (index_head c)) (bytes_in s) ∙ omega (arith, bytes-length s, o.size)

-- ---- what a call answers, from what reading its sextets finds

module _ (c : IndexRow) (n : ℕ) where
  abbrev told : List ℕ → IndexedItem
  told s = indexed_of (Indexed c) (index_head c) n (take (4 * n) s)

  binary-answer : (xs : List ℕ) (at : ℕ) → length xs ≤ binary.limit
      → reading_indexed (binary_sextets (drop at xs)) ≡ found (Indexed c) (index_head c) n
      → read_indexed_binary xs at ≡ Ok (told (binary_sextets (drop at xs)))
  unfolding read_indexed_binary binary_indexed_answer from
  binary-answer xs at l e = rw (le-ltb binary.limit (length xs) l, e)

  text-answer : (xs : List ℕ) (at room : ℕ) → length xs ≤ text.limit → (told (text_sextets (drop at xs))).raw ≤ room
      → reading_indexed (text_sextets (drop at xs)) ≡ found (Indexed c) (index_head c) n
      → read_indexed_text xs at room ≡ Ok (told (text_sextets (drop at xs)))
  unfolding read_indexed_text text_indexed_answer from indexed_of
  text-answer xs at room l r e =
      rw (le-ltb text.limit (length xs) l, e, le-ltb room (3 * n - raw_start (Indexed c) (index_head c)) r)

module _ (s : List ℕ) (g : Given) (n : ℕ) (r : Reads s g n) where
  abbrev there : Item s (Indexed r.row) r.head n
  there = item s (Indexed r.row) r.head n r.reads

  same_row : r.row ≡ there.row
  same_row = by there.kind
    where
      by : Indexed r.row ≡ Indexed there.row → r.row ≡ there.row
      by e = cc

  same_head : r.head ≡ index_head r.row
  same_head = there.head ∙ ap index_head (sym same_row)

  own : Own r.row n (take (4 * n) s)
  own = rw same_row there.own

  reads-head : reading_indexed s ≡ found (Indexed r.row) (index_head r.row) n
  reads-head = r.reads ∙ ap (λ (h : ℕ). found (Indexed r.row) h n) same_head

  raw-is : raw_of (Indexed r.row) (index_head r.row) (take (4 * n) s) ≡ g.raw
  raw-is = ap (λ (h : ℕ). raw_of (Indexed r.row) h (take (4 * n) s)) (sym same_head) ∙ r.raw-back

  tells : Tells (told r.row n s) g n
  unfolding indexed_of
  tells = record {
    code-back = r.code-back;
    index_back = r.index_back;
    ondex-back = r.ondex-back;
    raw-length = sym (raw-length r.row n (take (4 * n) s) own) ∙ ap length raw-is;
    units = refl;
  }

pub binary-by : (xs : List ℕ) (at : ℕ) (g : Given) (n : ℕ) → length xs ≤ binary.limit → Below 256 (take (n * 3) (drop at xs))
    → Reads (binary_sextets (drop at xs)) g n → BinaryReads xs at g n
unfolding indexed_part indexed_of raw_of
binary-by xs at g n l low r =
    let s = binary_sextets (drop at xs) in
    let c = r.row in
    let o = own s g n r in
    let a = binary-answer c n xs at l (reads-head s g n r) in
    let inside : n * 3 ≤ length (drop at xs) = omega (arith, (there s g n r).inside, binary-length (drop at xs)) in
    record {
      item = told c n s;
      reads = a;
      tells = tells s g n r;
      part-back = ap (λ (x : Result IndexedItem (Refusal BinaryOffset)). indexed_part xs at x) a
          ∙ part-at xs at (raw_start (Indexed c) (index_head c)) n (own-inside c n _ o) inside
          ∙ sym (ap (drop (raw_start (Indexed c) (index_head c))) (binary-own (drop at xs) n inside low)) ∙ raw-is s g n r;
    }

pub text-by : (xs : List ℕ) (at room : ℕ) (g : Given) (n : ℕ) → length xs ≤ text.limit → length g.raw ≤ room
    → Reads (text_sextets (drop at xs)) g n → TextReads xs at room g n
unfolding indexed_left indexed_raw from
text-by xs at room g n l f r =
    let s = text_sextets (drop at xs) in
    let t = tells s g n r in
    let a = text-answer r.row n xs at room l (omega (arith, t.raw-length)) (reads-head s g n r) in
    record {
      item = told r.row n s;
      reads = a;
      tells = t;
      raw-back = λ d. ap (λ (x : Result IndexedItem (Refusal TextOffset)). indexed_left x xs at d) a ∙ rw (r.reads, r.raw-back, t.raw-length);
    }

-- ---- what an answer comes from

record From (s : List ℕ) (p : IndexedItem) : Type 0 where
  row : IndexRow
  size : ℕ
  own : Own row size (take (4 * size) s)
  inside : 4 * size ≤ length s
  reads : reading_indexed s ≡ found (Indexed row) (index_head row) size
  is : p ≡ told row size s

from_found : (s : List ℕ) (p : IndexedItem) (k : Kind) (h n : ℕ) → reading_indexed s ≡ found k h n → p ≡ indexed_of k h n (take (4 * n) s) → From s p
from_found s p k h n e i =
    let t = item s k h n e in
    record {
      row = t.row;
      size = n;
      own = t.own;
      inside = t.inside;
      reads = rw (← t.kind, ← t.head) e;
      is = rw (← t.kind, ← t.head) i;
    }

binary-from : (xs : List ℕ) (at : ℕ) (p : IndexedItem) → read_indexed_binary xs at ≡ Ok p → From (binary_sextets (drop at xs)) p
unfolding read_indexed_binary binary_indexed_answer from
binary-from xs at p =
    pick-by (λ (x : Result IndexedItem (Refusal BinaryOffset)). x ≡ Ok p → From (binary_sextets (drop at xs)) p) (ltb binary.limit (length xs)) _ _
    (λ _ e. let z : ◌≡◌ {A = ℕ} 0 1 = cc in absurd (omega arith)) (λ _ e. by (reading_indexed (binary_sextets (drop at xs))) refl e)
  where
    by : (r : Reading) → reading_indexed (binary_sextets (drop at xs)) ≡ r
        → binary_indexed_answer at r (binary_sextets (drop at xs)) ≡ Ok p → From (binary_sextets (drop at xs)) p
    by (refused m q) f e = let z : ◌≡◌ {A = ℕ} 0 1 = cc in absurd (omega arith)
    by (found k h n) f e = let i : p ≡ indexed_of k h n (take (4 * n) (binary_sextets (drop at xs))) = cc in from_found _ p k h n f i

text-from : (xs : List ℕ) (at room : ℕ) (p : IndexedItem) → read_indexed_text xs at room ≡ Ok p → From (text_sextets (drop at xs)) p
unfolding read_indexed_text text_indexed_answer from
text-from xs at room p =
    pick-by (λ (x : Result IndexedItem (Refusal TextOffset)). x ≡ Ok p → From (text_sextets (drop at xs)) p) (ltb text.limit (length xs)) _ _
    (λ _ e. let z : ◌≡◌ {A = ℕ} 0 1 = cc in absurd (omega arith)) (λ _ e. by (reading_indexed (text_sextets (drop at xs))) refl e)
  where
    by : (r : Reading) → reading_indexed (text_sextets (drop at xs)) ≡ r
        → text_indexed_answer at r (text_sextets (drop at xs)) room ≡ Ok p → From (text_sextets (drop at xs)) p
    by (refused m q) f = λ e. let z : ◌≡◌ {A = ℕ} 0 1 = cc in absurd (omega arith)
    by (found k h n) f =
        pick-by (λ (x : Result IndexedItem (Refusal TextOffset)). x ≡ Ok p → From (text_sextets (drop at xs)) p)
        (ltb room (3 * n - raw_start k h)) _ _
        (λ _ e. let z : ◌≡◌ {A = ℕ} 0 1 = cc in absurd (omega arith))
        (λ _ e. let i : p ≡ indexed_of k h n (take (4 * n) (text_sextets (drop at xs))) = cc in from_found _ p k h n f i)

-- ---- written back

-- the row that is written is the row that was read
back-of : (s : List ℕ) (c : IndexRow) (h n : ℕ) → Back (Indexed c) h n s
    → let p = indexed_of (Indexed c) h n s in WritesBack p.code p.index p.ondex (raw_of (Indexed c) h s) n (bytes_in s)
unfolding indexed_of
back-of s c h n (c', e, w) =
    let q : c' ≡ c = cc in
    subst (λ (x : IndexRow). WritesBack (code_of_row x) (index_of x s) (ondex_of x s) (raw_of (Indexed c) h s) n (bytes_in s)) q w

pub binary-back : (xs : List ℕ) (at : ℕ) (p : IndexedItem) → Below 256 xs → read_indexed_binary xs at ≡ Ok p
    → WritesBack p.code p.index p.ondex (indexed_part xs at (Ok p)) p.size (take (p.size * 3) (drop at xs))
unfolding indexed_part indexed_of raw_of
binary-back xs at p low e =
    let g = binary-from xs at p e in
    let n = g.size in
    let c = g.row in
    let s = binary_sextets (drop at xs) in
    let inside : n * 3 ≤ length (drop at xs) = omega (arith, g.inside, binary-length (drop at xs)) in
    let own : Below 256 (take (n * 3) (drop at xs)) = below-take 256 (n * 3) _ (below-drop 256 at xs low) in
    rw (g.is, part-at xs at (raw_start (Indexed c) (index_head c)) n (own-inside c n _ g.own) inside, ← (binary-own (drop at xs) n inside own))
    (back-of (take (4 * n) s) c (index_head c) n (reads-written s (Indexed c) (index_head c) n g.reads))

pub text-back : (xs : List ℕ) (at room : ℕ) (p : IndexedItem) (d : List ℕ) → read_indexed_text xs at room ≡ Ok p
    → let raw = take p.raw (indexed_left (Ok p) xs at d) in
    WritesBack p.code p.index p.ondex raw p.size (to_binary (take (p.size * 4) (drop at xs)))
unfolding indexed_left indexed_raw from indexed_of
text-back xs at room p d e =
    let g = text-from xs at room p e in
    let n = g.size in
    let c = g.row in
    let s = text_sextets (drop at xs) in
    let inside : n * 4 ≤ length (drop at xs) = omega (arith, g.inside, text-length (drop at xs)) in
    let many = 3 * n - raw_start (Indexed c) (index_head c) in
    let raw = take_at (raw_of (Indexed c) (index_head c) (take (4 * n) s)) (drop many d) many (raw-length c n _ g.own) in
    rw (g.is, g.reads, raw, ← (text-own (drop at xs) n inside))
    (back-of (take (4 * n) s) c (index_head c) n (reads-written s (Indexed c) (index_head c) n g.reads))

-- an accepted item's own characters are whole units of the alphabet, so they are the text of its bytes
pub text-whole : (xs : List ℕ) (at room : ℕ) (p : IndexedItem) → read_indexed_text xs at room ≡ Ok p
    → to_text (to_binary (take (p.size * 4) (drop at xs))) ≡ take (p.size * 4) (drop at xs)
unfolding indexed_of
text-whole xs at room p e =
    let g = text-from xs at room p e in
    let n = g.size in
    let inside : n * 4 ≤ length (drop at xs) = omega (arith, g.inside, text-length (drop at xs)) in
    let four : 4 * n ≡ n * 4 = omega arith in
    rw g.is
    (text-there (take (n * 4) (drop at xs)) (omega (arith, length-take-le (n * 4) (drop at xs) inside))
    (rw (text-reader.taken (drop at xs) n inside, ← four) g.own.low))

-- ---- at the item's end

told-end : (s : List ℕ) (p : IndexedItem) → From s p → p.start.0 + p.raw ≡ p.size * 3
unfolding indexed_of
told-end s p g = rw g.is (omega (arith, own-inside g.row g.size _ g.own))

pub binary-end : (xs : List ℕ) (at : ℕ) (p : IndexedItem) → read_indexed_binary xs at ≡ Ok p → p.start.0 + p.raw ≡ p.size * 3
binary-end xs at p e = told-end _ p (binary-from xs at p e)

pub text-end : (xs : List ℕ) (at room : ℕ) (p : IndexedItem) → read_indexed_text xs at room ≡ Ok p → p.start.0 + p.raw ≡ p.size * 3
text-end xs at room p e = told-end _ p (text-from xs at room p e)

pub end-part : (xs : List ℕ) (at : ℕ) (p : IndexedItem) → read_indexed_binary xs at ≡ Ok p
    → indexed_part xs at (Ok p) ≡ drop p.start.0 (take (p.size * 3) (drop at xs))
unfolding indexed_part indexed_of
end-part xs at p e =
    let g = binary-from xs at p e in
    let n = g.size in
    let inside : n * 3 ≤ length (drop at xs) = omega (arith, g.inside, binary-length (drop at xs)) in
    rw g.is (part-at xs at (raw_start (Indexed g.row) (index_head g.row)) n (own-inside g.row n _ g.own) inside)
