-- What demand 3 speaks of, over any framing and any judge of an item's own bytes. No proofs. Assumes nothing.
use Rattle.std.specs.Prelude.{ℕ, ◌+◌, ◌≤◌, ◌<◌, ◌≡◌, List, [], ◌∷◌, ◌⊎◌, length, get_or, take, drop, eqb}
use Rattle.format.specs.declared.Kind.{Kind}
use Rattle.format.specs.declared.Framed.{Framed}
use Rattle.format.specs.declared.Framed.TheVariants.{Item, Unframed}
use Rattle.format.specs.declared.Verdict.{Verdict}
use Rattle.format.specs.declared.Verdict.TheVariants.{Accepted}
use Rattle.base.specs.Pick.{pick}
use Rattle.format.specs.Judging.{shift}
use Rattle.format.specs.Report.{ItemRow, RefusalRow, RemainderRow, rows, remainder, verdict_byte}

-- ---- what the theorem asks of a framing

-- the same first n bytes
abbrev pub Agree : ℕ → List ℕ → List ℕ → Type 0
Agree n xs ys = (i : ℕ) → i < n → get_or ys i 0 ≡ get_or xs i 0

-- an item's header is not empty and within it, the item ends within the list, and it is framed alike in every list that has
-- its header and room for it
pub record Frames (frame : List ℕ → Framed) : Type 0 where
  pub within : (xs : List ℕ) (k : Kind) (h n : ℕ) → frame xs ≡ Item k h n → (0 < h) × (h ≤ n) × (n ≤ length xs)
  pub alike : (xs ys : List ℕ) (k : Kind) (h n : ℕ) → frame xs ≡ Item k h n → Agree h xs ys → n ≤ length ys → frame ys ≡ Item k h n

-- ---- rows

abbrev pub no_row : ItemRow
no_row = record { offset = 0; size = 0; verdict = Accepted }

-- the k-th row, from 0
abbrev pub row : List ItemRow → ℕ → ItemRow
row rs k = get_or rs k no_row

-- an item's own bytes
abbrev pub item_at : List ℕ → ItemRow → List ℕ
item_at xs r = take r.size (drop r.offset xs)

-- the same items in the same order, at the same offsets and lengths
pub record Alike (rs ss : List ItemRow) : Type 0 where
  pub count : length ss ≡ length rs
  pub offsets : (k : ℕ) → (row ss k).offset ≡ (row rs k).offset
  pub sizes : (k : ℕ) → (row ss k).size ≡ (row rs k).size

-- the byte at i lies in r's item
abbrev pub In : ItemRow → ℕ → Type 0
In r i = (r.offset ≤ i) × (i < r.offset + r.size)

-- it lies in the remainder, which runs to the stream's end
abbrev pub Left : List RemainderRow → ℕ → Type 0
Left [] i = ⊥
Left (t ∷ ts) i = t.offset ≤ i

-- each of n bytes lies in exactly one item, or else in the remainder
pub record Partition (n : ℕ) (rs : List ItemRow) (ts : List RemainderRow) : Type 0 where
  pub covered : (i : ℕ) → i < n → ((k : ℕ) × (k < length rs) × In (row rs k) i) ⊎ Left ts i
  pub once : (j k i : ℕ) → j < length rs → k < length rs → In (row rs j) i → In (row rs k) i → j ≡ k
  pub never_both : (k i : ℕ) → k < length rs → In (row rs k) i → Left ts i → ⊥

-- the rows with verdict 0
unfoldable pub accepted : List ItemRow → ℕ
accepted [] = 0
accepted (r ∷ rs) = pick (eqb (verdict_byte r.verdict) 0) 1 0 + accepted rs

-- the refusal rows of item k
unfoldable pub with_index : ℕ → List RefusalRow → List RefusalRow
with_index k [] = []
with_index k (r ∷ rs) = pick (eqb r.index k) (r ∷ with_index k rs) (with_index k rs)

-- ---- damage

abbrev pub head_of : Framed → ℕ
head_of (Item k h n) = h
head_of (Unframed n p) = 0

module _ (frame : List ℕ → Framed) where
  -- the byte at i lies behind the header of r's item
  abbrev pub Behind : List ℕ → ItemRow → ℕ → Type 0
  Behind xs r i = (r.offset + head_of (frame (item_at xs r)) ≤ i) × (i < r.offset + r.size)

  -- ys is as long as xs, and differs from it only behind the headers of these rows' items
  pub record Damaged (rs : List ItemRow) (xs ys : List ℕ) : Type 0 where
    pub long : length ys ≡ length xs
    pub kept : (i : ℕ) → ((k : ℕ) → k < length rs → ¬ Behind xs (row rs k) i) → get_or ys i 0 ≡ get_or xs i 0

-- what the bytes of r's item get as a stream by themselves: they are framed as one item, with a verdict of its own, and there
-- is no remainder. r has that verdict, its place counted on from the item's offset
pub record ByItself (frame : List ℕ → Framed) (judge : List ℕ → Verdict) (xs : List ℕ) (r : ItemRow) : Type 0 where
  pub framed : (k : Kind) × (h : ℕ) × (frame (item_at xs r) ≡ Item k h r.size)
  pub own : Verdict
  pub one-row : rows frame judge (item_at xs r) ≡ record { offset = 0; size = r.size; verdict = own } ∷ []
  pub nothing_left : remainder frame judge (item_at xs r) ≡ []
  pub counted-on : r.verdict ≡ shift r.offset own
