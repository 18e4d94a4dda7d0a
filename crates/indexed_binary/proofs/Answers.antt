-- The answers of reading an indexed item from a binary, case by case, and where its part lies. Assumes nothing.
use mathlib.Core.Path.{◌≡◌, refl, ap, sym, ◌∙◌}
use mathlib.Core.List.{List}
use mathlib.Core.Logic.{⊎_elim}
use Prim.Native.Nat.{ℕ, ◌+◌, ◌-◌, ◌*◌, ◌/◌, ◌%◌, ◌<◌, ◌≤◌}
use native.Mathlib.Omega.{arith}
use lib.ListN.{length, take, drop, length-drop, drop_of_length-le}
use borrow.Author.Tests.{lt-ltb, le-ltb}
use Rattle.base.specs.Cases.{lt-or-ge}
use Rattle.base.specs.Each.{each}
use Rattle.format.specs.declared.Kind.{Kind}
use Rattle.format.specs.declared.Kind.TheVariants.{Fixed, Variable, Group, Genus, Indexed}
use Rattle.format.specs.declared.Framed.TheVariants.{Item, Unframed}
use Rattle.format.specs.declared.IndexedItem.{IndexedItem}
use Rattle.format.specs.Offsets.{binary_offset}
use Rattle.format.specs.Units.{binary_sextets}
use Rattle.format.specs.Framing.{frame_with, frame_indexed}
use Rattle.format.specs.Values.{raw_start}
use Rattle.format.specs.Reading.{Reading, from, place_from}
use Rattle.format.specs.Reading.Reading.{refused, found}
use Rattle.format.specs.Indexed.{indexed_of, read_indexed_framed, reading_indexed, binary_indexed_answer, read_indexed_binary}
use Rattle.framing_head.specs.Heads.{head_of}
use Rattle.framing.proofs.Laws.{binary-units}
use Rattle.reading_part.specs.Outcome.{outcome}
use Rattle.reading_part.proofs.Answers.{is-refused, is_found}
use Rattle.indexed_item.specs.Items.{PlacedIn}
use Rattle.indexed_item.proofs.Items.{Inside, inside, told}
use Rattle.std.specs.Prelude.{Ok, Result}
use Rattle.format.specs.declared.Refusal.{Refusal}
use Rattle.format.specs.Refusals.{refused_by}
use Rattle.format.specs.declared.BinaryOffset.{BinaryOffset}

module _ (s : List ℕ) (at : ℕ) where
  pub binary-long : 3145728 < length s → refused_by 1 (binary_offset 0) ≡ read_indexed_binary s at
  unfolding read_indexed_binary
  binary-long l = simp (lt-ltb _ _ l)

  module _ (l : length s ≤ 3145728) where
    pub binary-past : length s ≤ at → refused_by 4 (binary_offset at) ≡ read_indexed_binary s at
    unfolding read_indexed_binary from binary_sextets each reading_indexed read_indexed_framed frame_indexed frame_with binary_indexed_answer place_from
    binary-past p =
        let z : at + 0 ≡ at = omega arith in
        rw (le-ltb 3145728 (length s) l, drop_of_length-le s {i = at} p, z)

    pub binary-refused : (m p : ℕ) → outcome (reading_indexed (binary_sextets (drop at s))) ≡ Unframed m p
        → refused_by m (binary_offset (at + (p / 4 * 3 + p % 4))) ≡ read_indexed_binary s at
    unfolding read_indexed_binary from binary_indexed_answer place_from
    binary-refused m p e = rw (le-ltb 3145728 (length s) l, is-refused (reading_indexed (binary_sextets (drop at s))) m p e)

    pub binary-found : (k : Kind) (h n : ℕ) → outcome (reading_indexed (binary_sextets (drop at s))) ≡ Item k h n → (r : Result IndexedItem (Refusal BinaryOffset))
        → r ≡ binary_indexed_answer 0 (found k h n) (binary_sextets (drop at s)) → r ≡ read_indexed_binary s at
    unfolding read_indexed_binary from binary_indexed_answer
    binary-found k h n e r q = rw (le-ltb 3145728 (length s) l, is_found (reading_indexed (binary_sextets (drop at s))) k h n e) q

-- ---- the item that a part begins with

pub binary-item : (b : List ℕ) (k : Kind) (h n : ℕ) → outcome (reading_indexed (binary_sextets b)) ≡ Item k h n → (cs own : List ℕ)
    → cs ≡ head_of (binary_sextets b) → own ≡ head_of (take (4 * n) cs) → (p : IndexedItem) → (PlacedIn k → n ≤ 1048576 → p ≡ indexed_of k 1 n own)
    → Ok p ≡ binary_indexed_answer 0 (found k h n) (binary_sextets b)
unfolding binary_indexed_answer
binary-item b k h n e cs own a c p f = rw (told (binary_sextets b) k h n e cs own a c p f)

-- ---- where a found item's raw value lies

-- by its kind: it ends with the item
ends : (k : Kind) (h n : ℕ) (t : List ℕ) → PlacedIn k → raw_start k h ≤ 3 * n → (indexed_of k h n t).start.0 + (indexed_of k h n t).raw ≤ 3 * n
unfolding indexed_of
ends (Fixed c) h n t i r = absurd i
ends (Variable a l m) h n t i r = absurd i
ends (Group l) h n t i r = absurd i
ends Genus h n t i r = absurd i
ends (Indexed c) h n t i r = omega arith

out-found : (r : Reading) (k : Kind) (h n : ℕ) → r ≡ found k h n → outcome r ≡ Item k h n
unfolding outcome
out-found r k h n e = rw e

found_in : (s : List ℕ) (at : ℕ) (r : Reading) (p : IndexedItem) → reading_indexed (binary_sextets (drop at s)) ≡ r
    → binary_indexed_answer at r (binary_sextets (drop at s)) ≡ Ok p → (p.start.0 + p.raw ≤ length s - at)
unfolding binary_indexed_answer
found_in s at (refused m q) p e f = let z : ◌≡◌ {A = ℕ} 0 1 = cc in absurd (omega arith)
found_in s at (found k h n) p e f =
    let b = binary_sextets (drop at s) in
    let i = inside b k h n (out-found _ k h n e) in
    let w : indexed_of k h n (take (4 * n) b) ≡ p = cc in
    rw (← w) (omega (arith, ends k h n (take (4 * n) b) i.placed i.start, i.room, binary-units (drop at s), length-drop at s))

-- an offset that an item is found at is in front of the end
past-none : (s : List ℕ) (at : ℕ) (p : IndexedItem) → length s ≤ at → read_indexed_binary s at ≡ Ok p → ⊥
past-none s at p l e =
    ⊎_elim (λ g. let z : ◌≡◌ {A = ℕ} 0 1 = cc (binary-long s at g) in omega arith)
    (λ g. let z : ◌≡◌ {A = ℕ} 0 1 = cc (binary-past s at g l) in omega arith) (lt-or-ge 3145728 (length s))

found-near : (s : List ℕ) (at : ℕ) (p : IndexedItem) → read_indexed_binary s at ≡ Ok p → p.start.0 + p.raw ≤ length s - at
unfolding read_indexed_binary from
found-near s at p e =
    ⊎_elim (λ g. let z : ◌≡◌ {A = ℕ} 0 1 = cc (binary-long s at g) in absurd (omega arith))
    (λ g. found_in s at _ p refl (rw (le-ltb 3145728 (length s) g) at e)) (lt-or-ge 3145728 (length s))

-- the part that is handed back lies in the stream
pub found_inside : (s : List ℕ) (at : ℕ) (p : IndexedItem) → read_indexed_binary s at ≡ Ok p → at + p.start.0 + p.raw ≤ length s
found_inside s at p e =
    ⊎_elim (λ l. omega (arith, found-near s at p e)) (λ l. absurd (past-none s at p l e)) (lt-or-ge at (length s))
