-- The item that a part begins with, as it is told, and what the buffer then holds. Assumes nothing.
use mathlib.Core.Path.{◌≡◌, refl, ◌∙◌}
use mathlib.Core.List.{List}
use Prim.Native.Nat.{ℕ, ◌-◌, ◌*◌, ◌/◌, ◌<◌, ◌≤◌}
use native.Mathlib.Omega.{arith}
use lib.ListN.{length, take, drop, length-map}
use lib.Seq.{length-take-le}
use borrow.Author.Tests.{lt-ltb, le-ltb}
use Rattle.base.specs.Lists.{map-take}
use Rattle.format.specs.declared.Kind.{Kind}
use Rattle.format.specs.declared.Kind.TheVariants.{Fixed, Variable, Group, Genus, Indexed}
use Rattle.format.specs.declared.IndexedItem.{IndexedItem}
use Rattle.format.specs.Alphabet.{sextet_of}
use Rattle.format.specs.Offsets.{text_offset}
use Rattle.format.specs.Units.{text_sextets}
use Rattle.format.specs.Conversion.{to_binary}
use Rattle.format.specs.Values.{raw_start, raw_of}
use Rattle.format.specs.Reading.{from}
use Rattle.format.specs.Reading.Reading.{found}
use Rattle.format.specs.Indexed.{indexed_of, reading_indexed, text_indexed_answer, indexed_raw, indexed_left}
use Rattle.laws.specs.Values.{text-raw}
use Rattle.framing_head.specs.Heads.{head_of}
use Rattle.reading_raw.specs.Raw.{Fit, raw_into}
use Rattle.reading_part.proofs.Answers.{is_found}
use Rattle.indexed_item.specs.Items.{PlacedIn}
use Rattle.indexed_item.proofs.Items.{Inside, inside, told}
use Rattle.indexed_found.specs.Begun.{Begun}
use Rattle.std.specs.Prelude.{Ok}
use Rattle.format.specs.Refusals.{refused_by}

own-sextets : (t : List ℕ) (m : ℕ) → text_sextets (take m t) ≡ take m (text_sextets t)
unfolding text_sextets
own-sextets t m = map-take sextet_of m t

-- where its raw value lies, and how long it is
lies : (k : Kind) (h n : ℕ) (s : List ℕ) → PlacedIn k → ((indexed_of k h n s).start.0 ≡ raw_start k h) × ((indexed_of k h n s).raw ≡ 3 * n - raw_start k h)
unfolding indexed_of
lies (Fixed c) h n s i = absurd i
lies (Variable t l m) h n s i = absurd i
lies (Group l) h n s i = absurd i
lies Genus h n s i = absurd i
lies (Indexed c) h n s i = (refl, refl)

-- what indexed_item says holds where the part is read
pub item-told : (t : List ℕ) (k : Kind) (h n : ℕ) → (cs own : List ℕ) → cs ≡ head_of (text_sextets t) → own ≡ head_of (take (4 * n) cs)
    → (p : IndexedItem) → (PlacedIn k → n ≤ 1048576 → p ≡ indexed_of k 1 n own) → Begun t k h n
    → p ≡ indexed_of k h n (take (4 * n) (text_sextets t))
item-told t k h n cs own a b p f w = told (text_sextets t) k h n w.read cs own a b p f

module _ (t : List ℕ) (k : Kind) (h n : ℕ) (b : Begun t k h n) where
  abbrev i : Inside (text_sextets t) k h n
  i = inside (text_sextets t) k h n b.read

  pub item_room : 4 * n ≤ length t
  unfolding text_sextets
  item_room = omega (arith, i.room, length-map t sextet_of)

  item-size : length (take (4 * n) t) ≡ 4 * n
  item-size = length-take-le (4 * n) t item_room

  item-fit : Fit (take (4 * n) t)
  item-fit =
      record {
        whole = omega (arith, item-size);
        known = rw (own-sextets t (4 * n)) i.low;
        short = omega (arith, item-size, item_room, b.short);
      }

  module _ (p : IndexedItem) (w : p ≡ indexed_of k h n (take (4 * n) (text_sextets t))) where
    start_is : p.start.0 ≡ raw_start k h
    start_is = rw w (lies k h n _ i.placed).0

    raw-is : p.raw ≡ 3 * n - raw_start k h
    raw-is = rw w (lies k h n _ i.placed).1

    pub no_room : (d : List ℕ) → length d < p.raw → refused_by 3 (text_offset 0) ≡ text_indexed_answer 0 (found k h n) (text_sextets t) (length d)
    unfolding text_indexed_answer
    no_room d r = rw (lt-ltb (length d) (3 * n - raw_start k h) (rw (raw-is) at r))

    pub some-room : (d : List ℕ) → p.raw ≤ length d → Ok p ≡ text_indexed_answer 0 (found k h n) (text_sextets t) (length d)
    unfolding text_indexed_answer
    some-room d r = rw (le-ltb (length d) (3 * n - raw_start k h) (rw (raw-is) at r), w)

    -- what is copied out is the raw value
    pub raw-copied : (d d' : List ℕ) → p.raw ≤ length d
        → (Fit (take (4 * n) t) → p.start.0 ≤ length (take (4 * n) t) / 4 * 3 → length (take (4 * n) t) / 4 * 3 - p.start.0 ≤ length d
        → d' ≡ raw_into (take (4 * n) t) p.start.0 d)
        → d' ≡ indexed_left (Ok p) t 0 d
    unfolding indexed_left indexed_raw from
    raw-copied d d' r c =
        let T = take (4 * n) t in
        let size : length T / 4 * 3 ≡ 3 * n = omega (arith, item-size) in
        let rest : length T / 4 * 3 - raw_start k h ≡ p.raw = omega (arith, raw-is) in
        let raw : raw_of k h (take (4 * n) (text_sextets t)) ≡ drop (raw_start k h) (to_binary T) = rw (own-sextets t (4 * n)) at (text-raw k h T) in
        c item-fit (omega (arith, start_is, i.start)) (omega (arith, start_is, raw-is))
        ∙ rw (start_is, rest, is_found (reading_indexed (text_sextets t)) k h n b.read, raw)
