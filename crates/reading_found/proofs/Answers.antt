-- The answers of reading from a binary, case by case, and what a found primitive says of the stream. Assumes nothing.
use mathlib.Core.Path.{◌≡◌, refl}
use mathlib.Core.List.{List}
use mathlib.Core.Logic.{⊎_elim}
use Prim.Native.Nat.{ℕ, ◌+◌, ◌-◌, ◌*◌, ◌/◌, ◌%◌, ◌<◌, ◌≤◌}
use native.Mathlib.Omega.{arith}
use lib.ListN.{length, take, drop, length-drop, drop_of_length-le}
use borrow.Author.Tests.{lt-ltb, le-ltb}
use Rattle.base.specs.Cases.{lt-or-ge}
use Rattle.base.specs.Each.{each}
use Rattle.format.specs.declared.Kind.{Kind}
use Rattle.format.specs.declared.Framed.TheVariants.{Item, Unframed}
use Rattle.format.specs.declared.Primitive.{Primitive}
use Rattle.format.specs.declared.BinaryOffset.{BinaryOffset}
use Rattle.format.specs.declared.PrimitiveRead.{PrimitiveRead}
use Rattle.format.specs.Units.{binary_sextets}
use Rattle.format.specs.Framing.{frame_with, frame}
use Rattle.format.specs.Values.{text_in, tag_of}
use Rattle.format.specs.Reading.{Reading, primitive_of, read_framed, reading, from, place_from, padded}
use Rattle.format.specs.Reading.{text_at, binary_answer, read_binary}
use Rattle.format.specs.Reading.Reading.{refused, found}
use Rattle.laws.specs.Framing.{Shaped}
use Rattle.framing_head.specs.Heads.{head_of}
use Rattle.framing.proofs.Laws.{binary-units}
use Rattle.reading_tag.specs.Tags.{Taggable}
use Rattle.reading_fill.specs.Texts.{text_start}
use Rattle.reading_part.specs.Outcome.{outcome}
use Rattle.reading_part.proofs.Answers.{is-refused, is_found, inside, text-few, told-start, told-size, told-primitive, told-tag}
use Rattle.reading_found.specs.Found.{no_binary, any_text}
use Rattle.std.specs.Prelude.{Ok}

module _ (s : List ℕ) (at room : ℕ) where
  pub binary-long : 3145728 < length s → no_binary 1 0 ≡ read_binary s at room
  unfolding read_binary
  binary-long l = simp (lt-ltb _ _ l)

  module _ (l : length s ≤ 3145728) where
    pub binary-past : length s ≤ at → no_binary 4 at ≡ read_binary s at room
    unfolding read_binary from binary_sextets each reading read_framed frame frame_with binary_answer place_from
    binary-past p =
        let z : at + 0 ≡ at = omega arith in
        rw (le-ltb 3145728 (length s) l, drop_of_length-le s {i = at} p, z)

    pub binary-refused : (m p : ℕ) → outcome (reading (binary_sextets (drop at s))) ≡ Unframed m p
        → no_binary m (at + (p / 4 * 3 + p % 4)) ≡ read_binary s at room
    unfolding read_binary from binary_answer place_from
    binary-refused m p e = rw (le-ltb 3145728 (length s) l, is-refused (reading (binary_sextets (drop at s))) m p e)

    pub binary-found : (k : Kind) (h n : ℕ) → outcome (reading (binary_sextets (drop at s))) ≡ Item k h n → (r : PrimitiveRead BinaryOffset)
        → r ≡ binary_answer 0 (found k h n) (binary_sextets (drop at s)) room → r ≡ read_binary s at room
    unfolding read_binary from binary_answer
    binary-found k h n e r q = rw (le-ltb 3145728 (length s) l, is_found (reading (binary_sextets (drop at s))) k h n e) q

-- ---- the item that a part begins with

module _ (b : List ℕ) (k : Kind) (h n : ℕ) (e : outcome (reading (binary_sextets b)) ≡ Item k h n) (l : length b ≤ 3145728) where
  units : length (binary_sextets b) / 4 ≤ 1048576
  units = omega (arith, binary-units b)

  -- its text has the room that is given it
  pub few : length (text_in k h (take (4 * n) (binary_sextets b))) ≤ any_text
  few = let i = inside (binary_sextets b) k h n e in omega (arith, text-few (binary_sextets b) k h n e, i.room, units)

  pub binary-item : (cs own t : List ℕ) (start text : ℕ) (p : Primitive) → cs ≡ head_of (binary_sextets b) → own ≡ head_of (take (4 * n) cs)
      → (h ≤ 2 → n ≤ 1048576 → start ≡ text_start k h n own) → (n ≤ 1048576 → text ≡ 4 * n - start)
      → (h ≤ 2 → n ≤ 1048576 → Shaped k h n → p ≡ primitive_of k h n text) → (Taggable k → t ≡ padded (tag_of k own))
      → record { found = Ok p; tag = t } ≡ binary_answer 0 (found k h n) (binary_sextets b) any_text
  unfolding binary_answer text_at
  binary-item cs own t start text p a c f g w z =
      let s = binary_sextets b in
      let q = told-start s k h n e cs own start units a c f in
      let m = told-size s k h n e start text units q g in
      rw (le-ltb any_text (length (text_in k h (take (4 * n) s))) few, told-primitive s k h n e units text p w, told-tag s k h n e cs own t a c z, m)

-- ---- a found primitive

-- what it says of the stream
pub record Found (s : List ℕ) (at : ℕ) (p : Primitive) : Type 0 where
  pub short : length s ≤ 3145728
  pub kind : Kind
  pub head : ℕ
  pub size : ℕ
  pub item : outcome (reading (binary_sextets (drop at s))) ≡ Item kind head size
  pub told : p ≡ primitive_of kind head size (length (text_in kind head (take (4 * size) (binary_sextets (drop at s)))))

pub out-found : (r : Reading) (k : Kind) (h n : ℕ) → r ≡ found k h n → outcome r ≡ Item k h n
unfolding outcome
out-found r k h n e = rw e

found_in : (s : List ℕ) (at : ℕ) (r : Reading) (p : Primitive) → length s ≤ 3145728 → reading (binary_sextets (drop at s)) ≡ r
    → (binary_answer at r (binary_sextets (drop at s)) any_text).found ≡ Ok p → Found s at p
unfolding binary_answer text_at
found_in s at (refused m q) p l e f = let z : ◌≡◌ {A = ℕ} 0 1 = cc in absurd (omega arith)
found_in s at (found k h n) p l e f =
    let b = binary_sextets (drop at s) in
    let o = out-found _ k h n e in
    let g = rw (le-ltb any_text (length (text_in k h (take (4 * n) b))) (few (drop at s) k h n o (omega (arith, length-drop at s)))) at f in
    record { short = l; kind = k; head = h; size = n; item = o; told = cc }

past-none : (s : List ℕ) (at room : ℕ) (p : Primitive) → length s ≤ at → (read_binary s at room).found ≡ Ok p → ⊥
past-none s at room p l e =
    ⊎_elim (λ g. let z : ◌≡◌ {A = ℕ} 0 1 = cc (binary-long s at room g) in omega arith)
    (λ g. let z : ◌≡◌ {A = ℕ} 0 1 = cc (binary-past s at room g l) in omega arith) (lt-or-ge 3145728 (length s))

pub found_of : (s : List ℕ) (at : ℕ) (p : Primitive) → (read_binary s at any_text).found ≡ Ok p → Found s at p
unfolding read_binary from
found_of s at p e =
    ⊎_elim (λ g. let z : ◌≡◌ {A = ℕ} 0 1 = cc (binary-long s at any_text g) in absurd (omega arith))
    (λ g. found_in s at _ p g refl (rw (le-ltb 3145728 (length s) g) at e)) (lt-or-ge 3145728 (length s))

-- where it lies
module _ (s : List ℕ) (at : ℕ) (p : Primitive) (f : Found s at p) (start : at < length s) where
  pub item-inside : at + 3 * p.size ≤ length s
  unfolding primitive_of
  item-inside =
      let i = inside (binary_sextets (drop at s)) f.kind f.head f.size f.item in
      rw f.told (omega (arith, i.room, binary-units (drop at s), length-drop at s))

  -- the part that is handed back
  pub part-inside : at + p.start.0 + p.raw ≤ length s
  unfolding primitive_of
  part-inside =
      let i = inside (binary_sextets (drop at s)) f.kind f.head f.size f.item in
      rw f.told (omega (arith, i.room, i.start, binary-units (drop at s), length-drop at s))

  pub text-inside : p.text ≤ 4 * p.size
  unfolding primitive_of
  text-inside = rw f.told (text-few (binary_sextets (drop at s)) f.kind f.head f.size f.item)

-- an offset that a primitive is found at is in front of the end
pub found-start : (s : List ℕ) (at room : ℕ) (p : Primitive) → (read_binary s at room).found ≡ Ok p → at < length s
found-start s at room p e = ⊎_elim (λ l. l) (λ l. absurd (past-none s at room p l e)) (lt-or-ge at (length s))

-- the part that is handed back lies in the stream
pub found_inside : (s : List ℕ) (at : ℕ) (p : Primitive) → (read_binary s at any_text).found ≡ Ok p → at + p.start.0 + p.raw ≤ length s
found_inside s at p e = part-inside s at p (found_of s at p e) (found-start s at any_text p e)
