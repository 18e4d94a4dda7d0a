-- The answers of reading from a text, case by case, and what the buffer then holds. Assumes nothing.
use mathlib.Core.Path.{◌≡◌, refl, ap, ◌∙◌}
use mathlib.Core.List.{List, map, append_assoc}
use Prim.Native.Nat.{ℕ, ◌+◌, ◌-◌, ◌*◌, ◌/◌, ◌%◌, ◌<◌, ◌≤◌}
use native.Mathlib.Omega.{arith}
use lib.ListN.{length, take, drop, length-append, length-drop, length-map, drop_of_length-le}
use lib.Seq.{length-take-le}
use lib.Dec.{ltb}
use borrow.Author.Tests.{lt-ltb, le-ltb}
use Rattle.base.specs.Lists.{map-take, map-drop}
use Rattle.base.specs.Digits.{Below, below-drop}
use Rattle.base.specs.Each.{length-each}
use Rattle.format.specs.declared.Kind.{Kind}
use Rattle.format.specs.declared.Framed.TheVariants.{Item, Unframed}
use Rattle.format.specs.declared.Primitive.{Primitive}
use Rattle.format.specs.declared.PrimitiveRead.{PrimitiveRead}
use Rattle.format.specs.Alphabet.{sextet_of, char_of}
use Rattle.format.specs.Units.{bytes_of, text_sextets}
use Rattle.format.specs.Conversion.{to_binary}
use Rattle.format.specs.Framing.{frame_with, frame}
use Rattle.format.specs.Values.{bytes_in, raw_start, raw_of, text_in, value_of, tag_of}
use Rattle.format.specs.Reading.{primitive_of, read_framed, reading, from, place_from, padded, value_at, text_at, text_answer, read_text, value_left}
use Rattle.format.specs.Reading.Reading.{found}
use Rattle.laws.specs.Framing.{Shaped}
use Rattle.laws.specs.Units.{bytes-size, chars-back}
use Rattle.laws.specs.Values.{text-raw}
use Rattle.framing_head.specs.Heads.{head_of}
use Rattle.framing.proofs.Laws.{text-units}
use Rattle.reading_tag.specs.Tags.{Taggable}
use Rattle.reading_fill.specs.Texts.{text_start}
use Rattle.reading_raw.specs.Raw.{Fit}
use Rattle.reading_part.specs.Outcome.{outcome}
use Rattle.reading_value.specs.Value.{value_into}
use Rattle.reading_text.specs.Told.{no_text, Tells}
use Rattle.reading_part.proofs.Bounds.{item-known, place-near}
use Rattle.reading_part.proofs.Answers.{is-refused, is_found, accepts, inside, item-long, text-few, told-start, told_text, told-size, told-primitive, told-tag}
use Rattle.std.specs.Prelude.{Ok, Err, Result}
use Rattle.format.specs.declared.Refusal.{Refusal}
use Rattle.format.specs.declared.TextOffset.{TextOffset}

module _ (s : List ℕ) (at room : ℕ) where
  pub text-long : 4194304 < length s → no_text 1 0 ≡ read_text s at room
  unfolding read_text
  text-long l = simp (lt-ltb _ _ l)

  module _ (l : length s ≤ 4194304) where
    pub text-past : length s ≤ at → no_text 4 at ≡ read_text s at room
    unfolding read_text from text_sextets reading read_framed frame frame_with text_answer place_from
    text-past p =
        let z : at + 0 ≡ at = omega arith in
        rw (le-ltb 4194304 (length s) l, drop_of_length-le s {i = at} p, z)

    pub text-refused : (m p : ℕ) → outcome (reading (text_sextets (drop at s))) ≡ Unframed m p → no_text m (at + p) ≡ read_text s at room
    unfolding read_text from text_answer place_from
    text-refused m p e =
        let z : p / 4 * 4 + p % 4 ≡ p = omega arith in
        rw (le-ltb 4194304 (length s) l, is-refused (reading (text_sextets (drop at s))) m p e, z)

    pub text-found : (k : Kind) (h n : ℕ) → outcome (reading (text_sextets (drop at s))) ≡ Item k h n → (r : PrimitiveRead TextOffset)
        → r ≡ text_answer 0 (found k h n) (text_sextets (drop at s)) room → r ≡ read_text s at room
    unfolding read_text from text_answer
    text-found k h n e r q = rw (le-ltb 4194304 (length s) l, is_found (reading (text_sextets (drop at s))) k h n e) q

-- what the buffer holds, by the part
pub left-from : (f : Result Primitive (Refusal TextOffset)) (s : List ℕ) (at : ℕ) (d : List ℕ) → value_left f (drop at s) 0 d ≡ value_left f s at d
unfolding value_left from
left-from (Ok p) s at d = refl
left-from (Err r) s at d = refl

-- the place of a refusal can be counted on from the offset
pub text-place : (s : List ℕ) (at m p : ℕ) → outcome (reading (text_sextets (drop at s))) ≡ Unframed m p → p ≤ length s + 8
unfolding text_sextets
text-place s at m p e =
    let n = place-near (text_sextets (drop at s)) m p (is-refused _ m p e) in
    omega (arith, length-map (drop at s) sextet_of, length-drop at s)

bytes-length : (s : List ℕ) → length (bytes_in s) ≡ 3 * (length s / 4)
unfolding bytes_in
bytes-length s = length-each 4 3 bytes_of bytes-size (length s / 4) s

-- characters that are known are those of their sextets
last-chars : (t : List ℕ) (i m : ℕ) → Below 64 (text_sextets (take m t)) → map char_of (drop i (take m (text_sextets t))) ≡ drop i (take m t)
unfolding text_sextets
last-chars t i m known =
    rw (← map-take sextet_of m t, ← map-drop sextet_of i (take m t))
    (chars-back (drop i (take m t)) (rw (map-drop sextet_of i (take m t)) (below-drop 64 i (map sextet_of (take m t)) known)))

own-sextets : (t : List ℕ) (m : ℕ) → text_sextets (take m t) ≡ take m (text_sextets t)
unfolding text_sextets
own-sextets t m = map-take sextet_of m t

-- ---- the item that a part begins with

module _ (t : List ℕ) (k : Kind) (h n : ℕ) (e : outcome (reading (text_sextets t)) ≡ Item k h n) (l : length t ≤ 4194304) where
  pub item_room : 4 * n ≤ length t
  item_room = let i = inside (text_sextets t) k h n e in omega (arith, i.room, text-units t)

  item-size : length (take (4 * n) t) ≡ 4 * n
  item-size = length-take-le (4 * n) t item_room

  item-fit : Fit (take (4 * n) t)
  unfolding text_sextets
  item-fit =
      let a = accepts (text_sextets t) k h n (is_found _ k h n e) in
      let r = item_room in
      record {
        whole = omega (arith, item-size);
        known = rw (map-take sextet_of (4 * n) t) (item-known (text_sextets t) k h n a.framed a.primitive a.accepted);
        short = omega (arith, item-size);
      }

  -- its text is its own last characters
  chars-are : text_in k h (take (4 * n) (text_sextets t)) ≡ drop (4 * n - length (text_in k h (take (4 * n) (text_sextets t)))) (take (4 * n) t)
  chars-are = told_text (text_sextets t) k h n e ∙ last-chars t (4 * n - length (text_in k h (take (4 * n) (text_sextets t)))) (4 * n) item-fit.known

  units : length (text_sextets t) / 4 ≤ 1048576
  units = omega (arith, text-units t)

  -- what reading_item says holds, since the part is read
  pub item-told : (cs own g : List ℕ) (start text : ℕ) (p : Primitive) → cs ≡ head_of (text_sextets t) → own ≡ head_of (take (4 * n) cs)
      → (h ≤ 2 → n ≤ 1048576 → start ≡ text_start k h n own) → (n ≤ 1048576 → text ≡ 4 * n - start)
      → (h ≤ 2 → n ≤ 1048576 → Shaped k h n → p ≡ primitive_of k h n text) → (Taggable k → g ≡ padded (tag_of k own)) → Tells t k h n p g
  item-told cs own g start text p a b f w z v =
      let s = text_sextets t in
      let q = told-start s k h n e cs own start units a b f in
      let m = told-size s k h n e start text units q w in
      record { item = told-primitive s k h n e units text p z ∙ ap (primitive_of k h n) m; tags = told-tag s k h n e cs own g a b v }

  module _ (p : Primitive) (g : List ℕ) (w : Tells t k h n p g) where
    -- its value is as long as the two say
    value-size : length (value_at (found k h n) (text_sextets t)) ≡ p.raw + p.text
    unfolding value_at value_of primitive_of raw_of
    value-size =
        let s = take (4 * n) (text_sextets t) in
        let l = item-long (text_sextets t) k h n e in
        rw w.item (length-append (drop (raw_start k h) (bytes_in s)) (text_in k h s)
        ∙ ap (λ (i : ℕ). i + length (text_in k h s)) (length-drop (raw_start k h) (bytes_in s) ∙ omega (arith, bytes-length s)))

    pub value-lies : (p.start.0 ≤ length (take (4 * n) t) / 4 * 3) × (p.raw ≡ length (take (4 * n) t) / 4 * 3 - p.start.0)
        × (p.text ≤ length (take (4 * n) t))
    unfolding primitive_of
    value-lies =
        let i = inside (text_sextets t) k h n e in
        let few = text-few (text_sextets t) k h n e in
        rw w.item (omega (arith, i.start, item-size), omega (arith, item-size), omega (arith, item-size))

    pub no_room : (d : List ℕ) → length d < p.raw + p.text → no_text 3 0 ≡ text_answer 0 (found k h n) (text_sextets t) (length d)
    unfolding text_answer
    no_room d r = rw (lt-ltb (length d) (length (value_at (found k h n) (text_sextets t))) (rw (← value-size) at r))

    pub text-item : (d : List ℕ) → p.raw + p.text ≤ length d
        → record { found = Ok p; tag = g } ≡ text_answer 0 (found k h n) (text_sextets t) (length d)
    unfolding text_answer text_at
    text-item d r = rw (le-ltb (length d) (length (value_at (found k h n) (text_sextets t))) (rw (← value-size) at r), w.item, w.tags)

    -- what is copied out is the value
    pub value-copied : (d d' : List ℕ) → p.raw + p.text ≤ length d
        → (p.text ≤ length (take (4 * n) t) → p.raw + p.text ≤ length d → Fit (take (4 * n) t) → p.start.0 ≤ length (take (4 * n) t) / 4 * 3 → p.raw ≡ length (take (4 * n) t) / 4 * 3 - p.start.0
        → d' ≡ value_into (take (4 * n) t) p.start.0 p.text d)
        → d' ≡ value_left (Ok p) t 0 d
    unfolding value_left from value_at value_of primitive_of
    value-copied d d' r c =
        let T = take (4 * n) t in
        let z : 4 * n / 4 * 3 - raw_start k h ≡ 3 * n - raw_start k h = omega arith in
        let raw : raw_of k h (take (4 * n) (text_sextets t)) ≡ drop (raw_start k h) (to_binary T) = rw (own-sextets t (4 * n)) at (text-raw k h T) in
        c value-lies.2 r item-fit value-lies.0 value-lies.1
        ∙ rw (w.item, is_found (reading (text_sextets t)) k h n e, item-size, ← chars-are, z, raw, append_assoc)
