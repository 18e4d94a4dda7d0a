-- Room for a text, which is asked last, and the text that is copied out. Assumes nothing.
use mathlib.Core.Path.{◌≡◌, refl, sym, ◌∙◌}
use mathlib.Core.List.{List, map}
use mathlib.Core.Logic.{⊎_elim}
use Prim.Native.Nat.{ℕ, ◌-◌, ◌*◌, ◌/◌, ◌<◌, ◌≤◌}
use native.Mathlib.Omega.{arith}
use lib.ListN.{length, take, drop, length-drop}
use lib.Seq.{length-take-le}
use borrow.Author.Tests.{lt-ltb, le-ltb}
use Rattle.base.specs.Cases.{lt-or-ge}
use Rattle.base.specs.Lists.{map-drop}
use Rattle.format.specs.declared.Kind.{Kind}
use Rattle.format.specs.declared.Framed.TheVariants.{Item}
use Rattle.format.specs.declared.Primitive.{Primitive}
use Rattle.format.specs.declared.BinaryOffset.{BinaryOffset}
use Rattle.format.specs.Alphabet.{char_of}
use Rattle.format.specs.Units.{text_sextets, binary_sextets}
use Rattle.format.specs.Conversion.{to_text}
use Rattle.format.specs.Values.{text_in}
use Rattle.format.specs.Reading.{Reading, primitive_of, reading, from}
use Rattle.format.specs.Reading.{text_at, binary_answer, read_binary, chars_left}
use Rattle.format.specs.Reading.Reading.{refused, found}
use Rattle.laws.specs.Conversion.{binary-to-text-sextets, text-below}
use Rattle.laws.specs.Units.{chars-back}
use Rattle.laws.specs.Domains.{binary-reader}
use Rattle.framing.proofs.Laws.{binary-units}
use Rattle.reading_chars.specs.Chars.{chars_into}
use Rattle.reading_part.specs.Outcome.{outcome}
use Rattle.reading_part.proofs.Answers.{is_found, inside, text-few, told_text}
use Rattle.reading_found.specs.Found.{no_binary, any_text}
use Rattle.reading_found.proofs.Answers.{Found, few, out-found, binary-long}
use Rattle.std.specs.Prelude.{Ok}
use Rattle.format.specs.Refusals.{refused_by}

-- ---- 3, which is asked last

module _ (s : List ℕ) (at room : ℕ) (p : Primitive) (f : Found s at p) where
  pub no_room : room < p.text → no_binary 3 0 ≡ read_binary s at room
  unfolding read_binary from binary_answer text_at primitive_of
  no_room l =
      rw (
        le-ltb 3145728 (length s) f.short,
        is_found (reading (binary_sextets (drop at s))) f.kind f.head f.size f.item,
        lt-ltb room (length (text_in f.kind f.head (take (4 * f.size) (binary_sextets (drop at s))))) (rw f.told at l),
      )

  pub some-room : p.text ≤ room → read_binary s at any_text ≡ read_binary s at room
  unfolding read_binary from binary_answer text_at primitive_of
  some-room l =
      rw (
        le-ltb 3145728 (length s) f.short,
        is_found (reading (binary_sextets (drop at s))) f.kind f.head f.size f.item,
        le-ltb any_text (length (text_in f.kind f.head (take (4 * f.size) (binary_sextets (drop at s)))))
            (few (drop at s) f.kind f.head f.size f.item (omega (arith, f.short, length-drop at s))),
        le-ltb room (length (text_in f.kind f.head (take (4 * f.size) (binary_sextets (drop at s))))) (rw f.told at l),
      )

-- a refusal is the same whatever room there is
refused-in : (s : List ℕ) (at room : ℕ) (r : Reading) (m : ℕ) (q : BinaryOffset) → length s ≤ 3145728 → reading (binary_sextets (drop at s)) ≡ r
    → (binary_answer at r (binary_sextets (drop at s)) any_text).found ≡ refused_by m q
    → binary_answer at r (binary_sextets (drop at s)) any_text ≡ binary_answer at r (binary_sextets (drop at s)) room
unfolding binary_answer text_at
refused-in s at room (refused n p) m q l e f = refl
refused-in s at room (found k h n) m q l e f =
    let b = binary_sextets (drop at s) in
    let g = rw (le-ltb any_text (length (text_in k h (take (4 * n) b))) (few (drop at s) k h n (out-found _ k h n e) (omega (arith, length-drop at s)))) at f in
    let z : ◌≡◌ {A = ℕ} 0 1 = cc in absurd (omega arith)

pub refused-anyway : (s : List ℕ) (at room m : ℕ) (q : BinaryOffset) → (read_binary s at any_text).found ≡ refused_by m q
    → read_binary s at any_text ≡ read_binary s at room
unfolding read_binary from
refused-anyway s at room m q e =
    ⊎_elim (λ g. sym (binary-long s at any_text g) ∙ binary-long s at room g)
    (λ g. rw (le-ltb 3145728 (length s) g) (refused-in s at room _ m q g refl (rw (le-ltb 3145728 (length s) g) at e))) (lt-or-ge 3145728 (length s))

-- ---- the text that is copied out

-- a binary's text by its sextets
text_of : (b : List ℕ) → to_text b ≡ map char_of (binary_sextets b)
unfolding text_sextets
text_of b = sym (rw (binary-to-text-sextets b) at (chars-back (to_text b) (text-below b)))

-- the last characters of the item's own bytes
chars-of : (b : List ℕ) (k : Kind) (h n : ℕ) → outcome (reading (binary_sextets b)) ≡ Item k h n
    → drop (4 * n - length (text_in k h (take (4 * n) (binary_sextets b)))) (to_text (take (n * 3) b)) ≡ text_in k h (take (4 * n) (binary_sextets b))
chars-of b k h n e =
    let s = binary_sextets b in
    let i = inside s k h n e in
    let z : n * 4 ≡ 4 * n = omega arith in
    let own : binary_sextets (take (n * 3) b) ≡ take (4 * n) s = rw z at (binary-reader.taken b n (omega (arith, i.room, binary-units b))) in
    rw (text_of (take (n * 3) b), own, ← map-drop char_of (4 * n - length (text_in k h (take (4 * n) s))) (take (4 * n) s)) (sym (told_text s k h n e))

pub chars-are : (s : List ℕ) (at : ℕ) (p : Primitive) → Found s at p → at < length s → (d : List ℕ)
    → chars_into (take (3 * p.size) (drop at s)) (4 * p.size - p.text) d ≡ chars_left (Ok p) s at d
unfolding chars_left text_at from primitive_of
chars-are s at p f start d =
    let b = drop at s in
    let n = f.size in
    let i = inside (binary_sextets b) f.kind f.head n f.item in
    let t = length (text_in f.kind f.head (take (4 * n) (binary_sextets b))) in
    let z : 3 * n ≡ n * 3 = omega arith in
    let long = length-take-le (n * 3) b (omega (arith, i.room, binary-units b)) in
    let m : length (take (n * 3) b) / 3 * 4 - (4 * n - t) ≡ t = omega (arith, text-few (binary_sextets b) f.kind f.head n f.item) in
    rw (f.told, z, m, chars-of b f.kind f.head n f.item, is_found (reading (binary_sextets b)) f.kind f.head n f.item)
