-- There and back on the sextets of a stream, in either form. Assumes nothing.
use Rattle.std.specs.Prelude.{ℕ, suc, ◌*◌, ◌/◌, ◌%◌, ◌≤◌, ◌≡◌, refl, List, [], ◌∷◌, ◌++◌, true, ltb, take}
use Rattle.std.proofs.Common.{ap, ◌∙◌, sym, length-take, take_at}
use native.Mathlib.Omega.{arith}
use Rattle.std.proofs.Math.ListN.{length}
use borrow.Author.Tests.{le-ltb, ltb-false}
use Rattle.base.specs.Pick.{pick-by}
use Rattle.base.specs.Lists.{map-join}
use Rattle.base.specs.Digits.{Below}
use Rattle.format.specs.declared.Kind.{Kind}
use Rattle.format.specs.Alphabet.{sextet_of}
use Rattle.format.specs.Units.{text, binary, text_sextets, binary_sextets}
use Rattle.format.specs.Offsets.{text_offset, binary_offset}
use Rattle.format.specs.Conversion.{to_binary, to_text, first_stranger, text_to_binary, binary_to_text}
use Rattle.format.specs.Values.{bytes_in, text_in, value_of, tag_of}
use Rattle.format.specs.Reading.{code_of, tags_of, found, reading, padded}
use Rattle.format.specs.Writing.{Named, unknown, row, variable, textual, named, Writing, refused, written, writing, written_bytes}
use Rattle.format.specs.Writing.{is_named, is_fit, is_short, chars_of, chars_for, begins_right, units_of}
use Rattle.format.specs.Writing.{text_outcome, binary_outcome, write_text, write_binary}
use Rattle.laws.specs.Conversion.{length-to-text, binary-to-text-sextets, text-below, binary-back, no-stranger, all_known}
use Rattle.roundtrip_laws.specs.Bytes.{bytes-length, bytes-in-below, sextets-join, sextets-back}
use Rattle.roundtrip_laws.specs.Own.{Own}
use Rattle.roundtrip_laws.specs.Reads.{own-reads, read-own}
use Rattle.roundtrip_laws.specs.Words.{name_of, chars_in, Made}
use Rattle.roundtrip_laws.specs.Writes.{own-named, own-writes, text-fits, made, made_code}
use Rattle.roundtrip.specs.Claims.{Given, tag_given, text_for, item_of, Accepts, Reads, WritesBack}
use Rattle.std.specs.Prelude.{Ok}

-- ---- what an accepted write says

pub record Accepted (u : ℕ) (name : Named) (tag : List ℕ) (tags : ℕ) (raw : List ℕ) (room n : ℕ) : Type 0 where
  pub known : is_named name ≡ true
  pub fits : is_fit name tags (length raw) ≡ true
  pub shortest : is_short name (length raw) ≡ true
  pub strangers : chars_for name tags (length raw) ≤ first_stranger (chars_of name (take tags tag) raw)
  pub begins : begins_right name raw ≡ true
  pub units : units_of name (length raw) ≡ n
  pub there : units_of name (length raw) * u ≤ room

unwritten {ℓ} : {A : Type ℓ} (m p n : ℕ) → refused m p ≡ written n → A
unwritten m p n e = let z : ◌≡◌ {A = ℕ} 0 1 = cc in absurd (omega arith)

pub accepted : (u : ℕ) (name : Named) (tag : List ℕ) (tags : ℕ) (raw : List ℕ) (room n : ℕ)
    → writing u name tag tags raw room ≡ written n → Accepted u name tag tags raw room n
unfolding writing
accepted u name tag tags raw room n =
    let P : Writing → Type 0 = λ w. w ≡ written n → Accepted u name tag tags raw room n in
    let chars = chars_of name (take tags tag) raw in
    pick-by P (is_named name) _ _
    (λ a. pick-by P (is_fit name tags (length raw)) _ _
    (λ b. pick-by P (is_short name (length raw)) _ _
    (λ s. pick-by P (ltb (first_stranger chars) (chars_for name tags (length raw))) _ _ (λ _. unwritten _ _ n)
    (λ c. pick-by P (begins_right name raw) _ _
    (λ d. pick-by P (ltb room (units_of name (length raw) * u)) _ _ (λ _. unwritten 3 0 n)
    (λ r e. record { known = a; fits = b; shortest = s; strangers = ltb-false _ _ c; begins = d; units = cc; there = ltb-false room _ r }))
    (λ _. unwritten 16 0 n)))
    (λ _. unwritten 18 0 n))
    (λ _. unwritten 12 0 n))
    (λ _. unwritten 6 0 n)

stranger-inside : (s : List ℕ) → first_stranger s ≤ length s
unfolding first_stranger
stranger-inside [] = omega arith
stranger-inside (c ∷ s) =
    pick-by (λ (n : ℕ). n ≤ suc (length s)) (ltb (sextet_of c) 64) _ _ (λ _. omega (arith, stranger-inside s)) (λ _. omega arith)

text-join : (x y : List ℕ) → text_sextets (x ++ y) ≡ text_sextets x ++ text_sextets y
unfolding text_sextets
text-join x y = map-join sextet_of x y

by_tags : (tag : List ℕ) (tags : ℕ) → tags ≤ first_stranger (take tags tag)
    → (length (take tags tag) ≡ tags) × (length (take tags tag) ≤ first_stranger (take tags tag))
by_tags tag tags h =
    let i = stranger-inside (take tags tag) in
    let l = length-take tags tag in
    (omega arith, omega arith)

-- as many tag characters as are said to be there, and as many of a text
counted : (name : Named) (tag : List ℕ) (tags : ℕ) (raw : List ℕ) → is_fit name tags (length raw) ≡ true
    → chars_for name tags (length raw) ≤ first_stranger (chars_of name (take tags tag) raw)
    → (length (take tags tag) ≡ tags) × (length (chars_of name (take tags tag) raw) ≤ first_stranger (chars_of name (take tags tag) raw))
unfolding is_fit chars_of chars_for
counted unknown tag tags raw e h = let z : ◌≡◌ {A = ℕ} 0 1 = cc in absurd (omega arith)
counted (row c) tag tags raw e h = by_tags tag tags h
counted (variable t k) tag tags raw e h = by_tags tag tags h
counted (textual k) tag tags raw e h = (rw (text-fits k tags (length raw) e).0, h)

-- ---- what is written, then read

chars-are : (name : Named) (raw : List ℕ) → chars_in name raw ≡ text_for name raw
chars-are unknown raw = refl
chars-are (row c) raw = refl
chars-are (variable t h) raw = refl
chars-are (textual h) raw = refl

module _ (u room n : ℕ) (g : Given) (w : Accepts u g room n) where
  fits : Accepted u (named g.code) g.tag g.tags g.raw room n
  fits = accepted u (named g.code) g.tag g.tags g.raw room n w

  pub room-there : n * u ≤ room
  room-there = rw fits.units at fits.there

  -- as many tag characters as are said to be there
  pub tag-count : length (tag_given g) ≡ g.tags
  tag-count = (counted (named g.code) g.tag g.tags g.raw fits.fits fits.strangers).0

  item : Made (named g.code) (tag_given g) g.tags g.raw
  item =
      made (tag_given g) g.raw g.tags tag-count g.bytes g.code fits.fits fits.shortest
      (all_known _ (counted (named g.code) g.tag g.tags g.raw fits.fits fits.strangers).1) fits.begins

  size_is : item.size ≡ n
  size_is = sym item.units ∙ fits.units

  own : Own item.kind item.head n item.sextets
  own = rw size_is at item.own

  bytes-are : item_of g ≡ bytes_in item.sextets
  unfolding written_bytes
  bytes-are = item.bytes

  pub written-length : length (item_of g) ≡ n * 3
  written-length = ap length bytes-are ∙ bytes-length item.sextets ∙ omega (arith, own.size)

  pub written_below : Below 256 (item_of g)
  written_below = rw bytes-are (bytes-in-below item.sextets)

  sextets-are : binary_sextets (item_of g) ≡ item.sextets
  sextets-are = ap binary_sextets bytes-are ∙ sextets-back item.sextets (omega (arith, own.size)) own.low

  -- in either form the item's sextets come first
  reads : (s rest : List ℕ) → s ≡ item.sextets ++ rest → Reads s g n
  reads s rest e =
      let front : take (4 * n) s ≡ item.sextets = ap (take (4 * n)) e ∙ take_at item.sextets rest (4 * n) own.size in
      record {
        kind = item.kind;
        head = item.head;
        reads = ap reading e ∙ own-reads item.kind item.head n item.sextets rest own;
        code-back = item.code ∙ made_code g.code fits.known;
        tag_back = ap (tag_of item.kind) front ∙ item.tagged;
        raw-back = ap (value_of item.kind item.head) front ∙ item.value;
        text-back = ap (text_in item.kind item.head) front ∙ (item.text ∙ chars-are (named g.code) g.raw);
      }

  pub binary-reads : (rest : List ℕ) → Reads (binary_sextets (item_of g ++ rest)) g n
  binary-reads rest =
      reads _ (binary_sextets rest)
      (sextets-join n (item_of g) rest written-length ∙ ap (λ (s : List ℕ). s ++ binary_sextets rest) sextets-are)

  pub text-reads : (rest : List ℕ) → Reads (text_sextets (to_text (item_of g) ++ rest)) g n
  text-reads rest =
      reads _ (text_sextets rest)
      (text-join (to_text (item_of g)) rest
      ∙ ap (λ (s : List ℕ). s ++ text_sextets rest) (binary-to-text-sextets (item_of g) ∙ sextets-are))

  -- ---- conversion

  units-few : n ≤ 1048576
  units-few = omega (arith, item.short, size_is)

  pub text-back : to_binary (to_text (item_of g)) ≡ item_of g
  text-back = binary-back (item_of g) (omega (arith, written-length)) written_below

  pub text-converts : (for-binary : ℕ) → n * 3 ≤ for-binary
      → text_to_binary (to_text (item_of g)) for-binary ≡ Ok (binary_offset (n * 3))
  unfolding text_to_binary
  text-converts for-binary r =
      let t = to_text (item_of g) in
      let l : length t ≡ n * 4 = length-to-text (item_of g) ∙ omega (arith, written-length) in
      let q : length t / 4 ≡ n = omega arith in
      rw (
        le-ltb text.limit (length t) (omega (arith, units-few)),
        le-ltb 0 (length t % 4) (omega arith),
        le-ltb (first_stranger t) (length t) (omega (arith, no-stranger t (text-below (item_of g)))),
        q,
        le-ltb for-binary (n * 3) r,
      )

  pub binary-converts : (for-text : ℕ) → n * 4 ≤ for-text
      → binary_to_text (item_of g) for-text ≡ Ok (text_offset (n * 4))
  unfolding binary_to_text
  binary-converts for-text r =
      let b = item_of g in
      let l : length b ≡ n * 3 = written-length in
      let q : length b / 3 ≡ n = omega arith in
      rw (
        le-ltb binary.limit (length b) (omega (arith, units-few)),
        le-ltb 0 (length b % 3) (omega arith),
        q,
        le-ltb for-text (n * 4) r,
      )

-- ---- what is read, then written

pub reads-written : (s : List ℕ) (k : Kind) (h n : ℕ) → reading s ≡ found k h n → n ≤ 1048576
    → let own = take (4 * n) s in WritesBack (code_of k h) (padded (tag_of k own)) (tags_of k) (value_of k h own) n (bytes_in own)
unfolding padded writing written_bytes write_binary write_text binary_outcome text_outcome
reads-written s k h n e few =
    let own = take (4 * n) s in
    let o = (read-own s k h n e).0 in
    let w = own-writes k h n own o few in
    let name : named (code_of k h) ≡ name_of k h = own-named k h n own o in
    let tag : take (tags_of k) (padded (tag_of k own)) ≡ tag_of k own = take_at (tag_of k own) _ (tags_of k) w.count in
    let accepts : (u room : ℕ) → n * u ≤ room
    → writing u (named (code_of k h)) (padded (tag_of k own)) (tags_of k) (value_of k h own) room ≡ written n =
    λ u room r.
    rw (
      name,
      w.known,
      w.fits,
      w.shortest,
      tag,
      le-ltb (first_stranger (chars_of (name_of k h) (tag_of k own) (value_of k h own))) (chars_for (name_of k h) (tags_of k) (length (value_of k h own)))
          (omega (arith, no-stranger (chars_of (name_of k h) (tag_of k own) (value_of k h own)) w.alphabet, w.many)),
      w.begins,
      w.units,
      le-ltb room (n * u) r,
    ) in
    record {
      binary-accepts = λ room r. ap binary_outcome (accepts 3 room r);
      text-accepts = λ room r. ap text_outcome (accepts 4 room r);
      bytes = rw (name, tag) w.bytes;
    }
