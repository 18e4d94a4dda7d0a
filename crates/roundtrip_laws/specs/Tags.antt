-- Tags: own sextets are the code's, a prepad and the tag characters', so they are written back, and what is written are own
-- sextets. Assumes nothing.
use Prim.Native.Nat.{ℕ, zero, suc, ◌+◌, ◌*◌, ◌/◌, ◌≤◌, ◌<◌}
use Rattle.std.specs.Prelude.{◌≡◌, true, ◌↔◌, get_or}
use Rattle.std.proofs.Math.Path.{refl, ap, sym}
use Rattle.std.proofs.Common.{◌∙◌, arith, lit<, length-append, take-append-drop, drop_of_length-le, drop-drop, drop-cons}
use mathlib.Core.List.{List, [], ◌++◌, map, append_assoc, append-nil}
use Rattle.std.proofs.Math.ListN.{length, take, drop, replicate, length-drop, length-map, length-replicate}
use Rattle.std.proofs.Math.Seq.{take_at, drop_at, take_all}
use borrow.Author.Tests.{eq-eqb, ne_eqb, eqb-true}
use Rattle.base.specs.Digits.{Below, none, more, below-append, below-drop, map_back}
use Rattle.base.specs.Each.{each}
use Rattle.format.specs.declared.CodeRow.{CodeRow}
use Rattle.format.specs.declared.Kind.TheVariants.{Fixed}
use Rattle.format.specs.Alphabet.{sextet_of, char_of}
use Rattle.format.specs.Registry.{zero_bits_of, prepad_of}
use Rattle.format.specs.Units.{bytes_of, text_sextets}
use Rattle.format.specs.Judging.{prepad_right}
use Rattle.format.specs.Values.{bytes_in, raw_start, raw_of, tag_of}
use Rattle.format.specs.Reading.{code_of, tags_of}
use Rattle.format.specs.Writing.{row, raw_size, fits_row, code_sextets, tag_prefix, row_prefix, is_named, is_fit, is_short, chars_of, chars_for, begins_right, item_bytes, units_of}
use Rattle.laws.specs.Alphabet.{sextet-char}
use Rattle.laws.specs.Units.{chars-back}
use Rattle.laws.specs.Registry.{Code, one, two, four, Tag}
use Rattle.roundtrip_laws.specs.Bytes.{no_length, bytes-length}
use Rattle.roundtrip_laws.specs.Rows.{Row}
use Rattle.roundtrip_laws.specs.Prefix.{no_bits}
use Rattle.roundtrip_laws.specs.Own.{Own}
use Rattle.roundtrip_laws.specs.Words.{Writes, Made, fixed-text, fixed-value}

code-length : (c : CodeRow) → Code c → length (code_sextets c) ≡ c.chars
unfolding code_sextets
code-length c (one e p) = rw e
code-length c (two e p) = rw e
code-length c (four e p) = rw e

code-low : (c : CodeRow) → Code c → c.letter < 52 → Below 64 (code_sextets c)
unfolding code_sextets
code-low c (one e p) l = let b : c.letter < 64 = omega arith in rw e (more b none)
code-low c (two e p) l = let b : c.letter < 64 = omega arith in rw e (more (lit< tt) (more b none))
code-low c (four e p) l = let b : c.letter < 64 = omega arith in rw e (more (lit< tt) (more (lit< tt) (more (lit< tt) (more b none))))

-- a prepad is right exactly where it is `_`
prepad-is : (s : List ℕ) (i p : ℕ) → p ≤ 1 → i + p ≤ length s → (take p (drop i s) ≡ replicate p 63) ↔ (prepad_right s i p ≡ true)
unfolding prepad_right
prepad-is s i zero h l = (λ _. refl, λ _. refl)
prepad-is s i (suc zero) h l =
    let d = drop-cons s i 0 (omega arith) in (
      λ g. eq-eqb (get_or s i 0) 63 (ap (λ (x : List ℕ). get_or x 0 0) (rw d at g)),
      λ g. rw (d, eqb-true (get_or s i 0) 63 g),
    )
prepad-is s i (suc (suc p)) h l = absurd (omega arith)

low-replicate : (p : ℕ) → Below 64 (replicate p 63)
low-replicate zero = none
low-replicate (suc p) = more (lit< tt) (low-replicate p)

module _ (c : CodeRow) (n : ℕ) (r : Row c n) (t : c.tag ≡ 0 → ⊥) where
  shape : Tag c
  shape = r.sound.tag t

  no-zeros : zero_bits_of c ≡ 0
  no-zeros = rw (ne_eqb c.tag 0 t)

  before : List ℕ
  before = code_sextets c ++ replicate (prepad_of c) 63

  before-length : length before ≡ c.chars + prepad_of c
  unfolding before
  before-length = rw (length-append, code-length c r.sound.code, length-replicate)

  -- the sextets of an item with these tag characters
  spelled : List ℕ → List ℕ
  spelled tag = code_sextets c ++ (replicate (prepad_of c) 63 ++ map sextet_of tag)

  spelled-before : (tag : List ℕ) → spelled tag ≡ before ++ map sextet_of tag
  unfolding spelled before
  spelled-before tag = sym (append_assoc (code_sextets c) (replicate (prepad_of c) 63) (map sextet_of tag))

  spelled-length : (tag : List ℕ) → length tag ≡ c.tag → length (spelled tag) ≡ c.size
  spelled-length tag e =
      rw (spelled-before tag, length-append, before-length, length-map tag sextet_of, e) shape.filled

  prefix-is : (tag : List ℕ) → row_prefix c tag ≡ tag_prefix c tag
  unfolding row_prefix
  prefix-is tag = rw (ne_eqb c.tag 0 t)

  spelled-bytes : (tag : List ℕ) → length tag ≡ c.tag → row_prefix c tag ≡ bytes_in (spelled tag)
  unfolding tag_prefix spelled bytes_in
  spelled-bytes tag e = prefix-is tag ∙ ap (λ (k : ℕ). each 4 bytes_of (k / 4) (spelled tag)) (sym (spelled-length tag e))

  -- the raw value is empty at the item's end
  start_is : (h : ℕ) → raw_start (Fixed c) h ≡ c.size / 4 * 3
  unfolding raw_start
  start_is h = rw (ne_eqb c.tag 0 t)

  no-raw : (h : ℕ) (s : List ℕ) → length s ≡ 4 * n → raw_of (Fixed c) h s ≡ []
  unfolding raw_of
  no-raw h s e =
      rw (start_is h) (drop_of_length-le (bytes_in s) {i = c.size / 4 * 3} (omega (arith, bytes-length s, r.units)))

  raw-size : raw_size c ≡ 0
  unfolding raw_size
  raw-size = rw (start_is 1) (omega arith)

  spelled-own : (tag : List ℕ) → length tag ≡ c.tag → Below 64 (text_sextets tag) → Own (Fixed c) 1 n (spelled tag)
  unfolding text_sextets spelled
  spelled-own tag e low =
      let k = code_sextets c in
      let p : List ℕ = replicate (prepad_of c) 63 in
      let lk = code-length c r.sound.code in
      let lp : length p ≡ prepad_of c = length-replicate (prepad_of c) 63 in
      let l : length (k ++ (p ++ map sextet_of tag)) ≡ c.size = spelled-length tag e in
      let s : Below 64 (k ++ (p ++ map sextet_of tag)) =
      below-append 64 k _ (code-low c r.sound.code r.lettered) (below-append 64 p _ (low-replicate (prepad_of c)) low) in
      record {
        size = l ∙ sym r.units;
        low = s;
        form = record {
          head = refl;
          row = r;
          code = take_at k _ c.chars lk;
          zeros = rw no-zeros (no_bits (k ++ (p ++ map sextet_of tag)) c.chars s);
          prepad = (prepad-is (k ++ (p ++ map sextet_of tag)) c.chars (prepad_of c) shape.prepad (omega (arith, shape.filled))).0
              (ap (take (prepad_of c)) (drop_at k _ c.chars lk) ∙ take_at p _ (prepad_of c) lp);
        };
      }

  spelled-tag : (tag : List ℕ) → length tag ≡ c.tag → Below 64 (text_sextets tag) → tag_of (Fixed c) (spelled tag) ≡ tag
  unfolding tag_of text_sextets
  spelled-tag tag e low =
      rw (
        spelled-before tag,
        drop_at before (map sextet_of tag) (c.chars + prepad_of c) before-length,
        take_all c.tag (map sextet_of tag) (omega (arith, length-map tag sextet_of)),
      )
      (chars-back tag low)

  pub tag-made : (tag raw : List ℕ) (tags : ℕ) → tags ≡ c.tag → length raw ≡ raw_size c → length tag ≡ tags → Below 64 (text_sextets tag)
      → Made (row c) tag tags raw
  unfolding code_of tags_of units_of item_bytes
  tag-made tag raw tags et er el low =
      let l : length tag ≡ c.tag = el ∙ et in
      let o = spelled-own tag l low in
      let nothing : raw ≡ [] = no_length raw (er ∙ raw-size) in
      record {
        kind = Fixed c;
        head = 1;
        size = n;
        sextets = spelled tag;
        own = o;
        units = omega (arith, r.units);
        short = omega (arith, r.units, r.sound.small);
        code = refl;
        tagged = spelled-tag tag l low;
        count = sym et;
        text = fixed-text c 1 (spelled tag);
        value = fixed-value c 1 (spelled tag) ∙ no-raw 1 (spelled tag) o.size ∙ sym nothing;
        bytes = rw nothing (append-nil (row_prefix c tag)) ∙ spelled-bytes tag l;
      }

  -- behind the code and the prepad stand the tag characters
  module _ (h : ℕ) (s : List ℕ) (o : Own (Fixed c) h n s) where
    rest : List ℕ
    rest = drop (c.chars + prepad_of c) s

    rest-low : Below 64 rest
    unfolding rest
    rest-low = below-drop 64 (c.chars + prepad_of c) s o.low

    rest-length : length rest ≡ c.tag
    unfolding rest
    rest-length = omega (arith, length-drop (c.chars + prepad_of c) s, o.size, r.units, shape.filled)

    tag_is : tag_of (Fixed c) s ≡ map char_of rest
    unfolding tag_of rest
    tag_is = ap (map char_of) (take_all c.tag rest (omega (arith, rest-length)))

    tag_back : map sextet_of (tag_of (Fixed c) s) ≡ rest
    tag_back = ap (map sextet_of) tag_is ∙ map_back sextet_of char_of 64 sextet-char rest rest-low

    tag-length : length (tag_of (Fixed c) s) ≡ c.tag
    tag-length = ap length tag_is ∙ length-map rest char_of ∙ rest-length

    own-spelled : s ≡ spelled (tag_of (Fixed c) s)
    unfolding spelled rest
    own-spelled =
        let p : take (prepad_of c) (drop c.chars s) ≡ replicate (prepad_of c) 63 =
        (prepad-is s c.chars (prepad_of c) shape.prepad (omega (arith, o.size, r.units, shape.filled))).1 o.form.prepad in
        let d : drop c.chars s ≡ replicate (prepad_of c) 63 ++ rest =
        sym (take-append-drop (prepad_of c) (drop c.chars s)) ∙ rw (p, drop-drop) in
        sym (take-append-drop c.chars s) ∙ rw (o.form.code, d, tag_back)

    pub tag-writes : Writes (row c) (tag_of (Fixed c) s) (tags_of (Fixed c)) (raw_of (Fixed c) h s) n s
    unfolding tags_of is_named is_fit is_short chars_of chars_for begins_right fits_row units_of item_bytes text_sextets
    tag-writes =
        let nothing = no-raw h s o.size in
        record {
          known = refl;
          fits = rw (nothing, eq-eqb c.tag c.tag refl, raw-size);
          shortest = refl;
          count = tag-length;
          many = tag-length;
          alphabet = rw tag_back rest-low;
          begins = refl;
          units = omega (arith, r.units);
          bytes = rw nothing (append-nil (row_prefix c (tag_of (Fixed c) s))) ∙ spelled-bytes (tag_of (Fixed c) s) tag-length
              ∙ ap bytes_in (sym own-spelled);
        }
