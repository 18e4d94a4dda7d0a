-- There and back by the calls: what they answer where the sextets are those of a primitive. Assumes nothing.
use Rattle.std.specs.Prelude.{ℕ, ◌+◌, ◌-◌, ◌*◌, ◌≤◌, ◌≡◌, refl, List, ◌++◌, ltb, length, take, drop}
use Rattle.std.proofs.Common.{ap, ◌∙◌, sym, arith, length-append, length-drop, drop_at, take_at, length-take-le, drop-drop, take-add, le-ltb, ltb-false}
use Rattle.std.proofs.lemmas.List.{length-map}
use Rattle.base.specs.Pick.{pick-by}
use Rattle.base.specs.Digits.{Below, below-take, below-drop}
use Rattle.format.specs.declared.Kind.{Kind}
use Rattle.format.specs.declared.Kind.TheVariants.{Fixed, Variable, Group, Genus, Indexed}
use Rattle.format.specs.declared.Primitive.{Primitive}
use Rattle.format.specs.declared.TextOffset.{TextOffset}
use Rattle.format.specs.declared.BinaryOffset.{BinaryOffset}
use Rattle.format.specs.declared.PrimitiveRead.{PrimitiveRead}
use Rattle.format.specs.Alphabet.{sextet_of}
use Rattle.format.specs.Units.{text, binary, text_sextets, binary_sextets}
use Rattle.format.specs.Conversion.{to_binary, to_text}
use Rattle.format.specs.Values.{bytes_in, raw_start, raw_of, text_in, value_of, tag_of}
use Rattle.format.specs.Reading.{primitive_of, Reading, refused, found, reading, from, padded}
use Rattle.format.specs.Reading.{value_at, text_at, text_answer, read_text, value_left, binary_answer, read_binary, chars_left, part_at}
use Rattle.laws.specs.Conversion.{text-back as text-there}
use Rattle.laws.specs.Domains.{text-reader, binary-reader}
use Rattle.laws.specs.Values.{text-bytes, binary-bytes, raw-inside}
use Rattle.roundtrip_laws.specs.Bytes.{bytes-length, binary-length}
use Rattle.roundtrip_laws.specs.Own.{Own}
use Rattle.roundtrip_laws.specs.Reads.{read-own}
use Rattle.roundtrip_laws.specs.Counts.{has-lead}
use Rattle.roundtrip_laws.specs.Writes.{own-writes}
use Rattle.roundtrip.proofs.Sextets.{reads-written}
use Rattle.roundtrip.specs.Claims.{Given, tag_given, text_given, Reads, Tells, BinaryReads, TextReads, WritesBack}
use Rattle.std.specs.Prelude.{Ok}

-- ---- the raw value lies at the item's end

own-inside : (k : Kind) (h n : ℕ) (s : List ℕ) → Own k h n s → raw_start k h ≤ 3 * n
own-inside (Fixed c) h n s o =
    let f = o.form in
    let r = f.row in
    raw-inside (Fixed c) h n (omega (arith, f.head, r.units, r.sound.some)) (r.sound, f.head, r.units) tt
own-inside (Variable t l m) h n s o =
    let f = o.form in
    raw-inside (Variable t l m) h n (omega (arith, f.units)) (f.few, f.units) (has-lead l m f.led)
own-inside (Group l) h n s o = absurd o.form
own-inside Genus h n s o = absurd o.form
own-inside (Indexed c) h n s o = absurd o.form

pub raw-length : (k : Kind) (h n : ℕ) (s : List ℕ) → Own k h n s → length (raw_of k h s) ≡ 3 * n - raw_start k h
unfolding raw_of
raw-length k h n s o = length-drop (raw_start k h) (bytes_in s) ∙ omega (arith, bytes-length s, o.size)

pub value-length : (k : Kind) (h n : ℕ) (s : List ℕ) → Own k h n s → length (value_of k h s) ≡ 3 * n - raw_start k h + length (text_in k h s)
unfolding value_of
value-length k h n s o = length-append (raw_of k h s) (text_in k h s) ∙ ap (λ (x : ℕ). x + length (text_in k h s)) (raw-length k h n s o)

drop-take : (i j : ℕ) (s : List ℕ) → i ≤ length s → drop i (take (i + j) s) ≡ take j (drop i s)
drop-take i j s h = rw (take-add i j s) (drop_at (take i s) (take j (drop i s)) i (length-take-le i s h))

pub text-length : (s : List ℕ) → length (text_sextets s) ≡ length s
unfolding text_sextets
text-length s = length-map s sextet_of

-- an item's own bytes in a binary, and in a text
pub binary-own : (ys : List ℕ) (n : ℕ) → n * 3 ≤ length ys → Below 256 (take (n * 3) ys)
    → bytes_in (take (4 * n) (binary_sextets ys)) ≡ take (n * 3) ys
binary-own ys n l low =
    let e : 4 * n ≡ n * 4 = omega arith in
    rw (e, ← (binary-reader.taken ys n l)) (binary-bytes (take (n * 3) ys) (omega (arith, length-take-le (n * 3) ys l)) low)

pub text-own : (ys : List ℕ) (n : ℕ) → n * 4 ≤ length ys → bytes_in (take (4 * n) (text_sextets ys)) ≡ to_binary (take (n * 4) ys)
text-own ys n l =
    let e : 4 * n ≡ n * 4 = omega arith in
    rw (e, ← (text-reader.taken ys n l)) (text-bytes (take (n * 4) ys))

-- from a byte of the item on, to its end
pub part-at : (xs : List ℕ) (at st n : ℕ) → st ≤ 3 * n → n * 3 ≤ length (drop at xs)
    → take (3 * n - st) (drop (at + st) xs) ≡ drop st (take (n * 3) (drop at xs))
part-at xs at st n i l =
    let e : n * 3 ≡ st + (3 * n - st) = omega arith in
    sym (
    ap (λ (x : ℕ). drop st (take x (drop at xs))) e
    ∙ drop-take st (3 * n - st) (drop at xs) (omega arith)
    ∙ ap (take (3 * n - st)) (drop-drop st at xs)
    )

part-is : (xs : List ℕ) (at : ℕ) (k : Kind) (h n : ℕ) → Own k h n (take (4 * n) (binary_sextets (drop at xs)))
    → n * 3 ≤ length (drop at xs) → Below 256 (take (n * 3) (drop at xs))
    → take (3 * n - raw_start k h) (drop (at + raw_start k h) xs) ≡ raw_of k h (take (4 * n) (binary_sextets (drop at xs)))
unfolding raw_of
part-is xs at k h n o l low =
    part-at xs at (raw_start k h) n (own-inside k h n _ o) l ∙ sym (ap (drop (raw_start k h)) (binary-own (drop at xs) n l low))

-- ---- what a call answers, from what reading its sextets finds

-- the characters of a text that is found
abbrev pub chars : Kind → ℕ → ℕ → List ℕ → ℕ
chars k h n s = length (text_in k h (take (4 * n) s))

binary-answer : (xs : List ℕ) (at room : ℕ) (k : Kind) (h n : ℕ) → length xs ≤ binary.limit → chars k h n (binary_sextets (drop at xs)) ≤ room
    → reading (binary_sextets (drop at xs)) ≡ found k h n
    → let s = binary_sextets (drop at xs) in
    read_binary xs at room ≡ record { found = Ok (primitive_of k h n (chars k h n s)); tag = padded (tag_of k (take (4 * n) s)) }
unfolding read_binary binary_answer text_at from
binary-answer xs at room k h n l r e =
    rw (le-ltb binary.limit (length xs) l, e, le-ltb room (chars k h n (binary_sextets (drop at xs))) r)

text-answer : (xs : List ℕ) (at room : ℕ) (k : Kind) (h n : ℕ) → length xs ≤ text.limit
    → length (value_of k h (take (4 * n) (text_sextets (drop at xs)))) ≤ room → reading (text_sextets (drop at xs)) ≡ found k h n
    → let s = text_sextets (drop at xs) in
    read_text xs at room ≡ record { found = Ok (primitive_of k h n (chars k h n s)); tag = padded (tag_of k (take (4 * n) s)) }
unfolding read_text text_answer value_at text_at from
text-answer xs at room k h n l r e =
    rw (le-ltb text.limit (length xs) l, e, le-ltb room (length (value_of k h (take (4 * n) (text_sextets (drop at xs))))) r)

-- what it tells, s being the stream's sextets from the offset on
tells : (s : List ℕ) (g : Given) (n : ℕ) (r : Reads s g n) → length (tag_given g) ≡ g.tags → length s ≤ 4194304
    → Tells (primitive_of r.kind r.head n (chars r.kind r.head n s)) g n
unfolding primitive_of
tells s g n r c l =
    let o = read-own s r.kind r.head n r.reads in
    let w = own-writes r.kind r.head n (take (4 * n) s) o.0 (omega (arith, o.1)) in
    record {
      code-back = r.code-back;
      tags-back = sym w.count ∙ ap length r.tag_back ∙ c;
      raw-length = sym (value-length r.kind r.head n (take (4 * n) s) o.0) ∙ ap length r.raw-back;
      text-length = ap length r.text-back;
      units = refl;
    }

pub binary-by : (xs : List ℕ) (at room : ℕ) (g : Given) (n : ℕ) → length (tag_given g) ≡ g.tags → length xs ≤ binary.limit
    → length (text_given g) ≤ room → Below 256 (take (n * 3) (drop at xs)) → Reads (binary_sextets (drop at xs)) g n → BinaryReads xs at room g n
unfolding part_at primitive_of chars_left text_at from value_of
binary-by xs at room g n c l f low r =
    let s = binary_sextets (drop at xs) in
    let o = read-own s r.kind r.head n r.reads in
    let a = binary-answer xs at room r.kind r.head n l (omega (arith, ap length r.text-back)) r.reads in
    let ls = binary-length (drop at xs) in
    let ld = length-drop at xs in
    record {
      item = primitive_of r.kind r.head n (chars r.kind r.head n s);
      reads = ap (λ (x : PrimitiveRead BinaryOffset). x.found) a;
      tells = tells s g n r c (omega arith);
      tag_back = ap (λ (x : PrimitiveRead BinaryOffset). x.tag) a ∙ ap padded r.tag_back;
      part-back = ap (λ (x : PrimitiveRead BinaryOffset). part_at xs at x.found ++ text_given g) a
          ∙ rw (part-is xs at r.kind r.head n o.0 (omega (arith, o.1)) low, ← r.text-back) r.raw-back;
      text-back = λ d. ap (λ (x : PrimitiveRead BinaryOffset). chars_left x.found xs at d) a ∙ rw (r.reads, r.text-back);
    }

pub text-by : (xs : List ℕ) (at room : ℕ) (g : Given) (n : ℕ) → length (tag_given g) ≡ g.tags → length xs ≤ text.limit
    → length g.raw ≤ room
    → Reads (text_sextets (drop at xs)) g n → TextReads xs at room g n
unfolding value_left value_at from primitive_of
text-by xs at room g n c l f r =
    let s = text_sextets (drop at xs) in
    let t = tells s g n r c (omega (arith, text-length (drop at xs), length-drop at xs)) in
    let o = read-own s r.kind r.head n r.reads in
    let a = text-answer xs at room r.kind r.head n l
    (omega (arith, ap length r.raw-back)) r.reads in
    record {
      item = primitive_of r.kind r.head n (chars r.kind r.head n s);
      reads = ap (λ (x : PrimitiveRead TextOffset). x.found) a;
      tells = t;
      tag_back = ap (λ (x : PrimitiveRead TextOffset). x.tag) a ∙ ap padded r.tag_back;
      raw-back = λ d. ap (λ (x : PrimitiveRead TextOffset). value_left x.found xs at d) a ∙ rw (r.reads, r.raw-back, t.raw-length);
    }

-- ---- what an answer comes from

-- the sextets of a stream that is not too long, and what is found there
pub record From (s : List ℕ) (long limit : ℕ) (p : Primitive) : Type 0 where
  pub kind : Kind
  pub head : ℕ
  pub size : ℕ
  pub short : long ≤ limit
  pub reads : reading s ≡ found kind head size
  pub item : p ≡ primitive_of kind head size (chars kind head size s)

-- their sextets are few then
pub binary-short : (xs : List ℕ) (at : ℕ) → length xs ≤ binary.limit → length (binary_sextets (drop at xs)) ≤ 4194304
binary-short xs at l = omega (arith, binary-length (drop at xs), length-drop at xs)

pub text-short : (xs : List ℕ) (at : ℕ) → length xs ≤ text.limit → length (text_sextets (drop at xs)) ≤ 4194304
text-short xs at l = omega (arith, text-length (drop at xs), length-drop at xs)

abbrev pub BinaryFrom : List ℕ → ℕ → Primitive → Type 0
BinaryFrom xs at p = From (binary_sextets (drop at xs)) (length xs) binary.limit p

abbrev pub TextFrom : List ℕ → ℕ → Primitive → Type 0
TextFrom xs at p = From (text_sextets (drop at xs)) (length xs) text.limit p

pub binary-from : (xs : List ℕ) (at room : ℕ) (p : Primitive) → (read_binary xs at room).found ≡ Ok p
    → BinaryFrom xs at p × (p.text ≤ room)
unfolding read_binary binary_answer text_at from primitive_of
binary-from xs at room p =
    pick-by (λ (x : PrimitiveRead BinaryOffset). x.found ≡ Ok p → BinaryFrom xs at p × (p.text ≤ room))
    (ltb binary.limit (length xs)) _ _ (λ _ e. let z : ◌≡◌ {A = ℕ} 0 1 = cc in absurd (omega arith))
    (λ l e. by (ltb-false binary.limit (length xs) l) (reading (binary_sextets (drop at xs))) refl e)
  where
    by : length xs ≤ binary.limit → (r : Reading) → reading (binary_sextets (drop at xs)) ≡ r
        → (binary_answer at r (binary_sextets (drop at xs)) room).found ≡ Ok p → BinaryFrom xs at p × (p.text ≤ room)
    by l (refused m q) f = λ e. let z : ◌≡◌ {A = ℕ} 0 1 = cc in absurd (omega arith)
    by l (found k h n) f =
        pick-by (λ (x : PrimitiveRead BinaryOffset). x.found ≡ Ok p → BinaryFrom xs at p × (p.text ≤ room))
        (ltb room (chars k h n (binary_sextets (drop at xs)))) _ _ (λ _ e. let z : ◌≡◌ {A = ℕ} 0 1 = cc in absurd (omega arith))
        (λ g e. let i : p ≡ primitive_of k h n (chars k h n (binary_sextets (drop at xs))) = cc in (
          record { kind = k; head = h; size = n; short = l; reads = f; item = i },
          rw i (ltb-false room (chars k h n (binary_sextets (drop at xs))) g),
        ))

pub text-from : (xs : List ℕ) (at room : ℕ) (p : Primitive) → (read_text xs at room).found ≡ Ok p
    → (g : TextFrom xs at p) × (length (value_of g.kind g.head (take (4 * g.size) (text_sextets (drop at xs)))) ≤ room)
unfolding read_text text_answer value_at text_at from primitive_of
text-from xs at room p =
    pick-by (λ (x : PrimitiveRead TextOffset). x.found ≡ Ok p → Roomed)
    (ltb text.limit (length xs)) _ _ (λ _ e. let z : ◌≡◌ {A = ℕ} 0 1 = cc in absurd (omega arith))
    (λ l e. by (ltb-false text.limit (length xs) l) (reading (text_sextets (drop at xs))) refl e)
  where
    Roomed : Type 0
    Roomed = (g : TextFrom xs at p) × (length (value_of g.kind g.head (take (4 * g.size) (text_sextets (drop at xs)))) ≤ room)

    by : length xs ≤ text.limit → (r : Reading) → reading (text_sextets (drop at xs)) ≡ r
        → (text_answer at r (text_sextets (drop at xs)) room).found ≡ Ok p
        → Roomed
    by l (refused m q) f = λ e. let z : ◌≡◌ {A = ℕ} 0 1 = cc in absurd (omega arith)
    by l (found k h n) f =
        pick-by (λ (x : PrimitiveRead TextOffset). x.found ≡ Ok p → Roomed)
        (ltb room (length (value_of k h (take (4 * n) (text_sextets (drop at xs)))))) _ _
        (λ _ e. let z : ◌≡◌ {A = ℕ} 0 1 = cc in absurd (omega arith))
        (λ g e. let i : p ≡ primitive_of k h n (chars k h n (text_sextets (drop at xs))) = cc in
        (record { kind = k; head = h; size = n; short = l; reads = f; item = i }, ltb-false room _ g))

-- ---- written back

pub binary-back : (xs : List ℕ) (at room : ℕ) (p : Primitive) (d : List ℕ) → Below 256 xs → (read_binary xs at room).found ≡ Ok p
    → let raw = part_at xs at (Ok p) ++ take p.text (chars_left (Ok p) xs at d) in
    WritesBack p.code (read_binary xs at room).tag p.tags raw p.size (take (p.size * 3) (drop at xs))
unfolding part_at chars_left text_at from primitive_of value_of
binary-back xs at room p d low e =
    let f = binary-from xs at room p e in
    let g = f.0 in
    let k = g.kind in
    let h = g.head in
    let n = g.size in
    let s = binary_sextets (drop at xs) in
    let o = read-own s k h n g.reads in
    let ls = binary-length (drop at xs) in
    let ld = length-drop at xs in
    let short = g.short in
    let inside : n * 3 ≤ length (drop at xs) = omega (arith, o.1) in
    let own : Below 256 (take (n * 3) (drop at xs)) = below-take 256 (n * 3) _ (below-drop 256 at xs low) in
    let there : chars k h n s ≤ room = rw g.item at f.1 in
    let a = ap (λ (x : PrimitiveRead BinaryOffset). x.tag) (binary-answer xs at room k h n short there g.reads) in
    let t = text_in k h (take (4 * n) s) in
    let c = take_at t (drop (length t) d) (length t) refl in
    rw (g.item, a, g.reads, c, part-is xs at k h n o.0 inside own, ← (binary-own (drop at xs) n inside own))
    (reads-written s k h n g.reads (omega (arith, o.1)))

pub text-back : (xs : List ℕ) (at room : ℕ) (p : Primitive) (d : List ℕ) → (read_text xs at room).found ≡ Ok p
    → let raw = take (p.raw + p.text) (value_left (Ok p) xs at d) in
    WritesBack p.code (read_text xs at room).tag p.tags raw p.size (to_binary (take (p.size * 4) (drop at xs)))
unfolding value_left value_at from primitive_of
text-back xs at room p d e =
    let f = text-from xs at room p e in
    let g = f.0 in
    let k = g.kind in
    let h = g.head in
    let n = g.size in
    let s = text_sextets (drop at xs) in
    let o = read-own s k h n g.reads in
    let ls = text-length (drop at xs) in
    let ld = length-drop at xs in
    let short = g.short in
    let inside : n * 4 ≤ length (drop at xs) = omega (arith, o.1) in
    let a = ap (λ (x : PrimitiveRead TextOffset). x.tag) (text-answer xs at room k h n short f.1 g.reads) in
    let many = 3 * n - raw_start k h + chars k h n s in
    let raw = take_at (value_of k h (take (4 * n) s)) (drop many d) many (value-length k h n (take (4 * n) s) o.0) in
    rw (g.item, a, g.reads, raw, ← (text-own (drop at xs) n inside)) (reads-written s k h n g.reads (omega (arith, o.1)))

-- an accepted item's own characters are whole units of the alphabet, so they are the text of its bytes
pub text-whole : (xs : List ℕ) (at room : ℕ) (p : Primitive) → (read_text xs at room).found ≡ Ok p
    → to_text (to_binary (take (p.size * 4) (drop at xs))) ≡ take (p.size * 4) (drop at xs)
unfolding primitive_of
text-whole xs at room p e =
    let g = (text-from xs at room p e).0 in
    let n = g.size in
    let o = read-own (text_sextets (drop at xs)) g.kind g.head n g.reads in
    let inside : n * 4 ≤ length (drop at xs) = omega (arith, o.1, text-length (drop at xs)) in
    let four : 4 * n ≡ n * 4 = omega arith in
    rw g.item
    (text-there (take (n * 4) (drop at xs)) (omega (arith, length-take-le (n * 4) (drop at xs) inside))
    (rw (text-reader.taken (drop at xs) n inside, ← four) o.0.low))

-- ---- how long the value is that a call hands back

pub binary-value : (xs : List ℕ) (at room : ℕ) (p : Primitive) (d : List ℕ) → (read_binary xs at room).found ≡ Ok p
    → length (part_at xs at (Ok p) ++ take p.text (chars_left (Ok p) xs at d)) ≡ p.raw + p.text
unfolding part_at chars_left text_at from primitive_of
binary-value xs at room p d e =
    let g = (binary-from xs at room p e).0 in
    let n = g.size in
    let s = binary_sextets (drop at xs) in
    let o = read-own s g.kind g.head n g.reads in
    let i = own-inside g.kind g.head n _ o.0 in
    let ls = binary-length (drop at xs) in
    let st = raw_start g.kind g.head in
    let part = length-take-le (3 * n - st) (drop (at + st) xs) (omega (arith, o.1, length-drop at xs, length-drop (at + st) xs)) in
    let t = text_in g.kind g.head (take (4 * n) s) in
    rw (g.item, g.reads, take_at t (drop (length t) d) (length t) refl, length-append, part)

pub text-value : (xs : List ℕ) (at room : ℕ) (p : Primitive) (d : List ℕ) → (read_text xs at room).found ≡ Ok p
    → length (take (p.raw + p.text) (value_left (Ok p) xs at d)) ≡ p.raw + p.text
unfolding value_left value_at from primitive_of
text-value xs at room p d e =
    let g = (text-from xs at room p e).0 in
    let n = g.size in
    let s = text_sextets (drop at xs) in
    let o = read-own s g.kind g.head n g.reads in
    let l = value-length g.kind g.head n (take (4 * n) s) o.0 in
    rw (g.item, g.reads, take_at _ (drop (3 * n - raw_start g.kind g.head + chars g.kind g.head n s) d) _ l) l
