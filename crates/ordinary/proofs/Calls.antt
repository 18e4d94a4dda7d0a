-- Conversion, reading and writing of masked characters. Assumes nothing.
use Rattle.std.specs.Prelude.{ℕ, ◌+◌, ◌-◌, ◌*◌, ◌/◌, ◌%◌, ◌≤◌, ◌<◌, ◌≡◌, List, [], ◌∷◌, ◌++◌, map, Bool, true, false, ltb, length, get_or, take, drop}
use Rattle.std.proofs.Math.Path.{refl}
use Rattle.std.proofs.Common.{ap, ◌∙◌, arith, ltb-false, length-take}
use Rattle.std.proofs.lemmas.List.{length-map}
use Rattle.std.proofs.Math.ListN.{get_or-map}
use Rattle.base.specs.Pick.{pick, pick-by}
use Rattle.base.specs.Lists.{map-take, map-drop}
use Rattle.format.specs.declared.Kind.{Kind}
use Rattle.format.specs.declared.Kind.TheVariants.{Fixed, Variable, Group, Genus, Indexed}
use Rattle.format.specs.declared.Framed.{Framed}
use Rattle.format.specs.declared.Framed.TheVariants.{Item, Unframed}
use Rattle.format.specs.declared.Verdict.{Verdict}
use Rattle.format.specs.declared.Verdict.TheVariants.{Accepted, Refused}
use Rattle.format.specs.declared.BinaryOffset.{BinaryOffset}
use Rattle.format.specs.declared.Code.{Code}
use Rattle.format.specs.Alphabet.{sextet_of, stranger_number}
use Rattle.format.specs.Units.{text, text_sextets}
use Rattle.format.specs.Framing.{sextet, frame}
use Rattle.format.specs.Judging.{judge_kind, own_check}
use Rattle.format.specs.Texts.{fills}
use Rattle.format.specs.Values.{value_of}
use Rattle.format.specs.Conversion.{first_stranger, first_number, text_to_binary, binary_left}
use Rattle.format.specs.Reading.{Reading, is_primitive, judged, read_framed, reading, from, value_at, text_at, text_answer, read_text, value_left}
use Rattle.format.specs.Reading.Reading.{refused, found}
use Rattle.format.specs.Writing as W
use Rattle.laws.specs.Conversion.{all_known}
use Rattle.laws.specs.Levels.{item-sizes, frame-own}
use Rattle.roundtrip_laws.specs.Reads.{read-own}
use Rattle.roundtrip.proofs.Sextets.{accepted}
use Rattle.ordinary.specs.Words.{mask, masked, masked_text, as_five, verdict_five, framed_five, to_binary_five, text_found_five, text_read_five}
use Rattle.ordinary.specs.Words.{text_written_five, binary_written_five}
use Rattle.ordinary.proofs.Marks.{pick_to, plain, plain-test, plain-zero, plain-number, plain-all, sextet-masked, sextets-masked, masked-known}
use Rattle.ordinary.proofs.Framed.{header-known, frame-five}
use Rattle.ordinary.proofs.Judged.{kind-five, check-five}
use Rattle.std.specs.Prelude.{Ok, Err, Result}
use Rattle.format.specs.declared.Refusal.{Refusal}
use Rattle.format.specs.Refusals.{refused_by}
use Rattle.format.specs.declared.TextOffset.{TextOffset}
use Rattle.format.specs.declared.Primitive.{Primitive}

-- ---- conversion

pub stranger-masked : (s : List ℕ) → first_stranger (masked s) ≡ first_stranger s
unfolding first_stranger
stranger-masked [] = refl
stranger-masked (c ∷ s) = rw (sextet-masked c, plain-test (sextet_of c), stranger-masked s)

pub number-masked : (s : List ℕ) → first_number (masked s) ≡ as_five (first_number s)
unfolding first_number mask
number-masked s =
    let c : ℕ = get_or s (first_stranger s) 0 in
    rw (stranger-masked s) (ap (λ (x : ℕ). stranger_number (sextet_of x)) (get_or-map mask s (first_stranger s) 0)
    ∙ ap stranger_number (sextet-masked c) ∙ plain-number (sextet_of c))

pub converts : (s : List ℕ) (room : ℕ) → text_to_binary (masked s) room ≡ to_binary_five (text_to_binary s room)
unfolding text_to_binary to_binary_five as_five
converts s room =
    rw (length-map s mask, stranger-masked s, number-masked s)
    (pick_to to_binary_five (ltb text.limit (length s)) _ _ _ _ (λ _. refl)
    (λ _. pick_to to_binary_five (ltb 0 (length s % 4)) _ _ _ _ (λ _. refl)
    (λ _. pick_to to_binary_five (ltb (first_stranger s) (length s)) _ _ _ _ (λ _. refl)
    (λ _. pick_to to_binary_five (ltb room (length s / 4 * 3)) _ _ _ _ (λ _. refl) (λ _. refl)))))

-- what is converted is in the alphabet
never {ℓ} : {A : Type ℓ} (m : ℕ) {p : TextOffset} {n : BinaryOffset} → refused_by m p ≡ Ok n → A
never m e = let z : ◌≡◌ {A = ℕ} 0 1 = cc in absurd (omega arith)

converted-known : (s : List ℕ) (room : ℕ) (n : BinaryOffset) → text_to_binary s room ≡ Ok n → length s ≤ first_stranger s
unfolding text_to_binary
converted-known s room n =
    let P : Result BinaryOffset (Refusal TextOffset) → Type 0 = λ r. r ≡ Ok n → length s ≤ first_stranger s in
    pick-by P (ltb text.limit (length s)) _ _ (λ _. never 1)
    (λ _. pick-by P (ltb 0 (length s % 4)) _ _ (λ _. never 2)
    (λ _. pick-by P (ltb (first_stranger s) (length s)) _ _ (λ _. never (first_number s)) (λ e _. ltb-false _ _ e)))

pub converts-left : (s d : List ℕ)
    → binary_left (text_to_binary (masked s) (length d)) (masked s) d ≡ binary_left (text_to_binary s (length d)) s d
unfolding binary_left to_binary_five
converts-left s d = rw (converts s (length d)) (go (text_to_binary s (length d)) refl)
  where
    go : (r : Result BinaryOffset (Refusal TextOffset)) → text_to_binary s (length d) ≡ r → binary_left (to_binary_five r) (masked s) d ≡ binary_left r s d
    go (Err r) e = refl
    go (Ok n) e = rw (masked-known s (all_known s (converted-known s (length d) n e)))

-- ---- reading

unfoldable pub reading_five : Reading → Reading
reading_five (refused m p) = refused (as_five m) p
reading_five (found k h n) = found k h n

pub judged-five : (k : Kind) (h n : ℕ) (v : Verdict) → judged k h n (verdict_five v) ≡ reading_five (judged k h n v)
unfolding judged verdict_five reading_five
judged-five k h n Accepted = refl
judged-five k h n (Refused m p) = refl

-- the header stands within the item's own sextets
own-header : (s : List ℕ) (k : Kind) (h n : ℕ) → frame s ≡ Item k h n → (i : ℕ) → i < 4 * h → sextet (take (4 * n) s) i < 64
own-header s k h n e =
    let z : n * 4 ≡ 4 * n = omega arith in
    rw z at (header-known false (take (n * 4) s) k h n (frame-own false s k h n e))

framed-reads : (s : List ℕ) (r : Framed) → frame s ≡ r → read_framed (framed_five r) (map plain s) ≡ reading_five (read_framed r s)
unfolding read_framed framed_five reading_five as_five
framed-reads s (Unframed m p) e = refl
framed-reads s (Item k h n) e =
    rw (← map-take plain (4 * n) s)
    (pick_to reading_five (is_primitive k) _ _ _ _
    (λ _. ap (judged k h n) (kind-five k h (take (4 * n) s) (own_check 0) (own-header s k h n e) (check-five 0))
    ∙ judged-five k h n (judge_kind k h (take (4 * n) s) (own_check 0)))
    (λ _. refl))

reading-five : (s : List ℕ) → reading (map plain s) ≡ reading_five (reading s)
unfolding reading
reading-five s = rw (frame-five false s) (framed-reads s (frame s) refl)

-- what is read is in the alphabet
read_known : (s : List ℕ) (k : Kind) (h n : ℕ) → reading s ≡ found k h n → take (4 * n) (map plain s) ≡ take (4 * n) s
read_known s k h n e = rw (← map-take plain (4 * n) s) (plain-all (take (4 * n) s) (read-own s k h n e).0.low)

answer-five : (at : ℕ) (s : List ℕ) (room : ℕ) (r : Reading) → reading s ≡ r
    → text_answer at (reading_five r) (map plain s) room ≡ text_read_five (text_answer at r s room)
unfolding text_answer value_at text_at reading_five text_read_five text_found_five as_five
answer-five at s room (refused m p) e = refl
answer-five at s room (found k h n) e =
    rw (read_known s k h n e) (pick_to text_read_five (ltb room (length (value_of k h (take (4 * n) s)))) _ _ _ _ (λ _. refl) (λ _. refl))

-- a masked text from an offset on
pub from-masked : (s : List ℕ) (at : ℕ) → text.sextets (from at (masked s)) ≡ map plain (text.sextets (from at s))
unfolding from
from-masked s at = rw (← map-drop mask at s) (sextets-masked (drop at s))

pub reads : (s : List ℕ) (at room : ℕ) → read_text (masked s) at room ≡ text_read_five (read_text s at room)
unfolding read_text text_read_five text_found_five as_five
reads s at room =
    let t : List ℕ = text.sextets (from at s) in
    rw (length-map s mask, from-masked s at, reading-five t)
    (pick_to text_read_five (ltb text.limit (length s)) _ _ _ _ (λ _. refl) (λ _. answer-five at t room (reading t) refl))

value-five : (s : List ℕ) (r : Reading) → reading s ≡ r → value_at (reading_five r) (map plain s) ≡ value_at r s
unfolding value_at reading_five
value-five s (refused m p) e = refl
value-five s (found k h n) e = rw (read_known s k h n e)

pub reads-left : (s : List ℕ) (at : ℕ) (d : List ℕ)
    → value_left (read_text (masked s) at (length d)).found (masked s) at d ≡ value_left (read_text s at (length d)).found s at d
unfolding value_left text_read_five text_found_five
reads-left s at d = rw (reads s at (length d)) (go (read_text s at (length d)).found)
  where
    go : (f : Result Primitive (Refusal TextOffset)) → value_left (text_found_five f) (masked s) at d ≡ value_left f s at d
    go (Err e) = refl
    go (Ok q) =
        let t : List ℕ = text.sextets (from at s) in
        rw (from-masked s at, reading-five t, value-five t (reading t) refl)

-- ---- writing

unfoldable pub writing_five : W.Writing → W.Writing
writing_five (W.refused m p) = W.refused (as_five m) p
writing_five (W.written n) = W.written n

-- a mask does not change how long a value is, which characters are asked, and whether they start with `A`
length-masked : (n : W.Named) (raw : List ℕ) → length (masked_text n raw) ≡ length raw
length-masked W.unknown raw = refl
length-masked (W.row c) raw = refl
length-masked (W.variable t h) raw = refl
length-masked (W.textual h) raw = length-map raw mask

chars-masked : (n : W.Named) (tag : List ℕ) (tags : ℕ) (raw : List ℕ)
    → W.chars_of n (take tags (masked tag)) (masked_text n raw) ≡ masked (W.chars_of n (take tags tag) raw)
unfolding W.chars_of
chars-masked W.unknown tag tags raw = rw (← map-take mask tags tag)
chars-masked (W.row c) tag tags raw = rw (← map-take mask tags tag)
chars-masked (W.variable t h) tag tags raw = rw (← map-take mask tags tag)
chars-masked (W.textual h) tag tags raw = refl

begins-masked : (n : W.Named) (raw : List ℕ) → W.begins_right n (masked_text n raw) ≡ W.begins_right n raw
unfolding W.begins_right fills
begins-masked W.unknown raw = refl
begins-masked (W.row c) raw = refl
begins-masked (W.variable t h) raw = refl
begins-masked (W.textual h) [] = refl
begins-masked (W.textual h) (c ∷ raw) = rw (sextet-masked c, plain-zero (sextet_of c))

pub writing-masked : (u : ℕ) (n : W.Named) (tag : List ℕ) (tags : ℕ) (raw : List ℕ) (room : ℕ)
    → W.writing u n (masked tag) tags (masked_text n raw) room ≡ writing_five (W.writing u n tag tags raw room)
unfolding W.writing writing_five as_five
writing-masked u n tag tags raw room =
    let chars = W.chars_of n (take tags tag) raw in
    rw (length-masked n raw, chars-masked n tag tags raw, begins-masked n raw, stranger-masked chars, number-masked chars)
    (pick_to writing_five (W.is_named n) _ _ _ _
    (λ _. pick_to writing_five (W.is_fit n tags (length raw)) _ _ _ _
    (λ _. pick_to writing_five (W.is_short n (length raw)) _ _ _ _
    (λ _. pick_to writing_five (ltb (first_stranger chars) (W.chars_for n tags (length raw))) _ _ _ _ (λ _. refl)
    (λ _. pick_to writing_five (W.begins_right n raw) _ _ _ _
    (λ _. pick_to writing_five (ltb room (W.units_of n (length raw) * u)) _ _ _ _ (λ _. refl) (λ _. refl))
    (λ _. refl)))
    (λ _. refl))
    (λ _. refl))
    (λ _. refl))

-- what is written has its characters in the alphabet
bytes-masked : (n : W.Named) (tag : List ℕ) (tags : ℕ) (raw : List ℕ)
    → W.chars_for n tags (length raw) ≤ first_stranger (W.chars_of n (take tags tag) raw)
    → W.item_bytes n (take tags (masked tag)) (masked_text n raw) ≡ W.item_bytes n (take tags tag) raw
unfolding W.chars_of W.chars_for W.item_bytes
bytes-masked W.unknown tag tags raw l = refl
bytes-masked (W.row c) tag tags raw l =
    rw (← map-take mask tags tag, masked-known (take tags tag) (all_known (take tags tag) (omega (arith, length-take tags tag))))
bytes-masked (W.variable t h) tag tags raw l = refl
bytes-masked (W.textual h) tag tags raw l = rw (masked-known raw (all_known raw l))

text-outcome : (w : W.Writing) → W.text_outcome (writing_five w) ≡ text_written_five (W.text_outcome w)
unfolding W.text_outcome writing_five text_written_five
text-outcome (W.refused m p) = refl
text-outcome (W.written n) = refl

binary-outcome : (w : W.Writing) → W.binary_outcome (writing_five w) ≡ binary_written_five (W.binary_outcome w)
unfolding W.binary_outcome writing_five binary_written_five
binary-outcome (W.refused m p) = refl
binary-outcome (W.written n) = refl

module _ (code : Code) (tag : List ℕ) (tags : ℕ) (raw : List ℕ) where
  abbrev chars : List ℕ
  chars = masked_text (W.named code) raw

  pub writes-text : (room : ℕ) → W.write_text code (masked tag) tags chars room ≡ text_written_five (W.write_text code tag tags raw room)
  unfolding W.write_text
  writes-text room = rw (writing-masked 4 (W.named code) tag tags raw room) (text-outcome _)

  pub writes-binary : (room : ℕ) → W.write_binary code (masked tag) tags chars room ≡ binary_written_five (W.write_binary code tag tags raw room)
  unfolding W.write_binary
  writes-binary room = rw (writing-masked 3 (W.named code) tag tags raw room) (binary-outcome _)

  written_known : (u room n : ℕ) → W.writing u (W.named code) tag tags raw room ≡ W.written n
      → W.written_bytes code (masked tag) tags chars ≡ W.written_bytes code tag tags raw
  unfolding W.written_bytes
  written_known u room n e = bytes-masked (W.named code) tag tags raw (accepted u (W.named code) tag tags raw room n e).strangers

  pub text-left : (d : List ℕ) → W.text_item_left (W.write_text code (masked tag) tags chars (length d)) code (masked tag) tags chars d
      ≡ W.text_item_left (W.write_text code tag tags raw (length d)) code tag tags raw d
  unfolding W.text_item_left W.write_text W.text_outcome writing_five
  text-left d = rw (writing-masked 4 (W.named code) tag tags raw (length d)) (go (W.writing 4 (W.named code) tag tags raw (length d)) refl)
    where
      go : (w : W.Writing) → W.writing 4 (W.named code) tag tags raw (length d) ≡ w
          → W.text_item_left (W.text_outcome (writing_five w)) code (masked tag) tags chars d ≡ W.text_item_left (W.text_outcome w) code tag tags raw d
      go (W.refused m p) e = refl
      go (W.written n) e = rw (written_known 4 (length d) n e)

  pub binary-left : (d : List ℕ) → W.binary_item_left (W.write_binary code (masked tag) tags chars (length d)) code (masked tag) tags chars d
      ≡ W.binary_item_left (W.write_binary code tag tags raw (length d)) code tag tags raw d
  unfolding W.binary_item_left W.write_binary W.binary_outcome writing_five
  binary-left d = rw (writing-masked 3 (W.named code) tag tags raw (length d)) (go (W.writing 3 (W.named code) tag tags raw (length d)) refl)
    where
      go : (w : W.Writing) → W.writing 3 (W.named code) tag tags raw (length d) ≡ w
          → W.binary_item_left (W.binary_outcome (writing_five w)) code (masked tag) tags chars d ≡ W.binary_item_left (W.binary_outcome w) code tag tags raw d
      go (W.refused m p) e = refl
      go (W.written n) e = rw (written_known 3 (length d) n e)
