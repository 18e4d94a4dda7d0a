-- The claims hold. Assumes nothing.
use Rattle.std.specs.Prelude.{ℕ, ◌*◌, ◌≤◌, ◌≡◌}
use Rattle.std.proofs.Common.{ap, ◌∙◌, arith, length-append, length-drop, take_at}
use mathlib.Core.List.{List, [], ◌++◌}
use Rattle.std.proofs.Math.ListN.{length, drop}
use Rattle.std.proofs.Math.Seq.{drop-append_seam}
use Rattle.format.specs.declared.TextOffset.{TextOffset}
use Rattle.format.specs.declared.BinaryOffset.{BinaryOffset}
use Rattle.format.specs.Offsets.{text_offset, binary_offset}
use Rattle.format.specs.Units.{text, binary}
use Rattle.format.specs.Conversion.{to_text}
use Rattle.format.specs.Writing.{Writing, refused, written}
use Rattle.format.specs.Writing.{text_outcome, binary_outcome, write_text, write_binary, text_item_left, binary_item_left}
use Rattle.laws.specs.Conversion.{length-to-text}
use Rattle.roundtrip.proofs.Sextets as S
use Rattle.roundtrip.proofs.Calls as C
use Rattle.roundtrip.specs.Claims.{Given, text_given, item_of, Accepts, BinaryAccepts}
use Rattle.roundtrip.specs.Claims.{TextAccepts, binary_buffer, text_buffer, BinaryReads, TextReads}
use Rattle.roundtrip.proofs.Spelling.{spelling}
use Rattle.roundtrip.proofs.Parts.{text-parts}
use Rattle.roundtrip.specs.Claims.{WrittenReads, WrittenConverts, ReadWrites, RoundTrip}
use Rattle.std.specs.Prelude.{Ok}

-- ---- what a call wrote

pub binary-written : (w : Writing) (n : ℕ) → binary_outcome w ≡ Ok (binary_offset (n * 3)) → w ≡ written n
unfolding binary_outcome
binary-written (refused m p) n e = let z : ◌≡◌ {A = ℕ} 0 1 = cc in absurd (omega arith)
binary-written (written m) n e =
    let o : binary_offset (m * 3) ≡ binary_offset (n * 3) = cc in
    let k : m * 3 ≡ n * 3 = ap (λ (x : BinaryOffset). x.0) o in
    ap written (omega arith)

pub text-written : (w : Writing) (n : ℕ) → text_outcome w ≡ Ok (text_offset (n * 4)) → w ≡ written n
unfolding text_outcome
text-written (refused m p) n e = let z : ◌≡◌ {A = ℕ} 0 1 = cc in absurd (omega arith)
text-written (written m) n e =
    let o : text_offset (m * 4) ≡ text_offset (n * 4) = cc in
    let k : m * 4 ≡ n * 4 = ap (λ (x : TextOffset). x.0) o in
    ap written (omega arith)

-- ---- what the writer accepts, the reader reads back

module _ (room n : ℕ) (g : Given) where
  module _ (w : BinaryAccepts g room n) where
    binary-writing : Accepts 3 g room n
    unfolding write_binary
    binary-writing = binary-written _ n w

    binary-calls : (for-text : ℕ) (front rest : List ℕ) → length (front ++ (item_of g ++ rest)) ≤ binary.limit
        → length (text_given g) ≤ for-text → BinaryReads (front ++ (item_of g ++ rest)) (length front) for-text g n
    binary-calls for-text front rest l f =
        let e = drop-append_seam front (item_of g ++ rest) in
        C.binary-by (front ++ (item_of g ++ rest)) (length front) for-text g n (S.tag-count 3 room n g binary-writing) l f
        (rw (e, take_at (item_of g) rest (n * 3) (S.written-length 3 room n g binary-writing)) (S.written_below 3 room n g binary-writing))
        (rw e (S.binary-reads 3 room n g binary-writing rest))

  module _ (w : TextAccepts g room n) where
    text-writing : Accepts 4 g room n
    unfolding write_text
    text-writing = text-written _ n w

    text-calls : (for-raw : ℕ) (front rest : List ℕ) → length (front ++ (to_text (item_of g) ++ rest)) ≤ text.limit
        → length g.raw ≤ for-raw → TextReads (front ++ (to_text (item_of g) ++ rest)) (length front) for-raw g n
    text-calls for-raw front rest l f =
        C.text-by (front ++ (to_text (item_of g) ++ rest)) (length front) for-raw g n (S.tag-count 4 room n g text-writing) l f
        (rw (drop-append_seam front (to_text (item_of g) ++ rest)) (S.text-reads 4 room n g text-writing rest))

-- in the buffer that was written to, bytes behind staying
module _ (n : ℕ) (g : Given) (d : List ℕ) where
  binary-buffer : (for-text : ℕ) → BinaryAccepts g (length d) n → length d ≤ binary.limit → length (text_given g) ≤ for-text
      → BinaryReads (binary_buffer g d) 0 for-text g n
  unfolding binary_item_left
  binary-buffer for-text w l f =
      let v = binary-writing (length d) n g w in
      let size : length (item_of g ++ drop (n * 3) d) ≤ binary.limit =
      rw (length-append, length-drop) (omega (arith, S.written-length 3 (length d) n g v, S.room-there 3 (length d) n g v)) in
      rw w (binary-calls (length d) n g w for-text [] (drop (n * 3) d) size f)

  text-buffer : (for-raw : ℕ) → TextAccepts g (length d) n → length d ≤ text.limit → length g.raw ≤ for-raw
      → TextReads (text_buffer g d) 0 for-raw g n
  unfolding text_item_left
  text-buffer for-raw w l f =
      let v = text-writing (length d) n g w in
      let size : length (to_text (item_of g) ++ drop (n * 4) d) ≤ text.limit =
      rw (length-append, length-drop)
      (omega (arith, length-to-text (item_of g), S.written-length 4 (length d) n g v, S.room-there 4 (length d) n g v)) in
      rw w (text-calls (length d) n g w for-raw [] (drop (n * 4) d) size f)

-- ---- all of it

written-reads : WrittenReads
written-reads = record {
  sizes = λ u room n g w. (S.written-length u room n g w, S.written_below u room n g w);
  binary-sextets = λ room n g rest w. S.binary-reads 3 room n g w rest;
  text-sextets = λ room n g rest w. S.text-reads 4 room n g w rest;
  binary-calls = λ room n for-text g front rest w. binary-calls room n g w for-text front rest;
  text-calls = λ room n for-raw g front rest w. text-calls room n g w for-raw front rest;
  binary-buffer = λ n for-text g d. binary-buffer n g d for-text;
  text-buffer = λ n for-raw g d. text-buffer n g d for-raw;
}

written-converts : WrittenConverts
written-converts = record {
  text-binary = S.text-back;
  text-converts = λ u room n for-binary g w. S.text-converts u room n g w for-binary;
  binary-converts = λ u room n for-text g w. S.binary-converts u room n g w for-text;
}

read-writes : ReadWrites
read-writes = record {
  sextets = λ s k h n e few. S.reads-written s k h n e (omega arith);
  binary-calls = C.binary-back;
  text-calls = λ xs at room p d e.
      let w = C.text-back xs at room p d e in
      (w, ap to_text w.bytes ∙ C.text-whole xs at room p e);
}

pub proved : RoundTrip
proved = record {
  written-reads = written-reads;
  written-converts = written-converts;
  read-writes = read-writes;
  spelling = spelling;
  text-parts = text-parts;
}
