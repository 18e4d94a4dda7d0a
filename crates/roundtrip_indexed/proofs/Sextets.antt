-- There and back on the sextets of a stream, in either form. Assumes nothing.
use Rattle.std.specs.Prelude.{ℕ, ◌*◌, ◌/◌, ◌%◌, ◌≤◌, ◌≡◌, refl, List, ◌++◌, true, ltb, take}
use Rattle.std.proofs.Common.{ap, ◌∙◌, take_at}
use native.Mathlib.Omega.{arith}
use Rattle.std.proofs.Math.ListN.{length}
use borrow.Author.Tests.{le-ltb, ltb-false}
use Rattle.base.specs.Pick.{pick-by}
use Rattle.base.specs.Lists.{map-join}
use Rattle.base.specs.Digits.{Below}
use Rattle.format.specs.declared.IndexRow.{IndexRow}
use Rattle.format.specs.declared.Kind.{Kind}
use Rattle.format.specs.declared.Kind.TheVariants.{Fixed, Variable, Group, Genus, Indexed}
use Rattle.format.specs.Alphabet.{sextet_of}
use Rattle.format.specs.Units.{text, binary, text_sextets, binary_sextets}
use Rattle.format.specs.Offsets.{text_offset, binary_offset}
use Rattle.format.specs.Conversion.{to_binary, to_text, first_stranger, text_to_binary, binary_to_text}
use Rattle.format.specs.Registry.{index_head}
use Rattle.format.specs.Judging.{ondex_right}
use Rattle.format.specs.Values.{bytes_in, raw_of, index_of, ondex_of}
use Rattle.format.specs.Reading.{found}
use Rattle.format.specs.Writing.{Writing, written, text_outcome, binary_outcome}
use Rattle.format.specs.Writing as W
use Rattle.format.specs.Indexed.{code_of_row, reading_indexed, IndexNamed, none, row, named_index, fits_indexed, writing_indexed, indexed_bytes}
use Rattle.format.specs.Indexed.{written_indexed, write_indexed_text, write_indexed_binary}
use Rattle.laws.specs.Conversion.{length-to-text, binary-to-text-sextets, text-below, binary-back, no-stranger}
use Rattle.roundtrip_laws.specs.Bytes.{sextets-join}
use Rattle.roundtrip_indexed.specs.Rows.{Facts, Names, index-names}
use Rattle.roundtrip_indexed.specs.Own.{Own}
use Rattle.roundtrip_indexed.proofs.Reading.{Read, own-reads, read-own}
use Rattle.roundtrip_indexed.proofs.Back.{written_back, own-fits}
use Rattle.roundtrip_indexed.proofs.Made as M
use Rattle.roundtrip_indexed.specs.Claims.{Given, item_of, Accepts, Reads, WritesBack}
use Rattle.std.specs.Prelude.{Ok}

-- ---- what an accepted write says

record Accepted (u : ℕ) (c : IndexRow) (i j raw room n : ℕ) : Type 0 where
  fits : fits_indexed c i j raw ≡ true
  right : ondex_right c j ≡ true
  units : c.size / 4 ≡ n
  there : n * u ≤ room

unwritten {ℓ} : {A : Type ℓ} (m p n : ℕ) → W.refused m p ≡ written n → A
unwritten m p n e = let z : ◌≡◌ {A = ℕ} 0 1 = cc in absurd (omega arith)

accepted : (u : ℕ) (c : IndexRow) (i j raw room n : ℕ) → writing_indexed u (row c) i j raw room ≡ written n → Accepted u c i j raw room n
unfolding writing_indexed
accepted u c i j raw room n =
    let P : Writing → Type 0 = λ w. w ≡ written n → Accepted u c i j raw room n in
    pick-by P (fits_indexed c i j raw) _ _
    (λ a. pick-by P (ondex_right c j) _ _
    (λ b. pick-by P (ltb room (c.size / 4 * u)) _ _ (λ _. unwritten 3 0 n)
    (λ r e. let q : c.size / 4 ≡ n = cc in record { fits = a; right = b; units = q; there = rw q at (ltb-false room (c.size / 4 * u) r) }))
    (λ _. unwritten 15 0 n))
    (λ _. unwritten 12 0 n)

text-join : (x y : List ℕ) → text_sextets (x ++ y) ≡ text_sextets x ++ text_sextets y
unfolding text_sextets
text-join x y = map-join sextet_of x y

-- ---- what is written, then read

record Made (u room : ℕ) (g : Given) (n : ℕ) : Type 0 where
  row-of : IndexRow
  sextets : List ℕ
  own : Own row-of n sextets
  long : length (item_of g) ≡ n * 3
  below : Below 256 (item_of g)
  same : binary_sextets (item_of g) ≡ sextets
  coded : code_of_row row-of ≡ g.code
  indexed : index_of row-of sextets ≡ g.index
  ondexed : ondex_of row-of sextets ≡ g.ondex
  value : raw_of (Indexed row-of) (index_head row-of) sextets ≡ g.raw
  there : n * u ≤ room

made_by : (u room n : ℕ) (g : Given) (name : IndexNamed) → named_index g.code ≡ name → Names g.code name
    → writing_indexed u name g.index g.ondex (length g.raw) room ≡ written n → Made u room g n
unfolding writing_indexed written_indexed indexed_bytes M.sextets
made_by u room n g none e names w = unwritten 6 0 n w
made_by u room n g (row c) e names w =
    let a = accepted u c g.index g.ondex (length g.raw) room n w in
    let q = a.units in
    let f = names.0 in
    let i = g.index in
    let j = g.ondex in
    let raw = g.raw in
    let is : item_of g ≡ M.item c f i j raw a.fits a.right g.bytes = rw e (M.item-is c f i j raw a.fits a.right g.bytes) in
    record {
      row-of = c;
      sextets = M.sextets c f i j raw a.fits a.right g.bytes;
      own = rw q at (M.made-own c f i j raw a.fits a.right g.bytes);
      long = ap length is ∙ M.item-length c f i j raw a.fits a.right g.bytes ∙ rw q;
      below = rw is (M.item-below c f i j raw a.fits a.right g.bytes);
      same = ap binary_sextets is;
      coded = names.1;
      indexed = M.index_back c f i j raw a.fits a.right g.bytes;
      ondexed = M.ondex-back c f i j raw a.fits a.right g.bytes;
      value = M.raw-back c f i j raw a.fits a.right g.bytes;
      there = a.there;
    }

module _ (u room n : ℕ) (g : Given) (w : Accepts u g room n) where
  made : Made u room g n
  made = made_by u room n g (named_index g.code) refl (index-names g.code) w

  pub room-there : n * u ≤ room
  room-there = made.there

  pub written-length : length (item_of g) ≡ n * 3
  written-length = made.long

  pub written_below : Below 256 (item_of g)
  written_below = made.below

  -- in either form the item's sextets come first
  reads : (s rest : List ℕ) → s ≡ made.sextets ++ rest → Reads s g n
  reads s rest e =
      let m = made in
      let front : take (4 * n) s ≡ m.sextets = ap (take (4 * n)) e ∙ take_at m.sextets rest (4 * n) m.own.size in
      record {
        row = m.row-of;
        head = index_head m.row-of;
        reads = ap reading_indexed e ∙ own-reads m.row-of n m.sextets rest m.own;
        code-back = m.coded;
        index_back = ap (index_of m.row-of) front ∙ m.indexed;
        ondex-back = ap (ondex_of m.row-of) front ∙ m.ondexed;
        raw-back = ap (raw_of (Indexed m.row-of) (index_head m.row-of)) front ∙ m.value;
      }

  pub binary-reads : (rest : List ℕ) → Reads (binary_sextets (item_of g ++ rest)) g n
  binary-reads rest =
      reads _ (binary_sextets rest)
      (sextets-join n (item_of g) rest written-length ∙ ap (λ (s : List ℕ). s ++ binary_sextets rest) made.same)

  pub text-reads : (rest : List ℕ) → Reads (text_sextets (to_text (item_of g) ++ rest)) g n
  text-reads rest =
      reads _ (text_sextets rest)
      (text-join (to_text (item_of g)) rest
      ∙ ap (λ (s : List ℕ). s ++ text_sextets rest) (binary-to-text-sextets (item_of g) ∙ made.same))

  -- ---- conversion

  units-few : n ≤ 40
  units-few = omega (arith, made.own.facts.small, made.own.units)

  pub text-back : to_binary (to_text (item_of g)) ≡ item_of g
  text-back = binary-back (item_of g) (omega (arith, written-length)) written_below

  pub text-converts : (for-binary : ℕ) → n * 3 ≤ for-binary
      → text_to_binary (to_text (item_of g)) for-binary ≡ Ok (binary_offset (n * 3))
  unfolding text_to_binary
  text-converts for-binary r =
      let t = to_text (item_of g) in
      let l : length t ≡ n * 4 = length-to-text (item_of g) ∙ omega (arith, written-length) in
      let q : length t / 4 ≡ n = omega arith in
      rw (
        le-ltb text.limit (length t) (omega (arith, units-few)),
        le-ltb 0 (length t % 4) (omega arith),
        le-ltb (first_stranger t) (length t) (omega (arith, no-stranger t (text-below (item_of g)))),
        q,
        le-ltb for-binary (n * 3) r,
      )

  pub binary-converts : (for-text : ℕ) → n * 4 ≤ for-text → binary_to_text (item_of g) for-text ≡ Ok (text_offset (n * 4))
  unfolding binary_to_text
  binary-converts for-text r =
      let b = item_of g in
      let l : length b ≡ n * 3 = written-length in
      let q : length b / 3 ≡ n = omega arith in
      rw (
        le-ltb binary.limit (length b) (omega (arith, units-few)),
        le-ltb 0 (length b % 3) (omega arith),
        q,
        le-ltb for-text (n * 4) r,
      )

-- ---- what is read, then written

abbrev pub Back : Kind → ℕ → ℕ → List ℕ → Type 0
Back k h n s = (c : IndexRow) × (k ≡ Indexed c) × WritesBack (code_of_row c) (index_of c s) (ondex_of c s) (raw_of k h s) n (bytes_in s)

own_back : (k : Kind) (h n : ℕ) (s : List ℕ) → Read k h n s → Back k h n s
unfolding writing_indexed written_indexed indexed_bytes write_indexed_binary write_indexed_text binary_outcome text_outcome
own_back (Fixed c) h n s r = absurd r
own_back (Variable t l m) h n s r = absurd r
own_back (Group l) h n s r = absurd r
own_back Genus h n s r = absurd r
own_back (Indexed c) h n s r =
    let o = r.1 in
    let name : named_index (code_of_row c) ≡ row c = o.facts.named in
    let n-is : c.size / 4 ≡ n = omega (arith, o.units) in
    let accepts : (u room : ℕ) → n * u ≤ room
    → writing_indexed u (named_index (code_of_row c)) (index_of c s) (ondex_of c s) (length (raw_of (Indexed c) h s)) room ≡ written n =
    λ u room l. rw (name, ← r.0, own-fits c n s o, o.ondex, n-is, le-ltb room (n * u) l) in (
      c,
      refl,
      record {
        binary-accepts = λ room l. ap binary_outcome (accepts 3 room l);
        text-accepts = λ room l. ap text_outcome (accepts 4 room l);
        bytes = rw (name, ← r.0) (written_back c n s o);
      },
    )

pub reads-written : (s : List ℕ) (k : Kind) (h n : ℕ) → reading_indexed s ≡ found k h n → Back k h n (take (4 * n) s)
reads-written s k h n e = own_back k h n (take (4 * n) s) (read-own s k h n e).0
