-- An indexed item's own sextets are written back. Assumes nothing.
use Rattle.std.specs.Prelude.{ℕ, ◌+◌, ◌-◌, ◌*◌, ◌/◌, ◌^◌, ◌≤◌, ◌<◌, ◌≡◌, refl, true, get_or, replicate}
use Rattle.std.proofs.Math.Path.{ap, sym}
use Rattle.std.proofs.Common.{◌∙◌, arith, lit<, get_or-drop}
use mathlib.Core.List.{List, [], ◌∷◌, ◌++◌, append_assoc}
use Rattle.std.proofs.Math.ListN.{length, take, drop, length-drop, take-append-drop}
use Rattle.std.proofs.Math.Seq.{take-add, length-take-le}
use borrow.Author.Tests.{lt-ltb, eq-eqb}
use Rattle.base.specs.Digits.{Below, more, below-take, below-drop, number_of, digits_of, digits_number, number-low}
use Rattle.format.specs.declared.IndexRow.{IndexRow}
use Rattle.format.specs.declared.Kind.TheVariants.{Indexed}
use Rattle.format.specs.Registry.{index_chars, index_head}
use Rattle.format.specs.Values.{bytes_in, raw_start, raw_of, index_of, ondex_of}
use Rattle.format.specs.Indexed.{indexed_raw_size, fits_indexed, index_code, index_header, index_prefix}
use Rattle.roundtrip_laws.specs.Bytes.{Quad, quad, quad-of, bytes-length}
use Rattle.roundtrip_indexed.specs.Rows.{Spread, whole, half, Facts}
use Rattle.roundtrip_indexed.proofs.Fronts.{whole-front, half-front, four-bits}
use Rattle.roundtrip_indexed.specs.Own.{Own}

-- the digits of a list's number are the list
digits-back : (k : ℕ) (t : List ℕ) → k ≤ length t → Below 64 t → digits_of 64 k (number_of 64 (take k t)) ≡ take k t
digits-back k t h low =
    let l : length (take k t) ≡ k = length-take-le k t h in
    ap (λ (j : ℕ). digits_of 64 j (number_of 64 (take k t))) (sym l) ∙ digits_number 64 (take k t) (below-take 64 k t low)

-- ---- written back

-- a header that the code fills, and one that it leaves two sextets of
full : (s : List ℕ) (h m z : ℕ) → z ≡ 0 → m ≡ 4 * h → m ≤ length s → Below 64 s
    → take ((6 * m + z) / 8) (bytes_in (take m s ++ replicate (4 * h - m) 0)) ≡ take ((6 * m + z) / 8) (bytes_in s)
full s h m z ez em room low =
    let a : (6 * m + z) / 8 ≡ 3 * h = omega arith in
    let b : 4 * h - m ≡ 0 = omega arith in
    let l : length (take m s) ≡ h * 4 = length-take-le m s room ∙ omega arith in
    let lows : Below 64 (take m s) = below-take 64 m s low in
    let w = whole-front h (take m s) (take m s) l l lows lows in
    rw (a, b) (w.1 refl [] ∙ sym (ap (λ (t : List ℕ). take (3 * h) (bytes_in t)) (sym (take-append-drop m s)) ∙ w.1 refl (drop m s)))

most : (s : List ℕ) (h m z : ℕ) → z ≡ 4 → m + 2 ≡ 4 * h → m + 4 ≤ length s → Below 64 s → get_or s m 0 < 4
    → take ((6 * m + z) / 8) (bytes_in (take m s ++ replicate (4 * h - m) 0)) ≡ take ((6 * m + z) / 8) (bytes_in s)
most s h m z ez em room low u =
    let k : ℕ = h - 1 in
    let a : (6 * m + z) / 8 ≡ 3 * k + 2 = omega arith in
    let b : 4 * h - m ≡ 2 = omega arith in
    let d : m ≡ k * 4 + 2 = omega arith in
    let g : k * 4 ≤ length s = omega arith in
    let q = quad-of (drop (k * 4) s) (rw length-drop (omega arith)) in
    rw (a, b, d) (go k (take (k * 4) s) (drop (k * 4) s) q (length-take-le (k * 4) s g) (below-take 64 (k * 4) s low) (below-drop 64 (k * 4) s low)
    (rw (get_or-drop (k * 4) s 2 0, ← d) u) (take-append-drop (k * 4) s) (take-add (k * 4) 2 s))
  where
    go : (k : ℕ) (p t : List ℕ) → Quad t → length p ≡ k * 4 → Below 64 p → Below 64 t → get_or t 2 0 < 4
        → p ++ t ≡ s → take (k * 4 + 2) s ≡ p ++ take 2 t
        → take (3 * k + 2) (bytes_in (take (k * 4 + 2) s ++ (0 ∷ 0 ∷ []))) ≡ take (3 * k + 2) (bytes_in s)
    go k p t (quad {x} {y} {u} {v} {r}) l lp (more px (more py (more pu (more pv pr)))) below e f =
        rw (f, append_assoc) (sym ((half-front k p p l l lp lp x y u v x y r px py pu pv pr px py).1 (refl, refl, refl, below))
        ∙ ap (λ (w : List ℕ). take (3 * k + 2) (bytes_in w)) e)

module _ (c : IndexRow) (n : ℕ) (s : List ℕ) (o : Own c n s) where
  abbrev f : Facts c
  f = o.facts

  room : index_chars c + 4 ≤ length s
  room = omega (arith, f.room, o.size, o.units)

  abbrev zeros : List ℕ
  zeros = replicate (4 * index_head c - index_chars c) 0

  -- code, index and ondex
  chars-are : take (index_chars c) s ≡ (index_code c ++ digits_of 64 c.index (index_of c s)) ++ digits_of 64 c.ondex (ondex_of c s)
  unfolding index_of ondex_of
  chars-are =
      let a : c.index ≤ length (drop c.chars s) = rw length-drop (omega (arith, room)) in
      let b : c.ondex ≤ length (drop (c.chars + c.index) s) = rw length-drop (omega (arith, room)) in
      rw (
        take-add (c.chars + c.index) c.ondex s,
        take-add c.chars c.index s,
        o.code,
        digits-back c.index (drop c.chars s) a (below-drop 64 c.chars s o.low),
        digits-back c.ondex (drop (c.chars + c.index) s) b (below-drop 64 (c.chars + c.index) s o.low),
      )

  header_is : index_header c (index_of c s) (ondex_of c s) ≡ take (index_chars c) s ++ zeros
  unfolding index_header
  header_is =
      sym (append_assoc (index_code c) _ _) ∙ sym (append_assoc (index_code c ++ digits_of 64 c.index (index_of c s)) _ zeros)
      ∙ ap (λ (l : List ℕ). l ++ zeros) (sym chars-are)

  prefix-is : index_prefix c (index_of c s) (ondex_of c s) ≡ take (raw_start (Indexed c) (index_head c)) (bytes_in s)
  unfolding index_prefix raw_start
  prefix-is = ap (λ (l : List ℕ). take ((6 * index_chars c + c.zeros) / 8) (bytes_in l)) header_is ∙ by f.spread
    where
      by : Spread c → take ((6 * index_chars c + c.zeros) / 8) (bytes_in (take (index_chars c) s ++ zeros))
          ≡ take ((6 * index_chars c + c.zeros) / 8) (bytes_in s)
      by (whole z e) = full s (index_head c) (index_chars c) c.zeros z e (omega (arith, room)) o.low
      by (half z e) =
          most s (index_head c) (index_chars c) c.zeros z e (omega (arith, room)) o.low
          ((four-bits s (index_chars c) o.low).0 (rw z at o.zeros))

  pub written_back : index_prefix c (index_of c s) (ondex_of c s) ++ raw_of (Indexed c) (index_head c) s ≡ bytes_in s
  unfolding raw_of
  written_back =
      ap (λ (l : List ℕ). l ++ drop (raw_start (Indexed c) (index_head c)) (bytes_in s)) prefix-is
      ∙ take-append-drop (raw_start (Indexed c) (index_head c)) (bytes_in s)

  pub raw-fits : length (raw_of (Indexed c) (index_head c) s) ≡ indexed_raw_size c
  unfolding raw_of indexed_raw_size
  raw-fits = length-drop (raw_start (Indexed c) (index_head c)) (bytes_in s) ∙ omega (arith, bytes-length s, o.size, o.units)

  index-fits : index_of c s < 64 ^ c.index
  unfolding index_of
  index-fits =
      let l : length (take c.index (drop c.chars s)) ≡ c.index =
      length-take-le c.index (drop c.chars s) (rw length-drop (omega (arith, room))) in
      rw l at (number-low 64 (take c.index (drop c.chars s)) (below-take 64 c.index _ (below-drop 64 c.chars s o.low)) (lit< tt))

  ondex-fits : ondex_of c s < 64 ^ c.ondex
  unfolding ondex_of
  ondex-fits =
      let l : length (take c.ondex (drop (c.chars + c.index) s)) ≡ c.ondex =
      length-take-le c.ondex (drop (c.chars + c.index) s) (rw length-drop (omega (arith, room))) in
      rw l at (number-low 64 (take c.ondex (drop (c.chars + c.index) s))
      (below-take 64 c.ondex _ (below-drop 64 (c.chars + c.index) s o.low)) (lit< tt))

  pub own-fits : fits_indexed c (index_of c s) (ondex_of c s) (length (raw_of (Indexed c) (index_head c) s)) ≡ true
  unfolding fits_indexed
  own-fits =
      rw (eq-eqb (length (raw_of (Indexed c) (index_head c) s)) _ raw-fits, lt-ltb (index_of c s) (64 ^ c.index) index-fits)
      (lt-ltb (ondex_of c s) (64 ^ c.ondex) ondex-fits)
