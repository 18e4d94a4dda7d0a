-- What the writer makes of an index, an ondex and a raw value that fit are an indexed item's own sextets. Assumes nothing.
use Rattle.std.specs.Prelude.{ℕ, ◌+◌, ◌-◌, ◌*◌, ◌/◌, ◌^◌, ◌≤◌, ◌<◌, Bool, length, get_or, drop, replicate}
use Rattle.std.proofs.Math.Path.{◌≡◌, refl, ap, sym}
use Rattle.std.proofs.Common.{◌∙◌, arith, lit<, length-drop, take-append-drop, take-add, take-take, length-take-le, get_or-drop, take_all}
use mathlib.Core.List.{List, [], ◌∷◌, ◌++◌, append_assoc}
use Rattle.std.proofs.Math.Bool.{true, false}
use Rattle.std.proofs.Math.Nat.{mod-eq_of_lt}
use Rattle.std.proofs.Math.Dec.{ltb, eqb}
use Rattle.std.proofs.Math.ListN.{take, length-append}
use Rattle.std.proofs.lemmas.List.{length-replicate}
use Rattle.std.proofs.Math.Seq.{take_at, drop_at}
use borrow.Author.Tests.{ltb-true, eqb-true}
use Rattle.base.specs.Pick.{pick}
use Rattle.base.specs.Digits.{Below, more, below-take, below-drop, below-append, number_of, digits_of, number_digits, digits-below, length_digits}
use Rattle.format.specs.declared.IndexRow.{IndexRow}
use Rattle.format.specs.declared.Kind.TheVariants.{Indexed}
use Rattle.format.specs.Registry.{index_chars, index_head}
use Rattle.format.specs.Judging.{zero_bits, ondex_right}
use Rattle.format.specs.Units.{binary_sextets}
use Rattle.format.specs.Values.{bytes_in, raw_start, raw_of, index_of, ondex_of}
use Rattle.format.specs.Indexed.{indexed_raw_size, fits_indexed, index_code, index_header, index_prefix}
use Rattle.laws.specs.Conversion.{binary-below}
use Rattle.laws.specs.Values.{binary-bytes}
use Rattle.laws.specs.Levels.{take-of-drop}
use Rattle.roundtrip_laws.specs.Bytes.{Quad, quad, quad-of, below-any, bytes-length, binary-length, bytes-in-below}
use Rattle.roundtrip_laws.specs.Prefix.{no_bits}
use Rattle.roundtrip_indexed.specs.Rows.{Spread, whole, half, Facts}
use Rattle.roundtrip_indexed.proofs.Fronts.{whole-front, half-front, four-bits}
use Rattle.roundtrip_indexed.specs.Own.{Own}
use Rattle.roundtrip_indexed.proofs.Codes.{code-length, code-low}

-- a part of a part
part_of : (m k n : ℕ) (s w : List ℕ) → m + k ≤ n → take n s ≡ w → take k (drop m s) ≡ drop m (take (m + k) w)
part_of m k n s w h e =
    take-of-drop k m s ∙ ap (drop m) (sym (take-take (m + k) n s h)) ∙ ap (λ (t : List ℕ). drop m (take (m + k) t)) e

-- the bytes up to the raw value decide the sextets up to there
full_back : (s w : List ℕ) (h m z : ℕ) → z ≡ 0 → m ≡ 4 * h → length w ≡ m → m ≤ length s → Below 64 s → Below 64 w
    → take ((6 * m + z) / 8) (bytes_in s) ≡ take ((6 * m + z) / 8) (bytes_in (w ++ replicate (4 * h - m) 0))
    → (take m s ≡ w) × (zero_bits s m z ≡ true)
full_back s w h m z ez em lw room low loww e =
    let a : (6 * m + z) / 8 ≡ 3 * h = omega arith in
    let b : 4 * h - m ≡ 0 = omega arith in
    let l : length (take m s) ≡ h * 4 = length-take-le m s room ∙ omega arith in
    let l' : length w ≡ h * 4 = lw ∙ omega arith in
    let g : take (3 * h) (bytes_in s) ≡ take (3 * h) (bytes_in (w ++ [])) = rw (a, b) at e in
    let mine : take (3 * h) (bytes_in (w ++ [])) ≡ bytes_in w = (whole-front h w w l' l' loww loww).1 refl [] in
    let q = (whole-front h (take m s) w l l' (below-take 64 m s low) loww).0 (drop m s) in
    (q (ap (λ (t : List ℕ). take (3 * h) (bytes_in t)) (take-append-drop m s) ∙ g ∙ mine), rw ez (no_bits s m low))

-- a list of two
pair_of : (t : List ℕ) → length t ≡ 2 → t ≡ get_or t 0 0 ∷ get_or t 1 0 ∷ []
pair_of [] e = absurd (omega arith)
pair_of (a ∷ []) e = absurd (omega arith)
pair_of (a ∷ b ∷ []) e = refl
pair_of (a ∷ b ∷ c ∷ r) e = absurd (omega arith)

most-back : (s w : List ℕ) (h m z : ℕ) → z ≡ 4 → m + 2 ≡ 4 * h → length w ≡ m → m + 4 ≤ length s → Below 64 s → Below 64 w
    → take ((6 * m + z) / 8) (bytes_in s) ≡ take ((6 * m + z) / 8) (bytes_in (w ++ replicate (4 * h - m) 0))
    → (take m s ≡ w) × (zero_bits s m z ≡ true)
most-back s w h m z ez em lw room low loww e =
    let k : ℕ = h - 1 in
    let a : (6 * m + z) / 8 ≡ 3 * k + 2 = omega arith in
    let b : 4 * h - m ≡ 2 = omega arith in
    let d : m ≡ k * 4 + 2 = omega arith in
    let p = take (k * 4) s in
    let t = drop (k * 4) s in
    let q = take (k * 4) w in
    let y = drop (k * 4) w in
    let ly : length y ≡ 2 = length-drop (k * 4) w ∙ omega arith in
    let yy : y ≡ get_or y 0 0 ∷ get_or y 1 0 ∷ [] = pair_of y ly in
    let wy = below-any 64 y (lit< tt) (below-drop 64 (k * 4) w loww) in
    let g : take (3 * k + 2) (bytes_in s) ≡ take (3 * k + 2) (bytes_in (w ++ (0 ∷ 0 ∷ []))) = rw (a, b) at e in
    let ws : w ++ (0 ∷ 0 ∷ []) ≡ q ++ (get_or y 0 0 ∷ get_or y 1 0 ∷ 0 ∷ 0 ∷ []) =
    ap (λ (l : List ℕ). l ++ (0 ∷ 0 ∷ [])) (sym (take-append-drop (k * 4) w)) ∙ append_assoc q y (0 ∷ 0 ∷ [])
    ∙ ap (λ (l : List ℕ). q ++ (l ++ (0 ∷ 0 ∷ []))) yy in
    let r = go k p t q (get_or y 0 0) (get_or y 1 0) (quad-of t (rw length-drop (omega arith))) (length-take-le (k * 4) s (omega arith))
    (length-take-le (k * 4) w (omega arith)) (below-take 64 (k * 4) s low) (below-take 64 (k * 4) w loww) (below-drop 64 (k * 4) s low) (wy 0) (wy 1)
    (ap (λ (l : List ℕ). take (3 * k + 2) (bytes_in l)) (take-append-drop (k * 4) s) ∙ g ∙ ap (λ (l : List ℕ). take (3 * k + 2) (bytes_in l)) ws) in
    let taken : take m s ≡ w =
    ap (λ (j : ℕ). take j s) d ∙ take-add (k * 4) 2 s ∙ r.0 ∙ ap (λ (l : List ℕ). q ++ l) (sym yy) ∙ take-append-drop (k * 4) w in
    let third : get_or s m 0 < 4 = rw (d, ← (get_or-drop (k * 4) s 2 0)) r.1 in
    (taken, rw ez ((four-bits s m low).1 third))
  where
    go : (k : ℕ) (p t q : List ℕ) (x' y' : ℕ) → Quad t → length p ≡ k * 4 → length q ≡ k * 4 → Below 64 p → Below 64 q → Below 64 t
        → x' < 64 → y' < 64
        → take (3 * k + 2) (bytes_in (p ++ t)) ≡ take (3 * k + 2) (bytes_in (q ++ (x' ∷ y' ∷ 0 ∷ 0 ∷ [])))
        → (p ++ take 2 t ≡ q ++ (x' ∷ y' ∷ [])) × (get_or t 2 0 < 4)
    go k p t q x' y' (quad {x} {y} {u} {v} {r}) lp lq bp bq (more px (more py (more pu (more pv pr)))) px' py' e =
        let w = (half-front k p q lp lq bp bq x y u v x' y' r px py pu pv pr px' py').0 e in
        (rw (w.0, w.1, w.2), w.3)

module _ (c : IndexRow) (f : Facts c) (i j : ℕ) (raw : List ℕ) (fits : fits_indexed c i j (length raw) ≡ true) (current : ondex_right c j ≡ true)
    (bytes : Below 256 raw) where
  abbrev units : ℕ
  units = c.size / 4

  abbrev start : ℕ
  start = (6 * index_chars c + c.zeros) / 8

  -- code, index and ondex
  chars : List ℕ
  chars = (index_code c ++ digits_of 64 c.index i) ++ digits_of 64 c.ondex j

  code-index : length (index_code c ++ digits_of 64 c.index i) ≡ c.chars + c.index
  code-index = length-append (index_code c) _ ∙ omega (arith, code-length c f, length_digits 64 c.index i)

  chars-length : length chars ≡ index_chars c
  unfolding chars
  chars-length = length-append (index_code c ++ digits_of 64 c.index i) _ ∙ omega (arith, code-index, length_digits 64 c.ondex j)

  chars-low : Below 64 chars
  unfolding chars
  chars-low =
      below-append 64 _ _ (below-append 64 _ _ (code-low c f) (digits-below 64 c.index i (lit< tt))) (digits-below 64 c.ondex j (lit< tt))

  abbrev rest : List ℕ
  rest = replicate (4 * index_head c - index_chars c) 0

  made-header : index_header c i j ≡ chars ++ rest
  unfolding index_header chars
  made-header = sym (append_assoc (index_code c) _ _) ∙ sym (append_assoc (index_code c ++ digits_of 64 c.index i) _ rest)

  -- what 12 asks
  fit_parts : (length raw ≡ units * 3 - start) × (i < 64 ^ c.index) × (j < 64 ^ c.ondex)
  unfolding fits_indexed indexed_raw_size raw_start
  fit_parts = by (eqb (length raw) (units * 3 - start)) (ltb i (64 ^ c.index)) refl refl fits
    where
      by : (a b : Bool) → eqb (length raw) (units * 3 - start) ≡ a → ltb i (64 ^ c.index) ≡ b
          → pick a (pick b (ltb j (64 ^ c.ondex)) false) false ≡ true
          → (length raw ≡ units * 3 - start) × (i < 64 ^ c.index) × (j < 64 ^ c.ondex)
      by true true ea eb t = (eqb-true _ _ ea, ltb-true i _ eb, ltb-true j _ t)
      by true false ea eb t = let z : ◌≡◌ {A = ℕ} 0 1 = cc in absurd (omega arith)
      by false b ea eb t = let z : ◌≡◌ {A = ℕ} 0 1 = cc in absurd (omega arith)

  -- the raw value starts within the header
  start-inside : start ≤ 3 * index_head c
  start-inside = by f.spread
    where
      by : Spread c → start ≤ 3 * index_head c
      by (whole z e) = omega arith
      by (half z e) = omega arith

  header-length : length (bytes_in (index_header c i j)) ≡ 3 * index_head c
  header-length =
      bytes-length (index_header c i j)
      ∙ omega (arith, ap length made-header ∙ length-append chars rest, chars-length, length-replicate {A = ℕ} (4 * index_head c - index_chars c) 0, inside)
    where
      inside : index_chars c ≤ 4 * index_head c
      inside = by f.spread
        where
          by : Spread c → index_chars c ≤ 4 * index_head c
          by (whole z e) = omega arith
          by (half z e) = omega arith

  unfoldable pub item : List ℕ
  item = take start (bytes_in (index_header c i j)) ++ raw

  front_length : length (take start (bytes_in (index_header c i j))) ≡ start
  front_length = length-take-le start (bytes_in (index_header c i j)) (omega (arith, header-length, start-inside))

  pub item-length : length item ≡ units * 3
  unfolding item
  item-length =
      length-append (take start (bytes_in (index_header c i j))) raw ∙ omega (arith, front_length, fit_parts.0, f.long, start-inside, f.units)

  pub item-below : Below 256 item
  unfolding item
  item-below = below-append 256 _ _ (below-take 256 start _ (bytes-in-below (index_header c i j))) bytes

  unfoldable pub sextets : List ℕ
  sextets = binary_sextets item

  sextets-length : length sextets ≡ 4 * units
  unfolding sextets
  sextets-length = binary-length item ∙ omega (arith, item-length)

  sextets-bytes : bytes_in sextets ≡ item
  unfolding sextets
  sextets-bytes = binary-bytes item (omega (arith, item-length)) item-below

  sextets-low : Below 64 sextets
  unfolding sextets
  sextets-low = binary-below item

  front_same : take start (bytes_in sextets) ≡ take start (bytes_in (chars ++ rest))
  unfolding item
  front_same =
      ap (take start) sextets-bytes ∙ take_at (take start (bytes_in (index_header c i j))) raw start front_length
      ∙ ap (λ (l : List ℕ). take start (bytes_in l)) made-header

  room-there : index_chars c + 4 ≤ length sextets
  room-there = omega (arith, f.room, f.units, sextets-length)

  decided : (take (index_chars c) sextets ≡ chars) × (zero_bits sextets (index_chars c) c.zeros ≡ true)
  decided = by f.spread
    where
      by : Spread c → (take (index_chars c) sextets ≡ chars) × (zero_bits sextets (index_chars c) c.zeros ≡ true)
      by (whole z e) =
          full_back sextets chars (index_head c) (index_chars c) c.zeros z e chars-length (omega (arith, room-there)) sextets-low chars-low front_same
      by (half z e) =
          most-back sextets chars (index_head c) (index_chars c) c.zeros z e chars-length room-there sextets-low chars-low front_same

  code-there : take c.chars sextets ≡ index_code c
  unfolding chars
  code-there =
      sym (take-take c.chars (index_chars c) sextets (omega arith)) ∙ ap (take c.chars) decided.0
      ∙ ap (take c.chars) (append_assoc (index_code c) _ _) ∙ take_at (index_code c) _ c.chars (code-length c f)

  index-there : take c.index (drop c.chars sextets) ≡ digits_of 64 c.index i
  unfolding chars
  index-there =
      part_of c.chars c.index (index_chars c) sextets chars (omega arith) decided.0
      ∙ ap (drop c.chars) (take_at (index_code c ++ digits_of 64 c.index i) _ (c.chars + c.index) code-index)
      ∙ drop_at (index_code c) _ c.chars (code-length c f)

  ondex-there : take c.ondex (drop (c.chars + c.index) sextets) ≡ digits_of 64 c.ondex j
  unfolding chars
  ondex-there =
      part_of (c.chars + c.index) c.ondex (index_chars c) sextets chars (omega arith) decided.0
      ∙ ap (drop (c.chars + c.index)) (take_all (c.chars + c.index + c.ondex) chars (omega (arith, chars-length)))
      ∙ drop_at (index_code c ++ digits_of 64 c.index i) _ (c.chars + c.index) code-index

  pub index_back : index_of c sextets ≡ i
  unfolding index_of
  index_back = ap (number_of 64) index-there ∙ number_digits 64 c.index i (lit< tt) ∙ mod-eq_of_lt fit_parts.1

  pub ondex-back : ondex_of c sextets ≡ j
  unfolding ondex_of
  ondex-back = ap (number_of 64) ondex-there ∙ number_digits 64 c.ondex j (lit< tt) ∙ mod-eq_of_lt fit_parts.2

  pub made-own : Own c units sextets
  made-own = record {
    facts = f;
    units = omega (arith, f.units);
    size = sextets-length;
    low = sextets-low;
    code = code-there;
    zeros = decided.1;
    ondex = rw ondex-back current;
  }

  pub item-is : index_prefix c i j ++ raw ≡ item
  unfolding index_prefix raw_start item
  item-is = refl

  pub raw-back : raw_of (Indexed c) (index_head c) sextets ≡ raw
  unfolding raw_of raw_start item
  raw-back = ap (drop start) sextets-bytes ∙ drop_at (take start (bytes_in (index_header c i j))) raw start front_length
