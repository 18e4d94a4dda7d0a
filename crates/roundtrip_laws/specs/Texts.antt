-- Type `A`: own sextets are written back, and what is written are own sextets. Assumes nothing.
use Prim.Native.Nat.{ℕ, zero, suc, ◌+◌, ◌-◌, ◌*◌, ◌/◌, ◌%◌, ◌≤◌, ◌<◌}
use Rattle.std.specs.Prelude.{◌≡◌, Bool, false, not, ◌⊎◌, eqb}
use Rattle.std.proofs.Math.Path.{refl, ap, sym, subst}
use Rattle.std.proofs.Common.{◌∙◌, inl, inr, lit<}
use mathlib.Core.List.{List, [], ◌∷◌, ◌++◌, map}
use Rattle.std.proofs.Math.Bool.{true}
use native.Mathlib.Omega.{arith}
use Rattle.std.proofs.Math.ListN.{length, drop, replicate, length-append, length-drop, length-map, length-replicate}
use Rattle.std.proofs.Math.Seq.{drop_at}
use borrow.Author.Tests.{le-leb, eqb-true, eq-eqb}
use Rattle.base.specs.Pick.{pick, pick-by}
use Rattle.base.specs.Cases.{whether}
use Rattle.base.specs.Digits.{Below, none, more, below-append, below-drop, digits_of, digits-below, number_digits, map_back}
use Rattle.format.specs.declared.Kind.TheVariants.{Variable}
use Rattle.format.specs.Alphabet.{sextet_of, char_of}
use Rattle.format.specs.Registry.{is_type, is_text}
use Rattle.format.specs.Units.{text_sextets}
use Rattle.format.specs.Framing.{sextet}
use Rattle.format.specs.Texts.{fills, fill_of, text_right, value_right, text_of, fill_for, text_lead, text_count}
use Rattle.format.specs.Judging.{is_shortest, zero_bits}
use Rattle.format.specs.Values.{bytes_in, raw_start, raw_of, text_in, value_of, tag_of}
use Rattle.format.specs.Reading.{code_of, tags_of}
use Rattle.format.specs.Writing.{textual, text_limit, fits_text, variable_header, filled, text_bytes}
use Rattle.format.specs.Writing.{is_named, is_fit, is_short, chars_of, chars_for, begins_right, item_bytes, units_of}
use Rattle.laws.specs.Alphabet.{sextet-char}
use Rattle.laws.specs.Units.{chars-back}
use Rattle.roundtrip_laws.specs.Bytes.{Quad, quad, quad-of, below-any, no_length, bytes-length}
use Rattle.roundtrip_laws.specs.Prefix.{no_bits}
use Rattle.roundtrip_laws.specs.Own.{Headed, small, large, Own}
use Rattle.roundtrip_laws.specs.Words.{Writes, Made}
use Rattle.roundtrip_laws.specs.Counts.{lead-has, bits-behind, bytes-are}

-- ---- fill

pub fills-front : (f : ℕ) (v : List ℕ) → fills f v ≡ true → replicate f 0 ++ drop f v ≡ v
unfolding fills
fills-front zero v e = refl
fills-front (suc f) [] e = let z : ◌≡◌ {A = ℕ} 0 1 = cc in absurd (omega arith)
fills-front (suc f) (x ∷ v) e =
    pick-by (λ (b : Bool). b ≡ true → replicate (suc f) 0 ++ drop f v ≡ x ∷ v) (eqb x 0) (fills f v) false
    (λ t g. rw (eqb-true x 0 t, fills-front f v g)) (λ _ g. let z : ◌≡◌ {A = ℕ} 0 1 = cc in absurd (omega arith)) e

pub front-fills : (f : ℕ) (v : List ℕ) → fills f (replicate f 0 ++ v) ≡ true
unfolding fills
front-fills zero v = refl
front-fills (suc f) v = front-fills f v

fills-long : (f : ℕ) (v : List ℕ) → fills f v ≡ true → f ≤ length v
unfolding fills
fills-long zero v e = omega arith
fills-long (suc f) [] e = let z : ◌≡◌ {A = ℕ} 0 1 = cc in absurd (omega arith)
fills-long (suc f) (x ∷ v) e =
    pick-by (λ (b : Bool). b ≡ true → suc f ≤ suc (length v)) (eqb x 0) (fills f v) false
    (λ t g. omega (arith, fills-long f v g)) (λ _ g. let z : ◌≡◌ {A = ℕ} 0 1 = cc in absurd (omega arith)) e

-- what 16 does not refuse: the fill is there, and no `A` behind it
right : (l : ℕ) (v : List ℕ) → text_right l v ≡ true → (fills (fill_of l v) v ≡ true) × (fills 1 (drop (fill_of l v) v) ≡ false)
unfolding text_right
right l v = by (fills (fill_of l v) v) (fills 1 (drop (fill_of l v) v))
  where
    by : (a b : Bool) → pick a (not b) false ≡ true → (a ≡ true) × (b ≡ false)
    by true true e = let z : ◌≡◌ {A = ℕ} 0 1 = cc in absurd (omega arith)
    by true false e = (refl, refl)
    by false b e = let z : ◌≡◌ {A = ℕ} 0 1 = cc in absurd (omega arith)

-- how much is taken off a value of m units with l lead bytes: as much as a text of what is left is filled with
record Fill (l m f : ℕ) : Type 0 where
  few : f ≤ 3
  fit : f ≤ 4 * m
  same : fill_for (4 * m - f) ≡ f
  lead : text_lead (4 * m - f) ≡ l
  count : text_count (4 * m - f) ≡ m

fill-by : (l m f : ℕ) → f ≤ 3 → f ≤ 4 * m → l ≡ f - 1 → Fill l m f
unfolding fill_for text_lead text_count
fill-by l m f a b e =
    let s : (4 - (4 * m - f) % 4) % 4 ≡ f = omega arith in
    record { few = a; fit = b; same = s; lead = omega arith; count = omega arith }

fill_is : (l m : ℕ) (v : List ℕ) → l ≤ 2 → length v ≡ 4 * m → fills (fill_of l v) v ≡ true → Fill l m (fill_of l v)
unfolding fill_of
fill_is zero m v h e t = by (whether (fills 1 v))
  where
    by : (fills 1 v ≡ true) ⊎ (fills 1 v ≡ false) → Fill 0 m (pick (fills 1 v) 1 0)
    by (inl a) = rw a (fill-by 0 m 1 (omega arith) (omega (arith, fills-long 1 v a)) refl)
    by (inr a) = rw a (fill-by 0 m 0 (omega arith) (omega arith) refl)
fill_is (suc zero) m v h e t = fill-by 1 m 2 (omega arith) (omega (arith, fills-long 2 v t)) refl
fill_is (suc (suc zero)) m v h e t = fill-by 2 m 3 (omega arith) (omega (arith, fills-long 3 v t)) refl
fill_is (suc (suc (suc l))) m v h e t = absurd (omega arith)

-- ---- own sextets

module _ (t l m h n : ℕ) (s : List ℕ) (o : Own (Variable t l m) h n s) (txt : is_text t ≡ true) where
  is_zero : t ≡ 0
  unfolding is_text
  is_zero = eqb-true t 0 txt

  abbrev pub behind : List ℕ
  behind = drop (4 * h) s

  behind-length : length behind ≡ 4 * m
  behind-length = omega (arith, length-drop (4 * h) s, o.size, o.form.units)

  behind-low : Below 64 behind
  behind-low = below-drop 64 (4 * h) s o.low

  unfilled : (fills (fill_of l behind) behind ≡ true) × (fills 1 (drop (fill_of l behind) behind) ≡ false)
  unfolding value_right
  unfilled = right l (drop (4 * h) s) (rw txt at o.form.right)

  fill : Fill l m (fill_of l behind)
  fill = fill_is l m behind o.form.few behind-length unfilled.0

  abbrev pub text : List ℕ
  text = text_of l behind

  text-sextets : map sextet_of text ≡ drop (fill_of l behind) behind
  unfolding text_of
  text-sextets = map_back sextet_of char_of 64 sextet-char _ (below-drop 64 (fill_of l behind) behind behind-low)

  text-length : length text ≡ 4 * m - fill_of l behind
  unfolding text_of
  text-length = length-map (drop (fill_of l behind) behind) char_of ∙ length-drop (fill_of l behind) behind ∙ omega (arith, behind-length)

  pub text-value : value_of (Variable t l m) h s ≡ text
  unfolding value_of raw_of raw_start text_in
  text-value =
      let e : drop (3 * (h + m)) (bytes_in s) ≡ [] =
      no_length _ (length-drop (3 * (h + m)) (bytes_in s) ∙ omega (arith, bytes-length s, o.size, o.form.units)) in
      rw (txt, e)

  filled_is : filled text ≡ behind
  unfolding filled
  filled_is = rw (text-length, fill.same, text-sextets) (fills-front (fill_of l behind) behind unfilled.0)

  -- small counts have two digits; a large item is within a stream
  within-limit : n ≤ 1048576 → 4 * m ≤ text_limit h
  unfolding text_limit
  within-limit few = by o.form.head
    where
      by : Headed t l m h (sextet s) → 4 * m ≤ pick (eqb h 1) 16380 4194296
      by (small e a b d) =
          let w = below-any 64 s (lit< tt) o.low in
          rw e (omega (arith, w 2, w 3))
      by (large e a b c d g) = rw e (omega (arith, o.form.units))

  pub text-writes : n ≤ 1048576 → Writes (textual h) (tag_of (Variable t l m) s) (tags_of (Variable t l m)) (value_of (Variable t l m) h s) n s
  unfolding tag_of tags_of is_named is_fit is_short chars_of chars_for begins_right fits_text units_of item_bytes text_bytes text_sextets
  text-writes few =
      let len = text-length in
      let f = fill in
      let sizes : length text + fill_for (length text) ≡ 4 * m = omega (arith, len, f.fit, ap fill_for len ∙ f.same) in
      let count : text_count (length text) ≡ m = ap text_count len ∙ f.count in
      let lead : text_lead (length text) ≡ l = ap text_lead len ∙ f.lead in
      rw text-value
      (record {
        known = refl;
        fits = le-leb _ (text_limit h) (rw sizes (within-limit few));
        shortest = rw count o.form.shortest;
        count = refl;
        many = refl;
        alphabet = rw text-sextets (below-drop 64 (fill_of l behind) behind behind-low);
        begins = rw (text-sextets, unfilled.1);
        units = rw count (sym o.form.units);
        bytes = rw (lead, count, filled_is) (rw is_zero at (sym (bytes-are t l m h n s o)));
      })

-- ---- what is written

-- two `A` cover a lead byte, and three cover two
two : (a r : List ℕ) → Quad a → Below 64 a → a ≡ 0 ∷ 0 ∷ r → zero_bits a 0 8 ≡ true
unfolding zero_bits
two a r (quad {x} {y} {u} {v} {r = q}) (more px (more py (more pu (more pw pr)))) e =
    let ex : x ≡ 0 = cc in
    let ey : y ≡ 0 = cc in
    eq-eqb (((x * 64 + y) * 64 + u) / 1024) 0 (omega arith)

three : (a r : List ℕ) → Quad a → Below 64 a → a ≡ 0 ∷ 0 ∷ 0 ∷ r → zero_bits a 0 16 ≡ true
unfolding zero_bits
three a r (quad {x} {y} {u} {v} {r = q}) (more px (more py (more pu (more pw pr)))) e =
    let ex : x ≡ 0 = cc in
    let ey : y ≡ 0 = cc in
    let eu : u ≡ 0 = cc in
    eq-eqb (((x * 64 + y) * 64 + u) / 4) 0 (omega arith)

module _ (text : List ℕ) (low : Below 64 (text_sextets text)) (starts : fills 1 (text_sextets text) ≡ false) where
  abbrev many : ℕ
  many = fill_for (length text)

  abbrev lead : ℕ
  lead = text_lead (length text)

  abbrev count : ℕ
  count = text_count (length text)

  many-few : many ≤ 3
  unfolding fill_for
  many-few = omega arith

  sizes : length text + many ≡ 4 * count
  unfolding text_count fill_for
  sizes = omega arith

  lead-few : lead ≤ 2
  unfolding text_lead
  lead-few = omega (arith, many-few)

  led : 0 < lead → 0 < count
  unfolding text_lead
  led p = omega (arith, sizes)

  zero-sextets : (k : ℕ) → Below 64 (replicate k 0)
  zero-sextets zero = none
  zero-sextets (suc k) = more (lit< tt) (zero-sextets k)

  value : List ℕ
  value = filled text

  value_low : Below 64 value
  unfolding value filled text_sextets
  value_low = below-append 64 _ _ (zero-sextets many) low

  value-length : length value ≡ 4 * count
  unfolding value filled
  value-length =
      length-append (replicate many 0) (map sextet_of text)
      ∙ omega (arith, length-replicate {A = ℕ} many 0, length-map text sextet_of, sizes)

  value-behind : drop many value ≡ text_sextets text
  unfolding value filled text_sextets
  value-behind = drop_at (replicate many 0) (map sextet_of text) many (length-replicate many 0)

  value-fills : fills many value ≡ true
  unfolding value filled
  value-fills = front-fills many (map sextet_of text)

  -- as much is taken off as was put in front
  fill-back : fill_of lead value ≡ many
  unfolding fill_of text_lead
  fill-back = by many refl
    where
      by : (f : ℕ) → many ≡ f → pick (eqb (many - 1) 0) (pick (fills 1 value) 1 0) (many - 1 + 1) ≡ many
      by zero e =
          let v : value ≡ text_sextets text = ap (λ (k : ℕ). drop k value) (sym e) ∙ value-behind in
          rw (e, v, starts)
      by (suc zero) e = let g = rw e at value-fills in rw (e, g)
      by (suc (suc zero)) e = rw e
      by (suc (suc (suc zero))) e = rw e
      by (suc (suc (suc (suc f)))) e = absurd (omega (arith, many-few))

  value-right : text_right lead value ≡ true
  unfolding text_right
  value-right = rw (fill-back, value-fills, value-behind, starts)

  -- the lead bytes lie within the fill
  value-zeros : zero_bits value 0 (8 * lead) ≡ true
  unfolding text_lead
  value-zeros = by many refl value-length (sym (fills-front many value value-fills))
    where
      by : (f : ℕ) → many ≡ f → length value ≡ 4 * count → value ≡ replicate many 0 ++ drop many value → zero_bits value 0 (8 * (many - 1)) ≡ true
      by zero e l q = rw e (no_bits value 0 value_low)
      by (suc zero) e l q = rw e (no_bits value 0 value_low)
      by (suc (suc zero)) e l q = rw e (two value (drop 2 value) (quad-of value (omega (arith, sizes))) value_low (rw e at q))
      by (suc (suc (suc zero))) e l q = rw e (three value (drop 3 value) (quad-of value (omega (arith, sizes))) value_low (rw e at q))
      by (suc (suc (suc (suc f)))) e l q = absurd (omega (arith, many-few))

  -- a header's sextets, and then the value's
  module _ (h : ℕ) (short : h + count ≤ 1048576) (shortest : is_shortest h count ≡ true) (front : List ℕ) (lf : length front ≡ 4 * h)
      (fl : Below 64 front) (head : Headed 0 lead count h (sextet (front ++ value))) where
    parts : drop (4 * h) (front ++ value) ≡ value
    parts = drop_at front value (4 * h) lf

    own : Own (Variable 0 lead count) h (h + count) (front ++ value)
    unfolding is_type value_right is_text
    own = record {
      size = length-append front value ∙ omega (arith, value-length);
      low = below-append 64 front value fl value_low;
      form = record {
        type = refl;
        few = lead-few;
        units = refl;
        head = head;
        shortest = shortest;
        led = lead-has lead count led;
        zeros = bits-behind (front ++ value) (4 * h) (8 * lead) ∙ ap (λ (x : List ℕ). zero_bits x 0 (8 * lead)) parts ∙ value-zeros;
        right = rw (parts, value-right);
      };
    }

    text-back : text_of lead value ≡ text
    unfolding text_of text_sextets
    text-back = rw (fill-back, value-behind) (chars-back text low)

    made : Made (textual h) [] 0 text
    unfolding code_of text_in tag_of tags_of units_of item_bytes text_bytes is_text value
    made = record {
      kind = Variable 0 lead count;
      head = h;
      size = h + count;
      sextets = front ++ value;
      own = own;
      units = refl;
      short = short;
      code = refl;
      tagged = refl;
      count = refl;
      text = text-is;
      value = text-value 0 lead count h (h + count) (front ++ value) own refl ∙ text-is;
      bytes = ap (λ (x : List ℕ). variable_header 0 h lead count ++ bytes_in x) (sym parts)
          ∙ sym (bytes-are 0 lead count h (h + count) (front ++ value) own);
    }
      where
        text-is : text_of lead (drop (4 * h) (front ++ value)) ≡ text
        text-is = ap (text_of lead) parts ∙ text-back

  small-made : length text + many ≤ 16380 → Made (textual 1) [] 0 text
  unfolding is_shortest
  small-made l =
      let m : count ≤ 4095 = omega (arith, sizes) in
      let k : 56 + lead < 64 = omega (arith, lead-few) in
      let a : count / 64 < 64 = omega arith in
      let b : count % 64 < 64 = omega arith in
      made 1 (omega arith) refl ((56 + lead) ∷ 0 ∷ (count / 64) ∷ (count % 64) ∷ []) refl (more k (more (lit< tt) (more a (more b none))))
      (small refl refl refl (omega arith))

  large-made : length text + many ≤ 4194296 → is_shortest 2 count ≡ true → Made (textual 2) [] 0 text
  large-made l long =
      let m : count ≤ 1048574 = omega (arith, sizes) in
      let k : 59 + lead < 64 = omega (arith, lead-few) in
      made 2 (omega arith) long ((59 + lead) ∷ 0 ∷ 0 ∷ 0 ∷ digits_of 64 4 count) refl
      (more k (more (lit< tt) (more (lit< tt) (more (lit< tt) (digits-below 64 4 count (lit< tt))))))
      (large refl refl refl refl refl (omega (arith, number_digits 64 4 count (lit< tt))))

  pub text-made : (h : ℕ) → (h ≡ 1) ⊎ (h ≡ 2) → length text + many ≤ text_limit h → is_shortest h count ≡ true → Made (textual h) [] 0 text
  unfolding text_limit
  text-made h (inl e) l short = subst (λ (k : ℕ). Made (textual k) [] 0 text) (sym e) (small-made (rw e at l))
  text-made h (inr e) l short = subst (λ (k : ℕ). Made (textual k) [] 0 text) (sym e) (large-made (rw e at l) (rw e at short))
