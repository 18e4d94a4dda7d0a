-- Variable types but `A`, small and large: own sextets are written back, and what is written are own sextets. Assumes nothing.
use Prim.Native.Nat.{ℕ, zero, suc, ◌+◌, ◌-◌, ◌*◌, ◌/◌, ◌%◌, ◌≤◌, ◌<◌}
use Rattle.std.specs.Prelude.{◌≡◌, true, false, ◌⊎◌, ltb, eqb}
use Rattle.std.proofs.Math.Path.{refl, ap, sym, subst}
use Rattle.std.proofs.Common.{◌∙◌, inl, inr, ⊎_elim, add-zero, lit<, drop-drop, get_or-drop}
use mathlib.Core.List.{List, [], ◌∷◌, ◌++◌, append_assoc}
use native.Mathlib.Omega.{arith}
use Rattle.std.proofs.Math.ListN.{length, take, drop, replicate, length-append, length-drop, take-append-drop}
use Rattle.std.proofs.lemmas.List.{length-replicate}
use Rattle.std.proofs.Math.Seq.{take_at, drop_at}
use borrow.Author.Tests.{le-leb, lt-ltb, ltb-true}
use Rattle.base.specs.Pick.{pick, pick-by}
use Rattle.base.specs.Cases.{lt-or-ge}
use Rattle.base.specs.Digits.{Below, none, more, below-append, below-drop, number_of, digits_of, digits_number, digits-below, number_digits}
use Rattle.format.specs.declared.Kind.TheVariants.{Variable}
use Rattle.format.specs.Registry.{is_type, is_text}
use Rattle.format.specs.Texts.{value_right}
use Rattle.format.specs.Units.{bytes_of, text_sextets, binary_sextets}
use Rattle.format.specs.Framing.{sextet, digits4}
use Rattle.format.specs.Judging.{is_shortest, zero_bits, has_lead}
use Rattle.format.specs.Values.{bytes_in, raw_start, raw_of, tag_of}
use Rattle.format.specs.Reading.{code_of, tags_of}
use Rattle.format.specs.Writing.{variable, raw_limit, fits_variable, lead_for, count_for}
use Rattle.format.specs.Writing.{variable_header, variable_prefix, is_named, is_fit, is_short, chars_of, chars_for, begins_right, item_bytes, units_of}
use Rattle.laws.specs.Conversion.{binary-below}
use Rattle.laws.specs.Values.{binary-bytes}
use Rattle.roundtrip_laws.specs.Bytes.{Quad, quad, quad-of, below-any, bytes-length, binary-length, bytes-front}
use Rattle.roundtrip_laws.specs.Rows.{type-low}
use Rattle.roundtrip_laws.specs.Prefix.{lead-fronts}
use Rattle.roundtrip_laws.specs.Own.{Headed, small, large, Own}
use Rattle.roundtrip_laws.specs.Words.{Writes, Made, counted-text, counted-value}

-- ---- lead bytes and count

pub has-lead : (l m : ℕ) → has_lead l m ≡ true → 0 < l → 0 < m
unfolding has_lead
has-lead l m e p = ltb-true 0 m (rw (lt-ltb 0 l p) at e)

pub lead-has : (l m : ℕ) → (0 < l → 0 < m) → has_lead l m ≡ true
unfolding has_lead
lead-has l m f = pick-by (λ b. b ≡ true) (ltb 0 l) (ltb 0 m) true (λ e. lt-ltb 0 m (f (ltb-true 0 l e))) (λ _. refl)

-- the lead and the count of a raw value that fills m units behind l lead bytes
lead_is : (l m : ℕ) → l ≤ 2 → (0 < l → 0 < m) → lead_for (3 * m - l) ≡ l
unfolding lead_for
lead_is zero m h f = omega arith
lead_is (suc zero) m h f = omega (arith, f (lit< tt))
lead_is (suc (suc zero)) m h f = omega (arith, f (lit< tt))
lead_is (suc (suc (suc l))) m h f = absurd (omega arith)

count-is : (l m : ℕ) → l ≤ 2 → (0 < l → 0 < m) → count_for (3 * m - l) ≡ m
unfolding count_for
count-is l m h f = rw (lead_is l m h f) (⊎_elim (λ z. omega arith) (λ z. omega (arith, f z)) (lt-or-ge l 1))

-- the lead and the count of any raw value
lead-few : (r : ℕ) → lead_for r ≤ 2
unfolding lead_for
lead-few r = omega arith

lead-fills : (r : ℕ) → r + lead_for r ≡ 3 * count_for r
unfolding lead_for count_for
lead-fills r = omega arith

-- ---- the header

small_bytes : (t l m : ℕ) (s : List ℕ) → Quad s → Below 64 s → sextet s 0 ≡ 56 + l → sextet s 1 ≡ t → sextet s 2 * 64 + sextet s 3 ≡ m
    → bytes_in s ≡ variable_header t 1 l m ++ bytes_in (drop 4 s)
unfolding variable_header
small_bytes t l m s (quad {x} {y} {u} {v} {r}) (more px (more py (more pu (more pv pr)))) a b d =
    let c : u ≡ m / 64 = omega arith in
    let e : v ≡ m % 64 = omega arith in
    bytes-front x y u v r ∙ rw (a, b, c, e)

-- the second unit's digits are those of its number
count-digits : (x y u v m : ℕ) → Below 64 (x ∷ y ∷ u ∷ v ∷ []) → ((x * 64 + y) * 64 + u) * 64 + v ≡ m → digits_of 64 4 m ≡ x ∷ y ∷ u ∷ v ∷ []
count-digits x y u v m low e =
    let n : m ≡ number_of 64 (x ∷ y ∷ u ∷ v ∷ []) = omega arith in
    ap (digits_of 64 4) n ∙ digits_number 64 (x ∷ y ∷ u ∷ v ∷ []) low

large-bytes : (t l m : ℕ) (s : List ℕ) → Quad s → Quad (drop 4 s) → Below 64 s → sextet s 0 ≡ 59 + l → sextet s 1 ≡ 0 → sextet s 2 ≡ 0
    → sextet s 3 ≡ t → digits4 (sextet s) ≡ m → bytes_in s ≡ variable_header t 2 l m ++ bytes_in (drop 8 s)
unfolding variable_header
large-bytes t l m s (quad {x} {y} {u} {v} {r}) q (more px (more py (more pu (more pv pr)))) a b c d g = behind r q pr g
  where
    behind : (r : List ℕ) → Quad r → Below 64 r → digits4 (sextet (x ∷ y ∷ u ∷ v ∷ r)) ≡ m
        → bytes_in (x ∷ y ∷ u ∷ v ∷ r) ≡ (bytes_of ((59 + l) ∷ 0 ∷ 0 ∷ t ∷ []) ++ bytes_of (digits_of 64 4 m)) ++ bytes_in (drop 4 r)
    behind r (quad {x = x'} {y = y'} {u = u'} {v = v'} {r = r'}) (more px' (more py' (more pu' (more pv' pr')))) g' =
        let n = count-digits x' y' u' v' m (more px' (more py' (more pu' (more pv' none)))) g' in
        bytes-front x y u v (x' ∷ y' ∷ u' ∷ v' ∷ r')
        ∙ ap (λ (w : List ℕ). bytes_of (x ∷ y ∷ u ∷ v ∷ []) ++ w) (bytes-front x' y' u' v' r')
        ∙ sym (append_assoc (bytes_of (x ∷ y ∷ u ∷ v ∷ [])) (bytes_of (x' ∷ y' ∷ u' ∷ v' ∷ [])) (bytes_in r'))
        ∙ ap (λ (w : List ℕ). (bytes_of (x ∷ y ∷ u ∷ v ∷ []) ++ bytes_of w) ++ bytes_in r') (sym n)
        ∙ rw (a, b, c, d)

pub header-bytes : (t l m h : ℕ) (s : List ℕ) → Headed t l m h (sextet s) → 4 * h ≤ length s → Below 64 s
    → bytes_in s ≡ variable_header t h l m ++ bytes_in (drop (4 * h) s)
header-bytes t l m h s (small e a b d) len low =
    let some : 4 * 1 ≤ length s = rw e at len in
    rw e (small_bytes t l m s (quad-of s (omega arith)) low a b d)
header-bytes t l m h s (large e a b c d g) len low =
    let some : 4 * 2 ≤ length s = rw e at len in
    rw e (large-bytes t l m s (quad-of s (omega arith)) (quad-of (drop 4 s) (omega (arith, length-drop 4 s))) low a b c d g)

-- ---- the value

pub bits-behind : (s : List ℕ) (i z : ℕ) → zero_bits s i z ≡ zero_bits (drop i s) 0 z
unfolding zero_bits
bits-behind s i z = rw (get_or-drop i s 0 0, get_or-drop i s 1 0, get_or-drop i s 2 0, add-zero)

module _ (t l m h n : ℕ) (s : List ℕ) (o : Own (Variable t l m) h n s) where
  pub bytes-are : bytes_in s ≡ variable_header t h l m ++ bytes_in (drop (4 * h) s)
  bytes-are = header-bytes t l m h s o.form.head (omega (arith, o.size, o.form.units)) o.low

  header-length : length (variable_header t h l m) ≡ 3 * h
  header-length =
      omega (
        arith,
        ap length bytes-are ∙ length-append (variable_header t h l m) (bytes_in (drop (4 * h) s)),
        bytes-length s,
        bytes-length (drop (4 * h) s),
        length-drop (4 * h) s,
        o.size,
        o.form.units,
      )

  pub value-is : is_text t ≡ false → raw_of (Variable t l m) h s ≡ drop l (bytes_in (drop (4 * h) s))
  unfolding raw_of raw_start
  value-is plain =
      rw plain
      (sym (drop-drop l (3 * h) (bytes_in s))
      ∙ ap (drop l) (ap (drop (3 * h)) bytes-are ∙ drop_at (variable_header t h l m) (bytes_in (drop (4 * h) s)) (3 * h) header-length))

  -- small counts have two digits; a large item is within a stream
  within-limit : n ≤ 1048576 → 3 * m - l ≤ raw_limit h
  unfolding raw_limit
  within-limit few = by o.form.head
    where
      by : Headed t l m h (sextet s) → 3 * m - l ≤ pick (eqb h 1) 12285 3145722
      by (small e a b d) =
          let w = below-any 64 s (lit< tt) o.low in
          rw e (omega (arith, w 2, w 3))
      by (large e a b c d g) = rw e (omega (arith, o.form.units))

  pub counted-writes : is_text t ≡ false → n ≤ 1048576
      → Writes (variable t h) (tag_of (Variable t l m) s) (tags_of (Variable t l m)) (raw_of (Variable t l m) h s) n s
  unfolding tag_of tags_of is_named is_fit is_short chars_of chars_for begins_right fits_variable units_of item_bytes variable_prefix text_sextets
  counted-writes plain few =
      let f = o.form in
      let led = has-lead l m f.led in
      let v : List ℕ = bytes_in (drop (4 * h) s) in
      let lv : length v ≡ 3 * m =
      omega (arith, bytes-length (drop (4 * h) s), length-drop (4 * h) s, o.size, f.units) in
      let lr : length (raw_of (Variable t l m) h s) ≡ 3 * m - l = ap length (value-is plain) ∙ length-drop l v ∙ omega arith in
      let lead : lead_for (length (raw_of (Variable t l m) h s)) ≡ l = ap lead_for lr ∙ lead_is l m f.few led in
      let count : count_for (length (raw_of (Variable t l m) h s)) ≡ m = ap count_for lr ∙ count-is l m f.few led in
      let zeros : take l v ≡ replicate l 0 =
      (lead-fronts l (drop (4 * h) s) f.few
      (λ p. quad-of (drop (4 * h) s) (omega (arith, led p, length-drop (4 * h) s, o.size, f.units)))
      (below-drop 64 (4 * h) s o.low)).1 (sym (bits-behind s (4 * h) (8 * l)) ∙ f.zeros) in
      record {
        known = refl;
        fits = le-leb _ (raw_limit h) (rw lr (within-limit few));
        shortest = rw count f.shortest;
        count = refl;
        many = refl;
        alphabet = none;
        begins = refl;
        units = rw count (sym f.units);
        bytes = rw (lead, count, value-is plain, append_assoc, ← zeros, take-append-drop l v) (sym bytes-are);
      }

-- ---- what is written

zero-bytes : (n : ℕ) → Below 256 (replicate n 0)
zero-bytes zero = none
zero-bytes (suc n) = more (lit< tt) (zero-bytes n)

module _ (t : ℕ) (raw : List ℕ) (ty : is_type t ≡ true) (plain : is_text t ≡ false) (low : Below 256 raw) where
  abbrev lead : ℕ
  lead = lead_for (length raw)

  abbrev count : ℕ
  count = count_for (length raw)

  -- the lead bytes and the raw value are whole units
  value : List ℕ
  value = replicate lead 0 ++ raw

  zeros-length : length {A = ℕ} (replicate lead 0) ≡ lead
  zeros-length = length-replicate lead 0

  value-length : length value ≡ 3 * count
  unfolding value
  value-length = length-append (replicate lead 0) raw ∙ omega (arith, zeros-length, lead-fills (length raw))

  behind : List ℕ
  behind = binary_sextets value

  behind-length : length behind ≡ 4 * count
  unfolding behind
  behind-length = omega (arith, binary-length value, value-length)

  behind-bytes : bytes_in behind ≡ value
  unfolding behind value
  behind-bytes = binary-bytes value (omega (arith, value-length)) (below-append 256 (replicate lead 0) raw (zero-bytes lead) low)

  led : 0 < lead → 0 < count
  led p = omega (arith, lead-fills (length raw))

  -- a header's sextets, and then the value's
  module _ (h : ℕ) (short : h + count ≤ 1048576) (shortest : is_shortest h count ≡ true) (front : List ℕ)
      (lf : length front ≡ 4 * h) (fl : Below 64 front) (head : Headed t lead count h (sextet (front ++ behind))) where
    parts : drop (4 * h) (front ++ behind) ≡ behind
    parts = drop_at front behind (4 * h) lf

    zeros : zero_bits (front ++ behind) (4 * h) (8 * lead) ≡ true
    unfolding behind value
    zeros =
        bits-behind (front ++ behind) (4 * h) (8 * lead) ∙ ap (λ (x : List ℕ). zero_bits x 0 (8 * lead)) parts
        ∙ (lead-fronts lead behind (lead-few (length raw)) (λ p. quad-of behind (omega (arith, led p, behind-length)))
        (binary-below value)).0
        (ap (take lead) behind-bytes ∙ take_at (replicate lead 0) raw lead zeros-length)

    own : Own (Variable t lead count) h (h + count) (front ++ behind)
    unfolding behind value_right
    own = record {
      size = length-append front behind ∙ omega (arith, behind-length);
      low = below-append 64 front behind fl (binary-below value);
      form = record {
        type = ty;
        few = lead-few (length raw);
        units = refl;
        head = head;
        shortest = shortest;
        led = lead-has lead count led;
        zeros = zeros;
        right = rw plain;
      };
    }

    made : Made (variable t h) [] 0 raw
    unfolding code_of tag_of tags_of units_of item_bytes variable_prefix value
    made = record {
      kind = Variable t lead count;
      head = h;
      size = h + count;
      sextets = front ++ behind;
      own = own;
      units = refl;
      short = short;
      code = refl;
      tagged = refl;
      count = refl;
      text = counted-text t lead count h (front ++ behind) plain;
      value = counted-value t lead count h (front ++ behind) plain
          ∙ value-is t lead count h (h + count) (front ++ behind) own plain
          ∙ ap (λ (x : List ℕ). drop lead (bytes_in x)) parts
          ∙ ap (drop lead) behind-bytes
          ∙ drop_at (replicate lead 0) raw lead zeros-length;
      bytes = append_assoc (variable_header t h lead count) (replicate lead 0) raw
          ∙ ap (λ (x : List ℕ). variable_header t h lead count ++ x) (sym (ap bytes_in parts ∙ behind-bytes))
          ∙ sym (bytes-are t lead count h (h + count) (front ++ behind) own);
    }

  small-made : length raw ≤ 12285 → Made (variable t 1) [] 0 raw
  unfolding is_shortest
  small-made l =
      let m : count ≤ 4095 = omega (arith, lead-fills (length raw), lead-few (length raw)) in
      let k : 56 + lead < 64 = omega (arith, lead-few (length raw)) in
      let a : count / 64 < 64 = omega arith in
      let b : count % 64 < 64 = omega arith in
      made 1 (omega arith) refl ((56 + lead) ∷ t ∷ (count / 64) ∷ (count % 64) ∷ []) refl (more k (more (type-low t ty) (more a (more b none))))
      (small refl refl refl (omega arith))

  large-made : length raw ≤ 3145722 → is_shortest 2 count ≡ true → Made (variable t 2) [] 0 raw
  large-made l long =
      let m : count ≤ 1048574 = omega (arith, lead-fills (length raw), lead-few (length raw)) in
      let k : 59 + lead < 64 = omega (arith, lead-few (length raw)) in
      made 2 (omega arith) long ((59 + lead) ∷ 0 ∷ 0 ∷ t ∷ digits_of 64 4 count) refl
      (more k (more (lit< tt) (more (lit< tt) (more (type-low t ty) (digits-below 64 4 count (lit< tt))))))
      (large refl refl refl refl refl (omega (arith, number_digits 64 4 count (lit< tt))))

  pub counted-made : (h : ℕ) → (h ≡ 1) ⊎ (h ≡ 2) → length raw ≤ raw_limit h → is_shortest h count ≡ true → Made (variable t h) [] 0 raw
  unfolding raw_limit
  counted-made h (inl e) l short = subst (λ (k : ℕ). Made (variable t k) [] 0 raw) (sym e) (small-made (rw e at l))
  counted-made h (inr e) l short = subst (λ (k : ℕ). Made (variable t k) [] 0 raw) (sym e) (large-made (rw e at l) (rw e at short))
