-- Fixed codes with a raw value: own sextets are written back, and what is written are own sextets. Assumes nothing.
use Prim.Native.Nat.{ℕ, ◌-◌, ◌*◌, ◌≤◌, ◌<◌}
use Rattle.std.specs.Prelude.{◌≡◌, refl, true}
use Rattle.std.proofs.Math.Path.{ap, sym}
use Rattle.std.proofs.Common.{◌∙◌, arith, lit<, eq-eqb}
use mathlib.Core.List.{List, [], ◌++◌}
use Rattle.std.proofs.Math.ListN.{length, take, drop, length-append, length-drop, take-append-drop}
use Rattle.std.proofs.Math.Seq.{take_at, drop_at}
use Rattle.base.specs.Digits.{Below, none, below-append, length_digits, digits-below}
use Rattle.format.specs.declared.CodeRow.{CodeRow}
use Rattle.format.specs.declared.Kind.TheVariants.{Fixed}
use Rattle.format.specs.Units.{text_sextets, binary_sextets}
use Rattle.format.specs.Judging.{prepad_right}
use Rattle.format.specs.Values.{bytes_in, raw_start, raw_of, tag_of}
use Rattle.format.specs.Reading.{code_of, tags_of}
use Rattle.format.specs.Writing.{row, raw_size, fits_row, raw_prefix, row_prefix, is_named, is_fit, is_short, chars_of, chars_for, begins_right, item_bytes, units_of}
use Rattle.laws.specs.Conversion.{binary-below}
use Rattle.laws.specs.Values.{binary-bytes, raw-inside}
use Rattle.roundtrip_laws.specs.Bytes.{quad-of, no_length, bytes-length, binary-length}
use Rattle.roundtrip_laws.specs.Rows.{Row}
use Rattle.roundtrip_laws.specs.Prefix.{code-fronts}
use Rattle.roundtrip_laws.specs.Own.{Own}
use Rattle.roundtrip_laws.specs.Words.{Writes, Made, fixed-text, fixed-value}

module _ (c : CodeRow) (n : ℕ) (r : Row c n) (t : c.tag ≡ 0) where
  some : 0 < n
  some = omega (arith, r.units, r.sound.some)

  -- the raw value starts within the item, and a prefix is as long as what stands before it
  inside : raw_start (Fixed c) 1 ≤ 3 * n
  inside = raw-inside (Fixed c) 1 n some (r.sound, refl, r.units) tt

  prefix-length : length (raw_prefix c) ≡ raw_start (Fixed c) 1
  unfolding raw_prefix
  prefix-length = length_digits 256 (raw_start (Fixed c) 1) _

  prefix-is : (tag : List ℕ) → row_prefix c tag ≡ raw_prefix c
  unfolding row_prefix
  prefix-is tag = rw (eq-eqb c.tag 0 t)

  size_is : raw_size c ≡ 3 * n - raw_start (Fixed c) 1
  unfolding raw_size
  size_is = omega (arith, r.units)

  no-tag : (s : List ℕ) → tag_of (Fixed c) s ≡ []
  unfolding tag_of
  no-tag s = rw t

  fits : (raw : List ℕ) → length raw ≡ 3 * n - raw_start (Fixed c) 1 → is_fit (row c) c.tag (length raw) ≡ true
  unfolding is_fit fits_row
  fits raw e = rw (eq-eqb c.tag c.tag refl) (eq-eqb (length raw) (raw_size c) (e ∙ sym size_is))

  pub raw-writes : (h : ℕ) (s : List ℕ) → Own (Fixed c) h n s
      → Writes (row c) (tag_of (Fixed c) s) (tags_of (Fixed c)) (raw_of (Fixed c) h s) n s
  unfolding tags_of raw_of raw_start is_named is_short chars_of chars_for begins_right units_of item_bytes text_sextets
  raw-writes h s o =
      let f = o.form in
      let e = o.size in
      let m = raw_start (Fixed c) 1 in
      let q = quad-of s (omega arith) in
      let p : take m (bytes_in s) ≡ raw_prefix c = (code-fronts c s t (r.spreads t) r.lettered q o.low).1 (f.code, f.zeros) in
      let l : length (drop m (bytes_in s)) ≡ 3 * n - m = omega (arith, length-drop m (bytes_in s), bytes-length s) in
      record {
        known = refl;
        fits = fits (drop m (bytes_in s)) l;
        shortest = refl;
        count = rw (no-tag s, t);
        many = rw (no-tag s, t);
        alphabet = rw (no-tag s) none;
        begins = refl;
        units = omega (arith, r.units);
        bytes = ap (λ (x : List ℕ). x ++ drop m (bytes_in s)) (prefix-is (tag_of (Fixed c) s) ∙ sym p) ∙ take-append-drop m (bytes_in s);
      }

  pub raw-made : (tag raw : List ℕ) (tags : ℕ) → tags ≡ c.tag → length raw ≡ raw_size c → length tag ≡ tags → Below 256 raw
      → Made (row c) tag tags raw
  unfolding code_of tags_of raw_of raw_start units_of item_bytes raw_prefix prepad_right
  raw-made tag raw tags et er el low =
      let b : List ℕ = raw_prefix c ++ raw in
      let s : List ℕ = binary_sextets b in
      let m = raw_start (Fixed c) 1 in
      let lb : length b ≡ 3 * n = length-append (raw_prefix c) raw ∙ omega (arith, prefix-length, size_is, inside) in
      let bytes : bytes_in s ≡ b =
      binary-bytes b (omega arith) (below-append 256 (raw_prefix c) raw (digits-below 256 m _ (lit< tt)) low) in
      let ls : length s ≡ 4 * n = omega (arith, binary-length b) in
      let g = (code-fronts c s t (r.spreads t) r.lettered (quad-of s (omega (arith, some))) (binary-below b)).0
      (ap (take m) bytes ∙ take_at (raw_prefix c) raw m prefix-length) in
      record {
        kind = Fixed c;
        head = 1;
        sextets = s;
        size = n;
        own = record {
          size = ls;
          low = binary-below b;
          form = record { head = refl; row = r; code = g.0; zeros = g.1; prepad = rw (eq-eqb c.tag 0 t) };
        };
        units = omega (arith, r.units);
        short = omega (arith, r.units, r.sound.small);
        code = refl;
        tagged = no-tag s ∙ sym (no_length tag (el ∙ et ∙ t));
        count = sym et;
        text = fixed-text c 1 s;
        value = fixed-value c 1 s ∙ ap (drop m) bytes ∙ drop_at (raw_prefix c) raw m prefix-length;
        bytes = ap (λ (x : List ℕ). x ++ raw) (prefix-is tag) ∙ sym bytes;
      }
