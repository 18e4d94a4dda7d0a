-- Text and binary are two ways to read sextets: four laws of a domain, shown for both, and what follows for any. Assumes nothing.
use Rattle.std.specs.Prelude.{ℕ, ◌+◌, ◌-◌, ◌*◌, ◌/◌, ◌≤◌, ◌<◌, ◌≡◌, refl, List, length, take, drop}
use Rattle.std.proofs.Common.{sym, ap, ◌∙◌, arith, length-drop, length-take-le}
use Rattle.std.proofs.lemmas.List.{length-map}
use Rattle.base.specs.Lists.{map-take, map-drop}
use Rattle.base.specs.Each.{each, length-each, each_take, each-drop, each-front-part}
use Rattle.format.specs.Alphabet.{sextet_of}
use Rattle.format.specs.declared.Form.{Form}
use Rattle.format.specs.declared.Form.TheVariants.{Text, Binary}
use Rattle.format.specs.Units.{Domain, domain, text, binary, text_sextets, binary_sextets, sextets_of}
use Rattle.laws.specs.Units.{sextets-size}

-- as many units of sextets as of elements, and the sextets of whole units are theirs wherever they stand
pub record Reader (d : Domain) : Type 0 where
  pub pos : 0 < d.unit
  pub units : (xs : List ℕ) → length (d.sextets xs) / 4 ≡ length xs / d.unit
  pub taken : (xs : List ℕ) (k : ℕ) → k * d.unit ≤ length xs → d.sextets (take (k * d.unit) xs) ≡ take (k * 4) (d.sextets xs)
  pub dropped : (xs : List ℕ) (k : ℕ) → k * d.unit ≤ length xs → d.sextets (drop (k * d.unit) xs) ≡ drop (k * 4) (d.sextets xs)

-- ---- text

pub text-reader : Reader text
unfolding text_sextets
text-reader = record {
  pos = omega arith;
  units = λ xs. rw (length-map xs sextet_of);
  taken = λ xs k h. map-take sextet_of (k * 4) xs;
  dropped = λ xs k h. map-drop sextet_of (k * 4) xs;
}

-- ---- binary

binary-taken : (xs : List ℕ) (k : ℕ) → k * 3 ≤ length xs → binary_sextets (take (k * 3) xs) ≡ take (k * 4) (binary_sextets xs)
unfolding binary_sextets
binary-taken xs k h =
    let l : length (take (k * 3) xs) / 3 ≡ k = omega (arith, length-take-le (k * 3) xs h) in
    let e : k * 3 ≡ 3 * k = omega arith in
    let e4 : k * 4 ≡ 4 * k = omega arith in
    let s : length xs / 3 ≡ k + (length xs / 3 - k) = omega arith in
    rw (l, e, e4, s, each_take 3 4 sextets_of sextets-size k (length xs / 3 - k) xs) (each-front-part 3 sextets_of k xs (omega arith))

binary-dropped : (xs : List ℕ) (k : ℕ) → k * 3 ≤ length xs → binary_sextets (drop (k * 3) xs) ≡ drop (k * 4) (binary_sextets xs)
unfolding binary_sextets
binary-dropped xs k h =
    let l : length (drop (k * 3) xs) / 3 ≡ length xs / 3 - k = omega (arith, length-drop (k * 3) xs) in
    let e : k * 3 ≡ 3 * k = omega arith in
    let e4 : k * 4 ≡ 4 * k = omega arith in
    let s : length xs / 3 ≡ k + (length xs / 3 - k) = omega arith in
    rw (l, e, e4)
    (sym (each-drop 3 4 sextets_of sextets-size k (length xs / 3 - k) xs) ∙ ap (λ (j : ℕ). drop (4 * k) (each 3 sextets_of j xs)) (sym s))

pub binary-reader : Reader binary
unfolding binary_sextets
binary-reader = record {
  pos = omega arith;
  units = λ xs. omega (arith, length-each 3 4 sextets_of sextets-size (length xs / 3) xs);
  taken = binary-taken;
  dropped = binary-dropped;
}

-- ---- sextets themselves, as within a group

abbrev pub plain : Domain
plain = record { unit = 4; limit = 0; sextets = λ s. s }

pub plain-reader : Reader plain
plain-reader = record { pos = omega arith; units = λ s. refl; taken = λ s k h. refl; dropped = λ s k h. refl }

-- ---- either form

pub reader : (f : Form) → Reader (domain f)
reader Text = text-reader
reader Binary = binary-reader
