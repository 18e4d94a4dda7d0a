-- A primitive's raw value: the bytes at the item's end in B, whichever form it is read from, and within the item. Assumes nothing.
use Rattle.std.specs.Prelude.{ℕ, zero, suc, ◌*◌, ◌/◌, ◌%◌, ◌≤◌, ◌<◌, ◌≡◌, refl, List, map, eqb, length, take, drop}
use Rattle.std.proofs.Common.{ap, ◌∙◌, arith, take_all, eqb-true}
use Rattle.std.proofs.lemmas.List.{length-map}
use Rattle.base.specs.Pick.{pick-by}
use Rattle.base.specs.Lists.{map-take, map-drop, part_length}
use Rattle.base.specs.Digits.{Below, below-take, below-drop}
use Rattle.base.specs.Each.{each, each_back, length-each}
use Rattle.format.specs.declared.Kind.{Kind}
use Rattle.format.specs.declared.Kind.TheVariants.{Fixed, Variable, Group, Genus, Indexed}
use Rattle.format.specs.Alphabet.{sextet_of}
use Rattle.format.specs.Registry.{is_text}
use Rattle.format.specs.Units.{bytes_of, sextets_of, triplet_of, text_sextets, binary_sextets}
use Rattle.format.specs.Conversion.{to_binary}
use Rattle.format.specs.Values.{bytes_in, raw_start, raw_of}
use Rattle.laws.specs.Units.{sextets-size, bytes-sextets}
use Rattle.laws.specs.Framing.{Shaped}

-- ---- the bytes of an item's sextets are its bytes in B

each_map : (n : ℕ) (f : List ℕ → List ℕ) (g : ℕ → ℕ) (k : ℕ) (s : List ℕ) → each n f k (map g s) ≡ each n (λ u. f (map g u)) k s
unfolding each
each_map n f g zero s = refl
each_map n f g (suc k) s = rw (each_map n f g k s, map-take g n (drop (n * k) s), map-drop g (n * k) s)

pub text-bytes : (t : List ℕ) → bytes_in (text_sextets t) ≡ to_binary t
unfolding bytes_in text_sextets to_binary triplet_of
text-bytes t = rw (length-map t sextet_of) (each_map 4 bytes_of sextet_of (length t / 4) t)

pub binary-bytes : (b : List ℕ) → length b % 3 ≡ 0 → Below 256 b → bytes_in (binary_sextets b) ≡ b
unfolding bytes_in binary_sextets
binary-bytes b w h =
    let l : length (each 3 sextets_of (length b / 3) b) / 4 ≡ length b / 3 =
    omega (arith, length-each 3 4 sextets_of sextets-size (length b / 3) b) in
    rw l
    (each_back 3 4 sextets_of bytes_of sextets-size (length b / 3) b
    (λ i p. bytes-sextets (take 3 (drop (3 * i) b)) (part_length 3 (3 * i) b (omega arith))
    (below-take 256 3 _ (below-drop 256 (3 * i) _ h)))
    ∙ take_all (3 * (length b / 3)) b (omega arith))

pub text-raw : (k : Kind) (h : ℕ) (t : List ℕ) → raw_of k h (text_sextets t) ≡ drop (raw_start k h) (to_binary t)
unfolding raw_of
text-raw k h t = ap (drop (raw_start k h)) (text-bytes t)

pub binary-raw : (k : Kind) (h : ℕ) (b : List ℕ) → length b % 3 ≡ 0 → Below 256 b → raw_of k h (binary_sextets b) ≡ drop (raw_start k h) b
unfolding raw_of
binary-raw k h b w l = ap (drop (raw_start k h)) (binary-bytes b w l)

-- ---- it starts within the item

-- 9 does not refuse it
abbrev pub Led : Kind → Type 0
Led (Fixed c) = Unit {0}
Led (Variable t l m) = 0 < l → 0 < m
Led (Group l) = Unit {0}
Led Genus = Unit {0}
Led (Indexed c) = Unit {0}

pub raw-inside : (k : Kind) (h n : ℕ) → h ≤ n → Shaped k h n → Led k → raw_start k h ≤ 3 * n
unfolding raw_start
raw-inside (Fixed c) h n le s led =
    pick-by (λ (m : ℕ). m ≤ 3 * n) (eqb c.tag 0) _ _
    (λ e. let r = s.0.raw (eqb-true c.tag 0 e) in omega (arith, r.inside, s.2))
    (λ e. omega (arith, s.2))
raw-inside (Variable t zero m) h n le s led =
    pick-by (λ (i : ℕ). i ≤ 3 * n) (is_text t) _ _ (λ _. omega (arith, s.1)) (λ _. omega (arith, s.1))
raw-inside (Variable t (suc l) m) h n le s led =
    pick-by (λ (i : ℕ). i ≤ 3 * n) (is_text t) _ _ (λ _. omega (arith, s.1)) (λ _. omega (arith, s.0, s.1, led (omega arith)))
raw-inside (Group l) h n le s led = omega arith
raw-inside Genus h n le s led = omega arith
raw-inside (Indexed c) h n le s led = omega (arith, s.0.inside, s.1)
