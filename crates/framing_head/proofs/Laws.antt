-- Arrays of a stream's first sextets, of either form, and cut to an item. Assumes nothing.
use mathlib.Core.Path.{◌≡◌, refl, sym, ap, ◌∙◌}
use mathlib.Core.List.{List, [], ◌∷◌, ◌++◌, map}
use Prim.Native.Nat.{ℕ, ◌+◌, ◌*◌, ◌/◌, ◌<◌, ◌≤◌}
use native.Mathlib.Omega.{arith}
use lib.ListN.{length, get_or, length-map, get_or-eq_default, take, drop, length-drop}
use Rattle.base.specs.Lists.{list4, get_or-table, same-table}
use Rattle.base.specs.Each.{each, length-each}
use Rattle.format.specs.Alphabet.{sextet_of, sextet_table}
use Rattle.format.specs.Units.{sextets_of, text_sextets, binary_sextets}
use Rattle.laws.specs.Units.{sextets-size}
use Rattle.laws.specs.Local.{text-sextet, binary-sextet}
use mathlib.Core.Logic.{⊎_elim}
use lib.Seq.{get_or-take, get_or-drop, length-take-le, ext_get_or}
use Rattle.base.specs.Cases.{lt-or-ge}
use Rattle.framing_within.proofs.Laws.{part_in, part_out}
use Rattle.framing_head.specs.Heads.{unit_of, head_of}

-- ---- arrays

pub joined : (a b c : List ℕ) → length a ≡ 4 → length b ≡ 4 → length c ≡ 4
    → get_or a 0 0 ∷ get_or a 1 0 ∷ get_or a 2 0 ∷ get_or a 3 0 ∷ get_or b 0 0 ∷ get_or b 1 0 ∷ get_or b 2 0 ∷ get_or b 3 0 ∷ get_or c 0 0 ∷ get_or c 1 0 ∷ get_or c 2 0 ∷ get_or c 3 0 ∷ []
    ≡ a ++ (b ++ c)
joined a b c p q r = sym (ap (λ (l : List ℕ). l ++ (b ++ c)) (list4 a p) ∙ ap (λ (l : List ℕ). get_or a 0 0 ∷ get_or a 1 0 ∷ get_or a 2 0 ∷ get_or a 3 0 ∷ (l ++ c)) (list4 b q)
    ∙ ap (λ (l : List ℕ). get_or a 0 0 ∷ get_or a 1 0 ∷ get_or a 2 0 ∷ get_or a 3 0 ∷ get_or b 0 0 ∷ get_or b 1 0 ∷ get_or b 2 0 ∷ get_or b 3 0 ∷ l) (list4 c r))

pub head-join : (s a b c r : List ℕ) → r ≡ a ++ (b ++ c) → a ≡ unit_of s 0 → b ≡ unit_of s 4 → c ≡ unit_of s 8 → r ≡ head_of s
unfolding head_of
head-join s a b c r e p q t = rw (e, p, q, t)

pub head-length : (s : List ℕ) → length (head_of s) ≡ 12
unfolding head_of
head-length s = refl

pub head_at : (s : List ℕ) (i : ℕ) → i < 12 → get_or (head_of s) i 0 ≡ get_or s i 0
unfolding head_of
head_at s i h = get_or-table (λ i. get_or s i 0) 12 i h

-- a part that lies in the list and in its first sextets
pub part-head : (s : List ℕ) (from n : ℕ) → from + n ≤ 12 → from + n ≤ length s → take n (drop from (head_of s)) ≡ take n (drop from s)
part-head s from n few room =
    let a : length (take n (drop from (head_of s))) ≡ n =
    length-take-le n (drop from (head_of s)) (omega (arith, length-drop from (head_of s), head-length s)) in
    let b : length (take n (drop from s)) ≡ n = length-take-le n (drop from s) (omega (arith, length-drop from s)) in
    ext_get_or 0 _ _ (a ∙ sym b) (λ i h.
    let l : i < n = omega arith in
    get_or-take n (drop from (head_of s)) i 0 l ∙ get_or-drop from (head_of s) i 0 ∙ head_at s (from + i) (omega arith)
    ∙ sym (get_or-take n (drop from s) i 0 l ∙ get_or-drop from s i 0))

-- ---- a text's sextets, by table

pub text-there : (values s : List ℕ) (i c : ℕ) → values ≡ sextet_table → i < length s → c ≡ get_or s i 0 → c < 256 → get_or values c 0 ≡ get_or (text_sextets s) i 0
unfolding sextet_table
text-there values s i c e h q b = rw (e, text-sextet s i h, ← q) (get_or-table sextet_of 256 c b)

pub text-past : (s : List ℕ) (i : ℕ) → length s ≤ i → 0 ≡ get_or (text_sextets s) i 0
unfolding text_sextets
text-past s i h = sym (get_or-eq_default (map sextet_of s) 0 {n = i} (rw (length-map s sextet_of) h))

-- ---- a binary's sextets, a unit at a time

four : {a b c d x y z w : ℕ} → a ≡ x → b ≡ y → c ≡ z → d ≡ w → a ∷ b ∷ c ∷ d ∷ [] ≡ x ∷ y ∷ z ∷ w ∷ []
four p q r s = cc

pub unit-there : (s : List ℕ) (k at : ℕ) → at ≡ 3 * k → at + 3 ≤ length s → (r : List ℕ)
    → r ≡ sextets_of (get_or s at 0 ∷ get_or s (at + 1) 0 ∷ get_or s (at + 2) 0 ∷ []) → r ≡ unit_of (binary_sextets s) (4 * k)
unfolding sextets_of
unit-there s k at e h r p =
    let z : 4 * k + 0 ≡ 4 * k = omega arith in
    let l : k < length s / 3 = omega arith in
    let b0 = rw z at (binary-sextet s k 0 l (omega arith)) in
    rw (p, e) (four (omega (arith, b0)) (omega (arith, binary-sextet s k 1 l (omega arith))) (omega (arith, binary-sextet s k 2 l (omega arith)))
    (omega (arith, binary-sextet s k 3 l (omega arith))))

past : (s : List ℕ) (i : ℕ) → 4 * (length s / 3) ≤ i → 0 ≡ get_or (binary_sextets s) i 0
unfolding binary_sextets
past s i h = sym (get_or-eq_default (each 3 sextets_of (length s / 3) s) 0 {n = i} (omega (arith, length-each 3 4 sextets_of sextets-size (length s / 3) s)))

pub unit-past : (s : List ℕ) (k : ℕ) → length s < 3 * k + 3 → 0 ∷ 0 ∷ 0 ∷ 0 ∷ [] ≡ unit_of (binary_sextets s) (4 * k)
unit-past s k h = four (past s (4 * k) (omega arith)) (past s (4 * k + 1) (omega arith)) (past s (4 * k + 2) (omega arith)) (past s (4 * k + 3) (omega arith))

-- ---- an item's first sextets

-- cutting before or after the first sextets are taken
pub within-head : (s : List ℕ) (n : ℕ) → head_of (take (4 * n) (head_of s)) ≡ head_of (take (4 * n) s)
unfolding head_of
within-head s n = same-table (λ i. get_or (take (4 * n) (head_of s)) i 0) (λ i. get_or (take (4 * n) s) i 0) 12 (λ i h.
    ⊎_elim (λ l. sym (part_in (head_of s) n i l) ∙ head_at s i h ∙ part_in s n i l) (λ g. sym (part_out (head_of s) n i g) ∙ part_out s n i g) (lt-or-ge (i / 4) n))
