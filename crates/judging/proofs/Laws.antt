-- The code's checks are format's: the first sextets are all that 8, 9, 10, 15 and 16 look at. Assumes nothing.
use mathlib.Core.Path.{◌≡◌, refl, ap, ◌∙◌}
use mathlib.Core.List.{List}
use Prim.Native.Nat.{ℕ, zero, suc, ◌+◌, ◌-◌, ◌*◌, ◌/◌, ◌<◌, ◌≤◌}
use native.Mathlib.Omega.{arith}
use lib.ListN.{length, take, drop, length-drop, length-map}
use lib.Seq.{take_all, length-take-le}
use Rattle.base.specs.Lists.{map-take}
use Rattle.base.specs.Digits.{number_of, below-drop}
use Rattle.format.specs.declared.IndexRow.{IndexRow}
use Rattle.format.specs.declared.Kind.{Kind}
use Rattle.format.specs.declared.Kind.TheVariants.{Fixed, Variable, Group, Genus, Indexed}
use Rattle.format.specs.declared.Verdict.{Verdict}
use Rattle.format.specs.declared.Verdict.TheVariants.{Accepted}
use Rattle.format.specs.Alphabet.{sextet_of}
use Rattle.format.specs.Units.{text_sextets, binary_sextets}
use Rattle.format.specs.Registry.{zero_bits_of, prepad_of, index_chars, index_head}
use Rattle.format.specs.Values.{ondex_of}
use Rattle.format.specs.Judging.{shift, and_then, unless, is_shortest, behind, zero_bits, prepad_right, judge_kind, own_check}
use Rattle.laws.specs.Framing.{Shaped}
use Rattle.laws.specs.Domains.{binary-reader}
use Rattle.laws.specs.Scan.{scan-below}
use Rattle.laws.specs.Conversion.{binary-below}
use Rattle.framing_head.specs.Heads.{head_of}
use Rattle.framing_head.proofs.Laws.{head_at, part-head, within-head}
use Rattle.judging_header.specs.Checks.{group_checks}
use Rattle.judging_fixed.specs.Checks.{fixed_checks}
use Rattle.judging_variable.specs.Checks.{variable_checks}
use Rattle.judging_indexed.specs.Checks.{indexed_checks}
use Rattle.judging.specs.Own.{own_by}
use Rattle.judging.proofs.Texts.{nine-first, value_tells}

-- a part that is lent to the end
pub to_end : (s : List ℕ) (from : ℕ) → take (length s - from) (drop from s) ≡ drop from s
to_end s from = take_all (length s - from) (drop from s) (omega (arith, length-drop from s))

-- ---- 5 or 19

pub behind-binary : (b : List ℕ) (h : ℕ) → behind h (binary_sextets b) ≡ Accepted
unfolding behind shift
behind-binary b h = rw (scan-below (drop (4 * h) (binary_sextets b)) (below-drop 64 (4 * h) (binary_sextets b) (binary-below b)))

-- ---- 8, 9, 10

zero-head : (s : List ℕ) (i z : ℕ) → i + 2 < 12 → zero_bits (head_of s) i z ≡ zero_bits s i z
unfolding zero_bits
zero-head s i z h = rw (head_at s i (omega arith), head_at s (i + 1) (omega arith), head_at s (i + 2) h)

prepad-head : (s : List ℕ) (i p : ℕ) → i < 12 → prepad_right (head_of s) i p ≡ prepad_right s i p
unfolding prepad_right
prepad-head s i p h = rw (head_at s i h)

-- ---- 15

-- digits that stand in a header of two units at most
ondex-head : (s : List ℕ) (c : IndexRow) → index_chars c ≤ 8 → index_chars c ≤ length s → ondex_of c (head_of s) ≡ ondex_of c s
unfolding ondex_of
ondex-head s c few room = ap (number_of 64) (part-head s (c.chars + c.index) c.ondex (omega arith) (omega arith))

-- ---- 11, 18

own-group : (letter h n l : ℕ) (s : List ℕ) → length s ≡ 4 * n → group_checks h (n - h) l ≡ own_check l letter h (drop (4 * h) s)
unfolding group_checks own_check
own-group letter h n zero s long = refl
own-group letter h n (suc l) s long =
    let e : length (drop (4 * h) s) / 4 ≡ n - h = omega (arith, length-drop (4 * h) s) in
    rw e

-- what the code finds of an item's own sextets, those of its n units, is what format's judging finds
pub own-judged : (k : Kind) (h n l : ℕ) (s : List ℕ) → h ≤ 2 → length s ≡ 4 * n → Shaped k h n
    → own_by k h n (head_of s) (behind h s) l ≡ judge_kind k h s (own_check l)
unfolding own_by judge_kind fixed_checks variable_checks indexed_checks
own-judged (Fixed c) h n l s few long shape =
    let m : c.chars ≤ 4 = shape.0.chars.1 in
    rw (zero-head s c.chars (zero_bits_of c) (omega arith), prepad-head s c.chars (prepad_of c) (omega arith))
own-judged (Variable t lead count) h n l s few long shape =
    let e : length (drop (4 * h) s) ≡ 4 * count = omega (arith, length-drop (4 * h) s, shape.1) in
    rw (zero-head s (4 * h) (8 * lead) (omega arith))
    (ap (λ (v : Verdict). and_then (behind h s) (and_then (unless 18 (is_shortest h count)) v))
    (nine-first lead count _ _ _ (value_tells t lead count h s few shape.0 e)))
own-judged (Group letter) h n l s few long shape = own-group letter h n l s long
own-judged Genus h n l s few long shape = refl
own-judged (Indexed c) h n l s few long shape =
    let g : 4 * index_head c ≤ c.size = shape.0.long in
    let m : index_chars c ≤ 4 * index_head c = shape.0.chars in
    let q : 4 * n ≡ c.size = shape.1 in
    let e : index_head c ≡ h = shape.2 in
    rw (zero-head s (index_chars c) c.zeros (omega arith), ondex-head s c (omega arith) (omega arith))

-- ---- an item's own checks, from what the code has at hand

own-cut : (s cs own : List ℕ) (n : ℕ) → cs ≡ head_of s → own ≡ head_of (take (4 * n) cs) → own ≡ head_of (take (4 * n) s)
own-cut s cs own n e p = p ∙ rw e (within-head s n)

pub own-text-judged : (part cs own : List ℕ) (k : Kind) (h n l : ℕ) (v : Verdict) → cs ≡ head_of (text_sextets part) → own ≡ head_of (take (4 * n) cs)
    → v ≡ own_by k h n own (behind h (text_sextets (take (4 * n) part))) l → h ≤ 2 → Shaped k h n → 4 * n ≤ length part
    → v ≡ judge_kind k h (take (4 * n) (text_sextets part)) (own_check l)
unfolding text_sextets
own-text-judged part cs own k h n l v e p w few shape room =
    let long = length-take-le (4 * n) (text_sextets part) (rw (length-map part sextet_of) room) in
    w ∙ rw (own-cut (text_sextets part) cs own n e p, map-take sextet_of (4 * n) part) (own-judged k h n l (take (4 * n) (text_sextets part)) few long shape)

pub own-binary-judged : (part cs own : List ℕ) (k : Kind) (h n l : ℕ) (v : Verdict) → cs ≡ head_of (binary_sextets part)
    → own ≡ head_of (take (4 * n) cs) → v ≡ own_by k h n own Accepted l → h ≤ 2 → Shaped k h n → n * 3 ≤ length part
    → v ≡ judge_kind k h (take (4 * n) (binary_sextets part)) (own_check l)
own-binary-judged part cs own k h n l v e p w few shape room =
    let m : 4 * n ≡ n * 4 = omega arith in
    let b : behind h (take (4 * n) (binary_sextets part)) ≡ Accepted = rw m (rw (binary-reader.taken part n room) at (behind-binary (take (n * 3) part) h)) in
    let long = length-take-le (4 * n) (binary_sextets part) (omega (arith, binary-reader.units part)) in
    w ∙ rw (own-cut (binary_sextets part) cs own n e p, ← b) (own-judged k h n l (take (4 * n) (binary_sextets part)) few long shape)
