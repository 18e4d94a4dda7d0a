-- The text of an item stands behind its start, by the item's first sextets. Assumes nothing.
use mathlib.Core.Path.{◌≡◌, refl, ap, sym, ◌∙◌}
use mathlib.Core.Bool.{Bool, true, false}
use mathlib.Core.List.{List, [], ◌∷◌, map}
use mathlib.Core.Logic.{⊎_elim}
use Prim.Native.Nat.{ℕ, ◌+◌, ◌-◌, ◌*◌, ◌≤◌}
use native.Mathlib.Omega.{arith}
use lib.Dec.{eqb}
use lib.ListN.{length, get_or, take, drop, length-drop, length-map, drop_of_length-le}
use lib.Seq.{drop-drop, get_or-drop}
use Rattle.base.specs.Pick.{pick}
use Rattle.base.specs.Cases.{lt-or-ge}
use Rattle.format.specs.declared.Kind.{Kind}
use Rattle.format.specs.declared.Kind.TheVariants.{Fixed, Variable, Group, Genus, Indexed}
use Rattle.format.specs.Alphabet.{char_of}
use Rattle.format.specs.Registry.{is_text}
use Rattle.format.specs.Texts.{fills, fill_of, text_of}
use Rattle.format.specs.Values.{text_in}
use Rattle.laws.specs.Framing.{Shaped}
use Rattle.framing_head.specs.Heads.{head_of}
use Rattle.framing_head.proofs.Laws.{head_at}
use Rattle.reading_fill.specs.Texts.{fill_by, text_start}

-- the fill is told by the value's first sextet
first-tells : (lead : ℕ) (v : List ℕ) → drop (fill_of lead v) v ≡ drop (fill_by lead (get_or v 0 0)) v
unfolding fill_of fill_by fills
first-tells lead [] = drop_of_length-le [] {i = fill_of lead []} (omega arith) ∙ sym (drop_of_length-le [] {i = fill_by lead 0} (omega arith))
first-tells lead (x ∷ v) = ap (λ (f : ℕ). drop (pick (eqb lead 0) f (lead + 1)) (x ∷ v)) (same (eqb x 0))
  where
    same : (b : Bool) → ◌≡◌ {A = ℕ} (pick (pick b true false) 1 0) (pick b 1 0)
    same true = refl
    same false = refl

-- nothing is behind the item's end
ends : (n : ℕ) (s : List ℕ) → length s ≡ 4 * n → [] ≡ map char_of (drop (4 * n) s)
ends n s l = rw (drop_of_length-le s {i = 4 * n} (omega arith))

variable-text : (t lead count h n : ℕ) (s : List ℕ) → h ≤ 2 → length s ≡ 4 * n
    → text_in (Variable t lead count) h s ≡ map char_of (drop (text_start (Variable t lead count) h n (head_of s)) s)
unfolding text_in text_start text_of
variable-text t lead count h n s few l = by (is_text t)
  where
    z : 4 * h + 0 ≡ 4 * h
    z = omega arith

    by : (b : Bool) → ◌≡◌ {A = List ℕ} (pick b (map char_of (drop (fill_of lead (drop (4 * h) s)) (drop (4 * h) s))) [])
        (map char_of (drop (pick b (4 * h + fill_by lead (get_or (head_of s) (4 * h) 0)) (4 * n)) s))
    by true =
        rw (first-tells lead (drop (4 * h) s), get_or-drop (4 * h) s 0 0, z, head_at s (4 * h) (omega arith))
        (ap (map char_of) (drop-drop (fill_by lead (get_or s (4 * h) 0)) (4 * h) s))
    by false = ends n s l

-- the text of an item of n units
pub text_in_lem : (k : Kind) (h n : ℕ) (s : List ℕ) → h ≤ 2 → length s ≡ 4 * n → text_in k h s ≡ map char_of (drop (text_start k h n (head_of s)) s)
unfolding text_in text_start
text_in_lem (Fixed c) h n s few l = ends n s l
text_in_lem (Variable t lead count) h n s few l = variable-text t lead count h n s few l
text_in_lem (Group letter) h n s few l = ends n s l
text_in_lem Genus h n s few l = ends n s l
text_in_lem (Indexed c) h n s few l = ends n s l

pub text-length : (k : Kind) (h n : ℕ) (s : List ℕ) → h ≤ 2 → length s ≡ 4 * n → length (text_in k h s) ≡ 4 * n - text_start k h n (head_of s)
text-length k h n s few l =
    ap length (text_in_lem k h n s few l) ∙ length-map (drop (text_start k h n (head_of s)) s) char_of ∙ length-drop (text_start k h n (head_of s)) s
    ∙ omega arith

-- the last elements, by how many are in front or by how many they are
last-by : (xs : List ℕ) (i n : ℕ) → length xs ≡ n → drop (n - (n - i)) xs ≡ drop i xs
last-by xs i n l =
    ⊎_elim (λ h. let z : n - (n - i) ≡ i = omega arith in rw z)
    (λ h. drop_of_length-le xs {i = n - (n - i)} (omega arith) ∙ sym (drop_of_length-le xs {i = i} (omega arith))) (lt-or-ge i n)

-- its text is its last characters
pub text-last : (k : Kind) (h n : ℕ) (s : List ℕ) → h ≤ 2 → length s ≡ 4 * n
    → text_in k h s ≡ map char_of (drop (4 * n - length (text_in k h s)) s)
text-last k h n s few l =
    text_in_lem k h n s few l
    ∙ ap (map char_of) (sym (last-by s (text_start k h n (head_of s)) (4 * n) l) ∙ ap (λ (i : ℕ). drop (4 * n - i) s) (sym (text-length k h n s few l)))
