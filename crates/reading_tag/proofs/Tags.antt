-- Tag characters in eleven places. Assumes nothing.
use mathlib.Core.Path.{◌≡◌, refl, ◌∙◌}
use mathlib.Core.List.{List, [], ◌∷◌, map, append_assoc}
use Prim.Native.Nat.{ℕ, suc, ◌+◌, ◌-◌, ◌<◌}
use native.Mathlib.Omega.{arith}
use native.Mathlib.Numerals.{add-one}
use lib.ListN.{length, get_or, take, drop, set, replicate, length-drop, length-map}
use lib.Seq.{length-take-le, set_at, take-suc, get_or-drop}
use Rattle.base.specs.Lists.{map-join}
use Rattle.format.specs.declared.CodeRow.{CodeRow}
use Rattle.format.specs.declared.Kind.TheVariants.{Fixed}
use Rattle.format.specs.Alphabet.{char_of}
use Rattle.format.specs.Registry.{prepad_of}
use Rattle.format.specs.Values.{tag_of}
use Rattle.format.specs.Reading.{padded}
use Rattle.reading_tag.specs.Tags.{tag_from, Taggable}

-- ---- one behind the other

pub tag-start : (cs : List ℕ) (start : ℕ) → 0 ∷ 0 ∷ 0 ∷ 0 ∷ 0 ∷ 0 ∷ 0 ∷ 0 ∷ 0 ∷ 0 ∷ 0 ∷ [] ≡ tag_from cs start 0
unfolding tag_from
tag-start cs start = refl

pub tag-more : (cs tag : List ℕ) (start i v : ℕ) → i < 11 → start + i < length cs → tag ≡ tag_from cs start i
    → v ≡ char_of (get_or cs (start + i) 0) → set tag i v ≡ tag_from cs start (i + 1)
unfolding tag_from
tag-more cs tag start i v h l e is =
    let p : length (map char_of (take i (drop start cs))) ≡ i = length-map (take i (drop start cs)) char_of ∙ length-take-le i (drop start cs) (omega (arith, length-drop start cs)) in
    let z : 11 - i ≡ suc (11 - (i + 1)) = omega arith in
    rw (is, e, z, set_at (map char_of (take i (drop start cs))) 0 (replicate (11 - (i + 1)) 0) (char_of (get_or cs (start + i) 0)) i p)
    (rw (add-one i, take-suc (drop start cs) i 0 (omega (arith, length-drop start cs)), map-join char_of (take i (drop start cs)), append_assoc, get_or-drop start cs i 0))

-- ---- those of a row

pub tag-padded : (cs : List ℕ) (c : CodeRow) (start : ℕ) → length cs ≡ 12 → Taggable (Fixed c) → (c.tag ≡ 0 → ⊥) → start ≡ c.size - c.tag
    → tag_from cs start c.tag ≡ padded (tag_of (Fixed c) cs)
unfolding tag_from padded tag_of
tag-padded cs c start l f t e =
    let g = f t in
    let z : start ≡ c.chars + prepad_of c = omega (arith, g.0) in
    let m : length (map char_of (take c.tag (drop start cs))) ≡ c.tag =
    length-map (take c.tag (drop start cs)) char_of ∙ length-take-le c.tag (drop start cs) (omega (arith, length-drop start cs, g.0, g.1)) in
    rw (← z, m)

pub no-tag-row : (cs : List ℕ) (c : CodeRow) → c.tag ≡ 0 → 0 ∷ 0 ∷ 0 ∷ 0 ∷ 0 ∷ 0 ∷ 0 ∷ 0 ∷ 0 ∷ 0 ∷ 0 ∷ [] ≡ padded (tag_of (Fixed c) cs)
unfolding padded tag_of
no-tag-row cs c e = rw e
