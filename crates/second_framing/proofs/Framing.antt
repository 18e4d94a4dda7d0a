-- Framing step by step, in the papers' order. Assumes nothing.
use mathlib.Core.Path.{◌≡◌, refl, sym, ap, ◌∙◌, subst}
use mathlib.Core.Bool.{Bool, true, false, not, ◌&&◌}
use mathlib.Core.List.{List}
use mathlib.Core.Logic.{⊎_elim}
use Prim.Native.Nat.{ℕ, ◌+◌, ◌*◌, ◌/◌, ◌<◌, ◌≤◌}
use native.Mathlib.Omega.{arith}
use lib.Dec.{ltb}
use lib.ListN.{length}
use borrow.Author.Tests.{lt-ltb, le-ltb, not-true}
use Rattle.base.specs.Pick.{pick}
use Rattle.base.specs.Cases.{lt-or-ge}
use Rattle.format.specs.declared.Kind.{Kind}
use Rattle.format.specs.declared.Kind.TheVariants.{Fixed, Variable, Group, Genus, Indexed}
use Rattle.format.specs.declared.Opening.{Opening}
use Rattle.format.specs.declared.Opening.TheVariants.{Unknown, Short, Long, LargeVariable, LargeGroup, Version}
use Rattle.format.specs.declared.Framed.{Framed}
use Rattle.format.specs.declared.Framed.TheVariants.{Item, Unframed}
use Rattle.format.specs.declared.Verdict.{Verdict}
use Rattle.format.specs.declared.Verdict.TheVariants.{Accepted, Refused}
use Rattle.format.specs.Units.{text_sextets}
use Rattle.format.specs.Registry.{opening_by, header_units, extent}
use Rattle.format.specs.Framing.{sextet, fit, known, second, digits4, headed, frame_with, frame_by, frame_next, is_ours, ruled}
use Rattle.laws.specs.Framing.{Known, Shaped, Lawful, Good, known_next, by-with, by-good}
use Rattle.registry_reading.specs.Kinds.{kind_of}
use Rattle.second_characters.specs.Found.{Below, Stranger, Bad, Known8}
use Rattle.second_characters.proofs.Found.{text-units}

-- ---- a unit's characters

unit-known : (s : List ℕ) (i to : ℕ) → i + 4 ≤ to → Below s 64 i to → Known (sextet s) i
unit-known s i to h b = (
  lt-ltb (sextet s i) 64 (b i (omega arith) (omega arith)),
  lt-ltb (sextet s (i + 1)) 64 (b (i + 1) (omega arith) (omega arith)),
  lt-ltb (sextet s (i + 2)) 64 (b (i + 2) (omega arith) (omega arith)),
  lt-ltb (sextet s (i + 3)) 64 (b (i + 3) (omega arith) (omega arith)),
)

unit-bad : (s : List ℕ) (i to n p : ℕ) (next : Framed) → to ≡ i + 4 → Stranger s i to n p → known (sextet s) i next ≡ Unframed n p
unfolding known
unit-bad s i to n p next h w =
    ⊎_elim
    (λ a. let z : p ≡ i = omega (arith, w.low) in rw (le-ltb (sextet s i) 64 (rw z at w.here), w.number, z))
    (λ a. let f = good i (omega arith) (omega arith) in
    ⊎_elim
    (λ b. let z : p ≡ i + 1 = omega arith in rw (f, le-ltb (sextet s (i + 1)) 64 (rw z at w.here), w.number, z))
    (λ b. let g = good (i + 1) (omega arith) (omega arith) in
    ⊎_elim
    (λ c. let z : p ≡ i + 2 = omega arith in rw (f, g, le-ltb (sextet s (i + 2)) 64 (rw z at w.here), w.number, z))
    (λ c. let z : p ≡ i + 3 = omega (arith, w.high) in
    rw (f, g, good (i + 2) (omega arith) (omega arith), le-ltb (sextet s (i + 3)) 64 (rw z at w.here), w.number, z))
    (lt-or-ge p (i + 3)))
    (lt-or-ge p (i + 2)))
    (lt-or-ge p (i + 1))
  where
    good : (j : ℕ) → i ≤ j → j + 1 ≤ p → ltb (sextet s j) 64 ≡ true
    good j a b = lt-ltb (sextet s j) 64 (w.below j a (omega arith))

-- ---- what a header says, by its units, the kind and the size

headed-unknown : (o : Opening) (at : ℕ → ℕ) (len : ℕ) → header_units o ≡ 0 → headed o at len ≡ Unframed 6 0
unfolding header_units headed
headed-unknown Unknown at len e = refl
headed-unknown (Short k n) at len e = absurd (omega arith)
headed-unknown (Long k n) at len e = absurd (omega arith)
headed-unknown (LargeVariable t l) at len e = absurd (omega arith)
headed-unknown (LargeGroup l d) at len e = absurd (omega arith)
headed-unknown Version at len e = absurd (omega arith)

headed-short : (o : Opening) (at : ℕ → ℕ) (len : ℕ) → 1 ≤ len → len < header_units o → headed o at len ≡ Unframed 4 0
unfolding header_units headed second
headed-short Unknown at len a b = absurd (omega arith)
headed-short (Short k n) at len a b = absurd (omega arith)
headed-short (Long k n) at len a b = rw (lt-ltb len 2 b)
headed-short (LargeVariable t l) at len a b = rw (lt-ltb len 2 b)
headed-short (LargeGroup l d) at len a b = rw (lt-ltb len 2 b)
headed-short Version at len a b = rw (lt-ltb len 2 b)

second-bad : (s : List ℕ) (len n p : ℕ) (next : Framed) → 2 ≤ len → Stranger s 4 8 n p → second (sextet s) len next ≡ Unframed n p
unfolding second
second-bad s len n p next h w = rw (le-ltb len 2 h) (unit-bad s 4 8 n p next refl w)

headed-bad : (o : Opening) (s : List ℕ) (len n p : ℕ) → header_units o ≤ len → Stranger s 4 (4 * header_units o) n p → headed o (sextet s) len ≡ Unframed n p
unfolding header_units headed
headed-bad Unknown s len n p h w = absurd (omega (arith, w.low, w.high))
headed-bad (Short k m) s len n p h w = absurd (omega (arith, w.low, w.high))
headed-bad (Long k m) s len n p h w = second-bad s len n p _ h w
headed-bad (LargeVariable t l) s len n p h w = second-bad s len n p _ h w
headed-bad (LargeGroup l d) s len n p h w = second-bad s len n p _ h w
headed-bad Version s len n p h w = second-bad s len n p _ h w

second-good : (s : List ℕ) (len : ℕ) (next : Framed) → 2 ≤ len → Below s 64 4 8 → second (sextet s) len next ≡ next
unfolding second
second-good s len next h b = rw (le-ltb len 2 h) (known_next (sextet s) 4 next (unit-known s 4 8 (omega arith) b))

headed-good : (o : Opening) (s : List ℕ) (len : ℕ) → (header_units o ≡ 0 → ⊥) → header_units o ≤ len → Below s 64 4 (4 * header_units o)
    → headed o (sextet s) len ≡ fit (kind_of o (digits4 (sextet s))) (header_units o) (extent o (digits4 (sextet s))) len
unfolding header_units headed kind_of extent
headed-good Unknown s len z h b = absurd (z refl)
headed-good (Short k m) s len z h b = refl
headed-good (Long k m) s len z h b = second-good s len _ h b
headed-good (LargeVariable t l) s len z h b = second-good s len _ h b
headed-good (LargeGroup l d) s len z h b = second-good s len _ h b
headed-good Version s len z h b = second-good s len _ h b

-- ---- 7

apart : ◌≡◌ {A = Bool} false true → ⊥
apart e = let z : ◌≡◌ {A = ℕ} 0 1 = ap (λ (b : Bool). pick b 1 0) e in omega arith

both_true : (x y : Bool) → x && y ≡ true → (x ≡ true) × (y ≡ true)
both_true true y e = (refl, e)
both_true false y e = absurd (apart e)

-- a genus/version has a header of two units
genus-two : (t : Bool) (s : List ℕ) (k : Kind) (h n : ℕ) → frame_by t s ≡ Item k h n → k ≡ Genus → h ≡ 2
genus-two t s k h n e z =
    let g : Lawful (frame_with (opening_by t)) (sextet s) (length s / 4) k h n = subst (Good (frame_with (opening_by t)) (sextet s) (length s / 4)) e (by-good t s) in
    (subst (λ (j : Kind). Shaped j h n) z g.shape).0

-- where an item is no genus/version
other : (at : ℕ → ℕ) (k : Kind) (h n : ℕ) → (k ≡ Genus → ⊥) → Item k h n ≡ ruled at (Item k h n)
unfolding ruled
other at (Fixed c) h n q = refl
other at (Variable a b c) h n q = refl
other at (Group l) h n q = refl
other at Genus h n q = absurd (q refl)
other at (Indexed c) h n q = refl

-- ---- the item that a text begins with

module _ (t asked : Bool) (s : List ℕ) where
  abbrev S : List ℕ
  S = text_sextets s

  refusal : (n p : ℕ) → frame_by t S ≡ Unframed n p → Unframed n p ≡ frame_next t asked S
  unfolding frame_next ruled
  refusal n p e = by asked
    where
      by : (b : Bool) → Unframed n p ≡ frame_next t b S
      by true = rw e
      by false = sym e

  pub no-unit : length s / 4 < 1 → (r : Framed) → r ≡ Unframed 4 0 → r ≡ frame_next t asked S
  unfolding frame_with
  no-unit h r e = e ∙ refusal 4 0 (by-with t S ∙ rw (text-units s, lt-ltb (length s / 4) 1 h))

  module _ (some : 1 ≤ length s / 4) (v : Verdict) (bv : Bad S 0 4 v) where
    pub bad-first : (n p : ℕ) → v ≡ Refused n p → Unframed n p ≡ frame_next t asked S
    unfolding frame_with
    bad-first n p e =
        refusal n p (by-with t S ∙ rw (text-units s, le-ltb (length s / 4) 1 some) (unit-bad S 0 4 n p _ refl (subst (Bad S 0 4) e bv)))

    module _ (ev : v ≡ Accepted) (a b c d : ℕ) (ea : a ≡ sextet S 0) (eb : b ≡ sextet S 1) (ec : c ≡ sextet S 2) (ed : d ≡ sextet S 3)
        (o : Opening) (eo : o ≡ opening_by t a b c d) (h : ℕ) (eh : h ≡ header_units o) where
      opened : frame_by t S ≡ headed o (sextet S) (length s / 4)
      unfolding frame_with
      opened =
          by-with t S
          ∙ rw (text-units s, le-ltb (length s / 4) 1 some, known_next (sextet S) 0 _ (unit-known S 0 4 (omega arith) (subst (Bad S 0 4) ev bv)), eo, ea, eb, ec, ed)

      pub unknown : h ≡ 0 → (r : Framed) → r ≡ Unframed 6 0 → r ≡ frame_next t asked S
      unknown z r e = e ∙ refusal 6 0 (opened ∙ headed-unknown o (sextet S) (length s / 4) (sym eh ∙ z))

      pub no_second : length s / 4 < h → (r : Framed) → r ≡ Unframed 4 0 → r ≡ frame_next t asked S
      no_second z r e = e ∙ refusal 4 0 (opened ∙ headed-short o (sextet S) (length s / 4) some (rw eh at z))

      module _ (known-code : h ≡ 0 → ⊥) (room : h ≤ length s / 4) (u : Verdict) (bu : Bad S 4 (4 * h) u) where
        pub bad-second : (n p : ℕ) → u ≡ Refused n p → Unframed n p ≡ frame_next t asked S
        bad-second n p e =
            refusal n p (opened ∙ headed-bad o S (length s / 4) n p (rw eh at room) (rw eh at (subst (Bad S 4 (4 * h)) e bu)))

        module _ (eu : u ≡ Accepted) (a' b' c' d' : ℕ) (ea' : a' ≡ sextet S 4) (eb' : b' ≡ sextet S 5) (ec' : c' ≡ sextet S 6) (ed' : d' ≡ sextet S 7)
            (n : ℕ) (en : n ≡ extent o (((a' * 64 + b') * 64 + c') * 64 + d')) where
          digits : ((a' * 64 + b') * 64 + c') * 64 + d' ≡ digits4 (sextet S)
          digits = rw (ea', eb', ec', ed')

          fitted : frame_by t S ≡ fit (kind_of o (digits4 (sextet S))) h n (length s / 4)
          fitted =
              opened
              ∙ headed-good o S (length s / 4) (λ z. known-code (eh ∙ z)) (rw eh at room) (rw eh at (subst (Bad S 4 (4 * h)) eu bu))
              ∙ rw (← eh, en, digits)

          pub past : length s / 4 < n → (r : Framed) → r ≡ Unframed 4 0 → r ≡ frame_next t asked S
          unfolding fit
          past z r e = e ∙ refusal 4 0 (fitted ∙ rw (lt-ltb (length s / 4) n z))

          module _ (inside : n ≤ length s / 4) (k : Kind) (ek : k ≡ kind_of o (((a' * 64 + b') * 64 + c') * 64 + d')) where
            item : frame_by t S ≡ Item k h n
            unfolding fit
            item = fitted ∙ rw (le-ltb (length s / 4) n inside, ek, digits)

            known8 : h ≡ 2 → Known8 S
            known8 z i l m =
                ⊎_elim (λ lt. subst (Bad S 0 4) ev bv i l lt) (λ ge. subst (Bad S 4 (4 * h)) eu bu i ge (omega arith)) (lt-or-ge i 4)

            two-units : k ≡ Genus → h ≡ 2
            two-units z = genus-two t S k h n item z

            pub not_ours : k ≡ Genus → (b : Bool) → (Known8 S → b ≡ is_ours (sextet S)) → asked && not b ≡ true → (r : Framed) → r ≡ Unframed 7 0
                → r ≡ frame_next t asked S
            unfolding frame_next ruled
            not_ours z b eb q r e =
                let x = both_true asked (not b) q in
                let o : is_ours (sextet S) ≡ false = sym (eb (known8 (two-units z))) ∙ not-true b x.1 in
                e ∙ rw (x.0, item, z, o)

            pub item-ours : k ≡ Genus → (b : Bool) → (Known8 S → b ≡ is_ours (sextet S)) → asked && not b ≡ false → Item k h n ≡ frame_next t asked S
            unfolding frame_next ruled
            item-ours z b eb q = by asked b (eb (known8 (two-units z))) q
              where
                by : (y b : Bool) → b ≡ is_ours (sextet S) → y && not b ≡ false → Item k h n ≡ frame_next t y S
                by false b o q = sym item
                by true true o q = rw (item, z, ← o)
                by true false o q = absurd (apart (sym q))

            pub item-other : (k ≡ Genus → ⊥) → Item k h n ≡ frame_next t asked S
            unfolding frame_next
            item-other q = by asked
              where
                by : (y : Bool) → Item k h n ≡ frame_next t y S
                by true = rw item (other (sextet S) k h n q)
                by false = sym item
