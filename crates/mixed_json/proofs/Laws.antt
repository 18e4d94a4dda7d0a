-- Laws of a JSON header, one for each way through the code. Assumes nothing.
use Prim.Native.Nat.{ℕ, suc, ◌+◌, ◌-◌, ◌*◌, ◌≤◌, ◌<◌}
use mathlib.Core.Path.{◌≡◌, refl, sym, ◌∙◌}
use mathlib.Core.List.{List, [], ◌∷◌}
use mathlib.Core.Bool.{Bool, true, false, ◌&&◌}
use native.Mathlib.Omega.{arith}
use lib.Dec.{leb, ltb, eqb}
use lib.ListN.{length, get_or, drop}
use lib.Seq.{drop-cons}
use borrow.Author.Tests.{le-leb, lt-leb, lt-ltb, le-ltb, eq-eqb, ne_eqb}
use Rattle.std.specs.List.{list_all, zip}
use Rattle.base.specs.Pick.{pick}
use Rattle.format.specs.declared.Kind.{Kind}
use Rattle.format.specs.declared.Framed.{Framed}
use Rattle.format.specs.declared.Framed.TheVariants.{Item, Unframed}
use Rattle.mixed.specs.Json.{hex_of, meets, pattern, passes, hex_from, json_size, fit_json, frame_json}

-- ---- digits

module _ (c : ℕ) where
  pub below-digits : c < 48 → (16 ≡ hex_of c) × (16 ≤ 16)
  unfolding hex_of
  below-digits h = (rw (lt-leb 48 c h, lt-leb 97 c (omega arith)), omega arith)

  pub digit : 48 ≤ c → c ≤ 57 → (v : ℕ) → v ≡ c - 48 → (v ≡ hex_of c) × (v ≤ 16)
  unfolding hex_of
  digit l h v e = (rw (le-leb 48 c l, le-leb c 57 h, e), omega arith)

  pub between : 57 < c → c < 97 → (16 ≡ hex_of c) × (16 ≤ 16)
  unfolding hex_of
  between l h = (rw (le-leb 48 c (omega arith), lt-leb c 57 l, lt-leb 97 c h), omega arith)

  pub letter : 97 ≤ c → c ≤ 102 → (v : ℕ) → v ≡ c - 87 → (v ≡ hex_of c) × (v ≤ 16)
  unfolding hex_of
  letter l h v e = (rw (le-leb 48 c (omega arith), lt-leb c 57 (omega arith), le-leb 97 c l, le-leb c 102 h) (omega arith), omega arith)

  pub past : 102 < c → (16 ≡ hex_of c) × (16 ≤ 16)
  unfolding hex_of
  past h = (rw (le-leb 48 c (omega arith), lt-leb c 57 (omega arith), le-leb 97 c (omega arith), lt-leb c 102 h), omega arith)

-- ---- one byte of the header

module _ (p c : ℕ) where
  pub no-capital : p ≡ 0 → c < 65 → false ≡ meets p c
  unfolding meets
  no-capital e h = rw (eq-eqb p 0 e, lt-leb 65 c h)

  pub capital : p ≡ 0 → 65 ≤ c → leb c 90 ≡ meets p c
  unfolding meets
  capital e h = rw (eq-eqb p 0 e, le-leb 65 c h)

  pub hexed : (p ≡ 0 → ⊥) → p ≡ 1 → (v : ℕ) → v ≡ hex_of c → ltb v 16 ≡ meets p c
  unfolding meets
  hexed n e v q = rw (ne_eqb p 0 n, eq-eqb p 1 e, q)

  pub itself : (p ≡ 0 → ⊥) → (p ≡ 1 → ⊥) → eqb c p ≡ meets p c
  unfolding meets
  itself n m = rw (ne_eqb p 0 n, ne_eqb p 1 m)

-- ---- the header

pick-and : (a b : Bool) → a && b ≡ pick a b false
pick-and true b = refl
pick-and false b = refl

-- a pattern against the bytes from i on, pair by pair
pub passes-paired : (ps : List ℕ) (i : ℕ) (s : List ℕ) → i + length ps ≤ length s → list_all (λ q. meets q.0 q.1) (zip ps (drop i s)) ≡ passes ps i s
unfolding passes
passes-paired [] i s h = refl
passes-paired (p ∷ ps) i s h =
    rw (drop-cons s i 0 (omega arith), passes-paired ps (suc i) s (omega arith)) (pick-and (meets p (get_or s i 0)) (passes ps (suc i) s))

-- ---- the length

pub size_is : (s : List ℕ) (a b c : ℕ) → (a ≡ hex_of (get_or s 16 0) * 16 + hex_of (get_or s 17 0)) × (a ≤ 272)
    → (b ≡ hex_of (get_or s 18 0) * 16 + hex_of (get_or s 19 0)) × (b ≤ 272) → (c ≡ hex_of (get_or s 20 0) * 16 + hex_of (get_or s 21 0)) × (c ≤ 272)
    → ((a * 256 + b) * 256 + c ≡ json_size s) × ((a * 256 + b) * 256 + c < 33554432)
unfolding json_size hex_from
size_is s a b c p q r = (omega (arith, p.0, q.0, r.0), omega (arith, p.1, q.1, r.1))

-- ---- the item

module _ (k : Kind) (size len : ℕ) where
  pub fit_small : (r : Framed) → r ≡ Unframed 17 0 → size < 23 → r ≡ fit_json k size len
  unfolding fit_json
  fit_small r q h = q ∙ rw (lt-ltb size 23 h)

  pub fit-past : (r : Framed) → r ≡ Unframed 4 0 → 23 ≤ size → len < size → r ≡ fit_json k size len
  unfolding fit_json
  fit-past r q l h = q ∙ rw (le-ltb size 23 l, lt-ltb len size h)

  pub fit-item : 23 ≤ size → size ≤ len → Item k 23 size ≡ fit_json k size len
  unfolding fit_json
  fit-item l h = rw (le-ltb size 23 l, le-ltb len size h)

module _ (k : Kind) (s : List ℕ) where
  pub json-short : (r : Framed) → r ≡ Unframed 4 0 → length s < 23 → r ≡ frame_json k s
  unfolding frame_json
  json-short r q h = q ∙ rw (lt-ltb (length s) 23 h)

  module _ (long : 23 ≤ length s) (b : Bool) (e : b ≡ passes pattern 0 s) (r : Framed) where
    pub json-malformed : r ≡ Unframed 17 0 → b ≡ false → r ≡ frame_json k s
    unfolding frame_json
    json-malformed q f = q ∙ rw (le-ltb (length s) 23 long, sym e ∙ f)

    pub json-fit : (n : ℕ) → n ≡ json_size s → r ≡ fit_json k n (length s) → b ≡ true → r ≡ frame_json k s
    unfolding frame_json
    json-fit n q f t = f ∙ rw (le-ltb (length s) 23 long, sym e ∙ t, q)
