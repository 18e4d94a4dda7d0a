-- The sextets before a raw value or a text as arrays hold them. Assumes nothing.
use mathlib.Core.Path.{◌≡◌, refl, ◌∙◌}
use mathlib.Core.List.{List, [], ◌∷◌, ◌++◌, map, append_assoc}
use mathlib.Core.Logic.{⊎_elim}
use Prim.Native.Nat.{ℕ, zero, suc, ◌+◌, ◌-◌, ◌/◌, ◌%◌, ◌<◌, ◌≤◌}
use native.Mathlib.Nat.{div-one}
use native.Mathlib.Omega.{arith}
use borrow.Author.Tests.{eq-eqb, ne_eqb, eqb-true, eqb-false}
use lib.Dec.{eqb}
use lib.ListN.{length, get_or, take, drop, replicate, set, length-append, length-replicate, length-map}
use lib.Seq.{paste, take_at, drop-append-add, length-take-le}
use Rattle.std.proofs.lemmas.List.Edits.{paste_more}
use Rattle.base.specs.Pick.{pick}
use Rattle.base.specs.Cases.{whether}
use Rattle.base.specs.Lists.{map-take, get_or-map-within}
use Rattle.base.specs.Each.{each, take4}
use Rattle.format.specs.declared.CodeRow.{CodeRow}
use Rattle.format.specs.Alphabet.{sextet_of}
use Rattle.format.specs.Units.{bytes_of}
use Rattle.format.specs.Registry.{prepad_of}
use Rattle.format.specs.Texts.{fill_for, text_count}
use Rattle.format.specs.Writing.{code_sextets, lead_for, count_for}
use Rattle.laws.specs.Registry.{Sound, Code, one, two, four}
use Rattle.writing_head.specs.Heads.{pad_to, code_head, row_head, variable_sextets, variable_head}

-- ---- a code and its prepad

pub prepad-small : (c : CodeRow) → Sound c → prepad_of c ≤ 1
prepad-small c s =
    ⊎_elim (λ e. rw e (omega arith)) (λ e. (s.tag (eqb-false c.tag 0 e)).prepad) (whether (eqb c.tag 0))

pad-one : (l p : ℕ) → p ≤ 1
    → l ∷ pick (eqb p 0) 0 63 ∷ 0 ∷ 0 ∷ 0 ∷ 0 ∷ 0 ∷ 0 ∷ 0 ∷ 0 ∷ 0 ∷ 0 ∷ [] ≡ pad_to 12 ((l ∷ []) ++ replicate p 63)
unfolding pad_to
pad-one l zero h = refl
pad-one l (suc zero) h = refl
pad-one l (suc (suc p)) h = absurd (omega arith)

pad-two : (l p : ℕ) → p ≤ 1
    → 52 ∷ l ∷ pick (eqb p 0) 0 63 ∷ 0 ∷ 0 ∷ 0 ∷ 0 ∷ 0 ∷ 0 ∷ 0 ∷ 0 ∷ 0 ∷ [] ≡ pad_to 12 ((52 ∷ l ∷ []) ++ replicate p 63)
unfolding pad_to
pad-two l zero h = refl
pad-two l (suc zero) h = refl
pad-two l (suc (suc p)) h = absurd (omega arith)

pad-four : (l p : ℕ) → p ≤ 1
    → 53 ∷ 0 ∷ 0 ∷ l ∷ pick (eqb p 0) 0 63 ∷ 0 ∷ 0 ∷ 0 ∷ 0 ∷ 0 ∷ 0 ∷ 0 ∷ [] ≡ pad_to 12 ((53 ∷ 0 ∷ 0 ∷ l ∷ []) ++ replicate p 63)
unfolding pad_to
pad-four l zero h = refl
pad-four l (suc zero) h = refl
pad-four l (suc (suc p)) h = absurd (omega arith)

module _ (c : CodeRow) (s : Sound c) (p q : ℕ) (e : p ≡ prepad_of c) (f : q ≡ pick (eqb p 0) 0 63) where
  pub code_one : c.chars ≡ 1 → c.letter ∷ q ∷ 0 ∷ 0 ∷ 0 ∷ 0 ∷ 0 ∷ 0 ∷ 0 ∷ 0 ∷ 0 ∷ 0 ∷ [] ≡ code_head c
  unfolding code_head code_sextets
  code_one n = rw (f, e, eq-eqb c.chars 1 n) (pad-one c.letter (prepad_of c) (prepad-small c s))

  pub code-two : (c.chars ≡ 1 → ⊥) → c.chars ≡ 2 → 52 ∷ c.letter ∷ q ∷ 0 ∷ 0 ∷ 0 ∷ 0 ∷ 0 ∷ 0 ∷ 0 ∷ 0 ∷ 0 ∷ [] ≡ code_head c
  unfolding code_head code_sextets
  code-two m n = rw (f, e, ne_eqb c.chars 1 m, eq-eqb c.chars 2 n) (pad-two c.letter (prepad_of c) (prepad-small c s))

  pub code-four : (c.chars ≡ 1 → ⊥) → (c.chars ≡ 2 → ⊥) → 53 ∷ 0 ∷ 0 ∷ c.letter ∷ q ∷ 0 ∷ 0 ∷ 0 ∷ 0 ∷ 0 ∷ 0 ∷ 0 ∷ [] ≡ code_head c
  unfolding code_head code_sextets
  code-four m n = rw (f, e, ne_eqb c.chars 1 m, ne_eqb c.chars 2 n) (pad-four c.letter (prepad_of c) (prepad-small c s))

-- ---- the tag characters behind them

-- a turn of the loop
pub tag-more : (cs out tag : List ℕ) (at i v : ℕ) → at + i < length cs → i < length tag → v ≡ sextet_of (get_or tag i 0)
    → out ≡ paste cs at (map sextet_of tag) i → set out (at + i) v ≡ paste cs at (map sextet_of tag) (i + 1)
tag-more cs out tag at i v h k f e =
    rw (e, f, ← get_or-map-within sextet_of tag i 0 0 k) (paste_more cs at (map sextet_of tag) i 0 h (rw (length-map tag sextet_of) k))

drop-replicate : (n m a : ℕ) → drop n (replicate m a) ≡ replicate (m - n) a
drop-replicate zero m a = let e : m - 0 ≡ m = omega arith in rw e
drop-replicate (suc n) zero a = let e : 0 - suc n ≡ 0 = omega arith in rw e
drop-replicate (suc n) (suc m) a = let e : suc m - suc n ≡ m - n = omega arith in rw e (drop-replicate n m a)

-- stores behind a front that zeros follow
pad-paste : (n : ℕ) (x m : List ℕ) (at k : ℕ) → length x ≡ at → k ≤ length m → at + k ≤ n → paste (pad_to n x) at m k ≡ pad_to n (x ++ take k m)
unfolding pad_to
pad-paste n x m at k e h r =
    let l : length (x ++ take k m) ≡ at + k = length-append x (take k m) ∙ omega (arith, length-take-le k m h) in
    let z : n - at - k ≡ n - (at + k) = omega arith in
    rw (
      take_at x (replicate (n - length x) 0) at e,
      ← e,
      drop-append-add x (replicate (n - length x) 0) k,
      e,
      drop-replicate k (n - at) 0,
      l,
      z,
    )

pub code-length : (c : CodeRow) → Code c → length (code_sextets c) ≡ c.chars
unfolding code_sextets
code-length c (one e p) = rw e
code-length c (two e p) = rw e
code-length c (four e p) = rw e

pub code-room : (c : CodeRow) → Sound c → (c.chars + prepad_of c + c.tag ≤ 12) × (c.tag ≤ 11)
code-room c s =
    ⊎_elim (λ e. let t : c.tag ≡ 0 = eqb-true c.tag 0 e in rw (e, t) (omega (arith, s.chars), omega arith))
    (λ e. let g = s.tag (eqb-false c.tag 0 e) in (omega (arith, g.filled, g.units), g.short)) (whether (eqb c.tag 0))

pub row-filled : (c : CodeRow) (cs tag : List ℕ) (tags q : ℕ) → Sound c → tags ≡ c.tag → length tag ≡ 11 → q ≡ prepad_of c → cs ≡ code_head c
    → paste cs (c.chars + q) (map sextet_of tag) tags ≡ row_head c (take tags tag)
unfolding code_head row_head
row-filled c cs tag tags q s t l a e =
    let r = code-room c s in
    let n : length (code_sextets c ++ replicate (prepad_of c) 63) ≡ c.chars + prepad_of c =
    length-append (code_sextets c) (replicate (prepad_of c) 63) ∙ rw (code-length c s.code, length-replicate {A = ℕ} (prepad_of c) 63) in
    rw (
      a,
      e,
      pad-paste 12 (code_sextets c ++ replicate (prepad_of c) 63) (map sextet_of tag) (c.chars + prepad_of c) tags n (rw (length-map tag sextet_of) (omega arith)) (omega arith),
      append_assoc,
      ← map-take sextet_of tags tag,
    )

-- ---- a variable header

-- a small form holds as many units as two digits count
pub raw-count : (raw : ℕ) → raw ≤ 12285 → count_for raw ≤ 4095
unfolding count_for lead_for
raw-count raw h = omega arith

pub text-count : (chars : ℕ) → chars + fill_for chars ≤ 16380 → text_count chars ≤ 4095
unfolding text_count
text-count chars h = omega arith

module _ (t h lead n d : ℕ) (g : d ≡ n % 64) where
  pub small-head : h ≡ 1 → n ≤ 4095 → (a : ℕ) → a ≡ n / 64 % 64
      → (56 + lead) ∷ t ∷ a ∷ d ∷ 0 ∷ 0 ∷ 0 ∷ 0 ∷ 0 ∷ 0 ∷ 0 ∷ 0 ∷ [] ≡ variable_head t h lead n
  unfolding variable_head variable_sextets pad_to
  small-head i l a k = let q : a ≡ n / 64 = omega arith in rw (eq-eqb h 1 i, q, g)

  pub large-head : (h ≡ 1 → ⊥) → (x y z : ℕ) → x ≡ n / 262144 % 64 → y ≡ n / 4096 % 64 → z ≡ n / 64 % 64
      → (59 + lead) ∷ 0 ∷ 0 ∷ t ∷ x ∷ y ∷ z ∷ d ∷ 0 ∷ 0 ∷ 0 ∷ 0 ∷ [] ≡ variable_head t h lead n
  unfolding variable_head variable_sextets pad_to
  large-head i x y z p q r = rw (ne_eqb h 1 i, p, q, r, g, div-one)

-- ---- three units

pub packed : (cs a b c : List ℕ) → length cs ≡ 12
    → a ≡ bytes_of (get_or cs 0 0 ∷ get_or cs 1 0 ∷ get_or cs 2 0 ∷ get_or cs 3 0 ∷ [])
    → b ≡ bytes_of (get_or cs 4 0 ∷ get_or cs 5 0 ∷ get_or cs 6 0 ∷ get_or cs 7 0 ∷ [])
    → c ≡ bytes_of (get_or cs 8 0 ∷ get_or cs 9 0 ∷ get_or cs 10 0 ∷ get_or cs 11 0 ∷ [])
    → get_or a 0 0 ∷ get_or a 1 0 ∷ get_or a 2 0 ∷ get_or b 0 0 ∷ get_or b 1 0 ∷ get_or b 2 0 ∷ get_or c 0 0 ∷ get_or c 1 0 ∷ get_or c 2 0 ∷ [] ≡ each 4 bytes_of 3 cs
unfolding bytes_of each
packed cs a b c l p q r =
    rw (p, q, r, take4 cs 0 (omega arith), take4 cs 4 (omega arith), take4 cs 8 (omega arith))
