-- Which units of a header framing looks at, by either table: one, or two where is_long says so; and the extent is asked last. Assumes
-- nothing.
use Rattle.std.specs.Prelude.{ℕ, ◌+◌, ◌*◌, ◌/◌, ◌≤◌, ◌<◌, ◌≡◌, List, [], ◌∷◌, Bool, true, false, T, ltb, leb, eqb, length}
use Rattle.std.proofs.Math.Path.{refl, ap}
use Rattle.std.proofs.Common.{sym, ◌∙◌, subst, ⊎_elim, arith, leb→le, ltb-true, ltb-false, lt-ltb, le-ltb, eq-eqb, eqb-true}
use Rattle.base.specs.Pick.{pick, pick-by}
use Rattle.base.specs.Cases.{lt-or-ge}
use Rattle.base.specs.Table.{both, both_left, both_right}
use Rattle.format.specs.declared.CodeRow.{CodeRow}
use Rattle.format.specs.declared.IndexRow.{IndexRow}
use Rattle.format.specs.declared.Kind.{Kind}
use Rattle.format.specs.declared.Kind.TheVariants.{Fixed, Variable, Group, Genus, Indexed}
use Rattle.format.specs.declared.Opening.{Opening}
use Rattle.format.specs.declared.Opening.TheVariants.{Unknown, Short, Long, LargeVariable, LargeGroup, Version}
use Rattle.format.specs.declared.Framed.{Framed}
use Rattle.format.specs.declared.Framed.TheVariants.{Item, Unframed}
use Rattle.format.specs.Alphabet.{stranger_number}
use Rattle.format.specs.Registry.{codes, is_type, is_group, fixed_among, fixed, opening, header_units, extent, zero_bits_of, prepad_of}
use Rattle.format.specs.Registry.{indexed_codes, index_chars, index_head, indexed_row, indexed_among, indexed_by, indexed_opening, opening_by}
use Rattle.format.specs.Framing.{sextet, fit, known, second, digits4, headed, frame_with, is_ours, ruled}
use Rattle.laws.specs.Framing.{Known, Good, Lawful, known_by, frame_with-good, opens_by}
use Rattle.pieces.specs.Headers.{all_known, is_long, endless}

-- ---- the tables: what is judged by the header lies in it, and no header says more than endless

is_near : CodeRow → Bool
is_near c = both (leb (6 * (c.chars + prepad_of c) + zero_bits_of c) 24) (leb c.size 156)

all_near : List CodeRow → Bool
all_near [] = true
all_near (c ∷ cs) = both (is_near c) (all_near cs)

table-near : T (all_near codes)
unfolding all_near is_near codes
table-near = tt

is_index_near : IndexRow → Bool
is_index_near c = both (leb (6 * index_chars c + c.zeros) (24 * index_head c)) (leb c.size 160)

all_index_near : List IndexRow → Bool
all_index_near [] = true
all_index_near (c ∷ cs) = both (is_index_near c) (all_index_near cs)

indexed-table-near : T (all_index_near indexed_codes)
unfolding all_index_near is_index_near indexed_codes index_head
indexed-table-near = tt

abbrev pub NearKind : Kind → Type 0
NearKind (Fixed c) = 6 * (c.chars + prepad_of c) + zero_bits_of c ≤ 24
NearKind (Variable t l m) = Unit {0}
NearKind (Group l) = Unit {0}
NearKind Genus = Unit {0}
NearKind (Indexed c) = 6 * index_chars c + c.zeros ≤ 24 * index_head c

abbrev Near : Opening → Type 0
Near Unknown = Unit {0}
Near (Short k n) = NearKind k × (n ≤ 4096)
Near (Long k n) = NearKind k × (n ≤ 4096)
Near (LargeVariable t l) = Unit {0}
Near (LargeGroup l d) = d < 64
Near Version = Unit {0}

among-near : (cs : List CodeRow) → T (all_near cs) → (chars letter : ℕ) → Near (fixed_among cs chars letter)
unfolding fixed_among all_near is_near
among-near [] t chars letter = tt
among-near (c ∷ cs) t chars letter =
    let s = both_left (is_near c) (all_near cs) t in
    let next = among-near cs (both_right (is_near c) (all_near cs) t) chars letter in
    let a : 6 * (c.chars + prepad_of c) + zero_bits_of c ≤ 24 = leb→le _ _ (both_left (leb (6 * (c.chars + prepad_of c) + zero_bits_of c) 24) _ s) in
    let b : c.size ≤ 156 = leb→le _ _ (both_right (leb (6 * (c.chars + prepad_of c) + zero_bits_of c) 24) _ s) in
    pick-by Near (eqb c.chars chars) _ _ (λ _. pick-by Near (eqb c.letter letter) _ _ (λ _. (a, omega arith)) (λ _. next)) (λ _. next)

fixed-near : (chars letter : ℕ) → Near (fixed chars letter)
unfolding fixed
fixed-near = among-near codes table-near

indexed-among : (cs : List IndexRow) → T (all_index_near cs) → (selector letter : ℕ) → Near (indexed_among cs selector letter)
unfolding indexed_among indexed_row all_index_near is_index_near
indexed-among [] t selector letter = tt
indexed-among (c ∷ cs) t selector letter =
    let s = both_left (is_index_near c) (all_index_near cs) t in
    let next = indexed-among cs (both_right (is_index_near c) (all_index_near cs) t) selector letter in
    let a : 6 * index_chars c + c.zeros ≤ 24 * index_head c = leb→le _ _ (both_left (leb (6 * index_chars c + c.zeros) (24 * index_head c)) _ s) in
    let b : c.size ≤ 160 = leb→le _ _ (both_right (leb (6 * index_chars c + c.zeros) (24 * index_head c)) _ s) in
    pick-by Near (eqb c.selector selector) _ _
    (λ _. pick-by Near (eqb c.letter letter) _ _
    (λ _. pick-by Near (eqb (index_head c) 1) _ _ (λ _. (a, omega arith)) (λ _. (a, omega arith))) (λ _. next))
    (λ _. next)

code-near : (selector letter : ℕ) → Near (indexed_by selector letter)
unfolding indexed_by
code-near = indexed-among indexed_codes indexed-table-near

tested : (b : Bool) (o : Opening) → Near o → Near (pick b o Unknown)
tested b o h = pick-by Near b o Unknown (λ _. h) (λ _. tt)

opening-near : (a b c d : ℕ) → c < 64 → d < 64 → Near (opening a b c d)
unfolding opening
opening-near a b c d hc hd =
    pick-by Near (ltb a 52) _ _ (λ _. fixed-near 1 a) (λ _.
    pick-by Near (eqb a 52) _ _ (λ _. fixed-near 2 b) (λ _.
    pick-by Near (eqb a 53) _ _ (λ _. tested (eqb b 0) _ (tested (eqb c 0) _ (fixed-near 4 d))) (λ _.
    pick-by Near (ltb a 56) _ _ (λ _. tt) (λ _.
    pick-by Near (ltb a 59) _ _ (λ _. tested (is_type b) _ (tt, omega arith)) (λ _.
    pick-by Near (ltb a 62) _ _ (λ _. tested (eqb b 0) _ (tested (eqb c 0) _ (tested (is_type d) _ tt))) (λ _.
    pick-by Near (eqb a 62) _ _
    (λ _. pick-by Near (is_group b) _ _ (λ _. (tt, omega arith)) (λ _.
    pick-by Near (eqb b 62) _ _ (λ _. tested (is_group c) _ hd) (λ _. tested (eqb b 63) _ tt)))
    (λ _. tt)))))))

indexed-near : (a b c d : ℕ) → Near (indexed_opening a b c d)
unfolding indexed_opening
indexed-near a b c d =
    pick-by Near (ltb a 52) _ _ (λ _. code-near 0 a) (λ _.
    pick-by Near (eqb a 52) _ _ (λ _. code-near 52 b) (λ _.
    pick-by Near (eqb a 54) _ _ (λ _. code-near 54 b) (λ _.
    pick-by Near (eqb a 55) _ _ (λ _. code-near 55 b) (λ _. tt))))

by_near : (t : Bool) (a b c d : ℕ) → c < 64 → d < 64 → Near (opening_by t a b c d)
by_near true a b c d hc hd = indexed-near a b c d
by_near false a b c d hc hd = opening-near a b c d hc hd

-- ---- a header's units

abbrev pub opens : Bool → (ℕ → ℕ) → Opening
opens t at = opening_by t (at 0) (at 1) (at 2) (at 3)

known-low : (at : ℕ → ℕ) (i : ℕ) → Known at i → (at i < 64) × (at (i + 1) < 64) × (at (i + 2) < 64) × (at (i + 3) < 64)
known-low at i k =
    (ltb-true (at i) 64 k.0, ltb-true (at (i + 1)) 64 k.1, ltb-true (at (i + 2)) 64 k.2, ltb-true (at (i + 3)) 64 k.3)

near_of : (t : Bool) (at : ℕ → ℕ) → Known at 0 → Near (opens t at)
near_of t at k = let l = known-low at 0 k in by_near t (at 0) (at 1) (at 2) (at 3) l.2 l.3

pub known-all : (q : List ℕ) → Known (sextet q) 0 → all_known q ≡ true
unfolding all_known
known-all q k = rw (k.0, k.1, k.2) k.3

pub long-made : (t : Bool) (q : List ℕ) (room : ℕ) → 1 < room → Known (sextet q) 0 → header_units (opens t (sextet q)) ≡ 2
    → is_long t q room ≡ true
unfolding is_long
long-made t q room l k e = rw (lt-ltb 1 room l, known-all q k) (eq-eqb _ 2 e)

-- an item's header has as many units as its first one says
abbrev pub Opened : Bool → (ℕ → ℕ) → Framed → Type 0
Opened t at (Item k h n) = Known at 0 × (header_units (opens t at) ≡ h) × NearKind k
Opened t at (Unframed n p) = Unit {0}

module _ (t : Bool) where
  fit_opened : (at : ℕ → ℕ) (k : Kind) (h n len : ℕ) → Known at 0 → header_units (opens t at) ≡ h → NearKind k → Opened t at (fit k h n len)
  unfolding fit
  fit_opened at k h n len a b c = pick-by (Opened t at) (ltb len n) (Unframed 4 0) (Item k h n) (λ _. tt) (λ _. (a, b, c))

  second-opened : (at : ℕ → ℕ) (k : Kind) (n len : ℕ) → Known at 0 → header_units (opens t at) ≡ 2 → NearKind k
      → Opened t at (second at len (fit k 2 n len))
  unfolding second
  second-opened at k n len a b c =
      pick-by (Opened t at) (ltb len 2) _ _ (λ _. tt) (λ _. known_by (Opened t at) at 4 _ (λ j _. tt) (λ _. fit_opened at k 2 n len a b c))

  headed-opened : (at : ℕ → ℕ) (len : ℕ) (o : Opening) → opens t at ≡ o → Near o → Known at 0 → Opened t at (headed o at len)
  unfolding headed header_units
  headed-opened at len Unknown e n k = tt
  headed-opened at len (Short c m) e n k = fit_opened at c 1 m len k (ap header_units e) n.0
  headed-opened at len (Long c m) e n k = second-opened at c _ len k (ap header_units e) n.0
  headed-opened at len (LargeVariable v l) e n k = second-opened at _ _ len k (ap header_units e) tt
  headed-opened at len (LargeGroup l d) e n k = second-opened at _ _ len k (ap header_units e) tt
  headed-opened at len Version e n k = second-opened at _ _ len k (ap header_units e) tt

  pub frame_opened : (at : ℕ → ℕ) (len : ℕ) → Opened t at (frame_with (opening_by t) at len)
  unfolding frame_with
  frame_opened at len =
      pick-by (Opened t at) (ltb len 1) _ _ (λ _. tt)
      (λ _. known_by (Opened t at) at 0 _ (λ j _. tt) (λ k. headed-opened at len (opens t at) refl (near_of t at k) k))

-- ---- a change of what stands behind a known unit

pick2 : (f : Framed → Framed) (b : Bool) (x y z : Framed) → f z ≡ z → (b ≡ true → x ≡ f y) → pick b x z ≡ f (pick b y z)
pick2 f true x y z e h = h refl
pick2 f false x y z e h = sym e

known2 : (f : Framed → Framed) → ((m p : ℕ) → f (Unframed m p) ≡ Unframed m p) → (at : ℕ → ℕ) (i : ℕ) (x y : Framed)
    → (Known at i → x ≡ f y) → known at i x ≡ f (known at i y)
unfolding known
known2 f e at i x y h =
    pick2 f (ltb (at i) 64) _ _ _ (e _ i)
    (λ a. pick2 f (ltb (at (i + 1)) 64) _ _ _ (e _ (i + 1))
    (λ b. pick2 f (ltb (at (i + 2)) 64) _ _ _ (e _ (i + 2))
    (λ c. pick2 f (ltb (at (i + 3)) 64) x y _ (e _ (i + 3)) (λ d. h (a, b, c, d)))))

-- ---- one unit is enough where is_long fails

abbrev plain : Framed → Framed
plain r = r

headed-one : (at at' : ℕ → ℕ) (len : ℕ) (o : Opening) → (header_units o ≡ 2 → len < 2) → headed o at' len ≡ headed o at len
unfolding headed header_units second
headed-one at at' len Unknown h = refl
headed-one at at' len (Short k n) h = refl
headed-one at at' len (Long k n) h = rw (lt-ltb len 2 (h refl))
headed-one at at' len (LargeVariable t l) h = rw (lt-ltb len 2 (h refl))
headed-one at at' len (LargeGroup l d) h = rw (lt-ltb len 2 (h refl))
headed-one at at' len Version h = rw (lt-ltb len 2 (h refl))

module _ (t : Bool) (q : List ℕ) (len : ℕ) (at' : ℕ → ℕ) (one : is_long t q len ≡ false) (same : (i : ℕ) → i < 4 → at' i ≡ sextet q i) where
  short : Known (sextet q) 0 → header_units (opens t (sextet q)) ≡ 2 → len < 2
  short k e =
      ⊎_elim (λ l. let z : ◌≡◌ {A = Bool} true false = sym (long-made t q len l k e) ∙ one in let y : ◌≡◌ {A = ℕ} 0 1 = cc in absurd (omega arith))
      (λ g. omega arith) (lt-or-ge 1 len)

  known_same : (x : Framed) → known at' 0 x ≡ known (sextet q) 0 x
  unfolding known
  known_same x = rw (same 0 (omega arith), same 1 (omega arith), same 2 (omega arith), same 3 (omega arith))

  pub frame-one : frame_with (opening_by t) at' len ≡ frame_with (opening_by t) (sextet q) len
  unfolding frame_with
  frame-one =
      ap (λ (r : Framed). pick (ltb len 1) (Unframed 4 0) r)
      (rw (same 0 (omega arith), same 1 (omega arith), same 2 (omega arith), same 3 (omega arith))
      (known_same (headed (opens t (sextet q)) at' len)
      ∙ known2 plain (λ m p. refl) (sextet q) 0 (headed (opens t (sextet q)) at' len) (headed (opens t (sextet q)) (sextet q) len)
      (λ k. headed-one (sextet q) at' len (opens t (sextet q)) (short k))))

  -- and it is no genus/version then
  ruled-same : (r : Framed) → Good (frame_with (opening_by t)) (sextet q) len r → Opened t (sextet q) r → ruled at' r ≡ ruled (sextet q) r
  unfolding ruled
  ruled-same (Unframed m p) g o = refl
  ruled-same (Item (Fixed c) h n) g o = refl
  ruled-same (Item (Variable v l m) h n) g o = refl
  ruled-same (Item (Group l) h n) g o = refl
  ruled-same (Item (Indexed c) h n) g o = refl
  ruled-same (Item Genus h n) g o =
      absurd (omega (arith, short o.0 (o.1 ∙ g.shape.0), g.room, g.shape.1))

  pub ruled-one : ruled at' (frame_with (opening_by t) at' len) ≡ ruled (sextet q) (frame_with (opening_by t) (sextet q) len)
  ruled-one =
      ap (ruled at') frame-one
      ∙ ruled-same (frame_with (opening_by t) (sextet q) len) (frame_with-good (opening_by t) (opens_by t) (sextet q) len) (frame_opened t (sextet q) len)

-- ---- the extent is asked last

unfoldable pub cap : ℕ → Framed → Framed
cap len (Item k h n) = pick (ltb len n) (Unframed 4 0) (Item k h n)
cap len (Unframed m p) = Unframed m p

cap-unframed : (len m p : ℕ) → cap len (Unframed m p) ≡ Unframed m p
unfolding cap
cap-unframed len m p = refl

fit-cap : (k : Kind) (h n len : ℕ) → n ≤ endless → fit k h n len ≡ cap len (fit k h n endless)
unfolding fit cap
fit-cap k h n len l = rw (le-ltb endless n l)

second-cap : (at : ℕ → ℕ) (k : Kind) (n len : ℕ) → 2 ≤ len → (Known at 4 → n ≤ endless)
    → second at len (fit k 2 n len) ≡ cap len (second at endless (fit k 2 n endless))
unfolding second
second-cap at k n len l b =
    rw (le-ltb len 2 l) (known2 (cap len) (cap-unframed len) at 4 (fit k 2 n len) (fit k 2 n endless) (λ e. fit-cap k 2 n len (b e)))

headed-cap : (at : ℕ → ℕ) (len : ℕ) (o : Opening) → Near o → (header_units o ≡ 2 → 2 ≤ len) → headed o at len ≡ cap len (headed o at endless)
unfolding headed header_units extent
headed-cap at len Unknown n h = sym (cap-unframed len 6 0)
headed-cap at len (Short k m) n h = fit-cap k 1 m len (omega arith)
headed-cap at len (Long k m) n h = second-cap at _ _ len (h refl) (λ _. omega (arith, n.1))
headed-cap at len (LargeVariable t l) n h = second-cap at _ _ len (h refl) (λ e. let l = known-low at 4 e in omega arith)
headed-cap at len (LargeGroup l d) n h = second-cap at _ _ len (h refl) (λ e. let l = known-low at 4 e in omega arith)
headed-cap at len Version n h = second-cap at _ _ len (h refl) (λ _. omega arith)

abbrev Unruled : (ℕ → ℕ) → Framed → Type 0
Unruled at r = ruled at r ≡ r

ruled-cap : (at : ℕ → ℕ) (len : ℕ) (r : Framed) → ((h n : ℕ) → r ≡ Item Genus h n → n ≤ len) → ruled at (cap len r) ≡ cap len (ruled at r)
unfolding ruled cap
ruled-cap at len (Unframed m p) g = refl
ruled-cap at len (Item (Fixed c) h n) g = pick-by (Unruled at) (ltb len n) (Unframed 4 0) (Item (Fixed c) h n) (λ _. refl) (λ _. refl)
ruled-cap at len (Item (Variable t l m) h n) g =
    pick-by (Unruled at) (ltb len n) (Unframed 4 0) (Item (Variable t l m) h n) (λ _. refl) (λ _. refl)
ruled-cap at len (Item (Group l) h n) g = pick-by (Unruled at) (ltb len n) (Unframed 4 0) (Item (Group l) h n) (λ _. refl) (λ _. refl)
ruled-cap at len (Item (Indexed c) h n) g = pick-by (Unruled at) (ltb len n) (Unframed 4 0) (Item (Indexed c) h n) (λ _. refl) (λ _. refl)
ruled-cap at len (Item Genus h n) g =
    rw (le-ltb len n (g h n refl))
    (sym (pick-by (λ (r : Framed). cap len r ≡ r) (is_ours at) (Item Genus h n) (Unframed 7 0) (λ _. rw (le-ltb len n (g h n refl))) (λ _. refl)))

module _ (t : Bool) (q : List ℕ) (at : ℕ → ℕ) (len : ℕ) (some : 1 ≤ len) (two : is_long t q endless ≡ true → 2 ≤ len)
    (same : (i : ℕ) → i < 4 → at i ≡ sextet q i) where
  two-there : Known at 0 → header_units (opens t at) ≡ 2 → 2 ≤ len
  two-there k e =
      two (long-made t q endless (omega arith)
      (rw (same 0 (omega arith), same 1 (omega arith), same 2 (omega arith), same 3 (omega arith)) at k)
      (rw (same 0 (omega arith), same 1 (omega arith), same 2 (omega arith), same 3 (omega arith)) at e))

  frame-cap : frame_with (opening_by t) at len ≡ cap len (frame_with (opening_by t) at endless)
  unfolding frame_with
  frame-cap =
      rw (le-ltb len 1 some)
      (known2 (cap len) (cap-unframed len) at 0 (headed (opens t at) at len) (headed (opens t at) at endless)
      (λ k. headed-cap at len (opens t at) (near_of t at k) (two-there k)))

  genus-fits : (r : Framed) → Good (frame_with (opening_by t)) at endless r → Opened t at r → (h n : ℕ) → r ≡ Item Genus h n → n ≤ len
  genus-fits r g o h n e =
      let g' : Lawful (frame_with (opening_by t)) at endless Genus h n = subst (Good (frame_with (opening_by t)) at endless) e g in
      let o' : Opened t at (Item Genus h n) = subst (Opened t at) e o in
      omega (arith, g'.shape.1, two-there o'.0 (o'.1 ∙ g'.shape.0))

  pub ruled-capped : ruled at (frame_with (opening_by t) at len) ≡ cap len (ruled at (frame_with (opening_by t) at endless))
  ruled-capped =
      ap (ruled at) frame-cap
      ∙ ruled-cap at len (frame_with (opening_by t) at endless)
      (genus-fits (frame_with (opening_by t) at endless) (frame_with-good (opening_by t) (opens_by t) at endless) (frame_opened t at endless))
