-- What framing obeys, in units, whatever table opens the first one: sizes are within bounds, and the header's sextets decide
-- wherever there is room for the item. Assumes nothing.
use Rattle.std.specs.Prelude.{ℕ, ◌+◌, ◌*◌, ◌/◌, ◌≤◌, ◌<◌, ◌≡◌, refl, List, Bool, true, false, ltb, length}
use Rattle.std.proofs.Math.Path.{ap}
use Rattle.std.proofs.Common.{◌∙◌, arith, ltb-false, le-ltb}
use Rattle.base.specs.Pick.{pick, pick-by}
use Rattle.format.specs.declared.Kind.{Kind}
use Rattle.format.specs.declared.Kind.TheVariants.{Fixed, Variable, Group, Genus, Indexed}
use Rattle.format.specs.declared.Opening.{Opening}
use Rattle.format.specs.declared.Opening.TheVariants.{Unknown, Short, Long, LargeVariable, LargeGroup, Version}
use Rattle.format.specs.declared.Framed.{Framed}
use Rattle.format.specs.declared.Framed.TheVariants.{Item, Unframed}
use Rattle.format.specs.Alphabet.{stranger_number}
use Rattle.format.specs.Registry.{opening, index_head, indexed_opening, opening_by, extent}
use Rattle.format.specs.Framing.{fit, known, second, digits4, headed, frame_with, is_ours, ruled, sextet, frame, frame_ruled, scale}
use Rattle.format.specs.Framing.{frame_indexed, frame_by, frame_next}
use Rattle.laws.specs.Alphabet.{number-some}
use Rattle.laws.specs.Registry.{Sound, IndexSound, Opens, opening-opens, indexed-opens, short-some}

-- ---- what is said of an item

-- the same first 4 h sextets
abbrev pub Same : ℕ → (ℕ → ℕ) → (ℕ → ℕ) → Type 0
Same h at at' = (i : ℕ) → i < 4 * h → at' i ≡ at i

-- a kind with a header of h units and n units in all
abbrev pub Shaped : Kind → ℕ → ℕ → Type 0
Shaped (Fixed c) h n = Sound c × (h ≡ 1) × (4 * n ≡ c.size)
Shaped (Variable t l m) h n = (l ≤ 2) × (n ≡ h + m)
Shaped (Group l) h n = Unit {0}
Shaped Genus h n = (h ≡ 2) × (n ≡ 2)
Shaped (Indexed c) h n = IndexSound c × (4 * n ≡ c.size) × (index_head c ≡ h)

-- an item that the framing f found at these sextets, with so many units left
pub record Lawful (f : (ℕ → ℕ) → ℕ → Framed) (at : ℕ → ℕ) (len : ℕ) (k : Kind) (h n : ℕ) : Type 0 where
  pub some : 0 < h
  pub few : h ≤ 2
  pub inside : h ≤ n
  pub room : n ≤ len
  pub shape : Shaped k h n
  -- the header decides, wherever there is room
  pub alike : (at' : ℕ → ℕ) (len' : ℕ) → Same h at at' → n ≤ len' → f at' len' ≡ Item k h n

abbrev pub Good : ((ℕ → ℕ) → ℕ → Framed) → (ℕ → ℕ) → ℕ → Framed → Type 0
Good f at len (Item k h n) = Lawful f at len k h n
Good f at len (Unframed n p) = Unit {0}

-- ---- units in the alphabet

-- the four sextets from i on are of the alphabet
abbrev pub Known : (ℕ → ℕ) → ℕ → Type 0
Known at i = (ltb (at i) 64 ≡ true) × (ltb (at (i + 1)) 64 ≡ true) × (ltb (at (i + 2)) 64 ≡ true) × (ltb (at (i + 3)) 64 ≡ true)

pub known_by {ℓ} : (P : Framed → Type ℓ) (at : ℕ → ℕ) (i : ℕ) (next : Framed)
    → ((j : ℕ) → ltb (at j) 64 ≡ false → P (Unframed (stranger_number (at j)) j)) → (Known at i → P next) → P (known at i next)
unfolding known
known_by P at i next bad f =
    pick-by P (ltb (at i) 64) _ _
    (λ a. pick-by P (ltb (at (i + 1)) 64) _ _
    (λ b. pick-by P (ltb (at (i + 2)) 64) _ _
    (λ c. pick-by P (ltb (at (i + 3)) 64) _ _ (λ d. f (a, b, c, d))
    (bad (i + 3)))
    (bad (i + 2)))
    (bad (i + 1)))
    (bad i)

pub known_next : (at : ℕ → ℕ) (i : ℕ) (next : Framed) → Known at i → known at i next ≡ next
unfolding known
known_next at i next k = rw (k.0, k.1, k.2, k.3)

same_known : (at at' : ℕ → ℕ) (h i : ℕ) → Same h at at' → i + 4 ≤ 4 * h → Known at i → Known at' i
same_known at at' h i s l k = rw (s i (omega arith), s (i + 1) (omega arith), s (i + 2) (omega arith), s (i + 3) (omega arith)) k

-- ---- headers

fit-good : (f : (ℕ → ℕ) → ℕ → Framed) (at : ℕ → ℕ) (k : Kind) (h n len : ℕ) → 0 < h → h ≤ 2 → h ≤ n → Shaped k h n
    → ((at' : ℕ → ℕ) (len' : ℕ) → Same h at at' → n ≤ len' → f at' len' ≡ fit k h n len') → Good f at len (fit k h n len)
unfolding fit
fit-good f at k h n len a t b w g =
    pick-by (Good f at len) (ltb len n) (Unframed 4 0) (Item k h n) (λ _. tt)
    (λ e. record {
      some = a;
      few = t;
      inside = b;
      room = ltb-false len n e;
      shape = w;
      alike = λ at' len' s l. g at' len' s l ∙ ap (λ b'. pick b' (Unframed 4 0) (Item k h n)) (le-ltb len' n l);
    })

second-next : (at : ℕ → ℕ) (len : ℕ) (next : Framed) → 2 ≤ len → Known at 4 → second at len next ≡ next
unfolding second
second-next at len next l k = rw (le-ltb len 2 l) (known_next at 4 next k)

same_digits : (at at' : ℕ → ℕ) → Same 2 at at' → digits4 at' ≡ digits4 at
same_digits at at' s = rw (s 4 (omega arith), s 5 (omega arith), s 6 (omega arith), s 7 (omega arith))

-- a header of two units, of a kind and a full size that the second one's digits give
abbrev pub long : (ℕ → Kind) → (ℕ → ℕ) → (ℕ → ℕ) → ℕ → Framed
long kind size at len = second at len (fit (kind (digits4 at)) 2 (size (digits4 at)) len)

long-good : (kind : ℕ → Kind) (size : ℕ → ℕ) → ((m : ℕ) → 2 ≤ size m) → ((m : ℕ) → Shaped (kind m) 2 (size m)) → (at : ℕ → ℕ) (len : ℕ)
    → Good (long kind size) at len (long kind size at len)
unfolding second
long-good kind size big shaped at len =
    pick-by (Good (long kind size) at len) (ltb len 2) _ _ (λ _. tt) (λ _. known_by (Good (long kind size) at len) at 4 _ (λ j b. tt) (λ k.
    fit-good (long kind size) at (kind (digits4 at)) 2 (size (digits4 at)) len (omega arith) (omega arith) (big _) (shaped _)
    (λ at' len' s l. second-next at' len' _ (omega (arith, big (digits4 at))) (same_known at at' 2 4 s (omega arith) k)
    ∙ ap (λ (m : ℕ). fit (kind m) 2 (size m) len') (same_digits at at' s))))

short-shaped : (k : Kind) (n : ℕ) → Opens (Short k n) → Shaped k 1 n
short-shaped (Fixed c) n o = (o.0, refl, o.1)
short-shaped (Variable t l m) n o = (o.1, o.0)
short-shaped (Group l) n o = tt
short-shaped Genus n o = absurd o
short-shaped (Indexed c) n o = o

-- a header of two units that says all by the first
long-opens : (k : Kind) (n : ℕ) → Opens (Long k n) → (2 ≤ n) × Shaped k 2 n
long-opens (Fixed c) n o = absurd o
long-opens (Variable t l m) n o = absurd o
long-opens (Group l) n o = absurd o
long-opens Genus n o = absurd o
long-opens (Indexed c) n o = (omega (arith, o.0.long, o.1, o.2), o)

headed-good : (o : Opening) → Opens o → (at : ℕ → ℕ) (len : ℕ) → Good (headed o) at len (headed o at len)
unfolding headed extent
headed-good Unknown o at len = tt
headed-good (Short k n) o at len =
    fit-good (headed (Short k n)) at k 1 n len (omega arith) (omega arith) (short-some k n o) (short-shaped k n o) (λ at' len' s l. refl)
headed-good (Long k n) o at len =
    let w = long-opens k n o in
    long-good (λ m. k) (λ m. n) (λ m. w.0) (λ m. w.1) at len
headed-good (LargeVariable t l) o at len = long-good (Variable t l) (λ m. 2 + m) (λ m. omega arith) (λ m. (o, refl)) at len
headed-good (LargeGroup l d) o at len = long-good (λ m. Group l) (λ m. 2 + (d * 16777216 + m)) (λ m. omega arith) (λ m. tt) at len
headed-good Version o at len = long-good (λ m. Genus) (λ m. 2) (λ m. omega arith) (λ m. (refl, refl)) at len

-- ---- framing, and framing where 7 is asked, over a table of openings

same-ours : (at at' : ℕ → ℕ) → Same 2 at at' → is_ours at' ≡ is_ours at
unfolding is_ours
same-ours at at' s =
    rw (s 2 (omega arith), s 3 (omega arith), s 4 (omega arith), s 5 (omega arith), s 6 (omega arith), s 7 (omega arith))

abbrev pub ruled_with : (ℕ → ℕ → ℕ → ℕ → Opening) → (ℕ → ℕ) → ℕ → Framed
ruled_with op at len = ruled at (frame_with op at len)

-- what is lawful by one framing is so by another that finds it wherever the header is the same
moved : (f g : (ℕ → ℕ) → ℕ → Framed) (at : ℕ → ℕ) (len : ℕ) (k : Kind) (h n : ℕ) → Lawful f at len k h n
    → ((at' : ℕ → ℕ) (len' : ℕ) → Same h at at' → n ≤ len' → g at' len' ≡ Item k h n) → Lawful g at len k h n
moved f g at len k h n l e =
    record { some = l.some; few = l.few; inside = l.inside; room = l.room; shape = l.shape; alike = e }

module _ (op : ℕ → ℕ → ℕ → ℕ → Opening) (opens : (a b c d : ℕ) → Opens (op a b c d)) where
  -- what a header obeys, the whole order obeys
  onward : (at : ℕ → ℕ) (len : ℕ) → Known at 0 → (r : Framed) → Good (headed (op (at 0) (at 1) (at 2) (at 3))) at len r
      → Good (frame_with op) at len r
  unfolding frame_with
  onward at len k (Unframed n p) g = tt
  onward at len k (Item kind h n) g =
      moved _ (frame_with op) at len kind h n g
      (λ at' len' s l.
      let e0 : at' 0 ≡ at 0 = s 0 (omega arith) in
      let e1 : at' 1 ≡ at 1 = s 1 (omega arith) in
      let e2 : at' 2 ≡ at 2 = s 2 (omega arith) in
      let e3 : at' 3 ≡ at 3 = s 3 (omega arith) in
      rw (le-ltb len' 1 (omega arith))
      (known_next at' 0 _ (same_known at at' h 0 s (omega arith) k) ∙ rw (e0, e1, e2, e3) (g.alike at' len' s l)))

  pub frame_with-good : (at : ℕ → ℕ) (len : ℕ) → Good (frame_with op) at len (frame_with op at len)
  unfolding frame_with
  frame_with-good at len =
      let o : Opening = op (at 0) (at 1) (at 2) (at 3) in
      pick-by (Good (frame_with op) at len) (ltb len 1) _ _ (λ _. tt) (λ _. known_by (Good (frame_with op) at len) at 0 _ (λ j b. tt)
      (λ k. onward at len k (headed o at len) (headed-good o (opens (at 0) (at 1) (at 2) (at 3)) at len)))

  -- an item that 7 lets pass wherever the header is the same
  passed : (at : ℕ → ℕ) (len : ℕ) (k : Kind) (h n : ℕ) → Lawful (frame_with op) at len k h n
      → ((at' : ℕ → ℕ) → Same h at at' → ruled at' (Item k h n) ≡ Item k h n) → Lawful (ruled_with op) at len k h n
  passed at len k h n g p =
      moved (frame_with op) (ruled_with op) at len k h n g (λ at' len' s l. ap (ruled at') (g.alike at' len' s l) ∙ p at' s)

  ruled-good : (at : ℕ → ℕ) (len : ℕ) (r : Framed) → Good (frame_with op) at len r → Good (ruled_with op) at len (ruled at r)
  unfolding ruled
  ruled-good at len (Unframed n p) g = tt
  ruled-good at len (Item (Fixed c) h n) g = passed at len (Fixed c) h n g (λ at' s. refl)
  ruled-good at len (Item (Variable t l m) h n) g = passed at len (Variable t l m) h n g (λ at' s. refl)
  ruled-good at len (Item (Group l) h n) g = passed at len (Group l) h n g (λ at' s. refl)
  ruled-good at len (Item (Indexed c) h n) g = passed at len (Indexed c) h n g (λ at' s. refl)
  ruled-good at len (Item Genus h n) g =
      pick-by (Good (ruled_with op) at len) (is_ours at) (Item Genus h n) (Unframed 7 0)
      (λ e. passed at len Genus h n g
      (λ at' s. ap (λ b. pick b (Item Genus h n) (Unframed 7 0)) (same-ours at at' (rw g.shape.0 at s) ∙ e)))
      (λ e. tt)

  pub ruled_with-good : (at : ℕ → ℕ) (len : ℕ) → Good (ruled_with op) at len (ruled_with op at len)
  ruled_with-good at len = ruled-good at len (frame_with op at len) (frame_with-good at len)

-- ---- a refusal has a number, and stands at the item's start unless a character is outside the alphabet

abbrev pub Told : (ℕ → ℕ) → Framed → Type 0
Told at (Item k h n) = Unit {0}
Told at (Unframed n p) = (0 < n) × (((i : ℕ) → at i < 64) → p ≡ 0)

bad-told : (at : ℕ → ℕ) (j : ℕ) → ltb (at j) 64 ≡ false → Told at (Unframed (stranger_number (at j)) j)
bad-told at j b = (number-some (at j), λ low. absurd (omega (arith, low j, ltb-false (at j) 64 b)))

fit-told : (at : ℕ → ℕ) (k : Kind) (h n len : ℕ) → Told at (fit k h n len)
unfolding fit
fit-told at k h n len = pick-by (Told at) (ltb len n) _ _ (λ _. (omega arith, λ _. refl)) (λ _. tt)

second-told : (at : ℕ → ℕ) (len : ℕ) (next : Framed) → Told at next → Told at (second at len next)
unfolding second
second-told at len next t =
    pick-by (Told at) (ltb len 2) _ _ (λ _. (omega arith, λ _. refl)) (λ _. known_by (Told at) at 4 next (bad-told at) (λ _. t))

headed-told : (o : Opening) (at : ℕ → ℕ) (len : ℕ) → Told at (headed o at len)
unfolding headed
headed-told Unknown at len = (omega arith, λ _. refl)
headed-told (Short k n) at len = fit-told at k 1 n len
headed-told (Long k n) at len = second-told at len _ (fit-told at k 2 _ len)
headed-told (LargeVariable t l) at len = second-told at len _ (fit-told at _ 2 _ len)
headed-told (LargeGroup l d) at len = second-told at len _ (fit-told at _ 2 _ len)
headed-told Version at len = second-told at len _ (fit-told at _ 2 _ len)

pub frame_with-told : (op : ℕ → ℕ → ℕ → ℕ → Opening) (at : ℕ → ℕ) (len : ℕ) → Told at (frame_with op at len)
unfolding frame_with
frame_with-told op at len =
    pick-by (Told at) (ltb len 1) _ _ (λ _. (omega arith, λ _. refl))
    (λ _. known_by (Told at) at 0 _ (bad-told at) (λ _. headed-told _ at len))

pub ruled-told : (at : ℕ → ℕ) (r : Framed) → Told at r → Told at (ruled at r)
unfolding ruled
ruled-told at (Unframed n p) t = t
ruled-told at (Item (Fixed c) h n) t = tt
ruled-told at (Item (Variable v l m) h n) t = tt
ruled-told at (Item (Group l) h n) t = tt
ruled-told at (Item (Indexed c) h n) t = tt
ruled-told at (Item Genus h n) t =
    pick-by (Told at) (is_ours at) (Item Genus h n) (Unframed 7 0) (λ _. tt) (λ _. (omega arith, λ _. refl))

-- ---- the same on a list of sextets

pub opens_by : (t : Bool) (a b c d : ℕ) → Opens (opening_by t a b c d)
opens_by true = indexed-opens
opens_by false = opening-opens

pub by-with : (t : Bool) (s : List ℕ) → frame_by t s ≡ frame_with (opening_by t) (sextet s) (length s / 4)
unfolding frame frame_indexed
by-with true s = refl
by-with false s = refl

pub by-good : (t : Bool) (s : List ℕ) → Good (frame_with (opening_by t)) (sextet s) (length s / 4) (frame_by t s)
by-good t s = rw (by-with t s) (frame_with-good (opening_by t) (opens_by t) (sextet s) (length s / 4))

pub by-told : (t : Bool) (s : List ℕ) → Told (sextet s) (frame_by t s)
by-told t s = rw (by-with t s) (frame_with-told (opening_by t) (sextet s) (length s / 4))

-- and where 7 may be asked
abbrev pub next_with : Bool → Bool → (ℕ → ℕ) → ℕ → Framed
next_with t true = ruled_with (opening_by t)
next_with t false = frame_with (opening_by t)

pub next_with-good : (t first : Bool) (at : ℕ → ℕ) (len : ℕ) → Good (next_with t first) at len (next_with t first at len)
next_with-good t true = ruled_with-good (opening_by t) (opens_by t)
next_with-good t false = frame_with-good (opening_by t) (opens_by t)

pub next-with : (t first : Bool) (s : List ℕ) → frame_next t first s ≡ next_with t first (sextet s) (length s / 4)
unfolding frame_next
next-with t true s = ap (ruled (sextet s)) (by-with t s)
next-with t false s = by-with t s

pub next-good : (t first : Bool) (s : List ℕ) → Good (next_with t first) (sextet s) (length s / 4) (frame_next t first s)
next-good t first s = rw (next-with t first s) (next_with-good t first (sextet s) (length s / 4))

pub next-told : (t first : Bool) (s : List ℕ) → Told (sextet s) (frame_next t first s)
unfolding frame_next
next-told t true s = ruled-told (sextet s) (frame_by t s) (by-told t s)
next-told t false s = by-told t s

-- the master table's
pub frame-good : (s : List ℕ) → Good (frame_with opening) (sextet s) (length s / 4) (frame s)
frame-good s = by-good false s

pub frame_ruled-good : (s : List ℕ) → Good (ruled_with opening) (sextet s) (length s / 4) (frame_ruled s)
unfolding frame_ruled frame_next
frame_ruled-good s = next-good false true s

pub frame-told : (s : List ℕ) → Told (sextet s) (frame s)
frame-told s = by-told false s

pub frame_ruled-told : (s : List ℕ) → Told (sextet s) (frame_ruled s)
unfolding frame_ruled frame_next
frame_ruled-told s = next-told false true s

-- ---- counted in elements, u to the unit

pub unscale : (u : ℕ) (r : Framed) {k : Kind} {h n : ℕ} → scale u r ≡ Item k h n
    → (h' : ℕ) × (n' : ℕ) × (r ≡ Item k h' n') × (h ≡ h' * u) × (n ≡ n' * u)
unfolding scale
unscale u (Item k h' n') e = (h', n', cc, cc, cc)
unscale u (Unframed m p) e = let z : ◌≡◌ {A = ℕ} 0 1 = cc in absurd (omega arith)

pub unscale-unframed : (u : ℕ) (r : Framed) (n p : ℕ) → scale u r ≡ Unframed n p → r ≡ Unframed n p
unfolding scale
unscale-unframed u (Unframed m q) n p e = e
unscale-unframed u (Item k h m) n p e = let z : ◌≡◌ {A = ℕ} 0 1 = cc in absurd (omega arith)
