-- The next item of a group at a unit of a stream, over either form. Assumes nothing.
use Prim.Native.Nat.{ℕ, ◌+◌, ◌-◌, ◌*◌, ◌/◌, ◌≤◌, ◌<◌}
use mathlib.Core.Path.{◌≡◌, sym, ◌∙◌, subst}
use mathlib.Core.Bool.{Bool, true}
use mathlib.Core.List.{List}
use native.Mathlib.Omega.{arith}
use native.Mathlib.Nat.{mul_comm, mul-le-mul_left, le_trans, le-div_iff_mul-le}
use mir.Syntax.{w64}
use mir.Val as val
use lib.ListN.{length, take, drop, length-take, length-drop}
use Rattle.format.specs.declared.Form.{Form}
use Rattle.format.specs.declared.Form.TheVariants.{Text, Binary}
use Rattle.format.specs.declared.Kind.{Kind}
use Rattle.format.specs.declared.Framed.{Framed}
use Rattle.format.specs.declared.Framed.TheVariants.{Item, Unframed}
use Rattle.format.specs.Units.{Domain, domain, text, binary, text_sextets, binary_sextets}
use Rattle.laws.specs.Domains.{Reader, reader, text-reader, binary-reader}
use Rattle.laws.specs.Levels.{part}
use Rattle.report_next.specs.Next.{next_own, is_entered, Found}
use Rattle.report_next.proofs.Laws.{fits, length-sextets, length-binary, text-part, binary-part, next-near, found-refused, found-item, enters}
use Rattle.report_found.specs.Limits.{longest}
use Rattle.report_found.specs.Finds.{Inside, Here, Fits, Finds, Near, moved}

-- ---- either form

text_in : (f : Form) (s : List ℕ) (at stop : ℕ) → Inside (domain f) s at stop → f ≡ Text → Inside text s at stop
text_in f s at stop I e = subst (λ (g : Form). Inside (domain g) s at stop) e I

binary-in : (f : Form) (s : List ℕ) (at stop : ℕ) → Inside (domain f) s at stop → f ≡ Binary → Inside binary s at stop
binary-in f s at stop I e = subst (λ (g : Form). Inside (domain g) s at stop) e I

units_small : (f : Form) (s : List ℕ) (at stop : ℕ) → Inside (domain f) s at stop → stop ≤ 1398101
units_small Text s at stop I = omega (arith, I.room, I.few)
units_small Binary s at stop I = omega (arith, I.room, I.few)

-- elements of either form are within a number
pub at-fits : (f : Form) (s : List ℕ) (at stop u : ℕ) → Inside (domain f) s at stop → u ≤ 4 → val.Fits w64 (u * at)
at-fits f s at stop u I h = omega (arith, I.order, units_small f s at stop I, mul-le-mul_left at h, mul_comm at u, mul_comm at 4)

pub stop-fits : (f : Form) (s : List ℕ) (at stop u : ℕ) → Inside (domain f) s at stop → u ≤ 4 → val.Fits w64 (u * stop)
stop-fits f s at stop u I h = omega (arith, units_small f s at stop I, mul-le-mul_left stop h, mul_comm stop u, mul_comm stop 4)

module _ (d : Domain) (G : Reader d) (s : List ℕ) (at stop : ℕ) (I : Inside d s at stop) where
  pub in-units : stop ≤ length s / d.unit
  in-units = (le-div_iff_mul-le G.pos).1 (rw (mul_comm stop d.unit) I.room)

  pub long : 4 * stop ≤ length (d.sextets s)
  long = omega (arith, in-units, G.units s)

-- ---- the next item

module _ (s : List ℕ) (t : Bool) (l : ℕ) (first : Bool) (at stop : ℕ) (h : 4 * stop ≤ length s) (lt : at < stop) where
  pub found-by : (f : Framed) → f ≡ next_own t first (part s at stop) l → (r : Framed) → r ≡ moved (4 * at) f → Found s t l first at stop r
  unfolding moved
  found-by (Unframed m p) e r q = rw q (found-refused s t l first at stop h lt m p (sym e))
  found-by (Item k n m) e r q = rw q (found-item s t l first at stop k n m (sym e))

  found-sizes : (f : Framed) → Found s t l first at stop f → (k : Kind) (a n : ℕ) → f ≡ Item k a n → (0 < a) × (a ≤ n) × (at + n ≤ stop)
  found-sizes f F k a n e = fits s t l first at stop h lt k a n (subst (Found s t l first at stop) e F).framed

  found-levels : (f : Framed) → Found s t l first at stop f → (k : Kind) (a n : ℕ) → f ≡ Item k a n → is_entered k ≡ true → 0 < l
  found-levels f F k a n e = enters s t l first at stop h lt k a n (subst (Found s t l first at stop) e F)

-- ---- a place counted on

pub moved_item : (by : ℕ) (f : Framed) (k : Kind) (h n : ℕ) → f ≡ Item k h n → f ≡ moved by f
unfolding moved
moved_item by f k h n e = rw e

pub moved_on : (by : ℕ) (f : Framed) (m p : ℕ) → f ≡ Unframed m p → Unframed m (by + p) ≡ moved by f
unfolding moved
moved_on by f m p e = rw e

near : (t first : Bool) (x : List ℕ) (l : ℕ) (f : Framed) → f ≡ next_own t first x l → length x ≤ 5592404 → (m p : ℕ) → f ≡ Unframed m p
    → p ≤ 5592412
near t first x l f e h m p q = omega (arith, next-near t first x l m p (sym e ∙ q))

-- the part is within the stream
pub text-end : (f : Form) (s : List ℕ) (at stop : ℕ) → Inside (domain f) s at stop → f ≡ Text → 4 * stop ≤ length s
text-end f s at stop I q = (text_in f s at stop I q).room

pub binary-end : (f : Form) (s : List ℕ) (at stop : ℕ) → Inside (domain f) s at stop → f ≡ Binary → 3 * stop ≤ length s
binary-end f s at stop I q = (binary-in f s at stop I q).room

pub inside_on : (d : Domain) (s : List ℕ) (at stop i : ℕ) → Inside d s at stop → i ≤ stop → Inside d s i stop
inside_on d s at stop i I h = record { order = h; room = I.room; few = I.few }

-- a group's contents, within what is around it
pub inside-part : (d : Domain) (s : List ℕ) (at stop i to : ℕ) → Inside d s at stop → i ≤ to → to ≤ stop → Inside d s i to
inside-part d s at stop i to I h g =
    record { order = h; room = le_trans (mul-le-mul_left d.unit g) I.room; few = I.few }

-- ---- what the steps ask, over either form

module _ (f : Form) (s : List ℕ) (t : Bool) (l : ℕ) (first : Bool) (at stop : ℕ) (I : Inside (domain f) s at stop) where
  pub wide : 4 * stop ≤ length ((domain f).sextets s)
  wide = long (domain f) (reader f) s at stop I

  found-finds : at < stop → (r : Framed) → Found ((domain f).sextets s) t l first at stop r → Finds f s t l first at stop r
  found-finds lt r F = record { fits = record { each = each }; right = λ _ _. F }
    where
      each : (k : Kind) (a n : ℕ) → r ≡ Item k a n → (0 < a) × (a ≤ n) × (at + n ≤ stop) × (is_entered k ≡ true → 0 < l)
      each k a n e =
          let z = found-sizes ((domain f).sextets s) t l first at stop wide lt r F k a n e in
          (z.0, z.1, z.2, found-levels ((domain f).sextets s) t l first at stop wide lt r F k a n e)

-- the next item of a text's part, and of a binary's
module _ (f : Form) (s : List ℕ) (at stop : ℕ) (I : Inside (domain f) s at stop) (t first : Bool) (l : ℕ) (g : Framed) where
  module _ (q : f ≡ Text) (e : g ≡ next_own t first (text_sextets (take (4 * stop - 4 * at) (drop (4 * at) s))) l) where
    pub text-near : Near (4 * at) g
    text-near =
        let i = text_in f s at stop I q in
        let x = take (4 * stop - 4 * at) (drop (4 * at) s) in
        record {
          few = omega (arith, i.order, i.room, i.few);
          near = near t first (text_sextets x) l g e (omega (arith, i.few, length-sextets x, length-take (4 * stop - 4 * at) (drop (4 * at) s), length-drop (4 * at) s));
        }

    pub text-found : at < stop → (r : Framed) → r ≡ moved (4 * at) g → Finds f s t l first at stop r
    text-found lt r m =
        let i = text_in f s at stop I q in
        found-finds f s t l first at stop I lt r
        (rw q (found-by (text_sextets s) t l first at stop (long text text-reader s at stop i) lt g (rw (text-part s at stop i.order) at e) r m))

  module _ (q : f ≡ Binary) (e : g ≡ next_own t first (binary_sextets (take (3 * stop - 3 * at) (drop (3 * at) s))) l) where
    pub binary-near : Near (4 * at) g
    binary-near =
        let i = binary-in f s at stop I q in
        let x = take (3 * stop - 3 * at) (drop (3 * at) s) in
        record {
          few = omega (arith, i.order, i.room, i.few);
          near = near t first (binary_sextets x) l g e (omega (arith, i.few, length-binary x, length-take (3 * stop - 3 * at) (drop (3 * at) s), length-drop (3 * at) s));
        }

    pub binary-found : at < stop → (r : Framed) → r ≡ moved (4 * at) g → Finds f s t l first at stop r
    binary-found lt r m =
        let i = binary-in f s at stop I q in
        found-finds f s t l first at stop I lt r
        (rw q (found-by (binary_sextets s) t l first at stop (long binary binary-reader s at stop i) lt g (rw (binary-part s at stop i.order i.room) at e) r m))

-- ---- what a found item is within

module _ {l at stop : ℕ} {g : Framed} (F : Fits l at stop g) (k : Kind) (h n : ℕ) (e : g ≡ Item k h n) where
  pub head-fits : val.Fits w64 stop → val.Fits w64 (at + h)
  head-fits s = omega (arith, (F.each k h n e).1, (F.each k h n e).2)

  pub size_fits : val.Fits w64 stop → val.Fits w64 (at + n)
  size_fits s = omega (arith, (F.each k h n e).2)

  pub inner-inside : (d : Domain) (s : List ℕ) → Inside d s at stop → Inside d s (at + h) (at + n)
  inner-inside d s I = let w = F.each k h n e in inside-part d s at stop (at + h) (at + n) I (omega (arith, w.1)) w.2

  pub inner-levels : (b : Bool) → b ≡ is_entered k → b ≡ true → 0 < l
  inner-levels b is t = (F.each k h n e).3 (sym is ∙ t)

  pub inner-falls : (b : Bool) → b ≡ is_entered k → b ≡ true → (t : ℕ) → 2 * l ≡ t → 2 * (l - 1) + 1 < t
  inner-falls b is y t q = omega (arith, inner-levels b is y)

none-fits : (l at stop m p : ℕ) → Fits l at stop (Unframed m p)
none-fits l at stop m p = record { each = λ k h n e. absurd (other-variant k h n e) }
  where
    other-variant : (k : Kind) (h n : ℕ) → Unframed m p ≡ Item k h n → ⊥
    other-variant k h n e = let y : ◌≡◌ {A = ℕ} 0 1 = cc in omega arith

-- what is past the end, or too long
module _ (f : Form) (s : List ℕ) (t : Bool) (l : ℕ) (first : Bool) (at stop m p : ℕ) where
  pub past-limit : (n : ℕ) → n ≡ longest → n < length s → Finds f s t l first at stop (Unframed m p)
  past-limit n e h = record { fits = none-fits l at stop m p; right = λ I _. absurd (omega (arith, I.few)) }

  pub past_end : (u : ℕ) → u ≡ length s / (domain f).unit → u < stop → Finds f s t l first at stop (Unframed m p)
  past_end u e h =
      record { fits = none-fits l at stop m p; right = λ I _. absurd (omega (arith, in-units (domain f) (reader f) s at stop I)) }

  pub none_left : stop ≤ at → Finds f s t l first at stop (Unframed m p)
  none_left h = record { fits = none-fits l at stop m p; right = λ _ lt. absurd (omega arith) }

-- ---- what the calls look at

pub inside-units : (f : Form) (s : List ℕ) (at stop u m : ℕ) → u ≡ length s / (domain f).unit → m ≡ longest → stop ≤ u → length s ≤ m
    → at ≤ stop
    → Inside (domain f) s at stop
inside-units f s at stop u m e q h few le = record {
  order = le;
  room = rw (mul_comm (domain f).unit stop) ((le-div_iff_mul-le (reader f).pos).0 (rw e at h));
  few = rw (← q) few;
}

pub here : (f : Form) (s : List ℕ) (at stop u m : ℕ) → stop ≤ u → length s ≤ m → at < stop → u ≡ length s / (domain f).unit
    → m ≡ longest
    → Here f s at stop
here f s at stop u m h few lt e q = record { inside = inside-units f s at stop u m e q h few (omega arith); left = lt }
