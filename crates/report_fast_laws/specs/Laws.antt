-- What the fast way's steps say, over either form. Assumes nothing.
use Rattle.std.specs.Prelude.{ℕ, ◌+◌, ◌-◌, ◌*◌, ◌/◌, ◌≤◌, ◌<◌, min, ◌≡◌, refl, Bool, true, false, List, ltb, eqb, length, take, drop}
use Rattle.std.proofs.Common.{sym, ◌∙◌, subst, arith, mul_comm, mul-le-mul_left, le_trans, le-div_iff_mul-le, length-drop, get_or-drop, get_or-take, le-ltb, eqb-true, pos_of_ne-zero}
use Rattle.std.proofs.Math.Nat.{min-le_left, min-le_right}
use Rattle.base.specs.Pick.{pick}
use Rattle.format.specs.declared.Form.{Form}
use Rattle.format.specs.declared.Verdict.TheVariants.{Accepted}
use Rattle.format.specs.declared.Kind.{Kind}
use Rattle.format.specs.declared.Framed.{Framed}
use Rattle.format.specs.declared.Framed.TheVariants.{Item}
use Rattle.format.specs.Units.{Domain, domain}
use Rattle.format.specs.Registry.{opening, is_indexed, is_overrideable}
use Rattle.format.specs.Framing.{frame, frame_ruled, frame_next, sextet}
use Rattle.format.specs.Judging.{max_depth}
use Rattle.laws.specs.Framing.{Same, Lawful, Good, ruled_with, frame_ruled-good}
use Rattle.laws.specs.Domains.{reader}
use Rattle.laws.specs.Levels.{part, any-item, item-sizes, level, Taken, taken-sizes}
use Rattle.runs.specs.Plain.{plain_table, plain_at, small_at, group_at, letter_at}
use Rattle.runs.specs.Levels.{Clear, clear-less, plain-taken, small-taken, small-is-group}
use Rattle.runs_value.specs.Values.{valued_at}
use Rattle.runs_value.specs.Taken.{valued-taken}
use Rattle.runs_indexed.specs.Indexed.{indexed_at}
use Rattle.runs_indexed.proofs.Taken.{indexed-taken}
use Rattle.report_next.specs.Next.{is_entered, is_ruled, holds_indexed}
use Rattle.report_found.specs.Limits.{longest}
use Rattle.report_found.specs.Finds.{Inside, Fits, Finds}
use Rattle.report_item.specs.Items.{Takes}
use Rattle.report_found.proofs.Laws.{wide, inner-levels}
use Rattle.report_item.proofs.Laws.{judged-good, Left, left-start, left_end, left-more, taken-found, taken-entered}
use Rattle.runs_tables.specs.declared.Tables.{Tables}
use Rattle.runs_tables.specs.Lent.{Lent}
use Rattle.report_fast_laws.specs.Fast.{Reach, Ready, Accepts, Signed, Take, Passes}
use Rattle.report_fast_laws.specs.Fast as Fast

-- ---- the next item, as first units tell it

module _ (f : Form) (tables : Tables) (s : List ℕ) (l at stop : ℕ) (I : Inside (domain f) s at stop) (lt : at < stop)
    (R : Ready f tables s at stop) where
  abbrev own : List ℕ
  own = (domain f).sextets s

  long : 4 * stop ≤ length own
  long = wide f s false l false at stop I

  pub by-small : (first : Bool) (n : ℕ) (t : Bool) → t ≡ is_indexed (letter_at own at) → small_at own at ≡ n → 0 < n → n ≤ stop - at → 0 < l
      → (m : Bool) → m ≡ is_overrideable (letter_at own at)
      → level own t (l - 1) m (at + 1) (at + n) ≡ Accepted → Takes own false l first at stop n
  by-small first n t o e p h q m z v _ = small-taken own l stop long first at n stop t o e p (omega arith) q R.clear lt (rw z at v)

  by-plain : (first : Bool) (k : ℕ) → plain_at plain_table own at ≡ k → k ≤ stop - at → Takes own false l first at stop k
  by-plain first k e h p = plain-taken own l stop long first at k stop e p (omega arith) R.clear (omega arith)

  by-indexed : (first : Bool) (k : ℕ) → indexed_at own at ≡ k → k ≤ stop - at → Takes own true l first at stop k
  by-indexed first k e h p = indexed-taken own l stop long first at k stop e p (omega arith) R.clear (omega arith)

  by_units : (first : Bool) (k : ℕ) → valued_at own at ≡ k → k ≤ stop - at → Takes own false l first at stop k
  by_units first k e h p = valued-taken own l stop long first at k stop e p (omega arith) R.clear (omega arith)

pub ready-part : (f : Form) (tables : Tables) (s : List ℕ) (at stop i to : ℕ) → Ready f tables s at stop → at ≤ i → to ≤ stop
    → Ready f tables s i to
ready-part f tables s at stop i to R a b =
    record { few = R.few; lent = R.lent; clear = clear-less ((domain f).sextets s) at stop i to R.clear a b }

-- ---- units within a stream

pub inside : {f : Form} {tables : Tables} {s : List ℕ} {at stop : ℕ} {i to : ℕ} → Reach f s at stop → Ready f tables s i to → Inside (domain f) s at stop
inside {f} {tables} {s} {at} {stop} W R = record {
  order = W.order;
  room = rw (mul_comm (domain f).unit stop) ((le-div_iff_mul-le (reader f).pos).0 W.room);
  few = R.few;
}

pub reach-on : {f : Form} {s : List ℕ} {at stop : ℕ} (i : ℕ) → Reach f s at stop → i ≤ stop → Reach f s i stop
reach-on i W h = record { order = h; room = W.room }

-- a group's contents, within what is around it
pub reach-part : {f : Form} {s : List ℕ} {at stop : ℕ} (i to : ℕ) → Reach f s at stop → i ≤ to → to ≤ stop → Reach f s i to
reach-part i to W h g = record { order = h; room = omega (arith, W.room) }

pub reach-units : {f : Form} {s : List ℕ} {at stop u : ℕ} → u ≡ length s / (domain f).unit → stop ≤ u → at ≤ stop → Reach f s at stop
reach-units e h l = record { order = l; room = omega (arith, e, h) }

-- false says nothing
pub none_passes : {f : Form} {tables : Tables} {s : List ℕ} {t : Bool} {l : ℕ} {first : Bool} {at stop : ℕ}
    → Passes f tables s t l first at stop false
none_passes = record { right = λ _ e. absurd (let y : ◌≡◌ {A = ℕ} 0 1 = cc in omega arith) }

-- ---- a turn of the loop over a group's items

pub turn-left : (f : Form) (s : List ℕ) (t : Bool) (l : ℕ) (first : Bool) (at stop : ℕ) → Inside (domain f) s at stop → (ruled : Bool) (i n : ℕ)
    → Takes ((domain f).sextets s) t l ruled i stop n → ((n ≡ 0) → ⊥) → Left ((domain f).sextets s) t l first at stop ruled i
    → Left ((domain f).sextets s) t l first at stop false (i + n)
turn-left f s t l first at stop I ruled i n k p w =
    left-more ((domain f).sextets s) t l first at stop ruled i w n (wide f s t l first at stop I) (k (omega (arith, pos_of_ne-zero p)))

-- ---- at top level

-- an item is framed alike where more follows
ruled-further : (x y : List ℕ) (k : Kind) (h n : ℕ) → frame_ruled x ≡ Item k h n → Same h (sextet x) (sextet y) → n ≤ length y / 4
    → frame_ruled y ≡ Item k h n
unfolding frame_ruled frame
ruled-further x y k h n e same room =
    let g : Lawful (ruled_with opening) (sextet x) (length x / 4) k h n = subst (Good (ruled_with opening) (sextet x) (length x / 4)) e (frame_ruled-good x) in
    g.alike (sextet y) (length y / 4) same room

-- a taken item, of the stream
pub taken-good : (f : Form) (s : List ℕ) (at stop r : ℕ) → Inside (domain f) s at stop → Taken ((domain f).sextets s) false max_depth true at stop r
    → Fast.Good (domain f) s at r
unfolding frame_next frame_ruled
taken-good f s at stop r I t =
    let d : Domain = domain f in
    let S : List ℕ = d.sextets s in
    let long = wide f s false max_depth true at stop I in
    let b = item-sizes false (part S at stop) t.kind t.head r (any-item false true (part S at stop) t.kind t.head r t.framed) in
    let w = taken-sizes S false max_depth true at stop r long I.order t in
    let u : d.unit * at ≡ at * d.unit = mul_comm d.unit at in
    let z : at * 4 ≡ 4 * at = omega arith in
    let rest : d.sextets (drop (d.unit * at) s) ≡ drop (4 * at) S =
    rw u ((reader f).dropped s at (rw (← u) (le_trans (mul-le-mul_left d.unit I.order) I.room)) ∙ rw z) in
    let more : frame_ruled (drop (4 * at) S) ≡ Item t.kind t.head r =
    ruled-further (part S at stop) (drop (4 * at) S) t.kind t.head r t.framed
    (λ i h. get_or-drop (4 * at) S i 0 ∙ sym (get_or-drop (4 * at) (take (4 * stop) S) i 0 ∙ get_or-take (4 * stop) S (4 * at + i) 0 (omega (arith, b.1, w.1))))
    (omega (arith, length-drop (4 * at) S, w.1)) in
    let framed : frame_ruled (d.sextets (drop (d.unit * at) s)) ≡ Item t.kind t.head r = rw rest more in
    record { kind = t.kind; head = t.head; framed = framed; judged = judged-good d (reader f) s at r t.kind t.head framed t.judged }

-- within the end of what is known, where so many units are left
module _ (f : Form) (tables : Tables) (s : List ℕ) (at clean units stop : ℕ) (e : stop ≡ min clean units) (is-u : units ≡ length s / (domain f).unit)
    (here : at < stop) where
  pub top-reach : Reach f s at stop × (at < stop)
  top-reach = (record { order = omega arith; room = rw (← is-u, e) (min-le_right clean units) }, here)

  pub top-good : (r : ℕ) → Take f tables s false max_depth true at stop r
      → (r ≤ length s / (domain f).unit - at)
      × (length s ≤ longest → Lent tables → Clear ((domain f).sextets s) at clean → Accepts (domain f) s at r)
  top-good r t = (
    omega (arith, t.few, min-le_right clean units),
    λ l L K p.
        let R : Ready f tables s at stop = record { few = l; lent = L; clear = clear-less ((domain f).sextets s) at clean at stop K (omega arith) (omega (arith, min-le_left clean units)) } in
        taken-good f s at stop r (inside top-reach.0 R) (t.right R p),
  )

-- ---- a group's items

-- the items up to a unit are accepted, and what is said of all is said of those that are left
pub record Going (f : Form) (tables : Tables) (s : List ℕ) (t : Bool) (l : ℕ) (first : Bool) (at stop : ℕ) (ruled : Bool) (i : ℕ) : Type 0 where
  pub reach : Reach f s at stop
  pub from : at ≤ i
  pub to : i ≤ stop
  pub left : Ready f tables s at stop → Left ((domain f).sextets s) t l first at stop ruled i

module _ {f : Form} {tables : Tables} {s : List ℕ} {t : Bool} {l : ℕ} {first : Bool} {at stop : ℕ} where
  pub going_start : Reach f s at stop → Going f tables s t l first at stop first at
  going_start W = record { reach = W; from = omega arith; to = W.order; left = λ R. left-start _ _ _ _ _ _ W.order }

  module _ {ruled : Bool} {i : ℕ} (G : Going f tables s t l first at stop ruled i) where
    pub going-reach : i < stop → Reach f s i stop × (i < stop)
    going-reach h = (reach-on i G.reach G.to, h)

    going_more : (n : ℕ) → n ≤ stop - i → 0 < n → (Ready f tables s i stop → Takes ((domain f).sextets s) t l ruled i stop n)
        → Going f tables s t l first at stop false (i + n)
    going_more n h p k = record {
      reach = G.reach;
      from = omega (arith, G.from);
      to = omega (arith, G.to);
      left = λ R.
          turn-left f s t l first at stop (inside G.reach R) ruled i n (k (ready-part f tables s at stop i stop R G.from (omega arith))) (λ z. omega arith)
          (G.left R);
    }

    pub going-taken : (n : ℕ) → Take f tables s t l ruled i stop n → (n ≡ 0 → ⊥)
        → Going f tables s t l first at stop false (i + n)
    going-taken n k p = going_more n k.few (pos_of_ne-zero p) k.right

    -- whatever the level and the mark
    pub going-valued : (n : ℕ) → (n ≤ stop - i) × (Reach f s i stop → (m : ℕ) (b : Bool) → Take f tables s t m b i stop n) → 0 < n
        → Going f tables s t l first at stop false (i + n)
    going-valued n k p = going_more n k.0 p (k.1 (reach-on i G.reach G.to) l ruled).right

    pub going_less : (n : ℕ) → Take f tables s t l ruled i stop n → (n ≡ 0 → ⊥) → i < stop → stop - (i + n) < stop - i
    going_less n k p h = omega (arith, pos_of_ne-zero p, k.few)

    -- whatever the tables
    pub going-other : (n : ℕ) → ((v : Tables) → Take f v s t l ruled i stop n) → (n ≡ 0 → ⊥)
        → Going f tables s t l first at stop false (i + n)
    going-other n k p = going-taken n (k tables) p

    pub going_end : stop ≤ i → Passes f tables s t l first at stop true
    going_end h = record { right = λ R _. sym (left_end _ _ _ _ _ _ _ _ (G.left R) h) }

-- what a first unit tells, by the master table and by the indexed one
module _ {f : Form} {tables : Tables} {s : List ℕ} {l : ℕ} {first : Bool} {at stop : ℕ} {ruled : Bool} {i : ℕ} where
  pub going-plain : Going f tables s false l first at stop ruled i → (k : ℕ)
      → (Lent tables → plain_at plain_table ((domain f).sextets s) i ≡ k) → 0 < k → k ≤ stop - i → i < stop
      → Going f tables s false l first at stop false (i + k)
  going-plain G k e p h lt =
      going_more G k h p (λ R. by-plain f tables s l i stop (inside (going-reach G lt).0 R) lt R ruled k (e R.lent) h)

  pub going-indexed : Going f tables s true l first at stop ruled i → (k : ℕ)
      → (Lent tables → indexed_at ((domain f).sextets s) i ≡ k) → 0 < k → k ≤ stop - i → i < stop
      → Going f tables s true l first at stop false (i + k)
  going-indexed G k e p h lt =
      going_more G k h p (λ R. by-indexed f tables s l i stop (inside (going-reach G lt).0 R) lt R ruled k (e R.lent) h)

pub no-pass : (f : Form) (tables : Tables) (s : List ℕ) (t : Bool) (l : ℕ) (first : Bool) (at stop : ℕ)
    → Passes f tables s t l first at stop false
no-pass f tables s t l first at stop = record { right = λ R e. absurd (let y : ◌≡◌ {A = ℕ} 0 1 = cc in omega arith) }

-- ---- the next item

-- a group's contents, as the general way finds it
module _ {l at stop : ℕ} {g : Framed} (F : Fits l at stop g) (k : Kind) (h n : ℕ) (e : g ≡ Item k h n) where
  pub inner-reach : (f : Form) (s : List ℕ) → Reach f s at stop → Reach f s (at + h) (at + n)
  inner-reach f s W = let w = F.each k h n e in reach-part (at + h) (at + n) W (omega (arith, w.1)) w.2

  pub inner-falls : (b : Bool) → b ≡ is_entered k → b ≡ true → (t : ℕ) → 4 * l + 1 ≡ t → 4 * (l - 1) + 4 < t
  inner-falls b is y t q = omega (arith, inner-levels F k h n e b is y)

-- and of a small group
pub group-inner : (f : Form) (s : List ℕ) (at stop n : ℕ) → Reach f s at stop → at < stop → n ≤ stop - at → 0 < n
    → Reach f s (at + 1) (at + n)
group-inner f s at stop n W lt h p = reach-part (at + 1) (at + n) W (omega arith) (omega arith)

pub group-falls : (l t : ℕ) → (l ≡ 0 → ⊥) → 4 * l + 2 ≡ t → 4 * (l - 1) + 3 < t
group-falls l t p q = omega (arith, pos_of_ne-zero p)

-- an item that is found is no longer than what is left
pub own-few : {f : Form} {s : List ℕ} {t : Bool} {l : ℕ} {first : Bool} {at stop : ℕ} (g : Framed) → Finds f s t l first at stop g
    → (k : Kind) (h n : ℕ) → g ≡ Item k h n → n ≤ stop - at
own-few g F k h n e = omega (arith, (F.fits.each k h n e).2)

module _ (f : Form) (tables : Tables) (s : List ℕ) (t : Bool) (l : ℕ) (first : Bool) (at stop : ℕ) where
  pub nothing : Take f tables s t l first at stop 0
  nothing = record { few = omega arith; right = λ R p. absurd (omega arith) }

  module _ (W : Reach f s at stop) (lt : at < stop) where
    -- as the general way finds it
    module _ (g : Framed) (F : Finds f s t l first at stop g) (k : Kind) (h n : ℕ) (e : g ≡ Item k h n) (b : Bool)
        (is : b ≡ is_entered k) where
      pub by-contents : b ≡ true → (v : Bool) → Passes f tables s (holds_indexed k) (l - 1) (is_ruled k) (at + h) (at + n) v
          → v ≡ true
          → Take f tables s t l first at stop n
      by-contents y v c w = record {
        few = omega (arith, (F.fits.each k h n e).2);
        right = λ R p.
            let I = inside W R in
            taken-entered ((domain f).sextets s) t l first at stop (wide f s t l first at stop I) lt g (F.right I lt) k h n e (sym is ∙ y) (holds_indexed k)
            refl (is_ruled k) refl
            (c.right (ready-part f tables s at stop (at + h) (at + n) R (omega arith) (F.fits.each k h n e).2) w);
      }

      pub by-own : b ≡ false → Take f tables s t l first at stop n
      by-own y = record {
        few = omega (arith, (F.fits.each k h n e).2);
        right = λ R p.
            let I = inside W R in
            taken-found ((domain f).sextets s) t l first at stop (wide f s t l first at stop I) lt g (F.right I lt) k h n e (sym is ∙ y);
      }

-- as a test says
pub signs : {f : Form} {tables : Tables} {s : List ℕ} {at : ℕ} (n : ℕ) (t : Bool) → 0 < n
    → (Lent tables → small_at ((domain f).sextets s) at ≡ n)
    → (Lent tables → 0 < small_at ((domain f).sextets s) at → t ≡ is_indexed (letter_at ((domain f).sextets s) at)) → t ≡ true
    → Signed f tables s at n
signs n t p e o is = record { sized = e; lettered = λ L. sym is ∙ o L (rw (e L) p) }

-- or that the master table frames its items
pub master-size : (S : List ℕ) (a g : ℕ) (t : Bool) → small_at S a ≡ g → 0 < g → (0 < small_at S a → t ≡ is_indexed (letter_at S a)) → t ≡ false
    → group_at S a ≡ g
master-size S a g t e p o is = rw (← (small-is-group S a (sym (o (rw e p)) ∙ is))) e

-- 7 is never asked of indexed items
unmarked : (b : ℕ) → is_indexed b ≡ true → is_overrideable b ≡ false
unfolding is_indexed is_overrideable
unmarked b e = go (eqb b 10) refl e
  where
    go : (x : Bool) → eqb b 10 ≡ x → pick x true (eqb b 11) ≡ true → ltb b 3 ≡ false
    go true f q = le-ltb b 3 (omega (arith, eqb-true b 10 f))
    go false f q = le-ltb b 3 (omega (arith, eqb-true b 11 q))

-- a group's items, by the table that is asked, and by the one that its kind says
module _ {f : Form} {tables : Tables} {s : List ℕ} {l at stop : ℕ} where
  pub by-table : (b t : Bool) → b ≡ t → (m r : Bool) → Passes f tables s t l m at stop r → Passes f tables s b l m at stop r
  by-table b t q m r c = rw q c

  pub by_kind : (k : Kind) (b : Bool) → b ≡ holds_indexed k → (t : Bool) → b ≡ t → (m : Bool) → m ≡ is_ruled k → (r : Bool)
      → Passes f tables s t l m at stop r
      → Passes f tables s (holds_indexed k) l (is_ruled k) at stop r
  by_kind k b e t q m z r c = rw (← e, ← z) (by-table b t q m r c)

-- as first units tell it, by the master table
module _ (f : Form) (tables : Tables) (s : List ℕ) (l : ℕ) (first : Bool) (at stop : ℕ) (W : Reach f s at stop) (lt : at < stop) where
  -- a small group, by the table that its letter says
  by-letter : (n : ℕ) (t m v : Bool) → Passes f tables s t (l - 1) m (at + 1) (at + n) v → v ≡ true → 0 < n → n ≤ stop - at → 0 < l
      → (Lent tables → small_at ((domain f).sextets s) at ≡ n)
      → (Lent tables → t ≡ is_indexed (letter_at ((domain f).sextets s) at))
      → (Lent tables → m ≡ is_overrideable (letter_at ((domain f).sextets s) at))
      → Take f tables s false l first at stop n
  by-letter n t m v c y p h q e o z = record {
    few = h;
    right = λ R.
        by-small f tables s l at stop (inside W R) lt R first n t (o R.lent) (e R.lent) p h q m (z R.lent)
        (c.right (ready-part f tables s at stop (at + 1) (at + n) R (omega arith) (omega arith)) y);
  }

  -- one that a test says to be read by the master table
  pub by-inner : (n : ℕ) (t m v : Bool) → Passes f tables s false (l - 1) m (at + 1) (at + n) v → v ≡ true → 0 < n → n ≤ stop - at
      → (Lent tables → small_at ((domain f).sextets s) at ≡ n)
      → (l ≡ 0 → ⊥)
      → (Lent tables → 0 < small_at ((domain f).sextets s) at → t ≡ is_indexed (letter_at ((domain f).sextets s) at)) → t ≡ false
      → (Lent tables → 0 < group_at ((domain f).sextets s) at → m ≡ is_overrideable (letter_at ((domain f).sextets s) at))
      → Take f tables s false l first at stop n
  by-inner n t m v c y p h e q o is z =
      by-letter n false m v c y p h (pos_of_ne-zero q) e unsigned (λ L. z L (rw (← (small-is-group ((domain f).sextets s) at (sym (unsigned L))), e L) p))
    where
      unsigned : Lent tables → false ≡ is_indexed (letter_at ((domain f).sextets s) at)
      unsigned L = sym is ∙ o L (rw (e L) p)

  -- and by the indexed one
  pub by-signed : (n : ℕ) (v : Bool) → Passes f tables s true (l - 1) false (at + 1) (at + n) v → v ≡ true → 0 < n → n ≤ stop - at → 0 < l
      → Signed f tables s at n
      → Take f tables s false l first at stop n
  by-signed n v c y p h q G = by-letter n true false v c y p h q G.sized G.lettered (λ L. sym (unmarked _ (sym (G.lettered L))))

  -- or nothing is said, where its items are told whatever the level
  pub by-told : (n : ℕ) (t v : Bool) → (Reach f s (at + 1) (at + n) → (m : ℕ) → Passes f tables s true m false (at + 1) (at + n) v)
      → v ≡ true → n ≤ stop - at → 0 < l
      → (Lent tables → small_at ((domain f).sextets s) at ≡ n)
      → (Lent tables → 0 < small_at ((domain f).sextets s) at → t ≡ is_indexed (letter_at ((domain f).sextets s) at)) → t ≡ true
      → Take f tables s false l first at stop n
  by-told n t v c y h q e o is =
      record { few = h; right = λ R p. (by-signed n v (c (group-inner f s at stop n W lt h p) (l - 1)) y p h q (signs n t p e o is)).right R p }

  -- a small variable value
  pub by_value : (k : ℕ) → k ≤ stop - at → (Lent tables → valued_at ((domain f).sextets s) at ≡ k)
      → Take f tables s false l first at stop k
  by_value k h e = record { few = h; right = λ R. by_units f tables s l at stop (inside W R) lt R first k (e R.lent) h }

  -- a plain primitive
  pub by_first : (k : ℕ) → k ≤ stop - at → (Lent tables → plain_at plain_table ((domain f).sextets s) at ≡ k)
      → Take f tables s false l first at stop k
  by_first k h e = record { few = h; right = λ R. by-plain f tables s l at stop (inside W R) lt R first k (e R.lent) h }
