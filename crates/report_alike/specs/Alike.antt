-- Items of one size that follow one another and begin alike, in elements of a stream. Assumes nothing.
use Rattle.std.specs.Prelude.{ℕ, zero, suc, ◌+◌, ◌-◌, ◌*◌, ◌/◌, ◌≤◌, ◌<◌, ◌≡◌, refl, List, [], ◌∷◌, ◌++◌, Bool, true, false, not, ltb, eqb, length, get_or}
use Rattle.std.proofs.Common.{sym, ap, ◌∙◌, ⊎_elim, arith, mul-add, mul_assoc, mul_comm, mul-le-mul_right}
use Rattle.std.proofs.Math.Nat.{le_of_mul-le-mul_left}
use Rattle.std.proofs.lemmas.List.Edits.{sets}
use Rattle.std.proofs.Math.Seq.{length-sets}
use borrow.Author.Tests.{eq-eqb, ne_eqb}
use Rattle.base.specs.Pick.{pick}
use Rattle.base.specs.Cases.{lt-or-ge}
use Rattle.format.specs.declared.Form.{Form}
use Rattle.format.specs.declared.Form.TheVariants.{Text, Binary}
use Rattle.format.specs.Report.{be4, row_bytes, concat}
use Rattle.filling.specs.Stores.{sets-append, run_of}
use Rattle.report_rows.specs.Stores.{put, put-fits, run-start, run_more, next_place}

-- by the first element, and in a text by the value of the second
unfoldable pub is_alike : Form → List ℕ → List ℕ → ℕ → ℕ → ℕ → Bool
is_alike Text values s x limit at = pick (eqb (get_or s at 0) x) (ltb (get_or values (get_or s (at + 1) 0) 0) limit) false
is_alike Binary values s x limit at = eqb (get_or s at 0) x

-- what the tests say of it
module _ (values s : List ℕ) (x limit at : ℕ) where
  pub alike-text : (f : Form) (v : ℕ) → f ≡ Text → get_or s at 0 ≡ x → v ≡ get_or values (get_or s (at + 1) 0) 0 → ltb v limit ≡ is_alike f values s x limit at
  unfolding is_alike
  alike-text f v z e q = rw (z, eq-eqb _ _ e, q)

  pub alike-binary : (f : Form) → f ≡ Binary → get_or s at 0 ≡ x → true ≡ is_alike f values s x limit at
  unfolding is_alike
  alike-binary f z e = rw (z, eq-eqb _ _ e)

  pub not_alike : (f : Form) → ((get_or s at 0 ≡ x) → ⊥) → false ≡ is_alike f values s x limit at
  unfolding is_alike
  not_alike Text e = rw (ne_eqb _ _ e)
  not_alike Binary e = rw (ne_eqb _ _ e)

-- each of r items of so many elements, from an element on, begins so and ends in front of another element
pub Alike : Form → List ℕ → List ℕ → ℕ → ℕ → ℕ → ℕ → ℕ → ℕ → Type 0
Alike f values s x limit size from end r = (j : ℕ) → j < r → (is_alike f values s x limit (from + j * size) ≡ true) × (from + j * size + size ≤ end)

pub alike-none : (f : Form) (values s : List ℕ) (x limit size from end : ℕ) → Alike f values s x limit size from end 0
unfolding Alike
alike-none f values s x limit size from end j h = absurd (omega arith)

pub alike-more : (f : Form) (values s : List ℕ) (x limit size from end r at : ℕ) → Alike f values s x limit size from end r → at ≡ from + r * size
    → is_alike f values s x limit at ≡ true → at + size ≤ end → Alike f values s x limit size from end (r + 1)
unfolding Alike
alike-more f values s x limit size from end r at A e t h j q = ⊎_elim (A j) (λ g. last (omega arith)) (lt-or-ge j r)
  where
    last : j ≡ r → (is_alike f values s x limit (from + j * size) ≡ true) × (from + j * size + size ≤ end)
    last z = rw (z, ← e) (t, h)

pub alike-less : (f : Form) (values s : List ℕ) (x limit size from end to r : ℕ) → end ≤ to → Alike f values s x limit size from end r
    → Alike f values s x limit size from to r
unfolding Alike
alike-less f values s x limit size from end to r h A j q = let a = A j q in (a.0, omega (arith, a.1))

-- ---- in units of u elements

pub in-elements : (u a r k : ℕ) → u * (a + r * k) ≡ u * a + r * (u * k)
in-elements u a r k = mul-add u a (r * k) ∙ ap (λ (x : ℕ). u * a + x) (sym (mul_assoc u r k) ∙ ap (λ (x : ℕ). x * k) (mul_comm u r) ∙ mul_assoc r u k)

pub alike-units : (f : Form) (values s : List ℕ) (x limit u k from end r : ℕ) → 0 < u → Alike f values s x limit (u * k) (u * from) (u * end) r → (j : ℕ) → j < r
    → (is_alike f values s x limit (u * (from + j * k)) ≡ true) × (from + j * k + k ≤ end)
unfolding Alike
alike-units f values s x limit u k from end r p A j h =
    let a = A j h in
    let b : u * (from + j * k + k) ≤ u * end = rw (mul-add u (from + j * k) k, in-elements u from j k) a.1 in
    (rw (in-elements u from j k) a.0, le_of_mul-le-mul_left b p)

-- ---- room

-- a row of nine bytes has room for every item up to the end
pub record Roomy (from size end at room : ℕ) : Type 0 where
  pub most : ℕ
  pub all : end ≤ from + most * size
  pub fits : at + 9 * most ≤ room

pub small_product : (a b : ℕ) → a ≤ 4194304 → b ≤ 4194304 → a * b ≤ 17592186044416
small_product a b p q = let x : a * b ≤ 4194304 * b = mul-le-mul_right b p in omega arith

pub roomy-most : (from size end at room most part : ℕ) → most ≤ (room - at) / 9 → at ≤ room → part ≤ most * size → Roomy from size (from + part) at room
roomy-most from size end at room most part h l p = record { most = most; all = omega arith; fits = omega arith }

-- one more of those that are stored so far
pub next_fits : (from size end at room r p : ℕ) → Roomy from size end at room → 1 < size → p ≡ from + r * size → p + size ≤ end → at + 9 * r + 9 ≤ room
next_fits from size end at room r p R s e h = ⊎_elim (λ l. omega (arith, R.fits)) (λ g. absurd (past g)) (lt-or-ge r R.most)
  where
    past : R.most ≤ r → ⊥
    past g = omega (arith, R.all, mul-le-mul_right size g)

-- a row that has room is stored, first its offset
pub row-stored : (out : List ℕ) (at o n : ℕ) {one two : List ℕ} → at + 9 ≤ length out → one ≡ put out at (be4 o)
    → two ≡ put one (at + 4) (be4 n ++ (0 ∷ [])) → two ≡ sets out at (be4 o ++ (be4 n ++ (0 ∷ [])))
unfolding be4
row-stored out at o n h e f =
    let x = e ∙ put-fits out at (be4 o) (omega arith) in
    let l : length (sets out at (be4 o)) ≡ length out = length-sets out at (be4 o) in
    f ∙ rw x (put-fits (sets out at (be4 o)) (at + 4) (be4 n ++ (0 ∷ [])) (omega arith)) ∙ sets-append out at (be4 o) (be4 n ++ (0 ∷ []))

-- ---- the loop that stores their rows

-- r are looked at and stored, up to the element p
pub record Stored (f : Form) (values s : List ℕ) (x limit size from end : ℕ) (out₀ : List ℕ) (at : ℕ) (out : List ℕ) (p r : ℕ) : Type 0 where
  pub wide : 1 < size
  pub room : Roomy from size end at (length out₀)
  pub alike : Alike f values s x limit size from end r
  pub place : p ≡ from + r * size
  pub near : p ≤ end
  pub few : r ≤ p
  pub rows : out ≡ sets out₀ at (concat row_bytes (run_of from size r))

module _ {f : Form} {values s : List ℕ} {x limit size from end : ℕ} {out₀ : List ℕ} {at : ℕ} where
  pub stored-start : 1 < size → Roomy from size end at (length out₀) → from ≤ end → Stored f values s x limit size from end out₀ at out₀ from 0
  stored-start w R h = record {
    wide = w;
    room = R;
    alike = alike-none f values s x limit size from end;
    place = omega arith;
    near = h;
    few = omega arith;
    rows = run-start out₀ at from size;
  }

  module _ {out : List ℕ} {p r : ℕ} (S : Stored f values s x limit size from end out₀ at out p r) where
    pub stored-long : length out ≡ length out₀
    stored-long = ap length S.rows ∙ length-sets out₀ at (concat row_bytes (run_of from size r))

    pub stored-room : p + size ≤ end → at + 9 * r + 9 ≤ length out₀
    stored-room h = next_fits from size end at (length out₀) r p S.room S.wide S.place h

    pub stored-fits : p + size ≤ end → at + 9 * r + 9 ≤ length out
    stored-fits h = omega (arith, stored-room h, stored-long)

    pub stored_more : (b : Bool) (out' : List ℕ) → b ≡ is_alike f values s x limit p → out' ≡ pick b (sets out (at + 9 * r) (be4 p ++ (be4 size ++ (0 ∷ [])))) out
        → not b ≡ false → p + size ≤ end → Stored f values s x limit size from end out₀ at out' (p + size) (r + 1)
    stored_more false out' e c n h = absurd (let y : ◌≡◌ {A = ℕ} 0 1 = cc in omega arith)
    stored_more true out' e c n h = record {
      wide = S.wide;
      room = S.room;
      alike = alike-more f values s x limit size from end r p S.alike S.place (sym e) h;
      place = next_place p from size r S.place;
      near = h;
      few = omega (arith, S.few, S.wide);
      rows = run_more out₀ at from size r p S.rows S.place c;
    }

    -- one that does not begin so is left
    pub stored-left : (b : Bool) (out' : List ℕ) → out' ≡ pick b (sets out (at + 9 * r) (be4 p ++ (be4 size ++ (0 ∷ [])))) out → not b ≡ true
        → (Alike f values s x limit size from end r) × (out' ≡ sets out₀ at (concat row_bytes (run_of from size r)))
    stored-left false out' c n = (S.alike, c ∙ S.rows)
    stored-left true out' c n = absurd (let y : ◌≡◌ {A = ℕ} 0 1 = cc in omega arith)

    pub left-long : (b : Bool) (out' : List ℕ) → out' ≡ pick b (sets out (at + 9 * r) (be4 p ++ (be4 size ++ (0 ∷ [])))) out → not b ≡ true
        → length out' ≡ length out₀
    left-long b out' c n = ap length (stored-left b out' c n).1 ∙ length-sets out₀ at (concat row_bytes (run_of from size r))
