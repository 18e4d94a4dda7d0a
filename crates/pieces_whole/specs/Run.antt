-- Units one by one: what every one of them keeps, and units in two parts. Assumes nothing.
use Rattle.std.specs.Prelude.{ℕ, zero, suc, ◌+◌, ◌*◌, ◌≡◌, List, [], ◌∷◌, ◌++◌, Bool, ltb, eqb, take, drop}
use Rattle.std.proofs.Math.Path.{refl}
use Rattle.std.proofs.Common.{sym, ap, ◌∙◌, append-nil, append_assoc, arith, drop-drop}
use Rattle.std.proofs.Math.Bool.{true, false}
use Rattle.base.specs.Pick.{pick-by}
use Rattle.format.specs.declared.Framed.{Framed}
use Rattle.format.specs.declared.Framed.TheVariants.{Item, Unframed}
use Rattle.format.specs.declared.Verdict.{Verdict}
use Rattle.format.specs.declared.Verdict.TheVariants.{Accepted, Refused}
use Rattle.format.specs.Judging.{scan}
use Rattle.walk_state.specs.declared.Walk.{Walk}
use Rattle.walk_state.specs.Walking.{moved_to, next_of}
use Rattle.walk_claims.proofs.Fitting.{Fits}
use Rattle.pieces.specs.declared.Phase.{Phase}
use Rattle.pieces.specs.declared.Phase.TheVariants as P
use Rattle.pieces.specs.declared.Progress.{Progress}
use Rattle.pieces.specs.Headers.{is_long, room_of, framed_by, group_number, head_number, lead_of, opens_text, value_number}
use Rattle.pieces.specs.Steps.{clear, end_of, made, refused, settled, headed, at_first, at_second, valued, step_by, unit_step, is_whole, row_of, rows_from, told}
use Rattle.pieces.specs.Feeding.{after, rows_after}

-- ---- what every unit keeps

pub record Kept (p r : Progress) : Type 0 where
  pub read : r.read ≡ p.read + 1
  pub start : r.start ≡ p.start
  pub items : r.items ≡ p.items

module _ (p : Progress) where
  made_kept : (w : Walk) (scans : Bool) (lead : ℕ) (text : Bool) (n i : ℕ) → Kept p (made p w scans lead text n i)
  made_kept w scans lead text n i = record { read = refl; start = refl; items = refl }

  refused-kept : (w : Walk) (n i : ℕ) → Kept p (refused p w n i)
  refused-kept w n i = made_kept (clear (end_of w)) false 0 false n i

  settled-kept : (w : Walk) (lead : ℕ) (text : Bool) (n i : ℕ) → Kept p (settled p w lead text n i)
  unfolding settled
  settled-kept w lead text n i =
      pick-by (Kept p) (ltb (p.read + 1) w.at) _ _ (λ _. made_kept w true lead text n i)
      (λ _. pick-by (Kept p) (eqb n 0) _ _ (λ _. made_kept w false 0 false 0 0) (λ _. refused-kept w n i))

  headed-kept : (cs : List ℕ) (r : Framed) → Kept p (headed p cs r)
  unfolding headed
  headed-kept cs (Unframed n i) =
      pick-by (Kept p) (eqb p.walk.depth 0) _ _ (λ _. record { read = refl; start = refl; items = refl })
      (λ _. refused-kept p.walk n (4 * p.walk.at + i))
  headed-kept cs (Item k h m) =
      pick-by (Kept p) (eqb (group_number k p.walk.depth h m) 0) _ _
      (λ _. settled-kept (next_of p.walk k h m) (lead_of k) (opens_text k) (head_number k h cs) (4 * p.walk.at))
      (λ _. refused-kept (moved_to p.walk (p.walk.at + m)) (group_number k p.walk.depth h m) (4 * p.walk.at))

  valued-kept : (q : List ℕ) (v : Verdict) → Kept p (valued p q v)
  unfolding valued
  valued-kept q Accepted = settled-kept p.walk 0 false (value_number p.number p.lead p.text q) p.place
  valued-kept q (Refused n i) = refused-kept p.walk n (4 * p.read + i)

  first-kept : (q : List ℕ) → Kept p (at_first p q)
  unfolding at_first
  first-kept q =
      pick-by (Kept p) (is_long p.walk.indexed q (room_of p.walk)) _ _ (λ _. record { read = refl; start = refl; items = refl })
      (λ _. headed-kept q (framed_by p.walk q))

  second-kept : (q : List ℕ) → Kept p (at_second p q)
  unfolding at_second
  second-kept q = headed-kept (p.header ++ q) (framed_by p.walk (p.header ++ q))

  by-kept : (f : Phase) (q : List ℕ) → Kept p (step_by f p q)
  unfolding step_by
  by-kept P.Framing q =
      pick-by (Kept p) (ltb p.read p.walk.at) _ _
      (λ _. pick-by (Kept p) p.scans _ _ (λ _. valued-kept q (scan q)) (λ _. made_kept p.walk false 0 false p.number p.place))
      (λ _. pick-by (Kept p) (ltb p.walk.at p.read) _ _ (λ _. second-kept q) (λ _. first-kept q))
  by-kept P.Unframed q = made_kept p.walk false 0 false p.number p.place
  by-kept P.Ended q = made_kept p.walk false 0 false p.number p.place

  pub step_kept : (q : List ℕ) → Kept p (unit_step p q)
  unfolding unit_step
  step_kept q = by-kept p.phase q

told-read : (p : Progress) → (told p).read ≡ p.read
unfolding told
told-read p = pick-by (λ (r : Progress). r.read ≡ p.read) (is_whole p) _ _ (λ _. refl) (λ _. refl)

pub after_read : (p : Progress) (s : List ℕ) (k : ℕ) → (after p s k).read ≡ p.read + k
unfolding after
after_read p s zero = omega arith
after_read p s (suc k) =
    told-read (unit_step (after p s k) (take 4 (drop (4 * k) s))) ∙ (step_kept (after p s k) (take 4 (drop (4 * k) s))).read
    ∙ rw (after_read p s k) (omega arith)

-- ---- j units, then k more

pub after-add : (p : Progress) (s : List ℕ) (j k : ℕ) → after p s (j + k) ≡ after (after p s j) (drop (4 * j) s) k
unfolding after
after-add p s j zero = let z : j + 0 ≡ j = omega arith in rw z
after-add p s j (suc k) =
    let z : j + suc k ≡ suc (j + k) = omega arith in
    let y : 4 * (j + k) ≡ 4 * j + 4 * k = omega arith in
    rw (z, after-add p s j k, y, ← drop-drop (4 * k) (4 * j) s)

pub rows-add : (u : ℕ) (p : Progress) (s : List ℕ) (j k : ℕ)
    → rows_after u p s (j + k) ≡ rows_after u p s j ++ rows_after u (after p s j) (drop (4 * j) s) k
unfolding rows_after
rows-add u p s j zero = let z : j + 0 ≡ j = omega arith in rw z (sym (append-nil (rows_after u p s j)))
rows-add u p s j (suc k) =
    let z : j + suc k ≡ suc (j + k) = omega arith in
    let y : 4 * (j + k) ≡ 4 * j + 4 * k = omega arith in
    rw (z, rows-add u p s j k, after-add p s j k, y, ← drop-drop (4 * k) (4 * j) s)
    (append_assoc (rows_after u p s j) (rows_after u (after p s j) (drop (4 * j) s) k) _)

-- ---- one unit

-- at a top-level header
pub record Fresh (a i : ℕ) (p : Progress) : Type 0 where
  pub phase : p.phase ≡ P.Framing
  pub fits : Fits p.walk a
  pub closed : p.walk.depth ≡ 0
  pub position : p.walk.at ≡ a
  pub read : p.read ≡ a
  pub start : p.start ≡ a
  pub items : p.items ≡ i

module _ (u : ℕ) (b : Progress) (s : List ℕ) where
  abbrev pub unit_of : ℕ → List ℕ
  unit_of k = take 4 (drop (4 * k) s)

  -- one that completes no item
  pub quiet : (k : ℕ) → is_whole (unit_step (after b s k) (unit_of k)) ≡ false
      → (after b s (suc k) ≡ unit_step (after b s k) (unit_of k)) × (rows_after u b s (suc k) ≡ rows_after u b s k)
  unfolding after rows_after told rows_from
  quiet k e = (rw e, rw (e, append-nil))

  -- one that does
  pub full : (k : ℕ) → is_whole (unit_step (after b s k) (unit_of k)) ≡ true
      → rows_after u b s (suc k) ≡ rows_after u b s k ++ (row_of u (unit_step (after b s k) (unit_of k)) ∷ [])
  unfolding rows_after rows_from
  full k e = rw e
