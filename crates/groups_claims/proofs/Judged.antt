-- What a walk of the body says is the report's verdict on header and body, counted from the body's start; and it comes to an end. Assumes
-- nothing.
use Prim.Native.Nat.{ℕ, zero, suc, ◌+◌, ◌*◌, ◌≤◌, ◌<◌}
use Rattle.std.specs.Prelude.{◌≡◌, List, true}
use Rattle.std.proofs.Math.Path.{refl, sym, ap, subst}
use Rattle.std.proofs.Common.{◌∙◌, mul-div_cancel}
use Rattle.std.proofs.Math.Logic.{⊎_elim}
use native.Mathlib.Omega.{arith}
use Rattle.std.proofs.Math.Nat.{add-mul}
use Rattle.std.proofs.Math.ListN.{length}
use borrow.Author.Tests.{le-ltb}
use Rattle.base.specs.Cases.{lt-or-ge}
use Rattle.format.specs.declared.Form.{Form}
use Rattle.format.specs.declared.Form.TheVariants.{Text, Binary}
use Rattle.format.specs.declared.Kind.TheVariants.{Group}
use Rattle.format.specs.declared.Verdict.{Verdict}
use Rattle.format.specs.declared.Verdict.TheVariants.{Accepted, Refused}
use Rattle.format.specs.Units.{Domain, domain}
use Rattle.format.specs.Registry.{is_group}
use Rattle.format.specs.Judging.{max_depth}
use Rattle.format.specs.Report.{judge_in}
use Rattle.laws.specs.Domains.{reader}
use Rattle.walk_state.specs.declared.Walk.{Walk}
use Rattle.walk_state.specs.declared.Found.{Found}
use Rattle.walk_state.specs.declared.Found.TheVariants as F
use Rattle.walk_state.specs.declared.Stepped.{Stepped}
use Rattle.walk_state.specs.Walking.{start, is_fit, step_in}
use Rattle.walk_claims.specs.Words.{units_in, after, found_at, Stops, found_of}
use Rattle.walk_claims.proofs.Proved as W
use Rattle.walk_claims.proofs.Fitting.{Fits, plain, fit-made}
use Rattle.instalments.specs.declared.Pause.{Pause}
use Rattle.instalments.specs.declared.Pause.TheVariants as P
use Rattle.instalments.specs.declared.Walked.{Walked}
use Rattle.instalments.specs.Instalments.{unspent, on_item, walk_on}
use Rattle.instalments.specs.Claims.{Between, here, on, Told, InstalmentClaims}
use Rattle.instalments.proofs.Proved as I
use Rattle.groups.specs.Grouping.{head_units, within, body_walk}
use Rattle.groups_claims.specs.Words.{found_on}
use Rattle.groups_claims.proofs.Shift.{moved_on}
use Rattle.groups_claims.proofs.Inside.{Inside}
use Rattle.groups_claims.proofs.Reading.{streams, in_group, xs, long, short, units, first, step-on, stays, over, moved-fits-any, one-item}

budgets : (f : Form) (ys : List ℕ) → InstalmentClaims (domain f) ys
budgets Text ys = (I.proved).of-text ys
budgets Binary ys = (I.proved).of-binary ys

-- ---- a walk takes no more steps than there are units

module _ (f : Form) (body : List ℕ) where
  bounded : (w v : Walk) (k : ℕ) → Between (domain f) body w k v → length w.ends ≡ max_depth → is_fit w (units_in (domain f) body) ≡ true
      → w.at + k ≤ units_in (domain f) body
  bounded w _ _ here full fit = omega (arith, ((W.proved).tests.only-fit w (units_in (domain f) body) fit).inside)
  bounded w v _ (on {n = n} y b) full fit =
      let kept = (streams f body).keeps-fit w full fit in
      let rest = bounded (step_in (domain f) body w).next v n b kept.1 kept.0 in
      omega (arith, (streams f body).moves-on w y)

  pub comes-to-end : (l : ℕ) → body_walk (domain f) l body ≡ P.Spent → ⊥
  unfolding body_walk
  comes-to-end l e =
      let n : ℕ = units_in (domain f) body in
      let w : Walk = within l n in
      let fits : Fits w n = (in_group l n).fits in
      let r : Walked ℕ = walk_on (domain f) body (n + 1) w in
      let spent : r.items ≡ n + 1 = subst (Told (domain f) body (n + 1) r.items r.next) e ((budgets f body).told (n + 1) w) in
      let b = bounded w r.next r.items ((budgets f body).steps (n + 1) w) fits.nest.full (fit-made w n (plain w n fits)) in
      omega arith

-- ---- steps from the start

to-after-at : (d : Domain) (ys : List ℕ) (k n : ℕ) (w v : Walk) → Between d ys w n v → w ≡ after d ys k → after d ys (k + n) ≡ v
unfolding after
to-after-at d ys k _ w _ here e = let z : k + 0 ≡ k = omega arith in rw z (sym e)
to-after-at d ys k _ w v (on {n = n} y s) e =
    let z : k + suc n ≡ suc k + n = omega arith in
    rw z (to-after-at d ys (suc k) n (step_in d ys w).next v s (ap (λ (x : Walk). (step_in d ys x).next) e))

to-after : (d : Domain) (ys : List ℕ) (k n : ℕ) (v : Walk) → Between d ys (after d ys k) n v → after d ys (k + n) ≡ v
to-after d ys k n v s = to-after-at d ys k n (after d ys k) v s refl

from_start : {d : Domain} {ys : List ℕ} {n : ℕ} {v : Walk} → Between d ys start n v → Between d ys (after d ys 0) n v
unfolding after
from_start s = s

is-accepted : (v : Verdict) → found_of v ≡ F.End → v ≡ Accepted
unfolding found_of
is-accepted Accepted e = refl
is-accepted (Refused a b) e = let z : ◌≡◌ {A = ℕ} 0 1 = cc in absurd (omega arith)

is-refused : (v : Verdict) (a b : ℕ) → found_of v ≡ F.Refused a b → v ≡ Refused a b
unfolding found_of
is-refused Accepted a b e = let z : ◌≡◌ {A = ℕ} 0 1 = cc in absurd (omega arith)
is-refused (Refused x y) a b e = cc

-- ---- the walk of header and body stops where the body's does

unfoldable pause_on : ℕ → Pause ℕ → Pause ℕ
pause_on o P.Spent = P.Spent
pause_on o P.End = P.End
pause_on o (P.Refused a b) = P.Refused a (o + b)

module _ (f : Form) (l : ℕ) (body : List ℕ) (g : is_group l ≡ true) (low : l < 64) (m : ℕ) (whole : length body ≡ m * (domain f).unit)
    (fits : head_units m + m ≤ 1048576) where
  abbrev d : Domain
  d = domain f

  abbrev o : ℕ
  o = head_units m * d.unit

  -- header and body
  abbrev ys : List ℕ
  ys = xs f l body g low m whole fits

  on-item : (w v : Walk) (x : Found ℕ) (r q : Walked ℕ) → r.pause ≡ pause_on o q.pause → (on_item v (found_on o x) r).pause ≡ pause_on o (on_item w x q).pause
  unfolding found_on pause_on
  on-item w v (F.Item a n e k b) r q e' = e'
  on-item w v (F.Refused a b) r q e' = refl
  on-item w v F.End r q e' = refl

  end-item : (v : Walk) (x : Found ℕ) (r : Walked ℕ) → x ≡ F.End → (on_item v x r).pause ≡ P.End
  end-item v x r e = rw e

  both-spent : (w : Walk) → Inside w m → unspent d ys (moved_on (head_units m) w) ≡ pause_on o (unspent d body w)
  unfolding unspent pause_on
  both-spent w i =
      let h : ℕ = head_units m in
      let units-body : units_in d body ≡ m = rw whole (mul-div_cancel m (reader f).pos) in
      let short-body : length body ≤ d.limit =
      omega (arith, whole, long f l body g low m whole fits, short f l body g low m whole fits, add-mul h m d.unit) in
      rw (
        le-ltb d.limit (length ys) (short f l body g low m whole fits),
        le-ltb d.limit (length body) short-body,
        units f l body g low m whole fits,
        units-body,
        fit-made w m (plain w m i.fits),
        fit-made (moved_on h w) (h + m) (plain (moved_on h w) (h + m) (moved-fits-any f l body g low m whole fits w i)),
      )

  pauses : (j : ℕ) (w : Walk) → Inside w m → (walk_on d ys j (moved_on (head_units m) w)).pause ≡ pause_on o (walk_on d body j w).pause
  unfolding walk_on pause_on
  pauses zero w i = both-spent w i
  pauses (suc j) w i =
      ⊎_elim
      (λ q. rw (step-on f l body g low m whole fits w i q)
      (on-item w (moved_on (head_units m) w) (step_in d body w).found _ _ (pauses j (step_in d body w).next (stays f l body g low m whole fits w i q))))
      (λ q. let e = over f l body g low m whole fits w i q in
      end-item (moved_on (head_units m) w) (step_in d ys (moved_on (head_units m) w)).found _ e.0
      ∙ sym (ap (pause_on o) (end-item w (step_in d body w).found _ e.1)))
      (lt-or-ge 0 w.depth)

  -- from the start, and where it stops
  all-steps : (walk_on d ys (suc (suc m)) start).pause ≡ pause_on o (walk_on d body (suc m) (within l m)).pause
  unfolding walk_on
  all-steps =
      ap (λ (r : Stepped ℕ). (on_item start r.found (walk_on d ys (suc m) r.next)).pause) (first f l body g low m whole fits)
      ∙ pauses (suc m) (within l m) (in_group l m)

  stopped : (x : Found ℕ) → Stops x → ((step_in d ys (walk_on d ys (suc (suc m)) start).next).found ≡ x) → found_of (judge_in d ys) ≡ x
  stopped x st e =
      let r : Walked ℕ = walk_on d ys (suc (suc m)) start in
      let z : 0 + r.items ≡ r.items = omega arith in
      let v : after d ys r.items ≡ r.next = rw z at (to-after d ys 0 r.items r.next (from_start ((budgets f ys).steps (suc (suc m)) start))) in
      let e' : found_at d ys r.items ≡ x = ap (λ (w : Walk). (step_in d ys w).found) v ∙ e in
      sym ((streams f ys).item (Group l) o (short f l body g low m whole fits) (one-item f l body g low m whole fits) r.items (subst Stops (sym e') st)) ∙ e'

  pub accepts : (walk_on d body (suc m) (within l m)).pause ≡ P.End → judge_in d ys ≡ Accepted
  unfolding pause_on
  accepts e =
      let p : (walk_on d ys (suc (suc m)) start).pause ≡ P.End = all-steps ∙ ap (pause_on o) e in
      let t = subst (Told d ys (suc (suc m)) _ _) p ((budgets f ys).told (suc (suc m)) start) in
      is-accepted (judge_in d ys) (stopped F.End tt t.1)

  pub refuses : (a b : ℕ) → (walk_on d body (suc m) (within l m)).pause ≡ P.Refused a b → judge_in d ys ≡ Refused a (o + b)
  unfolding pause_on
  refuses a b e =
      let p : (walk_on d ys (suc (suc m)) start).pause ≡ P.Refused a (o + b) = all-steps ∙ ap (pause_on o) e in
      let t = subst (Told d ys (suc (suc m)) _ _) p ((budgets f ys).told (suc (suc m)) start) in
      is-refused (judge_in d ys) a (o + b) (stopped (F.Refused a (o + b)) tt t)
