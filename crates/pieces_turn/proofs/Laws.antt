-- A unit more. Assumes nothing.
use Prim.Native.Nat.{ℕ, ◌+◌, ◌*◌, ◌≤◌, ◌<◌}
use mathlib.Core.Path.{◌≡◌, refl, sym, ap, ◌∙◌}
use mathlib.Core.Bool.{Bool, true, false}
use mathlib.Core.List.{List, []}
use native.Mathlib.Omega.{arith}
use lib.ListN.{length}
use Rattle.format.specs.declared.Verdict.{Verdict}
use Rattle.format.specs.declared.Verdict.TheVariants.{Accepted, Refused}
use Rattle.format.specs.Report.{row_bytes, refusal_bytes, concat, refusal}
use Rattle.report_rows.specs.Stores.{put}
use Rattle.pieces.specs.declared.Phase.{Phase}
use Rattle.pieces.specs.declared.Phase.TheVariants as P
use Rattle.pieces.specs.declared.Progress.{Progress}
use Rattle.pieces.specs.Steps.{unit_step, is_whole_by, is_whole, row_of, told}
use Rattle.pieces_whole.specs.Run.{step_kept}
use Rattle.pieces_stage.specs.declared.Stage.{Stage}
use Rattle.pieces_stage.specs.Stages.{progress_at, Becomes, far, whole_stage, told_stage}
use Rattle.pieces_rows.specs.Rows.{Small, Put, row_in}
use Rattle.pieces_turn.specs.declared.Ran.{Ran}
use Rattle.pieces_turn.specs.Turns.{Able, Turned}

one-refused : (k : ℕ) (v : Verdict) → length (refusal k v) ≤ 1
unfolding refusal
one-refused k Accepted = omega arith
one-refused k (Refused n p) = omega arith

whole-any : (slots : List ℕ) (g : Stage) → whole_stage g ≡ is_whole (progress_at slots g)
unfolding is_whole is_whole_by
whole-any slots g = go g.phase
  where
    go : (f : Phase) → is_whole_by f (progress_at [] g) ≡ is_whole_by f (progress_at slots g)
    go P.Framing = refl
    go P.Unframed = refl
    go P.Ended = refl

module _ (slots slots' : List ℕ) (g : Stage) (q : List ℕ) (next : Stage) (b : Becomes slots slots' next (unit_step (progress_at slots g) q)) where
  abbrev N : Progress
  N = unit_step (progress_at slots g) q

  whole-next : whole_stage next ≡ is_whole N
  whole-next = whole-any slots' next ∙ ap is_whole b.state

  read_next : next.read ≡ g.read + 1
  read_next = ap (λ (p : Progress). p.read) b.state ∙ (step_kept (progress_at slots g) q).read

  start-next : next.start ≡ g.start
  start-next = ap (λ (p : Progress). p.start) b.state ∙ (step_kept (progress_at slots g) q).start

  items-next : next.items ≡ g.items
  items-next = ap (λ (p : Progress). p.items) b.state ∙ (step_kept (progress_at slots g) q).items

  pub next_small : (u i j : ℕ) → Able u slots g i j → Small u next i j
  next_small u i j a = record {
    unit = a.unit;
    read = omega (arith, read_next, a.read);
    begun = omega (arith, read_next, start-next, a.begun);
    items = a.items;
    refusals = a.refusals;
  }

  pub next-items : (u i j : ℕ) → Able u slots g i j → next.items ≤ far
  next-items u i j a = omega (arith, items-next, a.told)

  not-told : (p : Progress) → is_whole p ≡ false → told p ≡ p
  unfolding told
  not-told p e = rw e

  is-told : (s : List ℕ) (h : Stage) → is_whole (progress_at s h) ≡ true → told (progress_at s h) ≡ progress_at s (told_stage h)
  unfolding told
  is-told s h e = rw e

  never : (x : Bool) {A : Type 0} → x ≡ true → x ≡ false → A
  never x e f = let z : ◌≡◌ {A = Bool} true false = sym e ∙ f in let y : ◌≡◌ {A = ℕ} 0 1 = cc in absurd (omega arith)

  pub turn-quiet : (u : ℕ) (items refusals : List ℕ) (i j : ℕ) → whole_stage next ≡ false
      → Turned u slots slots' g q items items refusals refusals i j (record { stage = next; items = i; refusals = j })
  turn-quiet u items refusals i j e = record {
    state = record { state = b.state ∙ sym (not-told N (sym whole-next ∙ e)); behind = b.behind };
    quiet = λ _. record { rows = refl; refused = refl; many = refl; bad = refl };
    whole = λ t. never (is_whole N) t (sym whole-next ∙ e);
  }

  pub turn-whole : (u : ℕ) (items items' refusals refusals' : List ℕ) (i j r s : ℕ) (t : Stage) → whole_stage next ≡ true
      → Put u next i j items items' refusals refusals' r → t ≡ told_stage next → (r ≤ 1 → s ≡ j + r)
      → Turned u slots slots' g q items items' refusals refusals' i j (record { stage = t; items = i + 1; refusals = s })
  turn-whole u items items' refusals refusals' i j r s t e p et es =
      record {
        state = record {
          state = ap (progress_at slots') et ∙ sym (is-told slots' next (sym (whole-any slots' next) ∙ e)) ∙ ap told b.state;
          behind = b.behind;
        };
        quiet = λ f. never (is_whole N) (sym whole-next ∙ e) f;
        whole = λ _. record {
          rows = p.row ∙ ap (λ (x : Progress). put items (9 * i) (row_bytes (row_of u x))) b.state;
          refused = p.refused ∙ ap (λ (x : Progress). put refusals (9 * j) (concat refusal_bytes (refusal x.items (row_of u x).verdict))) b.state;
          many = refl;
          bad = es (rw p.many (one-refused next.items (row_in u next).verdict))
              ∙ ap (λ (x : ℕ). j + x) (p.many ∙ ap (λ (x : Progress). length (refusal x.items (row_of u x).verdict)) b.state);
        };
      }
