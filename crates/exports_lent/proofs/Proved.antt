-- The claims on instalments of a lent state hold. Assumes nothing.
use Rattle.std.specs.Prelude.{ℕ, zero, suc, ◌<◌, ◌≡◌, refl, List, ◌↔◌, eqb, length}
use Rattle.std.proofs.Common.{sym, ap, ◌∙◌, arith, eq-eqb, eqb-true}
use Rattle.std.proofs.Math.Logic.{⊎_elim}
use Rattle.std.proofs.Math.Seq.{length-take-le}
use Rattle.std.proofs.lemmas.Bool.{eqb-false}
use Rattle.base.specs.Cases.{whether}
use Rattle.format.specs.declared.Form.{Form}
use Rattle.format.specs.declared.Form.TheVariants.{Text, Binary}
use Rattle.format.specs.Units.{Domain, text, binary}
use Rattle.format.specs.Judging.{max_depth}
use Rattle.walk_state.specs.declared.Walk.{Walk}
use Rattle.walk_claims.specs.Claims.{StreamClaims}
use Rattle.walk_claims.proofs.Proved as W
use Rattle.walk_claims.proofs.Yielding.{yields-full}
use Rattle.instalments.specs.declared.Pause.{Pause}
use Rattle.instalments.specs.declared.Pause.TheVariants as P
use Rattle.instalments.specs.Instalments.{walk_on}
use Rattle.instalments.specs.Numbers.{pause_number}
use Rattle.instalments.specs.Claims.{Between, here, on, InstalmentClaims}
use Rattle.instalments.proofs.Proved as I
use Rattle.exports_values.specs.Lent.{state_size, walk_of}
use Rattle.exports_claims.proofs.Proved as E
use Rattle.exports_lent.specs.Answers.{state_behind}
use Rattle.exports_lent.specs.Claims.{LentClaims, LentInstalments}

abbrev Numbered : Pause ℕ → Type 0
Numbered a = (m p : ℕ) → a ≡ P.Refused m p → (0 < m) × (m < 255)

zero-spent : (a : Pause ℕ) → Numbered a → (pause_number a ≡ 0) ↔ (a ≡ P.Spent)
unfolding pause_number
zero-spent P.Spent b = (λ _. refl, λ _. refl)
zero-spent P.End b = (λ e. absurd (omega arith), λ e. let z : ◌≡◌ {A = ℕ} 0 1 = cc in absurd (omega arith))
zero-spent (P.Refused m p) b = (λ e. absurd (omega (arith, e, (b m p refl).0)), λ e. let z : ◌≡◌ {A = ℕ} 0 1 = cc in absurd (omega arith))

end-told : (a : Pause ℕ) → Numbered a → (pause_number a ≡ 255) ↔ (a ≡ P.End)
unfolding pause_number
end-told P.Spent b = (λ e. absurd (omega arith), λ e. let z : ◌≡◌ {A = ℕ} 0 1 = cc in absurd (omega arith))
end-told P.End b = (λ _. refl, λ _. refl)
end-told (P.Refused m p) b = (λ e. absurd (omega (arith, e, (b m p refl).1)), λ e. let z : ◌≡◌ {A = ℕ} 0 1 = cc in absurd (omega arith))

module _ (d : Domain) (xs : List ℕ) (C : StreamClaims d xs) (I : InstalmentClaims d xs) where
  numbered : (n : ℕ) (w : Walk) → Numbered (walk_on d xs n w).pause
  numbered n w m p e =
      let t = rw e at (I.told n w) in
      let q = C.refuses (walk_on d xs n w).next m p t in
      (q.0.not-accepted, q.1)

  full : {w v : Walk} {n : ℕ} → Between d xs w n v → length w.ends ≡ max_depth → length v.ends ≡ max_depth
  full here h = h
  full {w} (on y s) h = full s (yields-full d xs C w h y)

  none-taken : {w v : Walk} {n : ℕ} → Between d xs w n v → n ≡ 0 → v ≡ w
  none-taken here e = refl
  none-taken (on y s) e = absurd (omega arith)

  kept : (n : ℕ) (s : List ℕ) → (walk_on d xs n (walk_of s)).items ≡ 0 → state_behind (walk_on d xs n (walk_of s)) s ≡ s
  unfolding state_behind
  kept n s e = rw (eq-eqb _ _ e)

  slots-full : (s : List ℕ) → length s ≡ state_size → length (walk_of s).ends ≡ max_depth
  unfolding walk_of
  slots-full s l = length-take-le max_depth s (omega arith)

  handed-back : (n : ℕ) (s : List ℕ) → length s ≡ state_size → walk_of (state_behind (walk_on d xs n (walk_of s)) s) ≡ (walk_on d xs n (walk_of s)).next
  unfolding state_behind
  handed-back n s l =
      let b = I.steps n (walk_of s) in
      ⊎_elim
      (λ e. rw e (sym (none-taken b (eqb-true _ _ e))))
      (λ e. rw e ((E.proved).lent.back (walk_on d xs n (walk_of s)).next (full b (slots-full s l))))
      (whether (eqb (walk_on d xs n (walk_of s)).items 0))

  claims : LentClaims d xs
  claims = record {
    zero-spent = λ n w. zero-spent (walk_on d xs n w).pause (numbered n w);
    end-told = λ n w. end-told (walk_on d xs n w).pause (numbered n w);
    kept = kept;
    handed-back = handed-back;
  }

pub proved : LentInstalments
proved = record {
  of-text = λ xs. claims text xs ((W.proved).of-text xs) ((I.proved).of-text xs);
  of-binary = λ xs. claims binary xs ((W.proved).of-binary xs) ((I.proved).of-binary xs);
}
