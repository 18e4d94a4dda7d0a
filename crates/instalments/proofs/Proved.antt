-- The claims on instalments hold. Assumes nothing.
use Prim.Native.Nat.{ℕ, zero, suc, ◌+◌, ◌-◌, ◌≤◌, ◌<◌}
use Rattle.std.proofs.Math.Path.{◌≡◌, ap, subst}
use Rattle.std.specs.Prelude.{refl, List, Bool, true, false, ◌⊎◌, ltb}
use Rattle.std.proofs.Common.{sym, ◌∙◌, zero-add}
use Rattle.std.proofs.Math.Logic.{inl, inr, ⊎_elim}
use native.Mathlib.Omega.{arith}
use Rattle.std.proofs.Math.Nat.{add-zero}
use Rattle.std.proofs.Math.ListN.{length}
use borrow.Author.Tests.{ltb-true, ltb-false, lt-ltb, le-ltb}
use Rattle.base.specs.Pick.{pick-by}
use Rattle.base.specs.Cases.{lt-or-ge}
use Rattle.format.specs.Units.{Domain, text, binary}
use Rattle.format.specs.Conversion.{to_binary, to_text}
use Rattle.format.specs.Judging.{max_depth}
use Rattle.walk_state.specs.declared.Walk.{Walk}
use Rattle.walk_state.specs.declared.Found.{Found}
use Rattle.walk_state.specs.declared.Found.TheVariants as F
use Rattle.walk_state.specs.declared.Stepped.{Stepped}
use Rattle.walk_state.specs.Walking.{is_fit, step_in}
use Rattle.walk_claims.specs.Words.{units_in, after, Yields, Stops, FoundRatio, SameStep}
use Rattle.walk_claims.specs.Claims.{StreamClaims}
use Rattle.walk_claims.proofs.Runs.{one_of}
use Rattle.walk_claims.proofs.Proved as W
use Rattle.walk_claims.proofs.Yielding.{yields-fit}
use Rattle.instalments.specs.declared.Pause.{Pause}
use Rattle.instalments.specs.declared.Pause.TheVariants as P
use Rattle.instalments.specs.declared.Walked.{Walked}
use Rattle.instalments.specs.Instalments.{halted, counted, unspent, on_item, walk_on}
use Rattle.instalments.specs.Claims.{Between, here, on, Told, Alike, InstalmentClaims, SameInstalment, Instalments}

-- what a step that yields nothing is to an instalment
abbrev pub pause_of : Found ℕ → Pause ℕ
pause_of (F.Item o n d k h) = P.Spent
pause_of (F.Refused m p) = P.Refused m p
pause_of F.End = P.End

-- so many items in front of what the rest of the budget takes
abbrev pub plus : ℕ → Walked ℕ → Walked ℕ
plus n r = record { next = r.next; items = n + r.items; pause = r.pause }

on-yield : (w : Walk) (f : Found ℕ) (r : Walked ℕ) → Yields f → on_item w f r ≡ counted r
on-yield w (F.Item o n d k h) r y = refl
on-yield w (F.Refused m p) r y = absurd y
on-yield w F.End r y = absurd y

on-stop : (w : Walk) (f : Found ℕ) (r : Walked ℕ) → Stops f → on_item w f r ≡ halted w (pause_of f)
on-stop w (F.Item o n d k h) r s = absurd s
on-stop w (F.Refused m p) r s = refl
on-stop w F.End r s = refl

module _ (d : Domain) (xs : List ℕ) (C : StreamClaims d xs) where
  pub yields : (n : ℕ) (w : Walk) → Yields (step_in d xs w).found → walk_on d xs (suc n) w ≡ counted (walk_on d xs n (step_in d xs w).next)
  unfolding walk_on
  yields n w y = on-yield w (step_in d xs w).found (walk_on d xs n (step_in d xs w).next) y

  pub stops : (n : ℕ) (w : Walk) → Stops (step_in d xs w).found → walk_on d xs (suc n) w ≡ halted w (pause_of (step_in d xs w).found)
  unfolding walk_on
  stops n w s = on-stop w (step_in d xs w).found (walk_on d xs n (step_in d xs w).next) s

  -- by turns: nothing to spend, a step that yields, a step that does not
  by-turns {ℓ} : (Q : ℕ → Walk → Walked ℕ → Type ℓ) → ((w : Walk) → Q 0 w (halted w (unspent d xs w)))
      → ((n : ℕ) (w : Walk) → Yields (step_in d xs w).found → Q n (step_in d xs w).next (walk_on d xs n (step_in d xs w).next)
      → Q (suc n) w (counted (walk_on d xs n (step_in d xs w).next)))
      → ((n : ℕ) (w : Walk) → Stops (step_in d xs w).found → Q (suc n) w (halted w (pause_of (step_in d xs w).found)))
      → (n : ℕ) (w : Walk) → Q n w (walk_on d xs n w)
  unfolding walk_on
  by-turns Q z y s zero w = z w
  by-turns Q z y s (suc n) w =
      ⊎_elim (λ q. subst (Q (suc n) w) (sym (yields n w q)) (y n w q (by-turns Q z y s n (step_in d xs w).next)))
      (λ q. subst (Q (suc n) w) (sym (stops n w q)) (s n w q)) (one_of (step_in d xs w).found)

  steps : (n : ℕ) (w : Walk) → Between d xs w (walk_on d xs n w).items (walk_on d xs n w).next
  steps = by-turns (λ n w r. Between d xs w r.items r.next) (λ w. here) (λ n w y s. on y s) (λ n w q. here)

  -- ---- the number of steps between two states

  passed : {w v : Walk} {n : ℕ} → Between d xs w n v → w.at + n ≤ v.at
  passed here = omega arith
  passed {w} (on y s) = omega (arith, C.moves-on w y, passed s)

  only-at : (w u v : Walk) (n m : ℕ) → Between d xs w n u → Between d xs w m v → u ≡ v → n ≡ m
  only-at w _ _ _ _ here here e = refl
  only-at w _ v _ _ here (on y s) e = absurd (omega (arith, C.moves-on w y, passed s, ap (λ (x : Walk). x.at) e))
  only-at w u _ _ _ (on y s) here e = absurd (omega (arith, C.moves-on w y, passed s, ap (λ (x : Walk). x.at) e))
  only-at w u v _ _ (on {n = n} y s) (on {n = m} z t) e = ap suc (only-at (step_in d xs w).next u v n m s t e)

  only : (w v : Walk) (n m : ℕ) → Between d xs w n v → Between d xs w m v → n ≡ m
  only w v n m s t = only-at w v v n m s t refl

  -- ---- the budget

  at_most : (n : ℕ) (w : Walk) → (walk_on d xs n w).items ≤ n
  at_most = by-turns (λ n w r. r.items ≤ n) (λ w. omega arith) (λ n w y h. omega arith) (λ n w q. omega arith)

  barred : (w : Walk) → Told d xs 0 0 w (unspent d xs w)
  unfolding unspent
  barred w =
      pick-by (Told d xs 0 0 w) (ltb d.limit (length xs)) _ _
      (λ over. ap (λ (r : Stepped ℕ). r.found) (C.one w (ltb-true d.limit (length xs) over)))
      (λ short. pick-by (Told d xs 0 0 w) (is_fit w (units_in d xs)) _ _ (λ _. refl)
      (λ f. ap (λ (r : Stepped ℕ). r.found) (C.thirteen w (ltb-false d.limit (length xs) short) f)))

  more-told : (n i : ℕ) (v : Walk) (p : Pause ℕ) → Told d xs n i v p → Told d xs (suc n) (suc i) v p
  more-told n i v P.Spent t = omega arith
  more-told n i v P.End t = (omega arith, t.1)
  more-told n i v (P.Refused m p) t = t

  stop-told : (n : ℕ) (w : Walk) (f : Found ℕ) → (step_in d xs w).found ≡ f → Stops f → Told d xs (suc n) 0 w (pause_of f)
  stop-told n w (F.Item o m e k h) eq s = absurd s
  stop-told n w (F.Refused m p) eq s = eq
  stop-told n w F.End eq s = (omega arith, eq)

  told : (n : ℕ) (w : Walk) → Told d xs n (walk_on d xs n w).items (walk_on d xs n w).next (walk_on d xs n w).pause
  told = by-turns (λ n w r. Told d xs n r.items r.next r.pause) barred (λ n w y t. more-told n (walk_on d xs n (step_in d xs w).next).items (walk_on d xs n (step_in d xs w).next).next
      (walk_on d xs n (step_in d xs w).next).pause t)
      (λ n w q. stop-told n w (step_in d xs w).found refl q)

  abbrev Before : ℕ → Walk → Walked ℕ → Type 0
  Before n w r = length w.ends ≡ max_depth → (m p : ℕ) → r.pause ≡ P.Refused m p → (r.items < n) ⊎ ((n ≡ 0) × ((m ≡ 1) ⊎ (m ≡ 13)))

  barred-number : (w : Walk) (m p : ℕ) → unspent d xs w ≡ P.Refused m p → (m ≡ 1) ⊎ (m ≡ 13)
  unfolding unspent
  barred-number w m p =
      pick-by (λ q. q ≡ P.Refused m p → (m ≡ 1) ⊎ (m ≡ 13)) (ltb d.limit (length xs)) _ _ (λ _ e. inl cc)
      (λ _. pick-by (λ q. q ≡ P.Refused m p → (m ≡ 1) ⊎ (m ≡ 13)) (is_fit w (units_in d xs)) _ _
      (λ _ e. let z : ◌≡◌ {A = ℕ} 0 1 = cc in absurd (omega arith)) (λ _ e. inr cc))

  -- ---- the end or a refusal, found on the way

  -- steps that yield are counted, and the rest of the budget goes on behind them
  onward : (j : ℕ) {w v : Walk} {k : ℕ} → Between d xs w k v → walk_on d xs (k + j) w ≡ plus k (walk_on d xs j v)
  onward j {w} here = let z : 0 + j ≡ j = omega arith in rw (z, zero-add)
  onward j {w} {v} (on {n = k} y s) =
      let z : suc k + j ≡ suc (k + j) = omega arith in
      rw z (yields (k + j) w y ∙ ap counted (onward j s) ∙ ap (λ (i : ℕ). record { next = (walk_on d xs j v).next; items = i; pause = (walk_on d xs j v).pause }) (omega arith))

  exactly : (n : ℕ) (w v : Walk) → Between d xs w n v → ((walk_on d xs n w).next ≡ v) × ((walk_on d xs n w).items ≡ n)
  unfolding walk_on
  exactly n w v b = let z : n ≡ n + 0 = omega arith in let e = ap (λ (i : ℕ). walk_on d xs i w) z ∙ onward 0 b in rw e (refl, omega arith)

  found-there : (n k : ℕ) (w v : Walk) → Between d xs w k v → k < n → Stops (step_in d xs v).found
      → walk_on d xs n w ≡ record { next = v; items = k; pause = pause_of (step_in d xs v).found }
  found-there n k w v b h s =
      let z : n ≡ k + suc (n - (k + 1)) = omega arith in
      ap (λ (i : ℕ). walk_on d xs i w) z ∙ onward (suc (n - (k + 1))) b ∙ ap (plus k) (stops (n - (k + 1)) v s) ∙ rw add-zero

  ends : (n k : ℕ) (w v : Walk) → Between d xs w k v → k < n → (step_in d xs v).found ≡ F.End
      → walk_on d xs n w ≡ record { next = v; items = k; pause = P.End }
  ends n k w v b h e = found-there n k w v b h (rw e tt) ∙ rw e

  refuses : (n k : ℕ) (w v : Walk) (m p : ℕ) → Between d xs w k v → k < n → (step_in d xs v).found ≡ F.Refused m p
      → walk_on d xs n w ≡ record { next = v; items = k; pause = P.Refused m p }
  refuses n k w v m p b h e = found-there n k w v b h (rw e tt) ∙ rw e

  -- ---- from the start

  on-the-way : (k n : ℕ) → (walk_on d xs n (after d xs k)).next ≡ after d xs (k + n)
  unfolding walk_on after
  on-the-way k zero = rw add-zero
  on-the-way k (suc n) =
      ⊎_elim
      (λ y. let z : suc k + n ≡ k + suc n = omega arith in rw (yields n (after d xs k) y) (on-the-way (suc k) n ∙ ap (after d xs) z))
      (λ s. rw (stops n (after d xs k) s) (sym (C.ended k s (suc n))))
      (one_of (step_in d xs (after d xs k)).found)

  -- ---- two in turn

  halts : (n : ℕ) (w : Walk) → Stops (step_in d xs w).found → ((walk_on d xs n w).next ≡ w) × ((walk_on d xs n w).items ≡ 0)
  unfolding walk_on
  halts zero w s = (refl, refl)
  halts (suc n) w s = rw (stops n w s) (refl, refl)

  in-turn : (m n : ℕ) (w : Walk) → let a = walk_on d xs m w in Alike a (walk_on d xs n a.next) (walk_on d xs (m + n) w)
  in-turn m n =
      by-turns (λ j w a. Alike a (walk_on d xs n a.next) (walk_on d xs (j + n) w))
      (λ w. let z : 0 + n ≡ n = omega arith in rw z (record { next = refl; items = omega arith }))
      (λ j w y h. let z : suc j + n ≡ suc (j + n) = omega arith in rw (z, yields (j + n) w y) (record { next = h.next; items = omega (arith, h.items) }))
      (λ j w s.
      let z : suc j + n ≡ suc (j + n) = omega arith in
      let a = halts n w s in
      rw (z, stops (j + n) w s) (record { next = a.0; items = omega (arith, a.1) }))
      m

  pauses : (m n : ℕ) (w : Walk) → 0 < n → (walk_on d xs n (walk_on d xs m w).next).pause ≡ (walk_on d xs (m + n) w).pause
  pauses m zero w h = absurd (omega arith)
  pauses m (suc n) w h =
      by-turns (λ j v a. (walk_on d xs (suc n) a.next).pause ≡ (walk_on d xs (j + suc n) v).pause)
      (λ v. let z : 0 + suc n ≡ suc n = omega arith in rw z)
      (λ j v y e. let z : suc j + suc n ≡ suc (j + suc n) = omega arith in rw (z, yields (j + suc n) v y) e)
      (λ j v s. let z : suc j + suc n ≡ suc (j + suc n) = omega arith in rw (z, stops (j + suc n) v s, stops n v s))
      m w

  -- ---- 1 and 13

  pub one : (n : ℕ) (w : Walk) → d.limit < length xs → walk_on d xs n w ≡ halted w (P.Refused 1 0)
  unfolding walk_on unspent
  one zero w over = rw (lt-ltb d.limit (length xs) over)
  one (suc n) w over = rw (C.one w over)

  pub thirteen : (n : ℕ) (w : Walk) → length xs ≤ d.limit → is_fit w (units_in d xs) ≡ false → walk_on d xs n w ≡ halted w (P.Refused 13 0)
  unfolding walk_on unspent
  thirteen zero w short e = rw (le-ltb d.limit (length xs) short, e)
  thirteen (suc n) w short e = rw (C.thirteen w short e)

  barred-one : (w : Walk) (p : ℕ) → unspent d xs w ≡ P.Refused 1 p → d.limit < length xs
  unfolding unspent
  barred-one w p =
      pick-by (λ q. q ≡ P.Refused 1 p → d.limit < length xs) (ltb d.limit (length xs)) _ _ (λ t e. ltb-true d.limit (length xs) t)
      (λ _. pick-by (λ q. q ≡ P.Refused 1 p → d.limit < length xs) (is_fit w (units_in d xs)) _ _
      (λ _ e. let z : ◌≡◌ {A = ℕ} 0 1 = cc in absurd (omega arith)) (λ _ e. let z : ◌≡◌ {A = ℕ} 13 1 = cc in absurd (omega arith)))

  found-refused : (f : Found ℕ) (m p : ℕ) → Stops f → pause_of f ≡ P.Refused m p → f ≡ F.Refused m p
  found-refused (F.Item o n e k h) m p s q = absurd s
  found-refused (F.Refused m' p') m p s q = cc
  found-refused F.End m p s q = let z : ◌≡◌ {A = ℕ} 0 1 = cc in absurd (omega arith)

  only_one : (n : ℕ) (w : Walk) (p : ℕ) → (walk_on d xs n w).pause ≡ P.Refused 1 p → d.limit < length xs
  only_one = by-turns (λ n w r. (p : ℕ) → r.pause ≡ P.Refused 1 p → d.limit < length xs) barred-one (λ n w y h. h)
      (λ n w s p e. C.only_one w p (found-refused (step_in d xs w).found 1 p s e))

  barred-thirteen : (w : Walk) (p : ℕ) → unspent d xs w ≡ P.Refused 13 p → is_fit w (units_in d xs) ≡ false
  unfolding unspent
  barred-thirteen w p =
      pick-by (λ q. q ≡ P.Refused 13 p → is_fit w (units_in d xs) ≡ false) (ltb d.limit (length xs)) _ _
      (λ t e. let z : ◌≡◌ {A = ℕ} 1 13 = cc in absurd (omega arith))
      (λ _. pick-by (λ q. q ≡ P.Refused 13 p → is_fit w (units_in d xs) ≡ false) (is_fit w (units_in d xs)) _ _
      (λ _ e. let z : ◌≡◌ {A = ℕ} 0 1 = cc in absurd (omega arith)) (λ f e. f))

  true-false {ℓ} : {A : Type ℓ} (b : Bool) → b ≡ true → b ≡ false → A
  true-false true e f = let z : ◌≡◌ {A = ℕ} 0 1 = cc in absurd (omega arith)
  true-false false e f = let z : ◌≡◌ {A = ℕ} 0 1 = cc in absurd (omega arith)

  only-thirteen : (n : ℕ) (w : Walk) (p : ℕ) → length w.ends ≡ max_depth → (walk_on d xs n w).pause ≡ P.Refused 13 p
      → is_fit w (units_in d xs) ≡ false
  only-thirteen n w p full e =
      by-turns (λ j v r. (q : ℕ) → length v.ends ≡ max_depth → r.pause ≡ P.Refused 13 q → is_fit v (units_in d xs) ≡ false)
      (λ v q f. barred-thirteen v q)
      (λ j v y h q f g.
      let fit = yields-fit d xs C v y in
      let kept = C.keeps-fit v f fit in
      true-false (is_fit (step_in d xs v).next (units_in d xs)) kept.0 (h q kept.1 g))
      (λ j v s q f g. (C.only-thirteen v q (found-refused (step_in d xs v).found 13 q s g)).1)
      n w p full e

  -- behind a step that yields, a budget of 0 is used up
  unbarred : (w : Walk) → length w.ends ≡ max_depth → Yields (step_in d xs w).found → unspent d xs (step_in d xs w).next ≡ P.Spent
  unfolding unspent
  unbarred w full y =
      ⊎_elim (λ over. absurd (subst (λ (r : Stepped ℕ). Yields r.found) (C.one w over) y))
      (λ short. rw (le-ltb d.limit (length xs) short, (C.keeps-fit w full (yields-fit d xs C w y)).0)) (lt-or-ge d.limit (length xs))

  later : (n : ℕ) (w : Walk) → length w.ends ≡ max_depth → Yields (step_in d xs w).found → (m p : ℕ)
      → (walk_on d xs n (step_in d xs w).next).pause ≡ P.Refused m p → n ≡ 0 → ⊥
  unfolding walk_on
  later zero w full y m p e z = let u = unbarred w full y in let c : ◌≡◌ {A = ℕ} 0 1 = cc in omega arith
  later (suc n) w full y m p e z = omega arith

  before : (n : ℕ) (w : Walk) → Before n w (walk_on d xs n w)
  before = by-turns Before (λ w full m p e. inr (refl, barred-number w m p e))
      (λ n w y h full m p e. ⊎_elim (λ l. inl (omega arith)) (λ q. absurd (later n w full y m p e q.0))
      (h (C.keeps-fit w full (yields-fit d xs C w y)).1 m p e))
      (λ n w q full m p e. inl (omega arith))

  claims : InstalmentClaims d xs
  unfolding walk_on
  claims = record {
    steps = steps;
    only = only;
    exactly = exactly;
    ends = ends;
    refuses = refuses;
    on-the-way = on-the-way;
    at_most = at_most;
    told = told;
    before = λ n w m p full. before n w full m p;
    zero-budget = λ w. (refl, refl);
    in-turn = in-turn;
    pauses = pauses;
    one = one;
    thirteen = thirteen;
    only_one = only_one;
    only-thirteen = only-thirteen;
  }

-- ---- text and binary

on_same : (w : Walk) (f g : Found ℕ) (r q : Walked ℕ) → FoundRatio f g → SameInstalment r q → SameInstalment (on_item w f r) (on_item w g q)
on_same w (F.Item o n d k h) (F.Item o' n' d' k' h') r q e s = record { next = s.next; items = ap suc s.items }
on_same w (F.Refused m p) (F.Refused m' p') r q e s = record { next = refl; items = refl }
on_same w F.End F.End r q e s = record { next = refl; items = refl }
on_same w (F.Item o n d k h) (F.Refused m p) r q e s = absurd e
on_same w (F.Item o n d k h) F.End r q e s = absurd e
on_same w (F.Refused m p) (F.Item o n d k h) r q e s = absurd e
on_same w (F.Refused m p) F.End r q e s = absurd e
on_same w F.End (F.Item o n d k h) r q e s = absurd e
on_same w F.End (F.Refused m p) r q e s = absurd e

same : (t b : List ℕ) → ((w : Walk) → SameStep (step_in text t w) (step_in binary b w)) → (n : ℕ) (w : Walk)
    → SameInstalment (walk_on text t n w) (walk_on binary b n w)
unfolding walk_on
same t b e zero w = record { next = refl; items = refl }
same t b e (suc n) w =
    on_same w (step_in text t w).found (step_in binary b w).found _ _ (e w).found
    (subst (λ (v : Walk). SameInstalment (walk_on text t n (step_in text t w).next) (walk_on binary b n v)) (e w).next (same t b e n (step_in text t w).next))

pub proved : Instalments
proved = record {
  of-text = λ xs. claims text xs ((W.proved).of-text xs);
  of-binary = λ xs. claims binary xs ((W.proved).of-binary xs);
  text_same = λ t h. same t (to_binary t) ((W.proved).of-both.text-step t h);
  binary-same = λ b h. same (to_text b) b ((W.proved).of-both.binary-step b h);
}
