-- A step refuses by its rules, in order; an item is yielded where none of them holds; the end is the end. Assumes nothing.
use Rattle.std.specs.Prelude.{ℕ, zero, suc, ◌+◌, ◌-◌, ◌*◌, ◌%◌, ◌≤◌, ◌<◌, List, [], ◌∷◌, ◌++◌, Bool, ◌⊎◌, length, get_or, take, T, ltb, eqb}
use Rattle.std.proofs.Math.Path.{◌≡◌, refl, sym}
use Rattle.std.proofs.Common.{subst, ◌∙◌, inr, ⊎_elim, div-add-mod', length-drop, length-take, ltb→lt, ltb-false, eqb-true}
use Rattle.std.proofs.Math.Bool.{true, false}
use Rattle.std.proofs.Math.Logic.{inl}
use native.Mathlib.Omega.{arith}
use Rattle.std.proofs.lemmas.Bool.{eqb-false}
use Rattle.base.specs.Pick.{pick-by}
use Rattle.base.specs.Cases.{lt-or-ge}
use Rattle.base.specs.Table.{both, both_left, both_right}
use Rattle.format.specs.declared.Kind.{Kind}
use Rattle.format.specs.declared.Kind.TheVariants.{Fixed, Variable, Group, Genus, Indexed}
use Rattle.format.specs.declared.Framed.{Framed}
use Rattle.format.specs.declared.Framed.TheVariants.{Item, Unframed}
use Rattle.format.specs.declared.Verdict.TheVariants.{Accepted, Refused}
use Rattle.format.specs.Units.{Domain}
use Rattle.format.specs.Framing.{is_ours, ruled, sextet, frame_by, frame_next}
use Rattle.format.specs.Judging.{judge_kind, own_check, max_depth}
use Rattle.laws.specs.Domains.{Reader}
use Rattle.laws.specs.Levels.{part, any-item}
use Rattle.claims_rules.specs.Order.{Rule, ◌when◌, First, None, Among, Refusal}
use Rattle.claims_rules.proofs.Rules.{Allowed, behind, in-front, by-none, by_first, refusal}
use Rattle.claims_rules.proofs.Rules.Told.{accepted, told}
use Rattle.claims_rules.proofs.Rules.By.{none, first}
use Rattle.claims_rules.proofs.Rules.Allowed.{end, ◌&◌}
use Rattle.claims_rules.specs.Conditions as C
use Rattle.claims_rules.proofs.Framed.{framed-found, unframed-first}
use Rattle.claims_rules.proofs.Judged.{Judged, own-judged}
use Rattle.claims_rules.proofs.Judged.Judged.{passes, refuses}
use Rattle.walk_state.specs.declared.Walk.{Walk}
use Rattle.walk_state.specs.declared.Found.{Found}
use Rattle.walk_state.specs.declared.Found.TheVariants as F
use Rattle.walk_state.specs.Walking.{is_fit, stop_of, found_in, step_in}
use Rattle.walk_claims.specs.Words.{Fit, ahead_of, own_of, OtherGenus, step_rules, units_in, tail_of}
use Rattle.walk_claims.proofs.Fitting.{fit-facts, fit-made}
use Rattle.walk_claims.proofs.Steps.{asked, step_by, in-by}

-- ---- framing with 7

-- 7 is asked of w
abbrev Asks : Walk → Type 0
Asks w = (w.depth ≡ 0) ⊎ (w.first ≡ true)

asks : (w : Walk) → asked w ≡ true → Asks w
unfolding asked
asks w = pick-by (λ (b : Bool). b ≡ true → Asks w) (eqb w.depth 0) true w.first (λ e q. inl (eqb-true w.depth 0 e)) (λ e q. inr q)

asks-not : (w : Walk) → asked w ≡ false → Asks w → ⊥
unfolding asked
asks-not w =
    pick-by (λ (b : Bool). b ≡ false → Asks w → ⊥) (eqb w.depth 0) true w.first
    (λ e q. let z : ◌≡◌ {A = ℕ} 0 1 = cc in absurd (omega arith))
    (λ e q a. ⊎_elim (λ z. eqb-false w.depth 0 e z) (λ t. let z : ◌≡◌ {A = ℕ} 0 1 = cc in omega arith) a)

-- a refusal's number, or that none of the rules holds
data Framing (rs : List Rule) : Framed → Type 0 where
  framed : {k : Kind} {h n : ℕ} → None rs → Framing rs (Item k h n)
  unframed : {m p : ℕ} → First rs m → Framing rs (Unframed m p)

module _ (w : Walk) (s : List ℕ) where
  abbrev with_seven : List Rule
  with_seven = C.framing w.indexed s ++ (7 when (OtherGenus w s) ∷ [])

  not-seven : (OtherGenus w s → ⊥) → (r : Framed) → frame_by w.indexed s ≡ r → Framing with_seven r
  not-seven not (Unframed m p) e = unframed (in-front (C.framing w.indexed s) (7 when (OtherGenus w s) ∷ []) m (unframed-first w.indexed s m p e))
  not-seven not (Item k h n) e =
      framed (by-none with_seven (behind (C.framing w.indexed s) (7 when (OtherGenus w s) ∷ []) accepted (framed-found w.indexed s k h n e).none (none (not, tt))))

  no-genus : (k : Kind) (h n : ℕ) → frame_by w.indexed s ≡ Item k h n → (k ≡ Genus → ⊥) → OtherGenus w s → ⊥
  no-genus k h n e not o = not ((framed-found w.indexed s k h n e).kind ∙ o.1)

  ruled-framing : Asks w → (r : Framed) → frame_by w.indexed s ≡ r → Framing with_seven (ruled (sextet s) r)
  unfolding ruled
  ruled-framing a (Unframed m p) e = unframed (in-front (C.framing w.indexed s) (7 when (OtherGenus w s) ∷ []) m (unframed-first w.indexed s m p e))
  ruled-framing a (Item (Fixed c) h n) e =
      not-seven (no-genus (Fixed c) h n e (λ z. let q : ◌≡◌ {A = ℕ} 0 1 = cc in omega arith)) (Item (Fixed c) h n) e
  ruled-framing a (Item (Variable t l c) h n) e =
      not-seven (no-genus (Variable t l c) h n e (λ z. let q : ◌≡◌ {A = ℕ} 0 1 = cc in omega arith)) (Item (Variable t l c) h n) e
  ruled-framing a (Item (Group l) h n) e =
      not-seven (no-genus (Group l) h n e (λ z. let q : ◌≡◌ {A = ℕ} 0 1 = cc in omega arith)) (Item (Group l) h n) e
  ruled-framing a (Item (Indexed c) h n) e =
      not-seven (no-genus (Indexed c) h n e (λ z. let q : ◌≡◌ {A = ℕ} 0 1 = cc in omega arith)) (Item (Indexed c) h n) e
  ruled-framing a (Item Genus h n) e =
      pick-by (Framing with_seven) (is_ours (sextet s)) _ _
      (λ t. not-seven (λ o. let g = o.2 in let q : ◌≡◌ {A = ℕ} 0 1 = cc in omega arith) (Item Genus h n) e)
      (λ f. unframed (by_first with_seven 7 (behind (C.framing w.indexed s) (7 when (OtherGenus w s) ∷ []) (told 7) (framed-found w.indexed s Genus h n e).none
      (first (inl ((a, sym (framed-found w.indexed s Genus h n e).kind, f), refl))))))

  next-framing : Framing with_seven (frame_next w.indexed (asked w) s)
  unfolding frame_next
  next-framing = go (asked w) refl
    where
      go : (b : Bool) → asked w ≡ b → Framing with_seven (frame_next w.indexed b s)
      go true e = ruled-framing (asks w e) (frame_by w.indexed s) refl
      go false e = not-seven (λ o. asks-not w e o.0) (frame_by w.indexed s) refl

-- ---- a step

module _ (d : Domain) (R : Reader d) (xs : List ℕ) (w : Walk) where
  abbrev ahead : List ℕ
  ahead = ahead_of d xs w

  -- what the step judges
  abbrev own_here : List Rule
  own_here = C.own_rules (max_depth - w.depth) (C.item_kind w.indexed ahead) (C.item_head w.indexed ahead) (own_of d xs w (C.item_size w.indexed ahead))

  data Stepping : Found ℕ → Type 0 where
    yields : {o n e h : ℕ} {k : Kind} → None (step_rules d xs w) → Stepping (F.Item o n e k h)
    stops : {m p : ℕ} → First (step_rules d xs w) m → Stepping (F.Refused m p)
    ends : length xs ≤ d.limit → is_fit w (units_in d xs) ≡ true → w.at ≡ units_in d xs → tail_of d xs ≡ false → Stepping F.End

  -- behind 1 and 13
  module _ (short : length xs ≤ d.limit) (fit : is_fit w (units_in d xs) ≡ true) where
    within : (m : ℕ) → First (with_seven w ahead ++ own_here) m → First (step_rules d xs w) m
    within m f = inr (λ l. omega arith, inr (λ u. u (fit-facts w (units_in d xs) fit), f))

    -- a unit that is not whole at the stream's end: 4 (first unit)
    no-unit : w.at ≡ units_in d xs → First (step_rules d xs w) 4
    no-unit e =
        let s : List ℕ = d.sextets xs in
        within 4 (inl (
          omega (
            arith,
            R.units xs,
            length-drop (4 * w.at) (take (4 * stop_of w (units_in d xs)) s),
            length-take (4 * stop_of w (units_in d xs)) s,
          ),
          refl,
        ))

    refused-framing : (m p : ℕ) → frame_next w.indexed (asked w) ahead ≡ Unframed m p → First (step_rules d xs w) m
    refused-framing m p e = go (subst (Framing (with_seven w ahead)) e (next-framing w ahead))
      where
        go : Framing (with_seven w ahead) (Unframed m p) → First (step_rules d xs w) m
        go (unframed f) = within m (in-front (with_seven w ahead) own_here m f)

    no-framing : (k : Kind) (h n : ℕ) → frame_next w.indexed (asked w) ahead ≡ Item k h n → None (with_seven w ahead)
    no-framing k h n e = go (subst (Framing (with_seven w ahead)) e (next-framing w ahead))
      where
        go : Framing (with_seven w ahead) (Item k h n) → None (with_seven w ahead)
        go (framed q) = q

    -- the item that the first unit opens, judged
    own : (k : Kind) (h n : ℕ) → frame_next w.indexed (asked w) ahead ≡ Item k h n
        → Judged own_here (judge_kind k h (part (d.sextets xs) w.at (w.at + n)) (own_check (max_depth - w.depth)))
    own k h n e =
        let f = framed-found w.indexed ahead k h n (any-item w.indexed (asked w) ahead k h n e) in
        rw (f.kind, f.head, f.size)
        (own-judged (max_depth - w.depth) (C.item_kind w.indexed ahead) (C.item_head w.indexed ahead) (own_of d xs w (C.item_size w.indexed ahead)))

    refused-judging : (k : Kind) (h n m p : ℕ) → frame_next w.indexed (asked w) ahead ≡ Item k h n
        → judge_kind k h (part (d.sextets xs) w.at (w.at + n)) (own_check (max_depth - w.depth)) ≡ Refused m p → First (step_rules d xs w) m
    refused-judging k h n m p e q = go (subst (Judged own_here) q (own k h n e))
      where
        go : Judged own_here (Refused m p) → First (step_rules d xs w) m
        go (refuses f) = within m (by_first _ m (behind (with_seven w ahead) own_here (told m) (no-framing k h n e) (first f)))

    accepted-judging : (k : Kind) (h n : ℕ) → frame_next w.indexed (asked w) ahead ≡ Item k h n
        → judge_kind k h (part (d.sextets xs) w.at (w.at + n)) (own_check (max_depth - w.depth)) ≡ Accepted → None (step_rules d xs w)
    accepted-judging k h n e q = go (subst (Judged own_here) q (own k h n e))
      where
        go : Judged own_here Accepted → None (step_rules d xs w)
        go (passes f) =
            (λ l. omega arith, (λ u. u (fit-facts w (units_in d xs) fit), by-none _ (behind (with_seven w ahead) own_here accepted (no-framing k h n e) (none f))))

  stepping : Stepping (step_in d xs w).found
  unfolding found_in
  stepping =
      in-by d xs w (λ r. Stepping r.found) (λ l. stops (inl (l, refl)))
      (λ l u. stops (inr (λ g. omega arith, inl (λ f. let z : ◌≡◌ {A = ℕ} 0 1 = cc (fit-made w (units_in d xs) f) in omega arith, refl))))
      (λ l f. step_by (d.sextets xs) (units_in d xs) (tail_of d xs) w (λ r. Stepping (found_in d.unit r.found))
      (λ e t. stops (no-unit l f e)) (λ e t. ends l f e t)
      (λ m p _ e. stops (refused-framing l f m p e))
      (λ k h m q p _ e j. stops (refused-judging l f k h m q p e j))
      (λ k h m _ e j. yields (accepted-judging l f k h m e j)))

-- ---- as claims

abbrev step_numbers : List ℕ
step_numbers = 1 ∷ 13 ∷ 4 ∷ 5 ∷ 19 ∷ 6 ∷ 7 ∷ 11 ∷ 18 ∷ 9 ∷ 8 ∷ 16 ∷ 15 ∷ 10 ∷ []

own-allowed : (l : ℕ) (k : Kind) (h : ℕ) (s : List ℕ) → Allowed step_numbers (C.own_rules l k h s)
own-allowed l (Fixed c) h s = inl tt & inl tt & inl tt & inl tt & inl tt & inl tt & inl tt & end
own-allowed l (Variable t v c) h s = inl tt & inl tt & inl tt & inl tt & inl tt & inl tt & inl tt & end
own-allowed l (Group g) h s = inl tt & inl tt & end
own-allowed l (Indexed c) h s = inl tt & inl tt & inl tt & inl tt & end
own-allowed l Genus h s = end

-- 255 is none of them
abbrev all_low : List ℕ → Bool
all_low [] = true
all_low (n ∷ ns) = both (ltb n 255) (all_low ns)

among-low : (ns : List ℕ) (m : ℕ) → T (all_low ns) → Among ns m → m < 255
among-low [] m t a = absurd a
among-low (n ∷ ns) m t (inl e) = omega (arith, e, ltb→lt n 255 (both_left (ltb n 255) (all_low ns) t))
among-low (n ∷ ns) m t (inr a) = among-low ns m (both_right (ltb n 255) (all_low ns) t) a

ends-inside : (w : Walk) (n : ℕ) → Fit w n → (i : ℕ) → i < w.depth → get_or w.ends i 0 ≤ n
ends-inside w n f zero h = f.outermost h
ends-inside w n f (suc i) h = omega (arith, f.nested i h, ends-inside w n f i (omega arith))

module _ (d : Domain) (R : Reader d) (xs : List ℕ) (w : Walk) where
  step-first : (m p : ℕ) → (step_in d xs w).found ≡ F.Refused m p → First (step_rules d xs w) m
  step-first m p e = go (subst (Stepping d R xs w) e (stepping d R xs w))
    where
      go : Stepping d R xs w (F.Refused m p) → First (step_rules d xs w) m
      go (stops f) = f

  pub step-refuses : (m p : ℕ) → (step_in d xs w).found ≡ F.Refused m p → Refusal step_numbers (step_rules d xs w) m
  step-refuses m p e =
      refusal step_numbers (step_rules d xs w) m (λ z. z)
      (inl tt & inl tt & inl tt & inl tt & inl tt & inl tt & inl tt & inl tt & inl tt & inl tt & inl tt
      & own-allowed (max_depth - w.depth) (C.item_kind w.indexed (ahead_of d xs w)) (C.item_head w.indexed (ahead_of d xs w))
      (own_of d xs w (C.item_size w.indexed (ahead_of d xs w))))
      (step-first m p e)

  pub step-low : (m p : ℕ) → (step_in d xs w).found ≡ F.Refused m p → m < 255
  step-low m p e = among-low step_numbers m tt (step-refuses m p e).listed

  pub step-accepts : (o n e h : ℕ) (k : Kind) → (step_in d xs w).found ≡ F.Item o n e k h → None (step_rules d xs w)
  step-accepts o n e h k q = go (subst (Stepping d R xs w) q (stepping d R xs w))
    where
      go : Stepping d R xs w (F.Item o n e k h) → None (step_rules d xs w)
      go (yields f) = f

  pub step-finishes : (step_in d xs w).found ≡ F.End
      → (length xs ≤ d.limit) × Fit w (units_in d xs) × (w.depth ≡ 0) × (w.at * d.unit ≡ length xs)
  step-finishes q = go (subst (Stepping d R xs w) q (stepping d R xs w))
    where
      go : Stepping d R xs w F.End → (length xs ≤ d.limit) × Fit w (units_in d xs) × (w.depth ≡ 0) × (w.at * d.unit ≡ length xs)
      go (ends l f e t) =
          let g = fit-facts w (units_in d xs) f in
          (l, g, outermost g, rw e (omega (arith, div-add-mod' (length xs) d.unit, ltb-false 0 (length xs % d.unit) t)))
        where
          outermost : Fit w (units_in d xs) → w.depth ≡ 0
          outermost g =
              ⊎_elim (λ z. absurd (omega (arith, g.before z, ends-inside w (units_in d xs) g (w.depth - 1) (omega arith))))
              (λ z. omega arith) (lt-or-ge 0 w.depth)
