-- The judging of a framed primitive, and a group's own check, refuse by Conditions, in order. Assumes nothing.
use Rattle.std.specs.Prelude.{ℕ, zero, suc, ◌+◌, ◌-◌, ◌*◌, ◌/◌, ◌≤◌, ◌<◌, ◌≡◌, refl, List, [], ◌∷◌, ◌++◌, Bool, true, false, ◌⊎◌, length, get_or, drop, ltb, leb, eqb}
use Rattle.std.proofs.Common.{subst, sym, inl, inr, arith, length-drop, get_or-drop, ltb-true, ltb-false, leb-true, leb-false, eqb-true}
use Rattle.std.proofs.lemmas.Bool.{eqb-false}
use Rattle.base.specs.Pick.{pick, pick-by}
use Rattle.format.specs.declared.CodeRow.{CodeRow}
use Rattle.format.specs.declared.IndexRow.{IndexRow}
use Rattle.format.specs.declared.Kind.{Kind}
use Rattle.format.specs.declared.Kind.TheVariants.{Fixed, Variable, Group, Genus, Indexed}
use Rattle.format.specs.declared.Verdict.{Verdict}
use Rattle.format.specs.declared.Verdict.TheVariants.{Accepted, Refused}
use Rattle.format.specs.Registry.{index_chars}
use Rattle.format.specs.Values.{ondex_of}
use Rattle.format.specs.Framing.{sextet}
use Rattle.format.specs.Judging.{shift, and_then, unless, is_shortest, scan, behind, has_lead, judge_kind, own_check, zero_bits, ondex_right}
use Rattle.claims_rules.specs.Order.{Rule, ◌when◌, First, None}
use Rattle.claims_rules.proofs.Rules.{in-front}
use Rattle.claims_rules.specs.Conditions.{Other, Ordinary, FirstIs, FitsSmall, judging, group_rules, own_rules, SetOndex, indexed_judging}
use Rattle.claims_rules.proofs.Strangers.{strange, bad-first}
use Rattle.claims_rules.proofs.TextRules.{wrong-value, right-value}

infixr 5 ◌&◌
pub data Judged (rs : List Rule) : Verdict → Type 0 where
  passes : None rs → Judged rs Accepted
  refuses : {m p : ℕ} → First rs m → Judged rs (Refused m p)

-- ---- lists of rules

skip : (r : Rule) (rs : List Rule) (v : Verdict) → (r.given → ⊥) → Judged rs v → Judged (r ∷ rs) v
skip r rs v not (passes none) = passes (not, none)
skip r rs v not (refuses first) = refuses (inr (not, first))

-- an impossible one behind the others
trail : (rs : List Rule) (r : Rule) (v : Verdict) → (r.given → ⊥) → Judged rs v → Judged (rs ++ (r ∷ [])) v
trail [] r v not (passes none) = passes (not, tt)
trail [] r v not (refuses first) = absurd first
trail (q ∷ rs) r v not (passes none) = skip q _ _ none.0 (trail rs r Accepted not (passes none.1))
trail (q ∷ rs) r v not (refuses (inl first)) = refuses (inl first)
trail (q ∷ rs) r v not (refuses {p = p} (inr first)) = skip q _ _ first.0 (trail rs r (Refused _ p) not (refuses first.1))

shift-judged : (o : ℕ) (rs : List Rule) (v : Verdict) → Judged rs v → Judged rs (shift o v)
unfolding shift
shift-judged o rs v (passes none) = passes none
shift-judged o rs v (refuses first) = refuses first

-- some rules, then others
then-judged : (qs rs : List Rule) (v w : Verdict) → Judged qs v → Judged rs w → Judged (qs ++ rs) (and_then v w)
unfolding and_then
then-judged [] rs v w (passes none) j = j
then-judged [] rs v w (refuses first) j = absurd first
then-judged (q ∷ qs) rs v w (passes none) j = skip q (qs ++ rs) w none.0 (then-judged qs rs Accepted w (passes none.1) j)
then-judged (q ∷ qs) rs v w (refuses {m = m} first) j = refuses (in-front (q ∷ qs) rs m first)

-- rules for others that say the same
data Alike : List Rule → List Rule → Type 1 where
  end : Alike [] []
  ◌&◌ : {n : ℕ} {C D : Type 0} {rs qs : List Rule} → (C → D) × (D → C) → Alike rs qs → Alike (n when C ∷ rs) (n when D ∷ qs)

none_alike : {rs qs : List Rule} → Alike rs qs → None rs → None qs
none_alike end n = tt
none_alike (s & a) n = (λ d. n.0 (s.1 d), none_alike a n.1)

first_alike : {rs qs : List Rule} (m : ℕ) → Alike rs qs → First rs m → First qs m
first_alike m end f = f
first_alike m (s & a) (inl f) = inl (s.0 f.0, f.1)
first_alike m (s & a) (inr f) = inr (λ d. f.0 (s.1 d), first_alike m a f.1)

same : {rs qs : List Rule} (v : Verdict) → Alike rs qs → Judged rs v → Judged qs v
same v a (passes none) = passes (none_alike a none)
same v a (refuses {m = m} first) = refuses (first_alike m a first)

-- ---- the checks

unless-judged : (n : ℕ) (b : Bool) (C : Type 0) → (b ≡ false → C) → (b ≡ true → C → ⊥) → Judged (n when C ∷ []) (unless n b)
unfolding unless
unless-judged n true C f t = passes (t refl, tt)
unless-judged n false C f t = refuses (inl (f refl, refl))

pub true-false : true ≡ false → ⊥
true-false e = let z : ◌≡◌ {A = ℕ} 0 1 = cc in omega arith

unless-false : (n : ℕ) (b : Bool) → Judged (n when (b ≡ false) ∷ []) (unless n b)
unless-false n b = unless-judged n b (b ≡ false) (λ e. e) (λ t f. true-false (cc))

-- 5 or 19

-- the first bad one of a list is that of the list behind a known one
module _ (Is : ℕ → Type 0) (bad : (v : ℕ) → Is v → 64 ≤ v) (x : ℕ) (s : List ℕ) (l : x < 64) where
  later : FirstIs Is (sextet s) 0 (length s) → FirstIs Is (sextet (x ∷ s)) 0 (suc (length s))
  later (i, a, b, k, v) = (suc i, omega arith, omega arith, known, v)
    where
      known : (j : ℕ) → 0 ≤ j → j < suc i → sextet (x ∷ s) j < 64
      known zero c d = l
      known (suc j) c d = k j (omega arith) (omega arith)

  sooner : FirstIs Is (sextet (x ∷ s)) 0 (suc (length s)) → FirstIs Is (sextet s) 0 (length s)
  sooner (zero, a, b, k, v) = absurd (omega (arith, bad x v))
  sooner (suc i, a, b, k, v) = (i, omega arith, omega arith, λ j c d. k (suc j) (omega arith) (omega arith), v)

other-bad : (v : ℕ) → Other v → 64 ≤ v
other-bad v o = o.0

ordinary-bad : (v : ℕ) → Ordinary v → 64 ≤ v
ordinary-bad v e = omega arith

scan-judged : (s : List ℕ) → Judged (strange (sextet s) 0 (length s) []) (scan s)
unfolding scan
scan-judged [] = passes (λ q. omega (arith, q.1, q.2), (λ q. omega (arith, q.1, q.2), tt))
scan-judged (x ∷ s) =
    pick-by (Judged (strange (sextet (x ∷ s)) 0 (suc (length s)) [])) (ltb x 64) _ _
    (λ e. let l = ltb-true x 64 e in
    shift-judged 1 _ (scan s) (same (scan s)
    ((later Other other-bad x s l, sooner Other other-bad x s l) & (later Ordinary ordinary-bad x s l, sooner Ordinary ordinary-bad x s l) & end)
    (scan-judged s)))
    (λ e. refuses (bad-first (sextet (x ∷ s)) 0 (suc (length s)) 0 [] (omega arith) (omega arith) (λ j a b. absurd (omega arith)) (ltb-false x 64 e)))

-- from a place on
module _ (Is : ℕ → Type 0) (n : ℕ) (s : List ℕ) where
  onward : FirstIs Is (sextet (drop n s)) 0 (length (drop n s)) → FirstIs Is (sextet s) n (length s)
  onward (i, a, b, k, v) = (n + i, omega arith, omega (arith, length-drop n s), known, subst Is (get_or-drop n s i 0) v)
    where
      known : (j : ℕ) → n ≤ j → j < n + i → sextet s j < 64
      known j c d = let e : n + (j - n) ≡ j = omega arith in rw (get_or-drop n s (j - n) 0, e) at (k (j - n) (omega arith) (omega arith))

  back : FirstIs Is (sextet s) n (length s) → FirstIs Is (sextet (drop n s)) 0 (length (drop n s))
  back (i, a, b, k, v) =
      let e : n + (i - n) ≡ i = omega arith in (
        i - n,
        omega arith,
        omega (arith, length-drop n s),
        λ j c d. rw (get_or-drop n s j 0) (k (n + j) (omega arith) (omega arith)),
        rw (get_or-drop n s (i - n) 0, e) v,
      )

behind-judged : (n : ℕ) (s : List ℕ) → Judged (strange (sextet s) n (length s) []) (shift n (scan (drop n s)))
behind-judged n s =
    shift-judged n _ (scan (drop n s)) (same (scan (drop n s))
    ((onward Other n s, back Other n s) & (onward Ordinary n s, back Ordinary n s) & end) (scan-judged (drop n s)))

-- 18
pub long-form : (h n : ℕ) → is_shortest h n ≡ false → FitsSmall h n
unfolding is_shortest
long-form h n =
    pick-by (λ (b : Bool). b ≡ false → FitsSmall h n) (eqb h 1) _ _ (λ e f. absurd (true-false f))
    (λ e f. (eqb-false h 1 e, leb-false 4096 n f))

pub short-form : (h n : ℕ) → is_shortest h n ≡ true → FitsSmall h n → ⊥
unfolding is_shortest
short-form h n =
    pick-by (λ (b : Bool). b ≡ true → FitsSmall h n → ⊥) (eqb h 1) _ _ (λ e t q. q.0 (eqb-true h 1 e))
    (λ e t q. omega (arith, leb-true 4096 n t, q.1))

short-judged : (h n : ℕ) → Judged (18 when (FitsSmall h n) ∷ []) (unless 18 (is_shortest h n))
short-judged h n = unless-judged 18 _ _ (long-form h n) (short-form h n)

-- 9
lead-missing : (lead count : ℕ) → has_lead lead count ≡ false → (0 < lead) × (count ≡ 0)
unfolding has_lead
lead-missing lead count =
    pick-by (λ (b : Bool). b ≡ false → (0 < lead) × (count ≡ 0)) (ltb 0 lead) _ _
    (λ e f. (ltb-true 0 lead e, omega (arith, ltb-false 0 count f))) (λ e f. absurd (true-false f))

lead-there : (lead count : ℕ) → has_lead lead count ≡ true → (0 < lead) × (count ≡ 0) → ⊥
unfolding has_lead
lead-there lead count =
    pick-by (λ (b : Bool). b ≡ true → (0 < lead) × (count ≡ 0) → ⊥) (ltb 0 lead) _ _
    (λ e t q. omega (arith, ltb-true 0 count t, q.1)) (λ e t q. omega (arith, ltb-false 0 lead e, q.0))

-- 15
pub ondex-set : (c : IndexRow) (ondex : ℕ) → ondex_right c ondex ≡ false → SetOndex c ondex
unfolding ondex_right
ondex-set c ondex =
    pick-by (λ (b : Bool). b ≡ false → SetOndex c ondex) (eqb c.current 0) _ _ (λ e f. absurd (true-false f))
    (λ e f. (eqb-false c.current 0 e, eqb-false ondex 0 f))

pub ondex-clear : (c : IndexRow) (ondex : ℕ) → ondex_right c ondex ≡ true → SetOndex c ondex → ⊥
unfolding ondex_right
ondex-clear c ondex =
    pick-by (λ (b : Bool). b ≡ true → SetOndex c ondex → ⊥) (eqb c.current 0) _ _ (λ e t q. q.0 (eqb-true c.current 0 e))
    (λ e t q. q.1 (eqb-true ondex 0 t))

pub indexed-judged : (c : IndexRow) (h : ℕ) (s : List ℕ)
    → Judged (indexed_judging (Indexed c) h s)
    (and_then (shift (4 * h) (scan (drop (4 * h) s)))
    (and_then (unless 8 (zero_bits s (index_chars c) c.zeros)) (unless 15 (ondex_right c (ondex_of c s)))))
indexed-judged c h s =
    then-judged _ _ _ _ (behind-judged (4 * h) s)
    (then-judged _ _ _ _ (unless-false 8 _) (unless-judged 15 _ _ (ondex-set c (ondex_of c s)) (ondex-clear c (ondex_of c s))))

-- ---- an item: of a group its own check, where l more may be entered

pub own-judged : (l : ℕ) (k : Kind) (h : ℕ) (s : List ℕ) → Judged (own_rules l k h s) (judge_kind k h s (own_check l))
unfolding judge_kind behind own_check
own-judged l (Fixed c) h s =
    then-judged _ _ _ _ (behind-judged (4 * h) s)
    (skip (18 when ⊥) _ _ (λ q. q) (skip (9 when ⊥) _ _ (λ q. q)
    (then-judged _ _ _ _ (unless-false 8 _) (skip (16 when ⊥) _ _ (λ q. q) (unless-false 10 _)))))
own-judged l (Variable t lead n) h s =
    then-judged _ _ _ _ (behind-judged (4 * h) s)
    (then-judged _ _ _ _ (short-judged h n)
    (then-judged _ _ _ _ (unless-judged 9 _ _ (lead-missing lead n) (lead-there lead n))
    (then-judged _ _ _ _ (unless-false 8 _)
    (trail _ (10 when ⊥) _ (λ q. q) (unless-judged 16 _ _ (wrong-value t lead (drop (4 * h) s)) (right-value t lead (drop (4 * h) s)))))))
own-judged l (Group letter) h s = check l
  where
    check : (m : ℕ) → Judged (group_rules m h s) (own_check m letter h (drop (4 * h) s))
    check zero = refuses (inl (refl, refl))
    check (suc m) =
        let n : length (drop (4 * h) s) / 4 ≡ length s / 4 - h = omega (arith, length-drop (4 * h) s) in
        skip (11 when (suc m ≡ 0)) _ _ (λ e. omega arith) (rw n (short-judged h (length s / 4 - h)))
own-judged l (Indexed c) h s = indexed-judged c h s
own-judged l Genus h s = passes tt
