-- Where the top-level item ends that a state stands in, and a scan that goes on. Assumes nothing.
use Rattle.std.specs.Prelude.{ℕ, zero, suc, ◌+◌, ◌*◌, ◌≤◌, ◌<◌, ◌≡◌, refl, List, [], ◌∷◌, ◌++◌, Bool, true, false, ltb, eqb, length, get_or, set, replicate}
use Rattle.std.proofs.Common.{sym, ap, ◌∙◌, arith, get_or-set_same, get_or-set_other, ne_eqb, eqb-true}
use Rattle.base.specs.Pick.{pick}
use Rattle.format.specs.declared.Kind.{Kind}
use Rattle.format.specs.declared.Verdict.{Verdict}
use Rattle.format.specs.declared.Verdict.TheVariants.{Accepted, Refused}
use Rattle.format.specs.Alphabet.{stranger_number}
use Rattle.format.specs.Registry.{is_indexed, is_overrideable}
use Rattle.format.specs.Judging.{shift, and_then, scan, max_depth}
use Rattle.laws.specs.Alphabet.{number-some}
use Rattle.laws.specs.Levels.{shift-shift}
use Rattle.walk_state.specs.declared.Walk.{Walk}
use Rattle.walk_state.specs.Walking.{closed, moved_to, next_of}
use Rattle.walk_claims.proofs.Fitting.{stop_at, Fits}
use Rattle.walk_claims.proofs.Steps.{into_next, over_next, next-by}
use Rattle.pieces.specs.Steps.{clear, end_of}

-- ---- the end, whatever is closed or opened within

closed-end : (d : ℕ) (ends : List ℕ) (at : ℕ) (first indexed : Bool)
    → end_of (closed d (record { ends = ends; depth = d; at = at; first = first; indexed = indexed }))
    ≡ end_of (record { ends = ends; depth = d; at = at; first = first; indexed = indexed })
unfolding closed end_of
closed-end zero ends at first indexed = refl
closed-end (suc d) ends at first indexed = go (closed-end d (set ends d 0) at first false) (eqb (get_or ends d 0) at) refl
  where
    outside : Walk
    outside = record { ends = set ends d 0; depth = d; at = at; first = first; indexed = false }

    -- its outermost end is kept
    kept : (d : ℕ) → get_or ends d 0 ≡ at → pick (eqb d 0) at (get_or (set ends d 0) 0 0) ≡ get_or ends 0 0
    kept zero e = sym e
    kept (suc d) e = rw (ne_eqb (suc d) 0 (λ q. omega arith)) (get_or-set_other ends (suc d) 0 0 0 (λ q. omega arith))

    go : end_of (closed d outside) ≡ end_of outside → (b : Bool) → eqb (get_or ends d 0) at ≡ b
        → end_of (pick b (closed d outside) (record { ends = ends; depth = suc d; at = at; first = first; indexed = indexed }))
        ≡ pick (eqb (suc d) 0) at (get_or ends 0 0)
    go ih true e = ih ∙ kept d (eqb-true (get_or ends d 0) at e) ∙ rw (ne_eqb (suc d) 0 (λ q. omega arith))
    go ih false e = refl

over-end : (w : Walk) (m : ℕ) → end_of (over_next w m) ≡ end_of (moved_to w (w.at + m))
unfolding moved_to
over-end w m = closed-end w.depth w.ends (w.at + m) false w.indexed

into-end : (w : Walk) (h m : ℕ) (b t : Bool) → length w.ends ≡ max_depth → end_of (into_next w h m b t) ≡ end_of (moved_to w (w.at + m))
unfolding end_of moved_to
into-end w h m b t full =
    closed-end (suc w.depth) (set w.ends w.depth (w.at + m)) (w.at + h) (pick (ltb h m) b false) t ∙ outer w.depth
  where
    outer : (d : ℕ) → pick (eqb (suc d) 0) (w.at + h) (get_or (set w.ends d (w.at + m)) 0 0) ≡ pick (eqb d 0) (w.at + m) (get_or w.ends 0 0)
    outer zero = get_or-set_same w.ends 0 (w.at + m) 0 (omega arith)
    outer (suc d) =
        rw (ne_eqb (suc (suc d)) 0 (λ q. omega arith), ne_eqb (suc d) 0 (λ q. omega arith))
        (get_or-set_other w.ends (suc d) 0 (w.at + m) 0 (λ q. omega arith))

pub next-end : (w : Walk) (k : Kind) (h m : ℕ) → length w.ends ≡ max_depth → end_of (next_of w k h m) ≡ end_of (moved_to w (w.at + m))
next-end w k h m full =
    next-by w h m (λ v. end_of v ≡ end_of (moved_to w (w.at + m))) k (over-end w m)
    (λ letter _. into-end w h m (is_overrideable letter) (is_indexed letter) full)

-- ---- none open

all-zero : (k i : ℕ) → ◌≡◌ {A = ℕ} (get_or (replicate k 0) i 0) 0
all-zero zero i = refl
all-zero (suc k) zero = refl
all-zero (suc k) (suc i) = all-zero k i

pub clear-fits : (n at : ℕ) → at ≤ n → Fits (clear at) n
unfolding stop_at
clear-fits n at h = record {
  nest = record {
    full = refl;
    few = omega arith;
    unused = λ i _ _. all-zero max_depth i;
    within = λ i l. absurd (omega arith);
    reached = h;
    marked = λ e. let z : ◌≡◌ {A = ℕ} 0 1 = cc in absurd (omega arith);
    tabled = λ e. let z : ◌≡◌ {A = ℕ} 0 1 = cc in absurd (omega arith);
  };
  ahead = λ l. absurd (omega arith);
}

-- ---- scanning on

pub shift-then : (o : ℕ) (v w : Verdict) → shift o (and_then v w) ≡ and_then (shift o v) (shift o w)
unfolding shift and_then
shift-then o Accepted w = refl
shift-then o (Refused n p) w = refl

shift_zero : (v : Verdict) → shift 0 v ≡ v
unfolding shift
shift_zero Accepted = refl
shift_zero (Refused n p) = ap (Refused n) (omega arith)

pub scan-join : (xs ys : List ℕ) → scan (xs ++ ys) ≡ and_then (scan xs) (shift (length xs) (scan ys))
unfolding scan and_then
scan-join [] ys = sym (shift_zero (scan ys))
scan-join (x ∷ xs) ys = go (ltb x 64) (scan-join xs ys)
  where
    go : (b : Bool) → scan (xs ++ ys) ≡ and_then (scan xs) (shift (length xs) (scan ys))
        → pick b (shift 1 (scan (xs ++ ys))) (Refused (stranger_number x) 0)
        ≡ and_then (pick b (shift 1 (scan xs)) (Refused (stranger_number x) 0)) (shift (suc (length xs)) (scan ys))
    go true e =
        let z : 1 + length xs ≡ suc (length xs) = omega arith in
        ap (shift 1) e ∙ shift-then 1 (scan xs) (shift (length xs) (scan ys))
        ∙ ap (and_then (shift 1 (scan xs))) (shift-shift 1 (length xs) (scan ys) ∙ ap (λ (o : ℕ). shift o (scan ys)) z)
    go false e = refl

-- a scan refuses with a number, within the list
pub scan-refused : (s : List ℕ) (n p : ℕ) → scan s ≡ Refused n p → (0 < n) × (p < length s)
unfolding scan shift
scan-refused [] n p e = let z : ◌≡◌ {A = ℕ} 0 1 = cc in absurd (omega arith)
scan-refused (x ∷ xs) n p e = go (ltb x 64) (scan xs) refl e (λ q f. scan-refused xs n q f)
  where
    go : (b : Bool) (v : Verdict) → scan xs ≡ v → pick b (shift 1 v) (Refused (stranger_number x) 0) ≡ Refused n p
        → ((q : ℕ) → scan xs ≡ Refused n q → (0 < n) × (q < length xs)) → (0 < n) × (p < suc (length xs))
    go true Accepted f e rec = let z : ◌≡◌ {A = ℕ} 0 1 = cc in absurd (omega arith)
    go true (Refused m q) f e rec =
        let z : m ≡ n = cc in
        let y : 1 + q ≡ p = cc in
        let r = rec q (f ∙ ap (λ (k : ℕ). Refused k q) z) in
        (r.0, omega arith)
    go false v f e rec = let z : stranger_number x ≡ n = cc in let y : 0 ≡ p = cc in (omega (arith, number-some x), omega arith)
