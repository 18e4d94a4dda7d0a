-- One induction over judging: what holds of every verdict, in whatever way an item is refused. Assumes nothing.
use Prim.Native.Nat.{ℕ, zero, suc, ◌*◌, ◌/◌, ◌%◌, ◌≤◌, ◌<◌}
use Rattle.std.specs.Prelude.{◌≡◌, Bool, length, take, drop}
use Rattle.std.proofs.Math.Path.{refl}
use Rattle.std.proofs.Common.{subst, arith, length-take-le}
use mathlib.Core.List.{List, [], ◌∷◌}
use Rattle.std.proofs.Math.Bool.{true, false}
use Rattle.base.specs.Pick.{pick-by}
use Rattle.format.specs.declared.Kind.{Kind}
use Rattle.format.specs.declared.Kind.TheVariants.{Fixed, Variable, Group, Genus, Indexed}
use Rattle.format.specs.declared.Framed.{Framed}
use Rattle.format.specs.declared.Framed.TheVariants.{Item, Unframed}
use Rattle.format.specs.declared.Verdict.{Verdict}
use Rattle.format.specs.declared.Verdict.TheVariants.{Accepted, Refused}
use Rattle.format.specs.Registry.{is_indexed, is_overrideable}
use Rattle.format.specs.Framing.{sextet, frame, frame_by, frame_next, scale}
use Rattle.format.specs.Cutting.{Cut, cut_by, cut_f, cut}
use Rattle.format.specs.Cutting.Cut.{done, stopped, item}
use Rattle.format.specs.Judging.{shift, and_then, unless, scan, behind, judge_kind, judge_by, in_turn, frame4, frame_next4, contents}
use Rattle.format.specs.Judging.{own_check, group, judge, judge_with}
use Rattle.laws.specs.Framing.{Good, Lawful, Told, by-good, by-told, next-good, next-told}
use Rattle.laws.specs.Framing.{unscale, unscale-unframed}

-- ---- the laws that are asked

-- of a property Q of lists of sextets, which parts keep, and a property P of verdicts on them
pub record Reaches (Q : List ℕ → Type 0) (P : Verdict → Type 0) : Type 0 where
  pub takes : (n : ℕ) (s : List ℕ) → Q s → Q (take n s)
  pub drops : (n : ℕ) (s : List ℕ) → Q s → Q (drop n s)
  pub accepts : P Accepted
  pub refuses : (n : ℕ) → 0 < n → P (Refused n 0)
  pub counts-on : (k : ℕ) (v : Verdict) → P v → P (shift (4 * k) v)
  pub scans : (s : List ℕ) → Q s → P (scan s)
  pub told : (s : List ℕ) (n p : ℕ) → Q s → Told (sextet s) (Unframed n p) → P (Refused n p)

-- ---- framings that cut whole units

record Cuts (f : List ℕ → Framed) : Type 0 where
  whole : (s : List ℕ) (k : Kind) (h n : ℕ) → f s ≡ Item k h n → (n % 4 ≡ 0) × (n ≤ length s)
  tells : (s : List ℕ) (n p : ℕ) → f s ≡ Unframed n p → Told (sextet s) (Unframed n p)

module _ (f : (ℕ → ℕ) → ℕ → Framed) (g : List ℕ → Framed) (good : (s : List ℕ) → Good f (sextet s) (length s / 4) (g s))
    (tells : (s : List ℕ) → Told (sextet s) (g s)) where
  in-sextets : (s : List ℕ) (k : Kind) (h n n' : ℕ) → n ≡ n' * 4 → Lawful f (sextet s) (length s / 4) k h n' → (n % 4 ≡ 0) × (n ≤ length s)
  in-sextets s k h n n' e l = (omega arith, omega arith)

  cuts : Cuts (λ s. scale 4 (g s))
  cuts = record {
    whole = λ s k h n e.
        let q = unscale 4 (g s) e in
        in-sextets s k q.0 n q.1 q.4 (subst (Good f (sextet s) (length s / 4)) q.2 (good s));
    tells = λ s n p e. subst (Told (sextet s)) (unscale-unframed 4 (g s) n p e) (tells s);
  }

frame4-cuts : (t : Bool) → Cuts (frame4 t)
unfolding frame4
frame4-cuts t = cuts _ (frame_by t) (by-good t) (by-told t)

frame_next4-cuts : (t first : Bool) → Cuts (frame_next4 t first)
unfolding frame_next4
frame_next4-cuts t first = cuts _ (frame_next t first) (next-good t first) (next-told t first)

-- ---- the induction

module _ (Q : List ℕ → Type 0) (P : Verdict → Type 0) (R : Reaches Q P) where
  abbrev Fine : Cut → Type 0
  Fine done = Unit {0}
  Fine (stopped n p r) = P (Refused n p)
  Fine (item i c) = Q i × (length i % 4 ≡ 0) × Fine c

  fine-by : (f : List ℕ → Framed) → Cuts f → (s : List ℕ) → Q s → (r : Framed) → f s ≡ r → (go : List ℕ → Cut)
      → ((ys : List ℕ) → Q ys → Fine (go ys)) → Fine (cut_by r s go)
  unfolding cut_by
  fine-by f C s q (Unframed n p) e go g = R.told s n p q (C.tells s n p e)
  fine-by f C s q (Item k h n) e go g =
      let w = C.whole s k h n e in
      (R.takes n s q, rw (length-take-le n s w.1) w.0, g (drop n s) (R.drops n s q))

  fine-turns : (f : List ℕ → Framed) → Cuts f → (t : ℕ) (s : List ℕ) → Q s → Fine (cut_f f t s)
  unfolding cut_f
  fine-turns f C zero s q = tt
  fine-turns f C (suc t) [] q = tt
  fine-turns f C (suc t) (x ∷ s) q = fine-by f C (x ∷ s) q (f (x ∷ s)) refl (λ ys. cut_f f t ys) (λ ys. fine-turns f C t ys)

  fine-cut : (t : Bool) (s : List ℕ) → Q s → Fine (cut (frame4 t) s)
  unfolding cut
  fine-cut t s q = fine-turns (frame4 t) (frame4-cuts t) (length s) s q

  fine-contents : (t first : Bool) (s : List ℕ) → Q s → Fine (contents t first s)
  unfolding contents
  fine-contents t first [] q = tt
  fine-contents t first (x ∷ s) q =
      fine-by (frame_next4 t first) (frame_next4-cuts t first) (x ∷ s) q (frame_next4 t first (x ∷ s)) refl (cut (frame4 t)) (fine-cut t)

  and-then : (v w : Verdict) → P v → P w → P (and_then v w)
  unfolding and_then
  and-then Accepted w a b = b
  and-then (Refused n p) w a b = a

  unless-by : (n : ℕ) (b : Bool) → 0 < n → P (unless n b)
  unfolding unless
  unless-by n true h = R.accepts
  unless-by n false h = R.refuses n h

  shift_by : (n : ℕ) (v : Verdict) → n % 4 ≡ 0 → P v → P (shift n v)
  shift_by n v e p = let z : n ≡ 4 * (n / 4) = omega arith in rw z (R.counts-on (n / 4) v p)

  in-turn : (j : List ℕ → Verdict) → ((s : List ℕ) → Q s → P (j s)) → (c : Cut) → Fine c → P (in_turn j c)
  unfolding in_turn
  in-turn j h done f = R.accepts
  in-turn j h (stopped n p r) f = f
  in-turn j h (item i c) f = and-then _ _ (h i f.0) (shift_by (length i) (in_turn j c) f.1 (in-turn j h c f.2))

  behind-by : (h : ℕ) (s : List ℕ) → Q s → P (behind h s)
  unfolding behind
  behind-by h s q = R.counts-on h (scan (drop (4 * h) s)) (R.scans (drop (4 * h) s) (R.drops (4 * h) s q))

  -- what judges a group's contents
  abbrev pub Inner : (ℕ → ℕ → List ℕ → Verdict) → Type 0
  Inner go = (l h : ℕ) (ys : List ℕ) → Q ys → P (go l h ys)

  pub kind-by : (k : Kind) (h : ℕ) (s : List ℕ) (go : ℕ → ℕ → List ℕ → Verdict) → Q s → Inner go → P (judge_kind k h s go)
  unfolding judge_kind
  kind-by (Fixed c) h s go q g =
      and-then _ _ (behind-by h s q) (and-then _ _ (unless-by 8 _ (omega arith)) (unless-by 10 _ (omega arith)))
  kind-by (Variable t l m) h s go q g =
      and-then _ _ (behind-by h s q)
      (and-then _ _ (unless-by 18 _ (omega arith)) (and-then _ _ (unless-by 9 _ (omega arith))
      (and-then _ _ (unless-by 8 _ (omega arith)) (unless-by 16 _ (omega arith)))))
  kind-by (Group l) h s go q g = g l h (drop (4 * h) s) (R.drops (4 * h) s q)
  kind-by Genus h s go q g = R.accepts
  kind-by (Indexed c) h s go q g =
      and-then _ _ (behind-by h s q) (and-then _ _ (unless-by 8 _ (omega arith)) (unless-by 15 _ (omega arith)))

  judge-by : (r : Framed) (s : List ℕ) (go : ℕ → ℕ → List ℕ → Verdict) → Told (sextet s) r → Q s → Inner go → P (judge_by r s go)
  unfolding judge_by
  judge-by (Item k h n) s go t q g = kind-by k h s go q g
  judge-by (Unframed n p) s go t q g = R.told s n p q t

  pub check-by : (l : ℕ) → Inner (own_check l)
  unfolding own_check
  check-by zero letter h ys q = R.refuses 11 (omega arith)
  check-by (suc l) letter h ys q = unless-by 18 _ (omega arith)

  group-by : (l : ℕ) → Inner (group l)
  unfolding group
  group-by zero letter h ys q = check-by zero letter h ys q
  group-by (suc l) letter h ys q =
      and-then _ _ (check-by (suc l) letter h ys q)
      (R.counts-on h _
      (in-turn _ (λ s q'. judge-by (frame_by (is_indexed letter) s) s _ (by-told (is_indexed letter) s) q' (group-by l))
      (contents (is_indexed letter) (is_overrideable letter) ys) (fine-contents (is_indexed letter) (is_overrideable letter) ys q)))

  pub every-verdict : (l : ℕ) (s : List ℕ) → Q s → P (judge l s)
  unfolding judge_with
  every-verdict l s q = judge-by (frame s) s (group l) (by-told false s) q (group-by l)
