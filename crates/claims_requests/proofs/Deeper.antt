-- A higher limit of nesting changes no verdict but 11, and so no report that holds none. Assumes nothing.
use Rattle.std.specs.Prelude.{ℕ, zero, suc, ◌+◌, ◌*◌, ◌≤◌, ◌≡◌, List, [], ◌∷◌, ◌++◌}
use Rattle.std.proofs.Math.Path.{refl}
use Rattle.std.proofs.Common.{arith}
use Rattle.std.proofs.Math.ListN.{length}
use Rattle.format.specs.declared.Kind.{Kind}
use Rattle.format.specs.declared.Kind.TheVariants.{Fixed, Variable, Group, Genus, Indexed}
use Rattle.format.specs.declared.Framed.{Framed}
use Rattle.format.specs.declared.Framed.TheVariants.{Item, Unframed}
use Rattle.format.specs.declared.Verdict.{Verdict}
use Rattle.format.specs.declared.Verdict.TheVariants.{Accepted, Refused}
use Rattle.format.specs.Units.{Domain}
use Rattle.format.specs.Registry.{is_indexed}
use Rattle.format.specs.Framing.{frame, frame_by}
use Rattle.format.specs.Cutting.{Cut, cut}
use Rattle.format.specs.Cutting.Cut.{done, stopped, item}
use Rattle.format.specs.Judging.{shift, and_then, judge_kind, judge_by, in_turn, own_check, group, judge_with}
use Rattle.format.specs.Report.{RefusalRow, rows_of, refusal, refusals_of, rows, refusals, remainder, placed, frame_in, judge_in, report}
use Rattle.claims_requests.specs.Words.{judge_to, refusals_to, report_to, NoEleven}
use Rattle.claims_requests.specs.Claims.{DeeperClaims}

-- ---- verdicts

abbrev NotEleven : Verdict → Type 0
NotEleven Accepted = Unit {0}
NotEleven (Refused n p) = n ≡ 11 → ⊥

-- w is v, unless v is 11
abbrev Kept : Verdict → Verdict → Type 0
Kept v w = NotEleven v → w ≡ v

same : (v : Verdict) → Kept v v
same v f = refl

then-kept : (v w v' w' : Verdict) → Kept v w → Kept v' w' → Kept (and_then v v') (and_then w w')
unfolding and_then
then-kept Accepted w v' w' a b f = rw (a tt) (b f)
then-kept (Refused n p) w v' w' a b f = rw (a f)

shift_kept : (o : ℕ) (v w : Verdict) → Kept v w → Kept (shift o v) (shift o w)
unfolding shift
shift_kept o Accepted w a f = rw (a tt)
shift_kept o (Refused n p) w a f = rw (a f)

placed-kept : (u : ℕ) (v w : Verdict) → Kept v w → Kept (placed u v) (placed u w)
unfolding placed
placed-kept u Accepted w a f = rw (a tt)
placed-kept u (Refused n p) w a f = rw (a f)

turn-kept : (j k : List ℕ → Verdict) → ((s : List ℕ) → Kept (j s) (k s)) → (c : Cut) → Kept (in_turn j c) (in_turn k c)
unfolding in_turn
turn-kept j k h done = same Accepted
turn-kept j k h (stopped n p r) = same (Refused n p)
turn-kept j k h (item i c) = then-kept _ _ _ _ (h i) (shift_kept (length i) _ _ (turn-kept j k h c))

-- ---- items: by two judges of a group

module _ (f g : ℕ → ℕ → List ℕ → Verdict) (e : (letter h : ℕ) (ys : List ℕ) → Kept (f letter h ys) (g letter h ys)) where
  kind-kept : (k : Kind) (h : ℕ) (s : List ℕ) → Kept (judge_kind k h s f) (judge_kind k h s g)
  unfolding judge_kind
  kind-kept (Fixed c) h s = same _
  kind-kept (Variable t lead n) h s = same _
  kind-kept (Group letter) h s = e letter h _
  kind-kept Genus h s = same _
  kind-kept (Indexed c) h s = same _

  by-kept : (r : Framed) (s : List ℕ) → Kept (judge_by r s f) (judge_by r s g)
  unfolding judge_by
  by-kept (Item k h n) s = kind-kept k h s
  by-kept (Unframed n p) s = same _

-- where l groups may be entered, and where m may
group-kept : (l m : ℕ) → l ≤ m → (letter h : ℕ) (ys : List ℕ) → Kept (group l letter h ys) (group m letter h ys)
unfolding group own_check
group-kept zero m le letter h ys = λ f. absurd (f refl)
group-kept (suc l) zero le letter h ys = absurd (omega arith)
group-kept (suc l) (suc m) le letter h ys =
    then-kept _ _ _ _ (same _)
    (shift_kept (4 * h) _ _ (turn-kept _ _ (λ s. by-kept _ _ (group-kept l m (omega arith)) (frame_by (is_indexed letter) s) s) _))

-- ---- the report

module _ (d : Domain) (l m : ℕ) (le : l ≤ m) where
  judge-kept : (xs : List ℕ) → Kept (judge_to l d xs) (judge_to m d xs)
  unfolding judge_to judge_with
  judge-kept xs =
      let s = d.sextets xs in
      placed-kept d.unit _ _ (by-kept (group l) (group m) (group-kept l m le) (frame s) s)

  -- a row without 11, and those behind it
  first : (k : ℕ) (v : Verdict) (rs : List RefusalRow) → NoEleven (refusal k v ++ rs) → NotEleven v × NoEleven rs
  unfolding refusal
  first k Accepted rs h = (tt, h)
  first k (Refused n p) rs h = h

  rows-kept : (k o : ℕ) (c : Cut) → NoEleven (refusals_of k (rows_of (judge_to l d) o c)) → rows_of (judge_to m d) o c ≡ rows_of (judge_to l d) o c
  unfolding rows_of refusals_of
  rows-kept k o done h = refl
  rows-kept k o (stopped n p r) h = refl
  rows-kept k o (item i c) h =
      let f = first k (shift o (judge_to l d i)) (refusals_of (suc k) (rows_of (judge_to l d) (o + length i) c)) h in
      rw (shift_kept o _ _ (judge-kept i) f.0, rows-kept (suc k) (o + length i) c f.1)

  report-kept : (xs : List ℕ) → NoEleven (refusals_to l d xs) → report_to m d xs ≡ report_to l d xs
  unfolding report_to rows refusals remainder
  report-kept xs h = rw (rows-kept 0 0 (cut (frame_in d) xs) h)

pub deeper-claims : (d : Domain) → DeeperClaims d
unfolding report report_to judge_in judge_to
deeper-claims d = record {
  sixty-four-deep = λ xs. refl;
  from-sixteen = λ xs h. report-kept d 16 64 (omega arith) xs h;
  kept = λ l m le xs h. report-kept d l m (omega arith) xs h;
}
