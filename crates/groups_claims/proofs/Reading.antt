-- A group read back: its header is stepped over, and then the walk of the stream is the body's, counted on. Assumes nothing.
use Prim.Native.Nat.{ℕ, zero, suc, ◌+◌, ◌-◌, ◌*◌, ◌/◌, ◌≤◌, ◌<◌}
use Rattle.std.specs.Prelude.{◌≡◌, Bool, ltb, get_or, drop, set, replicate}
use Rattle.std.proofs.Math.Path.{refl, sym, ap}
use Rattle.std.proofs.Common.{◌∙◌, mul-div_cancel, add-mul, mul-le-mul_right, length-append, take_at, drop_at, length-take-le, take-take, take_all}
use mathlib.Core.List.{List, [], ◌∷◌, ◌++◌, map}
use Rattle.std.proofs.Math.Bool.{true, false}
use Rattle.std.proofs.Math.Logic.{⊎_elim}
use native.Mathlib.Omega.{arith}
use Rattle.std.proofs.Math.Nat.{mul-mod_left, zero-mul}
use Rattle.std.proofs.Math.Dec.{leb}
use Rattle.std.proofs.Math.ListN.{length, take, length-drop}
use borrow.Author.Tests.{le-ltb, lt-ltb, le-leb, lt-leb, eq-eqb, ne_eqb}
use Rattle.base.specs.Pick.{pick-by}
use Rattle.base.specs.Cases.{lt-or-ge}
use Rattle.base.specs.Digits.{Below, map_back}
use Rattle.format.specs.declared.Form.{Form}
use Rattle.format.specs.declared.Form.TheVariants.{Text, Binary}
use Rattle.format.specs.declared.Kind.TheVariants.{Group}
use Rattle.format.specs.declared.Framed.TheVariants.{Item}
use Rattle.format.specs.declared.Verdict.TheVariants.{Accepted}
use Rattle.format.specs.declared.Kind.{Kind}
use Rattle.format.specs.Alphabet.{sextet_of, char_of}
use Rattle.format.specs.Units.{Domain, domain, text_sextets}
use Rattle.format.specs.Registry.{is_group, is_indexed, is_overrideable}
use Rattle.format.specs.Framing.{frame_ruled, frame_next, scale}
use Rattle.format.specs.Judging.{judge_kind, is_shortest, own_check, unless, max_depth}
use Rattle.format.specs.Report.{frame_in}
use Rattle.laws.specs.Alphabet.{sextet-char}
use Rattle.laws.specs.Domains.{reader}
use Rattle.laws.specs.Levels.{part}
use Rattle.roundtrip_laws.specs.Bytes.{sextets-back}
use Rattle.walk_state.specs.declared.Walk.{Walk}
use Rattle.walk_state.specs.declared.Found.{Found}
use Rattle.walk_state.specs.declared.Found.TheVariants as F
use Rattle.walk_state.specs.declared.Stepped.{Stepped}
use Rattle.walk_state.specs.Walking.{start, is_fit, closed, opened, past, next_of, stop_of, judged, framed_by, frame_at, step_fit, step_in, found_in}
use Rattle.walk_claims.specs.Words.{units_in, tail_of}
use Rattle.walk_claims.specs.Claims.{StreamClaims}
use Rattle.walk_claims.proofs.Proved as W
use Rattle.walk_claims.proofs.Fitting.{stop_at, Fits, plain, fit-made}
use Rattle.walk_claims.proofs.Steps.{opens-next, fit-step}
use Rattle.walk_claims.proofs.Keeps.{start_fits}
use Rattle.groups.specs.Grouping.{head_units, head_sextets, spelled, within}
use Rattle.groups_claims.specs.Words.{ahead, yielded, found_on, Inner}
use Rattle.groups_claims.proofs.Shift.{state, ends_on, moved_on, into-on}
use Rattle.groups_claims.proofs.Inside.{Inside, moved-fits, body_in, steps_on, stays-inside, ends}
use Rattle.groups_claims.proofs.Heads.{head-frames, head-length, head-low}
use Rattle.groups_claims.proofs.Calls.{spelled-length}

-- ---- what is asked of a form

pub limit_is : (f : Form) → (domain f).limit ≡ 1048576 * (domain f).unit
limit_is Text = refl
limit_is Binary = refl

-- sextets that are spelled are read back
spelled_back : (f : Form) (s : List ℕ) (k : ℕ) → length s ≡ 4 * k → Below 64 s → (domain f).sextets (spelled f s) ≡ s
unfolding spelled text_sextets
spelled_back Text s k e low = map_back sextet_of char_of 64 sextet-char s low
spelled_back Binary s k e low = sextets-back s (omega arith) low

pub streams : (f : Form) (xs : List ℕ) → StreamClaims (domain f) xs
streams Text xs = (W.proved).of-text xs
streams Binary xs = (W.proved).of-binary xs

head-some : (m : ℕ) → 0 < head_units m
unfolding head_units
head-some m = pick-by (λ h. 0 < h) (leb m 4095) 1 2 (λ _. omega arith) (λ _. omega arith)

-- ---- the first state in the group

-- the group's one end, and zeros
abbrev one_end : ℕ → List ℕ
one_end m = set (replicate max_depth 0) 0 m

all-zero : (k i : ℕ) → ◌≡◌ {A = ℕ} (get_or (replicate k 0) i 0) 0
all-zero zero i = refl
all-zero (suc k) zero = refl
all-zero (suc k) (suc i) = all-zero k i

behind-first : (k m i : ℕ) → get_or (set (replicate k 0) 0 m) (suc i) 0 ≡ 0
behind-first zero m i = refl
behind-first (suc k) m i = all-zero k i

within-some : (l m : ℕ) → within l (suc m) ≡ state (one_end (suc m)) 1 0 (is_overrideable l) (is_indexed l)
unfolding within next_of past opened start closed
within-some l m =
    let z : 0 + suc m ≡ suc m = omega arith in
    rw (z, ne_eqb (suc m) 0 (λ e. omega arith), lt-ltb 0 (suc m) (omega arith))

within_none : (l : ℕ) → within l 0 ≡ state (set (one_end 0) 0 0) 0 0 false false
unfolding within next_of past opened start closed
within_none l = refl

some_fits : (m : ℕ) (first indexed : Bool) → Inside (state (one_end (suc m)) 1 0 first indexed) (suc m)
unfolding stop_at
some_fits m first indexed = record {
  fits = record {
    nest = record {
      full = refl;
      few = omega arith;
      unused = unused;
      within = inside;
      reached = omega arith;
      marked = λ e. (omega arith, omega arith);
      tabled = λ e. omega arith;
    };
    ahead = λ _. omega arith;
  };
  outermost = λ _. refl;
  over = λ z. absurd (omega arith);
}
  where
    unused : (i : ℕ) → 1 ≤ i → i < max_depth → get_or (one_end (suc m)) i 0 ≡ 0
    unused zero h g = absurd (omega arith)
    unused (suc i) h g = behind-first max_depth (suc m) i

    inside : (i : ℕ) → i < 1 → get_or (one_end (suc m)) i 0 ≤ stop_at (suc m) i (one_end (suc m))
    inside zero h = omega arith
    inside (suc i) h = absurd (omega arith)

none-fits : Inside (state (set (one_end 0) 0 0) 0 0 false false) 0
unfolding stop_at
none-fits = record {
  fits = record {
    nest = record {
      full = refl;
      few = omega arith;
      unused = λ i h g. all-zero max_depth i;
      within = λ i h. absurd (omega arith);
      reached = omega arith;
      marked = λ e. let z : ◌≡◌ {A = ℕ} 0 1 = cc in absurd (omega arith);
      tabled = λ e. let z : ◌≡◌ {A = ℕ} 0 1 = cc in absurd (omega arith);
    };
    ahead = λ h. absurd (omega arith);
  };
  outermost = λ h. absurd (omega arith);
  over = λ _. refl;
}

pub in_group : (l m : ℕ) → Inside (within l m) m
in_group l zero = rw (within_none l) none-fits
in_group l (suc m) = rw (within-some l m) (some_fits m (is_overrideable l) (is_indexed l))

pub own-depth : (l n : ℕ) → 0 < n → (within l n).depth ≡ 1
own-depth l zero h = absurd (omega arith)
own-depth l (suc n) h = rw (within-some l n)

-- a header of h units stepped over, and the group of m units behind it is open
opens_at : (l h m : ℕ) → next_of start (Group l) h (h + m) ≡ moved_on h (within l m)
unfolding within start ends_on
opens_at l h m =
    let a : 0 + (h + m) ≡ h + 0 + m = omega arith in
    let b : 0 + h ≡ h + 0 + 0 = omega arith in
    opens-next start h (h + m) l ∙ rw (a, b, same_test)
    (into-on h start (omega arith) 0 m (is_overrideable l) (is_indexed l) (omega arith)) ∙ ap (moved_on h) (sym (opens-next start 0 m l))
  where
    same_test : ltb h (h + m) ≡ ltb 0 m
    same_test =
        ⊎_elim (λ l. rw (lt-ltb 0 m l, lt-ltb h (h + m) (omega arith))) (λ g. rw (le-ltb 0 m g, le-ltb h (h + m) (omega arith))) (lt-or-ge 0 m)

-- ---- a header of h units before a body of m, in a form

module _ (f : Form) (l : ℕ) (body : List ℕ) (g : is_group l ≡ true) (low : l < 64) (m : ℕ) (whole : length body ≡ m * (domain f).unit)
    (fits : head_units m + m ≤ 1048576) where
  abbrev d : Domain
  d = domain f

  abbrev h : ℕ
  h = head_units m

  abbrev pub xs : List ℕ
  xs = spelled f (head_sextets l m) ++ body

  front : length (spelled f (head_sextets l m)) ≡ h * d.unit
  front = spelled-length f (head_sextets l m) h (head-length l m)

  pub long : length xs ≡ (h + m) * d.unit
  long = length-append (spelled f (head_sextets l m)) body ∙ rw (front, whole, add-mul h m d.unit)

  pub units : units_in d xs ≡ h + m
  units = rw long (mul-div_cancel (h + m) (reader f).pos)

  no-tail : tail_of d xs ≡ false
  no-tail = rw (long, mul-mod_left (h + m) d.unit)

  pub short : length xs ≤ d.limit
  short = rw (long, limit_is f) (mul-le-mul_right d.unit fits)

  room : h + m ≤ units_in d xs
  room = omega (arith, units)

  body_is : body_in d (reader f) xs h m room ≡ body
  body_is =
      ap (take (m * d.unit)) (drop_at (spelled f (head_sextets l m)) body (h * d.unit) front)
      ∙ take_all (m * d.unit) body (omega (arith, whole))

  -- the header's sextets come first
  head-is : take (4 * h) (d.sextets xs) ≡ head_sextets l m
  head-is =
      let four : h * 4 ≡ 4 * h = omega arith in
      let inside : h * d.unit ≤ length xs = rw long (mul-le-mul_right d.unit (omega arith)) in
      rw four at
      (sym ((reader f).taken xs h inside) ∙ ap d.sextets (take_at (spelled f (head_sextets l m)) body (h * d.unit) front)
      ∙ spelled_back f (head_sextets l m) h (head-length l m) (head-low l m low))

  sextets-long : 4 * (h + m) ≤ length (d.sextets xs)
  sextets-long = omega (arith, (reader f).units xs, units)

  part-long : length (part (d.sextets xs) 0 (h + m)) ≡ 4 * (h + m)
  part-long = length-take-le (4 * (h + m)) (d.sextets xs) sextets-long

  framed : frame_at start (part (d.sextets xs) 0 (h + m)) ≡ Item (Group l) h (h + m)
  unfolding frame_at frame_next frame_ruled start
  framed =
      let s : List ℕ = take (4 * (h + m)) (d.sextets xs) in
      let e : length s ≡ 4 * (h + m) = part-long in
      head-frames s l m g (omega arith) (omega arith)
      (take-take (4 * h) (4 * (h + m)) (d.sextets xs) (omega arith) ∙ head-is)

  -- the whole stream is one item
  pub one-item : frame_in d xs ≡ Item (Group l) (h * d.unit) (length xs)
  unfolding frame_in scale
  one-item = rw (head-frames (d.sextets xs) l m g (omega arith) (omega (arith, (reader f).units xs, units)) head-is, long)

  -- its own check: none is open, and the code is the short one
  checked : (s : List ℕ) → length s ≡ 4 * (h + m) → judge_kind (Group l) h s (own_check (max_depth - 0)) ≡ Accepted
  unfolding judge_kind own_check is_shortest unless head_units
  checked s e =
      ⊎_elim (λ lt. rw (le-leb m 4095 (omega arith)))
      (λ ge.
      let t : leb m 4095 ≡ false = lt-leb m 4095 (omega arith) in
      let e' : length s ≡ 4 * (2 + m) = rw t at e in
      let n : length (drop 8 s) / 4 ≡ m = omega (arith, length-drop 8 s) in
      rw (t, n, le-leb 4096 m ge))
      (lt-or-ge m 4096)

  opens : step_fit (d.sextets xs) (h + m) false start ≡ record { next = moved_on h (within l m); found = F.Item 0 (h + m) 0 (Group l) h }
  unfolding step_fit stop_of framed_by judged start
  opens =
      let some : 0 < h + m = omega (arith, head-some m) in
      let z : 0 + (h + m) ≡ h + m = omega arith in
      rw (ne_eqb 0 (h + m) (λ e. omega arith), framed, z, checked (part (d.sextets xs) 0 (h + m)) part-long, opens_at l h m)

  pub first : step_in d xs start ≡ record { next = moved_on h (within l m); found = F.Item 0 ((h + m) * d.unit) 0 (Group l) h }
  unfolding found_in
  first =
      let fit : is_fit start (units_in d xs) ≡ true = fit-made start (units_in d xs) (plain start (units_in d xs) (start_fits (units_in d xs))) in
      fit-step d xs start short fit ∙ rw (units, no-tail, opens, zero-mul d.unit)

  -- ---- behind the group

  module _ (w : Walk) (i : Inside w m) (z : w.depth ≡ 0) where
    behind-fits : Fits (moved_on h w) (h + m)
    unfolding ends_on stop_at
    behind-fits =
        let n = i.fits.nest in
        rw z (record {
          nest = record {
            full = n.full;
            few = omega arith;
            unused = λ j a b. n.unused j (omega arith) b;
            within = λ j a. absurd (omega arith);
            reached = omega (arith, i.over z);
            marked = λ e. absurd (omega (arith, (n.marked e).0));
            tabled = λ e. absurd (omega (arith, n.tabled e));
          };
          ahead = λ a. absurd (omega arith);
        })

    behind : (step_in d xs (moved_on h w)).found ≡ F.End
    unfolding step_fit found_in
    behind =
        let fit : is_fit (moved_on h w) (units_in d xs) ≡ true = rw units (fit-made (moved_on h w) (h + m) (plain (moved_on h w) (h + m) behind-fits)) in
        let e : h + w.at ≡ h + m = ap (λ (a : ℕ). h + a) (i.over z) in
        ap (λ (r : Stepped ℕ). r.found) (fit-step d xs (moved_on h w) short fit) ∙ rw (units, no-tail, eq-eqb (h + w.at) (h + m) e)

  -- ---- a step, of a state in the group

  -- with a group open it is the body's, counted on
  pub step-on : (w : Walk) → Inside w m → 0 < w.depth
      → step_in d xs (moved_on h w) ≡ record { next = moved_on h (step_in d body w).next; found = found_on (h * d.unit) (step_in d body w).found }
  step-on w i o = rw body_is at (steps_on d (reader f) xs h m room short w i o)

  pub stays : (w : Walk) → Inside w m → 0 < w.depth → Inside (step_in d body w).next m
  stays w i o = rw body_is at (stays-inside d (reader f) xs h m room short w i o)

  -- with none open both walks are at their end
  pub over : (w : Walk) → Inside w m → w.depth ≤ 0 → ((step_in d xs (moved_on h w)).found ≡ F.End) × ((step_in d body w).found ≡ F.End)
  over w i q =
      let z : w.depth ≡ 0 = omega arith in
      let e : step_in d body w ≡ record { next = w; found = F.End } = rw body_is at (ends d (reader f) xs h m room short w i z) in
      (behind w i z, ap (λ (r : Stepped ℕ). r.found) e)

  pub moved-fits-any : (w : Walk) → Inside w m → Fits (moved_on h w) (h + m)
  moved-fits-any w i =
      ⊎_elim (λ o. moved-fits h m (h + m) (omega arith) w i.fits o) (λ q. behind-fits w i (omega arith)) (lt-or-ge 0 w.depth)

  -- ---- all items

  ahead-on : (x : Found ℕ) (o : ℕ) (us vs : List (Found ℕ)) → us ≡ map (found_on o) vs → ahead (found_on o x) us ≡ map (found_on o) (ahead x vs)
  unfolding ahead found_on
  ahead-on (F.Item a n e k b) o us vs q = ap (λ (t : List (Found ℕ)). F.Item (o + a) n e k b ∷ t) q
  ahead-on (F.Refused a b) o us vs q = refl
  ahead-on F.End o us vs q = refl

  ahead-end : (x : Found ℕ) (fs : List (Found ℕ)) → x ≡ F.End → ahead x fs ≡ []
  unfolding ahead
  ahead-end x fs e = rw e

  contents-on : (j : ℕ) (w : Walk) → Inside w m → yielded d xs j (moved_on h w) ≡ map (found_on (h * d.unit)) (yielded d body j w)
  unfolding yielded
  contents-on zero w i = refl
  contents-on (suc j) w i =
      ⊎_elim
      (λ o. rw (step-on w i o)
      (ahead-on (step_in d body w).found (h * d.unit) _ _ (contents-on j (step_in d body w).next (stays w i o))))
      (λ q. let e = over w i q in
      ahead-end (step_in d xs (moved_on h w)).found _ e.0 ∙ sym (ap (map (found_on (h * d.unit))) (ahead-end (step_in d body w).found _ e.1)))
      (lt-or-ge 0 w.depth)

  pub read_back : (j : ℕ) → yielded d xs (suc j) start
      ≡ F.Item 0 ((h + m) * d.unit) 0 (Group l) h ∷ map (found_on (h * d.unit)) (yielded d body j (within l m))
  unfolding yielded ahead
  read_back j = rw (first, contents-on j (within l m) (in_group l m))

  -- ---- every item of the body's walk stands within the group

  inner-item : (x : Found ℕ) (e : ℕ) (fs : List (Found ℕ)) → 0 < e → ((a n e' b : ℕ) (k : Kind) → x ≡ F.Item a n e' k b → e' ≡ e) → Inner fs → Inner (ahead x fs)
  unfolding ahead
  inner-item (F.Item a n e' k b) e fs some depth i = (omega (arith, depth a n e' b k refl), i)
  inner-item (F.Refused a b) e fs some depth i = tt
  inner-item F.End e fs some depth i = tt

  none_ahead : (x : Found ℕ) (fs : List (Found ℕ)) → x ≡ F.End → Inner (ahead x fs)
  unfolding ahead
  none_ahead x fs e = rw e tt

  pub inner : (j : ℕ) (w : Walk) → Inside w m → Inner (yielded d body j w)
  unfolding yielded
  inner zero w i = tt
  inner (suc j) w i =
      ⊎_elim
      (λ o. inner-item (step_in d body w).found w.depth (yielded d body j (step_in d body w).next) o
      (λ a n e b k q. ((streams f body).yields w a n e b k q).depth) (inner j (step_in d body w).next (stays w i o)))
      (λ q. none_ahead (step_in d body w).found _ (over w i q).1)
      (lt-or-ge 0 w.depth)
