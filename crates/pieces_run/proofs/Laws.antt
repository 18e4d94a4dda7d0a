-- All units one behind the other. Assumes nothing.
use Prim.Native.Nat.{ℕ, zero, suc, ◌+◌, ◌*◌, ◌/◌, ◌≤◌, ◌<◌}
use mathlib.Core.Path.{◌≡◌, refl, sym, ap, ◌∙◌, subst}
use mathlib.Core.Bool.{Bool, true, false}
use mathlib.Core.List.{List, [], ◌∷◌, ◌++◌, append-nil, append_assoc}
use mathlib.Core.Logic.{⊎_elim}
use native.Mathlib.Omega.{arith}
use native.Mathlib.Nat.{le-div_iff_mul-le}
use lib.ListN.{length, get_or, take, drop, length-append}
use lib.Seq.{sets}
use Rattle.base.specs.Cases.{whether}
use Rattle.format.specs.declared.Form.{Form}
use Rattle.format.specs.declared.Form.TheVariants.{Text, Binary}
use Rattle.format.specs.declared.Verdict.{Verdict}
use Rattle.format.specs.declared.Verdict.TheVariants.{Accepted, Refused}
use Rattle.format.specs.Units.{domain}
use Rattle.format.specs.Judging.{max_depth}
use Rattle.format.specs.Report.{ItemRow, RefusalRow, row_bytes, refusal_bytes, concat, refusals_of, refusal}
use Rattle.laws.specs.Domains.{reader}
use Rattle.filling.specs.Stores.{sets-append, concat-append, concat-snoc, concat-long, row-long, refusal-long}
use Rattle.report_rows.specs.Stores.{put, put-fits}
use Rattle.walk_state.proofs.Lent.{slot_at}
use Rattle.walk_claims.proofs.Fitting.{stop_at, stop-in}
use Rattle.pieces.specs.declared.Progress.{Progress}
use Rattle.pieces.specs.Steps.{unit_step, is_whole, row_of, rows_from, told}
use Rattle.pieces.specs.Feeding.{after, rows_after}
use Rattle.pieces.specs.Calls.{most_units}
use Rattle.pieces_whole.specs.Run.{step_kept, after_read}
use Rattle.pieces_fit.specs.Sound.{Sound, after-sound}
use Rattle.pieces_stage.specs.declared.Stage.{Stage}
use Rattle.pieces_stage.specs.Stages.{progress_at, Becomes, far}
use Rattle.pieces_step.specs.Ready.{Ready, Bounded}
use Rattle.pieces_turn.specs.declared.Ran.{Ran}
use Rattle.pieces_turn.specs.Turns.{Able, Turned}
use Rattle.pieces_run.specs.Runs.{held_with, Starts, Running}

one-refused : (k : ℕ) (v : Verdict) → length (refusal k v) ≤ 1
unfolding refusal
one-refused k Accepted = omega arith
one-refused k (Refused n p) = omega arith

refusals-snoc : (k : ℕ) (rs : List ItemRow) (r : ItemRow) → refusals_of k (rs ++ (r ∷ [])) ≡ refusals_of k rs ++ refusal (k + length rs) r.verdict
unfolding refusals_of
refusals-snoc k [] r = let z : k + 0 ≡ k = omega arith in rw (z, append-nil)
refusals-snoc k (q ∷ rs) r =
    let z : k + suc (length rs) ≡ suc k + length rs = omega arith in
    rw (z, refusals-snoc (suc k) rs r) (sym (append_assoc (refusal k q.verdict) (refusals_of (suc k) rs) (refusal (suc k + length rs) r.verdict)))

few-refused : (k : ℕ) (rs : List ItemRow) → length (refusals_of k rs) ≤ length rs
unfolding refusals_of
few-refused k [] = omega arith
few-refused k (r ∷ rs) =
    omega (arith, length-append (refusal k r.verdict) (refusals_of (suc k) rs), one-refused k r.verdict, few-refused (suc k) rs)

told-count : (u : ℕ) (m : Progress) (b : Bool) → is_whole m ≡ b → (told m).items ≡ m.items + length (rows_from u m)
unfolding told rows_from
told-count u m true e = rw e
told-count u m false e = rw e (omega arith)

after_items : (u : ℕ) (p : Progress) (s : List ℕ) (k : ℕ) → (after p s k).items ≡ p.items + length (rows_after u p s k)
unfolding after rows_after
after_items u p s zero = omega arith
after_items u p s (suc k) =
    let q : List ℕ = take 4 (drop (4 * k) s) in
    let n : Progress = unit_step (after p s k) q in
    told-count u n (is_whole n) refl
    ∙ omega (arith, (step_kept (after p s k) q).items, after_items u p s k, length-append (rows_after u p s k) (rows_from u n))

-- behind what is stored
stored-behind : (o out A x : List ℕ) (i : ℕ) (after : List ℕ) → (9 * i ≤ length o → out ≡ sets o 0 A) → length A ≡ 9 * i → length out ≡ length o
    → after ≡ put out (9 * i) x → 9 * i + length x ≤ length o → after ≡ sets o 0 (A ++ x)
stored-behind o out A x i after h la lo e room =
    let z : 9 * i ≡ 0 + length A = omega arith in
    e ∙ put-fits out (9 * i) x (omega arith) ∙ ap (λ (l : List ℕ). sets l (9 * i) x) (h (omega arith)) ∙ ap (λ (n : ℕ). sets (sets o 0 A) n x) z
    ∙ sets-append o 0 A x

module _ (u : ℕ) (slots₀ : List ℕ) (g₀ : Stage) (s items₀ refusals₀ : List ℕ) where
  abbrev p₀ : Progress
  p₀ = progress_at slots₀ g₀

  pub running-start : Running u slots₀ g₀ s items₀ refusals₀ 0 slots₀ g₀ items₀ refusals₀ 0 0
  unfolding after rows_after refusals_of concat
  running-start = record {
    state = record { state = refl; behind = refl };
    many = refl;
    bad = refl;
    rows = λ _. refl;
    refused = λ _. refl;
  }

  module _ (k : ℕ) (slots slots' : List ℕ) (g : Stage) (items items' refusals refusals' : List ℕ) (i j : ℕ) (r : Ran)
      (run : Running u slots₀ g₀ s items₀ refusals₀ k slots g items refusals i j)
      (turn : Turned u slots slots' g (take 4 (drop (4 * k) s)) items items' refusals refusals' i j r)
      (li : length items ≡ length items₀) (lr : length refusals ≡ length refusals₀) where
    abbrev q : List ℕ
    q = take 4 (drop (4 * k) s)

    abbrev rs : List ItemRow
    rs = rows_after u p₀ s k

    -- the state so far, and with one unit more
    abbrev M : Progress
    M = unit_step (progress_at slots g) q

    next-is : M ≡ unit_step (after p₀ s k) q
    next-is = ap (λ (p : Progress). unit_step p q) run.state.state

    state-more : Becomes slots₀ slots' r.stage (after p₀ s (suc k))
    unfolding after
    state-more = record { state = turn.state.state ∙ ap told next-is; behind = turn.state.behind ∙ run.state.behind }

    rows-quiet : is_whole M ≡ false → rows_after u p₀ s (suc k) ≡ rs
    unfolding rows_after rows_from
    rows-quiet e = rw (← next-is, e) (append-nil rs)

    rows_whole : is_whole M ≡ true → rows_after u p₀ s (suc k) ≡ rs ++ (row_of u M ∷ [])
    unfolding rows_after rows_from
    rows_whole e = rw (← next-is, e)

    index : M.items ≡ g₀.items + length rs
    index = ap (λ (p : Progress). p.items) next-is ∙ (step_kept (after p₀ s k) q).items ∙ after_items u p₀ s k

    -- its refusal, or none
    abbrev bad : List RefusalRow
    bad = refusal M.items (row_of u M).verdict

    refusals-whole : is_whole M ≡ true → refusals_of g₀.items (rows_after u p₀ s (suc k)) ≡ refusals_of g₀.items rs ++ bad
    refusals-whole e =
        ap (refusals_of g₀.items) (rows_whole e) ∙ refusals-snoc g₀.items rs (row_of u M)
        ∙ ap (λ (n : ℕ). refusals_of g₀.items rs ++ refusal n (row_of u M).verdict) (sym index)

    more-quiet : is_whole M ≡ false → Running u slots₀ g₀ s items₀ refusals₀ (suc k) slots' r.stage items' refusals' r.items r.refusals
    more-quiet e =
        let t = turn.quiet e in
        let z = rows-quiet e in
        record {
          state = state-more;
          many = t.many ∙ run.many ∙ ap length (sym z);
          bad = t.bad ∙ run.bad ∙ ap (λ (l : List ItemRow). length (refusals_of g₀.items l)) (sym z);
          rows = λ h. rw z (t.rows ∙ run.rows (omega (arith, t.many)));
          refused = λ h. rw z (t.refused ∙ run.refused (omega (arith, t.bad)));
        }

    more-whole : is_whole M ≡ true → Running u slots₀ g₀ s items₀ refusals₀ (suc k) slots' r.stage items' refusals' r.items r.refusals
    more-whole e =
        let t = turn.whole e in
        let z = rows_whole e in
        let y = refusals-whole e in
        let A : List ℕ = concat row_bytes rs in
        let B : List ℕ = concat refusal_bytes (refusals_of g₀.items rs) in
        let la : length A ≡ 9 * i = concat-long row_bytes 9 row-long rs ∙ ap (λ (n : ℕ). 9 * n) (sym run.many) in
        let lb : length B ≡ 9 * j = concat-long refusal_bytes 9 refusal-long (refusals_of g₀.items rs) ∙ ap (λ (n : ℕ). 9 * n) (sym run.bad) in
        let lx : length (concat refusal_bytes bad) ≡ 9 * length bad = concat-long refusal_bytes 9 refusal-long bad in
        record {
          state = state-more;
          many = t.many ∙ omega (arith, run.many, ap length z, length-append rs (row_of u M ∷ []));
          bad = t.bad ∙ omega (arith, run.bad, ap length y, length-append (refusals_of g₀.items rs) bad);
          rows = λ h. rw z (stored-behind items₀ items A (row_bytes (row_of u M)) i items' run.rows la li t.rows (omega (arith, t.many, row-long (row_of u M)))
              ∙ ap (sets items₀ 0) (sym (concat-snoc row_bytes rs (row_of u M))));
          refused = λ h. rw y (stored-behind refusals₀ refusals B (concat refusal_bytes bad) j refusals' run.refused lb lr t.refused (omega (arith, t.bad))
              ∙ ap (sets refusals₀ 0) (sym (concat-append refusal_bytes (refusals_of g₀.items rs) bad)));
        }

    pub running_more : Running u slots₀ g₀ s items₀ refusals₀ (k + 1) slots' r.stage items' refusals' r.items r.refusals
    running_more =
        let z : suc k ≡ k + 1 = omega arith in
        subst (λ (n : ℕ). Running u slots₀ g₀ s items₀ refusals₀ n slots' r.stage items' refusals' r.items r.refusals) z
        (⊎_elim more-whole more-quiet (whether (is_whole M)))

-- ---- what is asked of each unit

most-few : (form : Form) → most_units (domain form) ≤ 1048576
unfolding most_units
most-few Text = omega arith
most-few Binary = omega arith

unit-few : (form : Form) → (domain form).unit ≤ 4
unit-few Text = omega arith
unit-few Binary = omega arith

stop-far : (n : ℕ) (ends : List ℕ) (depth : ℕ) → ((i : ℕ) → i < depth → get_or ends i 0 ≤ stop_at n i ends) → (i : ℕ) → i ≤ depth → stop_at n i ends ≤ n
unfolding stop_at
stop-far n ends depth h zero l = omega arith
stop-far n ends depth h (suc i) l = omega (arith, h i l, stop-far n ends depth h i (omega arith))

ready_of : (most : ℕ) (slots : List ℕ) (g : Stage) → most ≤ 1048576 → Sound most (progress_at slots g) → max_depth ≤ length slots
    → Ready slots g × Bounded slots g
ready_of most slots g m s room = (
  record {
    room = room;
    few = s.fits.nest.few;
    near = omega (arith, s.fits.nest.reached, stop-in (progress_at slots g).walk (most + 1073741826) s.fits.nest);
    read = omega (arith, s.few);
    led = s.lead;
  },
  λ i l. rw (← slot_at slots i (omega (arith, s.fits.nest.few))) (slot-far i l),
)
  where
    slot-far : (i : ℕ) → i < g.walk.depth → get_or (take max_depth slots) i 0 ≤ far
    slot-far i l =
        omega (arith, s.fits.nest.within i l, stop-far (most + 1073741826) (take max_depth slots) g.walk.depth s.fits.nest.within i (omega arith))

module _ (form : Form) (slots₀ : List ℕ) (g₀ : Stage) (count : ℕ) (piece s items₀ refusals₀ : List ℕ) (st : Starts form slots₀ g₀ count piece) where
  pub able : (u k : ℕ) (slots : List ℕ) (g : Stage) (items refusals : List ℕ) (i j : ℕ) → u ≡ (domain form).unit → k < (count + length piece) / (domain form).unit
      → length slots ≡ length slots₀ → Running (domain form).unit slots₀ g₀ s items₀ refusals₀ k slots g items refusals i j → Able u slots g i j
  able u k slots g items refusals i j eu l ls run =
      let most : ℕ = most_units (domain form) in
      let v : ℕ = (domain form).unit in
      let P : Progress = after (progress_at slots₀ g₀) s k in
      let sp : Sound most P = after-sound most (progress_at slots₀ g₀) st.sound s k (omega (arith, st.within)) in
      let sg : Sound most (progress_at slots g) = subst (Sound most) (sym run.state.state) sp in
      let rd : P.read ≡ g₀.read + k = after_read (progress_at slots₀ g₀) s k in
      let e : g.read ≡ P.read = ap (λ (p : Progress). p.read) run.state.state in
      let it : g.items ≡ g₀.items + length (rows_after v (progress_at slots₀ g₀) s k) =
      ap (λ (p : Progress). p.items) run.state.state ∙ after_items v (progress_at slots₀ g₀) s k in
      let ok = ready_of most slots g (most-few form) sg (omega (arith, st.room)) in
      record {
        ready = ok.0;
        bounded = ok.1;
        unit = omega (arith, unit-few form);
        read = omega (arith, most-few form, st.within);
        begun = sg.begun;
        told = omega (arith, sg.items, sg.begun, sg.few, most-few form);
        items = omega (arith, run.many, sg.items, sg.begun, sg.few, most-few form);
        refusals = omega (arith, run.bad, few-refused g₀.items (rows_after v (progress_at slots₀ g₀) s k), run.many, sg.items, sg.begun, sg.few, most-few form);
      }

-- ---- a turn of the loop

unit-within : (form : Form) (k size : ℕ) → k < size / (domain form).unit → (k + 1) * (domain form).unit ≤ size
unit-within form k size l = (le-div_iff_mul-le (reader form).pos).0 (omega arith)

module _ (form : Form) (slots₀ : List ℕ) (g₀ : Stage) (held : List ℕ) (count : ℕ) (piece items₀ refusals₀ : List ℕ) where
  abbrev S : List ℕ
  S = (domain form).sextets (held_with held count piece)

  abbrev pub Runs : ℕ → List ℕ → Stage → List ℕ → List ℕ → ℕ → ℕ → Type 0
  Runs k slots g items refusals i j =
      Starts form slots₀ g₀ count piece → Running (domain form).unit slots₀ g₀ S items₀ refusals₀ k slots g items refusals i j

  pub runs-start : Runs 0 slots₀ g₀ items₀ refusals₀ 0 0
  runs-start _ = running-start (domain form).unit slots₀ g₀ S items₀ refusals₀

  pub runs-more : (u n k : ℕ) (q slots slots' : List ℕ) (g : Stage) (items items' refusals refusals' : List ℕ) (i j : ℕ) (r : Ran)
      → u ≡ (domain form).unit → (count ≤ 4 → n ≡ (count + length piece) / (domain form).unit) → k < n
      → length slots ≡ length slots₀ → length items ≡ length items₀ → length refusals ≡ length refusals₀
      → (count ≤ 4 → (k + 1) * (domain form).unit ≤ count + length piece → q ≡ take 4 (drop (4 * k) S))
      → (Able u slots g i j → Turned u slots slots' g q items items' refusals refusals' i j r)
      → Runs k slots g items refusals i j → Runs (k + 1) slots' r.stage items' refusals' r.items r.refusals
  runs-more u n k q slots slots' g items items' refusals refusals' i j r eu en l ls li lr eq turn run st =
      let m : k < (count + length piece) / (domain form).unit = omega (arith, en st.few) in
      let now = run st in
      let a = able form slots₀ g₀ count piece S items₀ refusals₀ st u k slots g items refusals i j eu m ls now in
      let t = turn a in
      let e : q ≡ take 4 (drop (4 * k) S) = eq st.few (unit-within form k (count + length piece) m) in
      let t2 : Turned (domain form).unit slots slots' g (take 4 (drop (4 * k) S)) items items' refusals refusals' i j r =
      subst (λ (x : ℕ). Turned x slots slots' g (take 4 (drop (4 * k) S)) items items' refusals refusals' i j r) eu
      (subst (λ (x : List ℕ). Turned u slots slots' g x items items' refusals refusals' i j r) e t) in
      running_more (domain form).unit slots₀ g₀ S items₀ refusals₀ k slots slots' g items items' refusals refusals' i j r now t2 li lr

  pub runs-all : (n k : ℕ) (slots : List ℕ) (g : Stage) (items refusals : List ℕ) (i j : ℕ)
      → (count ≤ 4 → n ≡ (count + length piece) / (domain form).unit) → k ≤ n → n ≤ k → Runs k slots g items refusals i j
      → Runs ((count + length piece) / (domain form).unit) slots g items refusals i j
  runs-all n k slots g items refusals i j en a b run st =
      let z : k ≡ (count + length piece) / (domain form).unit = omega (arith, en st.few) in
      subst (λ (x : ℕ). Running (domain form).unit slots₀ g₀ S items₀ refusals₀ x slots g items refusals i j) z (run st)
