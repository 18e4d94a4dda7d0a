-- 13 on the way: a fit state stays fit, and an empty piece changes nothing. Assumes nothing.
use Prim.Native.Nat.{ℕ, zero, suc, ◌+◌, ◌-◌, ◌*◌, ◌/◌, ◌%◌, ◌≤◌, ◌<◌}
use Rattle.std.specs.Prelude.{◌≡◌, refl, List, [], ◌∷◌, ◌++◌, Bool, true, ltb, leb, eqb, get_or, take, drop, replicate}
use Rattle.std.proofs.Common.{sym, ap, ◌∙◌, append-nil, ⊎_elim, le-div_iff_mul-le, length-append, length-drop, ext_get_or, get_or-take, get_or-append-add}
use Rattle.std.proofs.Math.Bool.{false}
use native.Mathlib.Omega.{arith}
use Rattle.std.proofs.Math.Nat.{add-mul, div-eq_of_lt, div-add-mod', mod-lt}
use Rattle.std.proofs.Math.ListN.{length, get_or-append}
use Rattle.std.proofs.lemmas.List.{length-replicate}
use Rattle.std.proofs.Math.Seq.{length-take-le}
use borrow.Author.Tests.{ltb-true, ltb-false, leb-true, eqb-true, lt-ltb, le-ltb, le-leb, eq-eqb}
use Rattle.base.specs.Pick.{pick, pick-by}
use Rattle.base.specs.Cases.{lt-or-ge}
use Rattle.format.specs.declared.Framed.{Framed}
use Rattle.format.specs.declared.Framed.TheVariants.{Item, Unframed}
use Rattle.format.specs.declared.Verdict.{Verdict}
use Rattle.format.specs.declared.Verdict.TheVariants.{Accepted, Refused}
use Rattle.format.specs.Units.{Domain}
use Rattle.format.specs.Judging.{max_depth, scan}
use Rattle.laws.specs.Domains.{Reader}
use Rattle.walk_state.specs.declared.Walk.{Walk}
use Rattle.walk_state.specs.Walking.{all_below, next_of}
use Rattle.walk_state.specs.Walking as W
use Rattle.walk_claims.proofs.Fitting.{fit-facts, fit-made, plain, by-depth}
use Rattle.pieces.specs.declared.Phase.{Phase}
use Rattle.pieces.specs.declared.Phase.TheVariants as P
use Rattle.pieces.specs.declared.Progress.{Progress}
use Rattle.pieces.specs.declared.Pieces.{Pieces}
use Rattle.pieces.specs.Headers.{is_long, endless, room_of, framed_by, group_number, head_number, lead_of, opens_text, value_number}
use Rattle.pieces.specs.Steps.{settled, headed, at_first, at_second, valued, step_by, unit_step, is_whole, told}
use Rattle.pieces.specs.Feeding.{after, rows_after, held_and, fed, items_out, taken}
use Rattle.pieces.specs.Calls.{is_open, place_fits, progress_fits, most_units, is_fit}
use Rattle.pieces_whole.specs.Run.{after_read}
use Rattle.pieces_fit.specs.Sound.{Sound, after-sound}

-- ---- the phase

module _ (p : Progress) (o : is_open p.phase ≡ true) where
  abbrev Stays : Progress → Type 0
  Stays r = is_open r.phase ≡ true

  settled-open : (w : Walk) (lead : ℕ) (text : Bool) (n i : ℕ) → Stays (settled p w lead text n i)
  unfolding settled
  settled-open w lead text n i =
      pick-by Stays (ltb (p.read + 1) w.at) _ _ (λ _. o) (λ _. pick-by Stays (eqb n 0) _ _ (λ _. o) (λ _. o))

  headed-open : (cs : List ℕ) (r : Framed) → Stays (headed p cs r)
  unfolding headed is_open
  headed-open cs (Unframed n i) = pick-by Stays (eqb p.walk.depth 0) _ _ (λ _. refl) (λ _. o)
  headed-open cs (Item k h m) =
      pick-by Stays (eqb (group_number k p.walk.depth h m) 0) _ _
      (λ _. settled-open (next_of p.walk k h m) (lead_of k) (opens_text k) (head_number k h cs) (4 * p.walk.at)) (λ _. o)

  valued-open : (q : List ℕ) (v : Verdict) → Stays (valued p q v)
  unfolding valued
  valued-open q Accepted = settled-open p.walk 0 false (value_number p.number p.lead p.text q) p.place
  valued-open q (Refused n i) = o

  by-open : (q : List ℕ) (f : Phase) → Stays (step_by f p q)
  unfolding step_by at_first at_second
  by-open q P.Framing =
      pick-by Stays (ltb p.read p.walk.at) _ _ (λ _. pick-by Stays p.scans _ _ (λ _. valued-open q (scan q)) (λ _. o))
      (λ _. pick-by Stays (ltb p.walk.at p.read) _ _ (λ _. headed-open (p.header ++ q) (framed_by p.walk (p.header ++ q)))
      (λ _. pick-by Stays (is_long p.walk.indexed q (room_of p.walk)) _ _ (λ _. o) (λ _. headed-open q (framed_by p.walk q))))
  by-open q P.Unframed = o
  by-open q P.Ended = o

  step-open : (q : List ℕ) → Stays (unit_step p q)
  unfolding unit_step
  step-open q = by-open q p.phase

told-open : (p : Progress) → is_open p.phase ≡ true → is_open (told p).phase ≡ true
unfolding told
told-open p o = pick-by (λ (r : Progress). is_open r.phase ≡ true) (is_whole p) _ _ (λ _. o) (λ _. o)

after_open : (p : Progress) → is_open p.phase ≡ true → (s : List ℕ) (k : ℕ) → is_open (after p s k).phase ≡ true
unfolding after
after_open p o s zero = o
after_open p o s (suc k) = told-open _ (step-open (after p s k) (after_open p o s k) (take 4 (drop (4 * k) s)))

-- ---- the test, as facts

both : (b x : Bool) → pick b x false ≡ true → (b ≡ true) × (x ≡ true)
both true x e = (refl, e)
both false x e = let z : ◌≡◌ {A = ℕ} 0 1 = cc in absurd (omega arith)

pub record Facts (d : Domain) (st : Pieces) : Type 0 where
  pub form : st.unit ≡ d.unit
  pub phase : is_open st.progress.phase ≡ true
  pub sound : Sound (most_units d) st.progress
  pub part : st.count < d.unit
  pub places : all_below (place_fits st.held st.count) 4 ≡ true
  pub size : taken d st ≤ d.limit

module _ (d : Domain) (R : Reader d) (st : Pieces) where
  few-units : taken d st ≤ d.limit → st.progress.read ≤ most_units d
  unfolding most_units
  few-units l = (le-div_iff_mul-le R.pos).1 (omega arith)

  pub facts : length st.progress.walk.ends ≡ max_depth → is_fit d st ≡ true → Facts d st
  unfolding is_fit progress_fits
  facts full e =
      let p : Progress = st.progress in
      let m : ℕ = most_units d in
      let u = both (eqb st.unit d.unit) _ e in
      let w = both (progress_fits p m) _ u.1 in
      let c = both (ltb st.count d.unit) _ w.1 in
      let f = both (all_below (place_fits st.held st.count) 4) _ c.1 in
      let a = both (is_open p.phase) _ w.0 in
      let b = both (W.is_fit p.walk (m + endless)) _ a.1 in
      let h = both (leb p.start p.read) _ b.1 in
      let i = both (leb p.items p.start) _ h.1 in
      let j = both (leb p.place (4 * p.read + 3)) _ i.1 in
      let size : taken d st ≤ d.limit = leb-true (taken d st) d.limit f.1 in
      record {
        form = eqb-true st.unit d.unit u.0;
        phase = a.0;
        sound = record {
          fits = by-depth p.walk (m + endless) full (fit-facts p.walk (m + endless) b.0);
          few = few-units size;
          begun = leb-true p.start p.read h.0;
          items = leb-true p.items p.start i.0;
          place = leb-true p.place (4 * p.read + 3) j.0;
          lead = leb-true p.lead 2 j.1;
        };
        part = ltb-true st.count d.unit c.0;
        places = f.0;
        size = size;
      }

  progress-fits : Facts d st → progress_fits st.progress (most_units d) ≡ true
  unfolding progress_fits
  progress-fits f =
      let p : Progress = st.progress in
      rw (
        f.phase,
        fit-made p.walk (most_units d + endless) (plain p.walk (most_units d + endless) f.sound.fits),
        le-leb p.start p.read f.sound.begun,
        le-leb p.items p.start f.sound.items,
        le-leb p.place (4 * p.read + 3) f.sound.place,
      )
      (le-leb p.lead 2 f.sound.lead)

  pub fits : Facts d st → is_fit d st ≡ true
  unfolding is_fit
  fits f =
      rw (eq-eqb st.unit d.unit f.form, progress-fits f, lt-ltb st.count d.unit f.part, f.places)
      (le-leb (taken d st) d.limit f.size)

-- ---- what is held

zeros : (k i : ℕ) → ◌≡◌ {A = ℕ} (get_or (replicate k 0) i 0) 0
zeros zero i = refl
zeros (suc k) zero = refl
zeros (suc k) (suc i) = zeros k i

all_made : (p : ℕ → Bool) (n : ℕ) → ((k : ℕ) → k < n → p k ≡ true) → all_below p n ≡ true
unfolding all_below
all_made p zero f = refl
all_made p (suc n) f = rw (f n (omega arith)) (all_made p n (λ k h. f k (omega arith)))

all-at : (p : ℕ → Bool) (n : ℕ) → all_below p n ≡ true → (k : ℕ) → k < n → p k ≡ true
unfolding all_below
all-at p zero e k h = absurd (omega arith)
all-at p (suc n) e k h =
    let b = both (p n) (all_below p n) e in
    ⊎_elim (λ lt. all-at p n b.1 k lt) (λ ge. let q : n ≡ k = omega arith in rw q at b.0) (lt-or-ge k n)

held-places : (rest : List ℕ) → all_below (place_fits (rest ++ replicate (4 - length rest) 0) (length rest)) 4 ≡ true
unfolding place_fits
held-places rest = all_made _ 4 (λ k _. pick-by (λ (b : Bool). b ≡ true) (ltb k (length rest)) true _ (λ _. refl) (λ e. eq-eqb _ 0 (past k (ltb-false k (length rest) e))))
  where
    past : (k : ℕ) → length rest ≤ k → get_or (rest ++ replicate (4 - length rest) 0) k 0 ≡ 0
    past k l =
        let z : length rest + (k - length rest) ≡ k = omega arith in
        ap (λ (i : ℕ). get_or (rest ++ replicate (4 - length rest) 0) i 0) (sym z)
        ∙ get_or-append-add rest (replicate (4 - length rest) 0) (k - length rest) 0 ∙ zeros (4 - length rest) (k - length rest)

-- unused places that are 0 are as they are made
held_same : (held : List ℕ) (count : ℕ) → length held ≡ 4 → count ≤ 4 → all_below (place_fits held count) 4 ≡ true
    → take count held ++ replicate (4 - count) 0 ≡ held
unfolding place_fits
held_same held count four l e =
    let tl : length (take count held) ≡ count = length-take-le count held (omega arith) in
    let len : length (take count held ++ replicate (4 - count) 0) ≡ 4 =
    omega (arith, length-append (take count held) (replicate (4 - count) 0), length-replicate {A = ℕ} (4 - count) 0) in
    ext_get_or 0 (take count held ++ replicate (4 - count) 0) held (len ∙ sym four)
    (λ i h. ⊎_elim
    (λ (lt : i < count). get_or-append (take count held) (replicate (4 - count) 0) 0 i (omega arith) ∙ get_or-take count held i 0 lt)
    (λ (ge : count ≤ i).
    let z : length (take count held) + (i - count) ≡ i = omega arith in
    ap (λ (k : ℕ). get_or (take count held ++ replicate (4 - count) 0) k 0) (sym z)
    ∙ get_or-append-add (take count held) (replicate (4 - count) 0) (i - count) 0 ∙ zeros (4 - count) (i - count)
    ∙ sym (eqb-true (get_or held i 0) 0 (rw (le-ltb i count ge) at (all-at (λ k. pick (ltb k count) true (eqb (get_or held k 0) 0)) 4 e i (omega arith)))))
    (lt-or-ge i count))

module _ (d : Domain) (R : Reader d) (st : Pieces) (f : Facts d st) where
  abbrev p : Progress
  p = st.progress

  module _ (piece : List ℕ) (four : length st.held ≡ 4) (small : d.unit ≤ 4) (room : taken d st + length piece ≤ d.limit) where
    abbrev xs : List ℕ
    xs = held_and st piece

    long : length xs ≡ st.count + length piece
    long = length-append (take st.count st.held) piece ∙ omega (arith, length-take-le st.count st.held (omega (arith, f.part)))

    abbrev k : ℕ
    k = length xs / d.unit

    abbrev rest : List ℕ
    rest = drop (k * d.unit) xs

    whole : k * d.unit ≤ length xs
    whole = (le-div_iff_mul-le R.pos).0 (omega arith)

    rest-long : length rest ≡ length xs - k * d.unit
    rest-long = length-drop (k * d.unit) xs

    read_is : (after p (d.sextets xs) k).read * d.unit ≡ p.read * d.unit + k * d.unit
    read_is = ap (λ (n : ℕ). n * d.unit) (after_read p (d.sextets xs) k) ∙ add-mul p.read k d.unit

    in-most : p.read + k ≤ most_units d
    unfolding most_units
    in-most = (le-div_iff_mul-le R.pos).1 (omega (arith, add-mul p.read k d.unit, whole, long))

    pub fed-facts : Facts d (fed d st piece)
    unfolding fed
    fed-facts = record {
      form = f.form;
      phase = after_open p f.phase (d.sextets xs) k;
      sound = after-sound (most_units d) p f.sound (d.sextets xs) k in-most;
      part = rw rest-long (omega (arith, div-add-mod' (length xs) d.unit, mod-lt (length xs) R.pos));
      places = held-places rest;
      size = omega (arith, read_is, rest-long, whole, long);
    }

  -- "Empty pieces change nothing"
  module _ (four : length st.held ≡ 4) (small : d.unit ≤ 4) where
    held-part : held_and st [] ≡ take st.count st.held
    held-part = append-nil (take st.count st.held)

    no-units : length (held_and st []) / d.unit ≡ 0
    no-units =
        div-eq_of_lt (omega (arith, ap length held-part, length-take-le st.count st.held (omega (arith, f.part)), f.part))

    pub empty-state : fed d st [] ≡ st
    unfolding fed after
    empty-state =
        let z : 0 * d.unit ≡ 0 = omega arith in
        let l : length (take st.count st.held) ≡ st.count = length-take-le st.count st.held (omega (arith, f.part)) in
        rw (no-units, z, held-part, l, held_same st.held st.count four (omega (arith, f.part)) f.places)

    pub empty-items : items_out d st [] ≡ []
    unfolding items_out rows_after
    empty-items = rw no-units
