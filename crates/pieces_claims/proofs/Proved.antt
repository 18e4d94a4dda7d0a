-- The claims on pieces, proved. Assumes nothing.
use Rattle.std.specs.Prelude.{ℕ, ◌+◌, ◌*◌, ◌≤◌, ◌<◌, List, [], ◌∷◌, ◌++◌, Bool, true, ◌⊎◌, ltb, eqb}
use Rattle.std.proofs.Math.Path.{◌≡◌, refl, ap}
use Rattle.std.proofs.Common.{sym, ◌∙◌, ⊎_elim}
use Rattle.std.proofs.Math.Bool.{false}
use native.Mathlib.Omega.{arith}
use Rattle.std.proofs.Math.ListN.{length}
use borrow.Author.Tests.{lt-ltb, le-ltb, ne_eqb, eqb-true}
use Rattle.base.specs.Pick.{pick, pick-by}
use Rattle.format.specs.Units.{Domain, text, binary}
use Rattle.format.specs.Report.{rows_in}
use Rattle.laws.specs.Domains.{Reader, text-reader, binary-reader}
use Rattle.walk_state.specs.Walking.{all_below}
use Rattle.pieces.specs.declared.Pieces.{Pieces}
use Rattle.pieces.specs.declared.Fed.{Fed}
use Rattle.pieces.specs.Feeding.{begin, start, fed, items_out, refusals_out, taken, remainder_out}
use Rattle.pieces.specs.Calls.{is_open, most_units, progress_fits, place_fits, is_fit, feed_answer, feed_state, feed, ended, end_answer, end_state, finish}
use Rattle.pieces_fit.specs.Sound.{begin-sound}
use Rattle.pieces_fit.specs.Fit.{Facts, facts, fits, fed-facts, empty-state, empty-items}
use Rattle.pieces_claims.specs.Words.{joined, fed_all, ended_in, Sized}
use Rattle.pieces_claims.specs.Claims.{StreamClaims, StateClaims, FormClaims, PieceClaims}
use Rattle.pieces_claims.proofs.Joining.{up_to, all-state, items-joint, refusals-joint, remainder-joint, refusals-given, taken-all}
use Rattle.pieces_claims.proofs.Timing.{in-time}
use Rattle.std.specs.Prelude.{Ok, Result}
use Rattle.format.specs.declared.Refusal.{Refusal}
use Rattle.format.specs.Refusals.{refused_by}
use Rattle.pieces.specs.declared.Rows.{Rows}

-- ---- from the start

module _ (d : Domain) (R : Reader d) (small : d.unit ≤ 4) where
  start-held : length (start d).held ≡ 4
  unfolding start
  start-held = refl

  start-taken : taken d (start d) ≡ 0
  unfolding start begin
  start-taken = omega arith

  start-facts : Facts d (start d)
  unfolding start is_open begin all_below place_fits
  start-facts = record { form = refl; phase = refl; sound = begin-sound (most_units d); part = R.pos; places = refl; size = omega arith }

  up_to_fits : (xs : List ℕ) → length xs ≤ d.limit → is_fit d (up_to d xs) ≡ true
  up_to_fits xs l = fits d R (up_to d xs) (fed-facts d R (start d) start-facts xs start-held small (omega (arith, start-taken)))

  of-stream : StreamClaims d
  of-stream = record {
    items = items-joint d R;
    refusals = refusals-joint d R;
    remainder = remainder-joint d R;
    state = λ ps qs e. all-state d R ps ∙ ap (up_to d) e ∙ sym (all-state d R qs);
    given = λ ps piece more. ap (λ (st : Pieces). items_out d st piece) (all-state d R ps) ∙ in-time d R (joined ps) piece more;
    given-refusals = refusals-given d R;
    size = λ ps. ap (taken d) (all-state d R ps) ∙ taken-all d R (joined ps);
    fit = λ ps l. ap (is_fit d) (all-state d R ps) ∙ up_to_fits (joined ps) l;
  }

-- ---- of any state

module _ (d : Domain) (R : Reader d) (small : d.unit ≤ 4) (st : Pieces) where
  fit-facts : Sized st → is_fit d st ≡ true → Facts d st
  fit-facts z e = facts d R st z.ends e

  gives-thirteen : (piece : List ℕ) (r r' : ℕ) → is_fit d st ≡ false → feed d st piece r r' ≡ record { next = st; given = refused_by 13 0 }
  unfolding feed feed_answer feed_state
  gives-thirteen piece r r' e = rw e

  gives_one : (piece : List ℕ) (r r' : ℕ) → is_fit d st ≡ true → d.limit < taken d st + length piece
      → feed d st piece r r' ≡ record { next = st; given = refused_by 1 0 }
  unfolding feed feed_answer feed_state
  gives_one piece r r' e l = rw (e, lt-ltb d.limit (taken d st + length piece) l)

  gives-three : (piece : List ℕ) (r r' : ℕ) → is_fit d st ≡ true → taken d st + length piece ≤ d.limit
      → (r < 9 * length (items_out d st piece)) ⊎ (r' < 9 * length (refusals_out d st piece))
      → feed d st piece r r' ≡ record { next = st; given = refused_by 3 0 }
  unfolding feed feed_answer feed_state
  gives-three piece r r' e l h =
      rw (e, le-ltb d.limit (taken d st + length piece) l)
      (⊎_elim (λ a. rw (lt-ltb r (9 * length (items_out d st piece)) a))
      (λ b. rw (lt-ltb r' (9 * length (refusals_out d st piece)) b)
      (pick-by (λ (g : Result Rows (Refusal ℕ)). ◌≡◌ {A = Fed} (record { next = feed_state g d st piece; given = g }) (record { next = st; given = refused_by 3 0 }))
      (ltb r (9 * length (items_out d st piece))) (refused_by 3 0) (refused_by 3 0) (λ _. refl) (λ _. refl))) h)

  gives-rows : (piece : List ℕ) (r r' : ℕ) → is_fit d st ≡ true → taken d st + length piece ≤ d.limit
      → 9 * length (items_out d st piece) ≤ r → 9 * length (refusals_out d st piece) ≤ r'
      → feed d st piece r r'
      ≡ record { next = fed d st piece; given = Ok (record { items = 9 * length (items_out d st piece); refusals = 9 * length (refusals_out d st piece) }) }
  unfolding feed feed_answer feed_state
  gives-rows piece r r' e l a b =
      rw (
        e,
        le-ltb d.limit (taken d st + length piece) l,
        le-ltb r (9 * length (items_out d st piece)) a,
        le-ltb r' (9 * length (refusals_out d st piece)) b,
      )

  refused-stays : (piece : List ℕ) (r r' n p : ℕ) → (feed d st piece r r').given ≡ refused_by n p → (feed d st piece r r').next ≡ st
  unfolding feed feed_state
  refused-stays piece r r' n p e = ap (λ (g : Result Rows (Refusal ℕ)). feed_state g d st piece) e

  end_refused : (r : ℕ) → is_fit d st ≡ true → r < 5 * length (remainder_out d st) → finish d st r ≡ record { next = st; closing = refused_by 3 0 }
  unfolding finish end_answer end_state
  end_refused r e a = rw (e, lt-ltb r (5 * length (remainder_out d st)) a)

  end-told : (r : ℕ) → is_fit d st ≡ true → 5 * length (remainder_out d st) ≤ r
      → finish d st r ≡ record { next = ended st; closing = Ok (5 * length (remainder_out d st)) }
  unfolding finish end_answer end_state
  end-told r e a = rw (e, le-ltb r (5 * length (remainder_out d st)) a)

  end-unfit : (r : ℕ) → is_fit d st ≡ false → finish d st r ≡ record { next = st; closing = refused_by 13 0 }
  unfolding finish end_answer end_state
  end-unfit r e = rw e

  after-end : is_fit d (ended st) ≡ false
  unfolding is_fit ended progress_fits is_open
  after-end = pick-by (λ (b : Bool). b ≡ false) (eqb st.unit d.unit) false false (λ _. refl) (λ _. refl)

  of-state : StateClaims d st
  of-state = record {
    keeps-fit = λ piece z e l. fits d R (fed d st piece) (fed-facts d R st (fit-facts z e) piece z.held small l);
    empty-state = λ z e. empty-state d R st (fit-facts z e) z.held small;
    empty-items = λ z e. empty-items d R st (fit-facts z e) z.held small;
    thirteen = gives-thirteen;
    one = gives_one;
    three = gives-three;
    takes = gives-rows;
    again = λ piece r r' s s' n p e. ap (λ (x : Pieces). feed d x piece s s') (refused-stays piece r r' n p e);
    end-thirteen = end-unfit;
    end-three = end_refused;
    end-tells = end-told;
    after-the-end = after-end;
  }

-- ---- of both forms

fit-form : (d : Domain) (st : Pieces) → is_fit d st ≡ true → eqb st.unit d.unit ≡ true
unfolding is_fit
fit-form d st e = go (eqb st.unit d.unit) _ e
  where
    go : (b x : Bool) → pick b x false ≡ true → b ≡ true
    go true x e = refl
    go false x e = let z : ◌≡◌ {A = ℕ} 0 1 = cc in absurd (omega arith)

other-form : (d : Domain) (st : Pieces) → eqb st.unit d.unit ≡ false → is_fit d st ≡ false
unfolding is_fit
other-form d st e = rw e

pub proved : PieceClaims
proved = record {
  of-text = of-stream text text-reader (omega arith);
  of-binary = of-stream binary binary-reader (omega arith);
  of-states = λ st. (of-state text text-reader (omega arith) st, of-state binary binary-reader (omega arith) st);
  of-forms = record {
    text-only = λ st e. let z : st.unit ≡ 4 = eqb-true st.unit 4 (fit-form text st e) in other-form binary st (ne_eqb st.unit 3 (λ q. omega arith));
    binary-only = λ st e. let z : st.unit ≡ 3 = eqb-true st.unit 3 (fit-form binary st e) in other-form text st (ne_eqb st.unit 4 (λ q. omega arith));
  };
}
