-- What 02 f asks of streams that arrive in pieces, over the definitions in pieces. Statements only, a field a sentence below 02's words.
-- Proved in Proved. Assumes nothing.
use Rattle.std.specs.Prelude.{ℕ, ◌+◌, ◌*◌, ◌≤◌, ◌<◌, ◌≡◌, List, [], ◌∷◌, ◌++◌, Bool, true, false, ◌⊎◌, length}
use Rattle.format.specs.Units.{Domain, text, binary}
use Rattle.format.specs.Report.{rows_in, refusals_in, remainder_in, refusals_of}
use Rattle.pieces.specs.declared.Pieces.{Pieces}
use Rattle.pieces.specs.Feeding.{start, fed, items_out, refusals_out, taken, remainder_out}
use Rattle.pieces.specs.Calls.{is_fit, feed, ended, finish}
use Rattle.pieces_claims.specs.Words.{joined, fed_all, all_items, all_refusals, ended_in, Sized}
use Rattle.std.specs.Prelude.{Ok}
use Rattle.format.specs.Refusals.{refused_by}

-- ---- of every list of pieces, in order, from the start

pub record StreamClaims (d : Domain) : Type 0 where
  -- "The item rows, refusals and remainder that come out, joined, are those of the whole stream's report (01's, text or binary), wherever
  -- it was cut."
  pub items : (ps : List (List ℕ)) → all_items d (start d) ps ≡ rows_in d (joined ps)
  pub refusals : (ps : List (List ℕ)) → all_refusals d (start d) ps ≡ refusals_in d (joined ps)
  pub remainder : (ps : List (List ℕ)) → remainder_out d (fed_all d (start d) ps) ≡ remainder_in d (joined ps)
  -- the state is decided by what was taken in, wherever that was cut
  pub state : (ps qs : List (List ℕ)) → joined ps ≡ joined qs → fed_all d (start d) ps ≡ fed_all d (start d) qs
  -- "an item's rows are given when its last byte has come": of the rows of the whole stream, whatever is still to come, a piece gives exactly
  -- those whose items end in it
  pub given : (ps : List (List ℕ)) (piece more : List ℕ)
      → items_out d (fed_all d (start d) ps) piece
      ≡ ended_in (length (joined ps)) (length (joined ps) + length piece) (rows_in d (joined ps ++ (piece ++ more)))
  -- and their refusals with them, counted on
  pub given-refusals : (ps : List (List ℕ)) (piece : List ℕ)
      → refusals_out d (fed_all d (start d) ps) piece
      ≡ refusals_of (length (all_items d (start d) ps)) (items_out d (fed_all d (start d) ps) piece)
  -- as much is taken in as came
  pub size : (ps : List (List ℕ)) → taken d (fed_all d (start d) ps) ≡ length (joined ps)
  -- "conditions the team lists in docs/, which every state that calls gave before the end was told meets"
  pub fit : (ps : List (List ℕ)) → length (joined ps) ≤ d.limit → is_fit d (fed_all d (start d) ps) ≡ true

-- ---- of every state, whoever made it

pub record StateClaims (d : Domain) (st : Pieces) : Type 0 where
  -- a fit state stays fit, whatever it holds
  pub keeps-fit : (piece : List ℕ) → Sized st → is_fit d st ≡ true → taken d st + length piece ≤ d.limit → is_fit d (fed d st piece) ≡ true
  -- "Empty pieces change nothing."
  pub empty-state : Sized st → is_fit d st ≡ true → fed d st [] ≡ st
  pub empty-items : Sized st → is_fit d st ≡ true → items_out d st [] ≡ []
  -- "Refusals come in the order 13, 1, 3; a refused call takes nothing in"
  pub thirteen : (piece : List ℕ) (r r' : ℕ) → is_fit d st ≡ false → feed d st piece r r' ≡ record { next = st; given = refused_by 13 0 }
  -- "Refusal 1 now comes to the piece that passes the limit"
  pub one : (piece : List ℕ) (r r' : ℕ) → is_fit d st ≡ true → d.limit < taken d st + length piece
      → feed d st piece r r' ≡ record { next = st; given = refused_by 1 0 }
  -- "Refusal 3 is given exactly when the rows that a piece, or the end, completes don't fit." 9 bytes an item, 9 a refusal, 5 the remainder
  pub three : (piece : List ℕ) (r r' : ℕ) → is_fit d st ≡ true → taken d st + length piece ≤ d.limit
      → (r < 9 * length (items_out d st piece)) ⊎ (r' < 9 * length (refusals_out d st piece))
      → feed d st piece r r' ≡ record { next = st; given = refused_by 3 0 }
  pub takes : (piece : List ℕ) (r r' : ℕ) → is_fit d st ≡ true → taken d st + length piece ≤ d.limit
      → 9 * length (items_out d st piece) ≤ r → 9 * length (refusals_out d st piece) ≤ r'
      → feed d st piece r r'
      ≡ record { next = fed d st piece; given = Ok (record { items = 9 * length (items_out d st piece); refusals = 9 * length (refusals_out d st piece) }) }
  -- a refused call made again, with whatever room, gives what it would have given at first
  pub again : (piece : List ℕ) (r r' s s' n p : ℕ) → (feed d st piece r r').given ≡ refused_by n p
      → feed d (feed d st piece r r').next piece s s' ≡ feed d st piece s s'
  pub end-thirteen : (r : ℕ) → is_fit d st ≡ false → finish d st r ≡ record { next = st; closing = refused_by 13 0 }
  pub end-three : (r : ℕ) → is_fit d st ≡ true → r < 5 * length (remainder_out d st)
      → finish d st r ≡ record { next = st; closing = refused_by 3 0 }
  -- "the remainder's when the end is told"
  pub end-tells : (r : ℕ) → is_fit d st ≡ true → 5 * length (remainder_out d st) ≤ r
      → finish d st r ≡ record { next = ended st; closing = Ok (5 * length (remainder_out d st)) }
  -- "13 is given exactly to a piece or end after the end"
  pub after-the-end : is_fit d (ended st) ≡ false

-- ---- of both forms: a state of one is unfit for the other

pub record FormClaims : Type 0 where
  pub text-only : (st : Pieces) → is_fit text st ≡ true → is_fit binary st ≡ false
  pub binary-only : (st : Pieces) → is_fit binary st ≡ true → is_fit text st ≡ false

pub record PieceClaims : Type 0 where
  pub of-text : StreamClaims text
  pub of-binary : StreamClaims binary
  pub of-states : (st : Pieces) → StateClaims text st × StateClaims binary st
  pub of-forms : FormClaims
