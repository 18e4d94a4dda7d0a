-- A call with a piece, as the code goes through its refusals. Assumes nothing.
use Rattle.std.specs.Prelude.{ℕ, ◌+◌, ◌*◌, ◌≤◌, ◌≡◌, true, List, length}
use Rattle.format.specs.declared.Form.{Form}
use Rattle.format.specs.Units.{Domain, domain}
use Rattle.pieces.specs.declared.Pieces.{Pieces}
use Rattle.pieces.specs.declared.Fed.{Fed}
use Rattle.pieces.specs.Feeding.{items_out, refusals_out, taken}
use Rattle.pieces.specs.Calls.{is_fit, feed, items_left, refusals_left}
use Rattle.format.specs.Refusals.{refused_by}

-- refused: the state stays
abbrev pub kept : Pieces → ℕ → Fed
kept st number = record { next = st; given = refused_by number 0 }

-- neither 13 nor 1, and what is held
pub record Enters (form : Form) (st : Pieces) (piece : List ℕ) : Type 0 where
  pub held : length st.held ≡ 4
  pub few : st.count ≤ 4
  pub fit : is_fit (domain form) st ≡ true
  pub within : taken (domain form) st + length piece ≤ (domain form).limit

-- nor 3
pub record Room (form : Form) (st : Pieces) (piece items refusals : List ℕ) : Type 0 where
  pub rows : 9 * length (items_out (domain form) st piece) ≤ length items
  pub refused : 9 * length (refusals_out (domain form) st piece) ≤ length refusals

-- what the call gives: answer and state, and both buffers
abbrev pub Gives : Domain → Pieces → List ℕ → List ℕ → List ℕ → List ℕ → List ℕ → Fed → Type 0
Gives d st piece items items' refusals refusals' r =
    (r ≡ feed d st piece (length items) (length refusals)) × ((items' ≡ items_left r.given d st piece items) × (refusals' ≡ refusals_left r.given d st piece refusals))
