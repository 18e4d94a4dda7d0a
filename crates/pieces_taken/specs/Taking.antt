-- A piece taken in, as the code does it. Assumes nothing.
use Rattle.std.specs.Prelude.{ℕ, ◌+◌, ◌*◌, ◌%◌, ◌≤◌, ◌≡◌, List, length}
use Rattle.std.proofs.lemmas.List.Edits.{sets}
use Rattle.format.specs.Units.{Domain}
use Rattle.format.specs.Report.{row_bytes, refusal_bytes, concat}
use Rattle.pieces.specs.declared.Progress.{Progress}
use Rattle.pieces.specs.declared.Pieces.{Pieces}
use Rattle.pieces.specs.Feeding.{held_and, fed, items_out, refusals_out}
use Rattle.pieces_units.specs.Rests.{rest_of}
use Rattle.pieces_taken.specs.declared.Ahead.{Ahead}

-- a state with what is left behind the last whole unit
abbrev pub holding_all : Domain → Pieces → Progress → List ℕ → Pieces
holding_all d st p piece =
    record { unit = st.unit; progress = p; held = rest_of d (held_and st piece); count = (st.count + length piece) % d.unit }

-- the state behind the piece, how many rows it gives, and, where they fit, the buffers with them
pub record Took (d : Domain) (st : Pieces) (piece items items' refusals refusals' : List ℕ) (r : Ahead) : Type 0 where
  pub next : r.next ≡ fed d st piece
  pub many : r.items ≡ length (items_out d st piece)
  pub bad : r.refusals ≡ length (refusals_out d st piece)
  pub rows : 9 * length (items_out d st piece) ≤ length items → items' ≡ sets items 0 (concat row_bytes (items_out d st piece))
  pub refused : 9 * length (refusals_out d st piece) ≤ length refusals
      → refusals' ≡ sets refusals 0 (concat refusal_bytes (refusals_out d st piece))
