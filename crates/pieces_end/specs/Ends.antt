-- The end, as the code answers it. Assumes nothing.
use Rattle.std.specs.Prelude.{ℕ}
use Rattle.pieces.specs.declared.Pieces.{Pieces}
use Rattle.pieces.specs.declared.Closed.{Closed}
use Rattle.pieces.specs.Calls.{ended_progress}
use Rattle.std.specs.Prelude.{Ok}
use Rattle.format.specs.Refusals.{refused_by}

-- refused: the state stays
abbrev pub kept : Pieces → ℕ → Closed
kept st number = record { next = st; closing = refused_by number 0 }

-- told, with a row of so many bytes
abbrev pub told : Pieces → ℕ → Closed
told st n =
    record { next = record { unit = st.unit; progress = ended_progress st.progress; held = st.held; count = st.count }; closing = Ok n }
