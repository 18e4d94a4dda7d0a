-- What the claims on pieces speak of. No proofs. Assumes nothing.
use Rattle.std.specs.Prelude.{ℕ, ◌+◌, ◌≡◌, List, [], ◌∷◌, ◌++◌, length, ltb, leb}
use Rattle.base.specs.Pick.{pick}
use Rattle.format.specs.Units.{Domain}
use Rattle.format.specs.Judging.{max_depth}
use Rattle.format.specs.Report.{ItemRow, RefusalRow}
use Rattle.pieces.specs.declared.Pieces.{Pieces}
use Rattle.pieces.specs.Feeding.{fed, items_out, refusals_out}

-- the stream that pieces are of
unfoldable pub joined : List (List ℕ) → List ℕ
joined [] = []
joined (p ∷ ps) = p ++ joined ps

-- pieces in order, from a state on: the state behind them, and the rows that come out, joined
unfoldable pub fed_all : Domain → Pieces → List (List ℕ) → Pieces
fed_all d st [] = st
fed_all d st (p ∷ ps) = fed_all d (fed d st p) ps

unfoldable pub all_items : Domain → Pieces → List (List ℕ) → List ItemRow
all_items d st [] = []
all_items d st (p ∷ ps) = items_out d st p ++ all_items d (fed d st p) ps

unfoldable pub all_refusals : Domain → Pieces → List (List ℕ) → List RefusalRow
all_refusals d st [] = []
all_refusals d st (p ∷ ps) = refusals_out d st p ++ all_refusals d (fed d st p) ps

-- the rows of items whose last element is one of those from lo to hi
unfoldable pub ended_in : ℕ → ℕ → List ItemRow → List ItemRow
ended_in lo hi [] = []
ended_in lo hi (r ∷ rs) =
    pick (ltb lo (r.offset + r.size)) (pick (leb (r.offset + r.size) hi) (r ∷ ended_in lo hi rs) (ended_in lo hi rs)) (ended_in lo hi rs)

-- arrays as long as their types say
pub record Sized (st : Pieces) : Type 0 where
  pub ends : length st.progress.walk.ends ≡ max_depth
  pub held : length st.held ≡ 4
