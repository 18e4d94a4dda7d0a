-- `mixed_turn::put_turn` meets its contract. Assumes nothing.
use native.Mathlib.Omega.{arith}
use Rattle.mixed_turn.proofs.Laws.{judged-turn, turns-not}
use Rattle.mixed_turn.proofs.put_turn.Goals as goal

pub put_here-requires : goal.put_here-requires
put_here-requires c = c.is_place.ensures.placed c.if-is_place.true (omega arith)

pub returns-then-is_place : goal.returns-then-is_place
returns-then-is_place c = judged-turn _ c.judged-standing.ensures _ c.put_here.ensures

pub returns : goal.returns
returns c = search turns-not
