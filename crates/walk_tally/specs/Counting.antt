-- A walk counted: the items that its steps yield, and what the step behind them finds. Runs the walk's single step. Assumes nothing.
use Rattle.std.specs.Prelude.{ℕ, zero, suc, ◌+◌, List}
use Rattle.format.specs.Units.{Domain}
use Rattle.format.specs.Offsets.{text_offset, binary_offset}
use Rattle.walk_state.specs.declared.Walk.{Walk}
use Rattle.walk_state.specs.declared.Found.{Found}
use Rattle.walk_state.specs.declared.Found.TheVariants as F
use Rattle.walk_state.specs.Walking.{step_in}
use Rattle.walk_claims.specs.Words.{units_in}
use Rattle.walk_tally.specs.declared.Tally.{Tally}
use Rattle.walk_tally.specs.declared.Counted.{Counted}
use Rattle.std.specs.Prelude.{None, Some, Option}
use Rattle.format.specs.declared.Refusal.{Refusal}
use Rattle.format.specs.declared.TextOffset.{TextOffset}
use Rattle.format.specs.declared.BinaryOffset.{BinaryOffset}

abbrev pub none : Found ℕ → Tally
none f = record { items = 0; last = f }

abbrev pub plus : ℕ → Tally → Tally
plus n t = record { items = n + t.items; last = t.last }

-- an item is counted and the walk goes on; a refusal or the end stops it
abbrev pub on_item : Found ℕ → Tally → Tally
on_item (F.Item o n d k h) t = plus 1 t
on_item (F.Refused m p) t = none (F.Refused m p)
on_item F.End t = none F.End

-- k steps at most, and one behind them
unfoldable pub run_in : Domain → List ℕ → ℕ → Walk → Tally
run_in d xs zero w = none (step_in d xs w).found
run_in d xs (suc k) w = on_item (step_in d xs w).found (run_in d xs k (step_in d xs w).next)

-- from a state on: an item takes a unit at least, so that the walk stops within as many steps as there are units (Claims)
unfoldable pub rest_in : Domain → List ℕ → Walk → Tally
rest_in d xs w = run_in d xs (units_in d xs) w

-- ---- in a form's own types. No walk stops at an item (Claims), so what stands for one is never given.

unfoldable pub text_end : Found ℕ → Option (Refusal TextOffset)
text_end (F.Item o n d k h) = None
text_end (F.Refused m p) = Some (record { number = m; place = (text_offset p) })
text_end F.End = None

abbrev pub text_tally : Tally → Counted TextOffset
text_tally t = record { items = t.items; end = text_end t.last }

unfoldable pub binary_end : Found ℕ → Option (Refusal BinaryOffset)
binary_end (F.Item o n d k h) = None
binary_end (F.Refused m p) = Some (record { number = m; place = (binary_offset p) })
binary_end F.End = None

abbrev pub binary_tally : Tally → Counted BinaryOffset
binary_tally t = record { items = t.items; end = binary_end t.last }
