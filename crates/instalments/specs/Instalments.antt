-- 02 i, "Walk in instalments": "Walk on by at most a stated number of items and hand back the state and the number of items taken". An item
-- is a step of the single-step walk (walk_state's Walking). Assumes nothing.
use Rattle.std.specs.Prelude.{ℕ, zero, suc, List, ltb, length}
use Rattle.base.specs.Pick.{pick}
use Rattle.format.specs.Units.{Domain}
use Rattle.format.specs.Offsets.{text_offset, binary_offset}
use Rattle.walk_state.specs.declared.Walk.{Walk}
use Rattle.walk_state.specs.declared.Found.{Found}
use Rattle.walk_state.specs.declared.Found.TheVariants as F
use Rattle.walk_state.specs.Walking.{is_fit, step_in}
use Rattle.walk_claims.specs.Words.{units_in}
use Rattle.instalments.specs.declared.Pause.{Pause}
use Rattle.instalments.specs.declared.Pause.TheVariants as P
use Rattle.instalments.specs.declared.Walked.{Walked}
use Rattle.format.specs.declared.TextOffset.{TextOffset}
use Rattle.format.specs.declared.BinaryOffset.{BinaryOffset}

-- no item taken: the state as given
abbrev pub halted : Walk → Pause ℕ → Walked ℕ
halted w p = record { next = w; items = 0; pause = p }

-- an item in front of what the rest of the budget takes
abbrev pub counted : Walked ℕ → Walked ℕ
counted r = record { next = r.next; items = suc r.items; pause = r.pause }

-- nothing to spend: "1 and 13 come as in 01, for a budget of 0 too"
unfoldable pub unspent : Domain → List ℕ → Walk → Pause ℕ
unspent d xs w = pick (ltb d.limit (length xs)) (P.Refused 1 0) (pick (is_fit w (units_in d xs)) P.Spent (P.Refused 13 0))

-- by what a step found: an item is counted, and the end or a refusal stops the walk in the state as it was
abbrev pub on_item : Walk → Found ℕ → Walked ℕ → Walked ℕ
on_item w (F.Item o n d k h) r = counted r
on_item w (F.Refused m p) r = halted w (P.Refused m p)
on_item w F.End r = halted w P.End

unfoldable pub walk_on : Domain → List ℕ → ℕ → Walk → Walked ℕ
walk_on d xs zero w = halted w (unspent d xs w)
walk_on d xs (suc budget) w = on_item w (step_in d xs w).found (walk_on d xs budget (step_in d xs w).next)

-- ---- in a form's own offsets

unfoldable pub text_pause : Pause ℕ → Pause TextOffset
text_pause P.Spent = P.Spent
text_pause P.End = P.End
text_pause (P.Refused m p) = P.Refused m (text_offset p)

abbrev pub text_walked : Walked ℕ → Walked TextOffset
text_walked r = record { next = r.next; items = r.items; pause = text_pause r.pause }

unfoldable pub binary_pause : Pause ℕ → Pause BinaryOffset
binary_pause P.Spent = P.Spent
binary_pause P.End = P.End
binary_pause (P.Refused m p) = P.Refused m (binary_offset p)

abbrev pub binary_walked : Walked ℕ → Walked BinaryOffset
binary_walked r = record { next = r.next; items = r.items; pause = binary_pause r.pause }
