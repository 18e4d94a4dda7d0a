-- 01: "Where an answer is an enum, a definition gives this paper's number and values for every one of its cases": why an instalment is
-- over. 0 where the budget was taken whole, 255 at the end as for a single step, else the refusal's number and place. Assumes nothing.
use Rattle.std.specs.Prelude.{ℕ}
use Rattle.instalments.specs.declared.Pause.{Pause}
use Rattle.instalments.specs.declared.Pause.TheVariants as P
use Rattle.format.specs.declared.TextOffset.{TextOffset}
use Rattle.format.specs.declared.BinaryOffset.{BinaryOffset}

unfoldable pub pause_number : Pause ℕ → ℕ
pause_number P.Spent = 0
pause_number P.End = 255
pause_number (P.Refused number place) = number

unfoldable pub pause_place : Pause ℕ → ℕ
pause_place P.Spent = 0
pause_place P.End = 0
pause_place (P.Refused number place) = place

unfoldable pub text_pause_number : Pause TextOffset → ℕ
text_pause_number P.Spent = 0
text_pause_number P.End = 255
text_pause_number (P.Refused number place) = number

unfoldable pub text_pause_place : Pause TextOffset → ℕ
text_pause_place P.Spent = 0
text_pause_place P.End = 0
text_pause_place (P.Refused number place) = place.0

unfoldable pub binary_pause_number : Pause BinaryOffset → ℕ
binary_pause_number P.Spent = 0
binary_pause_number P.End = 255
binary_pause_number (P.Refused number place) = number

unfoldable pub binary_pause_place : Pause BinaryOffset → ℕ
binary_pause_place P.Spent = 0
binary_pause_place P.End = 0
binary_pause_place (P.Refused number place) = place.0
