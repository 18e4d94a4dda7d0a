use native.Mathlib.Nat.{pos_of_ne-zero}
use Rattle.report_count.proofs.Laws.{step_small, alone-small, by-headers, by-alone, by-letters, no_step}
use Rattle.report_count.proofs.next.Goals as goal

pub stepped-requires : goal.stepped-requires
stepped-requires c = search alone-small

pub returns-then-signed : goal.returns-then-signed
returns-then-signed c = search by-alone

pub stepped-requires-then-g-gt0 : goal.stepped-requires-then-g-gt0
stepped-requires-then-g-gt0 c = search step_small

pub returns-then-g-gt0 : goal.returns-then-g-gt0
returns-then-g-gt0 c = search by-headers

pub returns-then-m-eq0 : goal.returns-then-m-eq0
returns-then-m-eq0 c = search no_step

pub stepped-requires-2 : goal.stepped-requires-2
stepped-requires-2 c = search (step_small, pos_of_ne-zero)

pub returns : goal.returns
returns c = search by-letters
