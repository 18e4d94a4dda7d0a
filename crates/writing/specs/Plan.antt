-- The plan of an item before its room is asked, as format's writing goes: refused or not. Assumes nothing.
use Rattle.std.specs.Prelude.{ℕ, List, length, take, replicate, None, Some, Option}
use Rattle.format.specs.Writing as F
use Rattle.writing_head.specs.Heads.{head_bytes}
use Rattle.format.specs.declared.Refusal.{Refusal}
use Rattle.writing_refusal.specs.Refusals.{refusal_of}
use Rattle.writing.specs.declared.Planned.{Planned}
use Rattle.writing.specs.declared.Planned.TheVariants as P
use Rattle.writing.specs.declared.Plan.{Plan}

unfoldable pub planned_of : F.Named → ℕ → Planned
planned_of F.Named.unknown k = P.Units k
planned_of (F.Named.row c) k = P.Units k
planned_of (F.Named.variable t h) k = P.Units k
planned_of (F.Named.textual h) k = P.Text h

-- by the refusal: the item's size and first bytes where there is none
abbrev pub plan_by : Option (Refusal ℕ) → F.Named → List ℕ → ℕ → Plan
plan_by None n tag raw = record { planned = planned_of n (F.units_of n raw); head = head_bytes n tag raw }
plan_by (Some r) n tag raw = record { planned = P.Refused r.number r.place; head = replicate 9 0 }

unfoldable pub plan_of : F.Named → List ℕ → ℕ → List ℕ → Plan
plan_of n tag tags raw = plan_by (refusal_of n tag tags raw) n (take tags tag) (length raw)
