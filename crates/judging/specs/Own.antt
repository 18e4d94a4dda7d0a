-- An item's own checks by its first sextets and the verdict on the alphabet behind its header. Format's judge_kind in the shape of
-- the code: proofs/Laws shows them equal. Assumes nothing.
use Rattle.std.specs.Prelude.{ℕ, ◌-◌, List}
use Rattle.format.specs.declared.Kind.{Kind}
use Rattle.format.specs.declared.Kind.TheVariants.{Fixed, Variable, Group, Genus, Indexed}
use Rattle.format.specs.declared.Framed.{Framed}
use Rattle.format.specs.declared.Framed.TheVariants.{Unframed}
use Rattle.format.specs.declared.Verdict.{Verdict}
use Rattle.format.specs.declared.Verdict.TheVariants.{Accepted, Refused}
use Rattle.format.specs.Judging.{and_then}
use Rattle.judging_header.specs.Checks.{group_checks}
use Rattle.judging_fixed.specs.Checks.{fixed_checks}
use Rattle.judging_variable.specs.Checks.{variable_checks}
use Rattle.judging_indexed.specs.Checks.{indexed_checks}

-- an item of n units, h of them its header
unfoldable pub own_by : Kind → ℕ → ℕ → List ℕ → Verdict → ℕ → Verdict
own_by (Fixed c) h n cs b l = and_then b (fixed_checks c cs)
own_by (Variable t lead count) h n cs b l = and_then b (variable_checks t lead count h cs)
own_by (Group letter) h n cs b l = group_checks h (n - h) l
own_by Genus h n cs b l = Accepted
own_by (Indexed c) h n cs b l = and_then b (indexed_checks c cs)

-- an item after its verdict
unfoldable pub told_by : Framed → Verdict → Framed
told_by f Accepted = f
told_by f (Refused m p) = Unframed m p
