use mathlib.Core.Path.{◌≡◌}
use Rattle.reading_tag.specs.Tags.{tag_from}
use Rattle.reading_tag.proofs.tag_from.Given as goal

abbrev pub invariant-loop-i : goal.invariant-loop-i
invariant-loop-i l = l.tag ≡ tag_from l.cs l.start l.i
