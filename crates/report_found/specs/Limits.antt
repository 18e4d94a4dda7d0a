-- How long a stream is at most whose items are judged, in elements of either form. A binary that is a stream by itself is shorter; one
-- that stands in a mixed stream (02 d) may be so long. Assumes nothing.
use Rattle.std.specs.Prelude.{ℕ, ◌≤◌}
use Rattle.std.proofs.Common.{arith}
use Rattle.format.specs.declared.Form.{Form}
use Rattle.format.specs.declared.Form.TheVariants.{Text, Binary}
use Rattle.format.specs.Units.{domain}

abbrev pub longest : ℕ
longest = 4194304

pub within-longest : (f : Form) (n : ℕ) → n ≤ (domain f).limit → n ≤ longest
within-longest Text n h = h
within-longest Binary n h = omega arith
