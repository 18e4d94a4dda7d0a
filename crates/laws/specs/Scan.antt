-- The scan for a character outside the alphabet, where there is none. Assumes nothing.
use Rattle.std.specs.Prelude.{ℕ, ◌≡◌, refl, List, [], ◌∷◌}
use Rattle.std.proofs.Common.{lt-ltb}
use Rattle.base.specs.Digits.{Below, none, more}
use Rattle.format.specs.declared.Verdict.TheVariants.{Accepted}
use Rattle.format.specs.Judging.{shift, scan}

pub scan-below : (s : List ℕ) → Below 64 s → scan s ≡ Accepted
unfolding scan shift
scan-below [] h = refl
scan-below (x ∷ s) (more p r) = rw (lt-ltb x 64 p, scan-below s r)
