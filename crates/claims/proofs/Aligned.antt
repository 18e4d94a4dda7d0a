-- In the alphabet every place of refusal is the start of a unit. Assumes nothing.
use Rattle.std.specs.Prelude.{ℕ, zero, suc, ◌*◌, ◌%◌, ◌<◌, ◌≡◌, refl, List, [], ◌∷◌, get_or}
use Rattle.std.proofs.Common.{arith, lt-ltb}
use Rattle.base.specs.Digits.{Below, more, below-take, below-drop}
use Rattle.format.specs.declared.Verdict.{Verdict}
use Rattle.format.specs.declared.Verdict.TheVariants.{Accepted, Refused}
use Rattle.format.specs.Judging.{shift, scan, judge}
use Rattle.laws.specs.Scan.{scan-below}
use Rattle.laws.specs.Judging.{Reaches, every-verdict}

abbrev pub Aligned : Verdict → Type 0
Aligned Accepted = Unit {0}
Aligned (Refused n p) = p % 4 ≡ 0

pub below-anywhere : (s : List ℕ) → Below 64 s → (i : ℕ) → get_or s i 0 < 64
below-anywhere [] h i = omega arith
below-anywhere (x ∷ s) (more p r) zero = p
below-anywhere (x ∷ s) (more p r) (suc i) = below-anywhere s r i

shift-aligned : (k : ℕ) (v : Verdict) → Aligned v → Aligned (shift (4 * k) v)
unfolding shift
shift-aligned k Accepted h = tt
shift-aligned k (Refused n p) h = omega arith

pub aligned : Reaches (Below 64) Aligned
aligned = record {
  takes = below-take 64;
  drops = below-drop 64;
  accepts = tt;
  refuses = λ n h. refl;
  counts-on = shift-aligned;
  scans = λ s q. rw (scan-below s q) tt;
  told = λ s n p q t. let z : p ≡ 0 = t.1 (below-anywhere s q) in omega arith;
}

pub judged-aligned : (l : ℕ) (s : List ℕ) → Below 64 s → Aligned (judge l s)
judged-aligned l s h = every-verdict (Below 64) Aligned aligned l s h
