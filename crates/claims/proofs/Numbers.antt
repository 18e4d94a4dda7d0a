-- No refusal has the number 0. Assumes nothing.
use Rattle.std.specs.Prelude.{ℕ, ◌*◌, List, [], ◌∷◌, ltb}
use Rattle.std.proofs.Common.{arith}
use Rattle.base.specs.Pick.{pick-by}
use Rattle.format.specs.declared.Verdict.{Verdict}
use Rattle.format.specs.declared.Verdict.TheVariants.{Accepted, Refused}
use Rattle.format.specs.Units.{Domain}
use Rattle.format.specs.Judging.{scan, max_depth}
use Rattle.format.specs.Report.{judge_in, placed}
use Rattle.damage.proofs.Counts.{Numbered, shift-numbered}
use Rattle.laws.specs.Alphabet.{number-some}
use Rattle.laws.specs.Judging.{Reaches, every-verdict}

scan-numbered : (s : List ℕ) → Numbered (scan s)
unfolding scan
scan-numbered [] = tt
scan-numbered (x ∷ s) = pick-by Numbered (ltb x 64) _ _ (λ _. shift-numbered 1 (scan s) (scan-numbered s)) (λ _. number-some x)

numbered : Reaches (λ s. Unit {0}) Numbered
numbered = record {
  takes = λ n s q. tt;
  drops = λ n s q. tt;
  accepts = tt;
  refuses = λ n h. h;
  counts-on = λ k v h. shift-numbered (4 * k) v h;
  scans = λ s q. scan-numbered s;
  told = λ s n p q t. t.0;
}

placed-numbered : (u : ℕ) (v : Verdict) → Numbered v → Numbered (placed u v)
unfolding placed
placed-numbered u Accepted h = tt
placed-numbered u (Refused n p) h = h

pub judged-numbered : (d : Domain) (xs : List ℕ) → Numbered (judge_in d xs)
unfolding judge_in
judged-numbered d xs = placed-numbered d.unit _ (every-verdict _ Numbered numbered max_depth (d.sextets xs) tt)
