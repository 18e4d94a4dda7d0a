-- format's judge_kind by the kinds that no items stand in, and where an item's value begins. Assumes nothing.
use Rattle.std.specs.Prelude.{ℕ, ◌*◌, ◌≤◌, ◌≡◌, List, length}
use Rattle.format.specs.declared.CodeRow.{CodeRow}
use Rattle.format.specs.declared.IndexRow.{IndexRow}
use Rattle.format.specs.declared.Kind.TheVariants.{Fixed, Variable, Indexed}
use Rattle.format.specs.declared.Verdict.{Verdict}
use Rattle.format.specs.declared.Verdict.TheVariants.{Accepted}
use Rattle.format.specs.Judging.{judge_kind}

-- behind a header of h units
pub record Behind (h from : ℕ) (t : List ℕ) : Type 0 where
  pub units : from ≡ 4 * h
  pub inside : from ≤ length t

unfoldable pub fixed_of : CodeRow → ℕ → List ℕ → Verdict
fixed_of c h s = judge_kind (Fixed c) h s (λ letter h' ws. Accepted)

unfoldable pub variable_of : ℕ → ℕ → ℕ → ℕ → List ℕ → Verdict
variable_of t lead count h s = judge_kind (Variable t lead count) h s (λ letter h' ws. Accepted)

unfoldable pub indexed_of : IndexRow → ℕ → List ℕ → Verdict
indexed_of c h s = judge_kind (Indexed c) h s (λ letter h' ws. Accepted)
