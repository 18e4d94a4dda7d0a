-- A comparison as C has it: five numbers behind `answer`, written in every case. Refused, they are 0, the place among them. Assumes
-- nothing.
use Rattle.std.specs.Prelude.{ℕ, List, [], ◌∷◌}
use Rattle.base.specs.Pick.{pick}
use Rattle.comparison.specs.declared.Compared.{Compared}

-- passed, failed, not reached, beyond, and 1 where the remainders agree, else 0
unfoldable pub counts_of : Compared → List ℕ
counts_of c = c.passed ∷ c.failed ∷ c.unreached ∷ c.beyond ∷ pick c.agree 1 0 ∷ []
