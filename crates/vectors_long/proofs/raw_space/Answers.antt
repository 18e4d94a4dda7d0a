use Rattle.std.proofs.Common.{ℕ, sym}
use Rattle.std.proofs.lemmas.List.{length-replicate}
use Rattle.vectors_long.proofs.raw_space.Goals as goal

pub returns : goal.returns
returns c = sym (length-replicate {A = ℕ} 4194305 0)
