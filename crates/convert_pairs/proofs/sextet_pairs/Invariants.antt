use Rattle.std.proofs.Common.{◌≡◌, ℕ, ◌+◌, ◌*◌, ◌<◌, length, get_or}
use Rattle.convert_pairs.proofs.sextet_pairs.Given as goal

abbrev pub invariant-loop-j : goal.invariant-loop-j
invariant-loop-j w =
    (length w.table ≡ 19790) × ((k l : ℕ) → k < 78 → l < w.j → get_or w.table (256 * l + k) 0 ≡ get_or w.values (k + 45) 0 * 64 + get_or w.values (l + 45) 0)
