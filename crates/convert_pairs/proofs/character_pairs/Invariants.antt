use Rattle.std.proofs.Common.{◌≡◌, ℕ, ◌+◌, ◌*◌, ◌<◌, length, get_or}
use Rattle.convert_pairs.proofs.character_pairs.Given as goal

abbrev pub invariant-loop-i : goal.invariant-loop-i
invariant-loop-i w =
    (length w.table ≡ 4096) × ((k l : ℕ) → k < 64 → l < w.i → get_or w.table (64 * l + k) 0 ≡ get_or w.characters l 0 + get_or w.characters k 0 * 256)
