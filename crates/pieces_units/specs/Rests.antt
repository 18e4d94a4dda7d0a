-- The elements behind the last whole unit, in four places. Assumes nothing.
use Rattle.std.specs.Prelude.{ℕ, ◌-◌, ◌*◌, ◌/◌, List, ◌++◌, length, drop, replicate}
use Rattle.format.specs.Units.{Domain}

abbrev pub left_of : Domain → List ℕ → List ℕ
left_of d xs = drop (length xs / d.unit * d.unit) xs

-- unused places are 0
abbrev pub rest_of : Domain → List ℕ → List ℕ
rest_of d xs = left_of d xs ++ replicate (4 - length (left_of d xs)) 0
