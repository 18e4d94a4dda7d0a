-- The state by value, put together of its parts. Assumes nothing.
use mathlib.Core.Path.{◌≡◌, ap}
use mathlib.Core.List.{List, ◌++◌}
use Prim.Native.Nat.{ℕ, ◌≤◌}
use native.Mathlib.Omega.{arith}
use lib.ListN.{length}
use Rattle.std.proofs.lemmas.List.{take-append-le}
use Rattle.format.specs.Judging.{max_depth}
use Rattle.walk_state.specs.declared.Walk.{Walk}
use Rattle.walk_state.specs.declared.Place.{Place}
use Rattle.walk_state.specs.Lent.{slots_in, walk_at}
use Rattle.exports_values.specs.Lent.{place_numbers, state_of}

-- the ends stand before what was there behind them
pub state-of-parts : (w : Walk) (ends zs : List ℕ) (p : Place) → length w.ends ≡ max_depth → ends ≡ w.ends → walk_at w.ends p ≡ w
    → slots_in (ends ++ zs) ++ place_numbers p.depth p.at p.first p.indexed ≡ state_of w
unfolding state_of
state-of-parts w ends zs p l e f =
    let n : max_depth ≤ length w.ends = omega arith in
    rw (e, take-append-le) (ap (λ (v : Walk). slots_in w.ends ++ place_numbers v.depth v.at v.first v.indexed) f)
