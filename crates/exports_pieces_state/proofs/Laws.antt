-- Numbers and a state, part by part. Assumes nothing.
use Prim.Native.Nat.{ℕ}
use mathlib.Core.Path.{◌≡◌, refl}
use mathlib.Core.Bool.{Bool, true, false}
use mathlib.Core.List.{List, [], ◌∷◌, ◌++◌, append-nil}
use lib.Dec.{ltb}
use lib.ListN.{length, take, drop, replicate}
use lib.Seq.{take_at, drop_at}
use Rattle.format.specs.Judging.{max_depth}
use Rattle.pieces.specs.declared.Pieces.{Pieces}
use Rattle.exports_values.specs.Lent.{state_size, state_of}
use Rattle.base.specs.Pick.{pick}
use Rattle.exports_pieces_state.specs.Numbers.{all_under, rest_size, rest_of, numbers_of}
use Rattle.exports_pieces_state.specs.Back.{state-long}

pub last_under : (d m : ℕ) → ltb d m ≡ all_under m (d ∷ [])
unfolding all_under
last_under d m = same (ltb d m)
  where
    same : (b : Bool) → b ≡ pick b true false
    same true = refl
    same false = refl

-- the numbers of a state: what is stored over zeros, part by part
pub numbers-made : (st : Pieces) (w t : List ℕ) → length st.progress.walk.ends ≡ max_depth → w ≡ state_of st.progress.walk
    → t ≡ rest_of st.progress st.held st.count
    → st.unit ∷ (take state_size (w ++ replicate rest_size 0) ++ (t ++ drop rest_size (drop state_size (w ++ replicate rest_size 0)))) ≡ numbers_of st
unfolding numbers_of
numbers-made st w t l ew et =
    let lw : length w ≡ state_size = rw ew (state-long st.progress.walk l) in
    rw (take_at w (replicate rest_size 0) state_size lw, drop_at w (replicate rest_size 0) state_size lw, append-nil, ew, et)
