-- The test of whether a state's next item lies in a stream, one law for each way through the code. Assumes nothing.
use mathlib.Core.Path.{◌≡◌}
use mathlib.Core.Bool.{true, false}
use Prim.Native.Nat.{ℕ, ◌<◌, ◌≤◌}
use lib.Dec.{leb}
use borrow.Author.Tests.{le-leb, lt-leb}
use Rattle.format.specs.Judging.{max_depth}
use Rattle.walk_state.specs.declared.Walk.{Walk}
use Rattle.walk_state.specs.Walking.{stop_of}
use Rattle.walk_extent.specs.declared.Extent.{Extent}
use Rattle.walk_extent.specs.Extent.{is_near}

module _ (w : Walk) (e : Extent) where
  pub near-over : e.over ≡ true → false ≡ is_near w e
  unfolding is_near
  near-over o = rw o

  module _ (o : e.over ≡ false) where
    pub near-many : max_depth < w.depth → false ≡ is_near w e
    unfolding is_near
    near-many h = rw (o, lt-leb _ _ h)

    module _ (few : w.depth ≤ max_depth) {stop : ℕ} (s : stop ≡ stop_of w e.units) where
      pub near-behind : stop < w.at → false ≡ is_near w e
      unfolding is_near
      near-behind h = rw (o, le-leb _ _ few, ← s, lt-leb _ _ h)

      pub near_last : w.at ≤ stop → leb stop e.units ≡ is_near w e
      unfolding is_near
      near_last h = rw (o, le-leb _ _ few, ← s, le-leb _ _ h)
