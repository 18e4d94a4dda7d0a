-- What a stream's length says, and the test of whether a state's next item lies in it. Assumes nothing.
use Rattle.std.specs.Prelude.{ℕ, ◌/◌, ◌%◌, ◌≡◌, List, Bool, false, length, ltb, leb}
use Rattle.base.specs.Pick.{pick}
use Rattle.format.specs.declared.Form.{Form}
use Rattle.format.specs.Units.{Domain, domain}
use Rattle.format.specs.Judging.{max_depth}
use Rattle.walk_state.specs.declared.Walk.{Walk}
use Rattle.walk_state.specs.Walking.{stop_of}
use Rattle.walk_extent.specs.declared.Extent.{Extent}

-- a stream's whole units, and whether elements stand behind them
abbrev pub units_in : Domain → List ℕ → ℕ
units_in d xs = length xs / d.unit

abbrev pub tail_in : Domain → List ℕ → Bool
tail_in d xs = ltb 0 (length xs % d.unit)

-- what is told of it
pub record Measured (form : Form) (xs : List ℕ) (e : Extent) : Type 0 where
  pub limit : e.over ≡ ltb (domain form).limit (length xs)
  pub units : e.units ≡ units_in (domain form) xs
  pub rest : e.tail ≡ tail_in (domain form) xs

-- the stream within its limit, no more open than there are slots, and the position not past where the innermost group ends, nor that past
-- the stream
unfoldable pub is_near : Walk → Extent → Bool
is_near w e =
    pick e.over false
    (pick (leb w.depth max_depth) (pick (leb w.at (stop_of w e.units)) (leb (stop_of w e.units) e.units) false) false)
