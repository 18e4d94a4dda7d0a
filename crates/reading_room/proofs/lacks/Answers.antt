-- `reading_room::lacks` meets its contract: no sum of the two is made. Assumes nothing.
use mathlib.Core.Path.{◌≡◌, sym, ◌∙◌}
use mathlib.Core.Logic.{⊎_elim}
use Prim.Native.Nat.{ℕ, ◌+◌, ◌-◌, ◌≤◌}
use native.Mathlib.Omega.{arith}
use lib.Dec.{ltb}
use borrow.Author.Tests.{lt-ltb, le-ltb}
use Rattle.base.specs.Cases.{lt-or-ge}
use Rattle.reading_room.proofs.lacks.Goals as goal

behind : (room raw text : ℕ) → raw ≤ room → ltb (room - raw) text ≡ ltb room (raw + text)
behind room raw text h =
    ⊎_elim (λ l. lt-ltb _ _ l ∙ sym (lt-ltb room (raw + text) (omega arith)))
    (λ g. le-ltb _ _ g ∙ sym (le-ltb room (raw + text) (omega arith))) (lt-or-ge (room - raw) text)

pub returns-then-room-raw : goal.returns-then-room-raw
returns-then-room-raw c = let a = c.args in sym (lt-ltb a.room (a.raw + a.text) (omega arith))

pub returns : goal.returns
returns c = let a = c.args in behind a.room a.raw a.text (omega arith)
