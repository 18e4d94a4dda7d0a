-- The next item of a group or stream, framed by the table that is asked. Assumes nothing.
use Rattle.std.specs.Prelude.{ℕ, Bool, true, false}
use Rattle.base.specs.Pick.{pick}
use Rattle.format.specs.declared.Framed.{Framed}
use Rattle.format.specs.Registry.{opening_by}
use Rattle.format.specs.Framing.{frame_with, ruled}

-- framing where 7 is asked or not
unfoldable pub next_by : Bool → Bool → (ℕ → ℕ) → ℕ → Framed
next_by indexed first at len = pick first (ruled at (frame_with (opening_by indexed) at len)) (frame_with (opening_by indexed) at len)
