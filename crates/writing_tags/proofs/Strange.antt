-- The first stranger among the tag characters, or none. Assumes nothing.
use mathlib.Core.Path.{◌≡◌}
use mathlib.Core.List.{List}
use Prim.Native.Nat.{ℕ, ◌<◌, ◌≤◌}
use borrow.Author.Tests.{lt-ltb, le-ltb}
use lib.ListN.{take, get_or}
use lib.Seq.{get_or-take}
use Rattle.format.specs.Alphabet.{sextet_of, stranger_number}
use Rattle.format.specs.Conversion.{first_stranger, first_number}
use Rattle.std.specs.Prelude.{None}
use Rattle.writing_refusal.specs.Refusals.{refusal, tag_refusal}

module _ (tag : List ℕ) (tags i : ℕ) (e : i ≡ first_stranger (take tags tag)) where
  pub tag-strange : i < tags → refusal (stranger_number (sextet_of (get_or tag i 0))) i ≡ tag_refusal tag tags
  unfolding tag_refusal first_number
  tag-strange h = rw (← e, lt-ltb i tags h, get_or-take tags tag i 0 h)

  pub tag-none : tags ≤ i → None ≡ tag_refusal tag tags
  unfolding tag_refusal
  tag-none h = rw (← e, le-ltb i tags h)
