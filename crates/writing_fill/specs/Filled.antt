-- A text as it stands in an item: its fill, and then its characters; 65 is `A`. Assumes nothing.
use Rattle.std.specs.Prelude.{List, ◌++◌, ℕ, ◌*◌, length, take, replicate}
use Rattle.format.specs.Texts.{fill_for}
use Rattle.format.specs.Values.{bytes_in}
use Rattle.format.specs.Writing.{filled}

unfoldable pub filled_text : List ℕ → List ℕ
filled_text chars = replicate (fill_for (length chars)) 65 ++ chars

-- the bytes of the item, whose header is h units of head
abbrev pub text_item : ℕ → List ℕ → List ℕ → List ℕ
text_item h head chars = take (3 * h) head ++ bytes_in (filled chars)
