-- What is said of an item's size. Assumes nothing.
use Rattle.std.specs.Prelude.{ℕ, ◌+◌, ◌*◌, ◌/◌, ◌≤◌, ◌<◌, ◌≡◌, List, length, drop}
use Rattle.format.specs.declared.Form.{Form}
use Rattle.format.specs.declared.Form.TheVariants.{Text, Binary}
use Rattle.format.specs.declared.Framed.{Framed}
use Rattle.format.specs.declared.Framed.TheVariants.{Item, Unframed}
use Rattle.format.specs.Alphabet.{sextet_of}
use Rattle.format.specs.Units.{Domain}
use Rattle.format.specs.Framing.{frame_ruled}
use Rattle.runs.specs.Plain.{small_at}

-- the size of a framed item, 0 where it is not framed
unfoldable pub size_of : Framed → ℕ
size_of (Item k h n) = n
size_of (Unframed m p) = 0

-- what a first unit tells of the item's size, if so much is left
abbrev pub Tells : List ℕ → ℕ → ℕ → Type 0
Tells s at r = 0 < r → at + r ≤ length s / 4 → size_of (frame_ruled (drop (4 * at) s)) ≡ r

-- a small group with a known header that ends within the stream; 0 says nothing
abbrev pub Grouped : Domain → List ℕ → ℕ → ℕ → ℕ → Type 0
Grouped d xs clean at r = 0 < r → (small_at (d.sextets xs) at ≡ r) × (at < clean) × (at + r ≤ length xs / d.unit)

-- the size of the item at a unit of a stream
abbrev pub size_at : Domain → List ℕ → ℕ → ℕ
size_at d xs at = size_of (frame_ruled (d.sextets (drop (d.unit * at) xs)))

-- the letter of a first unit, by its first element
unfoldable pub letter_by : Form → ℕ → ℕ
letter_by Text x = sextet_of x
letter_by Binary x = x / 4
