-- 01, "Values": "in B the raw value is always whole bytes at the item's end"; by 02 c type `A` has characters instead. Of a primitive's
-- own sextets. Assumes nothing.
use Rattle.std.specs.Prelude.{ℕ, ◌+◌, ◌*◌, ◌/◌, List, [], ◌++◌, map, length, take, drop, eqb}
use Rattle.base.specs.Pick.{pick}
use Rattle.base.specs.Digits.{number_of}
use Rattle.base.specs.Each.{each}
use Rattle.format.specs.declared.CodeRow.{CodeRow}
use Rattle.format.specs.declared.IndexRow.{IndexRow}
use Rattle.format.specs.declared.Kind.{Kind}
use Rattle.format.specs.declared.Kind.TheVariants.{Fixed, Variable, Group, Genus, Indexed}
use Rattle.format.specs.Alphabet.{char_of}
use Rattle.format.specs.Units.{bytes_of}
use Rattle.format.specs.Registry.{zero_bits_of, prepad_of, is_text, index_chars}
use Rattle.format.specs.Texts.{text_of}

-- an item's bytes in B
unfoldable pub bytes_in : List ℕ → List ℕ
bytes_in s = each 4 bytes_of (length s / 4) s

-- where the raw value starts, in bytes from the item's start, h being the header's units: "A pad 1 code is followed by 2 zero
-- bits, a pad 2 code by 4, then the raw bytes; a pad 0 code by the raw bytes. `V` has one zero lead byte more. A variable value
-- opens with its 0, 1 or 2 zero lead bytes; the rest is raw." A tag has no raw, and by 02 c type `A` has none: it is empty at the
-- item's end. 02 a, of an indexed item: "Four zero pad bits stand before the raw bytes of `A` to `D` and `2A` to `2D`, none in the others"
unfoldable pub raw_start : Kind → ℕ → ℕ
raw_start (Fixed c) h = pick (eqb c.tag 0) ((6 * c.chars + zero_bits_of c) / 8) (c.size / 4 * 3)
raw_start (Variable t lead count) h = pick (is_text t) (3 * (h + count)) (3 * h + lead)
raw_start (Group letter) h = 3 * h
raw_start Genus h = 3 * h
raw_start (Indexed c) h = (6 * index_chars c + c.zeros) / 8

unfoldable pub raw_of : Kind → ℕ → List ℕ → List ℕ
raw_of k h s = drop (raw_start k h) (bytes_in s)

-- 02 a: "index and ondex (read as 0 where it has no digits)", which stand behind the code in this order, most significant digit first
unfoldable pub index_of : IndexRow → List ℕ → ℕ
index_of c s = number_of 64 (take c.index (drop c.chars s))

unfoldable pub ondex_of : IndexRow → List ℕ → ℕ
ondex_of c s = number_of 64 (take c.ondex (drop (c.chars + c.index) s))

-- 02 c: a text's characters
unfoldable pub text_in : Kind → ℕ → List ℕ → List ℕ
text_in (Fixed c) h s = []
text_in (Variable t lead count) h s = pick (is_text t) (text_of lead (drop (4 * h) s)) []
text_in (Group letter) h s = []
text_in Genus h s = []
text_in (Indexed c) h s = []

-- what a writer is given for it: raw bytes, or a text's characters; one of the two is empty
unfoldable pub value_of : Kind → ℕ → List ℕ → List ℕ
value_of k h s = raw_of k h s ++ text_in k h s

-- tag characters: "in `0J` `0L` `0N` a `_` stands before them"
unfoldable pub tag_of : Kind → List ℕ → List ℕ
tag_of (Fixed c) s = map char_of (take c.tag (drop (c.chars + prepad_of c) s))
tag_of (Variable t lead count) s = []
tag_of (Group letter) s = []
tag_of Genus s = []
tag_of (Indexed c) s = []
