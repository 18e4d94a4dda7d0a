-- 01: "A unit is 4 characters in T, 3 bytes in B. Four text characters go by value to three bytes and back. B has the same
-- rules, read on its sextets." 003 calls the units quadlet and triplet. Assumes nothing.
use Rattle.std.specs.Prelude.{ℕ, ◌/◌, List, map, length, get_or}
use Rattle.base.specs.Digits.{number_of, digits_of}
use Rattle.base.specs.Each.{each}
use Rattle.format.specs.declared.Form.{Form}
use Rattle.format.specs.declared.Form.TheVariants.{Text, Binary}
use Rattle.format.specs.Alphabet.{sextet_of, char_of}

-- four sextets as three bytes, three bytes as four sextets: digits of one 24-bit number
unfoldable pub bytes_of : List ℕ → List ℕ
bytes_of q = digits_of 256 3 (number_of 64 q)

unfoldable pub sextets_of : List ℕ → List ℕ
sextets_of t = digits_of 64 4 (number_of 256 t)

-- four characters as three bytes, three bytes as four characters
unfoldable pub triplet_of : List ℕ → List ℕ
triplet_of q = bytes_of (map sextet_of q)

unfoldable pub quadlet_of : List ℕ → List ℕ
quadlet_of t = map char_of (sextets_of t)

-- the same with the values or characters read from a table
unfoldable pub triplet_by : List ℕ → List ℕ → List ℕ
triplet_by values q = bytes_of (map (λ c. get_or values c 0) q)

unfoldable pub quadlet_by : List ℕ → List ℕ → List ℕ
quadlet_by characters t = map (λ v. get_or characters v 0) (sextets_of t)

-- a form of stream
pub record Domain : Type 0 where
  pub unit : ℕ  -- elements of a stream to a unit
  pub limit : ℕ  -- number 1: longer ones are refused
  pub sextets : List ℕ → List ℕ  -- a stream's sextets, four to each whole unit

-- a character outside the alphabet reads as its mark, 64 or 65
unfoldable pub text_sextets : List ℕ → List ℕ
text_sextets s = map sextet_of s

unfoldable pub binary_sextets : List ℕ → List ℕ
binary_sextets s = each 3 sextets_of (length s / 3) s

abbrev pub text : Domain
text = record { unit = 4; limit = 4194304; sextets = text_sextets }

abbrev pub binary : Domain
binary = record { unit = 3; limit = 3145728; sextets = binary_sextets }

abbrev pub domain : Form → Domain
domain Text = text
domain Binary = binary
