-- A group's header as the code has it: by units, and as the first of eight bytes. Assumes nothing.
use Rattle.std.specs.Prelude.{ℕ, List, ◌++◌, take, replicate}
use Rattle.base.specs.Digits.{digits_of}
use Rattle.format.specs.declared.Form.{Form}
use Rattle.groups.specs.Grouping.{head_sextets, spelled}

unfoldable pub first_unit : ℕ → ℕ → List ℕ
first_unit l n = take 4 (head_sextets l n)

-- of a large header
unfoldable pub second_unit : ℕ → List ℕ
second_unit n = digits_of 64 4 n

-- the header, and zeros
unfoldable pub head_bytes : Form → ℕ → ℕ → List ℕ
head_bytes f l n = take 8 (spelled f (head_sextets l n) ++ replicate 8 0)
