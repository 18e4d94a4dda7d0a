-- An indexed item's own sextets, as the reader accepts them and the writer makes them. Assumes nothing.
use Rattle.std.specs.Prelude.{ℕ, ◌*◌, ◌≡◌, List, true, length, take}
use Rattle.base.specs.Digits.{Below}
use Rattle.format.specs.declared.IndexRow.{IndexRow}
use Rattle.format.specs.Registry.{index_chars}
use Rattle.format.specs.Judging.{zero_bits, ondex_right}
use Rattle.format.specs.Values.{ondex_of}
use Rattle.format.specs.Indexed.{index_code}
use Rattle.roundtrip_indexed.specs.Rows.{Facts}

pub record Own (c : IndexRow) (n : ℕ) (s : List ℕ) : Type 0 where
  pub facts : Facts c
  pub units : 4 * n ≡ c.size
  pub size : length s ≡ 4 * n
  pub low : Below 64 s
  pub code : take c.chars s ≡ index_code c
  pub zeros : zero_bits s (index_chars c) c.zeros ≡ true
  pub ondex : ondex_right c (ondex_of c s) ≡ true
