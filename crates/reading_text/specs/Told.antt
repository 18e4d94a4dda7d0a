-- A refused read of a text, and what is told of a found item. Assumes nothing.
use Rattle.std.specs.Prelude.{ℕ, ◌*◌, ◌≡◌, List, length, take}
use Rattle.format.specs.declared.Kind.{Kind}
use Rattle.format.specs.declared.Primitive.{Primitive}
use Rattle.format.specs.declared.TextOffset.{TextOffset}
use Rattle.format.specs.declared.PrimitiveRead.{PrimitiveRead}
use Rattle.format.specs.Offsets.{text_offset}
use Rattle.format.specs.Units.{text_sextets}
use Rattle.format.specs.Values.{text_in, tag_of}
use Rattle.format.specs.Reading.{primitive_of, padded, no_tag}
use Rattle.format.specs.Refusals.{refused_by}

-- it has no tag characters
abbrev pub no_text : ℕ → ℕ → PrimitiveRead TextOffset
no_text m p = record { found = refused_by m (text_offset p); tag = no_tag }

-- of the item of a kind, a header and a size that a text begins with
pub record Tells (t : List ℕ) (k : Kind) (h n : ℕ) (p : Primitive) (tag : List ℕ) : Type 0 where
  pub item : p ≡ primitive_of k h n (length (text_in k h (take (4 * n) (text_sextets t))))
  pub tags : tag ≡ padded (tag_of k (take (4 * n) (text_sextets t)))
