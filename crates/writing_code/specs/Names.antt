-- The code that is named, in the types of the code, and what is known of one that fits. Assumes nothing.
use Rattle.std.specs.Prelude.{ℕ, ◌+◌, ◌≤◌, ◌≡◌, ◌⊎◌}
use Rattle.format.specs.Texts.{fill_for}
use Rattle.format.specs.Writing as F
use Rattle.laws.specs.Registry.{Sound}
use Rattle.writing_code.specs.declared.Named.{Named}
use Rattle.writing_code.specs.declared.Named.TheVariants as N

unfoldable pub as_named : Named → F.Named
as_named N.Unknown = F.Named.unknown
as_named (N.Row c) = F.Named.row c
as_named (N.Variable t h) = F.Named.variable t h
as_named (N.Textual h) = F.Named.textual h

-- what is known of a code that the tag characters and the raw value, or the text, fit
unfoldable pub Able : F.Named → ℕ → ℕ → Type 0
Able F.Named.unknown tags raw = ⊥
Able (F.Named.row c) tags raw = Sound c × (tags ≡ c.tag) × (raw ≡ F.raw_size c)
Able (F.Named.variable t h) tags raw = ((h ≡ 1) ⊎ (h ≡ 2)) × (tags ≡ 0) × (raw ≤ 3145722) × (h ≡ 1 → raw ≤ 12285)
Able (F.Named.textual h) tags chars = ((h ≡ 1) ⊎ (h ≡ 2)) × (tags ≡ 0) × (chars + fill_for chars ≤ 4194296) × (h ≡ 1 → chars + fill_for chars ≤ 16380)
