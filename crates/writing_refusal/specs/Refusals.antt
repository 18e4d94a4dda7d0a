-- Why nothing is written, before its room is asked, as format's writing goes: a number and a place. Assumes nothing.
use Rattle.std.specs.Prelude.{ℕ, List, ltb, length, take, None, Some, Option}
use Rattle.base.specs.Pick.{pick}
use Rattle.format.specs.Units.{text_sextets}
use Rattle.format.specs.Conversion.{first_stranger, first_number}
use Rattle.format.specs.Texts.{fills}
use Rattle.format.specs.Writing as F
use Rattle.format.specs.declared.Refusal.{Refusal}

abbrev pub refusal : ℕ → ℕ → Option (Refusal ℕ)
refusal m p = Some (record { number = m; place = p })

-- ---- 5 or 19, and 16

abbrev stranger_refusal : List ℕ → ℕ → Option (Refusal ℕ) → Option (Refusal ℕ)
stranger_refusal chars count r = pick (ltb (first_stranger chars) count) (refusal (first_number chars) (first_stranger chars)) r

unfoldable pub tag_refusal : List ℕ → ℕ → Option (Refusal ℕ)
tag_refusal tag tags = stranger_refusal (take tags tag) tags None

unfoldable pub text_refusal : List ℕ → Option (Refusal ℕ)
text_refusal chars = stranger_refusal chars (length chars) (pick (fills 1 (text_sextets chars)) (refusal 16 0) None)

unfoldable pub chars_refusal : F.Named → List ℕ → ℕ → List ℕ → Option (Refusal ℕ)
chars_refusal F.Named.unknown tag tags raw = tag_refusal tag tags
chars_refusal (F.Named.row c) tag tags raw = tag_refusal tag tags
chars_refusal (F.Named.variable t h) tag tags raw = tag_refusal tag tags
chars_refusal (F.Named.textual h) tag tags raw = text_refusal raw

-- ---- in this order 6, 12, 18, 5 or 19, 16

unfoldable pub refusal_of : F.Named → List ℕ → ℕ → List ℕ → Option (Refusal ℕ)
refusal_of n tag tags raw =
    pick (F.is_named n)
    (pick (F.is_fit n tags (length raw))
    (pick (F.is_short n (length raw))
    (chars_refusal n tag tags raw)
    (refusal 18 0))
    (refusal 12 0))
    (refusal 6 0)
