-- 02 h, "Only the short form": what a large code holds at least. Streams that count 4,096 units and one less, in the deck's own form and in
-- text (in binary it is the same: demand 2), and the numbers of a reader and a writer there; 02 c's texts under a large code, and 02 a's
-- large groups of indexed items. What is expected is 02's word, and 01's on large codes. Text is written by its characters' numbers.
-- Assumes nothing.
use Rattle.std.specs.Prelude.{ℕ, ◌+◌, ◌-◌, ◌*◌, ◌≡◌, refl, List, [], ◌∷◌, replicate}
use Rattle.format.specs.declared.Kind.TheVariants.{Variable}
use Rattle.format.specs.Units.{text}
use Rattle.format.specs.Values.{raw_start}
use Rattle.format.specs.Writing.{variable_header}
use Rattle.format.specs.Deck.{example, given, Gives}
use Rattle.format.specs.Deck.Expected.{accepted, refused}

-- so many units `AAAA`
abbrev zeros : ℕ → List ℕ
zeros n = replicate (4 * n) 65

-- where the raw value of so many units starts behind a header of two and a lead, and how many bytes it has
abbrev raws : ℕ → ℕ → ℕ × ℕ
raws lead n = (raw_start (Variable 1 lead n) 2, 3 * (2 + n) - raw_start (Variable 1 lead n) 2)

pub record LargeHolds : Type 0 where
  -- "`--AAABAA` with its 4,096 units still passes": `4B__` and 4,095 units, one item
  pub group-passes : Gives text (λ s. s) (example (45 ∷ 45 ∷ 65 ∷ 65 ∷ 65 ∷ 66 ∷ 65 ∷ 65 ∷ 52 ∷ 66 ∷ 95 ∷ 95 ∷ zeros 4095) accepted)
  -- "A large group below 4,096 units is thus 18": `--AAAA__`, whose one item would pass
  pub group-below : Gives text (λ s. s) (example (45 ∷ 45 ∷ 65 ∷ 65 ∷ 65 ∷ 65 ∷ 95 ∷ 95 ∷ 52 ∷ 66 ∷ 95 ∷ 45 ∷ zeros 4094) (refused 18 0))
  -- `7AABAA__`: 12,285 raw bytes, which the small code holds
  pub variable-below : Gives text (λ s. s) (example (55 ∷ 65 ∷ 65 ∷ 66 ∷ 65 ∷ 65 ∷ 95 ∷ 95 ∷ zeros 4095) (refused 18 0))
  -- `9AABABAA`: 12,286
  pub variable-passes : Gives text (λ s. s) (example (57 ∷ 65 ∷ 65 ∷ 66 ∷ 65 ∷ 66 ∷ 65 ∷ 65 ∷ zeros 4096) accepted)
  -- `9AABABAAAAEA`: the second lead byte, of a large one
  pub lead-byte : Gives text (λ s. s) (example (57 ∷ 65 ∷ 65 ∷ 66 ∷ 65 ∷ 66 ∷ 65 ∷ 65 ∷ 65 ∷ 65 ∷ 69 ∷ 65 ∷ zeros 4095) (refused 8 0))
  -- 02 c: `7AAAABAAB`: "7 .. take off one `A` if there is one", and here is none
  pub text-passes : Gives text (λ s. s) (example (55 ∷ 65 ∷ 65 ∷ 65 ∷ 65 ∷ 66 ∷ 65 ∷ 65 ∷ 66 ∷ 65 ∷ 65 ∷ 65 ∷ zeros 4095) accepted)
  -- `7AAAABAAAA`: the text starts with `A`
  pub text-from-a : Gives text (λ s. s) (example (55 ∷ 65 ∷ 65 ∷ 65 ∷ 65 ∷ 66 ∷ 65 ∷ 65 ∷ zeros 4096) (refused 16 0))
  -- `9AAAABAAAAAB`: "6 and 9 exactly three"
  pub text-filled : Gives text (λ s. s) (example (57 ∷ 65 ∷ 65 ∷ 65 ∷ 65 ∷ 66 ∷ 65 ∷ 65 ∷ 65 ∷ 65 ∷ 65 ∷ 66 ∷ zeros 4095) accepted)
  -- `8AAAABAAAAAB`: and not two
  pub text-not-filled : Gives text (λ s. s) (example (56 ∷ 65 ∷ 65 ∷ 65 ∷ 65 ∷ 66 ∷ 65 ∷ 65 ∷ 65 ∷ 65 ∷ 65 ∷ 66 ∷ zeros 4095) (refused 16 0))
  -- `--AAABAA-_AAABAA`: the first item of an `-A` group, "large too"
  pub first-item : Gives text (λ s. s) (example (45 ∷ 45 ∷ 65 ∷ 65 ∷ 65 ∷ 66 ∷ 65 ∷ 65 ∷ 45 ∷ 95 ∷ 65 ∷ 65 ∷ 65 ∷ 66 ∷ 65 ∷ 65 ∷ 52 ∷ 66 ∷ 95 ∷ 57 ∷ zeros 4093) (refused 7 8))
  -- `--LAABAS`: 187 indexed items, "large too"
  pub indexed-passes : Gives text (λ s. s) (example (45 ∷ 45 ∷ 76 ∷ 65 ∷ 65 ∷ 66 ∷ 65 ∷ 83 ∷ zeros 4114) accepted)
  -- `--KAABAAEAAA`: a start of the master table alone
  pub indexed-only : Gives text (λ s. s) (example (45 ∷ 45 ∷ 75 ∷ 65 ∷ 65 ∷ 66 ∷ 65 ∷ 65 ∷ 69 ∷ 65 ∷ 65 ∷ 65 ∷ zeros 4095) (refused 6 8))
  -- "A variable value opens with its 0, 1 or 2 zero lead bytes; the rest is raw"
  pub starts : (raws 0 4096 ≡ (6, 12288)) × (raws 1 4096 ≡ (7, 12287)) × (raws 2 4096 ≡ (8, 12286))
  -- a large header in B, `8AAHABAA`
  pub header : variable_header 7 2 1 4096 ≡ 240 ∷ 0 ∷ 7 ∷ 0 ∷ 16 ∷ 0 ∷ []

pub large-holds : LargeHolds
unfolding given variable_header
large-holds = record {
  group-passes = refl;
  group-below = refl;
  variable-below = refl;
  variable-passes = refl;
  lead-byte = refl;
  text-passes = refl;
  text-from-a = refl;
  text-filled = refl;
  text-not-filled = refl;
  first-item = refl;
  indexed-passes = refl;
  indexed-only = refl;
  starts = (refl, refl, refl);
  header = refl;
}
