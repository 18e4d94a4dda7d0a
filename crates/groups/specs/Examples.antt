-- 02 e: calls that write a group, with what they answer and what the buffer holds afterwards, as one table under a single claim; and headers.
-- Text is written by its characters' numbers; a buffer holds nines behind the body. What is expected is 02's word; of 11 see groups_nested.
-- Assumes nothing.
use Rattle.std.specs.Prelude.{ℕ, ◌≤◌, ◌≡◌, refl, List, [], ◌∷◌, ◌++◌, length, replicate}
use Rattle.std.proofs.Common.{arith, le-ltb}
use Rattle.format.specs.declared.Form.{Form}
use Rattle.format.specs.declared.Form.TheVariants.{Text, Binary}
use Rattle.format.specs.Units.{domain}
use Rattle.format.specs.Alphabet.{sextet_of}
use Rattle.format.specs.Registry.{is_group}
use Rattle.format.specs.Conversion.{to_binary}
use Rattle.walk_deck.specs.Deck.{stepped}
use Rattle.instalments.specs.Instalments.{unspent, walk_on}
use Rattle.groups.specs.Grouping.{head_units, head_sextets, spelled, group_of, group_size, within, body_walk, room_for, grouped, group_left}
use Rattle.std.specs.Prelude.{Ok, Result}
use Rattle.format.specs.declared.Refusal.{Refusal}
use Rattle.format.specs.Refusals.{refused_by}

infixr 5 ◌&◌
-- ---- a call and what is expected of it

pub data Expected : Type 0 where
  written : ℕ → List ℕ → Expected  -- the size, the buffer
  refused : ℕ → ℕ → Expected  -- number, place; the buffer stays

pub record Asked : Type 0 where
  pub form : Form
  pub letter : ℕ
  pub len : ℕ
  pub buf : List ℕ
  pub gives : Expected

-- in text: a body, and what stands behind it in the buffer
abbrev pub text : ℕ → List ℕ → List ℕ → Expected → Asked
text letter body more e = record { form = Text; letter = letter; len = length body; buf = body ++ more; gives = e }

-- the same in binary
abbrev binary : ℕ → List ℕ → List ℕ → Expected → Asked
binary letter body more e = record { form = Binary; letter = letter; len = length body; buf = body ++ more; gives = e }

-- with another length stated than the body has
abbrev stated : ℕ → ℕ → List ℕ → Expected → Asked
stated letter len buf e = record { form = Text; letter = letter; len = len; buf = buf; gives = e }

-- so many `A`, and so many nines
abbrev filler : ℕ → List ℕ
filler n = replicate n 65

abbrev pub nines : ℕ → List ℕ
nines n = replicate n 9

-- `MAAB`, and `ABA..`, an indexed signature of 88 characters
abbrev primitive : List ℕ
primitive = 77 ∷ 65 ∷ 65 ∷ 66 ∷ []

abbrev signature : List ℕ
signature = 65 ∷ 66 ∷ filler 86

-- ---- the table

unfoldable pub calls : List Asked
calls =
    -- "put the group header in front and hand back the size"
    text 65 primitive (nines 4) (written 8 (45 ∷ 65 ∷ 65 ∷ 66 ∷ primitive)) ∷  -- `-AABMAAB`, exact room
    text 65 primitive (nines 6) (written 8 (45 ∷ 65 ∷ 65 ∷ 66 ∷ 77 ∷ 65 ∷ 65 ∷ 66 ∷ 9 ∷ 9 ∷ [])) ∷  -- what stands behind the group stays
    binary 65 (48 ∷ 0 ∷ 1 ∷ []) (nines 4) (written 6 (248 ∷ 0 ∷ 1 ∷ 48 ∷ 0 ∷ 1 ∷ 9 ∷ [])) ∷  -- in B
    text 68 (45 ∷ 65 ∷ 65 ∷ 66 ∷ primitive) (nines 4) (written 12 (45 ∷ 68 ∷ 65 ∷ 67 ∷ 45 ∷ 65 ∷ 65 ∷ 66 ∷ primitive)) ∷  -- `-DAC-AABMAAB`
    text 65 [] (nines 4) (written 4 (45 ∷ 65 ∷ 65 ∷ 65 ∷ [])) ∷  -- `-AAA`: an empty body
    text 75 [] (nines 4) (written 4 (45 ∷ 75 ∷ 65 ∷ 65 ∷ [])) ∷  -- `-KAA`
    binary 65 [] (nines 3) (written 3 (248 ∷ 0 ∷ 0 ∷ [])) ∷  -- in B
    text 99 primitive (nines 4) (written 8 (45 ∷ 99 ∷ 65 ∷ 66 ∷ primitive)) ∷  -- `c`, the last letter
    -- "3 first if its stated length passes the buffer's", then 6
    stated 100 5 primitive (refused 3 0) ∷
    stated 65 4194305 primitive (refused 3 0) ∷  -- then 1
    -- 6, then 2
    text 100 (77 ∷ 33 ∷ 65 ∷ []) [] (refused 6 0) ∷  -- `d`
    text 48 primitive (nines 4) (refused 6 0) ∷  -- `0`
    text 45 primitive (nines 4) (refused 6 0) ∷  -- `-`
    text 95 primitive (nines 4) (refused 6 0) ∷  -- `_`
    text 61 primitive (nines 4) (refused 6 0) ∷  -- `=`
    text 10 primitive (nines 4) (refused 6 0) ∷  -- the number that `K` stands for is no letter
    binary 100 (48 ∷ 0 ∷ []) [] (refused 6 0) ∷  -- in B
    -- "2 for a body that isn't whole units", then what its walk gives
    text 65 (33 ∷ 65 ∷ 65 ∷ 66 ∷ 77 ∷ []) [] (refused 2 0) ∷
    binary 65 (252 ∷ 0 ∷ 1 ∷ 48 ∷ []) [] (refused 2 0) ∷  -- in B
    -- "then the number and place that a walk of the body as this group's contents gives, places counted from the body's start", then 3
    text 65 (77 ∷ 65 ∷ 65 ∷ 66 ∷ 77 ∷ 33 ∷ 65 ∷ 66 ∷ []) [] (refused 5 5) ∷  -- `MAABM!AB`
    text 65 (77 ∷ 65 ∷ 65 ∷ 66 ∷ 77 ∷ 65 ∷ 65 ∷ 61 ∷ []) [] (refused 19 7) ∷  -- `MAABMAA=`
    text 65 (77 ∷ 65 ∷ 65 ∷ 66 ∷ 95 ∷ 65 ∷ 65 ∷ 66 ∷ []) [] (refused 6 4) ∷  -- `MAAB_AAB`: "a 6 from the walk keeps the walk's place"
    text 65 (77 ∷ 81 ∷ 65 ∷ 65 ∷ []) [] (refused 8 0) ∷  -- `MQAA`
    binary 65 (48 ∷ 0 ∷ 1 ∷ 49 ∷ 0 ∷ 0 ∷ []) [] (refused 8 3) ∷  -- `MAABMQAA` in B
    text 65 (69 ∷ filler 3) (filler 40) (refused 4 0) ∷  -- `EAAA`, though 40 `A` stand behind the body
    text 67 (45 ∷ 95 ∷ 65 ∷ 65 ∷ 65 ∷ 66 ∷ 65 ∷ 65 ∷ []) (nines 4) (refused 7 0) ∷  -- `-_AAABAA`, first in a `-C`
    text 68 (45 ∷ 95 ∷ 65 ∷ 65 ∷ 65 ∷ 66 ∷ 65 ∷ 65 ∷ []) (nines 4) (written 12 (45 ∷ 68 ∷ 65 ∷ 67 ∷ 45 ∷ 95 ∷ 65 ∷ 65 ∷ 65 ∷ 66 ∷ 65 ∷ 65 ∷ [])) ∷  -- and in a `-D`
    text 65 (45 ∷ 45 ∷ 65 ∷ 65 ∷ 65 ∷ 65 ∷ 65 ∷ 65 ∷ []) (nines 4) (refused 18 0) ∷  -- `--AAAAAA`
    -- a `-K` or `-L`: its items are indexed ones
    text 75 (signature ++ signature) (nines 4) (written 180 (45 ∷ 75 ∷ 65 ∷ 115 ∷ (signature ++ signature))) ∷  -- `-KAs`
    binary 76 (to_binary signature) (nines 3) (written 69 (248 ∷ 176 ∷ 22 ∷ to_binary signature)) ∷  -- `-LAW` in B
    text 75 (signature ++ primitive) (nines 4) (refused 6 88) ∷  -- any other start is 6
    text 75 (45 ∷ 65 ∷ 65 ∷ 65 ∷ []) (nines 4) (refused 6 0) ∷  -- `-AAA`
    text 75 (65 ∷ 66 ∷ 69 ∷ filler 85) (nines 4) (refused 8 0) ∷  -- `ABEA..`: pad bits
    text 66 (65 ∷ 66 ∷ 69 ∷ filler 85) (nines 4) (written 92 (45 ∷ 66 ∷ 65 ∷ 87 ∷ 65 ∷ 66 ∷ 69 ∷ filler 85)) ∷  -- in a `-B` they are two primitives
    -- "then 3"
    text 65 primitive (nines 3) (refused 3 0) ∷
    text 65 [] (nines 3) (refused 3 0) ∷
    binary 65 (48 ∷ 0 ∷ 1 ∷ []) (nines 2) (refused 3 0) ∷  -- in B
    []

-- ---- what it means

pub record Called : Type 0 where
  pub answer : Result ℕ (Refusal ℕ)
  pub left : List ℕ

abbrev expected : Expected → List ℕ → Called
expected (written n left) buf = record { answer = Ok n; left = left }
expected (refused m p) buf = record { answer = refused_by m p; left = buf }

-- what the definition gives; to compute it is to open all of it
unfoldable pub called : Form → ℕ → ℕ → List ℕ → Called
unfolding stepped unspent walk_on head_units head_sextets spelled group_of group_size within body_walk room_for grouped group_left
called f letter len buf = let a : Result ℕ (Refusal ℕ) = grouped f letter len buf in record { answer = a; left = group_left a f letter len buf }

-- each call is so
pub data Calls : List Asked → Type 0 where
  end : Calls []
  ◌&◌ : {a : Asked} {more : List Asked} → called a.form a.letter a.len a.buf ≡ expected a.gives a.buf → Calls more
      → Calls (a ∷ more)

-- ---- the claims

pub calls-hold : Calls calls
unfolding called calls
calls-hold =
    refl & refl & refl & refl & refl & refl & refl & refl & refl & refl & refl & refl & refl & refl & refl & refl &
    refl & refl & refl & refl & refl & refl & refl & refl & refl & refl & refl & refl & refl & refl & refl & refl &
    refl & refl & refl & refl & refl & end

-- "1 when header and body together pass the limit", then 6: whatever the buffer holds, `d` and the longest body, and one element more
pub limits-hold : (buf : List ℕ) → 4194304 ≤ length buf
    → (grouped Text 100 4194296 buf ≡ refused_by 6 0) × (grouped Text 100 4194297 buf ≡ refused_by 1 0)
    × (grouped Binary 100 3145722 buf ≡ refused_by 6 0) × (grouped Binary 100 3145723 buf ≡ refused_by 1 0)
unfolding head_units group_size grouped is_group sextet_of
limits-hold buf h = (
  rw (le-ltb (length buf) 4194296 (omega arith)),
  rw (le-ltb (length buf) 4194297 (omega arith)),
  rw (le-ltb (length buf) 3145722 (omega arith)),
  rw (le-ltb (length buf) 3145723 (omega arith)),
)

-- "the small code up to 4,095 units and the large one above": `-A__`, `--AAABAA`, and `--cAD__-`, the most that a text has room for
pub heads-hold : (head_sextets 0 4095 ≡ 62 ∷ 0 ∷ 63 ∷ 63 ∷ [])
    × (head_sextets 0 4096 ≡ 62 ∷ 62 ∷ 0 ∷ 0 ∷ 0 ∷ 1 ∷ 0 ∷ 0 ∷ [])
    × (head_sextets 28 1048574 ≡ 62 ∷ 62 ∷ 28 ∷ 0 ∷ 3 ∷ 63 ∷ 63 ∷ 62 ∷ [])
unfolding head_sextets
heads-hold = (refl, refl, refl)

pub sizes-hold : (group_size (domain Text) 16380 ≡ 16384) × (group_size (domain Text) 16384 ≡ 16392)
    × (group_size (domain Binary) 12285 ≡ 12288) × (group_size (domain Binary) 12288 ≡ 12294)
unfolding head_units group_size
sizes-hold = (refl, refl, refl, refl)
