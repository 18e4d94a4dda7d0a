-- 02 e, "Writing groups": "Given a group letter, the form (text or binary) and a lent buffer that holds whole items, put the group header in
-- front and hand back the size; take the small code up to 4,095 units and the large one above. The body lies at the buffer's start." One
-- definition for both forms. Assumes nothing.
use Rattle.std.specs.Prelude.{ℕ, ◌+◌, ◌*◌, ◌/◌, ◌%◌, List, ◌∷◌, ◌++◌, map, ltb, leb, eqb, length, take, drop}
use Rattle.base.specs.Pick.{pick}
use Rattle.base.specs.Digits.{digits_of}
use Rattle.format.specs.declared.Form.{Form}
use Rattle.format.specs.declared.Form.TheVariants.{Text, Binary}
use Rattle.format.specs.declared.Kind.TheVariants.{Group}
use Rattle.format.specs.Alphabet.{sextet_of, char_of}
use Rattle.format.specs.Units.{Domain, domain}
use Rattle.format.specs.Offsets.{text_offset, binary_offset}
use Rattle.format.specs.Registry.{is_group}
use Rattle.format.specs.Values.{bytes_in}
use Rattle.walk_state.specs.declared.Walk.{Walk}
use Rattle.walk_state.specs.Walking.{start, next_of}
use Rattle.instalments.specs.declared.Pause.{Pause}
use Rattle.instalments.specs.declared.Pause.TheVariants as P
use Rattle.instalments.specs.Instalments.{walk_on}
use Rattle.std.specs.Prelude.{Ok, Err, Result}
use Rattle.format.specs.declared.Refusal.{Refusal}
use Rattle.format.specs.Refusals.{refused_by}
use Rattle.format.specs.declared.TextOffset.{TextOffset}
use Rattle.format.specs.declared.BinaryOffset.{BinaryOffset}

-- ---- a group: its header and its body. The letter is a sextet, and 62 is `-`

-- "the small code up to 4,095 units and the large one above"
unfoldable pub head_units : ℕ → ℕ
head_units n = pick (leb n 4095) 1 2

-- `-`, letter, 2 digits n; `--`, letter, 5 digits n
unfoldable pub head_sextets : ℕ → ℕ → List ℕ
head_sextets l n = pick (leb n 4095) (62 ∷ l ∷ digits_of 64 2 n) (62 ∷ 62 ∷ l ∷ digits_of 64 5 n)

-- whole units of sextets in a form's elements
unfoldable pub spelled : Form → List ℕ → List ℕ
spelled Text s = map char_of s
spelled Binary s = bytes_in s

-- "put the group header in front"
unfoldable pub group_of : Form → ℕ → List ℕ → List ℕ
group_of f l body = spelled f (head_sextets l (length body / (domain f).unit)) ++ body

-- the elements of header and body
unfoldable pub group_size : Domain → ℕ → ℕ
group_size d len = head_units (len / d.unit) * d.unit + len

-- ---- "a walk of the body as this group's contents"

-- the state within a group of this letter around n units, with no header before them: "places counted from the body's start"
unfoldable pub within : ℕ → ℕ → Walk
within l n = next_of start (Group l) 0 n

-- where it stops: each item takes a unit at least, so that this budget is never used up
unfoldable pub body_walk : Domain → ℕ → List ℕ → Pause ℕ
body_walk d l body = (walk_on d body (length body / d.unit + 1) (within l (length body / d.unit))).pause

-- ---- the call: "3 first if its stated length passes the buffer's, 1 when header and body together pass the limit, 6, 2 for a body that
-- isn't whole units, then the number and place that a walk of the body as this group's contents gives .. then 3. The places of the writer's
-- own 1, 6, 2 and 3 are 0"

-- behind the walk: room for so many elements
unfoldable pub room_for : Pause ℕ → ℕ → ℕ → Result ℕ (Refusal ℕ)
room_for P.End size room = pick (ltb room size) (refused_by 3 0) (Ok size)
room_for (P.Refused m p) size room = refused_by m p
room_for P.Spent size room = refused_by 13 0  -- never

-- letter: a character; len: the body's stated length
unfoldable pub grouped : Form → ℕ → ℕ → List ℕ → Result ℕ (Refusal ℕ)
grouped f letter len buf =
    let d : Domain = domain f in
    pick (ltb (length buf) len) (refused_by 3 0)
    (pick (ltb d.limit (group_size d len)) (refused_by 1 0)
    (pick (is_group (sextet_of letter))
    (pick (eqb (len % d.unit) 0)
    (room_for (body_walk d (sextet_of letter) (take len buf)) (group_size d len) (length buf))
    (refused_by 2 0))
    (refused_by 6 0)))

-- what a buffer that held buf holds afterwards
unfoldable pub group_left : Result ℕ (Refusal ℕ) → Form → ℕ → ℕ → List ℕ → List ℕ
group_left (Ok n) f letter len buf = group_of f (sextet_of letter) (take len buf) ++ drop n buf
group_left (Err e) f letter len buf = buf

-- ---- in a form's own offsets

unfoldable pub text_grouped : Result ℕ (Refusal ℕ) → Result TextOffset (Refusal TextOffset)
text_grouped (Ok n) = Ok (text_offset n)
text_grouped (Err e) = refused_by e.number (text_offset e.place)

unfoldable pub binary_grouped : Result ℕ (Refusal ℕ) → Result BinaryOffset (Refusal BinaryOffset)
binary_grouped (Ok n) = Ok (binary_offset n)
binary_grouped (Err e) = refused_by e.number (binary_offset e.place)
