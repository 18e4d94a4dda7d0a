-- 02 f: what the units of a header decide, before the item's own units have come. Over units of four sextets, so one rule for text and
-- binary. Assumes nothing.
use Rattle.std.specs.Prelude.{ℕ, zero, suc, ◌+◌, ◌-◌, ◌*◌, List, [], Bool, true, false, get_or, ltb, leb, eqb}
use Rattle.base.specs.Pick.{pick}
use Rattle.format.specs.declared.CodeRow.{CodeRow}
use Rattle.format.specs.declared.IndexRow.{IndexRow}
use Rattle.format.specs.declared.Kind.{Kind}
use Rattle.format.specs.declared.Kind.TheVariants.{Fixed, Variable, Group, Genus, Indexed}
use Rattle.format.specs.declared.Framed.{Framed}
use Rattle.format.specs.declared.Verdict.{Verdict}
use Rattle.format.specs.declared.Verdict.TheVariants.{Accepted, Refused}
use Rattle.format.specs.Registry.{opening_by, header_units, zero_bits_of, prepad_of, index_chars, is_text}
use Rattle.format.specs.Framing.{sextet, frame_with, ruled}
use Rattle.format.specs.Judging.{is_shortest, has_lead, zero_bits, prepad_right, ondex_right, max_depth}
use Rattle.format.specs.Texts.{text_right}
use Rattle.format.specs.Values.{ondex_of}
use Rattle.walk_state.specs.declared.Walk.{Walk}

-- ---- framing

-- no header says more units than this: two, and five digits
abbrev pub endless : ℕ
endless = 1073741826

-- units to the innermost end; at top level the end is not known yet, and 4 is given when it is told
unfoldable pub room_of : Walk → ℕ
room_of w = pick (eqb w.depth 0) endless (get_or w.ends (w.depth - 1) 0 - w.at)

unfoldable pub all_known : List ℕ → Bool
all_known q =
    pick (ltb (sextet q 0) 64) (pick (ltb (sextet q 1) 64) (pick (ltb (sextet q 2) 64) (ltb (sextet q 3) 64) false) false) false

-- an item that opens with the unit q, by the table that is asked, with so many units to the enclosing end, has a second header unit
unfoldable pub is_long : Bool → List ℕ → ℕ → Bool
is_long indexed q room =
    pick (ltb 1 room)
    (pick (all_known q) (eqb (header_units (opening_by indexed (sextet q 0) (sextet q 1) (sextet q 2) (sextet q 3))) 2) false) false

-- 7 is asked at top level, and where the first-item mark is set
unfoldable pub asks7 : Walk → Bool
asks7 w = pick (eqb w.depth 0) true w.first

-- framing by a header's sextets
unfoldable pub framed_by : Walk → List ℕ → Framed
framed_by w cs =
    let r : Framed = frame_with (opening_by w.indexed) (sextet cs) (room_of w) in
    pick (asks7 w) (ruled (sextet cs) r) r

-- ---- judging: a refusal by its number and place; 0 is none

unfoldable pub verdict_of : ℕ → ℕ → Verdict
verdict_of zero place = Accepted
verdict_of (suc n) place = Refused (suc n) place

-- what a header of h units, of n in all, decides of a group that stands within so many: 11, 18
unfoldable pub group_number : Kind → ℕ → ℕ → ℕ → ℕ
group_number (Fixed c) depth h n = 0
group_number (Variable t lead count) depth h n = 0
group_number (Group letter) depth h n = pick (leb max_depth depth) 11 (pick (is_shortest h (n - h)) 0 18)
group_number Genus depth h n = 0
group_number (Indexed c) depth h n = 0

-- and of a primitive whose characters are known: 8, 10; 18, 9; 8, 15
unfoldable pub head_number : Kind → ℕ → List ℕ → ℕ
head_number (Fixed c) h cs = pick (zero_bits cs c.chars (zero_bits_of c)) (pick (prepad_right cs c.chars (prepad_of c)) 0 10) 8
head_number (Variable t lead count) h cs = pick (is_shortest h count) (pick (has_lead lead count) 0 9) 18
head_number (Group letter) h cs = 0
head_number Genus h cs = 0
head_number (Indexed c) h cs = pick (zero_bits cs (index_chars c) c.zeros) (pick (ondex_right c (ondex_of c cs)) 0 15) 8

-- what is left to ask of the first unit behind the header
unfoldable pub lead_of : Kind → ℕ
lead_of (Fixed c) = 0
lead_of (Variable t lead count) = lead
lead_of (Group letter) = 0
lead_of Genus = 0
lead_of (Indexed c) = 0

unfoldable pub opens_text : Kind → Bool
opens_text (Fixed c) = false
opens_text (Variable t lead count) = is_text t
opens_text (Group letter) = false
opens_text Genus = false
opens_text (Indexed c) = false

-- 8, 16 by that unit, where the header gave no number
unfoldable pub value_number : ℕ → ℕ → Bool → List ℕ → ℕ
value_number number lead text q =
    pick (eqb number 0) (pick (zero_bits q 0 (8 * lead)) (pick text (pick (text_right lead q) 0 16) 0) 8) number
