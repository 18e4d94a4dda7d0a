-- 01, "Judging a framed primitive: 5 behind the header, 9, 8, 10. Judging a group: 11, then its items one by one, each framed
-- (an inner 7 next), then judged; the first refusal stands, with number and place." 02 h: 18 "judged directly after 11 for groups, in the
-- walk too, and before 9 for primitives". 02 j: 19 where 5 stands. 02 c: 16 "Judged after 8". 02 a: the items of `-K` and `-L` are indexed
-- ones, of which 15 is "judged after 8". Over an item's own sextets; places in sextets from its start. Assumes nothing.
use Rattle.std.specs.Prelude.{ℕ, zero, suc, ◌+◌, ◌-◌, ◌*◌, ◌/◌, ◌^◌, List, [], ◌∷◌, Bool, true, false, length, get_or, drop, ltb, leb, eqb}
use Rattle.base.specs.Pick.{pick}
use Rattle.format.specs.declared.CodeRow.{CodeRow}
use Rattle.format.specs.declared.IndexRow.{IndexRow}
use Rattle.format.specs.declared.Kind.{Kind}
use Rattle.format.specs.declared.Kind.TheVariants.{Fixed, Variable, Group, Genus, Indexed}
use Rattle.format.specs.declared.Framed.{Framed}
use Rattle.format.specs.declared.Framed.TheVariants.{Item, Unframed}
use Rattle.format.specs.declared.Verdict.{Verdict}
use Rattle.format.specs.declared.Verdict.TheVariants.{Accepted, Refused}
use Rattle.format.specs.Alphabet.{stranger_number}
use Rattle.format.specs.Registry.{is_indexed, is_overrideable, zero_bits_of, prepad_of, index_chars}
use Rattle.format.specs.Framing.{frame_by, frame_next, scale, sextet}
use Rattle.format.specs.Texts.{value_right}
use Rattle.format.specs.Values.{ondex_of}
use Rattle.format.specs.Cutting.{Cut, cut_by, cut}
use Rattle.format.specs.Cutting.Cut.{done, stopped, item}

-- ---- verdicts

-- the place counted on from o
unfoldable pub shift : ℕ → Verdict → Verdict
shift o Accepted = Accepted
shift o (Refused n p) = Refused n (o + p)

-- the first refusal stands
unfoldable pub and_then : Verdict → Verdict → Verdict
and_then Accepted v = v
and_then (Refused n p) v = Refused n p

-- refused with a number at the item's start, unless the test passes
unfoldable pub unless : ℕ → Bool → Verdict
unless n true = Accepted
unless n false = Refused n 0

-- ---- 02 h: only the short form

-- 18: "Large variable codes and large groups whose size fits the small code": its two digits count up to 4,095 units. h: the header's units
unfoldable pub is_shortest : ℕ → ℕ → Bool
is_shortest h count = pick (eqb h 1) true (leb 4096 count)

-- ---- primitives

-- 5 or 19: the first character outside the alphabet
unfoldable pub scan : List ℕ → Verdict
scan [] = Accepted
scan (x ∷ xs) = pick (ltb x 64) (shift 1 (scan xs)) (Refused (stranger_number x) 0)

-- 5 or 19 behind a header of h units
unfoldable pub behind : ℕ → List ℕ → Verdict
behind h s = shift (4 * h) (scan (drop (4 * h) s))

-- 9: selector 5, 6, 8, 9 with n = 0
unfoldable pub has_lead : ℕ → ℕ → Bool
has_lead lead count = pick (ltb 0 lead) (ltb 0 count) true

-- 8: the first z bits, of 18 at most, from sextet i on are zero
unfoldable pub zero_bits : List ℕ → ℕ → ℕ → Bool
zero_bits s i z = eqb (((sextet s i * 64 + sextet s (i + 1)) * 64 + sextet s (i + 2)) / 2 ^ (18 - z)) 0

-- 10: tag prepad `_`
unfoldable pub prepad_right : List ℕ → ℕ → ℕ → Bool
prepad_right s i prepad = pick (eqb prepad 0) true (eqb (sextet s i) 63)

-- 15: "The four "current only" codes that carry ondex digits must have them zero"
unfoldable pub ondex_right : IndexRow → ℕ → Bool
ondex_right c ondex = pick (eqb c.current 0) true (eqb ondex 0)

-- ---- items

-- an item of a kind, with a header of h units; a group by inner (its letter, h, what is behind the header)
unfoldable pub judge_kind : Kind → ℕ → List ℕ → (ℕ → ℕ → List ℕ → Verdict) → Verdict
judge_kind (Fixed c) h s inner =
    and_then (behind h s) (and_then (unless 8 (zero_bits s c.chars (zero_bits_of c))) (unless 10 (prepad_right s c.chars (prepad_of c))))
judge_kind (Variable t lead count) h s inner =
    and_then (behind h s)
    (and_then (unless 18 (is_shortest h count))
    (and_then (unless 9 (has_lead lead count))
    (and_then (unless 8 (zero_bits s (4 * h) (8 * lead))) (unless 16 (value_right t lead (drop (4 * h) s))))))
judge_kind (Group letter) h s inner = inner letter h (drop (4 * h) s)
judge_kind Genus h s inner = Accepted
judge_kind (Indexed c) h s inner =
    and_then (behind h s) (and_then (unless 8 (zero_bits s (index_chars c) c.zeros)) (unless 15 (ondex_right c (ondex_of c s))))

unfoldable pub judge_by : Framed → List ℕ → (ℕ → ℕ → List ℕ → Verdict) → Verdict
judge_by (Item k h n) s inner = judge_kind k h s inner
judge_by (Unframed n p) s inner = Refused n p

-- ---- groups

-- items one by one, each framed and then judged by j
unfoldable pub in_turn : (List ℕ → Verdict) → Cut → Verdict
in_turn j done = Accepted
in_turn j (stopped n p r) = Refused n p
in_turn j (item i c) = and_then (j i) (shift (length i) (in_turn j c))

-- sizes in sextets, by the table that is asked
unfoldable pub frame4 : Bool → List ℕ → Framed
frame4 indexed s = scale 4 (frame_by indexed s)

unfoldable pub frame_next4 : Bool → Bool → List ℕ → Framed
frame_next4 indexed first s = scale 4 (frame_next indexed first s)

-- a group's contents, indexed or not: 7 is asked of the first item of an overrideable one
unfoldable pub contents : Bool → Bool → List ℕ → Cut
contents indexed first [] = done
contents indexed first (x ∷ s) = cut_by (frame_next4 indexed first (x ∷ s)) (x ∷ s) (cut (frame4 indexed))

-- a group's own check, where l more may be entered: 11, 18. The walk makes this one alone
unfoldable pub own_check : ℕ → ℕ → ℕ → List ℕ → Verdict
own_check zero letter h ys = Refused 11 0
own_check (suc l) letter h ys = unless 18 (is_shortest h (length ys / 4))

-- a group: its own check, then its items one by one
unfoldable pub group : ℕ → ℕ → ℕ → List ℕ → Verdict
group zero letter h ys = own_check zero letter h ys
group (suc l) letter h ys =
    and_then (own_check (suc l) letter h ys)
    (shift (4 * h)
    (in_turn (λ zs. judge_by (frame_by (is_indexed letter) zs) zs (λ letter' h' ws. group l letter' h' ws))
    (contents (is_indexed letter) (is_overrideable letter) ys)))

-- an item's own sextets, by the table that is asked, where l groups may be entered
unfoldable pub judge_with : Bool → ℕ → List ℕ → Verdict
judge_with indexed l s = judge_by (frame_by indexed s) s (group l)

-- at top level
abbrev pub judge : ℕ → List ℕ → Verdict
judge l s = judge_with false l s

-- 11: 01's "group standing within 16 groups already", with 02 g: "Raise the limit from 16 to 64"
abbrev pub max_depth : ℕ
max_depth = 64
