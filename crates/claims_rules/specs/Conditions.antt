-- What each number of framing and judging is given for, in 01's words, a list in 01's order. It cites the registry's rules and single tests,
-- and none of the definitions whose order is compared with it: those of framing and of judging. No proofs. Assumes nothing.
use Rattle.std.specs.Prelude.{ℕ, zero, suc, ◌+◌, ◌-◌, ◌*◌, ◌/◌, ◌≤◌, ◌<◌, ◌≡◌, List, [], ◌∷◌, Bool, false, ◌⊎◌, length, drop}
use Rattle.format.specs.declared.IndexRow.{IndexRow}
use Rattle.format.specs.declared.Kind.{Kind}
use Rattle.format.specs.declared.Kind.TheVariants.{Fixed, Variable, Group, Genus, Indexed}
use Rattle.format.specs.declared.Opening.{Opening}
use Rattle.format.specs.declared.Opening.TheVariants.{Unknown, Short, Long, LargeVariable, LargeGroup, Version}
use Rattle.format.specs.Alphabet.{ordinary}
use Rattle.format.specs.Registry.{zero_bits_of, prepad_of, index_chars, opening_by, header_units, extent}
use Rattle.format.specs.Framing.{digits4, sextet}
use Rattle.format.specs.Judging.{zero_bits, prepad_right}
use Rattle.format.specs.Values.{ondex_of}
use Rattle.claims_rules.specs.Order.{Rule, ◌when◌}

-- ---- 5: "character outside the alphabet"; 19, by 02 j: one "from the ordinary alphabet". "the first bad character is reported, of
-- whichever kind"

abbrev pub Other : ℕ → Type 0
Other v = (64 ≤ v) × (v ≡ ordinary → ⊥)

abbrev pub Ordinary : ℕ → Type 0
Ordinary v = v ≡ ordinary

-- of the values from one place to before another, the first that is none of the 64 is such
abbrev pub FirstIs : (ℕ → Type 0) → (ℕ → ℕ) → ℕ → ℕ → Type 0
FirstIs Is at from to = (i : ℕ) × (from ≤ i) × (i < to) × ((j : ℕ) → from ≤ j → j < i → at j < 64) × Is (at i)

-- ---- "Framing an item: 4 (first unit), 5 (its first bad character), 6, 4 (second unit), 5, 4 (extent)." Over the sextets from the
-- item's start, with so many whole units left

abbrev pub framing_rules : Opening → (ℕ → ℕ) → ℕ → List Rule
framing_rules o at len =
    4 when (len < 1) ∷
    5 when (FirstIs Other at 0 4) ∷
    19 when (FirstIs Ordinary at 0 4) ∷
    6 when (o ≡ Unknown) ∷
    4 when (len < header_units o) ∷
    5 when (FirstIs Other at 4 (4 * header_units o)) ∷
    19 when (FirstIs Ordinary at 4 (4 * header_units o)) ∷
    4 when (len < extent o (digits4 at)) ∷
    []

-- what the item's first unit opens, by the indexed table or by the master table
abbrev pub opening_of : Bool → List ℕ → Opening
opening_of indexed s = opening_by indexed (sextet s 0) (sextet s 1) (sextet s 2) (sextet s 3)

-- the item's kind, the second unit's digits being n
abbrev pub kind_in : Opening → ℕ → Kind
kind_in Unknown n = Genus
kind_in (Short k size) n = k
kind_in (Long k size) n = k
kind_in (LargeVariable t l) n = Variable t l n
kind_in (LargeGroup l d) n = Group l
kind_in Version n = Genus

-- the item that starts the sextets s: its kind, its header in units, its full size in units
abbrev pub item_kind : Bool → List ℕ → Kind
item_kind indexed s = kind_in (opening_of indexed s) (digits4 (sextet s))

abbrev pub item_head : Bool → List ℕ → ℕ
item_head indexed s = header_units (opening_of indexed s)

abbrev pub item_size : Bool → List ℕ → ℕ
item_size indexed s = extent (opening_of indexed s) (digits4 (sextet s))

abbrev pub framing : Bool → List ℕ → List Rule
framing indexed s = framing_rules (opening_of indexed s) (sextet s) (length s / 4)

-- ---- "Judging a framed primitive: 5 behind the header, 9, 8, 10.", by 02 h 18 "before 9", by 02 c 16 "after 8". Of its own sextets and a
-- header of h units

-- 02 h: a large code "whose size fits the small code": its header is not the small one's unit, and behind it are so few
abbrev pub FitsSmall : ℕ → ℕ → Type 0
FitsSmall h units = (h ≡ 1 → ⊥) × (units < 4096)

abbrev pub LongForm : Kind → ℕ → Type 0
LongForm (Fixed c) h = ⊥
LongForm (Variable t lead n) h = FitsSmall h n
LongForm (Group letter) h = ⊥
LongForm Genus h = ⊥
LongForm (Indexed c) h = ⊥

-- "selector 5, 6, 8, 9 with n = 0"
abbrev pub Empty : Kind → Type 0
Empty (Fixed c) = ⊥
Empty (Variable t lead n) = (0 < lead) × (n ≡ 0)
Empty (Group letter) = ⊥
Empty Genus = ⊥
Empty (Indexed c) = ⊥

-- "pad bit or lead byte not zero"
abbrev pub NotZero : Kind → ℕ → List ℕ → Type 0
NotZero (Fixed c) h s = zero_bits s c.chars (zero_bits_of c) ≡ false
NotZero (Variable t lead n) h s = zero_bits s (4 * h) (8 * lead) ≡ false
NotZero (Group letter) h s = ⊥
NotZero Genus h s = ⊥
NotZero (Indexed c) h s = zero_bits s (index_chars c) c.zeros ≡ false

-- so many `A` stand in front of a value's sextets
abbrev pub StartsWith : ℕ → List ℕ → Type 0
StartsWith n v = (n ≤ length v) × ((i : ℕ) → i < n → sextet v i ≡ 0)

-- 02 c: "Selectors 4 and 7 take off one `A` if there is one, 5 and 8 exactly two, 6 and 9 exactly three.": their leads are 0, 1 and 2.
-- "a value without the full fill"
abbrev pub Unfilled : ℕ → List ℕ → Type 0
Unfilled zero v = ⊥
Unfilled (suc l) v = StartsWith (l + 2) v → ⊥

-- "A text that itself starts with `A`": one more than is taken off
abbrev pub OwnA : ℕ → List ℕ → Type 0
OwnA lead v = StartsWith (lead + 2) v

abbrev pub WrongText : ℕ → List ℕ → Type 0
WrongText lead v = Unfilled lead v ⊎ OwnA lead v

-- asked of type `A` alone
abbrev pub NotText : Kind → ℕ → List ℕ → Type 0
NotText (Fixed c) h s = ⊥
NotText (Variable t lead n) h s = (t ≡ 0) × WrongText lead (drop (4 * h) s)
NotText (Group letter) h s = ⊥
NotText Genus h s = ⊥
NotText (Indexed c) h s = ⊥

-- "tag prepad not `_`"
abbrev pub OtherPrepad : Kind → List ℕ → Type 0
OtherPrepad (Fixed c) s = prepad_right s c.chars (prepad_of c) ≡ false
OtherPrepad (Variable t lead n) s = ⊥
OtherPrepad (Group letter) s = ⊥
OtherPrepad Genus s = ⊥
OtherPrepad (Indexed c) s = ⊥

abbrev pub judging : Kind → ℕ → List ℕ → List Rule
judging k h s =
    5 when (FirstIs Other (sextet s) (4 * h) (length s)) ∷
    19 when (FirstIs Ordinary (sextet s) (4 * h) (length s)) ∷
    18 when (LongForm k h) ∷
    9 when (Empty k) ∷
    8 when (NotZero k h s) ∷
    16 when (NotText k h s) ∷
    10 when (OtherPrepad k s) ∷
    []

-- ---- 02 a, of an indexed item: 8, and 15 "judged after 8"

-- "The four "current only" codes that carry ondex digits must have them zero"
abbrev pub SetOndex : IndexRow → ℕ → Type 0
SetOndex c ondex = (c.current ≡ 0 → ⊥) × (ondex ≡ 0 → ⊥)

abbrev pub WrongOndex : Kind → List ℕ → Type 0
WrongOndex (Fixed c) s = ⊥
WrongOndex (Variable t lead n) s = ⊥
WrongOndex (Group letter) s = ⊥
WrongOndex Genus s = ⊥
WrongOndex (Indexed c) s = SetOndex c (ondex_of c s)

abbrev pub indexed_judging : Kind → ℕ → List ℕ → List Rule
indexed_judging k head s =
    5 when (FirstIs Other (sextet s) (4 * head) (length s)) ∷
    19 when (FirstIs Ordinary (sextet s) (4 * head) (length s)) ∷
    8 when (NotZero k head s) ∷
    15 when (WrongOndex k s) ∷
    []

-- ---- "Judging a group: 11, then its items one by one", and by 02 h 18 "directly after 11 .. in the walk too". A step of the walk judges of a
-- group only 11 and 18; l more groups may be entered

abbrev pub group_rules : ℕ → ℕ → List ℕ → List Rule
group_rules l h s =
    11 when (l ≡ 0) ∷
    18 when (FitsSmall h (length s / 4 - h)) ∷
    []

abbrev pub own_rules : ℕ → Kind → ℕ → List ℕ → List Rule
own_rules l (Fixed c) h s = judging (Fixed c) h s
own_rules l (Variable t lead n) h s = judging (Variable t lead n) h s
own_rules l (Group letter) h s = group_rules l h s
own_rules l Genus h s = []
own_rules l (Indexed c) h s = indexed_judging (Indexed c) h s
