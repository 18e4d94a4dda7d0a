-- 01, "Framing an item: 4 (first unit), 5 (its first bad character), 6, 4 (second unit), 5, 4 (extent)", and by
-- 02 j 19 where 5 stands, "the first bad character is reported, of whichever kind". One rule for both forms and, by 02 a, for both tables,
-- over the first eight sextets from the item's start, `at 0` to `at 7`, and the number of whole units that are left to the enclosing end. Sizes in units, places in sextets from the item's start. Assumes nothing.
use Rattle.std.specs.Prelude.{ℕ, ◌+◌, ◌-◌, ◌*◌, ◌/◌, List, Bool, true, false, length, get_or, ltb, eqb}
use Rattle.base.specs.Pick.{pick}
use Rattle.format.specs.declared.CodeRow.{CodeRow}
use Rattle.format.specs.declared.Kind.{Kind}
use Rattle.format.specs.declared.Kind.TheVariants.{Fixed, Variable, Group, Genus, Indexed}
use Rattle.format.specs.declared.Opening.{Opening}
use Rattle.format.specs.declared.Opening.TheVariants.{Unknown, Short, Long, LargeVariable, LargeGroup, Version}
use Rattle.format.specs.declared.Framed.{Framed}
use Rattle.format.specs.declared.Framed.TheVariants.{Item, Unframed}
use Rattle.format.specs.Alphabet.{stranger_number}
use Rattle.format.specs.Registry.{opening, indexed_opening, extent}

-- 4: the full size passes the end
unfoldable pub fit : Kind → ℕ → ℕ → ℕ → Framed
fit k head size len = pick (ltb len size) (Unframed 4 0) (Item k head size)

-- 5 or 19: the first bad character of the unit from sextet i on
unfoldable pub known : (ℕ → ℕ) → ℕ → Framed → Framed
known at i next =
    pick (ltb (at i) 64)
    (pick (ltb (at (i + 1)) 64)
    (pick (ltb (at (i + 2)) 64)
    (pick (ltb (at (i + 3)) 64) next
    (Unframed (stranger_number (at (i + 3))) (i + 3)))
    (Unframed (stranger_number (at (i + 2))) (i + 2)))
    (Unframed (stranger_number (at (i + 1))) (i + 1)))
    (Unframed (stranger_number (at i)) i)

-- 4 (second unit), 5 or 19, 4 (extent)
unfoldable pub second : (ℕ → ℕ) → ℕ → Framed → Framed
second at len next = pick (ltb len 2) (Unframed 4 0) (known at 4 next)

-- the number that the second unit's digits stand for, most significant first
abbrev pub digits4 : (ℕ → ℕ) → ℕ
digits4 at = ((at 4 * 64 + at 5) * 64 + at 6) * 64 + at 7

-- 6, and what stands behind it
unfoldable pub headed : Opening → (ℕ → ℕ) → ℕ → Framed
headed Unknown at len = Unframed 6 0
headed (Short k n) at len = fit k 1 n len
headed (Long k n) at len = second at len (fit k 2 (extent (Long k n) (digits4 at)) len)
headed (LargeVariable t l) at len = second at len (fit (Variable t l (digits4 at)) 2 (extent (LargeVariable t l) (digits4 at)) len)
headed (LargeGroup l d) at len = second at len (fit (Group l) 2 (extent (LargeGroup l d) (digits4 at)) len)
headed Version at len = second at len (fit Genus 2 (extent Version (digits4 at)) len)

-- the whole order, the first unit being opened by a table
unfoldable pub frame_with : (ℕ → ℕ → ℕ → ℕ → Opening) → (ℕ → ℕ) → ℕ → Framed
frame_with op at len = pick (ltb len 1) (Unframed 4 0) (known at 0 (headed (op (at 0) (at 1) (at 2) (at 3)) at len))

-- genus/version `AAACAA`: the number of its six digits
unfoldable pub is_ours : (ℕ → ℕ) → Bool
is_ours at = eqb ((at 2 * 64 + at 3) * 16777216 + digits4 at) 8192

-- 7: where a genus/version must be `AAACAA`
unfoldable pub ruled : (ℕ → ℕ) → Framed → Framed
ruled at (Item (Fixed c) h n) = Item (Fixed c) h n
ruled at (Item (Variable t l c) h n) = Item (Variable t l c) h n
ruled at (Item (Group l) h n) = Item (Group l) h n
ruled at (Item Genus h n) = pick (is_ours at) (Item Genus h n) (Unframed 7 0)
ruled at (Item (Indexed c) h n) = Item (Indexed c) h n
ruled at (Unframed n p) = Unframed n p

-- ---- the same on the sextets from the item's start to the enclosing end

abbrev pub sextet : List ℕ → ℕ → ℕ
sextet s i = get_or s i 0

-- anywhere
unfoldable pub frame : List ℕ → Framed
frame s = frame_with opening (sextet s) (length s / 4)

-- where 7 is asked: at top level, and of the first item of an overrideable group
unfoldable pub frame_ruled : List ℕ → Framed
frame_ruled s = ruled (sextet s) (frame s)

-- in a `-K` or `-L`, by the indexed table
unfoldable pub frame_indexed : List ℕ → Framed
frame_indexed s = frame_with indexed_opening (sextet s) (length s / 4)

-- by the table that is asked
abbrev pub frame_by : Bool → List ℕ → Framed
frame_by indexed s = pick indexed (frame_indexed s) (frame s)

-- a group's next item: 7 is asked of the first one of an overrideable group. No indexed item is a genus/version
unfoldable pub frame_next : Bool → Bool → List ℕ → Framed
frame_next indexed first s = pick first (ruled (sextet s) (frame_by indexed s)) (frame_by indexed s)

-- header and size counted in elements, u to the unit
unfoldable pub scale : ℕ → Framed → Framed
scale u (Item k h n) = Item k (h * u) (n * u)
scale u (Unframed n p) = Unframed n p
