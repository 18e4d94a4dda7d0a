-- What a small variable value's header and the unit behind it decide, if its characters are known: that it is accepted, and how long
-- it is. Assumes nothing.
use Rattle.std.specs.Prelude.{ℕ, ◌+◌, ◌*◌, ◌≡◌, List, Bool, true, false, ltb, eqb}
use Rattle.base.specs.Pick.{pick}
use Rattle.format.specs.Registry.{is_text}
use Rattle.runs.specs.Plain.{typed, unit_by}

-- a unit as a number
abbrev pub unit_number : ℕ → ℕ → ℕ → ℕ → ℕ
unit_number a b c d = ((a * 64 + b) * 64 + c) * 64 + d

-- `4` `5` `6`
unfoldable pub is_selector : ℕ → Bool
is_selector a = pick (ltb a 56) false (ltb a 59)

-- 8 and 16 of a text, by its selector and its first unit: `A`, which is 0, stands in front once at most, exactly twice, exactly three times
unfoldable pub text_fits : ℕ → ℕ → Bool
text_fits a v = pick (eqb a 56) (ltb 4095 v) (pick (eqb a 57) (pick (ltb v 4096) (ltb 63 v) false) (pick (ltb v 64) (ltb 0 v) false))

-- 8 of other values: no lead byte, one, two
unfoldable pub bytes_fit : ℕ → ℕ → Bool
bytes_fit a v = pick (eqb a 56) true (pick (eqb a 57) (ltb v 65536) (ltb v 256))

-- of a value that has a first unit
unfoldable pub unit_fits : ℕ → ℕ → ℕ → Bool
unit_fits a t v = pick (is_text t) (text_fits a v) (bytes_fit a v)

-- of an item of so many units; 9 where it is the header alone
unfoldable pub value_fits : ℕ → ℕ → ℕ → ℕ → Bool
value_fits a t size v = pick (ltb 1 size) (unit_fits a t v) (eqb a 56)

unfoldable pub fitting : ℕ → ℕ → ℕ → ℕ → ℕ
fitting a t size v = pick (value_fits a t size v) size 0

-- the size in units of a small variable value by its header, where the unit behind it is v; 0 for everything else
unfoldable pub valued_of : ℕ → ℕ → ℕ → ℕ → ℕ → ℕ
valued_of v a b c d = pick (is_selector a) (fitting a b (typed b c d) v) 0

pub other-valued : (v a b c d : ℕ) → is_selector a ≡ false → 0 ≡ valued_of v a b c d
unfolding valued_of
other-valued v a b c d e = rw e

-- ---- at a unit of a stream

abbrev pub number_at : List ℕ → ℕ → ℕ
number_at s at = unit_by unit_number s at

abbrev pub valued_at : List ℕ → ℕ → ℕ
valued_at s at = unit_by (valued_of (number_at s (at + 1))) s at
