-- An item that a raw value ends, a primitive or an indexed one: how its units are divided, its bytes, and what a buffer holds where its
-- room is asked last. Assumes nothing.
use Rattle.std.specs.Prelude.{ℕ, ◌+◌, ◌-◌, ◌*◌, ◌<◌, ◌≤◌, List, ◌++◌, ltb, length, take, drop}
use Rattle.base.specs.Pick.{pick}
use Rattle.format.specs.Conversion.{to_text}
use Rattle.format.specs.Writing as F

-- its units k hold the raw bytes behind the first 3 k - raw ones, of at most nine
pub record Sized (raw k : ℕ) : Type 0 where
  pub some : 0 < k
  pub few : k ≤ 1048576
  pub whole : raw ≤ 3 * k
  pub start : 3 * k ≤ raw + 9

-- the bytes of an item of k units: the first of the head's, and the raw value
abbrev pub raw_item : ℕ → List ℕ → List ℕ → List ℕ
raw_item k head raw = take (3 * k - length raw) head ++ raw

-- ---- what is asked last: 3, with u elements to the unit

abbrev pub room_for : ℕ → ℕ → ℕ → F.Writing
room_for u k room = pick (ltb room (k * u)) (F.Writing.refused 3 0) (F.Writing.written k)

-- what the buffer holds then: the bytes b of the item, or their text, where it is written
abbrev pub binary_in : F.Writing → List ℕ → List ℕ → List ℕ
binary_in (F.Writing.refused m p) b d = d
binary_in (F.Writing.written k) b d = b ++ drop (k * 3) d

abbrev pub text_in : F.Writing → List ℕ → List ℕ → List ℕ
text_in (F.Writing.refused m p) b d = d
text_in (F.Writing.written k) b d = to_text b ++ drop (k * 4) d
