-- What a buffer holds once a group is put around the body at its start, if it has room. Assumes nothing.
use Rattle.std.specs.Prelude.{ℕ, List, ◌++◌, ltb, length, take, drop}
use Rattle.base.specs.Pick.{pick}
use Rattle.format.specs.declared.Form.{Form}
use Rattle.format.specs.Units.{domain}
use Rattle.groups.specs.Grouping.{group_of, group_size}

-- the letter is a sextet
unfoldable pub put_group : Form → ℕ → ℕ → List ℕ → List ℕ
put_group f l len buf =
    pick (ltb (length buf) (group_size (domain f) len)) buf (group_of f l (take len buf) ++ drop (group_size (domain f) len) buf)
