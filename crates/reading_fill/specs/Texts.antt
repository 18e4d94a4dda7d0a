-- Where a text starts in its item, by the first twelve sextets. Assumes nothing.
use Rattle.std.specs.Prelude.{ℕ, ◌+◌, ◌*◌, List, eqb, get_or}
use Rattle.base.specs.Pick.{pick}
use Rattle.format.specs.declared.Kind.{Kind}
use Rattle.format.specs.declared.Kind.TheVariants.{Fixed, Variable, Group, Genus, Indexed}
use Rattle.format.specs.Registry.{is_text}

-- format's fill_of by the value's first sextet
unfoldable pub fill_by : ℕ → ℕ → ℕ
fill_by lead first = pick (eqb lead 0) (pick (eqb first 0) 1 0) (lead + 1)

-- in characters from the start of an item of n units, h of them its header; at the item's end where there is none
unfoldable pub text_start : Kind → ℕ → ℕ → List ℕ → ℕ
text_start (Fixed c) h n cs = 4 * n
text_start (Variable t lead count) h n cs = pick (is_text t) (4 * h + fill_by lead (get_or cs (4 * h) 0)) (4 * n)
text_start (Group letter) h n cs = 4 * n
text_start Genus h n cs = 4 * n
text_start (Indexed c) h n cs = 4 * n
