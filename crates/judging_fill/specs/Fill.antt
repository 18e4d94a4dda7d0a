-- 16, of a text's first unit, in the shape of the code. Assumes nothing.
use Rattle.std.specs.Prelude.{ℕ, ◌+◌, ◌*◌, List, Bool, true, false, eqb, get_or}
use Rattle.base.specs.Pick.{pick}
use Rattle.format.specs.Registry.{is_text}

-- none or one `A` in front under lead 0, two under 1, three under 2
unfoldable pub filled_right : ℕ → ℕ → ℕ → ℕ → ℕ → Bool
filled_right lead a b c d =
    pick (eqb a 0) (pick (eqb b 0) (pick (eqb c 0) (pick (eqb d 0) false (eqb lead 2)) (eqb lead 1)) (eqb lead 0)) (eqb lead 0)

-- asked of type `A` alone, and not of the empty text
unfoldable pub text_filled : ℕ → ℕ → ℕ → ℕ → List ℕ → Bool
text_filled t lead count h cs =
    pick (is_text t)
    (pick (eqb count 0) true
    (filled_right lead (get_or cs (4 * h) 0) (get_or cs (4 * h + 1) 0) (get_or cs (4 * h + 2) 0) (get_or cs (4 * h + 3) 0)))
    true
