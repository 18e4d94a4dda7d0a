-- A list cut into its items by any framing: "framed one behind the other until the end or the first framing refusal". The same
-- for a stream and for a group's contents. Assumes nothing.
use Rattle.std.specs.Prelude.{ℕ, zero, suc, List, [], ◌∷◌, length, take, drop}
use Rattle.format.specs.declared.Framed.{Framed}
use Rattle.format.specs.declared.Framed.TheVariants.{Item, Unframed}

-- items one behind the other, then the end, or a framing refusal (number, place) with what is left
pub data Cut : Type 0 where
  done : Cut
  stopped : ℕ → ℕ → List ℕ → Cut
  item : List ℕ → Cut → Cut

unfoldable pub cut_by : Framed → List ℕ → (List ℕ → Cut) → Cut
cut_by (Item k h n) xs go = item (take n xs) (go (drop n xs))
cut_by (Unframed n p) xs go = stopped n p xs

module _ (frame : List ℕ → Framed) where
  unfoldable pub cut_f : ℕ → List ℕ → Cut
  cut_f zero xs = done
  cut_f (suc f) [] = done
  cut_f (suc f) (x ∷ xs) = cut_by (frame (x ∷ xs)) (x ∷ xs) (λ ys. cut_f f ys)

  -- an item is not empty, so as many turns as the list is long are enough
  unfoldable pub cut : List ℕ → Cut
  cut xs = cut_f (length xs) xs
