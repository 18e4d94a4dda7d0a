-- Framings chosen by the first byte obey Frames if each does: what a stream of mixed forms would ask of the damage theorem.
-- Assumes nothing.
use Rattle.std.specs.Prelude.{ℕ, ◌≤◌, ◌<◌, ◌≡◌, List, Bool, true, false, length, get_or}
use Rattle.std.proofs.Common.{arith}
use Rattle.base.specs.Pick.{pick}
use Rattle.format.specs.declared.Kind.{Kind}
use Rattle.format.specs.declared.Framed.{Framed}
use Rattle.format.specs.declared.Framed.TheVariants.{Item, Unframed}
use Rattle.damage.specs.Words.{Agree, Frames}

abbrev pub choose : (ℕ → Bool) → (List ℕ → Framed) → (List ℕ → Framed) → List ℕ → Framed
choose p f g xs = pick (p (get_or xs 0 0)) (f xs) (g xs)

module _ (f g : List ℕ → Framed) (F : Frames f) (G : Frames g) where
  chosen-within : (b : Bool) (xs : List ℕ) (k : Kind) (h n : ℕ) → pick b (f xs) (g xs) ≡ Item k h n
      → (0 < h) × (h ≤ n) × (n ≤ length xs)
  chosen-within true = F.within
  chosen-within false = G.within

  chosen-alike : (b : Bool) (xs ys : List ℕ) (k : Kind) (h n : ℕ) → pick b (f xs) (g xs) ≡ Item k h n → Agree h xs ys → n ≤ length ys
      → pick b (f ys) (g ys) ≡ Item k h n
  chosen-alike true = F.alike
  chosen-alike false = G.alike

  pub frames-choose : (p : ℕ → Bool) → Frames (choose p f g)
  frames-choose p = record {
    within = λ xs. chosen-within (p (get_or xs 0 0)) xs;
    alike = λ xs ys k h n e ag l.
        let first : get_or ys 0 0 ≡ get_or xs 0 0 = ag 0 (chosen-within (p (get_or xs 0 0)) xs k h n e).0 in
        rw first (chosen-alike (p (get_or xs 0 0)) xs ys k h n e ag l);
  }

-- no item at all
pub frames-none : (m : ℕ) → Frames (λ xs. Unframed m 0)
frames-none m = record {
  within = λ xs k h n e. let z : ◌≡◌ {A = ℕ} 0 1 = cc in absurd (omega arith);
  alike = λ xs ys k h n e. let z : ◌≡◌ {A = ℕ} 0 1 = cc in absurd (omega arith);
}
