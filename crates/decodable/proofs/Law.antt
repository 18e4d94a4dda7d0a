-- A code that a reading tells, whatever stands behind it, is uniquely decodable and prefix-free. One law over any writer and any reading;
-- both tables and both forms are its instances. Assumes nothing.
use Rattle.std.specs.Prelude.{ℕ, ◌≡◌, refl, length, drop}
use Rattle.std.proofs.Common.{sym, ap, ◌∙◌, subst, drop_at}
use mathlib.Core.List.{List, [], ◌∷◌, ◌++◌, append-nil}
use Rattle.format.specs.Report.{concat}
use Rattle.claims.specs.Words.{Pairwise}
use Rattle.decodable.specs.Words.{UniquelyDecodable, PrefixFree}

-- Finds s a n: a reading of s finds a, in the first n elements
module _ {A : Type 0} (written : A → List ℕ) (Same : A → A → Type 0) (Finds : List ℕ → A → ℕ → Type 0)
    -- what is written is found, whatever stands behind it
    (back : (a : A) (rest : List ℕ) → Finds (written a ++ rest) a (length (written a)))
    -- one thing alone is found
    (once : (s : List ℕ) (a b : A) (m n : ℕ) → Finds s a m → Finds s b n → Same a b × (m ≡ n))
    -- and where there is nothing, none
    (none : (a : A) (n : ℕ) → Finds [] a n → ⊥) where
  -- two that start alike are the same, and so is what stands behind them
  alike : (a b : A) (r s : List ℕ) → written a ++ r ≡ written b ++ s → Same a b × (r ≡ s)
  alike a b r s e =
      let q = once (written b ++ s) a b _ _ (subst (λ (x : List ℕ). Finds x a (length (written a))) e (back a r)) (back b s) in (
        q.0,
        sym (drop_at (written a) r (length (written a)) refl) ∙ ap (drop (length (written a))) e
            ∙ drop_at (written b) s (length (written a)) (sym q.1),
      )

  nothing : (a : A) (r : List ℕ) → [] ≡ written a ++ r → ⊥
  nothing a r e = none a _ (subst (λ (x : List ℕ). Finds x a (length (written a))) (sym e) (back a r))

  prefix-free : PrefixFree written Same
  prefix-free a b rest e =
      let q = alike a b rest [] (sym e ∙ sym (append-nil (written b))) in
      (q.1, q.0)

  uniquely-decodable : UniquelyDecodable written Same
  unfolding concat
  uniquely-decodable [] [] e = tt
  uniquely-decodable [] (b ∷ vs) e = nothing b (concat written vs) e
  uniquely-decodable (a ∷ us) [] e = nothing a (concat written us) (sym e)
  uniquely-decodable (a ∷ us) (b ∷ vs) e =
      let q = alike a b (concat written us) (concat written vs) e in
      (q.0, uniquely-decodable us vs q.1)

  pub told : UniquelyDecodable written Same × PrefixFree written Same
  told = (uniquely-decodable, prefix-free)
