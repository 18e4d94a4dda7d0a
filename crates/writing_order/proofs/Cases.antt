-- The refusals before 3 in their order, case by case. Assumes nothing.
use mathlib.Core.Path.{◌≡◌}
use mathlib.Core.List.{List}
use mathlib.Core.Bool.{true, false}
use Prim.Native.Nat.{ℕ}
use lib.ListN.{length}
use Rattle.format.specs.Writing.{Named, is_named, is_fit, is_short}
use Rattle.writing_refusal.specs.Refusals.{refusal, chars_refusal, refusal_of}

module _ (n : Named) (tag : List ℕ) (tags : ℕ) (raw : List ℕ) where
  pub is-unknown : is_named n ≡ false → refusal 6 0 ≡ refusal_of n tag tags raw
  unfolding refusal_of
  is-unknown a = rw a

  module _ (a : is_named n ≡ true) where
    pub is-unfit : is_fit n tags (length raw) ≡ false → refusal 12 0 ≡ refusal_of n tag tags raw
    unfolding refusal_of
    is-unfit b = rw (a, b)

    module _ (b : is_fit n tags (length raw) ≡ true) where
      pub is-long : is_short n (length raw) ≡ false → refusal 18 0 ≡ refusal_of n tag tags raw
      unfolding refusal_of
      is-long c = rw (a, b, c)

      pub is-short : is_short n (length raw) ≡ true → chars_refusal n tag tags raw ≡ refusal_of n tag tags raw
      unfolding refusal_of
      is-short c = rw (a, b, c)
