-- The claims on the numbers of a comparison hold. Assumes nothing.
use Prim.Native.Nat.{ℕ, zero, suc}
use Rattle.std.specs.Prelude.{◌≡◌, List, ◌⊎◌}
use Rattle.std.proofs.Math.Path.{refl}
use Rattle.std.proofs.Common.{arith}
use Rattle.std.proofs.Math.ListN.{replicate}
use Rattle.comparison.specs.Comparing.{compared}
use Rattle.expectation_claims.specs.Words.{BadFile, BadReport}
use Rattle.expectation_claims.proofs.Proved as E
use Rattle.exports_values.specs.Counts.{counts_of}
use Rattle.exports_claims.specs.Claims.{ComparedClaims}

module _ (file rep : List ℕ) where
  bad-number : BadFile file ⊎ BadReport rep → (compared file rep).number ≡ 20
  bad-number b = rw ((E.proved).malformed-files.twenty file rep b)

  well-made : (BadFile file ⊎ BadReport rep → ⊥) → (compared file rep).number ≡ 0
  well-made h = go (compared file rep).number refl
    where
      go : (n : ℕ) → (compared file rep).number ≡ n → n ≡ 0
      go zero e = refl
      go (suc n) e = absurd (h ((E.proved).malformed-files.only-twenty file rep n e))

  zeros : ((compared file rep).number ≡ 0 → ⊥) → counts_of (compared file rep) ≡ replicate 5 0
  unfolding counts_of
  zeros h = go (compared file rep).number refl
    where
      go : (n : ℕ) → (compared file rep).number ≡ n → counts_of (compared file rep) ≡ replicate 5 0
      go zero e = absurd (h e)
      go (suc n) e = rw ((E.proved).malformed-files.twenty file rep ((E.proved).malformed-files.only-twenty file rep n e))

pub compared-claims : ComparedClaims
compared-claims = record {
  zero-accepted = λ file rep. (λ e b. omega (arith, bad-number file rep b), well-made file rep);
  refused-zeros = zeros;
}
