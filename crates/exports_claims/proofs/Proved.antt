-- The claims on what C sees hold. Assumes nothing.
use Rattle.exports_claims.specs.Claims.{ExportsClaims}
use Rattle.exports_claims.proofs.Numbers.{zero-claims, keep-claims}
use Rattle.exports_claims.proofs.Lent.{lent-claims}
use Rattle.exports_claims.proofs.Told.{told-claims}
use Rattle.exports_claims.proofs.Comparison.{compared-claims}

pub proved : ExportsClaims
proved = record { zero-accepted = zero-claims; refused-kept = keep-claims; lent = lent-claims; told = told-claims; comparison = compared-claims }
