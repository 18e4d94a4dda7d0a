-- The claims hold. Assumes nothing.
use Rattle.claims_indexed.specs.Claims.{Claims}
use Rattle.claims_indexed.proofs.IndexedCalls.{indexed-calls}
use Rattle.claims_indexed.proofs.Signatures.{signature-claims}

pub proved : Claims
proved = record { calls = indexed-calls; signatures = signature-claims }
