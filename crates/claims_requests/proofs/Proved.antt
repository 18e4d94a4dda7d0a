-- The claims hold. Assumes nothing.
use Rattle.claims_requests.specs.Claims.{Claims}
use Rattle.claims_requests.proofs.Lookup.{lookup-claims}
use Rattle.claims_requests.proofs.Deeper.{deeper-claims}
use Rattle.claims_requests.proofs.Short.{short-form}
use Rattle.claims_requests.proofs.Text.{text-claims}

pub proved : Claims
proved = record { lookup = lookup-claims; deeper = deeper-claims; short-form = short-form; texts = text-claims }
