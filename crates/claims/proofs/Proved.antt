-- The claims hold. Assumes nothing.
use Rattle.claims.specs.Claims.{Claims}
use Rattle.claims.proofs.Demand1.{demand1}
use Rattle.claims.proofs.Demand2.{demand2}
use Rattle.claims.proofs.Header.{framing-claims}
use Rattle.claims.proofs.Demand3.{text-demand3, binary-demand3}

pub proved : Claims
proved = record {
  demand1 = demand1;
  demand2 = demand2;
  framing = framing-claims;
  demand3-text = text-demand3;
  demand3-binary = binary-demand3;
}
