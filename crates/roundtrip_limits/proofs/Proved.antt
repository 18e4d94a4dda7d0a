-- The claims hold. Assumes nothing.
use Rattle.roundtrip_limits.specs.Claims.{Claims}
use Rattle.roundtrip_limits.proofs.Limits.{limits}
use Rattle.roundtrip_limits.proofs.Orders.{orders}

pub proved : Claims
proved = record { limits = limits; orders = orders }
