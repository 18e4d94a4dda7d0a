-- The claims hold. Assumes nothing.
use Rattle.ordinary.specs.Claims.{MaskedClaims, NineteenClaims, OrdinaryClaims}
use Rattle.ordinary.proofs.Reports.{items, refused, left, report-bytes, reports}
use Rattle.ordinary.proofs.Calls.{converts, converts-left, reads, reads-left, writes-text, text-left, writes-binary, binary-left}
use Rattle.ordinary.proofs.IndexedReads.{reads-indexed, reads-indexed-left, read-indexed}
use Rattle.ordinary.proofs.Walks.{steps, walks}
use Rattle.ordinary.proofs.Exact.{framed, judged-at, rows, converted, read, written-text, written-binary, stepped}

masked-claims : MaskedClaims
masked-claims = record {
  items = items;
  refused = refused;
  left = left;
  report-bytes = report-bytes;
  reports = reports;
  converts = converts;
  converts-left = converts-left;
  reads = reads;
  reads-left = reads-left;
  reads-indexed = reads-indexed;
  reads-indexed-left = reads-indexed-left;
  writes-text = writes-text;
  text-left = text-left;
  writes-binary = writes-binary;
  binary-left = binary-left;
  steps = steps;
  walks = walks;
}

nineteen-claims : NineteenClaims
nineteen-claims = record {
  framed = framed;
  judged = judged-at;
  rows = rows;
  converted = converted;
  read = read;
  read-indexed = read-indexed;
  written-text = written-text;
  written-binary = written-binary;
  stepped = stepped;
}

pub proved : OrdinaryClaims
proved = record { as-five = masked-claims; exactly = nineteen-claims }
