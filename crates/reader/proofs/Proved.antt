-- The claims on the reader hold. Assumes nothing.
use Rattle.reader.specs.Behind.{text-taken, binary-taken}
use Rattle.reader.specs.Claims.{ReaderClaims}

pub proved : ReaderClaims
proved = record { text-next = text-taken; binary-next = binary-taken }
