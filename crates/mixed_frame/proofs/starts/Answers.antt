-- `mixed_frame::starts` meets its contract. Assumes nothing.
use Rattle.mixed_frame.proofs.Laws.{text-byte, json-byte, low_byte, binary-byte, high_byte}
use Rattle.mixed_frame.proofs.starts.Goals as goal

pub returns-then-b-eq45 : goal.returns-then-b-eq45
returns-then-b-eq45 c = search text-byte

pub returns-then-b-eq123 : goal.returns-then-b-eq123
returns-then-b-eq123 c = search json-byte

pub returns-then-b-lt248 : goal.returns-then-b-lt248
returns-then-b-lt248 c = search low_byte

pub returns-then-b-le251 : goal.returns-then-b-le251
returns-then-b-le251 c = search binary-byte

pub returns : goal.returns
returns c = search high_byte
