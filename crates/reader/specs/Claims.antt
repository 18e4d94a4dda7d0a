-- What is claimed of the reader. Statements only, each below the words of 01. Proved in Proved. Assumes nothing.
use Rattle.std.specs.Prelude.{◌≡◌}
use Rattle.walk_state.specs.Walking.{text_step, binary_step}
use Rattle.reader.specs.declared.Reader.{Reader}
use Rattle.reader.specs.Reading.{text_taken, binary_taken}
use Rattle.reader.specs.Behind.{text_at, binary_at}

pub record ReaderClaims : Type 0 where
  -- "keeps the stream it was opened over beside its place": the reader handed back is over the same stream, at the next state of
  -- the walk's step, and beside it is what the step found. That a refusal or the end leaves it where it was is the definition of its place (reader_place's Place).
  pub text-next : (r : Reader) → text_taken r ≡ text_at r (text_step r.src.now r.walk)
  pub binary-next : (r : Reader) → binary_taken r ≡ binary_at r (binary_step r.src.now r.walk)
