-- `stranger` meets its contract: it computes the least distance. Assumes nothing.
use Rattle.std.proofs.Common.{rules}
use Rattle.alphabet_scan.proofs.Laws.{distance-right}
use Rattle.alphabet_scan.proofs.stranger.Goals as goal

pub returns : goal.returns
returns c =
    rw (c.min-3.ensures, c.min.ensures, c.min-2.ensures, c.saturating_sub-letter.ensures, c.saturating_sub-digit.ensures)
    (distance-right c.args.c (search rules))
