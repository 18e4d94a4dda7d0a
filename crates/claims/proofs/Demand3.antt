-- Demand 3 for any domain that obeys the four laws, and so for text and for binary. Assumes nothing.
use Rattle.std.proofs.Math.Path.{refl}
use Rattle.format.specs.Units.{Domain, text, binary}
use Rattle.format.specs.Report.{frame_in, judge_in, rows_in, report}
use Rattle.damage.specs.Words.{item_at, row}
use Rattle.damage.proofs.Damage as D
use Rattle.damage.proofs.Counts.{counts, refusal-rows, no-other-refusals, remainder-once}
use Rattle.laws.specs.Domains.{Reader, text-reader, binary-reader}
use Rattle.laws.specs.Frames.{frames}
use Rattle.claims.proofs.Numbers.{judged-numbered}
use Rattle.claims.proofs.Header.{header-elements}
use Rattle.claims.specs.Claims.{Demand3}

-- ---- the demand

module _ (d : Domain) (R : Reader d) where
  demand3 : Demand3 d
  unfolding report
  demand3 = record {
    sections = λ xs. refl;
    headers = λ xs k h.
        let f = (D.by_itself (frame_in d) (judge_in d) (frames d R) xs k h).framed in
        header-elements d (item_at xs (row (rows_in d xs) k)) _ f.0 f.1 _ refl f.2;
    same-items = λ xs ys c. (D.rows_alike (frame_in d) (judge_in d) (frames d R) xs ys c.behind).0;
    same-remainder = λ xs ys c. (D.rows_alike (frame_in d) (judge_in d) (frames d R) xs ys c.behind).1;
    unchanged = λ xs ys c. D.unchanged-verdict (frame_in d) (judge_in d) (frames d R) xs ys c.behind;
    by_itself = D.by_itself (frame_in d) (judge_in d) (frames d R);
    refusal-rows = refusal-rows (frame_in d) (judge_in d);
    no_other = no-other-refusals (frame_in d) (judge_in d);
    partition = D.partition (frame_in d) (judge_in d) (frames d R);
    counts = counts (judge_in d) (judged-numbered d) (frame_in d);
    apart = remainder-once (frame_in d) (judge_in d);
  }

pub text-demand3 : Demand3 text
text-demand3 = demand3 text text-reader

pub binary-demand3 : Demand3 binary
binary-demand3 = demand3 binary binary-reader
