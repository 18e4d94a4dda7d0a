-- The framing of a mixed stream obeys the two laws that the damage theorem asks for, since each form's does and the first byte, which
-- every header holds, decides between them. Assumes nothing.
use Rattle.std.specs.Prelude.{ℕ, ◌≡◌, List, get_or}
use Rattle.format.specs.declared.Form.{Form}
use Rattle.format.specs.declared.Kind.{Kind}
use Rattle.format.specs.declared.Kind.TheVariants.{Genus}
use Rattle.format.specs.declared.Framed.TheVariants.{Unframed}
use Rattle.format.specs.Units.{domain}
use Rattle.format.specs.Report.{frame_in, judge_in}
use Rattle.damage.specs.Words.{Frames}
use Rattle.damage.proofs.Choose.{frames-none}
use Rattle.laws.specs.Domains.{reader}
use Rattle.laws.specs.Frames.{frames}
use Rattle.mixed.specs.declared.Start.{Start}
use Rattle.mixed.specs.declared.Start.TheVariants.{Cesr, Json, Other}
use Rattle.mixed.specs.Json.{frame_json}
use Rattle.mixed.specs.Mixed.{start_at, frame_start, frame_with, frame_mixed, judge_start, judge_mixed}
use Rattle.mixed_laws.specs.Json.{frames-json}

frames-start : (k : Kind) (t : Start) → Frames (frame_start k t)
unfolding frame_start
frames-start k (Cesr f) = frames (domain f) (reader f)
frames-start k Json = frames-json k
frames-start k Other = frames-none 17

pub frames-with : (k : Kind) → Frames (frame_with k)
unfolding frame_with
frames-with k = record {
  within = λ xs. (frames-start k (start_at xs 0)).within xs;
  alike = λ xs ys k' h n e ag l.
      let s : get_or ys 0 0 ≡ get_or xs 0 0 = ag 0 ((frames-start k (start_at xs 0)).within xs k' h n e).0 in
      rw s ((frames-start k (start_at xs 0)).alike xs ys k' h n e ag l);
}

pub frames-mixed : Frames frame_mixed
frames-mixed = frames-with Genus

-- ---- by the form of the first byte

module _ (xs : List ℕ) where
  pub cesr-frame : (f : Form) → start_at xs 0 ≡ Cesr f → frame_mixed xs ≡ frame_in (domain f) xs
  unfolding frame_with frame_start
  cesr-frame f e = rw e

  pub cesr-judge : (f : Form) → start_at xs 0 ≡ Cesr f → judge_mixed xs ≡ judge_in (domain f) xs
  unfolding judge_mixed judge_start
  cesr-judge f e = rw e

  pub json-frame : start_at xs 0 ≡ Json → frame_mixed xs ≡ frame_json Genus xs
  unfolding frame_with frame_start
  json-frame e = rw e

  pub other-frame : start_at xs 0 ≡ Other → frame_mixed xs ≡ Unframed 17 0
  unfolding frame_with frame_start
  other-frame e = rw e
