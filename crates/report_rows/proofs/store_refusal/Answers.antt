use native.Mathlib.Numerals.{towards_suc}
use Rattle.format.specs.Report.{be4}
use Rattle.report_rows.proofs.store_refusal.Goals as goal

pub returns : goal.returns
unfolding be4
returns c = simp (c.store4-2.ensures, c.store4.ensures, towards_suc)
