-- `second_report::put` meets its contract. Assumes nothing.
use Rattle.std.proofs.Common.{◌≡◌, ◌+◌, ◌-◌, take, drop, sym, ◌∙◌, arith, append_assoc, drop-drop}
use Rattle.std.proofs.lemmas.List.Edits.{sets-eq}
use Rattle.format.specs.Report.{be4}
use Rattle.second_report.proofs.put.Goals as goal

pub returns : goal.returns
unfolding be4
returns c =
    let k : c.args.p + 4 - c.args.p ≡ 4 = omega arith in
    let out = c.args.out.now in
    rw (k, c.copy_from_slice.ensures.after, c.to_be_bytes.ensures, drop-drop 4 c.args.p)
    (sym (append_assoc (take c.args.p out) (be4 c.args.v) (drop (c.args.p + 4) out)) ∙ sym (sets-eq (be4 c.args.v) out c.args.p c.requires))
