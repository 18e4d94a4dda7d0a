-- `report_fast::taken_signed` meets its contract. Assumes nothing.
use Rattle.report_fast_laws.specs.Laws.{nothing, group-inner, by-signed}
use Rattle.report_fast.proofs.taken_signed.Goals as goal

pub returns-then-told-gt0 : goal.returns-then-told-gt0
returns-then-told-gt0 c = λ first G. let P = c.requires in c.signatures-told.ensures.1 P.0 _ first P.4

pub returns-then-accepts_indexed : goal.returns-then-accepts_indexed
returns-then-accepts_indexed c = λ first G.
    let P = c.requires in
    by-signed _ _ _ _ first _ _ P.0 P.1 _ _ (c.accepts_indexed.ensures (group-inner _ _ _ _ _ P.0 P.1 P.2 P.3))
    c.if-accepts_indexed.true P.3 P.2 P.4 G

pub returns : goal.returns
returns c = λ first G. search nothing
