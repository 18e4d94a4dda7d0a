-- `second_judging::indexed` meets its contract. Assumes nothing.
use Rattle.second_judging.proofs.Judging.{indexed-is}
use Rattle.second_judging.proofs.indexed.Goals as goal

pub returns : goal.returns
returns c = search indexed-is
