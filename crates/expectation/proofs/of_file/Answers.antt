-- `of_file` meets its contract. Assumes nothing.
use Rattle.expectation.proofs.Laws.{file-short, file-says}
use borrow.Author.Rules.{rules}
use Rattle.expectation.proofs.of_file.Goals as goal

pub returns-in_err-verdicts : goal.returns-in_err-verdicts
returns-in_err-verdicts c = search (file-short, rules)

pub returns : goal.returns
returns c = file-says _ _ c.in_ok-verdicts.ensures _ c.last_section.ensures
