-- `mixed_json::is_met` meets its contract. Assumes nothing.
use Rattle.mixed_json.proofs.Laws.{no-capital, capital, hexed, itself}
use borrow.Author.Rules.{rules}
use Rattle.mixed_json.proofs.is_met.Goals as goal

pub returns-then-c-lt65 : goal.returns-then-c-lt65
returns-then-c-lt65 c = search no-capital

pub returns-then-p-eq0 : goal.returns-then-p-eq0
returns-then-p-eq0 c = search capital

pub returns-then-p-eq1 : goal.returns-then-p-eq1
returns-then-p-eq1 c = search (hexed, rules)

pub returns : goal.returns
returns c = search itself
