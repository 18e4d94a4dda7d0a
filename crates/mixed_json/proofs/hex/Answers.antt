-- `mixed_json::hex` meets its contract. Assumes nothing.
use Rattle.mixed_json.proofs.Laws.{below-digits, digit, between, letter, past}
use borrow.Author.Rules.{rules}
use Rattle.mixed_json.proofs.hex.Goals as goal

pub returns-then-c-lt48 : goal.returns-then-c-lt48
returns-then-c-lt48 c = search below-digits

pub returns-then-c-le57 : goal.returns-then-c-le57
returns-then-c-le57 c = search (digit, rules)

pub returns-then-c-lt97 : goal.returns-then-c-lt97
returns-then-c-lt97 c = search (between, rules)

pub returns-then-c-le102 : goal.returns-then-c-le102
returns-then-c-le102 c = search (letter, rules)

pub returns : goal.returns
returns c = search past
