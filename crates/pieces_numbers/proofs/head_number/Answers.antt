-- `pieces_numbers::head_number` meets its contract. Assumes nothing.
use Rattle.pieces_numbers.proofs.Laws.{fixed_number, indexed-number, variable-long, variable-led, variable-bare}
use borrow.Author.Tests.{not-true, not-false}
use Rattle.pieces.specs.Headers.{head_number}
use Rattle.pieces_numbers.proofs.head_number.Goals as goal

pub returns-then-not-is_shortest : goal.returns-then-not-is_shortest
returns-then-not-is_shortest c = search (variable-long, not-true)

pub returns-in-Fixed : goal.returns-in-Fixed
returns-in-Fixed c = search fixed_number

pub returns-then-has_lead : goal.returns-then-has_lead
returns-then-has_lead c = search (variable-led, not-false)

pub returns-else-has_lead : goal.returns-else-has_lead
returns-else-has_lead c = search (variable-bare, not-false)

pub returns-in-Group : goal.returns-in-Group
unfolding head_number
returns-in-Group c = rw c.in-Group.is

pub returns-in-Genus : goal.returns-in-Genus
unfolding head_number
returns-in-Genus c = rw c.in-Genus.is

pub returns-in-Indexed : goal.returns-in-Indexed
returns-in-Indexed c = search indexed-number
