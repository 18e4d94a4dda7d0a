use Prim.Native.Nat.{ℕ}
use mathlib.Core.Path.{ap}
use lib.ListN.{get_or}
use native.Mathlib.Omega.{arith}
use Rattle.report_sizes.proofs.Alike.{in-text, in-binary, by-text, by-binary}
use borrow.Author.Rules.{rules}
use Rattle.report_sizes.proofs.letter.Goals as goal

pub overflow_mul-at : goal.overflow_mul-at
overflow_mul-at c = let h = in-text _ _ _ c.in-Text.is c.requires in search rules

pub bounds-s-at : goal.bounds-s-at
bounds-s-at c = omega (arith, in-text _ _ _ c.in-Text.is c.requires)

pub overflow_mul-result : goal.overflow_mul-result
overflow_mul-result c = let h = in-binary _ _ _ c.in-Binary.is c.requires in search rules

pub bounds-s-at-in-Binary : goal.bounds-s-at-in-Binary
bounds-s-at-in-Binary c = omega (arith, in-binary _ _ _ c.in-Binary.is c.requires)

pub returns-in-Text : goal.returns-in-Text
returns-in-Text c = by-text c.args.form c.args.values.now c.args.s.now _ _ c.in-Text.is (λ i. omega (arith, c.shared_slice_known-1.given i)) (ap (λ (n : ℕ). get_or c.args.values.now n 0) c.from.ensures)

pub returns-in-Binary : goal.returns-in-Binary
returns-in-Binary c = search by-binary
