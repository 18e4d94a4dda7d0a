-- `runs_text_groups::nested_text` meets its contract. The invariant: so many units are left. Assumes nothing.
use mathlib.Core.Path.{refl, sym, ◌∙◌, ◌≡◌}
use Prim.Native.Nat.{◌+◌, ◌-◌}
use native.Mathlib.Omega.{arith}
use native.Mathlib.Numerals.{unary_clauses}
use borrow.Author.Tests.{lt-ltb}
use Rattle.runs.specs.Plain.{nested_at}
use Rattle.runs.specs.Nesting.{left-start, left_other, left-more, left_end}
use Rattle.runs.specs.Runs.{nested_is}
use Rattle.runs_text_groups.proofs.nested_text.Goals as goal

pub returns-then-s-stop : goal.returns-then-s-stop
unfolding nested_at
returns-then-s-stop c = rw (lt-ltb _ _ c.if-s-stop.true)

pub loop-n-init : goal.loop-n-init
loop-n-init c = simp unary_clauses (left-start c.saturating_sub-all.ensures refl)

pub returns-then-group_in_text-all : goal.returns-then-group_in_text-all
returns-then-group_in_text-all c =
    let z : c.args.stop - (c.saturating_sub-all.result - c.loop-n.n) ≡ c.args.at + c.loop-n.n = omega (arith, c.loop-n.invariant.is_all) in
    let r = left_other c.loop-n.invariant (omega arith) (λ e. omega (arith, c.group_in_text.ensures, rw z at e)) in
    omega (arith, r) ∙ sym (nested_is _ _ _ _ _ c.if-s-stop.false)

pub loop-n-preserved : goal.loop-n-preserved
loop-n-preserved c =
    let z : c.args.stop - (c.saturating_sub-all.result - c.loop-n.n) ≡ c.args.at + c.loop-n.n = omega (arith, c.loop-n.invariant.is_all) in
    let y : c.saturating_sub-all.result - (c.loop-n.n + 1) ≡ c.saturating_sub-all.result - c.loop-n.n - 1 = omega arith in
    rw y (left-more c.loop-n.invariant (omega arith) (rw z (omega (arith, c.group_in_text.ensures))))

pub returns : goal.returns
returns c =
    let r = left_end c.loop-n.invariant (omega arith) in
    omega (arith, r) ∙ sym (nested_is _ _ _ _ _ c.if-s-stop.false)
