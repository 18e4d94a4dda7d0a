use mathlib.Core.Path.{◌≡◌, ap, sym, ◌∙◌}
use Prim.Native.Nat.{ℕ, ◌+◌, ◌-◌}
use native.Mathlib.Nat.{zero-add}
use native.Mathlib.Omega.{arith}
use Rattle.format.specs.declared.BinaryOffset.{BinaryOffset}
use Rattle.format.specs.declared.PrimitiveRead.{PrimitiveRead}
use Rattle.format.specs.Reading.{part_at}
use Rattle.reading_binary.specs.Part.{part_start}
use Rattle.reading_found.proofs.Answers.{found_inside}
use Rattle.reading_binary.proofs.raw_binary.Goals as goal

pub overflow_add-start : goal.overflow_add-start
overflow_add-start c =
    let a = c.args in omega (arith, found_inside a.s.now a.at.0 _ (ap (λ (r : PrimitiveRead BinaryOffset). r.found) (sym c.found_at-read.ensures) ∙ c.in-Ok.is))

pub overflow_add-end : goal.overflow_add-end
overflow_add-end c =
    let a = c.args in omega (arith, found_inside a.s.now a.at.0 _ (ap (λ (r : PrimitiveRead BinaryOffset). r.found) (sym c.found_at-read.ensures) ∙ c.in-Ok.is))

pub slice_bounds-result-end-in-Ok : goal.slice_bounds-result-end-in-Ok
slice_bounds-result-end-in-Ok c =
    let a = c.args in omega (arith, found_inside a.s.now a.at.0 _ (ap (λ (r : PrimitiveRead BinaryOffset). r.found) (sym c.found_at-read.ensures) ∙ c.in-Ok.is))

pub returns-in-Err : goal.returns-in-Err
unfolding part_at part_start
returns-in-Err c =
    let e = ap (λ (r : PrimitiveRead BinaryOffset). r.found) (sym c.found_at-read.ensures) ∙ c.in-Err.is in
    record { result_value = rw e; ref_ptr_value = rw e (ap (λ (n : ℕ). (c.args.s.ref_ptr.0, n)) (sym (zero-add _))) }

pub returns-in-Ok : goal.returns-in-Ok
unfolding part_at part_start
returns-in-Ok c =
    let a = c.args in
    let p = c.in-Ok.p in
    let z : a.at.0 + p.start.0 + p.raw - (a.at.0 + p.start.0) ≡ p.raw = omega arith in
    let e = ap (λ (r : PrimitiveRead BinaryOffset). r.found) (sym c.found_at-read.ensures) ∙ c.in-Ok.is in
    record { result_value = rw (z, e); ref_ptr_value = rw e }
