use Rattle.std.proofs.Common.{◌≡◌, ℕ, ◌+◌, List, take, drop, ◌++◌, arith, rules, ap, ◌∙◌}
use Rattle.std.proofs.Math.Seq.{take-add}
use Rattle.std.proofs.KnownBytes.{Consumes-trans}
use Rattle.std.specs.Prelude.{Option}
use Rattle.std.specs.Io.KnownBytes.{Consumes}
use Rattle.program.proofs.read_stream.Goals as goal

-- a read more behind what was taken
on : (a b c : Option (List ℕ)) (done more : ℕ) (before after : List ℕ) → Consumes a b (take done before) → Consumes b c (take more (drop done after)) → take done after ≡ take done before
    → Consumes a c (take (done + more) after)
on a b c done more before after first second same =
    let joined : take (done + more) after ≡ take done before ++ take more (drop done after) =
    take-add done more after ∙ ap (λ (l : List ℕ). l ++ take more (drop done after)) same in
    rw joined (Consumes-trans a b c (take done before) (take more (drop done after)) first second)

pub loop-done-preserved : goal.loop-done-preserved
loop-done-preserved g c = record {
  same_room = search rules;
  within = omega (arith, c.in-Whole.ensures.fits);
  taken = on _ _ _ _ _ _ _ c.loop-done.invariant.taken c.in-Whole.ensures.bytes.0 c.in-Whole.ensures.before;
}
