-- The four steps of the fast way through a group's items meet their contracts. Assumes nothing.
use Rattle.std.proofs.Common.{arith, rules}
use native.Mathlib.Nat.{pos_of_ne-zero}
use Rattle.report_fast_laws.specs.Laws.{going_start, going-reach, going-plain, going-taken, going-valued, going_less, going_end, no-pass}
use Rattle.report_fast_laws.specs.Laws.{inner-reach, inner-falls, by-contents, by-own, by_kind, group-inner, group-falls, by-inner, signs, nothing}
use Rattle.report_found.proofs.Laws.{inner-levels, head-fits, size_fits}
use Rattle.report_fast.proofs.+accepts_entered_other_taken.Goals as goal

pub accepts-loop-i-init : goal.accepts-loop-i-init
accepts-loop-i-init t c = search going_start

pub accepts-overflow_sub-stop : goal.accepts-overflow_sub-stop
accepts-overflow_sub-stop t c = c.loop-i.invariant.to

pub accepts-returns-then-stop-i : goal.accepts-returns-then-stop-i
accepts-returns-then-stop-i t c = search no-pass

pub accepts-overflow_add-i : goal.accepts-overflow_add-i
accepts-overflow_add-i t c = let h = c.if-stop-i.false in search rules

pub accepts-overflow_add-i-then-v-gt0 : goal.accepts-overflow_add-i-then-v-gt0
accepts-overflow_add-i-then-v-gt0 t c = let h = c.valued-v.ensures.0 in search rules

pub accepts-taken-n-requires : goal.accepts-taken-n-requires
accepts-taken-n-requires t c = search (going-reach, rules)

pub accepts-returns-then-n-eq0 : goal.accepts-returns-then-n-eq0
accepts-returns-then-n-eq0 t c = search no-pass

pub accepts-overflow_add-i-else-v-gt0 : goal.accepts-overflow_add-i-else-v-gt0
accepts-overflow_add-i-else-v-gt0 t c = let h = c.taken-n.ensures.few in search rules

pub accepts-loop-i-preserved-else-stop-i : goal.accepts-loop-i-preserved-else-stop-i
accepts-loop-i-preserved-else-stop-i t c = search going-plain

pub accepts-loop-i-preserved-then-v-gt0 : goal.accepts-loop-i-preserved-then-v-gt0
accepts-loop-i-preserved-then-v-gt0 t c = search going-valued

pub accepts-loop-i-smaller : goal.accepts-loop-i-smaller
accepts-loop-i-smaller t c = search going_less

pub accepts-loop-i-preserved : goal.accepts-loop-i-preserved
accepts-loop-i-preserved t c = search going-taken

pub accepts-returns : goal.accepts-returns
accepts-returns t c = search going_end

pub entered-returns-then-holds_indexed : goal.entered-returns-then-holds_indexed
entered-returns-then-holds_indexed t c = let h = c.accepts_indexed.ensures (search rules) in search by_kind

pub entered-returns : goal.entered-returns
entered-returns t c = search by_kind

pub other-overflow_add-from : goal.other-overflow_add-from
other-overflow_add-from t c = search (head-fits, size_fits)

pub other-overflow_add-to : goal.other-overflow_add-to
other-overflow_add-to t c = search (head-fits, size_fits)

pub other-overflow_sub-levels : goal.other-overflow_sub-levels
other-overflow_sub-levels t c = search inner-levels

pub other-entered-requires : goal.other-entered-requires
other-entered-requires t c = search (inner-falls, inner-reach)

pub other-returns-then-entered : goal.other-returns-then-entered
other-returns-then-entered t c = search by-contents

pub other-returns-then-is_entered : goal.other-returns-then-is_entered
other-returns-then-is_entered t c = search nothing

pub other-returns-in-Unframed : goal.other-returns-in-Unframed
other-returns-in-Unframed t c = search nothing

pub other-returns-else-is_entered : goal.other-returns-else-is_entered
other-returns-else-is_entered t c = search by-own

pub taken-overflow_sub-stop : goal.taken-overflow_sub-stop
taken-overflow_sub-stop t c = omega (arith, c.requires.1)

pub taken-returns-then-stop-at : goal.taken-returns-then-stop-at
taken-returns-then-stop-at t c = search nothing

pub taken-returns-then-levels-eq0 : goal.taken-returns-then-levels-eq0
taken-returns-then-levels-eq0 t c = search nothing

pub taken-taken_signed-requires : goal.taken-taken_signed-requires
taken-taken_signed-requires t c =
    (c.requires.0, c.requires.1, c.if-stop-at.false, c.if-g-gt0.true, pos_of_ne-zero c.if-levels-eq0.false)

pub taken-returns-then-signed : goal.taken-returns-then-signed
taken-returns-then-signed t c =
    c.taken_signed.ensures _ (signs _ _ c.if-g-gt0.true c.small-g.ensures c.signed.ensures c.if-signed.true)

pub taken-overflow_add-at-then-g-gt0 : goal.taken-overflow_add-at-then-g-gt0
taken-overflow_add-at-then-g-gt0 t c = omega (arith, pos_of_ne-zero c.if-levels-eq0.false)

pub taken-accepts-requires : goal.taken-accepts-requires
taken-accepts-requires t c = (search group-falls, search group-inner)

pub taken-returns-then-accepts : goal.taken-returns-then-accepts
taken-returns-then-accepts t c = search by-inner

pub taken-returns-then-g-gt0 : goal.taken-returns-then-g-gt0
taken-returns-then-g-gt0 t c = search nothing

pub taken-returns : goal.taken-returns
taken-returns t c = c.other.ensures
