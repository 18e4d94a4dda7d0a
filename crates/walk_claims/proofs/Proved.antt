-- The claims on the walk hold. Assumes nothing.
use Rattle.std.specs.Prelude.{ℕ, ◌≤◌, ◌≡◌, List, [], ◌∷◌, length}
use Rattle.std.proofs.Common.{sym, ◌∙◌, subst, inl, inr, arith}
use Rattle.std.proofs.Math.Path.{ap}
use Rattle.format.specs.declared.Kind.{Kind}
use Rattle.format.specs.declared.Framed.TheVariants.{Item}
use Rattle.format.specs.declared.Verdict.TheVariants.{Refused}
use Rattle.format.specs.Units.{Domain, text, binary}
use Rattle.format.specs.Conversion.{to_binary, to_text}
use Rattle.format.specs.Report.{rows_in, remainder_in, frame_in, judge_in}
use Rattle.laws.specs.Domains.{Reader, text-reader, binary-reader}
use Rattle.claims.proofs.Demand2.{binary-whole, text-whole, text_same, binary-same}
use Rattle.claims_rules.specs.Order.{Among}
use Rattle.walk_state.specs.declared.Walk.{Walk}
use Rattle.walk_state.specs.declared.Found.TheVariants as F
use Rattle.walk_state.specs.Walking.{step_in}
use Rattle.walk_claims.specs.Words.{units_in, after, found_of, Last}
use Rattle.walk_claims.proofs.Fitting.{fit-facts, fit-made}
use Rattle.walk_claims.proofs.Runs.{stays, moves, after-fit, keeps-fit, after_stop, ends}
use Rattle.walk_claims.proofs.Behind.{behind}
use Rattle.walk_claims.proofs.Innermost.{innermost}
use Rattle.walk_claims.proofs.Firsts.{stops_first, own_first}
use Rattle.walk_claims.proofs.Outer.{all-outer}
use Rattle.walk_claims.proofs.Reported.{last-answer, all-accepted, front}
use Rattle.walk_claims.proofs.Forms.{same_step, same_after}
use Rattle.walk_claims.proofs.Orders.{step-refuses, step-low, step-accepts, step-finishes}
use Rattle.walk_claims.proofs.Numbers.{long-one, unfit-thirteen, only-long, only-unfit}
use Rattle.walk_claims.specs.Claims.{StreamClaims, FormClaims, WalkClaims}

-- where the walk of an item stops it has the verdict's number, and neither 1 nor 13
module _ (d : Domain) (R : Reader d) (xs : List ℕ) (short : length xs ≤ d.limit) where
  abbrev last : Walk
  last = after d xs (units_in d xs)

  verdict-at : (k : Kind) (h m p : ℕ) → frame_in d xs ≡ Item k h (length xs) → judge_in d xs ≡ Refused m p
      → (step_in d xs last).found ≡ F.Refused m p
  unfolding found_of
  verdict-at k h m p e j =
      stops_first d R xs short (units_in d xs) (ends d xs (units_in d xs) (omega arith)) ∙ ap found_of (own_first d R xs k h e ∙ j)

  other : (m p : ℕ) → (step_in d xs last).found ≡ F.Refused m p
      → Among (1 ∷ 13 ∷ 4 ∷ 5 ∷ 19 ∷ 6 ∷ 7 ∷ 11 ∷ 18 ∷ 9 ∷ 8 ∷ 16 ∷ 15 ∷ 10 ∷ []) m
      → Among (4 ∷ 5 ∷ 19 ∷ 6 ∷ 7 ∷ 11 ∷ 18 ∷ 9 ∷ 8 ∷ 16 ∷ 15 ∷ 10 ∷ []) m
  other m p e (inl one) = absurd (omega (arith, only-long d xs last p (rw one at e)))
  other m p e (inr (inl thirteen)) =
      let fit = after-fit d R xs (units_in d xs) in
      let unfit = (only-unfit d xs last p (rw thirteen at e)).1 in
      let z : ◌≡◌ {A = ℕ} 0 1 = cc (fit, unfit) in
      absurd (omega arith)
  other m p e (inr (inr a)) = a

  verdicts : (k : Kind) (h m p : ℕ) → frame_in d xs ≡ Item k h (length xs) → judge_in d xs ≡ Refused m p
      → Among (4 ∷ 5 ∷ 19 ∷ 6 ∷ 7 ∷ 11 ∷ 18 ∷ 9 ∷ 8 ∷ 16 ∷ 15 ∷ 10 ∷ []) m
  verdicts k h m p e j = let f = verdict-at k h m p e j in other m p f (step-refuses d R xs last m p f).listed

of-stream : (d : Domain) → Reader d → (xs : List ℕ) → StreamClaims d xs
of-stream d R xs = record {
  refuses = λ w m p e. (step-refuses d R xs w m p e, step-low d R xs w m p e, stays d xs w (rw e tt));
  accepts = step-accepts d R xs;
  finishes = step-finishes d R xs;
  one = long-one d xs;
  only_one = only-long d xs;
  thirteen = unfit-thirteen d xs;
  only-thirteen = only-unfit d xs;
  fit-on-the-way = after-fit d R xs;
  keeps-fit = keeps-fit d R xs;
  stays = stays d xs;
  yields = λ w. behind d R w xs;
  innermost = innermost d xs;
  never_back = λ w. (moves d xs w).never_back;
  moves-on = λ w. (moves d xs w).on;
  ends = ends d xs;
  ended = after_stop d xs;
  outer = all-outer d R xs;
  outer-front = front d xs (rows_in d xs);
  outer-all = all-accepted d xs;
  first = stops_first d R xs;
  last = λ short k h. subst (Last (rows_in d xs) (remainder_in d xs)) (sym (stops_first d R xs short k h)) (last-answer d xs);
  item = λ k h short e j s. stops_first d R xs short j s ∙ ap found_of (own_first d R xs k h e);
  verdicts = λ k h m p short. verdicts d R xs short k h m p;
}

of-both : FormClaims
of-both = record {
  text-step = λ t w. same_step t (to_binary t) (text_same t w) w.short (binary-whole t w).short;
  binary-step = λ b w. same_step (to_text b) b (binary-same b w) (text-whole b w).short w.short;
  text-walk = λ t w. same_after t (to_binary t) (text_same t w) w.short (binary-whole t w).short;
  binary-walk = λ b w. same_after (to_text b) b (binary-same b w) (text-whole b w).short w.short;
}

pub proved : WalkClaims
proved = record {
  tests = record { only-fit = fit-facts; every-fit = fit-made };
  of-text = of-stream text text-reader;
  of-binary = of-stream binary binary-reader;
  of-both = of-both;
}
