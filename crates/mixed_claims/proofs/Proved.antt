-- The claims on mixed streams hold. Assumes nothing.
use Rattle.std.specs.Prelude.{ℕ, ◌+◌, ◌*◌, ◌≡◌, refl, List, ltb, length}
use Rattle.std.proofs.Common.{arith}
use Rattle.base.specs.Pick.{pick-by}
use Rattle.format.specs.declared.Form.TheVariants.{Text, Binary}
use Rattle.format.specs.declared.Kind.{Kind}
use Rattle.format.specs.declared.Kind.TheVariants.{Genus}
use Rattle.format.specs.Report.{rows, remainder}
use Rattle.mixed.specs.declared.Start.TheVariants.{Cesr, Json}
use Rattle.mixed.specs.Mixed.{form_byte, frame_with, judge_mixed, rows_mixed, remainder_mixed, mixed_report, mixed_limit, mixed_answer, mixed_left}
use Rattle.mixed_claims.specs.Claims.{Forms, JsonClaims, CallClaims, MixedClaims}
use Rattle.mixed_claims.proofs.Header.{json-refuses, json-accepts, json-sizes, total-digits}
use Rattle.mixed_claims.proofs.Ratio.{byte-as, starts-text, starts-binary, starts-json}
use Rattle.mixed_claims.proofs.Room.{report-long, call-refuses, call-accepts}
use Rattle.mixed_claims.proofs.Kinded.{cut-kind-free}
use Rattle.mixed_claims.proofs.Demand3.{demand3}
use Rattle.mixed_claims.proofs.Items.{other-remains, formed, not-judged, cesr}
use Rattle.std.specs.Prelude.{Ok, Err, Result}
use Rattle.format.specs.declared.Refusal.{Refusal}

kind-free : (k : Kind) (xs : List ℕ) → (rows (frame_with k) judge_mixed xs ≡ rows_mixed xs) × (remainder (frame_with k) judge_mixed xs ≡ remainder_mixed xs)
unfolding rows remainder
kind-free k xs = rw (cut-kind-free k Genus xs) (refl, refl)

forms : Forms
unfolding form_byte
forms = record {
  text = λ b e. byte-as b (Cesr Text) e;
  is-text = starts-text 45 refl;
  binary = λ b e. byte-as b (Cesr Binary) e;
  is-binary = starts-binary;
  json = λ b e. byte-as b Json e;
  is-json = starts-json;
  other = other-remains;
  formed = formed;
  last-bytes = (refl, refl, refl);
  kind-free = kind-free;
}

json : JsonClaims
json = record { refuses = json-refuses; accepts = json-accepts; sizes = json-sizes; total = total-digits; not-judged = not-judged }

-- what an answer says: a refusal's place is 0, and a length is the report's
abbrev Says : List ℕ → Result ℕ (Refusal ℕ) → Type 0
Says xs (Ok n) = n ≡ length (mixed_report xs)
Says xs (Err r) = r.place ≡ 0

says : (xs : List ℕ) (room : ℕ) → Says xs (mixed_answer xs room)
unfolding mixed_answer
says xs room =
    pick-by (Says xs) (ltb mixed_limit (length xs)) _ _ (λ _. refl)
    (λ _. pick-by (Says xs) (ltb room (17 + 19 * length (rows_mixed xs))) _ _ (λ _. refl) (λ _. refl))

call : CallClaims
unfolding mixed_left
call = record {
  refuses = λ xs out m p e. (call-refuses xs (length out) m p e, rw e at (says xs (length out)), rw e);
  accepts = λ xs room n e. (call-accepts xs room n e, rw e at (says xs room));
  fits = λ xs. omega (arith, report-long xs, demand3.counts xs, demand3.apart xs);
}

pub proved : MixedClaims
proved = record { forms = forms; json = json; call = call; demand3 = demand3; cesr = cesr }
