-- The stores as the definition has them. Assumes nothing.
use Prim.Native.Nat.{ℕ, zero, suc, ◌+◌, ◌-◌, ◌*◌, ◌/◌, ◌%◌, ◌≤◌, ◌<◌}
use mathlib.Core.Path.{◌≡◌, refl, sym, ap, ◌∙◌}
use mathlib.Core.Bool.{Bool, true, false}
use mathlib.Core.List.{List, [], ◌∷◌, ◌++◌}
use native.Mathlib.Omega.{arith}
use lib.ListN.{length}
use borrow.Author.Tests.{lt-leb}
use Rattle.format.specs.declared.Verdict.{Verdict}
use Rattle.format.specs.declared.Verdict.TheVariants.{Accepted, Refused}
use Rattle.format.specs.Report.{be4, row_bytes, refusal_bytes, concat, refusal, verdict_byte, placed}
use Rattle.report_rows.specs.Stores.{put}
use Rattle.pieces.specs.Headers.{verdict_of}
use Rattle.pieces_stage.specs.declared.Stage.{Stage}
use Rattle.pieces_rows.specs.Rows.{Put, row_in}

pub none-placed : (u number place : ℕ) → number ≡ 0 → Accepted ≡ placed u (verdict_of number place)
unfolding verdict_of placed
none-placed u number place e = rw e

pub some-placed : (u number place : ℕ) → (number ≡ 0 → ⊥) → Refused number (place / 4 * u + place % 4) ≡ placed u (verdict_of number place)
unfolding verdict_of placed
some-placed u zero place e = absurd (e refl)
some-placed u (suc n) place e = refl

byte-is : (u number place : ℕ) → verdict_byte (placed u (verdict_of number place)) ≡ number
unfolding verdict_of placed verdict_byte
byte-is u zero place = refl
byte-is u (suc n) place = refl

-- nothing fits behind the end
past_end : (out bs : List ℕ) → 0 < length bs → put out (length out) bs ≡ out
unfolding put
past_end out bs h = rw (lt-leb (length out + length bs) (length out) (omega arith))

pub both-put : (u : ℕ) (g : Stage) (i j : ℕ) (items items' refusals refusals' : List ℕ) (r offset size : ℕ) (v : Verdict)
    → offset ≡ g.start * u → size ≡ (g.read - g.start) * u → v ≡ placed u (verdict_of g.number g.place)
    → items' ≡ put items (9 * i) (be4 offset ++ (be4 size ++ (g.number ∷ [])))
    → (r ≡ length (refusal g.items v))
    × (refusals' ≡ put (put refusals (length refusals) (be4 0 ++ (be4 0 ++ (verdict_byte v ∷ [])))) (9 * j) (concat refusal_bytes (refusal g.items v)))
    → Put u g i j items items' refusals refusals' r
unfolding row_bytes be4
both-put u g i j items items' refusals refusals' r offset size v eo es ev er ef = record {
  row = er ∙ rw (eo, es, byte-is u g.number g.place);
  refused = ef.1 ∙ rw (past_end refusals (be4 0 ++ (be4 0 ++ (verdict_byte v ∷ []))) (omega arith), ev);
  many = ef.0 ∙ rw ev;
}
