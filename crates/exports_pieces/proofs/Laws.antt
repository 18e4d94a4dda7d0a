-- What a call gives in C's own numbers. Assumes nothing.
use Prim.Native.Nat.{ℕ}
use mathlib.Core.Path.{◌≡◌, refl, sym, ap, ◌∙◌, subst}
use mathlib.Core.List.{List}
use lib.ListN.{length}
use Rattle.format.specs.Units.{Domain}
use Rattle.pieces.specs.declared.Pieces.{Pieces}
use Rattle.pieces.specs.declared.Fed.{Fed}
use Rattle.pieces.specs.declared.Closed.{Closed}
use Rattle.pieces.specs.Calls.{feed_answer, feed_state, feed, items_left, refusals_left, end_answer, end_state, finish, remainder_left}
use Rattle.exports_pieces.specs.Answers.{given_number, given_lengths, fed_numbers, closing_number, closing_length, ended_numbers, Kept, Stayed}
use Rattle.exports_pieces_state.specs.Numbers.{pieces_in}
use Rattle.std.specs.Prelude.{Ok, Err, Result}
use Rattle.format.specs.declared.Refusal.{Refusal}
use Rattle.pieces.specs.declared.Rows.{Rows}

fed-kept : (g : Result Rows (Refusal ℕ)) (d : Domain) (st : Pieces) (piece : List ℕ) → Kept g (feed_state g d st piece) st
unfolding feed_state
fed-kept (Ok rows) d st piece = tt
fed-kept (Err e) d st piece = refl

-- a refused piece leaves the state
pub feed-kept : (d : Domain) (st : Pieces) (piece : List ℕ) (n m : ℕ) → Kept (feed d st piece n m).given (feed d st piece n m).next st
unfolding feed
feed-kept d st piece n m = fed-kept (feed_answer d st piece n m) d st piece

ended-stayed : (g : Result ℕ (Refusal ℕ)) (st : Pieces) → Stayed g (end_state g st) st
unfolding end_state
ended-stayed (Ok n) st = tt
ended-stayed (Err why) st = refl

-- and so does an end that is refused
pub finish-stayed : (d : Domain) (st : Pieces) (n : ℕ) → Stayed (finish d st n).closing (finish d st n).next st
unfolding finish
finish-stayed d st n = ended-stayed (end_answer d st n) st

module _ (d : Domain) (S st : Pieces) (e : st ≡ S) (piece items items' refusals refusals' : List ℕ) (r : Fed)
    (er : r ≡ feed d st piece (length items) (length refusals)) (ei : items' ≡ items_left r.given d st piece items)
    (ef : refusals' ≡ refusals_left r.given d st piece refusals) where
  abbrev R : Fed
  R = feed d S piece (length items) (length refusals)

  is : r ≡ R
  is = er ∙ ap (λ (s : Pieces). feed d s piece (length items) (length refusals)) e

  -- the call over the numbers that were lent
  pub feed-gives : (number : ℕ) (lengths before after : List ℕ) → number ≡ given_number r.given → lengths ≡ given_lengths r.given
      → after ≡ fed_numbers r.given r.next before → (Kept r.given r.next S → pieces_in after ≡ r.next)
      → (number ≡ given_number R.given) × ((lengths ≡ given_lengths R.given) × ((after ≡ fed_numbers R.given R.next before)
      × ((pieces_in after ≡ R.next) × ((items' ≡ items_left R.given d S piece items) × (refusals' ≡ refusals_left R.given d S piece refusals)))))
  feed-gives number lengths before after en el ea back = (
    en ∙ ap (λ (x : Fed). given_number x.given) is,
    (
      el ∙ ap (λ (x : Fed). given_lengths x.given) is,
      (
        ea ∙ ap (λ (x : Fed). fed_numbers x.given x.next before) is,
        (
          back (subst (λ (x : Fed). Kept x.given x.next S) (sym is) (feed-kept d S piece (length items) (length refusals))) ∙ ap (λ (x : Fed). x.next) is,
          (
            ei ∙ ap (λ (x : Fed). items_left x.given d st piece items) is ∙ ap (λ (s : Pieces). items_left R.given d s piece items) e,
            ef ∙ ap (λ (x : Fed). refusals_left x.given d st piece refusals) is ∙ ap (λ (s : Pieces). refusals_left R.given d s piece refusals) e,
          ),
        ),
      ),
    ),
  )

module _ (d : Domain) (S st : Pieces) (e : st ≡ S) (out out' : List ℕ) (r : Closed) (er : r ≡ finish d st (length out))
    (eo : out' ≡ remainder_left r.closing d st out) where
  abbrev Q : Closed
  Q = finish d S (length out)

  so : r ≡ Q
  so = er ∙ ap (λ (s : Pieces). finish d s (length out)) e

  pub end-gives : (number answer : ℕ) (before after : List ℕ) → number ≡ closing_number r.closing → answer ≡ closing_length r.closing
      → after ≡ ended_numbers r.closing r.next before → (Stayed r.closing r.next S → pieces_in after ≡ r.next)
      → (number ≡ closing_number Q.closing) × ((answer ≡ closing_length Q.closing) × ((after ≡ ended_numbers Q.closing Q.next before)
      × ((pieces_in after ≡ Q.next) × (out' ≡ remainder_left Q.closing d S out))))
  end-gives number answer before after en el ea back = (
    en ∙ ap (λ (x : Closed). closing_number x.closing) so,
    (
      el ∙ ap (λ (x : Closed). closing_length x.closing) so,
      (
        ea ∙ ap (λ (x : Closed). ended_numbers x.closing x.next before) so,
        (
          back (subst (λ (x : Closed). Stayed x.closing x.next S) (sym so) (finish-stayed d S (length out))) ∙ ap (λ (x : Closed). x.next) so,
          eo ∙ ap (λ (x : Closed). remainder_left x.closing d st out) so ∙ ap (λ (s : Pieces). remainder_left Q.closing d s out) e,
        ),
      ),
    ),
  )
