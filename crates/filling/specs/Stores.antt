-- Stores one behind the other, and the lengths of a report's parts. Assumes nothing.
use Rattle.std.specs.Prelude.{ℕ, zero, suc, ◌+◌, ◌*◌, ◌≤◌, ◌<◌, ◌≡◌, refl, List, [], ◌∷◌, ◌++◌, length, set}
use Rattle.std.proofs.Common.{sym, ◌∙◌, append-nil, append_assoc, arith, length-append}
use Rattle.std.proofs.lemmas.List.Edits.{sets}
use Rattle.std.proofs.lemmas.List.{set_comm}
use Rattle.format.specs.declared.Verdict.{Verdict}
use Rattle.format.specs.declared.Verdict.TheVariants.{Accepted}
use Rattle.format.specs.Report.{ItemRow, RefusalRow, be4, row_bytes, refusal_bytes, concat}

abbrev pub row_with : ℕ → ℕ → Verdict → ItemRow
row_with at size v = record { offset = at; size = size; verdict = v }

-- the rows of r accepted items of one size that follow one another
unfoldable pub run_of : ℕ → ℕ → ℕ → List ItemRow
run_of at size zero = []
run_of at size (suc r) = run_of at size r ++ (row_with (at + r * size) size Accepted ∷ [])

pub run_long : (at size r : ℕ) → length (run_of at size r) ≡ r
unfolding run_of
run_long at size zero = refl
run_long at size (suc r) = omega (arith, length-append (run_of at size r) (row_with (at + r * size) size Accepted ∷ []), run_long at size r)

-- ---- runs of stores

pub sets-append : (l : List ℕ) (i : ℕ) (us bs : List ℕ) → sets (sets l i us) (i + length us) bs ≡ sets l i (us ++ bs)
sets-append l i [] bs = let z : i + 0 ≡ i = omega arith in rw z
sets-append l i (a ∷ us) bs =
    let z : i + suc (length us) ≡ suc i + length us = omega arith in
    rw z (sets-append (set l i a) (suc i) us bs)

set-sets : (l : List ℕ) (i a j : ℕ) (bs : List ℕ) → i < j → set (sets l j bs) i a ≡ sets (set l i a) j bs
set-sets l i a j [] h = refl
set-sets l i a j (b ∷ bs) h = set-sets (set l j b) i a (suc j) bs (omega arith) ∙ rw (set_comm l j i b a (λ e. omega arith))

-- stores to parts that do not meet
pub sets-comm : (l : List ℕ) (i : ℕ) (us : List ℕ) (j : ℕ) (bs : List ℕ) → i + length us ≤ j
    → sets (sets l j bs) i us ≡ sets (sets l i us) j bs
sets-comm l i [] j bs h = refl
sets-comm l i (a ∷ us) j bs h = rw (set-sets l i a j bs (omega arith)) (sets-comm (set l i a) (suc i) us j bs (omega arith))

-- ---- sections

pub concat-append {ℓ} : {A : Type ℓ} (f : A → List ℕ) (us bs : List A) → concat f (us ++ bs) ≡ concat f us ++ concat f bs
unfolding concat
concat-append f [] bs = refl
concat-append f (a ∷ us) bs = rw (concat-append f us bs) (sym (append_assoc (f a) (concat f us) (concat f bs)))

pub concat-snoc {ℓ} : {A : Type ℓ} (f : A → List ℕ) (us : List A) (a : A) → concat f (us ++ (a ∷ [])) ≡ concat f us ++ f a
unfolding concat
concat-snoc f us a = concat-append f us (a ∷ []) ∙ rw append-nil

pub concat-long {ℓ} : {A : Type ℓ} (f : A → List ℕ) (w : ℕ) → ((a : A) → length (f a) ≡ w) → (us : List A) → length (concat f us) ≡ w * length us
unfolding concat
concat-long f w h [] = omega arith
concat-long f w h (a ∷ us) =
    let z : w * suc (length us) ≡ w + w * length us = omega arith in
    rw (length-append, h a, concat-long f w h us, z)

pub be4-long : (n : ℕ) → length (be4 n) ≡ 4
unfolding be4
be4-long n = refl

pub row-long : (r : ItemRow) → length (row_bytes r) ≡ 9
unfolding row_bytes be4
row-long r = refl

pub refusal-long : (r : RefusalRow) → length (refusal_bytes r) ≡ 9
unfolding refusal_bytes be4
refusal-long r = refl
