-- The report's length, and that the room the call asks for, 17 + 18 x items, is enough. Assumes nothing.
use Rattle.std.specs.Prelude.{ℕ, suc, ◌+◌, ◌*◌, ◌≤◌, ◌≡◌, refl, List, [], ◌∷◌, length}
use Rattle.std.proofs.Common.{arith, length-append}
use Rattle.format.specs.Units.{Domain}
use Rattle.format.specs.Report.{ItemRow, RefusalRow, RemainderRow, rows_in, refusals_in, remainder_in}
use Rattle.format.specs.Report.{be4, row_bytes, refusal_bytes, remainder_bytes, concat, section, report}
use Rattle.claims.specs.Claims.{Demand3}

concat-length : {A : Type 0} (f : A → List ℕ) (n : ℕ) → ((a : A) → length (f a) ≡ n) → (l : List A) → length (concat f l) ≡ n * length l
unfolding concat
concat-length f n h [] = omega arith
concat-length f n h (a ∷ l) =
    let z : n * suc (length l) ≡ n + n * length l = omega arith in
    rw (length-append, h a, concat-length f n h l, z)

section-length : {A : Type 0} (f : A → List ℕ) (n : ℕ) → ((a : A) → length (f a) ≡ n) → (l : List A)
    → length (section f l) ≡ 4 + n * length l
unfolding section be4
section-length f n h l = rw (concat-length f n h l) (omega arith)

row-nine : (r : ItemRow) → length (row_bytes r) ≡ 9
unfolding row_bytes be4
row-nine r = refl

refusal-nine : (r : RefusalRow) → length (refusal_bytes r) ≡ 9
unfolding refusal_bytes be4
refusal-nine r = refl

remainder-five : (r : RemainderRow) → length (remainder_bytes r) ≡ 5
unfolding remainder_bytes be4
remainder-five r = refl

pub report-length : (d : Domain) (xs : List ℕ)
    → length (report d xs) ≡ 12 + 9 * length (rows_in d xs) + 9 * length (refusals_in d xs) + 5 * length (remainder_in d xs)
unfolding report
report-length d xs =
    rw (
      length-append (section row_bytes (rows_in d xs)),
      length-append (section refusal_bytes (refusals_in d xs)),
      section-length row_bytes 9 row-nine (rows_in d xs),
      section-length refusal_bytes 9 refusal-nine (refusals_in d xs),
      section-length remainder_bytes 5 remainder-five (remainder_in d xs),
    )
    (omega arith)

pub report-fits : (d : Domain) → Demand3 d → (xs : List ℕ) → length (report d xs) ≤ 17 + 18 * length (rows_in d xs)
report-fits d D xs = omega (arith, report-length d xs, D.apart xs, D.counts xs)
