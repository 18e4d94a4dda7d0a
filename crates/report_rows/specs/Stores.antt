-- What a buffer holds after bytes are stored at a place of it, where they fit. Assumes nothing.
use Rattle.std.specs.Prelude.{ℕ, suc, ◌+◌, ◌*◌, ◌≤◌, ◌≡◌, refl, List, [], ◌∷◌, ◌++◌, leb, length, Bool, true, false}
use Rattle.std.proofs.Common.{sym, ◌∙◌, arith, suc-mul, le-leb, leb-true}
use Rattle.std.proofs.lemmas.List.Edits.{sets}
use Rattle.base.specs.Pick.{pick, pick-by}
use Rattle.format.specs.declared.Verdict.TheVariants.{Accepted}
use Rattle.format.specs.Report.{be4, row_bytes, verdict_byte, concat}
use Rattle.filling.specs.Stores.{row_with, run_of, sets-append, concat-snoc, concat-long, row-long, run_long}

-- the bytes where they fit, and else what it held
unfoldable pub put : List ℕ → ℕ → List ℕ → List ℕ
put out at bs = pick (leb (at + length bs) (length out)) (sets out at bs) out

pub put-fits : (out : List ℕ) (at : ℕ) (bs : List ℕ) → at + length bs ≤ length out → put out at bs ≡ sets out at bs
unfolding put
put-fits out at bs h = rw (le-leb _ _ h)

-- ---- what the code stores

-- nothing to store
pub none-put : (out : List ℕ) (to : ℕ) → put out to [] ≡ out
unfolding put
none-put out to = pick-by (λ (l : List ℕ). l ≡ out) (leb (to + 0) (length out)) out out (λ _. refl) (λ _. refl)

pub run-start : (out : List ℕ) (at o size : ℕ) → out ≡ sets out at (concat row_bytes (run_of o size 0))
unfolding run_of concat
run-start out at o size = refl

pub run_more : (out : List ℕ) (at o size r p : ℕ) {mid after : List ℕ} → mid ≡ sets out at (concat row_bytes (run_of o size r)) → p ≡ o + r * size
    → after ≡ sets mid (at + 9 * r) (be4 p ++ (be4 size ++ (0 ∷ []))) → after ≡ sets out at (concat row_bytes (run_of o size (r + 1)))
unfolding run_of row_bytes verdict_byte
run_more out at o size r p e q f =
    let z : r + 1 ≡ suc r = omega arith in
    let y : 9 * r ≡ length (concat row_bytes (run_of o size r)) = omega (arith, concat-long row_bytes 9 row-long (run_of o size r), run_long o size r) in
    f ∙ rw (e, y, sets-append out at (concat row_bytes (run_of o size r)) (be4 p ++ (be4 size ++ (0 ∷ []))), q, z, concat-snoc row_bytes (run_of o size r) (row_with (o + r * size) size Accepted))

pub next_place : (p at size r : ℕ) → p ≡ at + r * size → p + size ≡ at + (r + 1) * size
next_place p at size r e = let z : r + 1 ≡ suc r = omega arith in rw z (omega (arith, suc-mul r size))

-- ---- by a test whether n bytes fit

module _ (out : List ℕ) (at n : ℕ) (b : Bool) (is : b ≡ leb (at + n) (length out)) where
  pub test_fits : b ≡ true → at + n ≤ length out
  test_fits t = leb-true _ _ (sym is ∙ t)

  pub test-not : b ≡ false → at + n ≤ length out → ⊥
  test-not t h = let z : ◌≡◌ {A = Bool} true false = sym (le-leb _ _ h) ∙ sym is ∙ t in let y : ◌≡◌ {A = ℕ} 0 1 = cc in omega arith

  pub test-put : (bs : List ℕ) → length bs ≡ n → b ≡ true → {after : List ℕ} → after ≡ sets out at bs → after ≡ put out at bs
  unfolding put
  test-put bs l t e = e ∙ rw (l, ← is, t)

  pub test-left : (bs : List ℕ) → length bs ≡ n → b ≡ false → out ≡ put out at bs
  unfolding put
  test-left bs l t = rw (l, ← is, t)
