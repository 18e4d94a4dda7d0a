-- The last byte of a row, and a row with its refusal's, one law for each way through the code. Assumes nothing.
use Prim.Native.Nat.{ℕ, ◌+◌, ◌-◌, ◌≤◌, ◌<◌}
use mathlib.Core.Path.{◌≡◌, ◌∙◌}
use mathlib.Core.List.{List, [], ◌∷◌, ◌++◌}
use native.Mathlib.Omega.{arith}
use lib.ListN.{length, set}
use borrow.Author.Tests.{le-leb, lt-leb}
use Rattle.format.specs.declared.Verdict.{Verdict}
use Rattle.format.specs.Report.{be4, refusal_bytes, concat, refusal, verdict_byte}
use Rattle.report_rows.specs.Stores.{put}
use Rattle.mixed_rows.specs.Rows.{item_put}

module _ (out : List ℕ) (at form : ℕ) where
  pub form-short : length out < 10 → out ≡ put out (at + 9) (form ∷ [])
  unfolding put
  form-short h = rw (lt-leb (at + 9 + 1) (length out) (omega arith))

  pub form-past : 10 ≤ length out → length out - 10 < at → out ≡ put out (at + 9) (form ∷ [])
  unfolding put
  form-past h l = rw (lt-leb (at + 9 + 1) (length out) (omega arith))

  pub form-put : 10 ≤ length out → at ≤ length out - 10 → set out (at + 9) form ≡ put out (at + 9) (form ∷ [])
  unfolding put
  form-put h l = rw (le-leb (at + 9 + 1) (length out) (omega arith))

pub item-is : (out : List ℕ) (at to index offset size : ℕ) (v : Verdict) (form : ℕ) {mid after : List ℕ}
    → mid ≡ put (put out at (be4 offset ++ (be4 size ++ (verdict_byte v ∷ [])))) to (concat refusal_bytes (refusal index v))
    → after ≡ put mid (at + 9) (form ∷ []) → after ≡ item_put out at to index offset size v form
unfolding item_put
item-is out at to index offset size v form m a = a ∙ rw m
