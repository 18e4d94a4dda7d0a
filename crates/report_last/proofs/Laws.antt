-- The last stores of a report: by the way that its rows ended, and as they make up its last sections. Assumes nothing.
use Prim.Native.Nat.{ℕ, ◌+◌, ◌*◌, ◌≤◌}
use mathlib.Core.Path.{◌≡◌, sym, ap, ◌∙◌, subst}
use mathlib.Core.List.{List, [], ◌∷◌, ◌++◌}
use native.Mathlib.Omega.{arith}
use lib.ListN.{length, length-append}
use lib.Seq.{sets, length-sets}
use Rattle.format.specs.Report.{be4}
use Rattle.filling.specs.Stores.{be4-long}
use Rattle.report_rows.specs.Stores.{put, put-fits}
use Rattle.report_last.specs.Last.{refused_of, Last}
use Rattle.report_last.specs.declared.End.{End}
use Rattle.report_last.specs.declared.End.TheVariants.{Whole, Rest}

-- ---- by the way that the rows ended

pub of-whole : (e : End) (k : ℕ) → e ≡ Whole k → k ≡ refused_of e
unfolding refused_of
of-whole e k q = rw q

pub of-rest : (e : End) (p k x : ℕ) → e ≡ Rest p k x → k ≡ refused_of e
unfolding refused_of
of-rest e p k x q = rw q

pub whole-few : (at : ℕ) (e : End) (k : ℕ) → at + 9 * refused_of e ≤ 9223372036854775807 → e ≡ Whole k → at + 9 * k ≤ 9223372036854775807
whole-few at e k h q = omega (arith, of-whole e k q)

pub rest-few : (at : ℕ) (e : End) (p k x : ℕ) → at + 9 * refused_of e ≤ 9223372036854775807 → e ≡ Rest p k x → at + 9 * k ≤ 9223372036854775807
rest-few at e p k x h q = omega (arith, of-rest e p k x q)

pub last-by : (at : ℕ) (e e' : End) (out : List ℕ) (r : ℕ) (out' : List ℕ) → e ≡ e' → Last at e' out r out' → Last at e out r out'
last-by at e e' out r out' q L = subst (λ (x : End). Last at x out r out') (sym q) L

-- ---- one store behind the other

pub counts-put : (out : List ℕ) (at k rest : ℕ) {one two : List ℕ} → one ≡ put out at (be4 k) → two ≡ put one (at + 4 + 9 * k) (be4 rest)
    → two ≡ put (put out at (be4 k)) (at + 4 + 9 * k) (be4 rest)
counts-put out at k rest a b = b ∙ rw a

pub rest_put : (out : List ℕ) (at k p x end : ℕ) {mid after : List ℕ} → end ≡ at + 8 + 9 * k → mid ≡ put (put out at (be4 k)) (at + 4 + 9 * k) (be4 1)
    → after ≡ put mid end (be4 p ++ (x ∷ []))
    → after ≡ put (put (put out at (be4 k)) (at + 4 + 9 * k) (be4 1)) (at + 8 + 9 * k) (be4 p ++ (x ∷ []))
rest_put out at k p x end e a b = b ∙ rw (a, e)

-- ---- as they make up the last sections

pub puts : (o : List ℕ) (p : ℕ) (x : List ℕ) {after : List ℕ} → p + length x ≤ length o → after ≡ put o p x → after ≡ sets o p x
puts o p x h e = e ∙ put-fits o p x h

-- a buffer with room for them, whatever the width of the rows in front
module _ (o : List ℕ) (at k : ℕ) (room : at + 13 + 9 * k ≤ length o) {one two : List ℕ} (a : one ≡ put o at (be4 k)) where
  pub put-counts : (c : ℕ) → two ≡ put one (at + 4 + 9 * k) (be4 c) → two ≡ sets (sets o at (be4 k)) (at + 4 + 9 * k) (be4 c)
  put-counts c b =
      let x = puts o at (be4 k) (omega (arith, be4-long k)) a in
      puts (sets o at (be4 k)) (at + 4 + 9 * k) (be4 c) (omega (arith, be4-long c, length-sets o at (be4 k))) (b ∙ rw x)

  pub put_last : {three : List ℕ} (p m : ℕ) → two ≡ put one (at + 4 + 9 * k) (be4 1) → three ≡ put two (at + 8 + 9 * k) (be4 p ++ (m ∷ []))
      → three ≡ sets (sets (sets o at (be4 k)) (at + 4 + 9 * k) (be4 1)) (at + 8 + 9 * k) (be4 p ++ (m ∷ []))
  put_last p m b c =
      let y = put-counts 1 b in
      let z : length (be4 p ++ (m ∷ [])) ≡ 5 = length-append (be4 p) (m ∷ []) ∙ omega (arith, be4-long p) in
      let w = length-sets (sets o at (be4 k)) (at + 4 + 9 * k) (be4 1) in
      puts _ (at + 8 + 9 * k) (be4 p ++ (m ∷ [])) (omega (arith, length-sets o at (be4 k))) (c ∙ rw y)
