-- Sections read back from their bytes. Assumes nothing.
use Prim.Native.Nat.{ℕ, suc, ◌+◌, ◌*◌, ◌/◌, ◌%◌, ◌<◌}
use Rattle.std.specs.Prelude.{◌≡◌, get_or, drop}
use Rattle.std.proofs.Math.Path.{refl}
use Rattle.std.proofs.Common.{ap, ◌∙◌, length-append, take_at, le-ltb}
use mathlib.Core.List.{List, [], ◌∷◌, ◌++◌, map, append_assoc}
use native.Mathlib.Omega.{arith}
use Rattle.std.proofs.Math.ListN.{length, get_or-append}
use Rattle.std.proofs.Math.Seq.{drop_at}
use Rattle.base.specs.Digits.{number_of}
use Rattle.format.specs.Report.{be4, concat}
use Rattle.expectation.specs.Expectation.{rows, count_at, section_of, column}

-- four digits
count-back : (n : ℕ) → n < 4294967296 → number_of 256 (be4 n) ≡ n
unfolding be4
count-back n few =
    let a : n ≡ n / 256 * 256 + n % 256 = omega arith in
    let b : n / 256 ≡ n / 65536 * 256 + n / 256 % 256 = omega arith in
    let c : n / 65536 ≡ n / 16777216 * 256 + n / 65536 % 256 = omega arith in
    let e : n / 16777216 % 256 ≡ n / 16777216 = omega arith in
    omega arith

pub four : (n : ℕ) → length (be4 n) ≡ 4
unfolding be4
four n = refl

pub count_of : (n : ℕ) (body rest : List ℕ) → n < 4294967296 → count_at ((be4 n ++ body) ++ rest) ≡ n
count_of n body rest few =
    ap count_at (append_assoc (be4 n) body rest) ∙ ap (number_of 256) (take_at (be4 n) (body ++ rest) 4 (four n)) ∙ count-back n few

-- a count and its bytes, with more behind
pub reads_section : (width n : ℕ) (body rest : List ℕ) → n < 4294967296 → length body ≡ width * n
    → section_of width ((be4 n ++ body) ++ rest) ≡ rows n body rest
unfolding section_of
reads_section width n body rest few l =
    let z : (be4 n ++ body) ++ rest ≡ be4 n ++ (body ++ rest) = append_assoc (be4 n) body rest in
    let c : count_at (be4 n ++ (body ++ rest)) ≡ n = ap (number_of 256) (take_at (be4 n) (body ++ rest) 4 (four n)) ∙ count-back n few in
    let d : drop 4 (be4 n ++ (body ++ rest)) ≡ body ++ rest = drop_at (be4 n) (body ++ rest) 4 (four n) in
    rw (
      z,
      le-ltb (length (be4 n ++ (body ++ rest))) 4 (omega (arith, length-append (be4 n) (body ++ rest), four n)),
      c,
      d,
      le-ltb (length (body ++ rest)) (width * n) (omega (arith, length-append body rest)),
      take_at body rest (width * n) l,
      drop_at body rest (width * n) l,
    )

-- one byte of each row
module _ {A : Type 0} (f : A → List ℕ) (g : A → ℕ) (width j : ℕ) (size : (a : A) → length (f a) ≡ width) (lt : j < width)
    (byte : (a : A) → get_or (f a) j 0 ≡ g a) where
  pub reads-column : (l : List A) → column width j (length l) (concat f l) ≡ map g l
  unfolding column concat
  reads-column [] = refl
  reads-column (a ∷ l) =
      rw (get_or-append (f a) (concat f l) 0 j (omega (arith, size a)), byte a, drop_at (f a) (concat f l) width (size a), reads-column l)

  pub concat-size : (l : List A) → length (concat f l) ≡ width * length l
  unfolding concat
  concat-size [] = omega arith
  concat-size (a ∷ l) =
      let z : width * suc (length l) ≡ width + width * length l = omega arith in
      rw (length-append, size a, concat-size l, z)

-- one byte a row
pub column-self : (xs : List ℕ) → column 1 0 (length xs) xs ≡ xs
unfolding column
column-self [] = refl
column-self (x ∷ xs) = ap (λ (l : List ℕ). x ∷ l) (column-self xs)
