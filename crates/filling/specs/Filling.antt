-- A report as runs of stores build it: the rows so far from the buffer's start, the refusal rows so far where they are to stand. One
-- law over the framing, the judge of an item's own bytes, a row's bytes and their number. Assumes nothing.
use Prim.Native.Nat.{ℕ, zero, suc, ◌+◌, ◌*◌, ◌≤◌, ◌<◌}
use Rattle.std.specs.Prelude.{◌≡◌, refl, take, drop}
use Rattle.std.proofs.Math.Path.{sym, ap}
use Rattle.std.proofs.Common.{◌∙◌, mul-le-mul_left, drop_of_length-le, drop-drop}
use mathlib.Core.List.{List, [], ◌∷◌, ◌++◌, append-nil, append_assoc}
use native.Mathlib.Omega.{arith}
use Rattle.std.proofs.Math.Nat.{mul-add, suc-mul}
use Rattle.std.proofs.Math.ListN.{length, length-append, length-drop}
use Rattle.std.proofs.Math.Seq.{sets}
use Rattle.format.specs.declared.Kind.{Kind}
use Rattle.format.specs.declared.Framed.{Framed}
use Rattle.format.specs.declared.Framed.TheVariants.{Item, Unframed}
use Rattle.format.specs.declared.Verdict.{Verdict}
use Rattle.format.specs.declared.Verdict.TheVariants.{Accepted, Refused}
use Rattle.format.specs.Cutting.{cut}
use Rattle.format.specs.Judging.{shift}
use Rattle.format.specs.Report.{ItemRow, RemainderRow, rows_of, remainder_of, rows, remainder, refusal, refusals_of, refusals}
use Rattle.format.specs.Report.{be4, refusal_bytes, remainder_bytes, concat, section}
use Rattle.damage.specs.Words.{Frames}
use Rattle.damage.proofs.Cuts as C
use Rattle.damage.proofs.Damage.{rows-item, remainder-item}
use Rattle.filling.specs.Stores.{row_with, run_of, sets-append, sets-comm, concat-append, concat-snoc, concat-long, be4-long, refusal-long, run_long}

-- ---- refusals

pub refusal-few : (j : ℕ) (v : Verdict) → length (refusal j v) ≤ 1
unfolding refusal
refusal-few j Accepted = omega arith
refusal-few j (Refused n p) = omega arith

refusals-few : (k : ℕ) (rs : List ItemRow) → length (refusals_of k rs) ≤ length rs
unfolding refusals_of
refusals-few k [] = omega arith
refusals-few k (r ∷ rs) =
    omega (arith, length-append (refusal k r.verdict) (refusals_of (suc k) rs), refusal-few k r.verdict, refusals-few (suc k) rs)

refusals-snoc : (k : ℕ) (rs : List ItemRow) (r : ItemRow) → refusals_of k (rs ++ (r ∷ [])) ≡ refusals_of k rs ++ refusal (k + length rs) r.verdict
unfolding refusals_of
refusals-snoc k [] r = let z : k + 0 ≡ k = omega arith in rw (z, append-nil)
refusals-snoc k (q ∷ rs) r =
    let z : k + suc (length rs) ≡ suc k + length rs = omega arith in
    rw (z, refusals-snoc (suc k) rs r) (sym (append_assoc (refusal k q.verdict) (refusals_of (suc k) rs) (refusal (suc k + length rs) r.verdict)))

-- a store behind A, and one behind R, which stands at p
store_two : (o A row : List ℕ) (p q : ℕ) (R X : List ℕ) (a : ℕ) → length A ≡ a → a + length row ≤ p → q ≡ p + length R
    → sets (sets (sets (sets o 0 A) p R) a row) q X ≡ sets (sets o 0 (A ++ row)) p (R ++ X)
store_two o A row p q R X a e h f =
    let z : a ≡ 0 + length A = omega arith in
    rw (sets-comm (sets o 0 A) a row p R h, z, sets-append o 0 A row, f, sets-append (sets o 0 (A ++ row)) p R X)

in-front : (w i n : ℕ) → i < n → w * i + w ≤ w * n
in-front w i n h =
    let z : w * suc i ≡ w * i + w = omega arith in
    let y : w * suc i ≤ w * n = mul-le-mul_left w (omega arith) in
    omega arith

-- ---- the last section

no-rest : be4 0 ≡ section remainder_bytes []
unfolding section concat
no-rest = sym (append-nil (be4 0))

one-rest : (at n : ℕ) → be4 1 ++ (be4 at ++ (n ∷ [])) ≡ section remainder_bytes (record { offset = at; number = n } ∷ [])
unfolding section concat remainder_bytes
one-rest at n = rw append-nil

one-rest-long : (at n : ℕ) → length (be4 1 ++ (be4 at ++ (n ∷ []))) ≡ 9
unfolding be4
one-rest-long at n = refl

-- ---- the law

module _ (frame : List ℕ → Framed) (judge : List ℕ → Verdict) (F : Frames frame) (bytes : ItemRow → List ℕ) (w : ℕ)
    (wide : (r : ItemRow) → length (bytes r) ≡ w) (xs : List ℕ) where
  -- the rows and the remainder from an offset on
  abbrev pub rows_from : ℕ → List ItemRow
  rows_from at = rows_of judge at (cut frame (drop at xs))

  abbrev pub left_from : ℕ → List RemainderRow
  left_from at = remainder_of at (cut frame (drop at xs))

  unfoldable pub report_of : List ℕ
  report_of = section bytes (rows frame judge xs) ++ (section refusal_bytes (refusals frame judge xs) ++ section remainder_bytes (remainder frame judge xs))

  -- i items of n are stored, k of them refused, up to the offset at, in a buffer that held o
  pub record Filled (o : List ℕ) (n at i k : ℕ) (out : List ℕ) : Type 0 where
    pub rs : List ItemRow
    pub rows_are : rows frame judge xs ≡ rs ++ rows_from at
    pub rest-is : remainder frame judge xs ≡ left_from at
    pub items : length rs ≡ i
    pub bad : length (refusals_of 0 rs) ≡ k
    pub out-is : out ≡ sets (sets o 0 (be4 n ++ concat bytes rs)) (8 + w * n) (concat refusal_bytes (refusals_of 0 rs))

  -- what an item adds
  unfoldable pub turn : ℕ → ℕ → ℕ → ItemRow → List ℕ → List ℕ
  turn n i k r out = sets (sets out (4 + w * i) (bytes r)) (8 + w * n + 9 * k) (concat refusal_bytes (refusal i r.verdict))

  front_long : (n : ℕ) (rs : List ItemRow) → length (be4 n ++ concat bytes rs) ≡ 4 + w * length rs
  front_long n rs = omega (arith, length-append (be4 n) (concat bytes rs), be4-long n, concat-long bytes w wide rs)

  turn_is : (o : List ℕ) (n : ℕ) (rs : List ItemRow) (r : ItemRow) (i k : ℕ) → length rs ≡ i → length (refusals_of 0 rs) ≡ k → i < n
      → turn n i k r (sets (sets o 0 (be4 n ++ concat bytes rs)) (8 + w * n) (concat refusal_bytes (refusals_of 0 rs)))
      ≡ sets (sets o 0 (be4 n ++ concat bytes (rs ++ (r ∷ [])))) (8 + w * n)
      (concat refusal_bytes (refusals_of 0 rs) ++ concat refusal_bytes (refusal i r.verdict))
  unfolding turn
  turn_is o n rs r i k a b lt =
      let A : List ℕ = be4 n ++ concat bytes rs in
      let R : List ℕ = concat refusal_bytes (refusals_of 0 rs) in
      let lenA : length A ≡ 4 + w * i = front_long n rs ∙ ap (λ (j : ℕ). 4 + w * j) a in
      let lenR : length R ≡ 9 * k = omega (arith, concat-long refusal_bytes 9 refusal-long (refusals_of 0 rs)) in
      store_two o A (bytes r) (8 + w * n) (8 + w * n + 9 * k) R (concat refusal_bytes (refusal i r.verdict)) (4 + w * i) lenA
      (omega (arith, wide r, in-front w i n lt)) (omega arith)
      ∙ ap (λ (l : List ℕ). sets (sets o 0 l) (8 + w * n) (R ++ concat refusal_bytes (refusal i r.verdict)))
      (append_assoc (be4 n) (concat bytes rs) (bytes r) ∙ ap (λ (l : List ℕ). be4 n ++ l) (sym (concat-snoc bytes rs r)))

  pub filled-start : (o : List ℕ) (n : ℕ) → Filled o n 0 0 0 (sets o 0 (be4 n))
  unfolding rows remainder refusals_of concat
  filled-start o n = record { rs = []; rows_are = refl; rest-is = refl; items = refl; bad = refl; out-is = rw append-nil }

  module _ (o : List ℕ) (n : ℕ) (is-n : n ≡ length (rows frame judge xs)) where
    module _ (at i k : ℕ) (out : List ℕ) (φ : Filled o n at i k out) where
      -- where an item stands, there is room for its rows
      pub filled-room : {g : Kind} {h m : ℕ} → frame (drop at xs) ≡ Item g h m → (i < n) × (k ≤ i)
      filled-room e =
          let more = rows-item frame judge F at (drop at xs) e in
          let a = ap length φ.rows_are ∙ length-append φ.rs (rows_from at) in
          let b = ap length more in
          (omega (arith, φ.items), omega (arith, φ.items, φ.bad, refusals-few 0 φ.rs))

      pub filled_more : {g : Kind} {h m : ℕ} → frame (drop at xs) ≡ Item g h m → (v : Verdict) → v ≡ shift at (judge (take m (drop at xs)))
          → Filled o n (at + m) (i + 1) (k + length (refusal i v)) (turn n i k (row_with at m v) out)
      filled_more {g} {h} {m} e v is-v =
          let more = rows-item frame judge F at (drop at xs) e in
          let r : ItemRow = row_with at m v in
          let rs = φ.rs in
          let z : 0 + length rs ≡ i = omega (arith, φ.items) in
          let snoc : refusals_of 0 (rs ++ (r ∷ [])) ≡ refusals_of 0 rs ++ refusal i v =
          refusals-snoc 0 rs r ∙ ap (λ (j : ℕ). refusals_of 0 rs ++ refusal j v) z in
          record {
            rs = rs ++ (r ∷ []);
            rows_are = φ.rows_are ∙ rw (more, ← is-v, drop-drop m at xs) (sym (append_assoc rs (r ∷ []) _));
            rest-is = φ.rest-is ∙ remainder-item frame judge F at (drop at xs) e ∙ rw (drop-drop m at xs);
            items = length-append rs (r ∷ []) ∙ ap (λ (j : ℕ). j + 1) φ.items;
            bad = ap length snoc ∙ length-append (refusals_of 0 rs) (refusal i v) ∙ ap (λ (j : ℕ). j + length (refusal i v)) φ.bad;
            out-is = ap (turn n i k r) φ.out-is ∙ turn_is o n rs r i k φ.items φ.bad (filled-room e).0
                ∙ rw (snoc, concat-append refusal_bytes (refusals_of 0 rs) (refusal i v));
          }

      -- an accepted one adds its row alone
      pub filled-good : {g : Kind} {h m : ℕ} → frame (drop at xs) ≡ Item g h m → Accepted ≡ shift at (judge (take m (drop at xs)))
          → Filled o n (at + m) (i + 1) k (sets out (4 + w * i) (bytes (row_with at m Accepted)))
      unfolding turn refusal concat
      filled-good {g} {h} {m} e is-v =
          let z : k + length (refusal i Accepted) ≡ k = omega arith in
          rw z at (filled_more e Accepted is-v)

      -- no more are stored than there are
      pub filled-few : (i ≤ n) × (k ≤ n)
      filled-few =
          let a = ap length φ.rows_are ∙ length-append φ.rs (rows_from at) in
          (omega (arith, φ.items), omega (arith, φ.items, φ.bad, refusals-few 0 φ.rs))

      -- no item is left: the two counts
      pub filled-counts : rows_from at ≡ [] → (i ≡ n) × (k ≤ n)
      filled-counts e =
          let a = ap length (φ.rows_are ∙ ap (λ (l : List ItemRow). φ.rs ++ l) e ∙ append-nil φ.rs) in
          (omega (arith, φ.items), omega (arith, φ.items, φ.bad, refusals-few 0 φ.rs))

      -- and the last stores, of the count of refusals and the last section, make the whole report
      pub filled-end : rows_from at ≡ [] → (T : List ℕ) → T ≡ section remainder_bytes (left_from at)
          → (sets (sets out (4 + w * n) (be4 k)) (8 + w * n + 9 * k) T ≡ sets o 0 report_of) × (length report_of ≡ 8 + w * n + 9 * k + length T)
      unfolding report_of section refusals
      filled-end e T is_T =
          let all : rows frame judge xs ≡ φ.rs = φ.rows_are ∙ ap (λ (l : List ItemRow). φ.rs ++ l) e ∙ append-nil φ.rs in
          let i-is : i ≡ n = (filled-counts e).0 in
          let nn : length φ.rs ≡ n = ap length (sym all) ∙ sym is-n in
          let R : List ℕ = concat refusal_bytes (refusals_of 0 φ.rs) in
          let A : List ℕ = be4 n ++ concat bytes φ.rs in
          let lenR : length R ≡ 9 * k = concat-long refusal_bytes 9 refusal-long (refusals_of 0 φ.rs) ∙ ap (λ (j : ℕ). 9 * j) φ.bad in
          let lenA : length A ≡ 4 + w * n = front_long n φ.rs ∙ ap (λ (j : ℕ). 4 + w * j) nn in
          let rest : section remainder_bytes (remainder frame judge xs) ≡ T = ap (section remainder_bytes) φ.rest-is ∙ sym is_T in
          let whole : report_of ≡ (A ++ be4 k) ++ (R ++ T) = rw (rest, all, nn, φ.bad) (simp append_assoc) in
          let lenAk : 0 + length (A ++ be4 k) ≡ 8 + w * n = omega (arith, length-append A (be4 k), be4-long k) in (
            ap (λ (l : List ℕ). sets (sets l (4 + w * n) (be4 k)) (8 + w * n + 9 * k) T) φ.out-is
                ∙ store_two o A (be4 k) (8 + w * n) (8 + w * n + 9 * k) R T (4 + w * n) lenA (omega (arith, be4-long k)) (omega arith)
                ∙ ap (λ (j : ℕ). sets (sets o 0 (A ++ be4 k)) j (R ++ T)) (sym lenAk)
                ∙ sets-append o 0 (A ++ be4 k) (R ++ T)
                ∙ ap (sets o 0) (sym whole),
            omega (arith, ap length whole, length-append (A ++ be4 k) (R ++ T), length-append R T),
          )

      -- what is behind an item that is not framed, and behind the stream's end
      pub stop-rows : {m p : ℕ} → at < length xs → frame (drop at xs) ≡ Unframed m p → rows_from at ≡ []
      unfolding rows_of
      stop-rows l e = ap (rows_of judge at) (C.cut-refused frame F (drop at xs) (omega (arith, length-drop at xs)) e)

      stop-left : {m p : ℕ} → at < length xs → frame (drop at xs) ≡ Unframed m p → left_from at ≡ record { offset = at; number = m } ∷ []
      unfolding remainder_of
      stop-left l e = ap (remainder_of at) (C.cut-refused frame F (drop at xs) (omega (arith, length-drop at xs)) e)

      pub end-rows : length xs ≤ at → rows_from at ≡ []
      unfolding rows_of
      end-rows l = rw (drop_of_length-le xs {i = at} l) (ap (rows_of judge at) (C.cut-nil frame F))

      end-left : length xs ≤ at → left_from at ≡ []
      unfolding remainder_of
      end-left l = rw (drop_of_length-le xs {i = at} l) (ap (remainder_of at) (C.cut-nil frame F))

      -- the last stores
      pub stop-all : {m p : ℕ} → at < length xs → frame (drop at xs) ≡ Unframed m p
          → (sets (sets (sets out (4 + w * n) (be4 k)) (8 + w * n + 9 * k) (be4 1)) (12 + w * n + 9 * k) (be4 at ++ (m ∷ [])) ≡ sets o 0 report_of)
          × (length report_of ≡ 17 + w * n + 9 * k)
      stop-all {m} {p} l e =
          let z : 12 + w * n + 9 * k ≡ 8 + w * n + 9 * k + length (be4 1) = omega (arith, be4-long 1) in
          let a = filled-end (stop-rows l e) (be4 1 ++ (be4 at ++ (m ∷ []))) (one-rest at m ∙ ap (section remainder_bytes) (sym (stop-left l e))) in
          (rw (z, sets-append (sets out (4 + w * n) (be4 k)) (8 + w * n + 9 * k) (be4 1) (be4 at ++ (m ∷ []))) a.0, a.1 ∙ omega (arith, one-rest-long at m))

      pub end-all : length xs ≤ at
          → (sets (sets out (4 + w * n) (be4 k)) (8 + w * n + 9 * k) (be4 0) ≡ sets o 0 report_of) × (length report_of ≡ 12 + w * n + 9 * k)
      end-all l =
          let a = filled-end (end-rows l) (be4 0) (no-rest ∙ ap (section remainder_bytes) (sym (end-left l))) in
          (a.0, a.1 ∙ omega (arith, be4-long 0))

    -- r accepted items of m bytes each, from an offset on
    module _ (at i k m r : ℕ) (out : List ℕ) (φ : Filled o n at i k out)
        (each : (j : ℕ) → j < r → (g : Kind) × (h : ℕ) × (frame (drop (at + j * m) xs) ≡ Item g h m) × (Accepted ≡ shift (at + j * m) (judge (take m (drop (at + j * m) xs))))) where
      -- its rows, and one more
      run-snoc : (j : ℕ) → sets out (4 + w * i) (concat bytes (run_of at m (suc j)))
          ≡ sets (sets out (4 + w * i) (concat bytes (run_of at m j))) (4 + w * (i + j)) (bytes (row_with (at + j * m) m Accepted))
      unfolding run_of
      run-snoc j =
          let c : length (concat bytes (run_of at m j)) ≡ w * j = concat-long bytes w wide (run_of at m j) ∙ ap (λ (l : ℕ). w * l) (run_long at m j) in
          let b : 4 + w * (i + j) ≡ 4 + w * i + length (concat bytes (run_of at m j)) = omega (arith, mul-add w i j) in
          rw (b, sets-append out (4 + w * i) (concat bytes (run_of at m j)) (bytes (row_with (at + j * m) m Accepted)), concat-snoc bytes (run_of at m j) (row_with (at + j * m) m Accepted))

      run-to : (j : ℕ) → j ≤ r → Filled o n (at + j * m) (i + j) k (sets out (4 + w * i) (concat bytes (run_of at m j)))
      unfolding run_of concat
      run-to zero h = let z : at + 0 * m ≡ at = omega arith in let y : i + 0 ≡ i = omega arith in rw (z, y) φ
      run-to (suc j) h =
          let f = each j (omega arith) in
          let x : at + suc j * m ≡ at + j * m + m = omega (arith, suc-mul j m) in
          let y : i + suc j ≡ i + j + 1 = omega arith in
          rw (x, y, run-snoc j) (filled-good (at + j * m) (i + j) k _ (run-to j (omega arith)) f.2 f.3)

      pub filled-run : Filled o n (at + r * m) (i + r) k (sets out (4 + w * i) (concat bytes (run_of at m r)))
      filled-run = run-to r (omega arith)

      pub run_room : i + r ≤ n
      run_room =
          let ψ = filled-run in
          omega (arith, ap length ψ.rows_are ∙ length-append ψ.rs (rows_from (at + r * m)), ψ.items)
