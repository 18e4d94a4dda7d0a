-- The items of a text counted, a verdict counted back, and the stores of a row. Assumes nothing.
use mathlib.Core.Path.{◌≡◌, refl, ap, ◌∙◌}
use mathlib.Core.Bool.{true, false}
use mathlib.Core.List.{List, [], ◌∷◌, ◌++◌, append-nil}
use mathlib.Core.Logic.{⊎_elim}
use Prim.Native.Nat.{ℕ, suc, ◌+◌, ◌-◌, ◌*◌, ◌/◌, ◌%◌, ◌<◌, ◌≤◌}
use native.Mathlib.Nat.{mul-add, mul_comm}
use native.Mathlib.Omega.{arith}
use mir.Syntax.{w64}
use mir.Val as val
use lib.ListN.{length, take, drop, set, length-drop}
use lib.Seq.{sets, take_all, drop-drop}
use borrow.Author.Tests.{eq-eqb, ne_eqb}
use Rattle.base.specs.Cases.{lt-or-ge}
use Rattle.format.specs.declared.Kind.{Kind}
use Rattle.format.specs.declared.Framed.{Framed}
use Rattle.format.specs.declared.Framed.TheVariants.{Item, Unframed}
use Rattle.format.specs.declared.Verdict.{Verdict}
use Rattle.format.specs.declared.Verdict.TheVariants.{Accepted, Refused}
use Rattle.format.specs.Units.{text, text_sextets}
use Rattle.format.specs.Framing.{frame_ruled, frame_next, scale}
use Rattle.format.specs.Judging.{shift}
use Rattle.format.specs.Report.{rows, rows_in, frame_in, placed, be4, verdict_byte, refusal, refusal_bytes, concat}
use Rattle.laws.specs.Domains.{text-reader}
use Rattle.laws.specs.Frames.{frames}
use Rattle.laws.specs.Items.{rows_at, rows-nil, rows-refused, rows-item}
use Rattle.filling.specs.Stores.{be4-long, sets-append}
use Rattle.second_report.specs.Reports.{Put, verdict_at, item_left, end_answer, end_left, Ended}
use Rattle.std.specs.Prelude.{Ok}

-- ---- so many items up to a unit

pub record Counted (t : List ℕ) (start n : ℕ) : Type 0 where
  pub long : length t ≤ 4194304
  pub inside : 4 * start ≤ length t
  pub few : n ≤ start
  pub left : length (rows_in text t) ≡ n + length (rows_at text (start * 4) (drop (start * 4) t))

pub counted_start : (t : List ℕ) → length t ≤ 4194304 → Counted t 0 0
unfolding rows
counted_start t l =
    let z : (m : ℕ) → m ≡ 0 + m = λ m. omega arith in
    record { long = l; inside = omega arith; few = omega arith; left = z _ }

none : (s : List ℕ) → length s ≤ 0 → s ≡ []
none [] e = refl
none (x ∷ s) e = absurd (omega arith)

module _ (t : List ℕ) (start n : ℕ) (w : Counted t start n) where
  module _ (f : Framed) (ef : f ≡ frame_next false true (text_sextets (take (length t - 4 * start) (drop (4 * start) t)))) where
    here : f ≡ frame_ruled (text_sextets (drop (start * 4) t))
    unfolding frame_next frame_ruled
    here =
        let z : 4 * start ≡ start * 4 = omega arith in
        ef ∙ rw (z, take_all (length t - start * 4) (drop (start * 4) t) (omega (arith, length-drop (start * 4) t)))

    pub counted_stop : (m p : ℕ) → f ≡ Unframed m p → (n ≡ length (rows_in text t)) × (n ≤ 1048576)
    unfolding frame_in scale
    counted_stop m p e =
        let g : frame_in text (drop (start * 4) t) ≡ Unframed m p = rw (← here, e) in
        let no : length (rows_at text (start * 4) (drop (start * 4) t)) ≡ 0 =
        ⊎_elim (λ some. ap length (rows-refused text text-reader (start * 4) (drop (start * 4) t) some g))
        (λ all. rw (none (drop (start * 4) t) all) (ap length (rows-nil text text-reader (start * 4))))
        (lt-or-ge 0 (length (drop (start * 4) t))) in
        (omega (arith, w.left, no), omega (arith, w.few, w.inside, w.long))

    module _ (k : Kind) (h m : ℕ) (e : f ≡ Item k h m) where
      item : frame_in text (drop (start * 4) t) ≡ Item k (h * 4) (m * 4)
      unfolding frame_in scale
      item = rw (← here, e)

      pub sizes : (0 < m) × (4 * (start + m) ≤ length t)
      sizes =
          let b = (frames text text-reader).within (drop (start * 4) t) k (h * 4) (m * 4) item in
          (omega (arith, b), omega (arith, b, length-drop (start * 4) t, w.inside))

      pub end_fits : val.Fits w64 (start + m)
      end_fits = omega (arith, sizes)

      pub less : length t - 4 * (start + m) < length t - 4 * start
      less = omega (arith, sizes)

      pub counted-more : Counted t (start + m) (n + 1)
      counted-more =
          let z : start * 4 + m * 4 ≡ (start + m) * 4 = omega arith in
          let q : length (rows_at text (start * 4) (drop (start * 4) t)) ≡ suc (length (rows_at text ((start + m) * 4) (drop ((start + m) * 4) t))) =
          ap length (rows-item text text-reader (start * 4) (drop (start * 4) t) item) ∙ rw (drop-drop (m * 4) (start * 4) t, z) in
          record { long = w.long; inside = sizes.1; few = omega (arith, sizes, w.few); left = omega (arith, w.left, q) }

-- ---- an item's row, and its refusal's

pub behind4 : (l o : List ℕ) (i j v : ℕ) (bs : List ℕ) → o ≡ sets l i (be4 v) → j ≡ i + 4 → sets o j bs ≡ sets l i (be4 v ++ bs)
behind4 l o i j v bs e q =
    let z : j ≡ i + length (be4 v) = omega (arith, be4-long v) in
    rw (e, z) (sets-append l i (be4 v) bs)

pub row_is : (out o₁ o₂ : List ℕ) (p a b number : ℕ) → o₁ ≡ sets out p (be4 a) → o₂ ≡ sets o₁ (p + 4) (be4 b)
    → set o₂ (p + 8) number ≡ sets out p (be4 a ++ (be4 b ++ (number ∷ [])))
row_is out o₁ o₂ p a b number e₁ e₂ =
    behind4 o₁ o₂ (p + 4) (p + 8) b (number ∷ []) e₂ (omega arith) ∙ behind4 out o₁ p (p + 4) a (be4 b ++ (number ∷ [])) e₁ refl

module _ (unit start size : ℕ) (v : Verdict) (i p : ℕ) (out o₁ : List ℕ) where
  pub item-good : v ≡ Accepted → o₁ ≡ sets out (4 + 9 * i) (be4 (unit * start) ++ (be4 (unit * size) ++ (0 ∷ []))) → Put unit start size v i p out 0 o₁
  unfolding verdict_at item_left shift placed refusal concat verdict_byte
  item-good e q = record { refusals = rw e; left = rw e q }

  module _ (m q : ℕ) (e : v ≡ Refused m q) (e₁ : o₁ ≡ sets out (4 + 9 * i) (be4 (unit * start) ++ (be4 (unit * size) ++ (m ∷ [])))) where
    pub item-bad : (o₃ o₄ : List ℕ) → o₃ ≡ sets o₁ p (be4 i) → o₄ ≡ sets (set o₃ (p + 4) m) (p + 5) (be4 (unit * (start + q / 4) + q % 4))
        → Put unit start size v i p out 1 o₄
    unfolding verdict_at item_left shift placed refusal refusal_bytes concat verdict_byte
    item-bad o₃ o₄ e₃ e₄ = record { refusals = rw e; left = e₄ ∙ by ∙ rw (e₁, e, append-nil, back) }
      where
        back : unit * (start + q / 4) + q % 4 ≡ start * unit + (q / 4 * unit + q % 4)
        back = rw (mul-add unit start (q / 4), mul_comm unit start, mul_comm unit (q / 4)) (omega arith)

        by : sets (set o₃ (p + 4) m) (p + 5) (be4 (unit * (start + q / 4) + q % 4)) ≡ sets o₁ p (be4 i ++ (m ∷ be4 (unit * (start + q / 4) + q % 4)))
        by =
            let z : p + 5 ≡ suc (p + 4) = omega arith in
            rw z (behind4 o₁ o₃ p (p + 4) i (m ∷ be4 (unit * (start + q / 4) + q % 4)) e₃ refl)

-- ---- what is behind the rows

module _ (n k rest offset number : ℕ) (out o₁ o₂ : List ℕ) (e₁ : o₁ ≡ sets out (4 + 9 * n) (be4 k)) where
  pub end_none : rest ≡ 0 → o₂ ≡ sets o₁ (8 + 9 * n + 9 * k) (be4 0) → Ended n k rest offset number out (Ok (8 + 9 * n + 9 * k + 4)) o₂
  unfolding end_answer end_left
  end_none z e₂ = record { answer = rw (eq-eqb rest 0 z) (ap Ok (omega arith)); left = e₂ ∙ rw (e₁, eq-eqb rest 0 z) }

  pub end-some : (rest ≡ 0 → ⊥) → o₂ ≡ sets o₁ (8 + 9 * n + 9 * k) (be4 1 ++ (be4 offset ++ (number ∷ [])))
      → Ended n k rest offset number out (Ok (8 + 9 * n + 9 * k + 9)) o₂
  unfolding end_answer end_left
  end-some z e₂ = record { answer = rw (ne_eqb rest 0 z) (ap Ok (omega arith)); left = e₂ ∙ rw (e₁, ne_eqb rest 0 z) }
