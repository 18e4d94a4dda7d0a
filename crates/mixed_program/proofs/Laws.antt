-- An item has three bytes at least, so that 51,887 bytes hold the report of 8,192; and the answers. Assumes nothing.
use Prim.Native.Nat.{ℕ, zero, suc, ◌+◌, ◌*◌, ◌≤◌, ◌<◌}
use mathlib.Core.Path.{◌≡◌, refl, sym, ap, ◌∙◌}
use mathlib.Core.List.{List, [], ◌∷◌, ◌++◌}
use native.Mathlib.Omega.{arith}
use lib.ListN.{length, drop, set, length-drop, length-append}
use lib.Seq.{length-take-le}
use borrow.Author.Tests.{lt-ltb, le-ltb}
use Rattle.program.specs.Counts.{IsPrefixLen}
use Rattle.format.specs.declared.Form.{Form}
use Rattle.format.specs.declared.Form.TheVariants.{Text, Binary}
use Rattle.format.specs.declared.Kind.{Kind}
use Rattle.format.specs.declared.Framed.TheVariants.{Item, Unframed}
use Rattle.format.specs.Units.{domain}
use Rattle.format.specs.Framing.{frame_ruled}
use Rattle.format.specs.Report.{rows, rows_of, frame_in}
use Rattle.damage.proofs.Cuts as C
use Rattle.damage.proofs.Damage as D
use Rattle.laws.specs.Framing.{unscale}
use Rattle.laws.specs.Domains.{reader}
use Rattle.laws.specs.Frames.{frames}
use Rattle.mixed.specs.declared.Start.{Start}
use Rattle.mixed.specs.declared.Start.TheVariants.{Cesr, Json, Other}
use Rattle.mixed.specs.Mixed.{start_at, frame_start, frame_with, frame_mixed, judge_mixed, rows_mixed, mixed_report, mixed_limit, mixed_answer, mixed_left}
use Rattle.mixed_laws.specs.Json.{json-headed}
use Rattle.mixed_laws.specs.Frames.{frames-mixed}
use Rattle.mixed_program.specs.Printed.{printed, printed_answer, printed_left, Prints}
use Rattle.std.specs.Prelude.{Ok, Err, Result}
use Rattle.format.specs.declared.Refusal.{Refusal}

-- ---- sizes

unit-or-more : (f : Form) (m : ℕ) → 0 < m * (domain f).unit → 3 ≤ m * (domain f).unit
unit-or-more Text zero h = absurd (omega arith)
unit-or-more Text (suc m) h = omega arith
unit-or-more Binary zero h = absurd (omega arith)
unit-or-more Binary (suc m) h = omega arith

three-by : (k₀ : Kind) (t : Start) (xs : List ℕ) (k : Kind) (h n : ℕ) → frame_start k₀ t xs ≡ Item k h n → 3 ≤ n
unfolding frame_start frame_in
three-by k₀ (Cesr f) xs k h n e =
    let u = unscale (domain f).unit (frame_ruled ((domain f).sextets xs)) e in
    let w = (frames (domain f) (reader f)).within xs k h n e in
    let p : 0 < u.1 * (domain f).unit = omega (arith, w.0, w.1, u.4) in
    omega (arith, unit-or-more f u.1 p, u.4)
three-by k₀ Json xs k h n e = let g = json-headed k₀ xs e in omega (arith, g.size, g.some)
three-by k₀ Other xs k h n e = let w : Unframed 17 0 ≡ Item k h n = e in let z : ◌≡◌ {A = ℕ} 0 1 = cc in absurd (omega arith)

three : (xs : List ℕ) (k : Kind) (h n : ℕ) → frame_mixed xs ≡ Item k h n → 3 ≤ n
unfolding frame_with
three xs k h n e = three-by _ (start_at xs 0) xs k h n e

few : (xs : List ℕ) (o : ℕ) → 3 * length (D.rows_from frame_mixed judge_mixed o xs) ≤ length xs
unfolding rows_of
few =
    C.by-items frame_mixed frames-mixed (λ (xs : List ℕ). (o : ℕ) → 3 * length (D.rows_from frame_mixed judge_mixed o xs) ≤ length xs)
    (λ o. rw (C.cut-nil frame_mixed frames-mixed) (omega arith))
    (λ xs n p f l o. rw (C.cut-refused frame_mixed frames-mixed xs l f) (omega arith))
    (λ xs k h n f ih o.
    let w = frames-mixed.within xs k h n f in
    rw (D.rows-item frame_mixed judge_mixed frames-mixed o xs f) (omega (arith, ih (o + n), three xs k h n f, length-drop n xs, w.2)))

few-rows : (xs : List ℕ) → length xs ≤ 8192 → 17 + 19 * length (rows_mixed xs) ≤ 51887
unfolding rows
few-rows xs l = omega (arith, few xs 0)

-- ---- the answers

counts : (n : ℕ) (xs : List ℕ) → n ≤ length xs → IsPrefixLen n xs
counts n xs l = (l, sym (length-take-le n xs l))

module _ (xs out : List ℕ) where
  module _ (room : 51887 ≤ length out) (l : length xs ≤ 8192) (r : Result ℕ (Refusal ℕ)) (e : r ≡ mixed_answer xs (length out)) where
    answered : mixed_answer xs (length out) ≡ Ok (length (mixed_report xs))
    unfolding mixed_answer
    answered = rw (le-ltb mixed_limit (length xs) (omega arith), le-ltb (length out) (17 + 19 * length (rows_mixed xs)) (omega (arith, few-rows xs l)))

    pub prints : (out' : List ℕ) → out' ≡ mixed_left r xs out → (n : ℕ) → r ≡ Ok n → Prints xs out n out'
    unfolding printed printed_answer printed_left mixed_left
    prints out' f n q =
        let w : Ok n ≡ Ok (length (mixed_report xs)) = sym q ∙ e ∙ answered in
        let z : n ≡ length (mixed_report xs) = cc in
        let g : out' ≡ mixed_report xs ++ drop n out = f ∙ rw q in
        record {
          answer = rw (le-ltb 8192 (length xs) l, le-ltb (length out) 51887 room) z;
          left = rw (le-ltb 8192 (length xs) l, le-ltb (length out) 51887 room) (g ∙ ap (λ (k : ℕ). mixed_report xs ++ drop k out) z);
          counts = counts n out' (rw g (omega (arith, length-append (mixed_report xs) (drop n out))));
        }

    -- 8,192 bytes are never refused here
    pub never : (w : Refusal ℕ) → r ≡ Err w → (n : ℕ) (out' : List ℕ) → Prints xs out n out'
    never w q n out' =
        let f : Err w ≡ Ok (length (mixed_report xs)) = sym q ∙ e ∙ answered in
        let z : ◌≡◌ {A = ℕ} 0 1 = cc in
        absurd (omega arith)

  pub prints-none : length out < 51887 → Prints xs out 0 out
  unfolding printed_answer printed_left
  prints-none l = record { answer = rw (lt-ltb (length out) 51887 l); left = rw (lt-ltb (length out) 51887 l); counts = (omega arith, refl) }

pub prints-one : (xs out : List ℕ) → 51887 ≤ length out → 8192 < length xs → Prints xs out 1 (set out 0 1)
unfolding printed printed_answer printed_left
prints-one xs [] l k = absurd (omega arith)
prints-one xs (b ∷ out) l k = record {
  answer = rw (lt-ltb 8192 (length xs) k, le-ltb (length (b ∷ out)) 51887 l);
  left = rw (lt-ltb 8192 (length xs) k, le-ltb (length (b ∷ out)) 51887 l);
  counts = (omega arith, refl);
}
