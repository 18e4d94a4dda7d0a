-- A stream's items are no more than its units, so that 49,157 bytes hold the report of 8,192. Assumes nothing.
use Prim.Native.Nat.{ℕ, zero, suc, ◌+◌, ◌*◌, ◌≤◌, ◌<◌}
use mathlib.Core.Path.{◌≡◌, refl, sym, ap, subst, ◌∙◌}
use mathlib.Core.List.{List, [], ◌∷◌, ◌++◌}
use native.Mathlib.Omega.{arith}
use lib.ListN.{length, drop, set, length-drop, length-append}
use lib.Seq.{length-take-le}
use borrow.Author.Tests.{lt-ltb, le-ltb}
use Rattle.program.specs.Counts.{IsPrefixLen}
use Rattle.format.specs.declared.Kind.{Kind}
use Rattle.format.specs.declared.Framed.TheVariants.{Item, Unframed}
use Rattle.format.specs.Units.{Domain}
use Rattle.format.specs.Report.{rows, rows_in, frame_in, report, report_answer, report_left}
use Rattle.laws.specs.Domains.{Reader}
use Rattle.laws.specs.Frames.{frames}
use Rattle.laws.specs.Items.{rows_at, by-items, rows-nil, rows-refused, rows-item, item-units}
use Rattle.claims.specs.Claims.{Demand3}
use Rattle.claims.proofs.Room.{report-fits}
use Rattle.program.specs.Printed.{printed, printed_answer, printed_left}
use Rattle.std.specs.Prelude.{Ok, Result}
use Rattle.format.specs.declared.Refusal.{Refusal}
use Rattle.format.specs.Refusals.{refused_by}

wider : (n u : ℕ) → 3 ≤ u → n * 3 ≤ n * u
wider zero u l = omega arith
wider (suc n) u l = let z : suc n * u ≡ u + n * u = omega arith in omega (arith, wider n u l)

pub counts : (n : ℕ) (xs : List ℕ) → n ≤ length xs → IsPrefixLen n xs
counts n xs l = (l, sym (length-take-le n xs l))

units-pos : (h n m u : ℕ) → 0 < h → h ≤ n → n ≡ m * u → u ≤ n
units-pos h n zero u a b e = omega arith
units-pos h n (suc m) u a b e = let z : suc m * u ≡ u + m * u = omega arith in omega arith

module _ (d : Domain) (G : Reader d) where
  few : (xs : List ℕ) (o : ℕ) → length (rows_at d o xs) * d.unit ≤ length xs
  few =
      by-items d G (λ (xs : List ℕ). (o : ℕ) → length (rows_at d o xs) * d.unit ≤ length xs)
      (λ o. rw (rows-nil d G o) (omega arith))
      (λ xs n p f l o. rw (rows-refused d G o xs l f) (omega arith))
      (λ xs k h n f ih o.
      let w = (frames d G).within xs k h n f in
      let u : d.unit ≤ n = units-pos h n (item-units d G xs k h n f).0 d.unit w.0 w.1 (item-units d G xs k h n f).1 in
      let more = ih (o + n) in
      rw (rows-item d G o xs f) (omega (arith, length-drop n xs, w.2)))

  few-rows : 3 ≤ d.unit → (xs : List ℕ) → length xs ≤ 8192 → 17 + 18 * length (rows_in d xs) ≤ 49157
  unfolding rows
  few-rows u xs l = let z : length (rows_in d xs) * 3 ≤ length (rows_in d xs) * d.unit = wider (length (rows_in d xs)) d.unit u in omega (arith, few xs 0)

  module _ (D : Demand3 d) (u : 3 ≤ d.unit) (lim : 8192 ≤ d.limit) (xs out : List ℕ) (room : 49157 ≤ length out) where
    answered : length xs ≤ 8192 → report_answer d xs (length out) ≡ Ok (length (report d xs))
    unfolding report_answer
    answered l = rw (le-ltb d.limit (length xs) (omega arith), le-ltb (length out) (17 + 18 * length (rows_in d xs)) (omega (arith, few-rows u xs l)))

    pub prints : length xs ≤ 8192 → (r : Result ℕ (Refusal ℕ)) → r ≡ report_answer d xs (length out) → (out' : List ℕ) → out' ≡ report_left r d xs out
        → (n : ℕ) → r ≡ Ok n
        → (n ≡ printed_answer d xs (length out)) × ((out' ≡ printed_left d xs out) × IsPrefixLen n out')
    unfolding printed printed_answer printed_left report_left
    prints l r e out' f n q =
        let w : Ok n ≡ Ok (length (report d xs)) = sym q ∙ e ∙ answered l in
        let z : n ≡ length (report d xs) = cc in
        let g : out' ≡ report d xs ++ drop n out = f ∙ rw q in
        let m : n ≤ length out' = rw g (omega (arith, length-append (report d xs) (drop n out))) in
        rw (le-ltb 8192 (length xs) l, le-ltb (length out) 49157 room) (z, (g ∙ ap (λ (k : ℕ). report d xs ++ drop k out) z, counts n out' m))

    pub never : length xs ≤ 8192 → (r : Result ℕ (Refusal ℕ)) → r ≡ report_answer d xs (length out) → (a b : ℕ) → r ≡ refused_by a b → ◌≡◌ {A = ℕ} 0 1
    never l r e a b q = let w : refused_by a b ≡ Ok (length (report d xs)) = sym q ∙ e ∙ answered l in cc

  pub prints-one : (xs out : List ℕ) → 49157 ≤ length out → 8192 < length xs
      → (1 ≡ printed_answer d xs (length out)) × ((set out 0 1 ≡ printed_left d xs out) × IsPrefixLen 1 (set out 0 1))
  unfolding printed printed_answer printed_left
  prints-one xs [] l k = absurd (omega arith)
  prints-one xs (b ∷ out) l k = rw (lt-ltb 8192 (length xs) k, le-ltb (length (b ∷ out)) 49157 l) (refl, (refl, (omega arith, refl)))

pub prints-none : (d : Domain) (xs out : List ℕ) → length out < 49157 → (0 ≡ printed_answer d xs (length out)) × ((out ≡ printed_left d xs out) × IsPrefixLen 0 out)
unfolding printed_answer printed_left
prints-none d xs out l = rw (lt-ltb (length out) 49157 l) (refl, (refl, (omega arith, refl)))
