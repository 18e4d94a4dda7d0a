-- A small variable value among the items of a group or stream, its characters known: it is accepted whole. Assumes nothing.
use Prim.Native.Nat.{ℕ, ◌+◌, ◌-◌, ◌*◌, ◌/◌, ◌≤◌, ◌<◌}
use Rattle.std.specs.Prelude.{◌≡◌, refl, Bool, true, length}
use Rattle.std.proofs.Common.{sym, arith}
use Rattle.std.proofs.Math.Bool.{false}
use mathlib.Core.List.{List}
use Rattle.format.specs.declared.Kind.{Kind}
use Rattle.format.specs.declared.Kind.TheVariants.{Variable}
use Rattle.format.specs.declared.Opening.TheVariants.{Short}
use Rattle.format.specs.Registry.{is_type, opening}
use Rattle.format.specs.Framing.{sextet, ruled}
use Rattle.format.specs.Judging.{group}
use Rattle.laws.specs.Levels.{part, part_length, Taken}
use Rattle.runs.specs.Plain.{typed}
use Rattle.runs.specs.Opened.{some_then}
use Rattle.runs.specs.Units.{unit-at}
use Rattle.runs.specs.Levels.{Clear, clear-part, part-at, part-head, told_part, frame-short, next-short, in-part}
use Rattle.runs_value.specs.Values.{unit_number, is_selector, value_fits, fitting, valued_of, number_at, valued_at}
use Rattle.runs_value.specs.Right.{by-selector, first_unit, value-accepts}

-- ---- its header

record Header (v a b c d n : ℕ) : Type 0 where
  selects : is_selector a ≡ true
  size : 1 + (c * 64 + d) ≡ n
  fits : value_fits a b (1 + (c * 64 + d)) v ≡ true
  opens : opening a b c d ≡ Short (Variable b (a - 56) (c * 64 + d)) n

valued-header : (v a b c d n : ℕ) → valued_of v a b c d ≡ n → 0 < n → Header v a b c d n
unfolding valued_of fitting typed opening
valued-header v a b c d n e p =
    let x = some_then (is_selector a) _ n e p in
    let y = some_then (value_fits a b (typed b c d) v) (typed b c d) n x.1 p in
    let z = some_then (is_type b) _ n y.1 p in
    let t = z.0 in
    let k = z.1 in
    record {
      selects = x.0;
      size = k;
      fits = rw t at y.0;
      opens = by-selector (λ m. opening m b c d ≡ Short (Variable b (m - 56) (c * 64 + d)) n) a x.0 (rw (t, k)) (rw (t, k)) (rw (t, k));
    }

-- ---- the unit behind it

module _ (s : List ℕ) (at k : ℕ) (fits : at + k ≤ length s / 4) (more : 1 < k) where
  unit-behind : number_at s (at + 1) ≡ first_unit (part s at (at + k))
  unit-behind =
      let z : 4 * (at + 1) + 0 ≡ 4 * (at + 1) = omega arith in
      sym (unit-at unit_number s (at + 1) (omega arith) (rw z at (first 0 (omega arith))) (first 1 (omega arith)) (first 2 (omega arith)) (first 3 (omega arith)))
    where
      first : (i : ℕ) → i < 4 → sextet (part s at (at + k)) (4 + i) ≡ sextet s (4 * (at + 1) + i)
      first i h = let z : 4 * at + (4 + i) ≡ 4 * (at + 1) + i = omega arith in rw z at (part-at s at (at + k) (4 + i) (omega arith))

-- ---- accepted

module _ (s : List ℕ) (l : ℕ) (stop : ℕ) (long : 4 * stop ≤ length s) where
  pub valued-taken : (first : Bool) (at k to : ℕ) → valued_at s at ≡ k → 0 < k → at + k ≤ stop → Clear s at to → at + k ≤ to
      → Taken s false l first at stop k
  unfolding ruled
  valued-taken first at k to e p h b r =
      let x : List ℕ = part s at stop in
      let v : ℕ = number_at s (at + 1) in
      let m : ℕ = sextet x 2 * 64 + sextet x 3 in
      let kind : Kind = Variable (sextet x 1) (sextet x 0 - 56) m in
      let w = valued-header v (sextet x 0) (sextet x 1) (sextet x 2) (sextet x 3) k (told_part (valued_of v) s at stop k e p (omega arith)) p in
      let z : 1 + m ≡ k = w.size in
      record {
        kind = kind;
        head = 1;
        framed = next-short false first x kind k (λ i j n. refl) (frame-short false x kind k (part-head s at stop to b (omega arith) (omega arith)) w.opens p (in-part s l stop long at k h));
        judged = value-accepts (sextet x 0) (sextet x 1) m v (part s at (at + k)) (clear-part s at to at (at + k) b (omega arith) r)
            (omega (arith, part_length s at (at + k) (omega arith))) w.selects w.fits (λ q. unit-behind s at k (omega arith) (omega arith)) (group l);
      }
