-- Sizes, and runs of items of one size. Assumes nothing.
use Prim.Native.Nat.{ℕ, ◌+◌, ◌-◌, ◌*◌, ◌/◌, ◌≤◌, ◌<◌}
use mathlib.Core.Path.{◌≡◌, refl, sym}
use mathlib.Core.Bool.{true}
use mathlib.Core.List.{List}
use native.Mathlib.Omega.{arith}
use native.Mathlib.Nat.{mul_comm, le-div_iff_mul-le}
use lib.ListN.{length, drop, length-drop}
use Rattle.format.specs.declared.Form.{Form}
use Rattle.format.specs.declared.Form.TheVariants.{Text, Binary}
use Rattle.format.specs.declared.Kind.{Kind}
use Rattle.format.specs.declared.Framed.{Framed}
use Rattle.format.specs.declared.Framed.TheVariants.{Item, Unframed}
use Rattle.format.specs.Units.{Domain, domain}
use Rattle.format.specs.Framing.{frame_ruled, frame_next, scale}
use Rattle.format.specs.Report.{frame_in}
use Rattle.laws.specs.Domains.{reader}
use Rattle.laws.specs.Frames.{frames}
use Rattle.runs.specs.Plain.{plain_table, sized_at, small_at}
use Rattle.runs.specs.Levels.{Clear, small-drop, sized-drop}
use Rattle.runs.specs.Runs.{Run}
use Rattle.report_sizes.specs.Sizes.{Tells, size_of, size_at}

-- by another rule that says the same where the first does
pub run_by : (p q : ℕ → ℕ) (k stop at r : ℕ) → ((i : ℕ) → i + k ≤ stop → p i ≡ k → q i ≡ k) → Run p k stop at r → Run q k stop at r
run_by p q k stop at r f R = record { some = R.some; each = λ j h. let z = R.each j h in (f (at + j * k) z.1 z.0, z.1) }

-- ---- sizes

told-item : (f : Framed) (k : Kind) (h r : ℕ) → f ≡ Item k h r → size_of f ≡ r
unfolding size_of
told-item f k h r e = rw e

pub tells-small : (s : List ℕ) (at clean r : ℕ) → at < clean → Clear s at clean → small_at s at ≡ r → Tells s at r
tells-small s at clean r l K e p h = told-item _ _ _ _ (small-drop s at clean K l r e p h)

pub tells-sized : (s : List ℕ) (at clean r : ℕ) → at < clean → Clear s at clean → sized_at plain_table s at ≡ r → Tells s at r
unfolding frame_ruled frame_next
tells-sized s at clean r l K e p h = told-item _ _ _ _ ((sized-drop s at clean K l r e p h).framed true)

pub size-told : (f : Form) (s : List ℕ) (at r u : ℕ) → u ≡ length s / (domain f).unit → at < u → r ≤ u - at → 0 < r → Tells ((domain f).sextets s) at r
    → r ≡ size_of (frame_ruled ((domain f).sextets (drop ((domain f).unit * at) s)))
size-told f s at r u e l h p t =
    let d : Domain = domain f in
    let c : d.unit * at ≡ at * d.unit = mul_comm d.unit at in
    let z : at * 4 ≡ 4 * at = omega arith in
    let room : at * d.unit ≤ length s = (le-div_iff_mul-le (reader f).pos).0 (omega arith) in
    rw (c, (reader f).dropped s at room, z) (sym (t p (omega (arith, (reader f).units s))))

-- an item is within the stream
fits : (f : Form) (s : List ℕ) (at : ℕ) (g : Framed) → g ≡ frame_ruled ((domain f).sextets (drop ((domain f).unit * at) s)) → size_of g ≤ length s / (domain f).unit - at
unfolding size_of frame_in scale
fits f s at (Unframed m p) e = omega arith
fits f s at (Item k h n) e = go f e
  where
    go : (f : Form) → Item k h n ≡ frame_ruled ((domain f).sextets (drop ((domain f).unit * at) s)) → n ≤ length s / (domain f).unit - at
    go Text e =
        let w = (frames (domain Text) (reader Text)).within (drop (4 * at) s) k (h * 4) (n * 4) (rw (← e)) in
        omega (arith, w.2, length-drop (4 * at) s)
    go Binary e =
        let w = (frames (domain Binary) (reader Binary)).within (drop (3 * at) s) k (h * 3) (n * 3) (rw (← e)) in
        omega (arith, w.2, length-drop (3 * at) s)

pub size_fits : (f : Form) (s : List ℕ) (at r : ℕ) → r ≡ size_at (domain f) s at → r ≤ length s / (domain f).unit - at
size_fits f s at r e = rw e (fits f s at _ refl)
