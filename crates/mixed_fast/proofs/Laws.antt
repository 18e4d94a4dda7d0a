-- What the reports' fast way says of a part's start, said of the item at a byte. Assumes nothing.
use Prim.Native.Nat.{ℕ, zero, suc, ◌+◌, ◌-◌, ◌*◌, ◌/◌, ◌^◌, ◌≤◌, ◌<◌}
use mathlib.Core.Path.{◌≡◌, sym, ap, ◌∙◌}
use mathlib.Core.Bool.{Bool, true, not}
use mathlib.Core.List.{List}
use native.Mathlib.Omega.{arith}
use native.Mathlib.Nat.{mul_comm, le-div_iff_mul-le}
use mir.Syntax.{w64}
use mir.Val as val
use lib.ListN.{length, get_or, take, drop, length-drop}
use lib.Seq.{get_or-take, get_or-drop}
use borrow.Author.Tests.{not-true}
use Rattle.format.specs.declared.Form.{Form}
use Rattle.format.specs.declared.Framed.TheVariants.{Item}
use Rattle.format.specs.declared.Verdict.TheVariants.{Accepted}
use Rattle.format.specs.Units.{domain}
use Rattle.format.specs.Registry.{is_indexed}
use Rattle.format.specs.Framing.{frame_ruled, scale}
use Rattle.format.specs.Judging.{shift}
use Rattle.format.specs.Report.{frame_in, judge_in}
use Rattle.damage.proofs.Damage.{shift_zero}
use Rattle.laws.specs.Domains.{reader}
use Rattle.runs.specs.Plain.{small_at, group_at, letter_at}
use Rattle.runs.specs.Levels.{Clear}
use Rattle.judging.proofs.Laws.{to_end}
use Rattle.report_found.specs.Limits.{longest}
use Rattle.runs_tables.specs.declared.Tables.{Tables}
use Rattle.runs_tables.specs.Lent.{Lent}
use Rattle.report_fast_laws.specs.Fast.{Good, Accepts}
use Rattle.report_fast_laws.specs.Laws.{master-size}
use Rattle.report_sizes.specs.Sizes.{Grouped}
use Rattle.mixed.specs.declared.Start.TheVariants.{Cesr}
use Rattle.mixed.specs.Mixed.{start_of, start_at, judge_mixed}
use Rattle.mixed_laws.specs.Frames.{cesr-frame, cesr-judge}
use Rattle.mixed_known.specs.Known.{Known}
use Rattle.mixed_fast.specs.Found.{Found, Units, Fast}

-- ---- a part's start

module _ (f : Form) (tables : Tables) (part : List ℕ) (clean g : ℕ) where
  pub by-group : (g ≤ length part / (domain f).unit - 0) × (Lent tables → Grouped (domain f) part clean 0 g) → 0 < g → (t b : Bool)
      → (Lent tables → 0 < small_at ((domain f).sextets part) 0 → t ≡ is_indexed (letter_at ((domain f).sextets part) 0)) → not t ≡ true
      → (length part ≤ longest → Lent tables → Clear ((domain f).sextets part) 0 clean → group_at ((domain f).sextets part) 0 ≡ g → b ≡ true
      → Good (domain f) part 0 g)
      → b ≡ true → Units f tables part clean g
  by-group s p t b o is v y = record {
    few = omega (arith, s.0);
    right = λ l L K _. v l L K (master-size _ _ _ _ (s.1 L p).0 p (o L) (not-true _ is)) y;
  }

  pub by_first : (g ≤ length part / (domain f).unit - 0)
      × (length part ≤ longest → Lent tables → Clear ((domain f).sextets part) 0 clean → Accepts (domain f) part 0 g)
      → Units f tables part clean g
  by_first v = record { few = omega (arith, v.0); right = v.1 }

pub nothing : (f : Form) (tables : Tables) (part : List ℕ) (clean : ℕ) → Units f tables part clean 0
nothing f tables part clean = record { few = omega arith; right = λ l L K p. absurd (omega arith) }

-- ---- the item at a byte

-- bytes from an offset on start as the stream does there
pub starts-there : (s : List ℕ) (at n : ℕ) → 0 < n → start_at (take n (drop at s)) 0 ≡ start_at s at
starts-there s at n p =
    let z : at + 0 ≡ at = omega arith in
    ap start_of (get_or-take n (drop at s) 0 0 p ∙ get_or-drop at s 0 0 ∙ ap (λ (j : ℕ). get_or s j 0) z)

pub starts-here : (s : List ℕ) (at : ℕ) → start_at (drop at s) 0 ≡ start_at s at
starts-here s at = let z : at + 0 ≡ at = omega arith in ap start_of (get_or-drop at s 0 0 ∙ ap (λ (j : ℕ). get_or s j 0) z)

some : (n u : ℕ) → 0 < n * u → 0 < n
some zero u h = absurd (omega arith)
some (suc n) u h = omega arith

good-found : (f : Form) (s : List ℕ) (at n : ℕ) → start_at s at ≡ Cesr f → Good (domain f) (drop at s) 0 n → 0 < n * (domain f).unit
    → Found s at (n * (domain f).unit) Accepted
unfolding frame_in scale shift
good-found f s at n e g p =
    let part : List ℕ = drop at s in
    let z : (domain f).unit * 0 ≡ 0 = omega arith in
    let i : frame_ruled ((domain f).sextets part) ≡ Item g.kind g.head n = rw z at g.framed in
    let j : Accepted ≡ shift 0 (judge_in (domain f) (take ((domain f).unit * n) part)) = rw z at g.judged in
    let y : (domain f).unit * n ≡ n * (domain f).unit = mul_comm (domain f).unit n in
    let own : List ℕ = take (n * (domain f).unit) part in
    let v : judge_mixed own ≡ Accepted =
    cesr-judge own f (starts-there s at (n * (domain f).unit) p ∙ e) ∙ ap (λ (m : ℕ). judge_in (domain f) (take m part)) (sym y)
    ∙ sym (j ∙ shift_zero (judge_in (domain f) (take ((domain f).unit * n) part))) in
    record {
      kind = g.kind;
      head = g.head * (domain f).unit;
      framed = cesr-frame part f (starts-here s at ∙ e) ∙ ap (scale (domain f).unit) i;
      judged = rw v;
    }

-- ---- the answers

module _ (f : Form) (tables : Tables) (s : List ℕ) (at to : ℕ) where
  pub behind : Fast f tables s at to 0
  behind = record { right = λ L l K e p. absurd (omega arith) }

  module _ (clean n : ℕ) (k : Known s at to → Clear ((domain f).sextets (drop at s)) 0 clean)
      (U : Units f tables (take (length s - at) (drop at s)) clean n) where
    own : Units f tables (drop at s) clean n
    own = rw (to_end s at) at U

    pub in_bytes : (u : ℕ) → u ≡ (domain f).unit → Fast f tables s at to (n * u)
    in_bytes u q = record {
      right = λ L l K e p.
          let r : 0 < n * (domain f).unit = rw q at p in
          rw q (good-found f s at n e (own.right (omega (arith, length-drop at s)) L (k K) (some n (domain f).unit r)) r);
    }

pub bytes_fit : (f : Form) (tables : Tables) (s : List ℕ) (at clean n u : ℕ) → Units f tables (take (length s - at) (drop at s)) clean n
    → u ≡ (domain f).unit → length s * 1 < 2 ^ 63 → val.Fits w64 (n * u)
bytes_fit f tables s at clean n u U q b =
    let O : Units f tables (drop at s) clean n = rw (to_end s at) at U in
    let m : n * u ≤ length (drop at s) = rw q ((le-div_iff_mul-le (reader f).pos).0 O.few) in
    omega (arith, length-drop at s)
