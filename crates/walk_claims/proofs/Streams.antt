-- A stream from a unit on, in elements and in sextets: framed alike, and judged alike. Assumes nothing.
use Prim.Native.Nat.{ℕ, ◌+◌, ◌-◌, ◌*◌, ◌/◌, ◌%◌, ◌≤◌, ◌<◌}
use Rattle.std.specs.Prelude.{◌≡◌, refl, true, length, drop}
use Rattle.std.proofs.Math.Path.{sym, ap}
use Rattle.std.proofs.Common.{◌∙◌, le-div_iff_mul-le, add-mul, div-add-mod', length-drop, get_or-take, get_or-drop, drop-drop, ltb-true, ltb-false}
use mathlib.Core.List.{List, []}
use Rattle.std.proofs.Math.Bool.{false}
use native.Mathlib.Omega.{arith}
use Rattle.std.proofs.Math.ListN.{take}
use Rattle.std.proofs.Math.Seq.{slice_empty, drop-length}
use Rattle.format.specs.declared.Kind.{Kind}
use Rattle.format.specs.declared.Framed.TheVariants.{Item, Unframed}
use Rattle.format.specs.declared.Verdict.{Verdict}
use Rattle.format.specs.declared.Verdict.TheVariants.{Accepted, Refused}
use Rattle.format.specs.Units.{Domain}
use Rattle.format.specs.Registry.{opening}
use Rattle.format.specs.Framing.{sextet, frame, frame_ruled, frame_next, frame_with, ruled, scale}
use Rattle.format.specs.Judging.{shift, judge_kind, group, max_depth}
use Rattle.format.specs.Report.{frame_in, judge_in, placed}
use Rattle.laws.specs.Registry.{opening-opens}
use Rattle.laws.specs.Local.{ruled-there}
use Rattle.laws.specs.Domains.{Reader}
use Rattle.walk_claims.specs.Words.{units_in, tail_of}
use Rattle.laws.specs.Levels.{part, part_length, take-of-drop, any-item, judge-own}

-- elements of a unit that is not whole are never looked at
whole-units : (s : List ℕ) (at n : ℕ) → n ≡ length s / 4 → frame_ruled (part s at n) ≡ frame_ruled (drop (4 * at) s)
unfolding frame_ruled frame
whole-units s at n e =
    let l : length (part s at n) ≡ 4 * n - 4 * at = part_length s at n (omega arith) in
    let u : length (part s at n) / 4 ≡ length (drop (4 * at) s) / 4 = omega (arith, length-drop (4 * at) s) in
    rw u
    (ruled-there opening opening-opens (sextet (drop (4 * at) s)) (sextet (part s at n)) (length (drop (4 * at) s) / 4)
    (λ i lt _. get_or-drop (4 * at) (take (4 * n) s) i 0 ∙ get_or-take (4 * n) s (4 * at + i) 0 (omega arith) ∙ sym (get_or-drop (4 * at) s i 0)))

-- an item at top level is an item anywhere
pub ruled-any : (s : List ℕ) (k : Kind) (h m : ℕ) → frame_ruled s ≡ Item k h m → frame s ≡ Item k h m
unfolding frame_ruled frame_next
ruled-any s k h m e = any-item false true s k h m e

-- a place counted on from a unit
pub placed-shift : (u at : ℕ) (v : Verdict) → placed u (shift (4 * at) v) ≡ shift (at * u) (placed u v)
unfolding placed shift
placed-shift u at Accepted = refl
placed-shift u at (Refused n p) =
    let q : (4 * at + p) / 4 ≡ at + p / 4 = omega arith in
    let r : (4 * at + p) % 4 ≡ p % 4 = omega arith in
    ap (Refused n) (rw (q, r, add-mul) (omega arith))

-- the stream from a unit on
abbrev pub from : Domain → List ℕ → ℕ → List ℕ
from d xs at = drop (at * d.unit) xs

pub from_on : (d : Domain) (xs : List ℕ) (at m : ℕ) → drop (m * d.unit) (from d xs at) ≡ from d xs (at + m)
from_on d xs at m = drop-drop (m * d.unit) (at * d.unit) xs ∙ rw (add-mul at m d.unit)

module _ (d : Domain) (R : Reader d) (xs : List ℕ) where
  pub room : (at : ℕ) → at ≤ units_in d xs → at * d.unit ≤ length xs
  room at h = (le-div_iff_mul-le R.pos).0 h

  sextets-from : (at : ℕ) → at ≤ units_in d xs → d.sextets (from d xs at) ≡ drop (4 * at) (d.sextets xs)
  sextets-from at h = let e : at * 4 ≡ 4 * at = omega arith in R.dropped xs at (room at h) ∙ rw e

  pub framed-from : (at : ℕ) → at ≤ units_in d xs
      → frame_in d (from d xs at) ≡ scale d.unit (frame_ruled (part (d.sextets xs) at (units_in d xs)))
  unfolding frame_in
  framed-from at h =
      ap (scale d.unit) (ap frame_ruled (sextets-from at h) ∙ sym (whole-units (d.sextets xs) at (units_in d xs) (sym (R.units xs))))

  -- an item's own elements
  pub judged-from : (at : ℕ) (k : Kind) (h m : ℕ) → at ≤ units_in d xs
      → frame_ruled (part (d.sextets xs) at (units_in d xs)) ≡ Item k h m → m * d.unit ≤ length (from d xs at)
      → judge_in d (take (m * d.unit) (from d xs at))
      ≡ placed d.unit (judge_kind k h (part (d.sextets xs) at (at + m)) (group max_depth))
  unfolding judge_in
  judged-from at k h m le e fits =
      let s : List ℕ = d.sextets xs in
      let f : frame (drop (4 * at) s) ≡ Item k h m =
      ruled-any (drop (4 * at) s) k h m (sym (whole-units s at (units_in d xs) (sym (R.units xs))) ∙ e) in
      let o : 4 * at + m * 4 ≡ 4 * (at + m) = omega arith in
      let own : take (m * 4) (drop (4 * at) s) ≡ part s at (at + m) = take-of-drop (m * 4) (4 * at) s ∙ rw o in
      ap (placed d.unit)
      (rw (R.taken (from d xs at) m fits, sextets-from at le, judge-own false max_depth (drop (4 * at) s) k h m f, own))

  pub framed-item : (at : ℕ) (k : Kind) (h m : ℕ) → at < units_in d xs → frame_ruled (part (d.sextets xs) at (units_in d xs)) ≡ Item k h m
      → frame_in d (from d xs at) ≡ Item k (h * d.unit) (m * d.unit)
  unfolding scale
  framed-item at k h m lt e = framed-from at (omega arith) ∙ ap (scale d.unit) e

  pub framed-refused : (at m p : ℕ) → at < units_in d xs → frame_ruled (part (d.sextets xs) at (units_in d xs)) ≡ Unframed m p
      → frame_in d (from d xs at) ≡ Unframed m p
  unfolding scale
  framed-refused at m p lt e = framed-from at (omega arith) ∙ ap (scale d.unit) e

  -- behind the last whole unit nothing is framed
  pub framed-end : frame_in d (from d xs (units_in d xs)) ≡ Unframed 4 0
  unfolding scale frame_ruled frame frame_with ruled
  framed-end = framed-from (units_in d xs) (omega arith) ∙ rw (slice_empty (4 * units_in d xs) (d.sextets xs))

  pub some_left : (at : ℕ) → at < units_in d xs → 0 < length (from d xs at)
  some_left at lt = rw length-drop (omega (arith, R.pos, room (at + 1) (omega arith), add-mul at 1 d.unit))

  -- elements of a unit that is not whole stand there, or none
  pub tail-left : tail_of d xs ≡ true → 0 < length (from d xs (units_in d xs))
  tail-left e = rw length-drop (omega (arith, ltb-true 0 (length xs % d.unit) e, div-add-mod' (length xs) d.unit))

  pub none_left : tail_of d xs ≡ false → from d xs (units_in d xs) ≡ []
  none_left e =
      let z : units_in d xs * d.unit ≡ length xs = omega (arith, ltb-false 0 (length xs % d.unit) e, div-add-mod' (length xs) d.unit) in
      rw z (drop-length xs)
