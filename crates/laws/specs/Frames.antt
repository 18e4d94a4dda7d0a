-- Framing a stream of a domain, in its own elements, obeys the two laws that the damage theorem asks for. Assumes nothing.
use Rattle.std.specs.Prelude.{ℕ, ◌*◌, ◌/◌, ◌≤◌, ◌<◌, ◌≡◌, List, Bool, true, false, get_or, take}
use Rattle.std.proofs.Common.{sym, ◌∙◌, subst, arith, le-div_iff_mul-le, mul-pos, le_trans, length-take-le, ext_get_or, get_or-take}
use Rattle.std.proofs.Math.Path.{ap}
use Rattle.std.proofs.Math.Nat.{mul-le-mul_right}
use Rattle.std.proofs.Math.ListN.{length}
use Rattle.format.specs.declared.Kind.{Kind}
use Rattle.format.specs.declared.Framed.{Framed}
use Rattle.format.specs.declared.Framed.TheVariants.{Item}
use Rattle.format.specs.Units.{Domain}
use Rattle.format.specs.Registry.{opening, indexed_opening}
use Rattle.format.specs.Framing.{sextet, frame, frame_indexed, frame_ruled, frame_with, scale}
use Rattle.format.specs.Judging.{frame4}
use Rattle.format.specs.Report.{frame_in}
use Rattle.damage.specs.Words.{Agree, Frames}
use Rattle.laws.specs.Registry.{opening-opens, indexed-opens}
use Rattle.laws.specs.Domains.{Reader, plain, plain-reader}
use Rattle.laws.specs.Framing.{Same, Good, Lawful, ruled_with, frame_with-good, ruled_with-good, unscale}

same-take : (n : ℕ) (xs ys : List ℕ) → n ≤ length xs → n ≤ length ys → Agree n xs ys → take n ys ≡ take n xs
same-take n xs ys hx hy ag =
    let lx : length (take n xs) ≡ n = length-take-le n xs hx in
    let ly : length (take n ys) ≡ n = length-take-le n ys hy in
    ext_get_or 0 (take n ys) (take n xs) (ly ∙ sym lx)
    (λ i l. get_or-take n ys i 0 (omega arith) ∙ ag i (omega arith) ∙ sym (get_or-take n xs i 0 (omega arith)))

-- a framing of sextets on a stream of the domain, sizes in its elements
abbrev pub framed_in : Domain → ((ℕ → ℕ) → ℕ → Framed) → List ℕ → Framed
framed_in d f xs = scale d.unit (f (sextet (d.sextets xs)) (length (d.sextets xs) / 4))

module _ (d : Domain) (R : Reader d) where
  -- the bytes of the first k units decide their sextets
  pub same-sextets : (xs ys : List ℕ) (k : ℕ) → k * d.unit ≤ length xs → k * d.unit ≤ length ys → Agree (k * d.unit) xs ys
      → Same k (sextet (d.sextets xs)) (sextet (d.sextets ys))
  same-sextets xs ys k hx hy ag i l =
      let e : take (k * 4) (d.sextets ys) ≡ take (k * 4) (d.sextets xs) =
      sym (R.taken ys k hy) ∙ ap d.sextets (same-take (k * d.unit) xs ys hx hy ag) ∙ R.taken xs k hx in
      sym (get_or-take (k * 4) (d.sextets ys) i 0 (omega arith)) ∙ ap (λ (s : List ℕ). get_or s i 0) e
      ∙ get_or-take (k * 4) (d.sextets xs) i 0 (omega arith)

  module _ (f : (ℕ → ℕ) → ℕ → Framed) (good : (at : ℕ → ℕ) (len : ℕ) → Good f at len (f at len)) where
    -- sizes in units and in elements
    module _ (xs : List ℕ) (k : Kind) (h n h' n' : ℕ) (eh : h ≡ h' * d.unit) (en : n ≡ n' * d.unit)
        (g : Lawful f (sextet (d.sextets xs)) (length (d.sextets xs) / 4) k h' n') where
      in-elements : (0 < h) × (h ≤ n) × (n ≤ length xs)
      in-elements =
          rw (eh, en) (
            mul-pos g.some R.pos,
            mul-le-mul_right d.unit g.inside,
            (le-div_iff_mul-le R.pos).0 (rw (R.units xs) at g.room),
          )

      alike-elements : (ys : List ℕ) → Agree h xs ys → n ≤ length ys → framed_in d f ys ≡ Item k h n
      unfolding scale
      alike-elements ys ag l =
          let room : n' * d.unit ≤ length ys = rw en at l in
          let there : n' * d.unit ≤ length xs = rw en at in-elements.2 in
          let head : h' * d.unit ≤ n' * d.unit = mul-le-mul_right d.unit g.inside in
          let ag' : Agree (h' * d.unit) xs ys = rw eh at ag in
          ap (scale d.unit) (g.alike (sextet (d.sextets ys)) (length (d.sextets ys) / 4)
          (same-sextets xs ys h' (le_trans head there) (le_trans head room) ag')
          (rw (R.units ys) ((le-div_iff_mul-le R.pos).1 room)))
          ∙ rw (eh, en)

    lawful : (xs : List ℕ) {k : Kind} {h n : ℕ} → f (sextet (d.sextets xs)) (length (d.sextets xs) / 4) ≡ Item k h n
        → Lawful f (sextet (d.sextets xs)) (length (d.sextets xs) / 4) k h n
    lawful xs e = subst (Good f (sextet (d.sextets xs)) (length (d.sextets xs) / 4)) e (good _ _)

    pub frames-by : Frames (framed_in d f)
    frames-by = record {
      within = λ xs k h n e. let q = unscale d.unit _ e in in-elements xs k h n q.0 q.1 q.3 q.4 (lawful xs q.2);
      alike = λ xs ys k h n e. let q = unscale d.unit _ e in alike-elements xs k h n q.0 q.1 q.3 q.4 (lawful xs q.2) ys;
    }

-- top-level framing of a domain
pub frames : (d : Domain) → Reader d → Frames (frame_in d)
unfolding frame_in frame_ruled frame
frames d R = frames-by d R (ruled_with opening) (ruled_with-good opening opening-opens)

-- framing within a group, on sextets themselves
pub frames-any4 : (t : Bool) → Frames (frame4 t)
unfolding frame4 frame frame_indexed
frames-any4 true = frames-by plain plain-reader (frame_with indexed_opening) (frame_with-good indexed_opening indexed-opens)
frames-any4 false = frames-by plain plain-reader (frame_with opening) (frame_with-good opening opening-opens)
