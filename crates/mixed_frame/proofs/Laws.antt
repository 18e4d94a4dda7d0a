-- Framing by the first byte, one law for each way through the code. Assumes nothing.
use Prim.Native.Nat.{ℕ, ◌*◌, ◌^◌, ◌≤◌, ◌<◌}
use mathlib.Core.Path.{◌≡◌, sym, ap, ◌∙◌}
use mathlib.Core.List.{List}
use native.Mathlib.Omega.{arith}
use mir.Syntax.{w64}
use mir.Val as val
use lib.ListN.{length, drop, get_or-eq_default}
use borrow.Author.Tests.{ne_eqb, le-leb, lt-leb}
use Rattle.format.specs.declared.Form.{Form}
use Rattle.format.specs.declared.Form.TheVariants.{Text, Binary}
use Rattle.format.specs.declared.Kind.{Kind}
use Rattle.format.specs.declared.Kind.TheVariants.{Genus}
use Rattle.format.specs.declared.Framed.{Framed}
use Rattle.format.specs.declared.Framed.TheVariants.{Item, Unframed}
use Rattle.format.specs.Units.{domain}
use Rattle.format.specs.Framing.{frame_ruled, scale}
use Rattle.format.specs.Report.{frame_in}
use Rattle.laws.specs.Domains.{reader}
use Rattle.laws.specs.Frames.{frames}
use Rattle.mixed.specs.declared.Start.{Start}
use Rattle.mixed.specs.declared.Start.TheVariants.{Cesr, Json, Other}
use Rattle.mixed.specs.Json.{frame_json}
use Rattle.mixed.specs.Mixed.{start_of, start_at, form_byte, frame_mixed}
use Rattle.mixed_laws.specs.Frames.{cesr-frame, json-frame, other-frame}
use Rattle.mixed_frame.specs.Scales.{Scales}

-- ---- first bytes

module _ (b : ℕ) where
  pub text-byte : b ≡ 45 → Cesr Text ≡ start_of b
  unfolding start_of
  text-byte e = rw e

  pub json-byte : b ≡ 123 → Json ≡ start_of b
  unfolding start_of
  json-byte e = rw e

  module _ (n : b ≡ 45 → ⊥) (m : b ≡ 123 → ⊥) where
    pub low_byte : b < 248 → Other ≡ start_of b
    unfolding start_of
    low_byte h = rw (ne_eqb b 45 n, lt-leb 248 b h, ne_eqb b 123 m)

    pub binary-byte : 248 ≤ b → b ≤ 251 → Cesr Binary ≡ start_of b
    unfolding start_of
    binary-byte l h = rw (ne_eqb b 45 n, le-leb 248 b l, le-leb b 251 h)

    pub high_byte : 248 ≤ b → 251 < b → Other ≡ start_of b
    unfolding start_of
    high_byte l h = rw (ne_eqb b 45 n, le-leb 248 b l, lt-leb b 251 h, ne_eqb b 123 m)

pub no_byte : (s : List ℕ) (at : ℕ) → length s ≤ at → Other ≡ start_at s at
unfolding start_of
no_byte s at h = rw (get_or-eq_default s 0 {n = at} h)

-- ---- the last byte of a row

module _ (t : Start) where
  pub text-form : (f : Form) → t ≡ Cesr f → f ≡ Text → 0 ≡ form_byte t
  unfolding form_byte
  text-form f e q = rw (e, q)

  pub binary-form : (f : Form) → t ≡ Cesr f → f ≡ Binary → 1 ≡ form_byte t
  unfolding form_byte
  binary-form f e q = rw (e, q)

  pub json-form : t ≡ Json → 2 ≡ form_byte t
  unfolding form_byte
  json-form e = rw e

  pub other-form : t ≡ Other → 3 ≡ form_byte t
  unfolding form_byte
  other-form e = rw e

-- ---- sizes

module _ (u : ℕ) (f : Framed) where
  module _ (S : Scales u f) (k : Kind) (h n : ℕ) (e : f ≡ Item k h n) where
    pub head-fits : val.Fits w64 (h * u)
    head-fits = omega (arith, (S.each k h n e).0)

    pub size_fits : val.Fits w64 (n * u)
    size_fits = omega (arith, (S.each k h n e).1)

  pub scaled-item : (k : Kind) (h n : ℕ) → f ≡ Item k h n → Item k (h * u) (n * u) ≡ scale u f
  unfolding scale
  scaled-item k h n e = rw e

  pub scaled-not : (m p : ℕ) → f ≡ Unframed m p → f ≡ scale u f
  unfolding scale
  scaled-not m p e = rw e

-- what a part begins with
module _ (f : Form) (s : List ℕ) (g : Framed) (u : ℕ) (e : g ≡ frame_ruled ((domain f).sextets (drop ((domain f).unit * 0) s))) (q : u ≡ (domain f).unit) where
  at-start : g ≡ frame_ruled ((domain f).sextets s)
  at-start = let z : (domain f).unit * 0 ≡ 0 = omega arith in rw z at e

  in-form : scale u g ≡ frame_in (domain f) s
  unfolding frame_in
  in-form = rw (at-start, q)

  pub scales : length s * 1 < 2 ^ 63 → Scales u g
  unfolding scale
  scales l = record {
    each = λ k h n i.
        let j : frame_in (domain f) s ≡ Item k (h * u) (n * u) = sym in-form ∙ ap (scale u) i in
        let w = (frames (domain f) (reader f)).within s k (h * u) (n * u) j in
        (omega (arith, w.1, w.2), omega (arith, w.2));
  }

  pub framed-cesr : (r : Framed) → r ≡ scale u g → r ≡ frame_in (domain f) s
  framed-cesr r i = i ∙ in-form

-- ---- by the first byte

module _ (s : List ℕ) (t : Start) (e : t ≡ start_at s 0) where
  pub as-cesr : (f : Form) → t ≡ Cesr f → (r : Framed) → r ≡ frame_in (domain f) s → r ≡ frame_mixed s
  as-cesr f q r i = i ∙ sym (cesr-frame s f (sym e ∙ q))

  pub as-json : t ≡ Json → (r : Framed) → r ≡ frame_json Genus s → r ≡ frame_mixed s
  as-json q r i = i ∙ sym (json-frame s (sym e ∙ q))

  pub as-other : t ≡ Other → Unframed 17 0 ≡ frame_mixed s
  as-other q = sym (other-frame s (sym e ∙ q))
