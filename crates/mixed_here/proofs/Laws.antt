-- What stands at a byte, one law for each way through the code. Assumes nothing.
use Prim.Native.Nat.{ℕ, ◌-◌, ◌<◌}
use mathlib.Core.Path.{◌≡◌, sym, ap, ◌∙◌}
use mathlib.Core.List.{List}
use native.Mathlib.Omega.{arith}
use lib.ListN.{length, take, drop}
use Rattle.format.specs.declared.Form.{Form}
use Rattle.format.specs.declared.Kind.{Kind}
use Rattle.format.specs.declared.Framed.{Framed}
use Rattle.format.specs.declared.Framed.TheVariants as F
use Rattle.format.specs.declared.Verdict.{Verdict}
use Rattle.format.specs.declared.Verdict.TheVariants.{Accepted}
use Rattle.judging.proofs.Laws.{to_end}
use Rattle.mixed.specs.declared.Start.{Start}
use Rattle.mixed.specs.declared.Start.TheVariants.{Cesr}
use Rattle.mixed.specs.Mixed.{start_at, form_byte, frame_mixed}
use Rattle.mixed_fast.specs.Found.{Fast}
use Rattle.mixed_item.specs.Items.{Judges}
use Rattle.mixed_here.specs.declared.Standing.{Standing}
use Rattle.mixed_here.specs.declared.Standing.TheVariants.{Item, Rest}
use Rattle.mixed_here.specs.Here.{General, Judged}
use Rattle.runs_tables.specs.declared.Tables.{Tables}

-- ---- the general way

module _ (s : List ℕ) (at : ℕ) (f : Framed) (e : f ≡ frame_mixed (take (length s - at) (drop at s))) where
  pub general-rest : (m p : ℕ) → f ≡ F.Unframed m p → General s at (Rest m)
  general-rest m p q = record { right = λ _. (p, sym (rw (to_end s at) at e) ∙ q) }

  pub general-item : (k : Kind) (h n : ℕ) → f ≡ F.Item k h n → (v : Verdict) → Judges s at n v → (t : Start) → t ≡ start_at s at → (b : ℕ)
      → b ≡ form_byte t → General s at (Item n v b)
  general-item k h n q v J t et b eb = record {
    right = λ few.
        let i : frame_mixed (drop at s) ≡ F.Item k h n = sym (rw (to_end s at) at e) ∙ q in
        (record { kind = k; head = h; framed = i; judged = J.right few k h i }, eb ∙ ap form_byte et);
  }

-- ---- either

module _ (tables : Tables) (s : List ℕ) (at to : ℕ) where
  pub behind : (r : Standing) → length s < at → Judged tables s at to r
  behind r l = record { right = λ L few h K. absurd (omega arith) }

  pub by-fast : (t : Start) → t ≡ start_at s at → (f : Form) → t ≡ Cesr f → (n : ℕ) → Fast f tables s at to n → 0 < n
      → (b : ℕ) → b ≡ form_byte (Cesr f) → Judged tables s at to (Item n Accepted b)
  by-fast t e f q n A p b eb = record { right = λ L few h K. (A.right L few K (sym e ∙ q) p, eb ∙ ap form_byte (sym q ∙ e)) }

  pub by_general : (r : Standing) → General s at r → Judged tables s at to r
  by_general r G = record { right = λ L few h K. G.right few }
