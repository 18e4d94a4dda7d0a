-- What a writer answers, in units, and that a reading has one answer. For both tables. Assumes nothing.
use Rattle.std.specs.Prelude.{ℕ, ◌*◌, ◌≡◌, refl}
use Rattle.std.proofs.Common.{sym, ap, arith}
use Rattle.format.specs.declared.Kind.{Kind}
use Rattle.format.specs.declared.TextOffset.{TextOffset}
use Rattle.format.specs.declared.BinaryOffset.{BinaryOffset}
use Rattle.format.specs.Offsets.{text_offset, binary_offset}
use Rattle.format.specs.Reading.{Reading, refused, found}
use Rattle.format.specs.Writing.{Writing, written, text_outcome, binary_outcome}
use Rattle.format.specs.Writing as W
use Rattle.std.specs.Prelude.{Ok}

-- ---- a writer: of u elements to the unit

pub record Units (u : ℕ) (w : Writing) (size : ℕ) : Type 0 where
  pub units : ℕ
  pub is : w ≡ written units
  pub size_is : size ≡ units * u

pub text-units : (w : Writing) (size : ℕ) → text_outcome w ≡ Ok (text_offset size) → Units 4 w size
unfolding text_outcome
text-units (W.refused m p) size e = let z : ◌≡◌ {A = ℕ} 0 1 = cc in absurd (omega arith)
text-units (written n) size e =
    let o : text_offset (n * 4) ≡ text_offset size = cc in
    record { units = n; is = refl; size_is = sym (ap (λ (x : TextOffset). x.0) o) }

pub binary-units : (w : Writing) (size : ℕ) → binary_outcome w ≡ Ok (binary_offset size) → Units 3 w size
unfolding binary_outcome
binary-units (W.refused m p) size e = let z : ◌≡◌ {A = ℕ} 0 1 = cc in absurd (omega arith)
binary-units (written n) size e =
    let o : binary_offset (n * 3) ≡ binary_offset size = cc in
    record { units = n; is = refl; size_is = sym (ap (λ (x : BinaryOffset). x.0) o) }

-- ---- a reading

-- a reading finds one thing
pub found-same : {x : Reading} {k k' : Kind} {h h' n n' : ℕ} → x ≡ found k h n → x ≡ found k' h' n' → (k ≡ k') × (h ≡ h') × (n ≡ n')
found-same e f = (cc, cc, cc)

pub unfound : {m p h n : ℕ} {k : Kind} → refused m p ≡ found k h n → ⊥
unfound e = let z : ◌≡◌ {A = ℕ} 0 1 = cc in omega arith
