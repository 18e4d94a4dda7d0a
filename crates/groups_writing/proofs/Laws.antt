-- What the calls answer and leave in the buffer. Assumes nothing.
use Prim.Native.Nat.{ℕ, ◌≤◌}
use mathlib.Core.Path.{◌≡◌, sym, ◌∙◌}
use mathlib.Core.List.{List}
use lib.ListN.{length}
use borrow.Author.Tests.{le-ltb}
use Rattle.format.specs.declared.Form.{Form}
use Rattle.format.specs.Alphabet.{sextet_of}
use Rattle.format.specs.Units.{domain}
use Rattle.format.specs.Offsets.{text_offset, binary_offset}
use Rattle.groups.specs.Grouping.{group_size, grouped, group_left, text_grouped, binary_grouped}
use Rattle.groups_claims.proofs.Proved as C
use Rattle.groups_put.specs.Put.{put_group}
use Rattle.std.specs.Prelude.{Ok, Result}
use Rattle.format.specs.declared.Refusal.{Refusal}
use Rattle.format.specs.Refusals.{refused_by}

-- ---- the call

module _ (f : Form) (letter len : ℕ) (buf : List ℕ) (a : Result ℕ (Refusal ℕ)) (e : a ≡ grouped f letter len buf) where
  pub is-written : (size : ℕ) → a ≡ Ok size → (l : ℕ) (z : List ℕ) → l ≡ sextet_of letter → z ≡ put_group f l len buf
      → (a ≡ grouped f letter len buf) × (z ≡ group_left (grouped f letter len buf) f letter len buf)
  unfolding group_left put_group
  is-written size q l z p r =
      let w = ((C.proved).of-call f letter len buf).only-writes size (sym e ∙ q) in
      let fits : group_size (domain f) len ≤ length buf = rw (← w.2) w.3 in
      (e, r ∙ rw (sym e ∙ q, p, w.2, le-ltb (length buf) (group_size (domain f) len) fits))

  pub is-refused : (m p : ℕ) → a ≡ refused_by m p
      → (a ≡ grouped f letter len buf) × (buf ≡ group_left (grouped f letter len buf) f letter len buf)
  unfolding group_left
  is-refused m p q = (e, rw (sym e ∙ q))

-- ---- in a form's own offsets

module _ (g r : Result ℕ (Refusal ℕ)) (e : r ≡ g) where
  pub text-written : (n : ℕ) → r ≡ Ok n → Ok (text_offset n) ≡ text_grouped g
  unfolding text_grouped
  text-written n q = rw (sym e ∙ q)

  pub text-refused : (m p : ℕ) → r ≡ refused_by m p → refused_by m (text_offset p) ≡ text_grouped g
  unfolding text_grouped
  text-refused m p q = rw (sym e ∙ q)

  pub binary-written : (n : ℕ) → r ≡ Ok n → Ok (binary_offset n) ≡ binary_grouped g
  unfolding binary_grouped
  binary-written n q = rw (sym e ∙ q)

  pub binary-refused : (m p : ℕ) → r ≡ refused_by m p → refused_by m (binary_offset p) ≡ binary_grouped g
  unfolding binary_grouped
  binary-refused m p q = rw (sym e ∙ q)
