-- The answers to a text, case by case, in the order of refusal. Assumes nothing.
use mathlib.Core.Path.{◌≡◌, refl}
use mathlib.Core.Bool.{Bool, true, false}
use mathlib.Core.List.{List}
use Prim.Native.Nat.{ℕ, ◌*◌, ◌/◌, ◌%◌, ◌<◌, ◌≤◌}
use native.Mathlib.Omega.{arith}
use lib.Dec.{ltb}
use lib.ListN.{length, get_or}
use borrow.Author.Tests.{lt-ltb, le-ltb}
use Rattle.base.specs.Pick.{pick}
use Rattle.format.specs.Alphabet.{sextet_of, stranger_number}
use Rattle.format.specs.Offsets.{text_offset, binary_offset}
use Rattle.format.specs.Conversion.{text_to_binary, first_stranger, first_number}
use Rattle.convert_order.specs.Lengths.{length_refusal}
use Rattle.std.specs.Prelude.{Ok, Result}
use Rattle.format.specs.declared.Refusal.{Refusal}
use Rattle.format.specs.Refusals.{refused_by}
use Rattle.format.specs.declared.TextOffset.{TextOffset}
use Rattle.format.specs.declared.BinaryOffset.{BinaryOffset}

-- ---- a length's refusal

module _ (n : ℕ) where
  pub length-long : 4194304 < n → length_refusal n ≡ 1
  unfolding length_refusal
  length-long a = simp (lt-ltb _ _ a)

  pub length-torn : n ≤ 4194304 → 0 < n % 4 → length_refusal n ≡ 2
  unfolding length_refusal
  length-torn a b = simp (le-ltb _ _ a, lt-ltb _ _ b)

  pub length_whole : n ≤ 4194304 → n % 4 ≤ 0 → length_refusal n ≡ 0
  unfolding length_refusal
  length_whole a b = simp (le-ltb _ _ a, le-ltb _ _ b)

neither : (a b : Bool) → ◌≡◌ {A = ℕ} (pick a 1 (pick b 2 0)) 0 → (a ≡ false) × (b ≡ false)
neither true b e = absurd (omega (arith, e))
neither false true e = absurd (omega (arith, e))
neither false false e = (refl, refl)

first-told : (a b : Bool) (x : Result BinaryOffset (Refusal TextOffset)) → 0 < pick a 1 (pick b 2 0)
    → pick a (refused_by 1 (text_offset 0)) (pick b (refused_by 2 (text_offset 0)) x) ≡ refused_by (pick a 1 (pick b 2 0)) (text_offset 0)
first-told true b x h = refl
first-told false true x h = refl
first-told false false x h = absurd (omega (arith, h))

pub text-length : (s : List ℕ) (room : ℕ) → 0 < length_refusal (length s) → text_to_binary s room ≡ refused_by (length_refusal (length s)) (text_offset 0)
unfolding text_to_binary length_refusal
text-length s room h = first-told (ltb 4194304 (length s)) (ltb 0 (length s % 4)) _ h

-- ---- behind it

module _ (s : List ℕ) (room : ℕ) (w : length_refusal (length s) ≡ 0) (i : ℕ) (e : i ≡ first_stranger s) where
  lengths : (ltb 4194304 (length s) ≡ false) × (ltb 0 (length s % 4) ≡ false)
  unfolding length_refusal
  lengths = neither _ _ w

  pub text-stranger : i < length s → text_to_binary s room ≡ refused_by (stranger_number (sextet_of (get_or s i 0))) (text_offset i)
  unfolding text_to_binary first_number
  text-stranger d = rw e (simp (lengths.0, lengths.1, lt-ltb _ _ (rw e at d)))

  pub text-no-room : length s ≤ i → room < length s / 4 * 3 → text_to_binary s room ≡ refused_by 3 (text_offset 0)
  unfolding text_to_binary
  text-no-room d r = simp (lengths.0, lengths.1, le-ltb _ _ (rw e at d), lt-ltb _ _ r)

  pub text-converted : length s ≤ i → length s / 4 * 3 ≤ room → text_to_binary s room ≡ Ok (binary_offset (length s / 4 * 3))
  unfolding text_to_binary
  text-converted d r = simp (lengths.0, lengths.1, le-ltb _ _ (rw e at d), le-ltb _ _ r)
