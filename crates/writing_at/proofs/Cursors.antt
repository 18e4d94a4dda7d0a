-- An item written into the part of a buffer from a cursor on. Assumes nothing.
use mathlib.Core.Path.{◌≡◌, refl, sym, ◌∙◌}
use mathlib.Core.List.{List, [], ◌++◌, append-nil}
use mathlib.Core.Logic.{⊎_elim}
use Prim.Native.Nat.{ℕ, ◌+◌, ◌-◌, ◌*◌, ◌^◌, ◌<◌, ◌≤◌, min}
use native.Mathlib.Omega.{arith}
use mir.Syntax.{w64}
use mir.Val.{Fits}
use lib.ListN.{length, take, drop, length-drop, drop_of_length-le}
use lib.Seq.{take_all}
use Rattle.base.specs.Cases.{lt-or-ge}
use Rattle.format.specs.declared.Code.{Code}
use Rattle.format.specs.declared.TextOffset.{TextOffset}
use Rattle.format.specs.declared.BinaryOffset.{BinaryOffset}
use Rattle.format.specs.Offsets.{text_offset, binary_offset}
use Rattle.format.specs.Writing.{Writing}
use Rattle.format.specs.Writing.{text_outcome, binary_outcome, write_text, write_binary, text_item_left, binary_item_left}
use Rattle.format.specs.Writing.Writing.{refused, written}
use Rattle.judging.proofs.Laws.{to_end}
use Rattle.writing_at.specs.Cursor.{text_from, binary_from, write_text_at, write_binary_at, text_left_at, binary_left_at}
use Rattle.writing.proofs.Plans.{Held, held}
use Rattle.std.specs.Prelude.{Ok, Err, Result}
use Rattle.format.specs.declared.Refusal.{Refusal}

-- ---- what is written is there, and within the room

binary-some : (w : Writing) (room : ℕ) (n : BinaryOffset) → Held 3 room w → binary_outcome w ≡ Ok n → (n.0 ≤ room) × (0 < n.0)
unfolding binary_outcome
binary-some (refused m p) room n h e = let z : ◌≡◌ {A = ℕ} 0 1 = cc in absurd (omega arith)
binary-some (written k) room n h e = let q : n ≡ binary_offset (k * 3) = cc in rw q (h.0, omega (arith, h.1))

text-some : (w : Writing) (room : ℕ) (n : TextOffset) → Held 4 room w → text_outcome w ≡ Ok n → (n.0 ≤ room) × (0 < n.0)
unfolding text_outcome
text-some (refused m p) room n h e = let z : ◌≡◌ {A = ℕ} 0 1 = cc in absurd (omega arith)
text-some (written k) room n h e = let q : n ≡ text_offset (k * 4) = cc in rw q (h.0, omega (arith, h.1))

-- ---- the part from the cursor on; past the end it is empty

module _ (d : List ℕ) (cursor at : ℕ) (e : at ≡ min cursor (length d)) where
  at_rest : (take at d ≡ take cursor d) × (drop at d ≡ drop cursor d)
  at_rest =
      ⊎_elim (λ l. let q : at ≡ cursor = omega arith in rw q (refl, refl))
      (λ g. (take_all at d (omega arith) ∙ sym (take_all cursor d g), drop_of_length-le d {i = at} (omega arith) ∙ sym (drop_of_length-le d {i = cursor} g)))
      (lt-or-ge cursor (length d))

  lent : take (length d - at) (drop at d) ≡ drop cursor d
  lent = to_end d at ∙ at_rest.1

  -- whatever is done to the lent part
  put_back : (f : List ℕ → List ℕ) (d' : List ℕ) → d' ≡ f (drop cursor d)
      → take at d ++ (d' ++ drop (length d - at) (drop at d)) ≡ take cursor d ++ f (drop cursor d)
  put_back f d' p =
      let z : drop (length d - at) (drop at d) ≡ [] = drop_of_length-le (drop at d) {i = length d - at} (omega (arith, length-drop at d)) in
      rw (z, append-nil, at_rest.0, p)

  module _ (code : Code) (tag : List ℕ) (tags : ℕ) (raw : List ℕ) where
    module _ (w : Result BinaryOffset (Refusal ℕ)) (a : w ≡ write_binary code tag tags raw (length (take (length d - at) (drop at d)))) where
      binary-answer : w ≡ write_binary code tag tags raw (length (drop cursor d))
      binary-answer = rw lent at a

      -- a length that is written ends within the buffer, and the cursor stands in it
      binary-ends : (n : BinaryOffset) → w ≡ Ok n → (at + n.0 ≤ length d) × (at ≡ cursor)
      unfolding write_binary
      binary-ends n h =
          let s = binary-some _ (length (drop cursor d)) n (held 3 code tag tags raw (length (drop cursor d))) (sym binary-answer ∙ h) in
          let l = length-drop cursor d in
          (omega arith, omega arith)

      pub binary-fits : (n : BinaryOffset) → w ≡ Ok n → length d * 1 < 2 ^ 63 → Fits w64 (at + n.0)
      binary-fits n h l = omega (arith, (binary-ends n h).0)

      module _ (d' : List ℕ) (p : d' ≡ binary_item_left w code tag tags raw (take (length d - at) (drop at d))) where
        pub binary-behind : take at d ++ (d' ++ drop (length d - at) (drop at d)) ≡ binary_left_at code tag tags raw d cursor
        unfolding binary_left_at
        binary-behind = put_back (λ x. binary_item_left (write_binary code tag tags raw (length x)) code tag tags raw x) d' (rw (lent, binary-answer) at p)

      pub binary-at-refused : (r : Refusal ℕ) → w ≡ Err r → Err r ≡ write_binary_at code tag tags raw d cursor
      unfolding write_binary_at binary_from
      binary-at-refused r h = rw (← binary-answer, h)

      pub binary-at-written : (n : BinaryOffset) → w ≡ Ok n → Ok (binary_offset (at + n.0)) ≡ write_binary_at code tag tags raw d cursor
      unfolding write_binary_at binary_from
      binary-at-written n h = rw (← binary-answer, h, (binary-ends n h).1)

    module _ (w : Result TextOffset (Refusal ℕ)) (a : w ≡ write_text code tag tags raw (length (take (length d - at) (drop at d)))) where
      text-answer : w ≡ write_text code tag tags raw (length (drop cursor d))
      text-answer = rw lent at a

      text-ends : (n : TextOffset) → w ≡ Ok n → (at + n.0 ≤ length d) × (at ≡ cursor)
      unfolding write_text
      text-ends n h =
          let s = text-some _ (length (drop cursor d)) n (held 4 code tag tags raw (length (drop cursor d))) (sym text-answer ∙ h) in
          let l = length-drop cursor d in
          (omega arith, omega arith)

      pub text-fits : (n : TextOffset) → w ≡ Ok n → length d * 1 < 2 ^ 63 → Fits w64 (at + n.0)
      text-fits n h l = omega (arith, (text-ends n h).0)

      module _ (d' : List ℕ) (p : d' ≡ text_item_left w code tag tags raw (take (length d - at) (drop at d))) where
        pub text-behind : take at d ++ (d' ++ drop (length d - at) (drop at d)) ≡ text_left_at code tag tags raw d cursor
        unfolding text_left_at
        text-behind = put_back (λ x. text_item_left (write_text code tag tags raw (length x)) code tag tags raw x) d' (rw (lent, text-answer) at p)

      pub text-at-refused : (r : Refusal ℕ) → w ≡ Err r → Err r ≡ write_text_at code tag tags raw d cursor
      unfolding write_text_at text_from
      text-at-refused r h = rw (← text-answer, h)

      pub text-at-written : (n : TextOffset) → w ≡ Ok n → Ok (text_offset (at + n.0)) ≡ write_text_at code tag tags raw d cursor
      unfolding write_text_at text_from
      text-at-written n h = rw (← text-answer, h, (text-ends n h).1)
