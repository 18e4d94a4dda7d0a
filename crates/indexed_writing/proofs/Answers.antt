-- The answers of the writing calls by the plan, and what the buffer holds then. Assumes nothing.
use mathlib.Core.Path.{◌≡◌, refl, ◌∙◌}
use mathlib.Core.List.{List}
use Prim.Native.Nat.{ℕ, ◌/◌}
use lib.ListN.{length}
use Rattle.format.specs.declared.IndexRow.{IndexRow}
use Rattle.format.specs.declared.IndexCode.{IndexCode}
use Rattle.format.specs.Writing.{Writing, text_outcome, binary_outcome}
use Rattle.format.specs.Writing.Writing.{refused, written}
use Rattle.format.specs.Indexed.{named_index, writing_indexed, written_indexed, write_indexed_text, write_indexed_binary, text_indexed_left, binary_indexed_left}
use Rattle.writing_raw.specs.Item.{Sized, raw_item, room_for, binary_in, text_in}
use Rattle.indexed_head.specs.Heads.{head_bytes}
use Rattle.indexed_head.proofs.Heads.{Ready}
use Rattle.std.specs.Prelude.{Result}
use Rattle.format.specs.declared.Refusal.{Refusal}
use Rattle.format.specs.Refusals.{refused_by}
use Rattle.format.specs.declared.TextOffset.{TextOffset}
use Rattle.format.specs.declared.BinaryOffset.{BinaryOffset}

module _ (code : IndexCode) (index ondex : ℕ) (raw d : List ℕ) where
  pub binary-refused : (m p : ℕ) → ((u room : ℕ) → writing_indexed u (named_index code) index ondex (length raw) room ≡ refused m p)
      → (refused_by m p ≡ write_indexed_binary code index ondex raw (length d)) × (d ≡ binary_indexed_left (refused_by m p) code index ondex raw d)
  unfolding write_indexed_binary binary_outcome binary_indexed_left
  binary-refused m p t = (rw (t 3 (length d)), refl)

  binary-left : (w : Writing) → binary_in w (written_indexed code index ondex raw) d ≡ binary_indexed_left (binary_outcome w) code index ondex raw d
  unfolding binary_outcome binary_indexed_left
  binary-left (refused m p) = refl
  binary-left (written k) = refl

  pub text-refused : (m p : ℕ) → ((u room : ℕ) → writing_indexed u (named_index code) index ondex (length raw) room ≡ refused m p)
      → (refused_by m p ≡ write_indexed_text code index ondex raw (length d)) × (d ≡ text_indexed_left (refused_by m p) code index ondex raw d)
  unfolding write_indexed_text text_outcome text_indexed_left
  text-refused m p t = (rw (t 4 (length d)), refl)

  text-left : (w : Writing) → text_in w (written_indexed code index ondex raw) d ≡ text_indexed_left (text_outcome w) code index ondex raw d
  unfolding text_outcome text_indexed_left
  text-left (refused m p) = refl
  text-left (written k) = refl

  -- an item of a row's size and first bytes, by its room
  module _ (c : IndexRow) (r : Ready (named_index code) index ondex raw c) (d' : List ℕ) where
    item-bytes : written_indexed code index ondex raw ≡ raw_item (c.size / 4) (head_bytes c index ondex) raw
    unfolding written_indexed
    item-bytes = r.bytes

    pub binary-done : (w : Result BinaryOffset (Refusal ℕ)) → (Sized (length raw) (c.size / 4) → w ≡ binary_outcome (room_for 3 (c.size / 4) (length d)))
        → (Sized (length raw) (c.size / 4) → d' ≡ binary_in (room_for 3 (c.size / 4) (length d)) (raw_item (c.size / 4) (head_bytes c index ondex) raw) d)
        → (w ≡ write_indexed_binary code index ondex raw (length d)) × (d' ≡ binary_indexed_left w code index ondex raw d)
    unfolding write_indexed_binary
    binary-done w g h =
        let e = g r.size in
        (e ∙ rw (r.answer 3 (length d)), h r.size ∙ rw (← item-bytes, e) (binary-left (room_for 3 (c.size / 4) (length d))))

    pub text-done : (w : Result TextOffset (Refusal ℕ)) → (Sized (length raw) (c.size / 4) → w ≡ text_outcome (room_for 4 (c.size / 4) (length d)))
        → (Sized (length raw) (c.size / 4) → d' ≡ text_in (room_for 4 (c.size / 4) (length d)) (raw_item (c.size / 4) (head_bytes c index ondex) raw) d)
        → (w ≡ write_indexed_text code index ondex raw (length d)) × (d' ≡ text_indexed_left w code index ondex raw d)
    unfolding write_indexed_text
    text-done w g h =
        let e = g r.size in
        (e ∙ rw (r.answer 4 (length d)), h r.size ∙ rw (← item-bytes, e) (text-left (room_for 4 (c.size / 4) (length d))))
