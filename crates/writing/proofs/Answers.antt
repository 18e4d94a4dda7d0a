-- The answers of the writing calls by the plan, and what the buffer holds then. Assumes nothing.
use mathlib.Core.Path.{◌≡◌, refl, ◌∙◌}
use mathlib.Core.List.{List}
use Prim.Native.Nat.{ℕ, ◌+◌, ◌≤◌}
use lib.ListN.{length}
use Rattle.format.specs.declared.Code.{Code}
use Rattle.format.specs.Texts.{text_count}
use Rattle.format.specs.Conversion.{first_stranger}
use Rattle.format.specs.Writing.{named, Writing, writing, text_outcome, binary_outcome}
use Rattle.format.specs.Writing.{written_bytes, write_text, write_binary, text_item_left, binary_item_left}
use Rattle.format.specs.Writing.Writing.{refused, written}
use Rattle.writing_raw.specs.Item.{Sized, raw_item, room_for, binary_in, text_in}
use Rattle.writing_head.specs.Heads.{TextSized}
use Rattle.writing.proofs.Plans.{Ready, TextReady}
use Rattle.writing_fill.specs.Filled.{text_item}
use Rattle.std.specs.Prelude.{Result}
use Rattle.format.specs.declared.Refusal.{Refusal}
use Rattle.format.specs.Refusals.{refused_by}
use Rattle.format.specs.declared.TextOffset.{TextOffset}
use Rattle.format.specs.declared.BinaryOffset.{BinaryOffset}

module _ (code : Code) (tag : List ℕ) (tags : ℕ) (raw d : List ℕ) where
  pub binary-refused : (m p : ℕ) → ((u room : ℕ) → writing u (named code) tag tags raw room ≡ refused m p)
      → (refused_by m p ≡ write_binary code tag tags raw (length d)) × (d ≡ binary_item_left (refused_by m p) code tag tags raw d)
  unfolding write_binary binary_outcome binary_item_left
  binary-refused m p t = (rw (t 3 (length d)), refl)

  pub text-refused : (m p : ℕ) → ((u room : ℕ) → writing u (named code) tag tags raw room ≡ refused m p)
      → (refused_by m p ≡ write_text code tag tags raw (length d)) × (d ≡ text_item_left (refused_by m p) code tag tags raw d)
  unfolding write_text text_outcome text_item_left
  text-refused m p t = (rw (t 4 (length d)), refl)

  binary-left : (w : Writing) → binary_in w (written_bytes code tag tags raw) d ≡ binary_item_left (binary_outcome w) code tag tags raw d
  unfolding binary_outcome binary_item_left
  binary-left (refused m p) = refl
  binary-left (written k) = refl

  text-left : (w : Writing) → text_in w (written_bytes code tag tags raw) d ≡ text_item_left (text_outcome w) code tag tags raw d
  unfolding text_outcome text_item_left
  text-left (refused m p) = refl
  text-left (written k) = refl

  -- what is left is to ask the room of k units, whose bytes are b
  module _ (k : ℕ) (b : List ℕ) (answer : (u room : ℕ) → writing u (named code) tag tags raw room ≡ room_for u k room) (bytes : written_bytes code tag tags raw ≡ b)
      (d' : List ℕ) where
    binary-by : (w : Result BinaryOffset (Refusal ℕ)) → w ≡ binary_outcome (room_for 3 k (length d)) → d' ≡ binary_in (room_for 3 k (length d)) b d
        → (w ≡ write_binary code tag tags raw (length d)) × (d' ≡ binary_item_left w code tag tags raw d)
    unfolding write_binary
    binary-by w e f = (e ∙ rw (answer 3 (length d)), f ∙ rw (← bytes, e) (binary-left (room_for 3 k (length d))))

    text-by : (w : Result TextOffset (Refusal ℕ)) → w ≡ text_outcome (room_for 4 k (length d)) → d' ≡ text_in (room_for 4 k (length d)) b d
        → (w ≡ write_text code tag tags raw (length d)) × (d' ≡ text_item_left w code tag tags raw d)
    unfolding write_text
    text-by w e f = (e ∙ rw (answer 4 (length d)), f ∙ rw (← bytes, e) (text-left (room_for 4 k (length d))))

  -- an item that a raw value ends
  module _ (k : ℕ) (head : List ℕ) (r : Ready (named code) tag tags raw k head) (d' : List ℕ) where
    raw-bytes : written_bytes code tag tags raw ≡ raw_item k head raw
    unfolding written_bytes
    raw-bytes = r.item.bytes

    pub binary-done : (w : Result BinaryOffset (Refusal ℕ)) → (Sized (length raw) k → w ≡ binary_outcome (room_for 3 k (length d)))
        → (Sized (length raw) k → d' ≡ binary_in (room_for 3 k (length d)) (raw_item k head raw) d)
        → (w ≡ write_binary code tag tags raw (length d)) × (d' ≡ binary_item_left w code tag tags raw d)
    binary-done w e f = binary-by k (raw_item k head raw) r.answer raw-bytes d' w (e r.item.size) (f r.item.size)

    pub text-done : (w : Result TextOffset (Refusal ℕ)) → (Sized (length raw) k → w ≡ text_outcome (room_for 4 k (length d)))
        → (Sized (length raw) k → d' ≡ text_in (room_for 4 k (length d)) (raw_item k head raw) d)
        → (w ≡ write_text code tag tags raw (length d)) × (d' ≡ text_item_left w code tag tags raw d)
    text-done w e f = text-by k (raw_item k head raw) r.answer raw-bytes d' w (e r.item.size) (f r.item.size)

  -- an item that a text ends
  module _ (h : ℕ) (head : List ℕ) (r : TextReady (named code) tag tags raw h head) (d' : List ℕ) where
    abbrev units : ℕ
    units = h + text_count (length raw)

    chars-bytes : written_bytes code tag tags raw ≡ text_item h head raw
    unfolding written_bytes
    chars-bytes = r.item.bytes

    pub chars-in-binary : (w : Result BinaryOffset (Refusal ℕ)) → (TextSized (length raw) h → w ≡ binary_outcome (room_for 3 units (length d)))
        → (TextSized (length raw) h → length raw ≤ first_stranger raw → d' ≡ binary_in (room_for 3 units (length d)) (text_item h head raw) d)
        → (w ≡ write_binary code tag tags raw (length d)) × (d' ≡ binary_item_left w code tag tags raw d)
    chars-in-binary w e f = binary-by units (text_item h head raw) r.answer chars-bytes d' w (e r.item.size) (f r.item.size r.clean)

    pub chars-in-text : (w : Result TextOffset (Refusal ℕ)) → (TextSized (length raw) h → w ≡ text_outcome (room_for 4 units (length d)))
        → (TextSized (length raw) h → length raw ≤ first_stranger raw → d' ≡ text_in (room_for 4 units (length d)) (text_item h head raw) d)
        → (w ≡ write_text code tag tags raw (length d)) × (d' ≡ text_item_left w code tag tags raw d)
    chars-in-text w e f = text-by units (text_item h head raw) r.answer chars-bytes d' w (e r.item.size) (f r.item.size r.clean)
