-- The answers of reading an indexed item from a text, case by case, and what the buffer then holds. Assumes nothing.
use mathlib.Core.Path.{◌≡◌, refl, subst}
use mathlib.Core.Bool.{true}
use mathlib.Core.List.{List}
use Prim.Native.Nat.{ℕ, ◌+◌, ◌-◌, ◌*◌, ◌/◌, ◌%◌, ◌<◌, ◌≤◌}
use native.Mathlib.Omega.{arith}
use lib.ListN.{length, take, drop, length-drop, length-take, length-map, drop_of_length-le}
use borrow.Author.Tests.{lt-ltb, le-ltb}
use Rattle.format.specs.declared.Kind.{Kind}
use Rattle.format.specs.declared.Framed.{Framed}
use Rattle.format.specs.declared.Framed.TheVariants.{Item, Unframed}
use Rattle.format.specs.declared.Verdict.{Verdict}
use Rattle.format.specs.declared.Verdict.TheVariants.{Accepted, Refused}
use Rattle.format.specs.Alphabet.{sextet_of}
use Rattle.format.specs.Offsets.{text_offset}
use Rattle.format.specs.Units.{text_sextets}
use Rattle.format.specs.Registry.{indexed_opening}
use Rattle.format.specs.Framing.{frame_with, frame_indexed, sextet}
use Rattle.format.specs.Reading.{judged, from, place_from}
use Rattle.format.specs.Reading.Reading.{refused, found}
use Rattle.format.specs.Indexed.{read_indexed_framed, reading_indexed, text_indexed_answer, read_indexed_text, indexed_left}
use Rattle.laws.specs.Framing.{Lawful, Good, by-good}
use Rattle.judging.proofs.Bounds.{Head, by-head, Near, own-near}
use Rattle.reading_part.specs.Outcome.{outcome}
use Rattle.reading_part.proofs.Answers.{is-refused, is_found}
use Rattle.indexed_found.specs.Begun.{Begun}
use Rattle.std.specs.Prelude.{Ok, Err, Result}
use Rattle.format.specs.declared.Refusal.{Refusal}
use Rattle.format.specs.Refusals.{refused_by}
use Rattle.format.specs.declared.TextOffset.{TextOffset}
use Rattle.format.specs.declared.IndexedItem.{IndexedItem}

module _ (s : List ℕ) (at room : ℕ) where
  pub text-long : 4194304 < length s → refused_by 1 (text_offset 0) ≡ read_indexed_text s at room
  unfolding read_indexed_text
  text-long l = simp (lt-ltb _ _ l)

  module _ (l : length s ≤ 4194304) where
    pub text-past : length s ≤ at → refused_by 4 (text_offset at) ≡ read_indexed_text s at room
    unfolding read_indexed_text from text_sextets reading_indexed read_indexed_framed frame_indexed frame_with text_indexed_answer place_from
    text-past p =
        let z : at + 0 ≡ at = omega arith in
        rw (le-ltb 4194304 (length s) l, drop_of_length-le s {i = at} p, z)

    pub text-refused : (m p : ℕ) → outcome (reading_indexed (text_sextets (drop at s))) ≡ Unframed m p
        → refused_by m (text_offset (at + p)) ≡ read_indexed_text s at room
    unfolding read_indexed_text from text_indexed_answer place_from
    text-refused m p e =
        let z : p / 4 * 4 + p % 4 ≡ p = omega arith in
        rw (le-ltb 4194304 (length s) l, is-refused (reading_indexed (text_sextets (drop at s))) m p e, z)

    pub text-found : (k : Kind) (h n : ℕ) → outcome (reading_indexed (text_sextets (drop at s))) ≡ Item k h n → (r : Result IndexedItem (Refusal TextOffset))
        → r ≡ text_indexed_answer 0 (found k h n) (text_sextets (drop at s)) room → r ≡ read_indexed_text s at room
    unfolding read_indexed_text from text_indexed_answer
    text-found k h n e r q = rw (le-ltb 4194304 (length s) l, is_found (reading_indexed (text_sextets (drop at s))) k h n e) q

-- the part that is read
pub begun-at : (s : List ℕ) (at : ℕ) (k : Kind) (h n : ℕ) → outcome (reading_indexed (text_sextets (drop at s))) ≡ Item k h n → length s ≤ 4194304
    → Begun (drop at s) k h n
begun-at s at k h n e l = record { read = e; short = omega (arith, length-drop at s) }

-- what the buffer holds, by the part
pub left-from : (f : Result IndexedItem (Refusal TextOffset)) (s : List ℕ) (at : ℕ) (d : List ℕ) → indexed_left f (drop at s) 0 d ≡ indexed_left f s at d
unfolding indexed_left from
left-from (Ok p) s at d = refl
left-from (Err why) s at d = refl

-- ---- the place of a refusal can be counted on from the offset

judged-place : (k : Kind) (h n b : ℕ) (v : Verdict) (m p : ℕ) → Near b v → judged k h n v ≡ refused m p → p ≤ b
unfolding judged
judged-place k h n b Accepted m p l e = let z : ◌≡◌ {A = ℕ} 0 1 = cc in absurd (omega arith)
judged-place k h n b (Refused m' p') m p l e = let q : p ≡ p' = cc in omega arith

framed-place : (s : List ℕ) (f : Framed) (m p : ℕ) → frame_indexed s ≡ f → read_indexed_framed f s ≡ refused m p → p ≤ length s + 8
unfolding read_indexed_framed
framed-place s (Unframed m' p') m p e r =
    let q : p ≡ p' = cc in
    let l : p' ≤ 7 = subst (Head (sextet s)) e (by-head true s) in
    omega arith
framed-place s (Item k h n) m p e r =
    let g : Lawful (frame_with indexed_opening) (sextet s) (length s / 4) k h n = subst (Good (frame_with indexed_opening) (sextet s) (length s / 4)) e (by-good true s) in
    let l = judged-place k h n _ _ m p (own-near k h 0 (take (4 * n) s) g.few) r in
    omega (arith, length-take (4 * n) s)

pub text-place : (s : List ℕ) (at m p : ℕ) → outcome (reading_indexed (text_sextets (drop at s))) ≡ Unframed m p → p ≤ length s + 8
unfolding reading_indexed text_sextets
text-place s at m p e =
    let n = framed-place (text_sextets (drop at s)) _ m p refl (is-refused (reading_indexed (text_sextets (drop at s))) m p e) in
    omega (arith, length-map (drop at s) sextet_of, length-drop at s)
