-- Reading by the indexed table, case by case, over a part's sextets. Assumes nothing.
use mathlib.Core.Path.{◌≡◌, refl, sym, ◌∙◌}
use mathlib.Core.Bool.{true}
use mathlib.Core.List.{List}
use Prim.Native.Nat.{ℕ, ◌*◌, ◌/◌, ◌^◌, ◌<◌, ◌≤◌}
use native.Mathlib.Omega.{arith}
use mir.Syntax.{w64}
use mir.Val.{Fits}
use lib.ListN.{length, take, get_or}
use lib.Seq.{length-take-le}
use Rattle.format.specs.declared.Kind.{Kind}
use Rattle.format.specs.declared.Framed.{Framed}
use Rattle.format.specs.declared.Framed.TheVariants.{Item, Unframed}
use Rattle.format.specs.declared.Verdict.{Verdict}
use Rattle.format.specs.declared.Verdict.TheVariants.{Accepted, Refused}
use Rattle.format.specs.Units.{text_sextets, binary_sextets}
use Rattle.format.specs.Registry.{indexed_opening}
use Rattle.format.specs.Framing.{frame_indexed, frame_with}
use Rattle.format.specs.Judging.{behind, judge_kind, own_check}
use Rattle.format.specs.Reading.{judged}
use Rattle.format.specs.Indexed.{read_indexed_framed, reading_indexed}
use Rattle.framing_head.specs.Heads.{head_of}
use Rattle.framing.proofs.Laws.{framed-text, framed-binary, lawful, text-units, binary-units}
use Rattle.judging.specs.Own.{told_by, own_by}
use Rattle.judging.proofs.Laws.{own-text-judged, own-binary-judged}
use Rattle.reading_part.specs.Outcome.{outcome}

-- ---- judging

told-out : (k : Kind) (h n : ℕ) (v : Verdict) → told_by (Item k h n) v ≡ outcome (judged k h n v)
unfolding told_by outcome judged
told-out k h n Accepted = refl
told-out k h n (Refused m p) = refl

module _ (s : List ℕ) (f : Framed) (e : f ≡ frame_indexed s) where
  read-unframed : (m p : ℕ) → f ≡ Unframed m p → f ≡ outcome (reading_indexed s)
  unfolding reading_indexed read_indexed_framed outcome
  read-unframed m p q = rw (← e, q)

  read-judged : (k : Kind) (h n : ℕ) → f ≡ Item k h n → (v : Verdict) → v ≡ judge_kind k h (take (4 * n) s) (own_check 0) → (r : Framed)
      → r ≡ told_by (Item k h n) v → r ≡ outcome (reading_indexed s)
  unfolding reading_indexed read_indexed_framed
  read-judged k h n q v w r t = rw (← e, q, ← w) (t ∙ told-out k h n v)

-- a text's part, by its head
module _ (part cs : List ℕ) (f : Framed) (c : cs ≡ head_of (text_sextets part))
    (e : f ≡ frame_with indexed_opening (λ i. get_or cs i 0) (length part / 4)) where
  pub text-unframed : (m p : ℕ) → f ≡ Unframed m p → f ≡ outcome (reading_indexed (text_sextets part))
  text-unframed m p q = read-unframed (text_sextets part) f (framed-text true part cs f c e) m p q

  module _ (k : Kind) (h n : ℕ) (q : f ≡ Item k h n) where
    text-room : 4 * n ≤ length part
    text-room = omega (arith, (lawful true (text_sextets part) f k h n (framed-text true part cs f c e) q).room, text-units part)

    pub text-size-fits : length part * 1 < 2 ^ 63 → Fits w64 (4 * n)
    text-size-fits l = omega (arith, text-room)

    pub text-long : 4 * n ≡ length (take (4 * n) part)
    text-long = sym (length-take-le (4 * n) part text-room)

    pub text-judged : (own : List ℕ) → own ≡ head_of (take (4 * n) cs) → (v : Verdict)
        → v ≡ own_by k h n own (behind h (text_sextets (take (4 * n) part))) 0 → (r : Framed) → r ≡ told_by (Item k h n) v
        → r ≡ outcome (reading_indexed (text_sextets part))
    text-judged own o v w r z =
        let g = lawful true (text_sextets part) f k h n (framed-text true part cs f c e) q in
        read-judged (text_sextets part) f (framed-text true part cs f c e) k h n q v
        (own-text-judged part cs own k h n 0 v c o w g.few g.shape text-room) r z

-- a binary's
module _ (part cs : List ℕ) (f : Framed) (c : cs ≡ head_of (binary_sextets part))
    (e : f ≡ frame_with indexed_opening (λ i. get_or cs i 0) (length part / 3)) where
  pub binary-unframed : (m p : ℕ) → f ≡ Unframed m p → f ≡ outcome (reading_indexed (binary_sextets part))
  binary-unframed m p q = read-unframed (binary_sextets part) f (framed-binary true part cs f c e) m p q

  pub binary-judged : (k : Kind) (h n : ℕ) → f ≡ Item k h n → (own : List ℕ) → own ≡ head_of (take (4 * n) cs) → (v : Verdict)
      → v ≡ own_by k h n own Accepted 0 → (r : Framed) → r ≡ told_by (Item k h n) v → r ≡ outcome (reading_indexed (binary_sextets part))
  binary-judged k h n q own o v w r z =
      let g = lawful true (binary_sextets part) f k h n (framed-binary true part cs f c e) q in
      read-judged (binary_sextets part) f (framed-binary true part cs f c e) k h n q v
      (own-binary-judged part cs own k h n 0 v c o w g.few g.shape (omega (arith, g.room, binary-units part))) r z
