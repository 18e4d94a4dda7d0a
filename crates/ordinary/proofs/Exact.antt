-- 19 exactly at one of the three: of every answer that has 5 for it when they are masked. Assumes nothing.
use Rattle.std.specs.Prelude.{ℕ, suc, ◌+◌, ◌-◌, ◌*◌, ◌/◌, ◌%◌, ◌<◌, ◌≤◌, refl, List, [], ◌∷◌, ◌++◌, Bool, true, false, ◌⊎◌, ltb, length, get_or, take, drop}
use Rattle.std.proofs.Math.Path.{◌≡◌, ap, sym, subst}
use Rattle.std.proofs.Common.{◌∙◌, arith, div-add-mod', ltb-true, get_or-take}
use Rattle.std.proofs.Math.Logic.{inl, inr}
use Rattle.base.specs.Pick.{pick, pick-by}
use Rattle.format.specs.declared.Kind.{Kind}
use Rattle.format.specs.declared.Framed.{Framed}
use Rattle.format.specs.declared.Framed.TheVariants.{Item, Unframed}
use Rattle.format.specs.declared.Verdict.{Verdict}
use Rattle.format.specs.declared.Verdict.TheVariants.{Accepted, Refused}
use Rattle.format.specs.declared.TextOffset.{TextOffset}
use Rattle.format.specs.declared.Code.{Code}
use Rattle.format.specs.declared.PrimitiveRead.{PrimitiveRead}
use Rattle.format.specs.Alphabet.{is_ordinary, sextet_of, stranger_number}
use Rattle.format.specs.Units.{text, text_sextets}
use Rattle.format.specs.Framing.{frame}
use Rattle.format.specs.Judging.{judge_kind, own_check, max_depth}
use Rattle.format.specs.Conversion.{first_stranger, first_number, text_to_binary}
use Rattle.format.specs.Report.{ItemRow, RefusalRow, refusal, refusals_of, refusals, frame_in, judge_in, rows_in, refusals_in}
use Rattle.format.specs.Reading.{Reading, is_primitive, judged, read_framed, reading, from, place_from, text_answer, read_text}
use Rattle.format.specs.Reading.Reading.{refused, found}
use Rattle.format.specs.Writing as W
use Rattle.walk_state.specs.declared.Walk.{Walk}
use Rattle.walk_state.specs.declared.Found.{Found}
use Rattle.walk_state.specs.declared.Found.TheVariants as F
use Rattle.walk_state.specs.declared.Stepped.{Stepped}
use Rattle.walk_state.specs.Walking.{stop_of, found_in, step_in}
use Rattle.laws.specs.Levels.{part}
use Rattle.claims.proofs.Demand1.{asked as asks}
use Rattle.walk_claims.specs.Words.{units_in, tail_of}
use Rattle.walk_claims.proofs.Steps.{asked, step_by, in-by}
use Rattle.ordinary.specs.Words.{masked, masked_text, OrdinaryAt, as_five, verdict_five, framed_five, refusal_five, to_binary_five, text_found_five}
use Rattle.ordinary.specs.Words.{text_read_five, text_written_five, binary_written_five, found_five, stepped_five, Exactly, Each}
use Rattle.ordinary.proofs.Marks.{number-ordinary}
use Rattle.ordinary.proofs.Reports.{framed-masked, judged-masked}
use Rattle.ordinary.proofs.Calls.{converts, reads, writes-text, writes-binary}
use Rattle.ordinary.proofs.Walks.{steps}
use Rattle.ordinary.proofs.Places.{Shown, On, FramedOn, behind-shown, within-shown, on-within, kind-on, check-on, frame_on, next-on}
use Rattle.ordinary.proofs.Places.{in-text, framed-on, judged-on, rows_on}
use Rattle.std.specs.Prelude.{Ok, Err, Result}
use Rattle.format.specs.declared.Refusal.{Refusal}
use Rattle.format.specs.Refusals.{refused_by}
use Rattle.ordinary.proofs.Refused.{same_refusal}
use Rattle.format.specs.declared.BinaryOffset.{BinaryOffset}
use Rattle.format.specs.declared.Primitive.{Primitive}

-- ---- one number at a place

-- a 5 or 19 is the number of the character there
abbrev pub Numbered : List ℕ → ℕ → ℕ → Type 0
Numbered s n p = as_five n ≡ 5 → n ≡ stranger_number (sextet_of (get_or s p 0))

pub shown : (s : List ℕ) (n p : ℕ) → Shown sextet_of s n p → Numbered s n p
shown s n p h e = (h e).1

exact : (s : List ℕ) (n p : ℕ) → Numbered s n p → Exactly (n ≡ 19) ((as_five n ≡ 5) × OrdinaryAt s p)
unfolding as_five
exact s n p h = (λ e. (five e, three (is_ordinary (get_or s p 0)) e (told (five e))), λ q. rw q.1 at (told q.0))
  where
    five : n ≡ 19 → as_five n ≡ 5
    five e = rw e

    told : as_five n ≡ 5 → n ≡ pick (is_ordinary (get_or s p 0)) 19 5
    told e = h e ∙ number-ordinary (get_or s p 0)

    three : (b : Bool) → n ≡ 19 → n ≡ pick b 19 5 → b ≡ true
    three true e f = refl
    three false e f = absurd (omega arith)

-- ---- an answer: y is x with 5 for 19

module _ {X P : Type 0} (refuse : ℕ → P → X) (five : X → X) (place : P → ℕ)
    (fives : (n : ℕ) (p : P) → five (refuse n p) ≡ refuse (as_five n) p)
    (same : (m n : ℕ) (p q : P) → refuse m p ≡ refuse n q → (m ≡ n) × (p ≡ q)) where
  -- it is a refusal, or no refusal has 5 for 19 in it
  abbrev pub Seen : X → Type 0
  Seen x = ((n : ℕ) × (p : P) × (x ≡ refuse n p)) ⊎ ((m : ℕ) (q : P) → five x ≡ refuse m q → ⊥)

  pub exactly : (s : List ℕ) (x y : X) → y ≡ five x → Seen x → ((n : ℕ) (p : P) → x ≡ refuse n p → Numbered s n (place p))
      → (p : P) → Exactly (x ≡ refuse 19 p) ((y ≡ refuse 5 p) × OrdinaryAt s (place p))
  unfolding as_five
  exactly s x y e v h p = (λ f. (e ∙ ap five f ∙ fives 19 p, ((exact s 19 (place p) (h 19 p f)).0 refl).1), λ q. go v q.0 q.1)
    where
      go : Seen x → y ≡ refuse 5 p → OrdinaryAt s (place p) → x ≡ refuse 19 p
      go (inr not) f o = absurd (not 5 p (sym e ∙ f))
      go (inl (n, q, g)) f o =
          let z = same (as_five n) 5 q p (sym (fives n q) ∙ ap five (sym g) ∙ sym e ∙ f) in
          let w : x ≡ refuse n p = g ∙ ap (refuse n) z.1 in
          w ∙ ap (λ (m : ℕ). refuse m p) ((exact s n (place p) (h n p w)).1 (z.0, o))

-- ---- framing and judging

framed-seen : (r : Framed) → ((n : ℕ) × (p : ℕ) × (r ≡ Unframed n p)) ⊎ ((m q : ℕ) → framed_five r ≡ Unframed m q → ⊥)
unfolding framed_five
framed-seen (Unframed n p) = inl (n, p, refl)
framed-seen (Item k h n) = inr (λ m q e. let z : ◌≡◌ {A = ℕ} 0 1 = cc in omega arith)

pub framed : (s : List ℕ) (p : ℕ) → Exactly (frame_in text s ≡ Unframed 19 p) ((frame_in text (masked s) ≡ Unframed 5 p) × OrdinaryAt s p)
unfolding framed_five
framed s p =
    exactly Unframed framed_five (λ q. q) (λ n q. refl) (λ m n q r e. (cc, cc)) s (frame_in text s) (frame_in text (masked s)) (framed-masked s)
    (framed-seen (frame_in text s)) (λ n q e. shown s n q (subst (FramedOn sextet_of s) e (framed-on s))) p

verdict-seen : (v : Verdict) → ((n : ℕ) × (p : ℕ) × (v ≡ Refused n p)) ⊎ ((m q : ℕ) → verdict_five v ≡ Refused m q → ⊥)
unfolding verdict_five
verdict-seen (Refused n p) = inl (n, p, refl)
verdict-seen Accepted = inr (λ m q e. let z : ◌≡◌ {A = ℕ} 0 1 = cc in omega arith)

pub judged-at : (s : List ℕ) (p : ℕ) → Exactly (judge_in text s ≡ Refused 19 p) ((judge_in text (masked s) ≡ Refused 5 p) × OrdinaryAt s p)
unfolding verdict_five
judged-at s p =
    exactly Refused verdict_five (λ q. q) (λ n q. refl) (λ m n q r e. (cc, cc)) s (judge_in text s) (judge_in text (masked s)) (judged-masked s)
    (verdict-seen (judge_in text s)) (λ n q e. shown s n q (subst (On sextet_of s) e (judged-on s))) p

-- ---- a report's refusal rows

abbrev Right : List ℕ → RefusalRow → Type 0
Right s r = Exactly (r.number ≡ 19) (((refusal_five r).number ≡ 5) × OrdinaryAt s r.place)

one-row : (s : List ℕ) (k : ℕ) (v : Verdict) (rs : List RefusalRow) → On sextet_of s v → Each (Right s) rs → Each (Right s) (refusal k v ++ rs)
unfolding refusal refusal_five
one-row s k Accepted rs o e = e
one-row s k (Refused n p) rs o e = (exact s n p (shown s n p o), e)

refusal-rows : (s : List ℕ) (k : ℕ) (rs : List ItemRow) → Each (λ r. On sextet_of s r.verdict) rs → Each (Right s) (refusals_of k rs)
unfolding refusals_of
refusal-rows s k [] o = tt
refusal-rows s k (r ∷ rs) o = one-row s k r.verdict (refusals_of (suc k) rs) o.0 (refusal-rows s (suc k) rs o.1)

pub rows : (s : List ℕ) → Each (Right s) (refusals_in text s)
unfolding refusals
rows s = refusal-rows s 0 (rows_in text s) (rows_on s)

-- ---- conversion

abbrev ConvertedOn : List ℕ → Result BinaryOffset (Refusal TextOffset) → Type 0
ConvertedOn s (Ok n) = Unit {0}
ConvertedOn s (Err why) = Numbered s why.number why.place.0

converted-on : (s : List ℕ) (room : ℕ) → ConvertedOn s (text_to_binary s room)
unfolding text_to_binary first_number as_five
converted-on s room =
    pick-by (ConvertedOn s) (ltb text.limit (length s)) _ _ (λ _ e. absurd (omega arith))
    (λ _. pick-by (ConvertedOn s) (ltb 0 (length s % 4)) _ _ (λ _ e. absurd (omega arith))
    (λ _. pick-by (ConvertedOn s) (ltb (first_stranger s) (length s)) _ _ (λ _ e. refl)
    (λ _. pick-by (ConvertedOn s) (ltb room (length s / 4 * 3)) _ _ (λ _ e. absurd (omega arith)) (λ _. tt))))

converted-seen : (r : Result BinaryOffset (Refusal TextOffset)) → ((n : ℕ) × (p : TextOffset) × (r ≡ refused_by n p)) ⊎ ((m : ℕ) (q : TextOffset) → to_binary_five r ≡ refused_by m q → ⊥)
unfolding to_binary_five
converted-seen (Err why) = inl (why.number, why.place, refl)
converted-seen (Ok n) = inr (λ m q e. let z : ◌≡◌ {A = ℕ} 0 1 = cc in omega arith)

pub converted : (s : List ℕ) (room : ℕ) (p : TextOffset)
    → Exactly (text_to_binary s room ≡ refused_by 19 p) ((text_to_binary (masked s) room ≡ refused_by 5 p) × OrdinaryAt s p.0)
unfolding to_binary_five
converted s room p =
    exactly refused_by to_binary_five (λ q. q.0) (λ n q. refl) same_refusal s (text_to_binary s room) (text_to_binary (masked s) room)
    (converts s room) (converted-seen (text_to_binary s room)) (λ n q e. subst (ConvertedOn s) e (converted-on s room)) p

-- ---- reading

abbrev pub ReadOn : List ℕ → Reading → Type 0
ReadOn s (refused m p) = Shown (λ x. x) s m p
ReadOn s (found k h n) = Unit {0}

pub judged-read : (s : List ℕ) (k : Kind) (h n : ℕ) (v : Verdict) → On (λ x. x) s v → ReadOn s (judged k h n v)
unfolding judged
judged-read s k h n Accepted o = tt
judged-read s k h n (Refused m p) o = o

framed-read : (s : List ℕ) (r : Framed) → FramedOn (λ x. x) s r → ReadOn s (read_framed r s)
unfolding read_framed as_five
framed-read s (Unframed m p) f = f
framed-read s (Item k h n) f =
    pick-by (ReadOn s) (is_primitive k) _ _
    (λ _. let v : Verdict = judge_kind k h (take (4 * n) s) (own_check 0) in
    judged-read s k h n v (on-within (λ x. x) (4 * n) s v (kind-on k h (take (4 * n) s) (own_check 0) (check-on 0))))
    (λ _ e. absurd (omega arith))

reading-on : (s : List ℕ) → ReadOn s (reading s)
unfolding reading
reading-on s = framed-read s (frame s) (frame_on false s)

abbrev FoundOn : List ℕ → Result Primitive (Refusal TextOffset) → Type 0
FoundOn s (Ok q) = Unit {0}
FoundOn s (Err why) = Numbered s why.number why.place.0

answer-on : (s : List ℕ) (at room : ℕ) (r : Reading) → ReadOn (text_sextets (drop at s)) r
    → FoundOn s (text_answer at r (text_sextets (drop at s)) room).found
unfolding text_answer place_from as_five
answer-on s at room (refused m p) o =
    rw (div-add-mod' p 4) (shown s m (at + p) (behind-shown sextet_of at s m p (in-text (drop at s) m p o)))
answer-on s at room (found k h n) o =
    pick-by (λ (r : PrimitiveRead TextOffset). FoundOn s r.found) (ltb room _) _ _ (λ _ e. absurd (omega arith)) (λ _. tt)

read-on : (s : List ℕ) (at room : ℕ) → FoundOn s (read_text s at room).found
unfolding read_text from as_five
read-on s at room =
    pick-by (λ (r : PrimitiveRead TextOffset). FoundOn s r.found) (ltb text.limit (length s)) _ _ (λ _ e. absurd (omega arith))
    (λ _. answer-on s at room (reading (text_sextets (drop at s))) (reading-on (text_sextets (drop at s))))

found-seen : (r : Result Primitive (Refusal TextOffset)) → ((n : ℕ) × (p : TextOffset) × (r ≡ refused_by n p)) ⊎ ((m : ℕ) (q : TextOffset) → text_found_five r ≡ refused_by m q → ⊥)
unfolding text_found_five
found-seen (Err why) = inl (why.number, why.place, refl)
found-seen (Ok q) = inr (λ m p e. let z : ◌≡◌ {A = ℕ} 0 1 = cc in omega arith)

pub read : (s : List ℕ) (at room : ℕ) (p : TextOffset)
    → Exactly ((read_text s at room).found ≡ refused_by 19 p) (((read_text (masked s) at room).found ≡ refused_by 5 p) × OrdinaryAt s p.0)
unfolding text_read_five text_found_five
read s at room p =
    exactly refused_by text_found_five (λ q. q.0) (λ n q. refl) same_refusal s (read_text s at room).found
    (read_text (masked s) at room).found (ap (λ (r : PrimitiveRead TextOffset). r.found) (reads s at room)) (found-seen (read_text s at room).found)
    (λ n q e. subst (FoundOn s) e (read-on s at room)) p

-- ---- writing

module _ (code : Code) (tag : List ℕ) (tags : ℕ) (raw : List ℕ) (room : ℕ) where
  -- the characters asked
  abbrev chars : List ℕ
  chars = W.chars_of (W.named code) tag raw

  abbrev many : ℕ
  many = W.chars_for (W.named code) tags (length raw)

  abbrev WritingOn : W.Writing → Type 0
  WritingOn (W.refused n p) = Numbered chars n p
  WritingOn (W.written n) = Unit {0}

  writing-on : (u : ℕ) → WritingOn (W.writing u (W.named code) tag tags raw room)
  unfolding W.writing first_number as_five
  writing-on u =
      rw (asks (W.named code) tag tags raw)
      (pick-by WritingOn (W.is_named (W.named code)) _ _
      (λ _. pick-by WritingOn (W.is_fit (W.named code) tags (length raw)) _ _
      (λ _. pick-by WritingOn (W.is_short (W.named code) (length raw)) _ _
      (λ _. pick-by WritingOn (ltb (first_stranger (take many chars)) many) _ _
      (λ b e. ap (λ (c : ℕ). stranger_number (sextet_of c)) (get_or-take many chars (first_stranger (take many chars)) 0 (ltb-true _ many b)))
      (λ _. pick-by WritingOn (W.begins_right (W.named code) raw) _ _
      (λ _. pick-by WritingOn (ltb room (W.units_of (W.named code) (length raw) * u)) _ _ (λ _ e. absurd (omega arith)) (λ _. tt))
      (λ _ e. absurd (omega arith))))
      (λ _ e. absurd (omega arith)))
      (λ _ e. absurd (omega arith)))
      (λ _ e. absurd (omega arith)))

  text-numbered : (w : W.Writing) → WritingOn w → (n p : ℕ) → W.text_outcome w ≡ refused_by n p → Numbered chars n p
  unfolding W.text_outcome
  text-numbered (W.refused m q) o n p e = let s = same_refusal m n q p e in rw (← s.0, ← s.1) o
  text-numbered (W.written m) o n p e = let z : ◌≡◌ {A = ℕ} 0 1 = cc in absurd (omega arith)

  binary-numbered : (w : W.Writing) → WritingOn w → (n p : ℕ) → W.binary_outcome w ≡ refused_by n p → Numbered chars n p
  unfolding W.binary_outcome
  binary-numbered (W.refused m q) o n p e = let s = same_refusal m n q p e in rw (← s.0, ← s.1) o
  binary-numbered (W.written m) o n p e = let z : ◌≡◌ {A = ℕ} 0 1 = cc in absurd (omega arith)

  text-seen : (r : Result TextOffset (Refusal ℕ)) → ((n : ℕ) × (p : ℕ) × (r ≡ refused_by n p)) ⊎ ((m q : ℕ) → text_written_five r ≡ refused_by m q → ⊥)
  unfolding text_written_five
  text-seen (Err why) = inl (why.number, why.place, refl)
  text-seen (Ok n) = inr (λ m q e. let z : ◌≡◌ {A = ℕ} 0 1 = cc in omega arith)

  binary-seen : (r : Result BinaryOffset (Refusal ℕ)) → ((n : ℕ) × (p : ℕ) × (r ≡ refused_by n p)) ⊎ ((m q : ℕ) → binary_written_five r ≡ refused_by m q → ⊥)
  unfolding binary_written_five
  binary-seen (Err why) = inl (why.number, why.place, refl)
  binary-seen (Ok n) = inr (λ m q e. let z : ◌≡◌ {A = ℕ} 0 1 = cc in omega arith)

  pub written-text : (p : ℕ) → Exactly (W.write_text code tag tags raw room ≡ refused_by 19 p)
      ((W.write_text code (masked tag) tags (masked_text (W.named code) raw) room ≡ refused_by 5 p) × OrdinaryAt chars p)
  unfolding W.write_text text_written_five
  written-text p =
      exactly refused_by text_written_five (λ q. q) (λ n q. refl) same_refusal chars (W.write_text code tag tags raw room)
      (W.write_text code (masked tag) tags (masked_text (W.named code) raw) room) (writes-text code tag tags raw room) (text-seen (W.write_text code tag tags raw room))
      (text-numbered (W.writing 4 (W.named code) tag tags raw room) (writing-on 4)) p

  pub written-binary : (p : ℕ) → Exactly (W.write_binary code tag tags raw room ≡ refused_by 19 p)
      ((W.write_binary code (masked tag) tags (masked_text (W.named code) raw) room ≡ refused_by 5 p) × OrdinaryAt chars p)
  unfolding W.write_binary binary_written_five
  written-binary p =
      exactly refused_by binary_written_five (λ q. q) (λ n q. refl) same_refusal chars (W.write_binary code tag tags raw room)
      (W.write_binary code (masked tag) tags (masked_text (W.named code) raw) room) (writes-binary code tag tags raw room) (binary-seen (W.write_binary code tag tags raw room))
      (binary-numbered (W.writing 3 (W.named code) tag tags raw room) (writing-on 3)) p

-- ---- a step of the walk

module _ (s : List ℕ) (w : Walk) where
  abbrev StepOn : Found ℕ → Type 0
  StepOn (F.Item o n d k h) = Unit {0}
  StepOn (F.Refused m p) = Numbered s m p
  StepOn F.End = Unit {0}

  -- what is shown of a part of the sextets stands so far on in the text
  part-on : (at stop m p : ℕ) → Shown (λ x. x) (part (text_sextets s) at stop) m p → Numbered s m ((4 * at + p) / 4 * 4 + (4 * at + p) % 4)
  part-on at stop m p o =
      rw (div-add-mod' (4 * at + p) 4)
      (shown s m (4 * at + p) (in-text s m (4 * at + p)
      (within-shown (λ x. x) (4 * stop) (text_sextets s) m (4 * at + p)
      (behind-shown (λ x. x) (4 * at) (take (4 * stop) (text_sextets s)) m p o))))

  step-on : StepOn (step_in text s w).found
  unfolding found_in as_five
  step-on =
      in-by text s w (λ r. StepOn r.found) (λ _ e. absurd (omega arith)) (λ _ _ e. absurd (omega arith))
      (λ _ _. step_by (text_sextets s) (units_in text s) (tail_of text s) w (λ r. StepOn (found_in 4 r.found))
      (λ _ _ e. absurd (omega arith)) (λ _ _. tt)
      (λ m p _ e. part-on w.at (stop_of w (units_in text s)) m p
      (subst (FramedOn (λ x. x) (part (text_sextets s) w.at (stop_of w (units_in text s)))) e (next-on w.indexed (asked w) _)))
      (λ k h m q p _ _ e. part-on w.at (w.at + m) q p
      (subst (On (λ x. x) (part (text_sextets s) w.at (w.at + m))) e (kind-on k h _ (own_check (max_depth - w.depth)) (check-on (max_depth - w.depth)))))
      (λ k h m _ _ _. tt))

  step-seen : (r : Found ℕ) → ((n : ℕ) × (p : ℕ) × (r ≡ F.Refused n p)) ⊎ ((m q : ℕ) → found_five r ≡ F.Refused m q → ⊥)
  unfolding found_five
  step-seen (F.Refused n p) = inl (n, p, refl)
  step-seen (F.Item o n d k h) = inr (λ m q e. let z : ◌≡◌ {A = ℕ} 0 1 = cc in omega arith)
  step-seen F.End = inr (λ m q e. let z : ◌≡◌ {A = ℕ} 0 1 = cc in omega arith)

  pub stepped : (p : ℕ) → Exactly ((step_in text s w).found ≡ F.Refused 19 p) (((step_in text (masked s) w).found ≡ F.Refused 5 p) × OrdinaryAt s p)
  unfolding stepped_five found_five
  stepped p =
      exactly F.Refused found_five (λ q. q) (λ n q. refl) (λ m n q r e. (cc, cc)) s (step_in text s w).found (step_in text (masked s) w).found
      (ap (λ (r : Stepped ℕ). r.found) (steps s w)) (step-seen (step_in text s w).found) (λ n q e. subst StepOn e step-on) p
