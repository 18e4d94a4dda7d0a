-- Reading an indexed item of masked characters, and 19 exactly at one of the three. Assumes nothing.
use Rattle.std.specs.Prelude.{ℕ, ◌+◌, ◌-◌, ◌*◌, ◌/◌, ◌%◌, ◌≤◌, ◌<◌, ◌≡◌, refl, List, ◌++◌, map, Bool, true, false, ◌⊎◌, ltb, length, take, drop}
use Rattle.std.proofs.Common.{ap, subst, ◌∙◌, inl, inr, arith, div-add-mod'}
use Rattle.std.proofs.lemmas.List.{length-map}
use Rattle.base.specs.Pick.{pick, pick-by}
use Rattle.base.specs.Lists.{map-take}
use Rattle.base.specs.Digits.{Below}
use Rattle.format.specs.declared.Kind.{Kind}
use Rattle.format.specs.declared.Kind.TheVariants.{Fixed, Variable, Group, Genus, Indexed}
use Rattle.format.specs.declared.Framed.{Framed}
use Rattle.format.specs.declared.Framed.TheVariants.{Item, Unframed}
use Rattle.format.specs.declared.Verdict.{Verdict}
use Rattle.format.specs.declared.TextOffset.{TextOffset}
use Rattle.format.specs.Alphabet.{sextet_of}
use Rattle.format.specs.Units.{text, text_sextets}
use Rattle.format.specs.Framing.{sextet, frame_indexed}
use Rattle.format.specs.Judging.{judge_kind, own_check}
use Rattle.format.specs.Values.{raw_start}
use Rattle.format.specs.Reading.{Reading, judged, from, place_from}
use Rattle.format.specs.Reading.Reading.{refused, found}
use Rattle.format.specs.Indexed.{read_indexed_framed, reading_indexed, text_indexed_answer, read_indexed_text, indexed_raw, indexed_left}
use Rattle.laws.specs.Levels.{frame-own}
use Rattle.roundtrip_indexed.proofs.Reading.{Read, read-own}
use Rattle.ordinary.specs.Words.{mask, masked, OrdinaryAt, as_five, framed_five, text_indexed_five, Exactly}
use Rattle.ordinary.proofs.Marks.{pick_to, plain, plain-all}
use Rattle.ordinary.proofs.Framed.{header-known, frame-five}
use Rattle.ordinary.proofs.Judged.{kind-five, check-five}
use Rattle.ordinary.proofs.Calls.{reading_five, judged-five, from-masked}
use Rattle.ordinary.proofs.Places.{On, FramedOn, behind-shown, on-within, kind-on, check-on, frame_on, in-text}
use Rattle.ordinary.proofs.Exact.{Numbered, shown, ReadOn, judged-read, exactly}
use Rattle.std.specs.Prelude.{Ok, Err, Result}
use Rattle.format.specs.declared.Refusal.{Refusal}
use Rattle.format.specs.Refusals.{refused_by}
use Rattle.ordinary.proofs.Refused.{same_refusal}
use Rattle.format.specs.declared.IndexedItem.{IndexedItem}

-- ---- masked characters

own-header : (s : List ℕ) (k : Kind) (h n : ℕ) → frame_indexed s ≡ Item k h n → (i : ℕ) → i < 4 * h → sextet (take (4 * n) s) i < 64
own-header s k h n e =
    let z : n * 4 ≡ 4 * n = omega arith in
    rw z at (header-known true (take (n * 4) s) k h n (frame-own true s k h n e))

framed-reads : (s : List ℕ) (r : Framed) → frame_indexed s ≡ r
    → read_indexed_framed (framed_five r) (map plain s) ≡ reading_five (read_indexed_framed r s)
unfolding read_indexed_framed framed_five reading_five as_five
framed-reads s (Unframed m p) e = refl
framed-reads s (Item k h n) e =
    rw (← map-take plain (4 * n) s)
    (ap (judged k h n) (kind-five k h (take (4 * n) s) (own_check 0) (own-header s k h n e) (check-five 0))
    ∙ judged-five k h n (judge_kind k h (take (4 * n) s) (own_check 0)))

reading-five : (s : List ℕ) → reading_indexed (map plain s) ≡ reading_five (reading_indexed s)
unfolding reading_indexed
reading-five s = rw (frame-five true s) (framed-reads s (frame_indexed s) refl)

-- what is read is in the alphabet
own-low : (k : Kind) (h n : ℕ) (s : List ℕ) → Read k h n s → Below 64 s
own-low (Fixed c) h n s r = absurd r
own-low (Variable t l m) h n s r = absurd r
own-low (Group l) h n s r = absurd r
own-low Genus h n s r = absurd r
own-low (Indexed c) h n s r = r.1.low

read_known : (s : List ℕ) (k : Kind) (h n : ℕ) → reading_indexed s ≡ found k h n → take (4 * n) (map plain s) ≡ take (4 * n) s
read_known s k h n e = rw (← map-take plain (4 * n) s) (plain-all (take (4 * n) s) (own-low k h n _ (read-own s k h n e).0))

answer-five : (at : ℕ) (s : List ℕ) (room : ℕ) (r : Reading) → reading_indexed s ≡ r
    → text_indexed_answer at (reading_five r) (map plain s) room ≡ text_indexed_five (text_indexed_answer at r s room)
unfolding text_indexed_answer reading_five text_indexed_five as_five
answer-five at s room (refused m p) e = refl
answer-five at s room (found k h n) e =
    rw (read_known s k h n e) (pick_to text_indexed_five (ltb room (3 * n - raw_start k h)) _ _ _ _ (λ _. refl) (λ _. refl))

pub reads-indexed : (s : List ℕ) (at room : ℕ) → read_indexed_text (masked s) at room ≡ text_indexed_five (read_indexed_text s at room)
unfolding read_indexed_text text_indexed_five as_five
reads-indexed s at room =
    let t : List ℕ = text.sextets (from at s) in
    rw (length-map s mask, from-masked s at, reading-five t)
    (pick_to text_indexed_five (ltb text.limit (length s)) _ _ _ _ (λ _. refl) (λ _. answer-five at t room (reading_indexed t) refl))

raw-five : (s : List ℕ) (r : Reading) → reading_indexed s ≡ r → indexed_raw (reading_five r) (map plain s) ≡ indexed_raw r s
unfolding indexed_raw reading_five
raw-five s (refused m p) e = refl
raw-five s (found k h n) e = rw (read_known s k h n e)

pub reads-indexed-left : (s : List ℕ) (at : ℕ) (d : List ℕ)
    → indexed_left (read_indexed_text (masked s) at (length d)) (masked s) at d ≡ indexed_left (read_indexed_text s at (length d)) s at d
unfolding indexed_left text_indexed_five
reads-indexed-left s at d = rw (reads-indexed s at (length d)) (go (read_indexed_text s at (length d)))
  where
    go : (f : Result IndexedItem (Refusal TextOffset)) → indexed_left (text_indexed_five f) (masked s) at d ≡ indexed_left f s at d
    go (Err e) = refl
    go (Ok q) =
        let t : List ℕ = text.sextets (from at s) in
        rw (from-masked s at, reading-five t, raw-five t (reading_indexed t) refl)

-- ---- 19 exactly at one of the three

framed-read : (s : List ℕ) (r : Framed) → FramedOn (λ x. x) s r → ReadOn s (read_indexed_framed r s)
unfolding read_indexed_framed
framed-read s (Unframed m p) f = f
framed-read s (Item k h n) f =
    let v : Verdict = judge_kind k h (take (4 * n) s) (own_check 0) in
    judged-read s k h n v (on-within (λ x. x) (4 * n) s v (kind-on k h (take (4 * n) s) (own_check 0) (check-on 0)))

reading-on : (s : List ℕ) → ReadOn s (reading_indexed s)
unfolding reading_indexed
reading-on s = framed-read s (frame_indexed s) (frame_on true s)

abbrev FoundOn : List ℕ → Result IndexedItem (Refusal TextOffset) → Type 0
FoundOn s (Ok q) = Unit {0}
FoundOn s (Err why) = Numbered s why.number why.place.0

answer-on : (s : List ℕ) (at room : ℕ) (r : Reading) → ReadOn (text_sextets (drop at s)) r
    → FoundOn s (text_indexed_answer at r (text_sextets (drop at s)) room)
unfolding text_indexed_answer place_from as_five
answer-on s at room (refused m p) o =
    rw (div-add-mod' p 4) (shown s m (at + p) (behind-shown sextet_of at s m p (in-text (drop at s) m p o)))
answer-on s at room (found k h n) o =
    pick-by (FoundOn s) (ltb room (3 * n - raw_start k h)) _ _ (λ _ e. absurd (omega arith)) (λ _. tt)

read-on : (s : List ℕ) (at room : ℕ) → FoundOn s (read_indexed_text s at room)
unfolding read_indexed_text from as_five
read-on s at room =
    pick-by (FoundOn s) (ltb text.limit (length s)) _ _ (λ _ e. absurd (omega arith))
    (λ _. answer-on s at room (reading_indexed (text_sextets (drop at s))) (reading-on (text_sextets (drop at s))))

found-seen : (r : Result IndexedItem (Refusal TextOffset)) → ((n : ℕ) × (p : TextOffset) × (r ≡ refused_by n p))
    ⊎ ((m : ℕ) (q : TextOffset) → text_indexed_five r ≡ refused_by m q → ⊥)
unfolding text_indexed_five
found-seen (Err why) = inl (why.number, why.place, refl)
found-seen (Ok q) = inr (λ m p e. let z : ◌≡◌ {A = ℕ} 0 1 = cc in omega arith)

pub read-indexed : (s : List ℕ) (at room : ℕ) (p : TextOffset)
    → Exactly (read_indexed_text s at room ≡ refused_by 19 p) ((read_indexed_text (masked s) at room ≡ refused_by 5 p) × OrdinaryAt s p.0)
unfolding text_indexed_five
read-indexed s at room p =
    exactly refused_by text_indexed_five (λ q. q.0) (λ n q. refl) same_refusal s (read_indexed_text s at room)
    (read_indexed_text (masked s) at room) (reads-indexed s at room) (found-seen (read_indexed_text s at room))
    (λ n q e. subst (FoundOn s) e (read-on s at room)) p
