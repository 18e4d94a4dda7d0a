-- Whether a stream passed, by any report and by its own: exactly where it has a byte and each of them lies in an accepted item.
-- Assumes nothing.
use Rattle.std.specs.Prelude.{ℕ, zero, suc, ◌+◌, ◌-◌, ◌*◌, ◌≤◌, ◌<◌, ◌≡◌, Bool, false, ◌⊎◌, ◌↔◌, eqb, get_or, take, drop}
use Rattle.std.proofs.Math.Path.{refl, ap}
use Rattle.std.proofs.Common.{sym, ◌∙◌, subst, inl, inr, arith, length-take, length-drop}
use mathlib.Core.List.{List, [], ◌∷◌, map}
use Rattle.std.proofs.Math.Bool.{true}
use Rattle.std.proofs.Math.ListN.{length, get_or-map}
use Rattle.std.proofs.lemmas.List.{length-map}
use borrow.Author.Tests.{eqb-true, eqb-false, eq-eqb, ne_eqb}
use Rattle.base.specs.Pick.{pick}
use Rattle.format.specs.declared.Kind.{Kind}
use Rattle.format.specs.declared.Framed.TheVariants.{Item}
use Rattle.format.specs.declared.Verdict.{Verdict}
use Rattle.format.specs.declared.Verdict.TheVariants.{Accepted, Refused}
use Rattle.format.specs.Units.{Domain}
use Rattle.format.specs.Report.{ItemRow, RefusalRow, RemainderRow, remainder, rows_in, refusals_in, remainder_in, frame_in, judge_in, refusal, verdict_byte, report}
use Rattle.damage.specs.Words.{row, item_at, In, Left, Partition, accepted, with_index, ByItself}
use Rattle.laws.specs.Domains.{Reader}
use Rattle.laws.specs.Frames.{frames}
use Rattle.laws.specs.Items.{left_at, by-items, left-nil, left-refused, left-item}
use Rattle.claims.specs.Claims.{Demand3}
use Rattle.claims.proofs.Room.{report-length}
use Rattle.expectation.specs.Expectation.{Verdicts, malformed, verdicts, reported}
use Rattle.passing.specs.Passing.{are_accepted, passed_of, passed_by, passed_in}
use Rattle.expectation_claims.specs.Words.{verdicts_in, left_in, EachAccepted}
use Rattle.expectation_claims.proofs.Own.{few-rows, sees-by}

-- ---- verdicts

all-zero : (vs : List ℕ) → are_accepted vs ≡ true → (i : ℕ) → i < length vs → get_or vs i 0 ≡ 0
unfolding are_accepted
all-zero [] e i l = absurd (omega arith)
all-zero (v ∷ vs) e i l = go (λ q. all-zero vs q) (eqb v 0) refl e i l
  where
    go : (are_accepted vs ≡ true → (j : ℕ) → j < length vs → get_or vs j 0 ≡ 0) → (b : Bool) → eqb v 0 ≡ b
        → pick b (are_accepted vs) false ≡ true → (j : ℕ) → j < length (v ∷ vs) → get_or (v ∷ vs) j 0 ≡ 0
    go rest true z q zero h = eqb-true v 0 z
    go rest true z q (suc j) h = rest q j (omega arith)
    go rest false z q j h = let o : ◌≡◌ {A = ℕ} 0 1 = cc in absurd (omega arith)

zeros-accepted : (vs : List ℕ) → ((i : ℕ) → i < length vs → get_or vs i 0 ≡ 0) → are_accepted vs ≡ true
unfolding are_accepted
zeros-accepted [] h = refl
zeros-accepted (v ∷ vs) h = rw (eq-eqb v 0 (h 0 (omega arith))) (zeros-accepted vs (λ i l. h (suc i) (omega arith)))

-- ---- any report

record Facts (size : ℕ) (vs left : List ℕ) : Type 0 where
  pub none_left : left ≡ []
  pub some : 0 < length vs
  pub long : size ≡ 12 + 9 * length vs
  pub all : are_accepted vs ≡ true

facts : (size : ℕ) (vs left : List ℕ) → (passed_by size (verdicts vs left)).passed ≡ true → Facts size vs left
unfolding passed_by passed_of
facts size vs (n ∷ left) e = let o : ◌≡◌ {A = ℕ} 0 1 = cc in absurd (omega arith)
facts size vs [] e = go (eqb (length vs) 0) refl (eqb size (12 + 9 * length vs)) refl e
  where
    go : (a : Bool) → eqb (length vs) 0 ≡ a → (b : Bool) → eqb size (12 + 9 * length vs) ≡ b
        → pick a false (pick b (are_accepted vs) false) ≡ true → Facts size vs []
    go true x b y q = let o : ◌≡◌ {A = ℕ} 0 1 = cc in absurd (omega arith)
    go false x false y q = let o : ◌≡◌ {A = ℕ} 0 1 = cc in absurd (omega arith)
    go false x true y q =
        let n : length vs ≡ 0 → ⊥ = eqb-false (length vs) 0 x in
        record { none_left = refl; some = positive (length vs) n; long = eqb-true size (12 + 9 * length vs) y; all = q }
      where
        positive : (k : ℕ) → (k ≡ 0 → ⊥) → 0 < k
        positive zero z = absurd (z refl)
        positive (suc k) z = omega arith

pub nothing-refused : (rep vs over : List ℕ) → reported rep ≡ verdicts vs over → (passed_in rep).passed ≡ true
    → (over ≡ []) × (0 < length vs) × ((i : ℕ) → i < length vs → get_or vs i 0 ≡ 0)
unfolding passed_in
nothing-refused rep vs over e p =
    let f = facts (length rep) vs over (rw e at p) in
    (f.none_left, f.some, all-zero vs f.all)

pub no_row : (rep vs over : List ℕ) → reported rep ≡ verdicts vs over → (passed_in rep).passed ≡ true → length rep ≡ 12 + 9 * length vs
unfolding passed_in
no_row rep vs over e p = (facts (length rep) vs over (rw e at p)).long

pub bad-report : (rep : List ℕ) → reported rep ≡ malformed → passed_in rep ≡ record { number = 20; passed = false }
unfolding passed_in passed_by
bad-report rep e = rw e

pub read-report : (rep : List ℕ) (n : ℕ) → (passed_in rep).number ≡ suc n → reported rep ≡ malformed
unfolding passed_in passed_by
read-report rep n e = go (reported rep) refl e
  where
    go : (v : Verdicts) → reported rep ≡ v → (passed_by (length rep) v).number ≡ suc n → v ≡ malformed
    go malformed q p = refl
    go (verdicts vs []) q p = absurd (omega arith)
    go (verdicts vs (m ∷ left)) q p = absurd (omega arith)

told-zero : (size : ℕ) (vs left : List ℕ) → (passed_by size (verdicts vs left)).number ≡ 0
unfolding passed_by
told-zero size vs [] = refl
told-zero size vs (n ∷ left) = refl

-- ---- rows

empty_of : {A : Type 0} (l : List A) → length l ≡ 0 → l ≡ []
empty_of [] e = refl
empty_of (a ∷ l) e = absurd (omega arith)

all-counted : (rs : List ItemRow) → ((k : ℕ) → k < length rs → verdict_byte (row rs k).verdict ≡ 0) → accepted rs ≡ length rs
unfolding accepted
all-counted [] h = refl
all-counted (r ∷ rs) h =
    rw (eq-eqb (verdict_byte r.verdict) 0 (h 0 (omega arith))) (omega (arith, all-counted rs (λ k l. h (suc k) (omega arith))))

unrefused : (k : ℕ) (v : Verdict) → refusal k v ≡ [] → v ≡ Accepted
unfolding refusal
unrefused k Accepted e = refl
unrefused k (Refused n p) e = let o : ◌≡◌ {A = ℕ} 0 1 = cc in absurd (omega arith)

byte_at : (rs : List ItemRow) (k : ℕ) → get_or (map (λ (r : ItemRow). verdict_byte r.verdict) rs) k 0 ≡ verdict_byte (row rs k).verdict
unfolding verdict_byte
byte_at rs k = get_or-map (λ (r : ItemRow). verdict_byte r.verdict) rs k _

-- the remainder has a byte
left_below : (d : Domain) → Reader d → (xs : List ℕ) (o : ℕ) (t : RemainderRow) (ts : List RemainderRow) → left_at d o xs ≡ t ∷ ts
    → t.offset < o + length xs
left_below d R =
    by-items d R (λ xs. (o : ℕ) (t : RemainderRow) (ts : List RemainderRow) → left_at d o xs ≡ t ∷ ts → t.offset < o + length xs)
    (λ o t ts e. let q : [] ≡ t ∷ ts = sym (left-nil d R o) ∙ e in let z : ◌≡◌ {A = ℕ} 0 1 = cc in absurd (omega arith))
    (λ xs n p f pos o t ts e.
    let q : record { offset = o; number = n } ∷ [] ≡ t ∷ ts = sym (left-refused d R o xs pos f) ∙ e in
    let z : o ≡ t.offset = ap first q in
    omega arith)
    (λ xs k h n f ih o t ts e.
    let w = (frames d R).within xs k h n f in
    omega (arith, ih (o + n) t ts (sym (left-item d R o xs f) ∙ e), length-drop n xs))
  where
    first : List RemainderRow → ℕ
    first [] = 0
    first (t ∷ ts) = t.offset

-- ---- a stream's own report

module _ (d : Domain) (R : Reader d) (D : Demand3 d) (few : d.limit ≤ 4194304) (xs : List ℕ) (short : length xs ≤ d.limit) where
  abbrev rs : List ItemRow
  rs = rows_in d xs

  as_many : length (verdicts_in d xs) ≡ length rs
  as_many = length-map rs (λ (r : ItemRow). verdict_byte r.verdict)

  -- all bytes of verdicts 0: no refusal, and each verdict is accepted
  module _ (z : (k : ℕ) → k < length rs → verdict_byte (row rs k).verdict ≡ 0) where
    none-refused : length (refusals_in d xs) ≡ 0
    none-refused = omega (arith, D.counts xs, all-counted rs z)

    each : (k : ℕ) → k < length rs → (row rs k).verdict ≡ Accepted
    unfolding with_index
    each k l =
        unrefused k (row rs k).verdict (sym (D.refusal-rows xs k l) ∙ ap (with_index k) (empty_of (refusals_in d xs) none-refused))

  answered : passed_in (report d xs) ≡ passed_by (length (report d xs)) (verdicts (verdicts_in d xs) (left_in d xs))
  unfolding passed_in
  answered = ap (passed_by (length (report d xs))) (sees-by d R D few xs short)

  pub own-number : (passed_in (report d xs)).number ≡ 0
  own-number = rw answered (told-zero (length (report d xs)) (verdicts_in d xs) (left_in d xs))

  pub passes-only : (passed_in (report d xs)).passed ≡ true → (0 < length xs) × EachAccepted d xs
  passes-only p =
      let f = facts (length (report d xs)) (verdicts_in d xs) (left_in d xs) (rw answered at p) in
      (omega (arith, f.some, as_many, few-rows d R xs), λ i l. go f i ((D.partition xs).covered i l))
    where
      zero-at : Facts (length (report d xs)) (verdicts_in d xs) (left_in d xs) → (k : ℕ) → k < length rs → verdict_byte (row rs k).verdict ≡ 0
      zero-at f k l = sym (byte_at rs k) ∙ all-zero (verdicts_in d xs) f.all k (omega (arith, as_many))

      nothing : Facts (length (report d xs)) (verdicts_in d xs) (left_in d xs) → remainder_in d xs ≡ []
      nothing f =
          empty_of (remainder_in d xs)
          (omega (arith, length-map (remainder_in d xs) (λ (r : RemainderRow). r.number), ap length f.none_left))

      go : Facts (length (report d xs)) (verdicts_in d xs) (left_in d xs) → (i : ℕ)
          → ((k : ℕ) × (k < length rs) × In (row rs k) i) ⊎ Left (remainder_in d xs) i
          → (k : ℕ) × (k < length rs) × In (row rs k) i × ((row rs k).verdict ≡ Accepted)
      go f i (inl (k, l, p)) = (k, l, p, each (zero-at f) k l)
      go f i (inr h) = absurd (subst (λ (t : List RemainderRow). Left t i) (nothing f) h)

  -- an item has a byte, and ends within the stream
  row_within : (k : ℕ) → k < length rs → (0 < (row rs k).size) × ((row rs k).offset + (row rs k).size ≤ length xs)
  row_within k l = go (D.by_itself xs k l).framed
    where
      go : (kind : Kind) × (h : ℕ) × (frame_in d (item_at xs (row rs k)) ≡ Item kind h (row rs k).size)
          → (0 < (row rs k).size) × ((row rs k).offset + (row rs k).size ≤ length xs)
      go (kind, h, e) =
          let w = (frames d R).within (item_at xs (row rs k)) kind h (row rs k).size e in
          let t = length-take (row rs k).size (drop (row rs k).offset xs) in
          let u = length-drop (row rs k).offset xs in
          (omega arith, omega arith)

  module _ (pos : 0 < length xs) (bytes : EachAccepted d xs) where
    -- the item at k has its first byte in an accepted one, which is itself
    each_row : (k : ℕ) → k < length rs → (row rs k).verdict ≡ Accepted
    each_row k l = go (bytes (row rs k).offset (omega (arith, row_within k l)))
      where
        go : (j : ℕ) × (j < length rs) × In (row rs j) (row rs k).offset × ((row rs j).verdict ≡ Accepted) → (row rs k).verdict ≡ Accepted
        go (j, lj, p, a) =
            let same : j ≡ k = (D.partition xs).once j k (row rs k).offset lj l p (omega arith, omega (arith, row_within k l)) in
            subst (λ (m : ℕ). (row rs m).verdict ≡ Accepted) same a

    zero-byte : (k : ℕ) → k < length rs → verdict_byte (row rs k).verdict ≡ 0
    unfolding verdict_byte
    zero-byte k l = ap verdict_byte (each_row k l)

    some-row : 0 < length rs
    some-row = go (bytes 0 pos)
      where
        go : (j : ℕ) × (j < length rs) × In (row rs j) 0 × ((row rs j).verdict ≡ Accepted) → 0 < length rs
        go (j, lj, p, a) = omega arith

    -- the last byte would lie in a remainder
    none_left : remainder_in d xs ≡ []
    unfolding remainder
    none_left = go (remainder_in d xs) refl
      where
        both : (t : RemainderRow) (ts : List RemainderRow) → remainder_in d xs ≡ t ∷ ts
            → (j : ℕ) × (j < length rs) × In (row rs j) (length xs - 1) × ((row rs j).verdict ≡ Accepted) → ⊥
        both t ts e (j, lj, p, a) =
            let b = left_below d R xs 0 t ts e in
            (D.partition xs).never_both j (length xs - 1) lj p (subst (λ (u : List RemainderRow). Left u (length xs - 1)) (sym e) (omega arith))

        go : (l : List RemainderRow) → remainder_in d xs ≡ l → l ≡ []
        go [] e = refl
        go (t ∷ ts) e = absurd (both t ts e (bytes (length xs - 1) (omega arith)))

    pub passes-if : (passed_in (report d xs)).passed ≡ true
    unfolding passed_by passed_of
    passes-if =
        let n : left_in d xs ≡ [] = ap (map (λ (r : RemainderRow). r.number)) none_left in
        let a : are_accepted (verdicts_in d xs) ≡ true =
        zeros-accepted (verdicts_in d xs) (λ i l. byte_at rs i ∙ zero-byte i (omega (arith, as_many))) in
        let s : length (report d xs) ≡ 12 + 9 * length rs =
        report-length d xs ∙ rw (none-refused zero-byte, none_left) (omega arith) in
        rw (answered, n, as_many, ne_eqb (length rs) 0 (λ q. omega (arith, some-row)), eq-eqb (length (report d xs)) (12 + 9 * length rs) s) a
