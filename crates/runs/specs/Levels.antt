-- Plain primitives and small groups among the items of a group or stream that the master table frames, their characters known: what they
-- leave of the verdict. Assumes nothing.
use Prim.Native.Nat.{ℕ, zero, suc, ◌+◌, ◌-◌, ◌*◌, ◌/◌, ◌≤◌, ◌<◌}
use Rattle.std.specs.Prelude.{◌≡◌, List, Bool, false, ltb, eqb, length, take, drop}
use Rattle.std.proofs.Math.Path.{refl}
use Rattle.std.proofs.Common.{sym, ap, ◌∙◌, ⊎_elim, arith, suc-mul, length-take, get_or-take, ltb-true, lt-ltb, le-ltb, eqb-true}
use Rattle.std.proofs.Math.Bool.{true}
use Rattle.std.proofs.Math.ListN.{length-drop, get_or-eq_default}
use Rattle.std.proofs.Math.Seq.{get_or-drop}
use Rattle.base.specs.Pick.{pick}
use Rattle.base.specs.Cases.{lt-or-ge}
use Rattle.base.specs.Digits.{Below, below_at, below_all}
use Rattle.format.specs.declared.Kind.{Kind}
use Rattle.format.specs.declared.Kind.TheVariants.{Group}
use Rattle.format.specs.declared.Opening.TheVariants.{Short}
use Rattle.format.specs.declared.Framed.TheVariants.{Item}
use Rattle.format.specs.declared.Verdict.{Verdict}
use Rattle.format.specs.declared.Verdict.TheVariants.{Accepted}
use Rattle.format.specs.Registry.{opening_by, is_indexed, is_overrideable}
use Rattle.format.specs.Framing.{sextet, fit, headed, frame_with, ruled, frame_ruled, frame_by, frame_next}
use Rattle.format.specs.Judging.{shift, and_then, unless, is_shortest, judge_kind, own_check, group, judge_with}
use Rattle.laws.specs.Framing.{Known, known_next, by-with}
use Rattle.laws.specs.Levels.{shift-accepted, then-accepts, part, part_length, part-drop, shift-shift, level, level-end, level-item, Taken, taken-level}
use Rattle.runs.specs.Plain.{plain_table, sized_of, plain_of, small_of, group_of, unit_by, sized_at, plain_at, small_at, group_at, letter_at, nested}
use Rattle.runs.specs.Opened.{Opens, Plain, plain-opens, sized-opens, small-opens, group-small, small-group}

-- ---- known units

-- all sextets from a unit to another are known
abbrev pub Clear : List ℕ → ℕ → ℕ → Type 0
Clear s at to = (i : ℕ) → 4 * at ≤ i → i < 4 * to → sextet s i < 64

pub part-at : (s : List ℕ) (at stop i : ℕ) → 4 * at + i < 4 * stop → sextet (part s at stop) i ≡ sextet s (4 * at + i)
part-at s at stop i h = get_or-drop (4 * at) (take (4 * stop) s) i 0 ∙ get_or-take (4 * stop) s (4 * at + i) 0 h

pub clear-part : (s : List ℕ) (at to x y : ℕ) → Clear s at to → at ≤ x → y ≤ to → Below 64 (part s x y)
clear-part s at to x y k l m =
    below_all 64 (part s x y) λ i h.
    let w : i < 4 * y - 4 * x = omega (arith, length-drop (4 * x) (take (4 * y) s), length-take (4 * y) s) in
    rw (part-at s x y i (omega arith)) (k (4 * x + i) (omega arith) (omega arith))

pub clear-less : (s : List ℕ) (at to x y : ℕ) → Clear s at to → at ≤ x → y ≤ to → Clear s x y
clear-less s at to x y k l m i p q = k i (omega arith) (omega arith)

pub clear-below : (s : List ℕ) (at to : ℕ) → Below 64 s → Clear s at to
clear-below s at to b i p q = ⊎_elim (below_at 64 s b i) (λ h. rw (get_or-eq_default s 0 {n = i} h) (omega arith)) (lt-or-ge i (length s))

-- the four sextets of a first unit
abbrev pub Head : List ℕ → Type 0
Head x = (i : ℕ) → i < 4 → sextet x i < 64

head-known : (x : List ℕ) → Head x → Known (sextet x) 0
head-known x h = (lt-ltb _ _ (h 0 (omega arith)), lt-ltb _ _ (h 1 (omega arith)), lt-ltb _ _ (h 2 (omega arith)), lt-ltb _ _ (h 3 (omega arith)))

pub part-head : (s : List ℕ) (at stop to : ℕ) → Clear s at to → at < stop → at < to → Head (part s at stop)
part-head s at stop to k h l i q = rw (part-at s at stop i (omega arith)) (k (4 * at + i) (omega arith) (omega arith))

drop_head : (s : List ℕ) (at to : ℕ) → Clear s at to → at < to → Head (drop (4 * at) s)
drop_head s at to k l i q = rw (get_or-drop (4 * at) s i 0) (k (4 * at + i) (omega arith) (omega arith))

-- ---- a unit that is told

pub told : (f : ℕ → ℕ → ℕ → ℕ → ℕ) (s : List ℕ) (at n : ℕ) → unit_by f s at ≡ n → 0 < n
    → f (sextet s (4 * at)) (sextet s (4 * at + 1)) (sextet s (4 * at + 2)) (sextet s (4 * at + 3)) ≡ n
unfolding unit_by
told f s at n e p = go (ltb at (length s / 4)) e
  where
    go : (b : Bool) → pick b (f (sextet s (4 * at)) (sextet s (4 * at + 1)) (sextet s (4 * at + 2)) (sextet s (4 * at + 3))) 0 ≡ n
        → f (sextet s (4 * at)) (sextet s (4 * at + 1)) (sextet s (4 * at + 2)) (sextet s (4 * at + 3)) ≡ n
    go true q = q
    go false q = absurd (omega arith)

five : (f : ℕ → ℕ → ℕ → ℕ → ℕ) {a b c d x y z w n : ℕ} → a ≡ x → b ≡ y → c ≡ z → d ≡ w → f x y z w ≡ n → f a b c d ≡ n
five f p q r s e = cc

-- a rule of a unit, read from a part that starts with it
pub told_part : (f : ℕ → ℕ → ℕ → ℕ → ℕ) (s : List ℕ) (at stop n : ℕ) → unit_by f s at ≡ n → 0 < n → at < stop
    → f (sextet (part s at stop) 0) (sextet (part s at stop) 1) (sextet (part s at stop) 2) (sextet (part s at stop) 3) ≡ n
told_part f s at stop n e p h =
    let z : 4 * at + 0 ≡ 4 * at = omega arith in
    five f (rw z at (part-at s at stop 0 (omega arith))) (part-at s at stop 1 (omega arith)) (part-at s at stop 2 (omega arith))
    (part-at s at stop 3 (omega arith)) (told f s at n e p)

-- the same, read from all that is behind
told-drop : (f : ℕ → ℕ → ℕ → ℕ → ℕ) (s : List ℕ) (at n : ℕ) → unit_by f s at ≡ n → 0 < n
    → f (sextet (drop (4 * at) s) 0) (sextet (drop (4 * at) s) 1) (sextet (drop (4 * at) s) 2) (sextet (drop (4 * at) s) 3) ≡ n
told-drop f s at n e p =
    let z : 4 * at + 0 ≡ 4 * at = omega arith in
    five f (rw z at (get_or-drop (4 * at) s 0 0)) (get_or-drop (4 * at) s 1 0) (get_or-drop (4 * at) s 2 0) (get_or-drop (4 * at) s 3 0) (told f s at n e p)

-- ---- framing by a first unit

pub frame-short : (t : Bool) (x : List ℕ) (k : Kind) (n : ℕ) → Head x
    → opening_by t (sextet x 0) (sextet x 1) (sextet x 2) (sextet x 3) ≡ Short k n → 0 < n → n ≤ length x / 4 → frame_by t x ≡ Item k 1 n
unfolding frame_with headed fit
frame-short t x k n h o p room =
    by-with t x
    ∙ rw (le-ltb (length x / 4) 1 (omega arith), known_next (sextet x) 0 _ (head-known x h), o, le-ltb (length x / 4) n room)

pub next-short : (t first : Bool) (x : List ℕ) (k : Kind) (n : ℕ) → ((at : ℕ → ℕ) (h m : ℕ) → ruled at (Item k h m) ≡ Item k h m)
    → frame_by t x ≡ Item k 1 n → frame_next t first x ≡ Item k 1 n
unfolding frame_next
next-short t true x k n r e = rw e (r (sextet x) 1 n)
next-short t false x k n r e = e

-- an item, where 7 is asked and where it is not
pub record Sized (x : List ℕ) (n : ℕ) : Type 0 where
  pub kind : Kind
  pub framed : (first : Bool) → frame_next false first x ≡ Item kind 1 n

opens-sized : (x : List ℕ) (n : ℕ) → Head x → Opens (sextet x 0) (sextet x 1) (sextet x 2) (sextet x 3) n → 0 < n → n ≤ length x / 4 → Sized x n
opens-sized x n h o p room =
    record { kind = o.kind; framed = λ first. next-short false first x o.kind n o.ruleless (frame-short false x o.kind n h o.opens p room) }

sized-frames : (x : List ℕ) (n : ℕ) → Head x → sized_of plain_table (sextet x 0) (sextet x 1) (sextet x 2) (sextet x 3) ≡ n → 0 < n → n ≤ length x / 4 → Sized x n
sized-frames x n h e p room =
    opens-sized x n h (sized-opens _ _ _ _ n p (h 0 (omega arith)) (h 1 (omega arith)) (h 3 (omega arith)) e) p room

-- a plain primitive
pub record Primitive (x : List ℕ) (n : ℕ) : Type 0 where
  pub plain : Plain (sextet x 0) (sextet x 1) (sextet x 2) (sextet x 3) n
  pub framed : (first : Bool) → frame_next false first x ≡ Item plain.told.kind 1 n

plain-frames : (x : List ℕ) (n : ℕ) → Head x → plain_of plain_table (sextet x 0) (sextet x 1) (sextet x 2) (sextet x 3) ≡ n → 0 < n → n ≤ length x / 4 → Primitive x n
plain-frames x n h e p room =
    let q = plain-opens (sextet x 0) (sextet x 1) (sextet x 2) (sextet x 3) n p (h 0 (omega arith)) (h 1 (omega arith)) (h 3 (omega arith)) e in
    record { plain = q; framed = λ first. next-short false first x q.told.kind n q.told.ruleless (frame-short false x q.told.kind n h q.told.opens p room) }

-- a small group, whichever table frames its items
small-frames : (x : List ℕ) (n : ℕ) → Head x → small_of (sextet x 0) (sextet x 1) (sextet x 2) (sextet x 3) ≡ n → 0 < n → n ≤ length x / 4
    → (first : Bool) → frame_next false first x ≡ Item (Group (sextet x 1)) 1 n
unfolding ruled
small-frames x n h e p room first =
    let q = small-opens (sextet x 0) (sextet x 1) (sextet x 2) (sextet x 3) n p e in
    next-short false first x (Group (sextet x 1)) n (λ at i m. refl) (frame-short false x (Group (sextet x 1)) n h q p room)

-- and one whose items the master table frames
pub group-is-small : (s : List ℕ) (at n : ℕ) → group_at s at ≡ n → 0 < n → (small_at s at ≡ n) × (is_indexed (letter_at s at) ≡ false)
unfolding unit_by
group-is-small s at n e p = go (ltb at (length s / 4)) refl e
  where
    go : (b : Bool) → ltb at (length s / 4) ≡ b
        → pick b (group_of (sextet s (4 * at)) (sextet s (4 * at + 1)) (sextet s (4 * at + 2)) (sextet s (4 * at + 3))) 0 ≡ n
        → (small_at s at ≡ n) × (is_indexed (letter_at s at) ≡ false)
    go true f q = let w = group-small _ _ _ _ n p q in (rw f w.0, w.1)
    go false f q = absurd (omega arith)

pub small-is-group : (s : List ℕ) (at : ℕ) → is_indexed (letter_at s at) ≡ false → small_at s at ≡ group_at s at
unfolding unit_by
small-is-group s at e = rw (small-group (sextet s (4 * at)) (sextet s (4 * at + 1)) (sextet s (4 * at + 2)) (sextet s (4 * at + 3)) e)

-- ---- the same, told at a unit of a stream

module _ (s : List ℕ) (at to : ℕ) (k : Clear s at to) (l : at < to) where
  pub plain-drop : (n : ℕ) → plain_at plain_table s at ≡ n → 0 < n → at + n ≤ length s / 4 → Primitive (drop (4 * at) s) n
  plain-drop n e p h =
      plain-frames (drop (4 * at) s) n (drop_head s at to k l) (told-drop (plain_of plain_table) s at n e p) p (omega (arith, length-drop (4 * at) s))

  pub sized-drop : (n : ℕ) → sized_at plain_table s at ≡ n → 0 < n → at + n ≤ length s / 4 → Sized (drop (4 * at) s) n
  sized-drop n e p h =
      sized-frames (drop (4 * at) s) n (drop_head s at to k l) (told-drop (sized_of plain_table) s at n e p) p (omega (arith, length-drop (4 * at) s))

  pub small-drop : (n : ℕ) → small_at s at ≡ n → 0 < n → at + n ≤ length s / 4 → frame_ruled (drop (4 * at) s) ≡ Item (Group (letter_at s at)) 1 n
  unfolding frame_ruled frame_next
  small-drop n e p h =
      let y : sextet (drop (4 * at) s) 1 ≡ letter_at s at = get_or-drop (4 * at) s 1 0 in
      small-frames (drop (4 * at) s) n (drop_head s at to k l) (told-drop small_of s at n e p) p (omega (arith, length-drop (4 * at) s)) true ∙ rw y

-- ---- what they leave of a verdict

-- what is inside such a group, by the table that its letter says
inside-group : (s : List ℕ) (at n m letter : ℕ) (t : Bool) → t ≡ is_indexed letter → 0 < m
    → shift (4 * at) (judge_kind (Group letter) 1 (part s at (at + n)) (group m)) ≡ level s t (m - 1) (is_overrideable letter) (at + 1) (at + n)
unfolding judge_kind group own_check is_shortest unless and_then judge_with level
inside-group s at n zero letter t o p = absurd (omega arith)
inside-group s at n (suc m) letter t o p =
    let z : suc m - 1 ≡ m = omega arith in
    let y : 4 * at + 4 * 1 ≡ 4 * (at + 1) = omega arith in
    rw (o, z, shift-shift, y, part-drop s at 1 (at + n))

module _ (s : List ℕ) (l : ℕ) (stop : ℕ) (long : 4 * stop ≤ length s) where
  pub in-part : (at n : ℕ) → at + n ≤ stop → n ≤ length (part s at stop) / 4
  in-part at n h = omega (arith, part_length s at stop long)

  -- a plain primitive is accepted whole, and leaves the rest
  pub plain-taken : (first : Bool) (at k to : ℕ) → plain_at plain_table s at ≡ k → 0 < k → at + k ≤ stop → Clear s at to → at + k ≤ to
      → Taken s false l first at stop k
  plain-taken first at k to e p h b r =
      let x : List ℕ = part s at stop in
      let q = plain-frames x k (part-head s at stop to b (omega arith) (omega arith)) (told_part (plain_of plain_table) s at stop k e p (omega arith)) p (in-part at k h) in
      let same : (i : ℕ) → i < 4 → sextet (part s at (at + k)) i ≡ sextet x i =
      λ i j. part-at s at (at + k) i (omega arith) ∙ sym (part-at s at stop i (omega arith)) in
      record {
        kind = q.plain.told.kind;
        head = 1;
        framed = q.framed first;
        judged = q.plain.accepts (part s at (at + k)) (same 1 (omega arith)) (same 2 (omega arith)) (clear-part s at to at (at + k) b (omega arith) r) (group l);
      }

  pub plain-level : (first : Bool) (at k to : ℕ) → plain_at plain_table s at ≡ k → 0 < k → at + k ≤ stop → Clear s at to → at + k ≤ to
      → level s false l first at stop ≡ level s false l false (at + k) stop
  plain-level first at k to e p h b r = taken-level s false l first at stop k long (omega arith) (plain-taken first at k to e p h b r)

  small-framed : (first : Bool) (at n to : ℕ) → small_at s at ≡ n → 0 < n → at + n ≤ stop → Clear s at to → at < to
      → frame_next false first (part s at stop) ≡ Item (Group (letter_at s at)) 1 n
  small-framed first at n to e p h b r =
      let x : List ℕ = part s at stop in
      let y : sextet x 1 ≡ letter_at s at = part-at s at stop 1 (omega arith) in
      small-frames x n (part-head s at stop to b (omega arith) r) (told_part small_of s at stop n e p (omega arith)) p (in-part at n h) first ∙ rw y

  -- a small group is accepted whole where its contents are, by the table that its letter says and one level further in
  pub small-taken : (first : Bool) (at n to : ℕ) (t : Bool) → t ≡ is_indexed (letter_at s at) → small_at s at ≡ n → 0 < n → at + n ≤ stop → 0 < l
      → Clear s at to → at < to
      → level s t (l - 1) (is_overrideable (letter_at s at)) (at + 1) (at + n) ≡ Accepted → Taken s false l first at stop n
  small-taken first at n to t o e p h d b r v = record {
    kind = Group (letter_at s at);
    head = 1;
    framed = small-framed first at n to e p h b r;
    judged = shift-accepted (4 * at) _ (inside-group s at n l (letter_at s at) t o d ∙ v);
  }

  -- a small group's contents come first, one level further in
  pub group-level : (first : Bool) (at n to : ℕ) → group_at s at ≡ n → 0 < n → at + n ≤ stop → 0 < l → Clear s at to → at < to
      → level s false l first at stop ≡ and_then (level s false (l - 1) (is_overrideable (letter_at s at)) (at + 1) (at + n)) (level s false l false (at + n) stop)
  group-level first at n to e p h d b r =
      let q = group-is-small s at n e p in
      level-item s false l first at stop (Group (letter_at s at)) 1 n long (omega arith) (small-framed first at n to q.0 p h b r)
      ∙ ap (λ (v : Verdict). and_then v (level s false l false (at + n) stop)) (inside-group s at n l (letter_at s at) false (sym q.1) d)

  -- and is all there is, where the group ends with what is around it
  pub tail-level : (first : Bool) (at to : ℕ) → group_at s at ≡ stop - at → at < stop → 0 < l → Clear s at to → at < to
      → level s false l first at stop ≡ level s false (l - 1) (is_overrideable (letter_at s at)) (at + 1) stop
  tail-level first at to e h d b r =
      let z : at + (stop - at) ≡ stop = omega arith in
      group-level first at (stop - at) to e (omega arith) (omega arith) d b r ∙ rw (z, level-end s false l false stop) (then-accepts _)

-- ---- groups one in the other

module _ (s : List ℕ) (stop : ℕ) (long : 4 * stop ≤ length s) (from : ℕ) (b : Clear s from stop) where
  -- d groups entered from a unit on, where l may be: what is left, asked 7 as the innermost's letter says
  pub record Nested (l : ℕ) (first : Bool) (at d : ℕ) : Type 0 where
    pub few : d ≤ l
    pub fits : at + d ≤ stop
    pub leaves : level s false l first at stop ≡ level s false (l - d) (is_overrideable (letter_at s (at + d - 1))) (at + d) stop

  one_deeper : (l : ℕ) (first : Bool) (at : ℕ) → from ≤ at → group_at s at ≡ stop - at → at < stop → Nested (suc l) first at 1
  one_deeper l first at u e h =
      let z : at + 1 - 1 ≡ at = omega arith in
      record { few = omega arith; fits = omega arith; leaves = tail-level s (suc l) stop long first at stop e h (omega arith) (clear-less s from stop at stop b u (omega arith)) h ∙ rw z }

  more-deeper : (l : ℕ) (first : Bool) (at d : ℕ) → from ≤ at → group_at s at ≡ stop - at → at < stop → 0 < d
      → Nested l (is_overrideable (letter_at s at)) (at + 1) d → Nested (suc l) first at (suc d)
  more-deeper l first at d u e h p N =
      let w : suc l - 1 ≡ l = omega arith in
      let x : l - d ≡ suc l - suc d = omega arith in
      let y : at + 1 + d - 1 ≡ at + suc d - 1 = omega arith in
      let z : at + 1 + d ≡ at + suc d = omega arith in
      record {
        few = omega (arith, N.few);
        fits = omega (arith, N.fits);
        leaves = tail-level s (suc l) stop long first at stop e h (omega arith) (clear-less s from stop at stop b u (omega arith)) h ∙ rw (w, ← x, ← y, ← z) N.leaves;
      }

  pub nested-level : (l : ℕ) (first : Bool) (at d : ℕ) → from ≤ at → nested (group_at s) stop l at ≡ d → 0 < d → Nested l first at d
  unfolding nested
  nested-level zero first at d u e p = absurd (omega arith)
  nested-level (suc l) first at d u e p =
      go l first at d u (λ k q r. nested-level l (is_overrideable (letter_at s at)) (at + 1) k (omega arith) q r) (ltb at stop) (eqb (group_at s at) (stop - at)) refl refl e p
    where
      deeper : (l : ℕ) (first : Bool) (at k d : ℕ) → from ≤ at → ((q : 0 < k) → Nested l (is_overrideable (letter_at s at)) (at + 1) k)
          → group_at s at ≡ stop - at → at < stop → suc k ≡ d → Nested (suc l) first at d
      deeper l first at zero d u rest e h q = rw (← q) (one_deeper l first at u e h)
      deeper l first at (suc k) d u rest e h q = rw (← q) (more-deeper l first at (suc k) u e h (omega arith) (rest (omega arith)))

      go : (l : ℕ) (first : Bool) (at d : ℕ) → from ≤ at → ((k : ℕ) → nested (group_at s) stop l (at + 1) ≡ k → 0 < k → Nested l (is_overrideable (letter_at s at)) (at + 1) k)
          → (x y : Bool) → ltb at stop ≡ x → eqb (group_at s at) (stop - at) ≡ y
          → pick x (pick y (suc (nested (group_at s) stop l (at + 1))) 0) 0 ≡ d → 0 < d → Nested (suc l) first at d
      go l first at d u rest false y f g q p = absurd (omega arith)
      go l first at d u rest true false f g q p = absurd (omega arith)
      go l first at d u rest true true f g q p =
          deeper l first at (nested (group_at s) stop l (at + 1)) d u (λ r. rest (nested (group_at s) stop l (at + 1)) refl r) (eqb-true _ _ g) (ltb-true _ _ f) q

-- ---- items of one size

-- what holds at the start, and from each item to the next, holds at the end
pub by-items {ℓ} : (P : ℕ → ℕ → Type ℓ) (k at : ℕ) (r : ℕ) → ((j : ℕ) → j < r → P j (at + j * k) → P (suc j) (at + j * k + k)) → P 0 at → P r (at + r * k)
by-items P k at zero step z = let e : at + 0 * k ≡ at = omega arith in rw e z
by-items P k at (suc r) step z =
    let e : at + suc r * k ≡ at + r * k + k = omega (arith, suc-mul r k) in
    rw e (step r (omega arith) (by-items P k at r (λ j h. step j (omega arith)) z))
