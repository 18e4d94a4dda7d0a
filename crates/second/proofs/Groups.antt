-- Groups, whose items are judged one by one: what the steps of the cycle say, and where their places lie. Assumes nothing.
use mathlib.Core.Path.{◌≡◌, refl, sym, ap, ◌∙◌, subst}
use mathlib.Core.Bool.{Bool, true, false}
use mathlib.Core.List.{List, [], ◌∷◌}
use Prim.Native.Nat.{ℕ, zero, suc, ◌+◌, ◌-◌, ◌*◌, ◌/◌, ◌%◌, ◌^◌, ◌<◌, ◌≤◌}
use native.Mathlib.Omega.{arith}
use lib.Dec.{ltb}
use mir.Syntax.{w64}
use mir.Val as val
use lib.ListN.{length, take, drop, length-drop}
use lib.Seq.{take_all, length-take-le}
use borrow.Author.Tests.{lt-ltb, le-ltb}
use mathlib.Core.Logic.{⊎_elim}
use Rattle.base.specs.Cases.{lt-or-ge}
use Rattle.base.specs.Pick.{pick-by}
use Rattle.base.specs.Lists.{map-take}
use Rattle.format.specs.declared.CodeRow.{CodeRow}
use Rattle.format.specs.declared.IndexRow.{IndexRow}
use Rattle.format.specs.declared.Kind.{Kind}
use Rattle.format.specs.declared.Kind.TheVariants.{Fixed, Variable, Group, Genus, Indexed}
use Rattle.format.specs.declared.Opening.{Opening}
use Rattle.format.specs.declared.Opening.TheVariants.{Unknown, Short, Long, LargeVariable, LargeGroup, Version}
use Rattle.format.specs.declared.Framed.{Framed}
use Rattle.format.specs.declared.Framed.TheVariants as F
use Rattle.format.specs.declared.Verdict.{Verdict}
use Rattle.format.specs.declared.Verdict.TheVariants.{Accepted, Refused}
use Rattle.format.specs.Alphabet.{sextet_of}
use Rattle.format.specs.Units.{text_sextets}
use Rattle.format.specs.Registry.{is_indexed, is_overrideable}
use Rattle.format.specs.Framing.{sextet, fit, known, second, headed, frame_with, is_ours, ruled, frame_by, frame_next}
use Rattle.format.specs.Judging.{shift, and_then, unless, is_shortest, scan, behind, judge_kind, own_check, group, judge_with, max_depth}
use Rattle.laws.specs.Framing.{by-with}
use Rattle.laws.specs.Levels.{part, part_length, part-take, any-item, item-sizes, level, level-end, level-refused, level-item}
use Rattle.second_characters.proofs.Found.{text-length, text-rest}
use Rattle.second_judging.specs.Kinds.{Behind, fixed_of, variable_of, indexed_of}
use Rattle.second.specs.declared.Judged.{Judged}
use Rattle.second.specs.declared.Judged.TheVariants as J
use Rattle.second.specs.Items.{Own, Near, Told, judged_of, NearItem, Next}

-- ---- where a place lies

pub near-place : (n : ℕ) (v : Verdict) (m p : ℕ) → v ≡ Refused m p → Near n v → p ≤ n
near-place n v m p e h = rw e at h

near-zero : (n m : ℕ) → Near n (Refused m 0)
near-zero n m = omega arith

pub near-wider : (n m : ℕ) (v : Verdict) → n ≤ m → Near n v → Near m v
near-wider n m Accepted l h = omega arith
near-wider n m (Refused k p) l h = omega arith

near-shift : (o n m : ℕ) (v : Verdict) → o + n ≤ m → Near n v → Near m (shift o v)
unfolding shift
near-shift o n m Accepted l h = omega arith
near-shift o n m (Refused k p) l h = omega arith

near-then : (n : ℕ) (v w : Verdict) → Near n v → Near n w → Near n (and_then v w)
unfolding and_then
near-then n Accepted w a b = b
near-then n (Refused m p) w a b = a

near-unless : (n m : ℕ) (b : Bool) → Near n (unless m b)
unfolding unless
near-unless n m true = omega arith
near-unless n m false = omega arith

near-scan : (s : List ℕ) → Near (length s) (scan s)
unfolding scan
near-scan [] = omega arith
near-scan (x ∷ s) =
    pick-by (Near (suc (length s))) (ltb x 64) _ _ (λ _. near-shift 1 (length s) (suc (length s)) (scan s) (omega arith) (near-scan s)) (λ _. omega arith)

near-behind : (h : ℕ) (s : List ℕ) → 4 * h ≤ length s → Near (length s + 8) (behind h s)
unfolding behind
near-behind h s l = near-shift (4 * h) (length (drop (4 * h) s)) (length s + 8) _ (omega (arith, length-drop (4 * h) s)) (near-scan (drop (4 * h) s))

near-fixed : (c : CodeRow) (h : ℕ) (s : List ℕ) → 4 * h ≤ length s → Near (length s + 8) (fixed_of c h s)
unfolding fixed_of judge_kind
near-fixed c h s l = near-then _ _ _ (near-behind h s l) (near-then _ _ _ (near-unless _ _ _) (near-unless _ _ _))

near-variable : (t lead count h : ℕ) (s : List ℕ) → 4 * h ≤ length s → Near (length s + 8) (variable_of t lead count h s)
unfolding variable_of judge_kind
near-variable t lead count h s l =
    near-then _ _ _ (near-behind h s l)
    (near-then _ _ _ (near-unless _ _ _) (near-then _ _ _ (near-unless _ _ _) (near-then _ _ _ (near-unless _ _ _) (near-unless _ _ _))))

near-indexed : (c : IndexRow) (h : ℕ) (s : List ℕ) → 4 * h ≤ length s → Near (length s + 8) (indexed_of c h s)
unfolding indexed_of judge_kind
near-indexed c h s l = near-then _ _ _ (near-behind h s l) (near-then _ _ _ (near-unless _ _ _) (near-unless _ _ _))

-- framing's lies in the header
abbrev Head : Framed → Type 0
Head (F.Item k h n) = 0 ≤ 7
Head (F.Unframed m p) = p ≤ 7

fit-head : (k : Kind) (h n len : ℕ) → Head (fit k h n len)
unfolding fit
fit-head k h n len = pick-by Head (ltb len n) _ _ (λ _. omega arith) (λ _. omega arith)

known-head : (at : ℕ → ℕ) (i : ℕ) (next : Framed) → i ≤ 4 → Head next → Head (known at i next)
unfolding known
known-head at i next l f =
    pick-by Head (ltb (at i) 64) _ _
    (λ _. pick-by Head (ltb (at (i + 1)) 64) _ _
    (λ _. pick-by Head (ltb (at (i + 2)) 64) _ _
    (λ _. pick-by Head (ltb (at (i + 3)) 64) _ _ (λ _. f) (λ _. omega arith))
    (λ _. omega arith))
    (λ _. omega arith))
    (λ _. omega arith)

second_head : (at : ℕ → ℕ) (len : ℕ) (next : Framed) → Head next → Head (second at len next)
unfolding second
second_head at len next f = pick-by Head (ltb len 2) _ _ (λ _. omega arith) (λ _. known-head at 4 next (omega arith) f)

headed-head : (op : Opening) (at : ℕ → ℕ) (len : ℕ) → Head (headed op at len)
unfolding headed
headed-head Unknown at len = omega arith
headed-head (Short k n) at len = fit-head _ _ _ _
headed-head (Long k n) at len = second_head at len _ (fit-head _ _ _ _)
headed-head (LargeVariable t l) at len = second_head at len _ (fit-head _ _ _ _)
headed-head (LargeGroup l d) at len = second_head at len _ (fit-head _ _ _ _)
headed-head Version at len = second_head at len _ (fit-head _ _ _ _)

by-head : (t : Bool) (s : List ℕ) → Head (frame_by t s)
unfolding frame_with
by-head t s =
    subst Head (sym (by-with t s))
    (pick-by Head (ltb (length s / 4) 1) _ _ (λ _. omega arith) (λ _. known-head (sextet s) 0 _ (omega arith) (headed-head _ (sextet s) (length s / 4))))

ruled-head : (at : ℕ → ℕ) (f : Framed) → Head f → Head (ruled at f)
unfolding ruled
ruled-head at (F.Item (Fixed c) h n) q = q
ruled-head at (F.Item (Variable t l c) h n) q = q
ruled-head at (F.Item (Group l) h n) q = q
ruled-head at (F.Item Genus h n) q = pick-by Head (is_ours at) _ _ (λ _. omega arith) (λ _. omega arith)
ruled-head at (F.Item (Indexed c) h n) q = q
ruled-head at (F.Unframed m p) q = q

next-head : (t first : Bool) (s : List ℕ) → Head (frame_next t first s)
unfolding frame_next
next-head t true s = ruled-head (sextet s) (frame_by t s) (by-head t s)
next-head t false s = by-head t s

pub place-head : (t first : Bool) (s : List ℕ) (m p : ℕ) → frame_next t first s ≡ F.Unframed m p → p ≤ 7
place-head t first s m p e = subst Head e (next-head t first s)

-- ---- what an answer says

pub record Found (l : ℕ) (s : List ℕ) (f : Framed) (n : ℕ) (v : Verdict) : Type 0 where
  pub kind : Kind
  pub head : ℕ
  pub framed : f ≡ F.Item kind head n
  pub judged : v ≡ judge_kind kind head (take (4 * n) s) (group l)

pub item-is : (l : ℕ) (s : List ℕ) (f : Framed) (n : ℕ) (v : Verdict) → judged_of l s f ≡ J.Item n v → Found l s f n v
unfolding judged_of
item-is l s (F.Item k h m) n v e =
    let z : m ≡ n = cc in
    record { kind = k; head = h; framed = ap (F.Item k h) z; judged = rw (← z) (cc) }
item-is l s (F.Unframed m p) n v e = let z : ◌≡◌ {A = ℕ} 0 1 = cc in absurd (omega arith)

pub unframed-is : (l : ℕ) (s : List ℕ) (f : Framed) (m p : ℕ) → judged_of l s f ≡ J.Unframed m p → f ≡ F.Unframed m p
unfolding judged_of
unframed-is l s (F.Item k h n) m p e = let z : ◌≡◌ {A = ℕ} 0 1 = cc in absurd (omega arith)
unframed-is l s (F.Unframed m' p') m p e = cc

pub near-own : (n : ℕ) (j : Judged) (i : ℕ) (v : Verdict) → j ≡ J.Item i v → NearItem n j → Near n v
near-own n j i v e h = rw e at h

pub near_none : (n : ℕ) (j : Judged) (m p : ℕ) → j ≡ J.Unframed m p → NearItem n j → p ≤ n
near_none n j m p e h = rw e at h

pub near-item : (n : ℕ) (j : Judged) (i : ℕ) (v : Verdict) (m p : ℕ) → j ≡ J.Item i v → v ≡ Refused m p → NearItem n j → p ≤ n
near-item n j i v m p e q h = rw (e, q) at h

-- ---- the item that a text begins with

module _ (x first : Bool) (t : List ℕ) (l : ℕ) (f : Framed) (ef : f ≡ frame_next x first (text_sextets t)) where
  pub next-none : (m p : ℕ) → f ≡ F.Unframed m p → Next x first l t (J.Unframed m p)
  unfolding judged_of
  next-none m p e =
      record { is = rw (← ef, e); near = omega (arith, place-head x first (text_sextets t) m p (sym ef ∙ e)) }

  module _ (k : Kind) (h n : ℕ) (e : f ≡ F.Item k h n) where
    sizes : (0 < h) × (h ≤ n) × (4 * n ≤ length t)
    sizes =
        let b = item-sizes x (text_sextets t) k h n (any-item x first (text_sextets t) k h n (sym ef ∙ e)) in
        (b.0, b.1, omega (arith, b.2, text-length t))

    pub size_fits : length t * 1 < 2 ^ 63 → val.Fits w64 (4 * n)
    size_fits q = omega (arith, sizes)

    pub own-long : 4 * n ≡ length (take (4 * n) t)
    own-long = sym (length-take-le (4 * n) t sizes.2)

    pub next-asks : Own h (take (4 * n) t)
    next-asks = record { inside = omega (arith, own-long, sizes); whole = omega (arith, own-long) }

    pub next-some : (v : Verdict) → Told (judge_kind k h (text_sextets (take (4 * n) t)) (group l)) (length (take (4 * n) t) + 8) v → Next x first l t (J.Item n v)
    unfolding judged_of text_sextets
    next-some v T =
        let o : text_sextets (take (4 * n) t) ≡ take (4 * n) (text_sextets t) = map-take sextet_of (4 * n) t in
        record {
          is = rw (← ef, e) (ap (J.Item n) (T.is ∙ rw o));
          near = near-wider (length (take (4 * n) t) + 8) (length t + 8) v (omega (arith, own-long, sizes)) T.near;
        }

-- ---- an item by its kind

module _ (k : Kind) (h : ℕ) (t : List ℕ) (l : ℕ) (own : Own h t) where
  long' : 4 * h ≤ length (text_sextets t)
  long' = rw (text-length t) own.inside

  value : Behind h (4 * h) t
  value = record { units = refl; inside = own.inside }

  pub judged-fixed : (c : CodeRow) → k ≡ Fixed c → (r : Verdict) → ((h' : ℕ) → Behind h' (4 * h) t → r ≡ fixed_of c h' (text_sextets t))
      → Told (judge_kind k h (text_sextets t) (group l)) (length t + 8) r
  unfolding fixed_of judge_kind
  judged-fixed c e r q = record { is = rw e (q h value); near = rw (q h value, ← text-length t) (near-fixed c h (text_sextets t) long') }

  pub judged-variable : (a b n : ℕ) → k ≡ Variable a b n → (r : Verdict) → ((h' : ℕ) → Behind h' (4 * h) t → r ≡ variable_of a b n h' (text_sextets t))
      → Told (judge_kind k h (text_sextets t) (group l)) (length t + 8) r
  unfolding variable_of judge_kind
  judged-variable a b n e r q = record { is = rw e (q h value); near = rw (q h value, ← text-length t) (near-variable a b n h (text_sextets t) long') }

  pub judged-indexed : (c : IndexRow) → k ≡ Indexed c → (r : Verdict) → ((h' : ℕ) → Behind h' (4 * h) t → r ≡ indexed_of c h' (text_sextets t))
      → Told (judge_kind k h (text_sextets t) (group l)) (length t + 8) r
  unfolding indexed_of judge_kind
  judged-indexed c e r q = record { is = rw e (q h value); near = rw (q h value, ← text-length t) (near-indexed c h (text_sextets t) long') }

  pub judged-genus : k ≡ Genus → Told (judge_kind k h (text_sextets t) (group l)) (length t + 8) Accepted
  unfolding judge_kind
  judged-genus e = record { is = rw e; near = omega arith }

  pub judged-group : (letter : ℕ) → k ≡ Group letter → (r : Verdict) → Told (group l letter h (drop (4 * h) (text_sextets t))) (length t + 8) r
      → Told (judge_kind k h (text_sextets t) (group l)) (length t + 8) r
  unfolding judge_kind
  judged-group letter e r q = record { is = rw e q.is; near = q.near }

-- ---- a group's own checks

-- within d groups, where 64 - d more may be entered
within : (d : ℕ) → ltb d max_depth ≡ ltb 0 (max_depth - d)
within d =
    ⊎_elim (λ lt. rw (lt-ltb d max_depth lt, lt-ltb 0 (max_depth - d) (omega arith)))
    (λ ge. rw (le-ltb d max_depth ge, le-ltb 0 (max_depth - d) (omega arith))) (lt-or-ge d max_depth)

behind-units : (h : ℕ) (t : List ℕ) → length (drop (4 * h) (text_sextets t)) / 4 ≡ length t / 4 - h
behind-units h t = omega (arith, length-drop (4 * h) (text_sextets t), text-length t)

module _ (letter h : ℕ) (t : List ℕ) (d : ℕ) (v : Verdict) (ev : v ≡ and_then (unless 11 (ltb d max_depth)) (unless 18 (is_shortest h (length t / 4 - h)))) where
  own-near : Near (length t + 8) v
  own-near = rw ev (near-then _ _ _ (near-unless _ _ _) (near-unless _ _ _))

  pub group-refused : (m p : ℕ) → v ≡ Refused m p → Told (group (max_depth - d) letter h (drop (4 * h) (text_sextets t))) (length t + 8) v
  unfolding group own_check and_then unless
  group-refused m p e = record { is = by (max_depth - d) (ev ∙ rw (within d)); near = own-near }
    where
      by : (l : ℕ) → v ≡ and_then (unless 11 (ltb 0 l)) (unless 18 (is_shortest h (length t / 4 - h))) → v ≡ group l letter h (drop (4 * h) (text_sextets t))
      by zero a = a
      by (suc l) a =
          let a' : v ≡ unless 18 (is_shortest h (length t / 4 - h)) = a ∙ rw (lt-ltb 0 (suc l) (omega arith)) in
          rw (behind-units h t, ← a', e)

  group-entered : v ≡ Accepted → (d < max_depth) × (is_shortest h (length t / 4 - h) ≡ true)
  unfolding and_then unless
  group-entered e =
      let b = by (max_depth - d) (is_shortest h (length t / 4 - h)) (ev ∙ rw (within d)) in
      (omega (arith, b.0), b.1)
    where
      by : (l : ℕ) (x : Bool) → v ≡ and_then (unless 11 (ltb 0 l)) (unless 18 x) → (0 < l) × (x ≡ true)
      by (suc l) true a = (omega arith, refl)
      by (suc l) false a =
          let o : v ≡ Refused 18 0 = a ∙ rw (lt-ltb 0 (suc l) (omega arith)) in
          let z : ◌≡◌ {A = ℕ} 0 1 = cc in
          absurd (omega arith)
      by zero x a =
          let o : v ≡ Refused 11 0 = a in
          let z : ◌≡◌ {A = ℕ} 0 1 = cc in
          absurd (omega arith)

-- ---- its items one by one

pub record Left (letter h : ℕ) (t : List ℕ) (d : ℕ) (x : Bool) (marked : Bool) (start : ℕ) : Type 0 where
  pub some : d < max_depth
  pub whole : length t % 4 ≡ 0
  pub inside : 4 * start ≤ length t
  pub leaves : group (max_depth - d) letter h (drop (4 * h) (text_sextets t)) ≡ level (text_sextets t) x (max_depth - (d + 1)) marked start (length t / 4)

whole_part : (t : List ℕ) (at : ℕ) → length t % 4 ≡ 0 → part (text_sextets t) at (length t / 4) ≡ drop (4 * at) (text_sextets t)
whole_part t at e = ap (drop (4 * at)) (take_all (4 * (length t / 4)) (text_sextets t) (omega (arith, text-length t)))

pub left-start : (letter h : ℕ) (t : List ℕ) (d : ℕ) → Own h t → (v : Verdict) → v ≡ and_then (unless 11 (ltb d max_depth)) (unless 18 (is_shortest h (length t / 4 - h))) → v ≡ Accepted
    → (y z : Bool) → y ≡ is_indexed letter → z ≡ is_overrideable letter → Left letter h t d y z h
unfolding group own_check level judge_with and_then unless
left-start letter h t d own v ev e y z ey ez =
    let g = group-entered letter h t d v ev e in
    let deeper : max_depth - d - 1 ≡ max_depth - (d + 1) = omega arith in
    record { some = g.0; whole = own.whole; inside = own.inside; leaves = rw (← deeper) (by (max_depth - d) (omega (arith, g.0)) g.1) }
  where
    by : (l : ℕ) → 0 < l → is_shortest h (length t / 4 - h) ≡ true
        → group l letter h (drop (4 * h) (text_sextets t)) ≡ level (text_sextets t) y (l - 1) z h (length t / 4)
    by zero lt o = absurd (omega arith)
    by (suc l) lt o =
        let m : suc l - 1 ≡ l = omega arith in
        rw (behind-units h t, o, m, ey, ez, whole_part t h own.whole)

module _ (letter h : ℕ) (t : List ℕ) (d : ℕ) (x marked : Bool) (start : ℕ) (w : Left letter h t d x marked start) where
  pub left_end : length t ≤ 4 * start → Told (group (max_depth - d) letter h (drop (4 * h) (text_sextets t))) (length t + 8) Accepted
  left_end q =
      let z : start ≡ length t / 4 = omega (arith, w.inside) in
      record { is = sym (w.leaves ∙ rw z (level-end (text_sextets t) x (max_depth - (d + 1)) marked (length t / 4))); near = omega arith }

  module _ (lt : 4 * start < length t) (j : Judged) (N : Next x marked (max_depth - (d + 1)) (take (length t - 4 * start) (drop (4 * start) t)) j) where
    abbrev rest : List ℕ
    rest = take (length t - 4 * start) (drop (4 * start) t)

    rest-is : text_sextets rest ≡ part (text_sextets t) start (length t / 4)
    rest-is = text-rest t (4 * start) ∙ sym (whole_part t start w.whole)

    rest-long : length rest ≡ length t - 4 * start
    rest-long = length-take-le (length t - 4 * start) (drop (4 * start) t) (omega (arith, length-drop (4 * start) t))

    units : 4 * (length t / 4) ≡ length t
    units = omega (arith, w.whole)

    long : 4 * (length t / 4) ≤ length (text_sextets t)
    long = rw (text-length t) (omega (arith, units))

    pub left-unframed : (m p : ℕ) → j ≡ J.Unframed m p → (r : Verdict) → r ≡ Refused m (4 * start + p)
        → Told (group (max_depth - d) letter h (drop (4 * h) (text_sextets t))) (length t + 8) r
    left-unframed m p e r er =
        let u = unframed-is (max_depth - (d + 1)) (text_sextets rest) _ m p (sym N.is ∙ e) in
        rw er record {
          is = sym (w.leaves ∙ level-refused (text_sextets t) x (max_depth - (d + 1)) marked start (length t / 4) m p long (omega (arith, units)) (ap (frame_next x marked) (sym rest-is) ∙ u));
          near = omega (arith, near_none _ j m p e N.near, rest-long, w.inside);
        }

    module _ (n : ℕ) (v : Verdict) (e : j ≡ J.Item n v) where
      found : Found (max_depth - (d + 1)) (text_sextets rest) (frame_next x marked (text_sextets rest)) n v
      found = item-is (max_depth - (d + 1)) (text_sextets rest) _ n v (sym N.is ∙ e)

      framed : frame_next x marked (part (text_sextets t) start (length t / 4)) ≡ F.Item found.kind found.head n
      framed = ap (frame_next x marked) (sym rest-is) ∙ found.framed

      item-inside : (0 < n) × (4 * (start + n) ≤ length t)
      item-inside =
          let b = item-sizes x _ found.kind found.head n (any-item x marked _ found.kind found.head n framed) in
          (omega (arith, b.0, b.1), omega (arith, b.2, part_length (text_sextets t) start (length t / 4) long, units))

      pub end_fits : length t * 1 < 2 ^ 63 → val.Fits w64 (start + n)
      end_fits q = omega (arith, item-inside)

      pub less : length t - 4 * (start + n) < length t - 4 * start
      less = omega (arith, item-inside)

      own-part : take (4 * n) (text_sextets rest) ≡ part (text_sextets t) start (start + n)
      own-part =
          let c : 4 * n ≡ n * 4 = omega arith in
          rw (c, rest-is) (part-take (text_sextets t) start n (length t / 4) (omega (arith, item-inside)))

      on : group (max_depth - d) letter h (drop (4 * h) (text_sextets t)) ≡ and_then (shift (4 * start) v) (level (text_sextets t) x (max_depth - (d + 1)) false (start + n) (length t / 4))
      on =
          w.leaves ∙ level-item (text_sextets t) x (max_depth - (d + 1)) marked start (length t / 4) found.kind found.head n long (omega (arith, units)) framed
          ∙ ap (λ (u : Verdict). and_then (shift (4 * start) u) (level (text_sextets t) x (max_depth - (d + 1)) false (start + n) (length t / 4)))
          (sym (found.judged ∙ ap (λ (ys : List ℕ). judge_kind found.kind found.head ys (group (max_depth - (d + 1)))) own-part))

      pub left-refused : (m p : ℕ) → v ≡ Refused m p → (r : Verdict) → r ≡ Refused m (4 * start + p)
          → Told (group (max_depth - d) letter h (drop (4 * h) (text_sextets t))) (length t + 8) r
      unfolding and_then shift
      left-refused m p q r er =
          rw er record { is = sym (on ∙ rw q); near = omega (arith, near-item _ j n v m p e q N.near, rest-long, w.inside) }

      pub left-on : v ≡ Accepted → Left letter h t d x false (start + n)
      unfolding and_then shift
      left-on q = record { some = w.some; whole = w.whole; inside = item-inside.1; leaves = on ∙ rw q }
