-- Where no item follows: what stands there cannot be framed, or the stream ends in it. Assumes nothing.
use Prim.Native.Nat.{ℕ, zero, suc, ◌+◌, ◌-◌, ◌*◌, ◌/◌, ◌%◌, ◌≤◌, ◌<◌}
use Rattle.std.proofs.Math.Path.{◌≡◌, refl, sym, ap, subst}
use Rattle.std.proofs.Common.{◌∙◌, ⊎_elim, arith, length-append, take-append-drop, get_or-take, get_or-drop, take-take, drop-drop}
use mathlib.Core.List.{List, [], ◌∷◌, ◌++◌, append-nil}
use Rattle.std.specs.Prelude.{Bool, eqb, get_or, drop, replicate}
use Rattle.std.proofs.Math.Bool.{true, false}
use Rattle.std.proofs.Math.Dec.{ltb}
use Rattle.std.proofs.Math.ListN.{length, take, get_or-append}
use Rattle.std.proofs.lemmas.List.{length-replicate, take-append-le, drop-append-le}
use borrow.Author.Tests.{ltb-true, lt-ltb, le-ltb, eq-eqb, ne_eqb}
use Rattle.base.specs.Pick.{pick, pick-by}
use Rattle.base.specs.Cases.{lt-or-ge, whether}
use Rattle.format.specs.declared.Kind.{Kind}
use Rattle.format.specs.declared.Opening.{Opening}
use Rattle.format.specs.declared.Opening.TheVariants.{Unknown, Short, Long, LargeVariable, LargeGroup, Version}
use Rattle.format.specs.declared.Framed.{Framed}
use Rattle.format.specs.declared.Framed.TheVariants.{Item, Unframed}
use Rattle.format.specs.Units.{Domain}
use Rattle.format.specs.Registry.{opening, header_units}
use Rattle.format.specs.Framing.{sextet, frame, frame_ruled, frame_with, second, ruled}
use Rattle.format.specs.Framing as Fr
use Rattle.laws.specs.Registry.{opening-opens}
use Rattle.laws.specs.Domains.{Reader}
use Rattle.laws.specs.Framing.{Known, Good, Lawful, ruled_with, known_next, ruled_with-good}
use Rattle.laws.specs.Local.{ruled-there}
use Rattle.laws.specs.Levels.{part, part_length, part-drop, part-take, take-of-drop}
use Rattle.walk_state.specs.declared.Walk.{Walk}
use Rattle.walk_claims.specs.Words.{units_in}
use Rattle.pieces.specs.declared.Phase.{Phase}
use Rattle.pieces.specs.declared.Phase.TheVariants as P
use Rattle.pieces.specs.declared.Progress.{Progress}
use Rattle.pieces.specs.Headers.{all_known, is_long, endless, room_of, asks7, framed_by}
use Rattle.pieces.specs.Steps.{headed, stored, at_first, at_second, passed, step_by, unit_step, is_whole_by, is_whole}
use Rattle.pieces.specs.Feeding.{after, rows_after, number_at, begin}
use Rattle.pieces_headers.specs.Headers.{opens, Opened, cap, ruled-capped, ruled-one, long-made}
use Rattle.pieces_headers.specs.Wide.{long-says, long-known, framed-opened}
use Rattle.pieces_whole.specs.Run.{Fresh, unit_of, quiet, after-add, rows-add}
use Rattle.pieces_whole.specs.Item as I

pub unit-part : (s : List ℕ) (k : ℕ) → take 4 (drop (4 * k) s) ≡ part s k (k + 1)
unit-part s k = let z : 4 * k + 4 ≡ 4 * (k + 1) = omega arith in take-of-drop 4 (4 * k) s ∙ ap (λ (j : ℕ). drop (4 * k) (take j s)) z

-- ---- the remainder

module _ (u : ℕ) (s : List ℕ) (a i number : ℕ) where
  -- k units were read, and the remainder has begun
  pub record Done (k : ℕ) : Type 0 where
    pub phase : (after begin s k).phase ≡ P.Unframed
    pub tells : (after begin s k).number ≡ number
    pub start : (after begin s k).start ≡ a
    pub items : (after begin s k).items ≡ i
    pub rows : rows_after u begin s k ≡ rows_after u begin s a

  unframed-quiet : (p : Progress) → p.phase ≡ P.Unframed → is_whole p ≡ false
  unfolding is_whole is_whole_by
  unframed-quiet p e = rw e

  -- the unit by which it begins, or one more
  done-by : (k : ℕ) (r : Progress) → unit_step (after begin s k) (unit_of u begin s k) ≡ r → r.phase ≡ P.Unframed → r.number ≡ number
      → r.start ≡ a → r.items ≡ i → rows_after u begin s k ≡ rows_after u begin s a → Done (suc k)
  done-by k r e φ m b c rows =
      let q = quiet u begin s k (unframed-quiet _ (rw e φ)) in
      let z : after begin s (suc k) ≡ r = q.0 ∙ e in
      record {
        phase = rw z φ;
        tells = rw z m;
        start = rw z b;
        items = rw z c;
        rows = q.1 ∙ rows;
      }

  unframed-step : (p : Progress) (q : List ℕ) → p.phase ≡ P.Unframed → unit_step p q ≡ passed p
  unfolding unit_step step_by
  unframed-step p q e = ap (λ (f : Phase). step_by f p q) e

  done_more : (k : ℕ) → Done k → Done (suc k)
  done_more k o =
      done-by k (passed (after begin s k)) (unframed-step (after begin s k) _ o.phase) o.phase o.tells o.start o.items o.rows

  pub done-way : (j k : ℕ) → Done k → Done (k + j)
  done-way zero k o = let z : k ≡ k + 0 = omega arith in subst Done z o
  done-way (suc j) k o = let z : suc (k + j) ≡ k + suc j = omega arith in subst Done z (done_more (k + j) (done-way j k o))

module _ (u : ℕ) (s : List ℕ) (a i : ℕ) (fresh : Fresh a i (after begin s a)) where
  abbrev p₀ : Progress
  p₀ = after begin s a

  abbrev q₀ : List ℕ
  q₀ = take 4 (drop (4 * a) s)

  fresh_step : unit_step p₀ q₀ ≡ at_first p₀ q₀
  unfolding unit_step step_by
  fresh_step =
      ap (λ (f : Phase). step_by f p₀ q₀) fresh.phase
      ∙ rw (
        le-ltb p₀.read p₀.walk.at (omega (arith, fresh.read, fresh.position)),
        le-ltb p₀.walk.at p₀.read (omega (arith, fresh.read, fresh.position)),
      )

  room-top : room_of p₀.walk ≡ endless
  unfolding room_of
  room-top = rw (eq-eqb p₀.walk.depth 0 fresh.closed)

  by-master : p₀.walk.indexed ≡ false
  by-master = ⊎_elim (λ x. absurd (omega (arith, fresh.fits.nest.tabled x, fresh.closed))) (λ x. x) (whether p₀.walk.indexed)

  long-top : (b : Bool) → is_long false q₀ endless ≡ b → is_long p₀.walk.indexed q₀ (room_of p₀.walk) ≡ b
  long-top b e = ap (λ (x : Bool). is_long x q₀ (room_of p₀.walk)) by-master ∙ ap (is_long false q₀) room-top ∙ e

  frame-top : (cs : List ℕ) → framed_by p₀.walk cs ≡ ruled (sextet cs) (frame_with opening (sextet cs) endless)
  unfolding framed_by asks7
  frame-top cs = rw (room-top, eq-eqb p₀.walk.depth 0 fresh.closed, by-master)

  -- a header that cannot be framed
  module _ (p : Progress) (same : p.walk ≡ p₀.walk) (st : p.start ≡ a) (it : p.items ≡ i) (cs : List ℕ) (m c : ℕ)
      (e : ruled (sextet cs) (frame_with opening (sextet cs) endless) ≡ Unframed m c) where
    abbrev r₀ : Progress
    r₀ = headed p cs (framed_by p.walk cs)

    framed-so : framed_by p.walk cs ≡ Unframed m c
    framed-so = ap (λ (w : Walk). framed_by w cs) same ∙ frame-top cs ∙ e

    none_open : eqb p.walk.depth 0 ≡ true
    none_open = ap (λ (w : Walk). eqb w.depth 0) same ∙ eq-eqb p₀.walk.depth 0 fresh.closed

    refused-so : (r₀.phase ≡ P.Unframed) × (r₀.number ≡ m) × (r₀.start ≡ a) × (r₀.items ≡ i)
    unfolding headed
    refused-so = rw (framed-so, none_open) (refl, refl, st, it)

  short-done : is_long false q₀ endless ≡ false → (m c : ℕ) → ruled (sextet q₀) (frame_with opening (sextet q₀) endless) ≡ Unframed m c → Done u s a i m (suc a)
  unfolding at_first
  short-done one m c e =
      let f = refused-so p₀ refl fresh.start fresh.items q₀ m c e in
      done-by u s a i m a (headed p₀ q₀ (framed_by p₀.walk q₀)) (fresh_step ∙ rw (long-top false one)) f.0 f.1 f.2 f.3 refl

  -- behind the first unit of a header of two
  abbrev p₁ : Progress
  p₁ = after begin s (suc a)

  pub record Second : Type 0 where
    pub phase : p₁.phase ≡ P.Framing
    pub same : p₁.walk ≡ p₀.walk
    pub read : p₁.read ≡ suc a
    pub header : p₁.header ≡ q₀
    pub start : p₁.start ≡ a
    pub items : p₁.items ≡ i
    pub rows : rows_after u begin s (suc a) ≡ rows_after u begin s a

  stored_is : is_long false q₀ endless ≡ true → unit_step p₀ q₀ ≡ stored p₀ q₀
  unfolding at_first
  stored_is two = fresh_step ∙ rw (long-top true two)

  stored-quiet : is_whole (stored p₀ q₀) ≡ false
  unfolding is_whole is_whole_by
  stored-quiet =
      ap (λ (f : Phase). is_whole_by f (stored p₀ q₀)) fresh.phase
      ∙ rw (eq-eqb p₀.walk.depth 0 fresh.closed, ne_eqb (p₀.read + 1) p₀.walk.at (λ e. omega (arith, fresh.read, fresh.position)))

  second-step : Second → unit_step p₁ (take 4 (drop (4 * suc a) s)) ≡ at_second p₁ (take 4 (drop (4 * suc a) s))
  unfolding unit_step step_by
  second-step o =
      let z : p₁.walk.at ≡ a = ap (λ (w : Walk). w.at) o.same ∙ fresh.position in
      ap (λ (f : Phase). step_by f p₁ (take 4 (drop (4 * suc a) s))) o.phase
      ∙ rw (le-ltb p₁.read p₁.walk.at (omega (arith, o.read)), lt-ltb p₁.walk.at p₁.read (omega (arith, o.read)))

  long-second : is_long false q₀ endless ≡ true → Second
  long-second two =
      let q = quiet u begin s a (rw (stored_is two) stored-quiet) in
      let z : p₁ ≡ stored p₀ q₀ = q.0 ∙ stored_is two in
      record {
        phase = rw z fresh.phase;
        same = rw z;
        read = rw z (omega (arith, fresh.read));
        header = rw z;
        start = rw z fresh.start;
        items = rw z fresh.items;
        rows = q.1;
      }

  -- its second unit cannot be framed
  long-done : is_long false q₀ endless ≡ true → (m c : ℕ) → (cs : List ℕ) → cs ≡ q₀ ++ take 4 (drop (4 * suc a) s)
      → ruled (sextet cs) (frame_with opening (sextet cs) endless) ≡ Unframed m c → Done u s a i m (suc (suc a))
  unfolding at_second
  long-done two m c cs x e =
      let o = long-second two in
      let q₁ : List ℕ = take 4 (drop (4 * suc a) s) in
      let f = refused-so p₁ o.same o.start o.items cs m c e in
      let z : cs ≡ p₁.header ++ q₁ = x ∙ ap (λ (y : List ℕ). y ++ q₁) (sym o.header) in
      done-by u s a i m (suc a) (headed p₁ cs (framed_by p₁.walk cs)) (second-step o ∙ ap (λ (y : List ℕ). headed p₁ y (framed_by p₁.walk y)) (sym z))
      f.0 f.1 f.2 f.3 o.rows

-- ---- where the stream ends in an item, or cannot be framed

known_of : (q : List ℕ) → all_known q ≡ true → Known (sextet q) 0
unfolding all_known
known_of q e = go (ltb (sextet q 0) 64) refl (ltb (sextet q 1) 64) refl (ltb (sextet q 2) 64) refl (ltb (sextet q 3) 64) refl e
  where
    go : (b0 : Bool) → ltb (sextet q 0) 64 ≡ b0 → (b1 : Bool) → ltb (sextet q 1) 64 ≡ b1 → (b2 : Bool) → ltb (sextet q 2) 64 ≡ b2
        → (b3 : Bool) → ltb (sextet q 3) 64 ≡ b3 → pick b0 (pick b1 (pick b2 b3 false) false) false ≡ true → Known (sextet q) 0
    go true e0 true e1 true e2 true e3 e = (e0, e1, e2, e3)
    go true e0 true e1 true e2 false e3 e = let z : ◌≡◌ {A = ℕ} 0 1 = cc in absurd (omega arith)
    go true e0 true e1 false e2 b3 e3 e = let z : ◌≡◌ {A = ℕ} 0 1 = cc in absurd (omega arith)
    go true e0 false e1 b2 e2 b3 e3 e = let z : ◌≡◌ {A = ℕ} 0 1 = cc in absurd (omega arith)
    go false e0 b1 e1 b2 e2 b3 e3 e = let z : ◌≡◌ {A = ℕ} 0 1 = cc in absurd (omega arith)

-- a header of two units of which one is there
headed-cut : (o : Opening) (at : ℕ → ℕ) → header_units o ≡ 2 → Fr.headed o at 1 ≡ Unframed 4 0
unfolding Fr.headed header_units second
headed-cut Unknown at e = let z : ◌≡◌ {A = ℕ} 0 1 = cc in absurd (omega arith)
headed-cut (Short k n) at e = let z : ◌≡◌ {A = ℕ} 0 1 = cc in absurd (omega arith)
headed-cut (Long k n) at e = refl
headed-cut (LargeVariable t l) at e = refl
headed-cut (LargeGroup l d) at e = refl
headed-cut Version at e = refl

framed-cut : (q : List ℕ) (at : ℕ → ℕ) → is_long false q endless ≡ true → ((i : ℕ) → i < 4 → at i ≡ sextet q i) → ruled at (frame_with opening at 1) ≡ Unframed 4 0
unfolding frame_with ruled
framed-cut q at two same =
    let k : Known (sextet q) 0 = known_of q (long-known false q endless two) in
    let k' : Known at 0 = rw (same 0 (omega arith), same 1 (omega arith), same 2 (omega arith), same 3 (omega arith)) k in
    let hu : header_units (opens false at) ≡ 2 =
    rw (same 0 (omega arith), same 1 (omega arith), same 2 (omega arith), same 3 (omega arith)) (long-says false q endless two).1 in
    rw (known_next at 0 (Fr.headed (opens false at) at 1) k', headed-cut (opens false at) at hu)

units-long : (d : Domain) (R : Reader d) (xs : List ℕ) → 4 * units_in d xs ≤ length (d.sextets xs)
units-long d R xs = omega (arith, R.units xs)

pub units-left : (d : Domain) (R : Reader d) (xs : List ℕ) (a : ℕ) → length (part (d.sextets xs) a (units_in d xs)) / 4 ≡ units_in d xs - a
units-left d R xs a = omega (arith, part_length (d.sextets xs) a (units_in d xs) (units-long d R xs))

module _ (d : Domain) (R : Reader d) (xs : List ℕ) (a i : ℕ) (fresh : Fresh a i (after begin (d.sextets xs) a)) (lt : a < units_in d xs) where
  abbrev S : List ℕ
  S = d.sextets xs

  abbrev N : ℕ
  N = units_in d xs

  -- all units were read, and no item is complete from a on
  pub record Cut (number : ℕ) : Type 0 where
    pub tells : number_at (after begin S N).phase (after begin S N).number ≡ number
    pub start : (after begin S N).start ≡ a
    pub items : (after begin S N).items ≡ i
    pub rows : rows_after d.unit begin S N ≡ rows_after d.unit begin S a

  done-cut : (number : ℕ) → Done d.unit S a i number N → Cut number
  unfolding number_at
  done-cut number o = record { tells = rw o.phase o.tells; start = o.start; items = o.items; rows = o.rows }

  framing-cut : (phase : Phase) (n : ℕ) → phase ≡ P.Framing → number_at phase n ≡ 4
  unfolding number_at
  framing-cut phase n e = rw e

  abbrev X : List ℕ
  X = part S a N

  abbrev Q : List ℕ
  Q = take 4 (drop (4 * a) S)

  units : length X / 4 ≡ N - a
  units = units-left d R xs a

  -- the first units of what is left
  front-taken : (j : ℕ) → j ≤ N - a → take (4 * j) X ≡ part S a (a + j)
  front-taken j l = let z : 4 * j ≡ j * 4 = omega arith in rw z (part-take S a j N (omega arith))

  -- the first unit, and the first two
  q-same : (j : ℕ) → j < 4 → sextet X j ≡ sextet Q j
  q-same j l =
      sym (ap (λ (q : List ℕ). sextet q j) (unit-part S a ∙ sym (part-take S a 1 N (omega arith))) ∙ get_or-take 4 X j 0 l)

  -- framing with all the room that a header may ask for
  abbrev r : Framed
  r = ruled (sextet X) (frame_with opening (sextet X) endless)

  capped : (is_long false Q endless ≡ true → a + 2 ≤ N) → frame_ruled X ≡ cap (N - a) r
  unfolding frame_ruled frame
  capped two = rw units (ruled-capped false Q (sextet X) (N - a) (omega arith) (λ l. omega (arith, two l)) q-same)

  -- one unit of a header of two
  cut-one : is_long false Q endless ≡ true → suc a ≡ N → (num p : ℕ) → frame_ruled X ≡ Unframed num p → Cut num
  unfolding frame_ruled frame
  cut-one two e num p f =
      let o : Second d.unit S a i fresh = long-second d.unit S a i fresh two in
      let one : length X / 4 ≡ 1 = omega (arith, units) in
      let z : Unframed 4 0 ≡ Unframed num p = sym (framed-cut Q (sextet X) two q-same) ∙ rw one at f in
      let y : 4 ≡ num = cc in
      rw (← y) (record {
        tells = framing-cut _ (after begin S N).number (ap (λ (k : ℕ). (after begin S k).phase) (sym e) ∙ o.phase);
        start = ap (λ (k : ℕ). (after begin S k).start) (sym e) ∙ o.start;
        items = ap (λ (k : ℕ). (after begin S k).items) (sym e) ∙ o.items;
        rows = ap (λ (k : ℕ). rows_after d.unit begin S k) (sym e) ∙ o.rows;
      })

  two-taken : a + 2 ≤ N → Q ++ take 4 (drop (4 * suc a) S) ≡ take 8 X
  two-taken l =
      let Y : List ℕ = part S a (a + 2) in
      let z : take 8 X ≡ Y = part-take S a 2 N l in
      let f : take 4 Y ≡ Q = part-take S a 1 (a + 2) (omega arith) ∙ sym (unit-part S a) in
      let e : suc a ≡ a + 1 = omega arith in
      let e2 : a + 1 + 1 ≡ a + 2 = omega arith in
      let g : drop 4 Y ≡ take 4 (drop (4 * suc a) S) =
      part-drop S a 1 (a + 2) ∙ sym (unit-part S (suc a) ∙ rw (e, e2)) in
      rw (z, ← f, ← g) (take-append-drop 4 Y)

  -- a header that is there cannot be framed
  cut-unframed : (is_long false Q endless ≡ true → a + 2 ≤ N) → (m c : ℕ) → r ≡ Unframed m c → Cut m
  cut-unframed there m c e = ⊎_elim two one (whether (is_long false Q endless))
    where
      one : is_long false Q endless ≡ false → Cut m
      one f =
          let z : suc a + (N - suc a) ≡ N = omega arith in
          done-cut m (subst (Done d.unit S a i m) z (done-way d.unit S a i m (N - suc a) (suc a)
          (short-done d.unit S a i fresh f m c (sym (ruled-one false Q endless (sextet X) f q-same) ∙ e))))

      two : is_long false Q endless ≡ true → Cut m
      two f =
          let z : suc (suc a) + (N - suc (suc a)) ≡ N = omega (arith, there f) in
          let g : ruled (sextet (take 8 X)) (frame_with opening (sextet (take 8 X)) endless) ≡ Unframed m c =
          ruled-there opening opening-opens (sextet X) (sextet (take 8 X)) endless (λ j _ l. get_or-take 8 X j 0 l) ∙ e in
          done-cut m (subst (Done d.unit S a i m) z (done-way d.unit S a i m (N - suc (suc a)) (suc (suc a))
          (long-done d.unit S a i fresh f m c (take 8 X) (sym (two-taken (there f))) g)))

  -- a framed item that goes on behind the stream: the stream is filled up to its end
  module _ (k : Kind) (h m : ℕ) (e : r ≡ Item k h m) (there : is_long false Q endless ≡ true → a + 2 ≤ N) (past : N - a < m) where
    abbrev filled : List ℕ
    filled = X ++ replicate (4 * m) 0

    front_long : length X ≡ 4 * (N - a)
    front_long = omega (arith, part_length S a N (units-long d R xs))

    filled-long : length filled ≡ 4 * (N - a) + 4 * m
    filled-long = omega (arith, length-append X (replicate (4 * m) 0), front_long, length-replicate {A = ℕ} (4 * m) 0)

    opened : Opened false (sextet X) (Item k h m) × Lawful (frame_with opening) (sextet X) endless k h m
    opened = framed-opened false true (sextet X) endless k h m e

    head-there : h ≤ N - a
    head-there =
        ⊎_elim (λ (l : h < 2). omega arith)
        (λ (g : 2 ≤ h). omega (
          arith,
          opened.1.few,
          there (long-made false Q endless (omega arith)
              (rw (← q-same 0 (omega arith), ← q-same 1 (omega arith), ← q-same 2 (omega arith), ← q-same 3 (omega arith)) opened.0.0)
              (rw (← q-same 0 (omega arith), ← q-same 1 (omega arith), ← q-same 2 (omega arith), ← q-same 3 (omega arith))
              (opened.0.1 ∙ omega (arith, opened.1.few)))),
        ))
        (lt-or-ge h 2)

    framed-filled : frame_ruled filled ≡ Item k h m
    unfolding frame_ruled frame
    framed-filled =
        let g : Lawful (ruled_with opening) (sextet X) endless k h m =
        subst (Good (ruled_with opening) (sextet X) endless) e (ruled_with-good opening opening-opens (sextet X) endless) in
        g.alike (sextet filled) (length filled / 4)
        (λ j l. get_or-append X (replicate (4 * m) 0) 0 j (omega (arith, front_long, head-there)))
        (omega (arith, filled-long))

    unit-filled : (j : ℕ) → j < N - a → take 4 (drop (4 * j) (drop (4 * a) S)) ≡ take 4 (drop (4 * j) filled)
    unit-filled j l =
        let z : 4 * a + 4 * j ≡ 4 * (a + j) = omega arith in
        let y : 4 * j + 4 ≡ 4 * (j + 1) = omega arith in
        let x : a + j + 1 ≡ a + (j + 1) = omega arith in
        ap (take 4) (drop-drop (4 * j) (4 * a) S ∙ ap (λ (n : ℕ). drop n S) z) ∙ unit-part S (a + j) ∙ ap (part S (a + j)) x
        ∙ sym (part-drop S a j (a + (j + 1)))
        ∙ sym (take-of-drop 4 (4 * j) filled ∙ ap (λ (n : ℕ). drop (4 * j) (take n filled)) y
        ∙ ap (drop (4 * j)) (take-append-le (4 * (j + 1)) X (replicate (4 * m) 0) (omega (arith, front_long)) ∙ front-taken (j + 1) (omega arith)))

    cut-item : Cut 4
    cut-item =
        let c = I.cut_short d.unit (after begin S a) a i fresh filled k h m framed-filled (drop (4 * a) S) (N - a) unit-filled past in
        let z : a + (N - a) ≡ N = omega arith in
        let p : after begin S N ≡ after (after begin S a) (drop (4 * a) S) (N - a) = ap (after begin S) (sym z) ∙ after-add begin S a (N - a) in
        record {
          tells = framing-cut _ (after begin S N).number (ap (λ (r : Progress). r.phase) p ∙ c.phase);
          start = ap (λ (r : Progress). r.start) p ∙ c.start;
          items = ap (λ (r : Progress). r.items) p ∙ c.items;
          rows = ap (rows_after d.unit begin S) (sym z) ∙ rows-add d.unit begin S a (N - a) ∙ rw c.none (append-nil (rows_after d.unit begin S a));
        }

  -- whatever framing refuses
  cut_by_lem : (is_long false Q endless ≡ true → a + 2 ≤ N) → (x : Framed) → r ≡ x → (num p : ℕ) → cap (N - a) x ≡ Unframed num p → Cut num
  unfolding cap
  cut_by_lem there (Unframed m c) e num p f = let z : m ≡ num = cc in rw (← z) (cut-unframed there m c e)
  cut_by_lem there (Item k h m) e num p f = go (ltb (N - a) m) refl f
    where
      go : (b : Bool) → ltb (N - a) m ≡ b → pick b (Unframed 4 0) (Item k h m) ≡ Unframed num p → Cut num
      go true l f = let z : 4 ≡ num = cc in rw (← z) (cut-item k h m e there (ltb-true (N - a) m l))
      go false l f = let z : ◌≡◌ {A = ℕ} 0 1 = cc in absurd (omega arith)

  pub cut_of : (num p : ℕ) → frame_ruled X ≡ Unframed num p → Cut num
  cut_of num p f = ⊎_elim two one (whether (is_long false Q endless))
    where
      all : (is_long false Q endless ≡ true → a + 2 ≤ N) → Cut num
      all there = cut_by_lem there r refl num p (sym (capped there) ∙ f)

      one : is_long false Q endless ≡ false → Cut num
      one g = all (λ e. let z : ◌≡◌ {A = Bool} true false = sym e ∙ g in let y : ◌≡◌ {A = ℕ} 0 1 = cc in absurd (omega arith))

      two : is_long false Q endless ≡ true → Cut num
      two g = ⊎_elim (λ (l : a + 1 < N). all (λ _. omega arith)) (λ (l : N ≤ a + 1). cut-one g (omega arith) num p f) (lt-or-ge (a + 1) N)
