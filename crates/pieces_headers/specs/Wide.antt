-- The header's units decide what is framed at a state: as the walk frames it in a stream that ends with the top-level item.
-- Assumes nothing.
use Prim.Native.Nat.{ℕ, zero, suc, ◌+◌, ◌-◌, ◌*◌, ◌/◌, ◌≤◌, ◌<◌}
use Rattle.std.specs.Prelude.{◌≡◌, List, [], ◌∷◌, ◌++◌, Bool, true, false, ltb, eqb, length, get_or, take, drop}
use Rattle.std.proofs.Math.Path.{refl, sym}
use Rattle.std.proofs.Common.{ap, ◌∙◌, subst, ⊎_elim, take-append-drop, get_or-take, ltb-true, ltb-false, eq-eqb, ne_eqb, eqb-true}
use native.Mathlib.Omega.{arith}
use Rattle.base.specs.Pick.{pick, pick-by}
use Rattle.base.specs.Cases.{lt-or-ge}
use Rattle.format.specs.declared.Kind.{Kind}
use Rattle.format.specs.declared.Kind.TheVariants.{Fixed, Variable, Group, Genus, Indexed}
use Rattle.format.specs.declared.Framed.{Framed}
use Rattle.format.specs.declared.Framed.TheVariants.{Item, Unframed}
use Rattle.format.specs.Registry.{opening_by, header_units}
use Rattle.format.specs.Framing.{sextet, frame_next, frame_by, frame_with, is_ours, ruled}
use Rattle.laws.specs.Framing.{Known, Good, Lawful, frame_with-good, opens_by, by-with}
use Rattle.laws.specs.Local.{There, frame-there, ruled-there}
use Rattle.laws.specs.Levels.{part, part_length, part-drop, part-take}
use Rattle.walk_state.specs.declared.Walk.{Walk}
use Rattle.walk_state.specs.Walking.{stop_of}
use Rattle.walk_claims.proofs.Fitting.{stop_at, stop-in, Fits}
use Rattle.walk_claims.proofs.Steps.{asked, framed_here}
use Rattle.walk_claims.proofs.Keeps.{stop-level}
use Rattle.pieces.specs.Headers.{all_known, is_long, endless, room_of, asks7, framed_by}
use Rattle.pieces_headers.specs.Headers.{opens, Opened, frame_opened, NearKind, frame-one, ruled-one, cap, ruled-capped, long-made}

-- ---- is_long, taken apart

long-by : (b c d : Bool) → pick b (pick c d false) false ≡ true → (b ≡ true) × (d ≡ true) × (c ≡ true)
long-by true true d e = (refl, e, refl)
long-by true false d e = let z : ◌≡◌ {A = ℕ} 0 1 = cc in absurd (omega arith)
long-by false c d e = let z : ◌≡◌ {A = ℕ} 0 1 = cc in absurd (omega arith)

pub long-says : (t : Bool) (q : List ℕ) (room : ℕ) → is_long t q room ≡ true → (1 < room) × (header_units (opens t (sextet q)) ≡ 2)
unfolding is_long
long-says t q room e =
    let l = long-by (ltb 1 room) (all_known q) (eqb (header_units (opens t (sextet q))) 2) e in
    (ltb-true 1 room l.0, eqb-true (header_units (opens t (sextet q))) 2 l.1)

pub long-known : (t : Bool) (q : List ℕ) (room : ℕ) → is_long t q room ≡ true → all_known q ≡ true
unfolding is_long
long-known t q room e = (long-by (ltb 1 room) (all_known q) (eqb (header_units (opens t (sextet q))) 2) e).2

-- ---- framing by a header's sextets, by the table t, where b says whether 7 is asked

abbrev pub framed : Bool → Bool → (ℕ → ℕ) → ℕ → Framed
framed t b at len = pick b (ruled at (frame_with (opening_by t) at len)) (frame_with (opening_by t) at len)

framed-one : (t b : Bool) (q : List ℕ) (len : ℕ) (at : ℕ → ℕ) → is_long t q len ≡ false → ((i : ℕ) → i < 4 → at i ≡ sextet q i)
    → framed t b at len ≡ framed t b (sextet q) len
framed-one t true q len at one same = ruled-one t q len at one same
framed-one t false q len at one same = frame-one t q len at one same

framed-two : (t b : Bool) (at at' : ℕ → ℕ) (len : ℕ) → There len at at' → framed t b at' len ≡ framed t b at len
framed-two t true at at' len e = ruled-there (opening_by t) (opens_by t) at at' len e
framed-two t false at at' len e = frame-there (opening_by t) at at' len e

ruled-item : (at : ℕ → ℕ) (r : Framed) (k : Kind) (h n : ℕ) → ruled at r ≡ Item k h n → r ≡ Item k h n
unfolding ruled
ruled-item at (Item (Fixed c) h' n') k h n e = e
ruled-item at (Item (Variable t l c) h' n') k h n e = e
ruled-item at (Item (Group l) h' n') k h n e = e
ruled-item at (Item (Indexed c) h' n') k h n e = e
ruled-item at (Unframed m p) k h n e = e
ruled-item at (Item Genus h' n') k h n e =
    pick-by (λ (r : Framed). r ≡ Item k h n → Item Genus h' n' ≡ Item k h n) (is_ours at) (Item Genus h' n') (Unframed 7 0) (λ _ q. q)
    (λ _ q. let z : ◌≡◌ {A = ℕ} 0 1 = cc in absurd (omega arith)) e

framed-item : (t b : Bool) (at : ℕ → ℕ) (len : ℕ) (k : Kind) (h n : ℕ) → framed t b at len ≡ Item k h n
    → frame_with (opening_by t) at len ≡ Item k h n
framed-item t true at len k h n e = ruled-item at (frame_with (opening_by t) at len) k h n e
framed-item t false at len k h n e = e

-- what is known of an item that is framed
pub framed-opened : (t b : Bool) (at : ℕ → ℕ) (len : ℕ) (k : Kind) (h n : ℕ) → framed t b at len ≡ Item k h n
    → Opened t at (Item k h n) × Lawful (frame_with (opening_by t)) at len k h n
framed-opened t b at len k h n e =
    let f : frame_with (opening_by t) at len ≡ Item k h n = framed-item t b at len k h n e in
    (subst (Opened t at) f (frame_opened t at len), subst (Good (frame_with (opening_by t)) at len) f (frame_with-good (opening_by t) (opens_by t) at len))

cap-item : (len : ℕ) (r : Framed) (k : Kind) (h n : ℕ) → cap len r ≡ Item k h n → (r ≡ Item k h n) × (n ≤ len)
unfolding cap
cap-item len (Unframed m p) k h n e = let z : ◌≡◌ {A = ℕ} 0 1 = cc in absurd (omega arith)
cap-item len (Item k' h' n') k h n e = go (ltb len n') refl e
  where
    go : (b : Bool) → ltb len n' ≡ b → pick b (Unframed 4 0) (Item k' h' n') ≡ Item k h n → (Item k' h' n' ≡ Item k h n) × (n ≤ len)
    go true t e = let z : ◌≡◌ {A = ℕ} 0 1 = cc in absurd (omega arith)
    go false t e = let z : n' ≡ n = cc in (e, omega (arith, ltb-false len n' t))

next-framed : (t b : Bool) (s : List ℕ) → framed t b (sextet s) (length s / 4) ≡ frame_next t b s
unfolding frame_next
next-framed t true s = ap (ruled (sextet s)) (sym (by-with t s))
next-framed t false s = sym (by-with t s)

-- ---- at a state

module _ (t : List ℕ) (E : ℕ) (tail : Bool) (w : Walk) (long : 4 * E ≤ length t) (f : Fits w E) (less : w.at < stop_at E w.depth w.ends) where
  -- the table that is asked
  abbrev tb : Bool
  tb = w.indexed

  -- the sextets to the innermost end
  abbrev pub ahead : List ℕ
  ahead = part t w.at (stop_of w E)

  units : length ahead / 4 ≡ stop_at E w.depth w.ends - w.at
  units =
      omega (arith, part_length t w.at (stop_of w E) (omega (arith, stop-level w E, stop-in w E f.nest)), stop-level w E)

  abbrev pub unit_at : ℕ → List ℕ
  unit_at k = part t k (k + 1)

  first_taken : unit_at w.at ≡ take 4 ahead
  first_taken = sym (part-take t w.at 1 (stop_of w E) (omega (arith, stop-level w E)))

  pub first-same : (i : ℕ) → i < 4 → sextet ahead i ≡ sextet (unit_at w.at) i
  first-same i l = sym (ap (λ (q : List ℕ). sextet q i) first_taken ∙ get_or-take 4 ahead i 0 l)

  two-taken : w.at + 2 ≤ stop_at E w.depth w.ends → unit_at w.at ++ unit_at (w.at + 1) ≡ take 8 ahead
  two-taken l =
      let X : List ℕ = part t w.at (w.at + 2) in
      let z : take 8 ahead ≡ X = part-take t w.at 2 (stop_of w E) (omega (arith, stop-level w E)) in
      let a : take 4 X ≡ unit_at w.at = part-take t w.at 1 (w.at + 2) (omega arith) in
      let e : w.at + 1 + 1 ≡ w.at + 2 = omega arith in
      let b : drop 4 X ≡ unit_at (w.at + 1) = part-drop t w.at 1 (w.at + 2) ∙ ap (λ (k : ℕ). part t (w.at + 1) k) (sym e) in
      rw (z, ← a, ← b) (take-append-drop 4 X)

  pub two-same : w.at + 2 ≤ stop_at E w.depth w.ends → (i : ℕ) → i < 8 → sextet (unit_at w.at ++ unit_at (w.at + 1)) i ≡ sextet ahead i
  two-same l i h = ap (λ (q : List ℕ). sextet q i) (two-taken l) ∙ get_or-take 8 ahead i 0 h

  -- framing of all that is ahead, with the room that the state knows
  abbrev pub wide : Framed
  wide = framed tb (asks7 w) (sextet ahead) (room_of w)

  asks-asked : asks7 w ≡ asked w
  unfolding asks7 asked
  asks-asked = refl

  -- as the walk frames it, where its room is the walk's
  here-wide : room_of w ≡ stop_at E w.depth w.ends - w.at → wide ≡ framed_here t E tail w
  here-wide e = rw (asks-asked, e, ← units) (next-framed tb (asked w) ahead)

  pub room-inner : 0 < w.depth → room_of w ≡ stop_at E w.depth w.ends - w.at
  unfolding room_of stop_at
  room-inner p = go w.depth p
    where
      go : (d : ℕ) → 0 < d → pick (eqb d 0) endless (get_or w.ends (d - 1) 0 - w.at) ≡ stop_at E d w.ends - w.at
      go zero p = absurd (omega arith)
      go (suc d) p = let z : suc d - 1 ≡ d = omega arith in rw (ne_eqb (suc d) 0 (λ e. omega arith), z)

  pub wide-inner : 0 < w.depth → wide ≡ framed_here t E tail w
  wide-inner p = here-wide (room-inner p)

  -- at top level the room is not known, but an item that is framed within E is framed so
  asked-top : w.depth ≡ 0 → asked w ≡ true
  unfolding asked
  asked-top z = rw (eq-eqb w.depth 0 z)

  pub room-top : w.depth ≡ 0 → room_of w ≡ endless
  unfolding room_of
  room-top z = rw (eq-eqb w.depth 0 z)

  pub wide-top : w.depth ≡ 0 → (k : Kind) (h m : ℕ) → framed_here t E tail w ≡ Item k h m → wide ≡ Item k h m
  wide-top z k h m e =
      let len : ℕ = length ahead / 4 in
      let r : ruled (sextet ahead) (frame_with (opening_by tb) (sextet ahead) len) ≡ Item k h m =
      rw (asked-top z) at (next-framed tb (asked w) ahead ∙ e) in
      let o = framed-opened tb true (sextet ahead) len k h m r in
      let big : is_long tb (unit_at w.at) endless ≡ true → 2 ≤ len = λ l.
      let hu : header_units (opens tb (sextet (unit_at w.at))) ≡ 2 = (long-says tb (unit_at w.at) endless l).1 in
      let same : header_units (opens tb (sextet ahead)) ≡ header_units (opens tb (sextet (unit_at w.at))) =
      rw (first-same 0 (omega arith), first-same 1 (omega arith), first-same 2 (omega arith), first-same 3 (omega arith)) in
      omega (arith, o.0.1, o.1.inside, o.1.room) in
      let c : ruled (sextet ahead) (frame_with (opening_by tb) (sextet ahead) len) ≡ cap len (ruled (sextet ahead) (frame_with (opening_by tb) (sextet ahead) endless)) =
      ruled-capped tb (unit_at w.at) (sextet ahead) len (omega (arith, units)) big first-same in
      rw (asks-asked, asked-top z, room-top z) (cap-item len (ruled (sextet ahead) (frame_with (opening_by tb) (sextet ahead) endless)) k h m (sym c ∙ r)).0

  -- the first unit is enough, or the first two
  pub one_unit : is_long tb (unit_at w.at) (room_of w) ≡ false → framed_by w (unit_at w.at) ≡ wide
  unfolding framed_by
  one_unit e = sym (framed-one tb (asks7 w) (unit_at w.at) (room_of w) (sextet ahead) e first-same)

  pub two-units : w.at + 2 ≤ stop_at E w.depth w.ends → framed_by w (unit_at w.at ++ unit_at (w.at + 1)) ≡ wide
  unfolding framed_by
  two-units l =
      framed-two tb (asks7 w) (sextet ahead) (sextet (unit_at w.at ++ unit_at (w.at + 1))) (room_of w) (λ i _ h. two-same l i h)

  -- an item's header is of one unit exactly where is_long fails
  pub short-header : (k : Kind) (h m : ℕ) → wide ≡ Item k h m → is_long tb (unit_at w.at) (room_of w) ≡ false → h ≡ 1
  short-header k h m e one =
      let o = framed-opened tb (asks7 w) (sextet ahead) (room_of w) k h m e in
      ⊎_elim (λ (l : h < 2). omega (arith, o.1.some)) (λ (g : 2 ≤ h).
      let two : h ≡ 2 = omega (arith, o.1.few) in
      let kn : Known (sextet (unit_at w.at)) 0 =
      rw (← first-same 0 (omega arith), ← first-same 1 (omega arith), ← first-same 2 (omega arith), ← first-same 3 (omega arith)) o.0.0 in
      let hu : header_units (opens tb (sextet (unit_at w.at))) ≡ 2 =
      rw (← first-same 0 (omega arith), ← first-same 1 (omega arith), ← first-same 2 (omega arith), ← first-same 3 (omega arith)) (o.0.1 ∙ two) in
      let z : ◌≡◌ {A = Bool} true false = sym (long-made tb (unit_at w.at) (room_of w) (omega (arith, o.1.inside, o.1.room)) kn hu) ∙ one in
      let y : ◌≡◌ {A = ℕ} 0 1 = cc in absurd (omega arith)) (lt-or-ge h 2)

  pub long-header : (k : Kind) (h m : ℕ) → wide ≡ Item k h m → is_long tb (unit_at w.at) (room_of w) ≡ true → h ≡ 2
  long-header k h m e two =
      let o = framed-opened tb (asks7 w) (sextet ahead) (room_of w) k h m e in
      let hu : header_units (opens tb (sextet (unit_at w.at))) ≡ 2 = (long-says tb (unit_at w.at) (room_of w) two).1 in
      let same : header_units (opens tb (sextet ahead)) ≡ header_units (opens tb (sextet (unit_at w.at))) =
      rw (first-same 0 (omega arith), first-same 1 (omega arith), first-same 2 (omega arith), first-same 3 (omega arith)) in
      sym o.0.1 ∙ same ∙ hu
