-- A state that meets the conditions meets them after each unit more, whoever made it. Assumes nothing.
use Prim.Native.Nat.{ℕ, zero, suc, ◌+◌, ◌-◌, ◌*◌, ◌/◌, ◌≤◌, ◌<◌}
use Rattle.std.proofs.Math.Path.{◌≡◌, refl, sym}
use Rattle.std.proofs.Common.{ap, ◌∙◌, length-take, ltb-true, ltb-false, eq-eqb, ne_eqb, eqb-true}
use Rattle.std.specs.Prelude.{List, [], ◌∷◌, ◌++◌, Bool, ltb, length, take, drop}
use Rattle.std.proofs.Math.Bool.{true, false}
use Rattle.std.proofs.Math.Logic.{⊎_elim}
use native.Mathlib.Omega.{arith}
use Rattle.std.proofs.Math.Dec.{eqb}
use Rattle.std.proofs.Math.ListN.{get_or}
use Rattle.base.specs.Pick.{pick, pick-by}
use Rattle.base.specs.Cases.{lt-or-ge}
use Rattle.format.specs.declared.Kind.{Kind}
use Rattle.format.specs.declared.Kind.TheVariants.{Fixed, Variable, Group, Genus, Indexed}
use Rattle.format.specs.declared.Framed.{Framed}
use Rattle.format.specs.declared.Framed.TheVariants.{Item, Unframed}
use Rattle.format.specs.declared.Opening.{Opening}
use Rattle.format.specs.declared.Opening.TheVariants.{Unknown, Short, Long, LargeVariable, LargeGroup, Version}
use Rattle.format.specs.declared.Verdict.{Verdict}
use Rattle.format.specs.declared.Verdict.TheVariants.{Accepted, Refused}
use Rattle.format.specs.Registry.{opening_by, is_indexed, is_overrideable}
use Rattle.format.specs.Framing.{sextet, fit, known, second, frame_with, is_ours, ruled}
use Rattle.format.specs.Framing as Fr
use Rattle.format.specs.Judging.{scan, max_depth}
use Rattle.walk_state.specs.declared.Walk.{Walk}
use Rattle.walk_state.specs.Walking.{moved_to, next_of}
use Rattle.walk_claims.proofs.Fitting.{stop_at, stop-outer, stop-in, Fits}
use Rattle.walk_claims.proofs.Steps.{next-by}
use Rattle.walk_claims.proofs.Keeps.{over-fits, into-fits}
use Rattle.pieces.specs.declared.Phase.{Phase}
use Rattle.pieces.specs.declared.Phase.TheVariants as P
use Rattle.pieces.specs.declared.Progress.{Progress}
use Rattle.pieces.specs.Headers.{is_long, endless, room_of, asks7, framed_by, group_number, head_number, lead_of, opens_text, value_number}
use Rattle.pieces.specs.Steps.{clear, end_of, made, passed, refused, settled, headed, stored, at_first, at_second, valued, step_by, unit_step, is_whole_by, is_whole, told}
use Rattle.pieces.specs.Feeding.{after, begin}
use Rattle.pieces_headers.specs.Wide.{framed-opened}
use Rattle.pieces_inside.specs.Ends.{clear-fits, scan-refused}
use Rattle.pieces_inside.specs.Inside.{group-open, lead-few}
use Rattle.pieces_whole.specs.Run.{after_read}

-- ---- places

abbrev pub Placed : Framed → Type 0
Placed (Item k h n) = Unit {0}
Placed (Unframed m i) = i ≤ 7

known-placed : (at : ℕ → ℕ) (i : ℕ) (r : Framed) → i ≤ 4 → Placed r → Placed (known at i r)
unfolding known
known-placed at i r l p =
    pick-by Placed (ltb (at i) 64) _ _
    (λ _. pick-by Placed (ltb (at (i + 1)) 64) _ _
    (λ _. pick-by Placed (ltb (at (i + 2)) 64) _ _
    (λ _. pick-by Placed (ltb (at (i + 3)) 64) _ _ (λ _. p) (λ _. omega arith))
    (λ _. omega arith))
    (λ _. omega arith))
    (λ _. omega arith)

fit-placed : (k : Kind) (h n len : ℕ) → Placed (fit k h n len)
unfolding fit
fit-placed k h n len = pick-by Placed (ltb len n) (Unframed 4 0) (Item k h n) (λ _. omega arith) (λ _. tt)

second-placed : (at : ℕ → ℕ) (len : ℕ) (r : Framed) → Placed r → Placed (second at len r)
unfolding second
second-placed at len r p = pick-by Placed (ltb len 2) _ _ (λ _. omega arith) (λ _. known-placed at 4 r (omega arith) p)

headed-placed : (o : Opening) (at : ℕ → ℕ) (len : ℕ) → Placed (Fr.headed o at len)
unfolding Fr.headed
headed-placed Unknown at len = omega arith
headed-placed (Short k n) at len = fit-placed k 1 n len
headed-placed (Long k n) at len = second-placed at len _ (fit-placed k 2 _ len)
headed-placed (LargeVariable t l) at len = second-placed at len _ (fit-placed _ 2 _ len)
headed-placed (LargeGroup l d) at len = second-placed at len _ (fit-placed _ 2 _ len)
headed-placed Version at len = second-placed at len _ (fit-placed _ 2 _ len)

frame-placed : (t : Bool) (at : ℕ → ℕ) (len : ℕ) → Placed (frame_with (opening_by t) at len)
unfolding frame_with
frame-placed t at len =
    pick-by Placed (ltb len 1) _ _ (λ _. omega arith) (λ _. known-placed at 0 _ (omega arith) (headed-placed _ at len))

ruled-placed : (at : ℕ → ℕ) (r : Framed) → Placed r → Placed (ruled at r)
unfolding ruled
ruled-placed at (Unframed m i) p = p
ruled-placed at (Item (Fixed c) h n) p = tt
ruled-placed at (Item (Variable t l m) h n) p = tt
ruled-placed at (Item (Group l) h n) p = tt
ruled-placed at (Item (Indexed c) h n) p = tt
ruled-placed at (Item Genus h n) p = pick-by Placed (is_ours at) (Item Genus h n) (Unframed 7 0) (λ _. tt) (λ _. omega arith)

pub header-placed : (w : Walk) (cs : List ℕ) → Placed (framed_by w cs)
unfolding framed_by
header-placed w cs =
    let r : Placed (frame_with (opening_by w.indexed) (sextet cs) (room_of w)) = frame-placed w.indexed (sextet cs) (room_of w) in
    pick-by Placed (asks7 w) _ _ (λ _. ruled-placed (sextet cs) _ r) (λ _. r)

-- ---- the conditions, up to a number of units

abbrev pub bound : ℕ → ℕ
bound most = most + endless

pub record Sound (most : ℕ) (p : Progress) : Type 0 where
  pub fits : Fits p.walk (bound most)
  pub few : p.read ≤ most
  pub begun : p.start ≤ p.read
  pub items : p.items ≤ p.start
  pub place : p.place ≤ 4 * p.read + 3
  pub lead : p.lead ≤ 2

module _ (most : ℕ) (p : Progress) (o : Sound most p) (less : p.read < most) where
  abbrev B : ℕ
  B = bound most

  made-sound : (w : Walk) (scans : Bool) (lead : ℕ) (text : Bool) (n i : ℕ) → Fits w B → lead ≤ 2 → i ≤ 4 * p.read + 7
      → Sound most (made p w scans lead text n i)
  made-sound w scans lead text n i f l g = record {
    fits = f;
    few = omega arith;
    begun = omega (arith, o.begun);
    items = o.items;
    place = omega arith;
    lead = l;
  }

  end-in : (w : Walk) → Fits w B → end_of w ≤ B
  unfolding end_of
  end-in w f =
      pick-by (λ (x : ℕ). x ≤ B) (eqb w.depth 0) w.at (get_or w.ends 0 0) (λ _. omega (arith, f.nest.reached, stop-in w B f.nest))
      (λ e. omega (arith, f.nest.within 0 (some-open e), stop-outer B w.ends))
    where
      some-open : eqb w.depth 0 ≡ false → 0 < w.depth
      some-open e = ⊎_elim (λ l. l) (λ g. let z : ◌≡◌ {A = Bool} true false = sym (eq-eqb w.depth 0 (omega arith)) ∙ e in
          let y : ◌≡◌ {A = ℕ} 0 1 = cc in absurd (omega arith)) (lt-or-ge 0 w.depth)

  refused-sound : (w : Walk) (n i : ℕ) → end_of w ≤ B → i ≤ 4 * p.read + 7 → Sound most (refused p w n i)
  refused-sound w n i e l = made-sound (clear (end_of w)) false 0 false n i (clear-fits B (end_of w) e) (omega arith) l

  settled-sound : (w : Walk) (lead : ℕ) (text : Bool) (n i : ℕ) → Fits w B → lead ≤ 2 → i ≤ 4 * p.read + 7
      → Sound most (settled p w lead text n i)
  unfolding settled
  settled-sound w lead text n i f l g =
      pick-by (Sound most) (ltb (p.read + 1) w.at) _ _ (λ _. made-sound w true lead text n i f l g)
      (λ _. pick-by (Sound most) (eqb n 0) _ _ (λ _. made-sound w false 0 false 0 0 f (omega arith) (omega arith)) (λ _. refused-sound w n i (end-in w f) g))

  -- an item within the room that the state knows
  module _ (near : p.walk.at ≤ p.read) (k : Kind) (h m : ℕ) (cs : List ℕ) (e : framed_by p.walk cs ≡ Item k h m) where
    abbrev w : Walk
    w = p.walk

    lawful : (h ≤ m) × (m ≤ room_of w) × (lead_of k ≤ 2)
    unfolding framed_by
    lawful =
        let g = framed-opened w.indexed (asks7 w) (sextet cs) (room_of w) k h m e in
        (g.1.inside, g.1.room, lead-few k h m g.1.shape)

    inside : w.at + m ≤ stop_at B w.depth w.ends
    unfolding room_of stop_at
    inside = go w.depth refl lawful.1
      where
        go : (d : ℕ) → w.depth ≡ d → m ≤ pick (eqb d 0) endless (get_or w.ends (d - 1) 0 - w.at) → w.at + m ≤ stop_at B d w.ends
        go zero z l = omega arith
        go (suc d) z l =
            let y : suc d - 1 ≡ d = omega arith in
            let x : m ≤ get_or w.ends d 0 - w.at = rw (ne_eqb (suc d) 0 (λ q. omega arith), y) at l in
            let a : w.at < get_or w.ends d 0 = rw z at (o.fits.ahead (omega arith)) in
            omega arith

    next_fits : group_number k w.depth h m ≡ 0 → Fits (next_of w k h m) B
    next_fits none =
        next-by w h m (λ v. Fits v B) k (over-fits B w o.fits h m lawful.0 inside)
        (λ letter q. into-fits B w o.fits h m lawful.0 inside (is_overrideable letter) (is_indexed letter)
        (group-open letter w.depth h m (ap (λ (x : Kind). group_number x w.depth h m) (sym q) ∙ none)).0)

    moved_in : end_of (moved_to w (w.at + m)) ≤ B
    unfolding end_of moved_to
    moved_in =
        pick-by (λ (x : ℕ). x ≤ B) (eqb w.depth 0) (w.at + m) (get_or w.ends 0 0)
        (λ _. omega (arith, inside, stop-in w B o.fits.nest))
        (λ z. omega (arith, end-in w o.fits, outermost z))
      where
        outermost : eqb w.depth 0 ≡ false → end_of w ≡ get_or w.ends 0 0
        outermost z = rw z

    item-sound : Sound most (headed p cs (Item k h m))
    unfolding headed
    item-sound =
        pick-by (Sound most) (eqb (group_number k w.depth h m) 0) _ _
        (λ c. settled-sound (next_of w k h m) (lead_of k) (opens_text k) (head_number k h cs) (4 * w.at)
        (next_fits (eqb-true (group_number k w.depth h m) 0 c)) lawful.2 (omega arith))
        (λ _. refused-sound (moved_to w (w.at + m)) (group_number k w.depth h m) (4 * w.at) moved_in (omega arith))

  headed-sound : p.walk.at ≤ p.read → (cs : List ℕ) (r : Framed) → framed_by p.walk cs ≡ r → Placed r → Sound most (headed p cs r)
  unfolding headed
  headed-sound near cs (Unframed n i) e l =
      pick-by (Sound most) (eqb p.walk.depth 0) _ _
      (λ _. record {
        fits = o.fits;
        few = omega arith;
        begun = omega (arith, o.begun);
        items = o.items;
        place = omega arith;
        lead = omega arith;
      })
      (λ _. refused-sound p.walk n (4 * p.walk.at + i) (end-in p.walk o.fits) (omega arith))
  headed-sound near cs (Item k h m) e l = item-sound near k h m cs e

  header-sound : p.walk.at ≤ p.read → (cs : List ℕ) → Sound most (headed p cs (framed_by p.walk cs))
  header-sound near cs = headed-sound near cs (framed_by p.walk cs) refl (header-placed p.walk cs)

  first-sound : p.walk.at ≤ p.read → (q : List ℕ) → Sound most (at_first p q)
  unfolding at_first
  first-sound near q =
      pick-by (Sound most) (is_long p.walk.indexed q (room_of p.walk)) _ _
      (λ _. record {
        fits = o.fits;
        few = omega arith;
        begun = omega (arith, o.begun);
        items = o.items;
        place = omega arith;
        lead = omega arith;
      })
      (λ _. header-sound near q)

  valued-sound : (q : List ℕ) → length q ≤ 4 → (v : Verdict) → scan q ≡ v → Sound most (valued p q v)
  unfolding valued
  valued-sound q l Accepted e = settled-sound p.walk 0 false (value_number p.number p.lead p.text q) p.place o.fits (omega arith) (omega (arith, o.place))
  valued-sound q l (Refused n i) e =
      refused-sound p.walk n (4 * p.read + i) (end-in p.walk o.fits) (omega (arith, (scan-refused q n i e).1))

  passed-sound : Sound most (passed p)
  passed-sound = made-sound p.walk false 0 false p.number p.place o.fits (omega arith) (omega (arith, o.place))

  by-sound : (q : List ℕ) → length q ≤ 4 → (f : Phase) → Sound most (step_by f p q)
  unfolding step_by at_second
  by-sound q l P.Framing =
      pick-by (Sound most) (ltb p.read p.walk.at) _ _
      (λ _. pick-by (Sound most) p.scans _ _ (λ _. valued-sound q l (scan q) refl) (λ _. passed-sound))
      (λ e. pick-by (Sound most) (ltb p.walk.at p.read) _ _
      (λ _. header-sound (ltb-false p.read p.walk.at e) (p.header ++ q)) (λ _. first-sound (ltb-false p.read p.walk.at e) q))
  by-sound q l P.Unframed = passed-sound
  by-sound q l P.Ended = passed-sound

  pub step-sound : (q : List ℕ) → length q ≤ 4 → Sound most (unit_step p q)
  unfolding unit_step
  step-sound q l = by-sound q l p.phase

-- a whole item has units
pub whole-some : (f : Phase) (p : Progress) → is_whole_by f p ≡ true → p.start < p.read
unfolding is_whole_by
whole-some P.Framing p e = ltb-true p.start p.read (go (eqb p.walk.depth 0) (eqb p.read p.walk.at) e)
  where
    go : (b c : Bool) → pick b (pick c (ltb p.start p.read) false) false ≡ true → ltb p.start p.read ≡ true
    go true true e = e
    go true false e = let z : ◌≡◌ {A = ℕ} 0 1 = cc in absurd (omega arith)
    go false c e = let z : ◌≡◌ {A = ℕ} 0 1 = cc in absurd (omega arith)
whole-some P.Unframed p e = let z : ◌≡◌ {A = ℕ} 0 1 = cc in absurd (omega arith)
whole-some P.Ended p e = let z : ◌≡◌ {A = ℕ} 0 1 = cc in absurd (omega arith)

pub told-sound : (most : ℕ) (p : Progress) → Sound most p → Sound most (told p)
unfolding told is_whole
told-sound most p o =
    pick-by (Sound most) (is_whole_by p.phase p) _ _
    (λ e. record {
      fits = o.fits;
      few = o.few;
      begun = omega arith;
      items = omega (arith, o.items, whole-some p.phase p e);
      place = omega arith;
      lead = omega arith;
    })
    (λ _. o)

pub after-sound : (most : ℕ) (p : Progress) → Sound most p → (s : List ℕ) (k : ℕ) → p.read + k ≤ most → Sound most (after p s k)
unfolding after
after-sound most p o s zero l = o
after-sound most p o s (suc k) l =
    told-sound most _ (step-sound most (after p s k) (after-sound most p o s k (omega arith)) (omega (arith, after_read p s k))
    (take 4 (drop (4 * k) s)) (omega (arith, length-take 4 (drop (4 * k) s))))

pub begin-sound : (most : ℕ) → Sound most begin
unfolding begin
begin-sound most = record {
  fits = clear-fits (bound most) 0 (omega arith);
  few = omega arith;
  begun = omega arith;
  items = omega arith;
  place = omega arith;
  lead = omega arith;
}
