-- A header's sextets as arrays hold them, and the definitions case by case, as the code's answers cite them. Assumes nothing.
use Prim.Native.Nat.{ℕ, ◌+◌, ◌-◌, ◌*◌, ◌≤◌, ◌<◌}
use mathlib.Core.Path.{◌≡◌, refl, sym, ap, ap₂, ◌∙◌, subst}
use mathlib.Core.Bool.{Bool, true, false}
use mathlib.Core.List.{List, [], ◌∷◌, ◌++◌}
use native.Mathlib.Omega.{arith}
use lib.Dec.{ltb, eqb}
use lib.ListN.{length, get_or, length-append, get_or-eq_default}
use mathlib.Core.Logic.{⊎_elim}
use borrow.Rule.Slice.PartMut.{put_mid}
use borrow.Author.Tests.{lt-ltb, le-ltb, eq-eqb, ne_eqb, eqb-false}
use Rattle.base.specs.Cases.{lt-or-ge}
use Rattle.base.specs.Pick.{pick, pick-by}
use Rattle.base.specs.Lists.{list4}
use Rattle.format.specs.declared.Kind.{Kind}
use Rattle.format.specs.declared.Kind.TheVariants.{Fixed, Variable, Group, Genus, Indexed}
use Rattle.format.specs.declared.Framed.{Framed}
use Rattle.format.specs.declared.Framed.TheVariants.{Item, Unframed}
use Rattle.format.specs.declared.Verdict.{Verdict}
use Rattle.format.specs.declared.Verdict.TheVariants.{Accepted, Refused}
use Rattle.format.specs.Alphabet.{stranger_number}
use Rattle.format.specs.Values.{ondex_of}
use Rattle.format.specs.Registry.{is_text, opening_by, header_units, zero_bits_of, prepad_of, index_chars}
use Rattle.format.specs.Framing.{sextet, frame_with, ruled}
use Rattle.format.specs.Texts.{text_right, value_right}
use Rattle.format.specs.Judging.{max_depth, shift, scan, zero_bits, prepad_right, has_lead}
use Rattle.laws.specs.Framing.{Shaped, Lawful}
use Rattle.framing_head.specs.Heads.{head_of}
use Rattle.framing_head.proofs.Laws.{head_at, head-length, part-head}
use Rattle.framing.specs.Next.{next_by}
use Rattle.framing.proofs.Laws.{by-head, by-ruled-head}
use Rattle.judging_fill.specs.Fill.{text_filled}
use Rattle.judging.proofs.Texts.{value_tells}
use Rattle.report_next.specs.Next.{is_entered, is_ruled, holds_indexed}
use Rattle.walk_state.specs.declared.Walk.{Walk}
use Rattle.walk_state.specs.declared.Place.{Place}
use Rattle.walk_state.specs.Walking.{moved_to, next_of}
use Rattle.walk_state.specs.Moving.{step_over}
use Rattle.walk_state.specs.Lent.{walk_at, Moves}
use Rattle.walk_state.proofs.Lent.{slot_at}
use Rattle.walk.specs.Stepping.{Slotted}
use Rattle.walk.proofs.Steps.{leads}
use Rattle.pieces.specs.declared.Progress.{Progress}
use Rattle.pieces.specs.declared.Phase.{Phase}
use Rattle.pieces.specs.declared.Phase.TheVariants as P
use Rattle.pieces.specs.Headers.{is_long, room_of, asks7, framed_by, group_number, head_number, lead_of, opens_text, value_number}
use Rattle.pieces.specs.Steps.{refused, settled, headed, at_first, at_second, valued, passed, step_by, unit_step}
use Rattle.pieces_headers.specs.Headers.{opens, Opened, long-made}
use Rattle.pieces_headers.specs.Wide.{framed-opened}
use Rattle.pieces_fit.specs.Sound.{Placed, header-placed}
use Rattle.pieces_inside.specs.Ends.{scan-refused}
use Rattle.pieces_inside.specs.Inside.{group-open}
use Rattle.pieces_stage.specs.declared.Stage.{Stage}
use Rattle.pieces_stage.specs.Stages.{progress_at, Becomes, far, made_stage, unframed_stage, stored_stage}
use Rattle.pieces_step.specs.Ready.{Ready, Bounded, Near}

-- ---- heads

abbrev zeros8 : List ℕ
zeros8 = 0 ∷ 0 ∷ 0 ∷ 0 ∷ 0 ∷ 0 ∷ 0 ∷ 0 ∷ []

pub one-head : (q : List ℕ) → length q ≡ 4 → q ++ zeros8 ≡ head_of q
unfolding head_of
one-head q e = ap (λ x. x ++ zeros8) (list4 q e) ∙ sym (ap head_of (list4 q e))

pub two-head : (p q : List ℕ) → length p ≡ 4 → length q ≡ 4 → put_mid 4 4 (p ++ zeros8) q ≡ head_of (p ++ q)
unfolding head_of
two-head p q e f =
    ap₂ (λ x y. put_mid 4 4 (x ++ zeros8) y) (list4 p e) (list4 q f) ∙ sym (ap₂ (λ (x y : List ℕ). head_of (x ++ y)) (list4 p e) (list4 q f))

-- ---- the unit behind a header

has_one : (lead : ℕ) → has_lead lead 1 ≡ true
unfolding has_lead
has_one lead = pick-by (λ (b : Bool). b ≡ true) (ltb 0 lead) true true (λ _. refl) (λ _. refl)

module _ (number lead : ℕ) (text : Bool) (q : List ℕ) where
  pub value-kept : (number ≡ 0 → ⊥) → number ≡ value_number number lead text q
  unfolding value_number
  value-kept e = rw (ne_eqb number 0 e)

  module _ (none : number ≡ 0) (cs : List ℕ) (is-head : cs ≡ head_of q) where
    first-bits : (z : ℕ) → zero_bits cs 0 z ≡ zero_bits q 0 z
    unfolding zero_bits
    first-bits z = rw (is-head, head_at q 0 (omega arith), head_at q 1 (omega arith), head_at q 2 (omega arith))

    pub value-eight : (w : ℕ) (b : Bool) → w ≡ lead → b ≡ zero_bits cs 0 (8 * w) → b ≡ false → 8 ≡ value_number number lead text q
    unfolding value_number
    value-eight w b e f g = rw (eq-eqb number 0 none, ← first-bits (8 * lead), ← e, ← f, g)

    module _ (w : ℕ) (b : Bool) (e : w ≡ lead) (f : b ≡ zero_bits cs 0 (8 * w)) (g : b ≡ true) where
      zero_bits_lem : zero_bits q 0 (8 * lead) ≡ true
      zero_bits_lem = sym (first-bits (8 * lead)) ∙ ap (λ (x : ℕ). zero_bits cs 0 (8 * x)) (sym e) ∙ sym f ∙ g

      pub value-plain : text ≡ false → 0 ≡ value_number number lead text q
      unfolding value_number
      value-plain t = rw (eq-eqb number 0 none, zero_bits_lem, t)

      module _ (four : length q ≡ 4) (few : lead ≤ 2) (t : text ≡ true) (r : Bool) (told : r ≡ text_filled 0 lead 1 0 cs) where
        right_is : r ≡ text_right lead q
        unfolding value_right is_text
        right_is = told ∙ ap (text_filled 0 lead 1 0) is-head ∙ value_tells 0 lead 1 0 q (omega arith) few (omega arith) (has_one lead)

        pub value-right : r ≡ true → 0 ≡ value_number number lead text q
        unfolding value_number
        value-right x = rw (eq-eqb number 0 none, zero_bits_lem, t, ← right_is, x)

        pub value-wrong : r ≡ false → 16 ≡ value_number number lead text q
        unfolding value_number
        value-wrong x = rw (eq-eqb number 0 none, zero_bits_lem, t, ← right_is, x)

-- ---- a whole header

pub asks-top : (slots : List ℕ) (p : Place) → p.depth ≡ 0 → true ≡ asks7 (walk_at slots p)
unfolding asks7
asks-top slots p e = rw (eq-eqb p.depth 0 e)

pub asks-inner : (slots : List ℕ) (p : Place) → (p.depth ≡ 0 → ⊥) → p.first ≡ asks7 (walk_at slots p)
unfolding asks7
asks-inner slots p e = rw (ne_eqb p.depth 0 e)

pub framed_is : (w : Walk) (cs hs : List ℕ) (r : Framed) (first : Bool) (room : ℕ) → cs ≡ head_of hs → first ≡ asks7 w → room ≡ room_of w
    → r ≡ next_by w.indexed first (λ i. get_or cs i 0) room → r ≡ framed_by w hs
unfolding framed_by next_by
framed_is w cs hs r first room e f g h =
    rw (← f, ← g) (go first h)
  where
    go : (b : Bool) → r ≡ pick b (ruled (λ i. get_or cs i 0) (frame_with (opening_by w.indexed) (λ i. get_or cs i 0) room))
        (frame_with (opening_by w.indexed) (λ i. get_or cs i 0) room)
        → r ≡ pick b (ruled (sextet hs) (frame_with (opening_by w.indexed) (sextet hs) room)) (frame_with (opening_by w.indexed) (sextet hs) room)
    go true h = by-ruled-head w.indexed hs cs room r e h
    go false h = by-head w.indexed hs cs room r e h

slotted : (k : Kind) (depth h n : ℕ) → group_number k depth h n ≡ 0 → Slotted k depth
unfolding is_entered
slotted (Fixed c) depth h n e i = let z : ◌≡◌ {A = ℕ} 0 1 = cc in absurd (omega arith)
slotted (Variable t l c) depth h n e i = let z : ◌≡◌ {A = ℕ} 0 1 = cc in absurd (omega arith)
slotted Genus depth h n e i = let z : ◌≡◌ {A = ℕ} 0 1 = cc in absurd (omega arith)
slotted (Indexed c) depth h n e i = let z : ◌≡◌ {A = ℕ} 0 1 = cc in absurd (omega arith)
slotted (Group letter) depth h n e i = (group-open letter depth h n e).0

pub slotted-by : (k : Kind) (depth h n number : ℕ) → number ≡ group_number k depth h n → number ≡ 0 → Slotted k depth
slotted-by k depth h n number e z = slotted k depth h n (sym e ∙ z)

module _ (before : List ℕ) (g r : Stage) (cs : List ℕ) (k : Kind) (h n number : ℕ) (is_number : number ≡ group_number k g.walk.depth h n) where
  abbrev moved : Place
  moved = record { depth = g.walk.depth; at = g.walk.at + n; first = false; indexed = g.walk.indexed }

  pub item_refused : (after : List ℕ) → (number ≡ 0 → ⊥) → Becomes before after r (refused (progress_at before g) (walk_at before moved) number (4 * g.walk.at))
      → Becomes before after r (headed (progress_at before g) cs (Item k h n))
  unfolding headed moved_to
  item_refused after some b = record { state = b.state ∙ rw (← is_number, ne_eqb number 0 some); behind = b.behind }

  pub item_on : (mid after : List ℕ) (next : Place) → number ≡ 0 → Moves before mid next (next_of (walk_at before g.walk) k h n)
      → Becomes mid after r (settled (progress_at mid g) (walk_at mid next) (lead_of k) (opens_text k) (head_number k h cs) (4 * g.walk.at))
      → Becomes before after r (headed (progress_at before g) cs (Item k h n))
  unfolding headed settled
  item_on mid after next none m b =
      let next_is = ap (λ (w : Walk). settled (progress_at mid g) w (lead_of k) (opens_text k) (head_number k h cs) (4 * g.walk.at)) m.state in
      record {
        state = b.state ∙ next_is ∙ rw (← is_number, eq-eqb number 0 none);
        behind = b.behind ∙ m.behind;
      }

pub leads-on : (before after : List ℕ) (w next : Place) (k : Kind) (h n : ℕ) (opens mark indexed : Bool) → w.depth ≤ max_depth → Slotted k w.depth
    → opens ≡ is_entered k → mark ≡ is_ruled k → indexed ≡ holds_indexed k
    → Moves before after next (step_over (walk_at before w) (w.at + h) (w.at + n) opens mark indexed)
    → Moves before after next (next_of (walk_at before w) k h n)
leads-on before after w next k h n opens mark indexed few s eo em ei m = leads (walk_at before w) k h n few s eo em ei m

pub headed-none : (slots : List ℕ) (g r : Stage) (cs : List ℕ) (f : Framed) (number i : ℕ) → f ≡ Unframed number i → g.walk.depth ≡ 0
    → r ≡ unframed_stage g number → Becomes slots slots r (headed (progress_at slots g) cs f)
unfolding headed
headed-none slots g r cs f number i e z q = record { state = rw (q, e, eq-eqb g.walk.depth 0 z); behind = refl }

pub headed-inner : (slots after : List ℕ) (g r : Stage) (cs : List ℕ) (f : Framed) (number i : ℕ) → f ≡ Unframed number i → (g.walk.depth ≡ 0 → ⊥)
    → Becomes slots after r (refused (progress_at slots g) (walk_at slots g.walk) number (4 * g.walk.at + i))
    → Becomes slots after r (headed (progress_at slots g) cs f)
unfolding headed
headed-inner slots after g r cs f number i e z b = record { state = b.state ∙ rw (e, ne_eqb g.walk.depth 0 z); behind = b.behind }

pub headed-framed : (slots after : List ℕ) (g r : Stage) (cs : List ℕ) (f : Framed) (k : Kind) (h n : ℕ) → f ≡ Item k h n
    → Becomes slots after r (headed (progress_at slots g) cs (Item k h n)) → Becomes slots after r (headed (progress_at slots g) cs f)
headed-framed slots after g r cs f k h n e b = rw e b

-- ---- a header is judged by its sextets alone

what-opened : (hs : List ℕ) (w : Walk) (k : Kind) (h n : ℕ) → framed_by w hs ≡ Item k h n
    → Opened w.indexed (sextet hs) (Item k h n) × Lawful (frame_with (opening_by w.indexed)) (sextet hs) (room_of w) k h n
unfolding framed_by
what-opened hs w k h n e = framed-opened w.indexed (asks7 w) (sextet hs) (room_of w) k h n e

module _ (hs : List ℕ) (short : length hs ≤ 12) where
  head-all : (i : ℕ) → get_or (head_of hs) i 0 ≡ get_or hs i 0
  head-all i =
      ⊎_elim (λ l. head_at hs i l)
      (λ g. get_or-eq_default (head_of hs) 0 {n = i} (omega (arith, head-length hs)) ∙ sym (get_or-eq_default hs 0 {n = i} (omega arith))) (lt-or-ge i 12)

  bits-all : (i z : ℕ) → zero_bits (head_of hs) i z ≡ zero_bits hs i z
  unfolding zero_bits
  bits-all i z = rw (head-all i, head-all (i + 1), head-all (i + 2))

  prepad-all : (i prepad : ℕ) → prepad_right (head_of hs) i prepad ≡ prepad_right hs i prepad
  unfolding prepad_right
  prepad-all i prepad = rw (head-all i)

  number_same : (k : Kind) (h n : ℕ) → Shaped k h n → 4 * h ≤ length hs → head_number k h (head_of hs) ≡ head_number k h hs
  unfolding head_number ondex_of
  number_same (Fixed c) h n s l = rw (bits-all c.chars (zero_bits_of c), prepad-all c.chars (prepad_of c))
  number_same (Variable t v m) h n s l = refl
  number_same (Group letter) h n s l = refl
  number_same Genus h n s l = refl
  number_same (Indexed c) h n s l =
      rw (bits-all (index_chars c) c.zeros, part-head hs (c.chars + c.index) c.ondex (omega (arith, s.0.chars, s.2)) (omega (arith, s.0.chars, s.2)))

  module _ (w : Walk) where
    headed-same : (p : Progress) (f : Framed) → framed_by w hs ≡ f → ((k : Kind) (h n : ℕ) → f ≡ Item k h n → 4 * h ≤ length hs)
        → headed p (head_of hs) f ≡ headed p hs f
    unfolding headed
    headed-same p (Unframed m i) e room = refl
    headed-same p (Item k h n) e room =
        rw (number_same k h n (what-opened hs w k h n e).1.shape (room k h n refl))

-- one unit, where there is no second
pub one_unit : (w : Walk) (p : Progress) (q : List ℕ) (f : Framed) → length q ≡ 4 → is_long w.indexed q (room_of w) ≡ false → f ≡ framed_by w q
    → headed p (head_of q) f ≡ headed p q f
one_unit w p q f four one e = headed-same q (omega arith) w p f (sym e) room
  where
    room : (k : Kind) (h n : ℕ) → f ≡ Item k h n → 4 * h ≤ length q
    room k h n g =
        let o = what-opened q w k h n (sym e ∙ g) in
        ⊎_elim (λ (l : h < 2). omega arith)
        (λ (l : 2 ≤ h).
        let two : header_units (opens w.indexed (sextet q)) ≡ 2 = o.0.1 ∙ omega (arith, o.1.few) in
        let z : ◌≡◌ {A = Bool} true false = sym (long-made w.indexed q (room_of w) (omega (arith, o.1.inside, o.1.room)) o.0.0 two) ∙ one in
        let y : ◌≡◌ {A = ℕ} 0 1 = cc in absurd (omega arith)) (lt-or-ge h 2)

pub two-units : (w : Walk) (p : Progress) (cs : List ℕ) (f : Framed) → length cs ≡ 8 → f ≡ framed_by w cs → headed p (head_of cs) f ≡ headed p cs f
two-units w p cs f eight e =
    headed-same cs (omega arith) w p f (sym e) (λ k h n g. omega (arith, (what-opened cs w k h n (sym e ∙ g)).1.few))

-- ---- no further

room-far : (slots : List ℕ) (g : Stage) → Ready slots g → Bounded slots g → room_of (walk_at slots g.walk) ≤ far
unfolding room_of
room-far slots g r b =
    pick-by (λ (n : ℕ). n ≤ far) (eqb g.walk.depth 0) _ _ (λ _. omega arith)
    (λ e. rw (slot_at slots (g.walk.depth - 1) (omega (arith, r.few, some e))) (omega (arith, b (g.walk.depth - 1) (omega (arith, some e)))))
  where
    some : eqb g.walk.depth 0 ≡ false → 0 < g.walk.depth
    some e = let z = eqb-false g.walk.depth 0 e in omega arith

pub near_of : (slots : List ℕ) (g : Stage) (hs : List ℕ) (f : Framed) → Ready slots g → Bounded slots g → f ≡ framed_by (walk_at slots g.walk) hs → Near f
near_of slots g hs f r b e = go f e
  where
    go : (f : Framed) → f ≡ framed_by (walk_at slots g.walk) hs → Near f
    go (Unframed m i) e = subst Placed (sym e) (header-placed (walk_at slots g.walk) hs)
    go (Item k h n) e =
        let o = what-opened hs (walk_at slots g.walk) k h n (sym e) in (o.1.inside, omega (arith, o.1.room, room-far slots g r b))

-- ---- a header's first unit, and its second

module _ (slots : List ℕ) (g r : Stage) (q : List ℕ) where
  pub first-stored : (room : ℕ) (b : Bool) → room ≡ room_of (walk_at slots g.walk) → b ≡ is_long g.walk.indexed q room → b ≡ true → r ≡ stored_stage g q
      → Becomes slots slots r (at_first (progress_at slots g) q)
  unfolding at_first
  first-stored room b e f t s = record { state = rw (s, ← e, ← f, t); behind = refl }

  pub first-headed : (after : List ℕ) (room : ℕ) (b : Bool) (cs : List ℕ) (f : Framed) → length q ≡ 4 → room ≡ room_of (walk_at slots g.walk)
      → b ≡ is_long g.walk.indexed q room → b ≡ false → cs ≡ head_of q → f ≡ framed_by (walk_at slots g.walk) q
      → Becomes slots after r (headed (progress_at slots g) cs f) → Becomes slots after r (at_first (progress_at slots g) q)
  unfolding at_first
  first-headed after room b cs f four er el t ec ef k =
      let one : is_long g.walk.indexed q (room_of (walk_at slots g.walk)) ≡ false = ap (is_long g.walk.indexed q) (sym er) ∙ sym el ∙ t in
      record {
        state = k.state ∙ ap (λ (x : List ℕ). headed (progress_at slots g) x f) ec ∙ one_unit (walk_at slots g.walk) (progress_at slots g) q f four one ef
            ∙ rw (one, ← ef);
        behind = k.behind;
      }

  pub second-headed : (after : List ℕ) (cs : List ℕ) (f : Framed) → length q ≡ 4 → length g.header ≡ 4 → cs ≡ head_of (g.header ++ q)
      → f ≡ framed_by (walk_at slots g.walk) (g.header ++ q)
      → Becomes slots after r (headed (progress_at slots g) cs f) → Becomes slots after r (at_second (progress_at slots g) q)
  unfolding at_second
  second-headed after cs f four header ec ef k = record {
    state = k.state ∙ ap (λ (x : List ℕ). headed (progress_at slots g) x f) ec
        ∙ two-units (walk_at slots g.walk) (progress_at slots g) (g.header ++ q) f (omega (arith, length-append g.header q)) ef ∙ rw (← ef);
    behind = k.behind;
  }

-- ---- a unit of a value

module _ (q : List ℕ) (four : length q ≡ 4) where
  scan-four : scan (get_or q 0 0 ∷ get_or q 1 0 ∷ get_or q 2 0 ∷ get_or q 3 0 ∷ []) ≡ scan q
  scan-four = sym (ap scan (list4 q four))

  pub scan-first : 64 ≤ get_or q 0 0 → Refused (stranger_number (get_or q 0 0)) 0 ≡ scan q
  unfolding scan
  scan-first l = sym (sym scan-four ∙ rw (le-ltb (get_or q 0 0) 64 l))

  pub scan-second : get_or q 0 0 < 64 → 64 ≤ get_or q 1 0 → Refused (stranger_number (get_or q 1 0)) 1 ≡ scan q
  unfolding scan shift
  scan-second a l = sym (sym scan-four ∙ rw (lt-ltb (get_or q 0 0) 64 a, le-ltb (get_or q 1 0) 64 l))

  pub scan-third : get_or q 0 0 < 64 → get_or q 1 0 < 64 → 64 ≤ get_or q 2 0 → Refused (stranger_number (get_or q 2 0)) 2 ≡ scan q
  unfolding scan shift
  scan-third a b l = sym (sym scan-four ∙ rw (lt-ltb (get_or q 0 0) 64 a, lt-ltb (get_or q 1 0) 64 b, le-ltb (get_or q 2 0) 64 l))

  pub scan-fourth : get_or q 0 0 < 64 → get_or q 1 0 < 64 → get_or q 2 0 < 64 → 64 ≤ get_or q 3 0 → Refused (stranger_number (get_or q 3 0)) 3 ≡ scan q
  unfolding scan shift
  scan-fourth a b c l =
      sym (sym scan-four ∙ rw (lt-ltb (get_or q 0 0) 64 a, lt-ltb (get_or q 1 0) 64 b, lt-ltb (get_or q 2 0) 64 c, le-ltb (get_or q 3 0) 64 l))

  pub scan-clean : get_or q 0 0 < 64 → get_or q 1 0 < 64 → get_or q 2 0 < 64 → get_or q 3 0 < 64 → Accepted ≡ scan q
  unfolding scan shift
  scan-clean a b c d =
      sym (sym scan-four ∙ rw (lt-ltb (get_or q 0 0) 64 a, lt-ltb (get_or q 1 0) 64 b, lt-ltb (get_or q 2 0) 64 c, lt-ltb (get_or q 3 0) 64 d))

pub scan-place : (q : List ℕ) (v : Verdict) (n i : ℕ) → length q ≡ 4 → v ≡ scan q → v ≡ Refused n i → i < 4
scan-place q v n i four e f = omega (arith, (scan-refused q n i (sym e ∙ f)).1)

module _ (slots after : List ℕ) (g r : Stage) (q : List ℕ) (v : Verdict) (is-scan : v ≡ scan q) where
  pub value-known : (number : ℕ) → v ≡ Accepted → number ≡ value_number g.number g.lead g.text q
      → Becomes slots after r (settled (progress_at slots g) (walk_at slots g.walk) 0 false number g.place)
      → Becomes slots after r (valued (progress_at slots g) q (scan q))
  unfolding valued
  value-known number e n b = record { state = b.state ∙ rw (n, ← is-scan, e); behind = b.behind }

  pub value-strange : (number i : ℕ) → v ≡ Refused number i
      → Becomes slots after r (refused (progress_at slots g) (walk_at slots g.walk) number (4 * g.read + i))
      → Becomes slots after r (valued (progress_at slots g) q (scan q))
  unfolding valued
  value-strange number i e b = record { state = b.state ∙ rw (← is-scan, e); behind = b.behind }

-- ---- the unit, by what it is

module _ (slots after : List ℕ) (g r : Stage) (q : List ℕ) where
  pub step_value : g.read < g.walk.at → g.scans ≡ true → Becomes slots after r (valued (progress_at slots g) q (scan q))
      → Becomes slots after r (step_by P.Framing (progress_at slots g) q)
  unfolding step_by
  step_value l s b = record { state = b.state ∙ rw (lt-ltb g.read g.walk.at l, s); behind = b.behind }

  pub step-second : g.walk.at < g.read → Becomes slots after r (at_second (progress_at slots g) q) → Becomes slots after r (step_by P.Framing (progress_at slots g) q)
  unfolding step_by
  step-second l b = record { state = b.state ∙ rw (le-ltb g.read g.walk.at (omega arith), lt-ltb g.walk.at g.read l); behind = b.behind }

  pub step-first : g.walk.at ≤ g.read → g.read ≤ g.walk.at → Becomes slots after r (at_first (progress_at slots g) q)
      → Becomes slots after r (step_by P.Framing (progress_at slots g) q)
  unfolding step_by
  step-first l m b = record { state = b.state ∙ rw (le-ltb g.read g.walk.at l, le-ltb g.walk.at g.read m); behind = b.behind }

  pub step_by_lem : (f : Phase) → g.phase ≡ f → Becomes slots after r (step_by f (progress_at slots g) q) → Becomes slots after r (unit_step (progress_at slots g) q)
  unfolding unit_step
  step_by_lem f e b = record { state = b.state ∙ rw e; behind = b.behind }

module _ (slots : List ℕ) (g r : Stage) (q : List ℕ) (e : r ≡ made_stage g g.walk false 0 false g.number g.place) where
  pub step-passed : g.read < g.walk.at → g.scans ≡ false → Becomes slots slots r (step_by P.Framing (progress_at slots g) q)
  unfolding step_by
  step-passed l s = record { state = rw (e, lt-ltb g.read g.walk.at l, s); behind = refl }

  pub passed-by : (f : Phase) → g.phase ≡ f → step_by f (progress_at slots g) q ≡ passed (progress_at slots g) → Becomes slots slots r (unit_step (progress_at slots g) q)
  unfolding unit_step
  passed-by f φ s = record { state = rw e (sym (ap (λ (x : Phase). step_by x (progress_at slots g) q) φ ∙ s)); behind = refl }

  pub step-unframed : g.phase ≡ P.Unframed → Becomes slots slots r (unit_step (progress_at slots g) q)
  unfolding step_by
  step-unframed φ = passed-by P.Unframed φ refl

  pub step-ended : g.phase ≡ P.Ended → Becomes slots slots r (unit_step (progress_at slots g) q)
  unfolding step_by
  step-ended φ = passed-by P.Ended φ refl
