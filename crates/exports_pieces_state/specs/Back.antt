-- Numbers that a call wrote are read as the state that they were written of, and the start is one number and zeros. Assumes nothing.
use Rattle.std.specs.Prelude.{ℕ, ◌+◌, ◌%◌, ◌<◌, ◌≤◌, ◌≡◌, Bool, true, false, length, get_or, take, drop, replicate, ltb, eqb}
use Rattle.std.proofs.Math.Path.{refl, ap}
use Rattle.std.proofs.Common.{sym, ◌∙◌, arith, length-append, take_at, drop_at, take_all, length-take-le}
use mathlib.Core.List.{List, [], ◌∷◌, ◌++◌}
use Rattle.std.proofs.Math.Nat.{mod-eq_of_lt}
use borrow.Author.Tests.{lt-ltb}
use Rattle.base.specs.Lists.{list4}
use Rattle.base.specs.Pick.{pick}
use Rattle.format.specs.declared.Form.{Form}
use Rattle.format.specs.declared.Form.TheVariants.{Text, Binary}
use Rattle.format.specs.Units.{domain}
use Rattle.format.specs.Judging.{max_depth}
use Rattle.walk_state.specs.declared.Walk.{Walk}
use Rattle.walk_state.specs.Walking as W
use Rattle.pieces.specs.declared.Phase.{Phase}
use Rattle.pieces.specs.declared.Phase.TheVariants as P
use Rattle.pieces.specs.declared.Progress.{Progress}
use Rattle.pieces.specs.declared.Pieces.{Pieces}
use Rattle.pieces.specs.Feeding.{begin, start}
use Rattle.exports_values.specs.Lent.{state_size, place_numbers, walk_of, state_of}
use Rattle.exports_claims.proofs.Proved as E
use Rattle.exports_pieces_state.specs.Numbers.{four, four_bytes, all_under, is_narrow, phase_of, phase_in, progress_in, pieces_with, pieces_in, phase_number, rest_of, rest_size, numbers_of}

-- four numbers of 8 bits
pub record Bytes (l : List ℕ) : Type 0 where
  pub long : length l ≡ 4
  pub a : get_or l 0 0 < 256
  pub b : get_or l 1 0 < 256
  pub c : get_or l 2 0 < 256
  pub d : get_or l 3 0 < 256

-- as the types of a state say
pub record Typed (p : Progress) (held : List ℕ) : Type 0 where
  pub header : Bytes p.header
  pub kept : Bytes held
  pub lead : p.lead < 256
  pub number : p.number < 256

bytes_back : (l : List ℕ) → Bytes l → get_or l 0 0 % 256 ∷ get_or l 1 0 % 256 ∷ get_or l 2 0 % 256 ∷ get_or l 3 0 % 256 ∷ [] ≡ l
bytes_back l h = rw (mod-eq_of_lt h.a, mod-eq_of_lt h.b, mod-eq_of_lt h.c, mod-eq_of_lt h.d) (sym (list4 l h.long))

bytes-under : (l : List ℕ) → Bytes l → all_under 256 (get_or l 0 0 ∷ get_or l 1 0 ∷ get_or l 2 0 ∷ get_or l 3 0 ∷ []) ≡ true
unfolding all_under
bytes-under l h = rw (lt-ltb _ _ h.a, lt-ltb _ _ h.b, lt-ltb _ _ h.c, lt-ltb _ _ h.d)

mark-back : (b : Bool) → eqb (pick b 1 0) 1 ≡ b
mark-back true = refl
mark-back false = refl

mark-few : (b : Bool) → pick b 1 0 < 2
mark-few true = omega arith
mark-few false = omega arith

phase-back : (f : Phase) → phase_of (phase_number f) ≡ f
unfolding phase_number
phase-back P.Framing = refl
phase-back P.Unframed = refl
phase-back P.Ended = refl

module _ (p : Progress) (held : List ℕ) (count : ℕ) (t : Typed p held) where
  middle-under : all_under 256 (pick p.scans 1 0 ∷ p.lead ∷ pick p.text 1 0 ∷ p.number ∷ []) ≡ true
  unfolding all_under
  middle-under =
      rw (
        lt-ltb (pick p.scans 1 0) 256 (omega (arith, mark-few p.scans)),
        lt-ltb p.lead 256 t.lead,
        lt-ltb (pick p.text 1 0) 256 (omega (arith, mark-few p.text)),
        lt-ltb p.number 256 t.number,
      )

  narrow : is_narrow (rest_of p held count) ≡ true
  unfolding is_narrow rest_of
  narrow =
      rw (
        bytes-under p.header t.header,
        middle-under,
        bytes-under held t.kept,
        lt-ltb (pick p.scans 1 0) 2 (mark-few p.scans),
        lt-ltb (pick p.text 1 0) 2 (mark-few p.text),
      )

  rest-phase : phase_of (get_or (rest_of p held count) 12 0) ≡ phase_of (phase_number p.phase)
  unfolding rest_of
  rest-phase = refl

  phase-kept : phase_in (rest_of p held count) ≡ p.phase
  unfolding phase_in
  phase-kept = rw narrow (rest-phase ∙ phase-back p.phase)

  -- the record, field by field
  abbrev read_as : List ℕ → Bool → ℕ → Bool → ℕ → Phase → Progress
  read_as header scans lead text number phase = record {
    walk = p.walk;
    read = p.read;
    header = header;
    scans = scans;
    lead = lead;
    text = text;
    number = number;
    place = p.place;
    start = p.start;
    items = p.items;
    phase = phase;
  }

  progress-back : progress_in p.walk (rest_of p held count) ≡ p
  unfolding progress_in rest_of
  progress-back =
      ap (λ (f : Phase). read_as (four_bytes (rest_of p held count) 1) (eqb (pick p.scans 1 0) 1) (p.lead % 256) (eqb (pick p.text 1 0) 1) (p.number % 256) f) phase-kept
      ∙ ap (λ (h : List ℕ). read_as h (eqb (pick p.scans 1 0) 1) (p.lead % 256) (eqb (pick p.text 1 0) 1) (p.number % 256) p.phase) (bytes_back p.header t.header)
      ∙ rw (mark-back p.scans, mark-back p.text, mod-eq_of_lt t.lead, mod-eq_of_lt t.number)

  held_back : four_bytes (rest_of p held count) 13 ≡ held
  unfolding rest_of
  held_back = bytes_back held t.kept

pub state-long : (w : Walk) → length w.ends ≡ max_depth → length (state_of w) ≡ state_size
unfolding state_of
state-long w l =
    omega (arith, length-append (take max_depth w.ends) (place_numbers w.depth w.at w.first w.indexed), length-take-le max_depth w.ends (omega arith))

rest-whole : (p : Progress) (held : List ℕ) (count : ℕ) → take rest_size (rest_of p held count) ≡ rest_of p held count
unfolding rest_of
rest-whole p held count = refl

with-back : (st : Pieces) → Typed st.progress st.held
    → pieces_with st.unit st.progress.walk (rest_of st.progress st.held st.count) ≡ st
unfolding pieces_with rest_of
with-back st t =
    ap (λ (q : Progress). record { unit = st.unit; progress = q; held = four_bytes (rest_of st.progress st.held st.count) 13; count = st.count })
    (progress-back st.progress st.held st.count t)
    ∙ ap (λ (h : List ℕ). record { unit = st.unit; progress = st.progress; held = h; count = st.count })
    (held_back st.progress st.held st.count t)

-- a state that was written is read back as it was
pub back : (st : Pieces) → length st.progress.walk.ends ≡ max_depth → Typed st.progress st.held → pieces_in (numbers_of st) ≡ st
unfolding pieces_in numbers_of
back st l t =
    let p : Progress = st.progress in
    let r : List ℕ = rest_of p st.held st.count in
    rw (
      take_at (state_of p.walk) r state_size (state-long p.walk l),
      drop_at (state_of p.walk) r state_size (state-long p.walk l),
      (E.proved).lent.back p.walk l,
      rest-whole p st.held st.count,
    )
    (with-back st t)

-- a C caller's start: the elements to a unit, and zeros
pub begins : (form : Form) → pieces_in ((domain form).unit ∷ replicate (state_size + rest_size) 0) ≡ start (domain form)
unfolding pieces_in pieces_with progress_in phase_in is_narrow all_under start begin W.start
begins Text = rw (E.proved).lent.zeros
begins Binary = rw (E.proved).lent.zeros
