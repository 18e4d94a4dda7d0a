-- The answers to the end, in the order of its refusals. Assumes nothing.
use Prim.Native.Nat.{ℕ, ◌+◌, ◌*◌, ◌≤◌, ◌<◌}
use mathlib.Core.Path.{◌≡◌, refl, sym, ap, ◌∙◌}
use mathlib.Core.Bool.{Bool, true, false}
use mathlib.Core.List.{List, [], ◌∷◌, ◌++◌, append-nil}
use mathlib.Core.Logic.{⊎_elim}
use native.Mathlib.Omega.{arith}
use lib.Dec.{ltb}
use lib.ListN.{length, drop, length-append}
use lib.Seq.{sets, sets-eq}
use borrow.Author.Tests.{lt-ltb, le-ltb}
use Rattle.base.specs.Pick.{pick}
use Rattle.base.specs.Cases.{lt-or-ge}
use Rattle.format.specs.declared.Form.{Form}
use Rattle.format.specs.declared.Form.TheVariants.{Text, Binary}
use Rattle.format.specs.Units.{Domain, domain}
use Rattle.format.specs.Judging.{max_depth}
use Rattle.format.specs.Report.{be4, RemainderRow, remainder_bytes, concat}
use Rattle.laws.specs.Domains.{reader}
use Rattle.filling.specs.Stores.{be4-long}
use Rattle.report_rows.specs.Stores.{put, put-fits}
use Rattle.pieces.specs.declared.Pieces.{Pieces}
use Rattle.pieces.specs.declared.Closed.{Closed}
use Rattle.pieces.specs.Feeding.{taken, number_at, remainder_out}
use Rattle.pieces.specs.Calls.{most_units, is_fit, ended, end_answer, end_state, finish, remainder_left}
use Rattle.pieces_fit.specs.Fit.{Facts, facts}
use Rattle.pieces_end.specs.Ends.{kept, told}

most-few : (f : Form) → most_units (domain f) ≤ 1048576
unfolding most_units
most-few Text = omega arith
most-few Binary = omega arith

-- ---- whether there is a remainder

pub left-units : (form : Form) (start read count : ℕ) → start < read
    → true ≡ ltb (start * (domain form).unit) (read * (domain form).unit + count)
left-units Text start read count l = sym (lt-ltb (start * 4) (read * 4 + count) (omega arith))
left-units Binary start read count l = sym (lt-ltb (start * 3) (read * 3 + count) (omega arith))

pub left-part : (form : Form) (start read count : ℕ) → start ≤ read → read ≤ start
    → ltb 0 count ≡ ltb (start * (domain form).unit) (read * (domain form).unit + count)
left-part form start read count a b =
    let e : start ≡ read = omega arith in
    let u : ℕ = (domain form).unit in
    ⊎_elim (λ (l : 0 < count). lt-ltb 0 count l ∙ sym (lt-ltb (start * u) (read * u + count) (rw e (omega arith))))
    (λ (l : count ≤ 0). le-ltb 0 count l ∙ sym (le-ltb (start * u) (read * u + count) (rw e (omega arith)))) (lt-or-ge 0 count)

module _ (form : Form) (st : Pieces) where
  abbrev d : Domain
  d = domain form

  abbrev start : ℕ
  start = st.progress.start

  abbrev read : ℕ
  read = st.progress.read

  -- ---- the conditions of 13, as far as they are needed
  module _ (full : length st.progress.walk.ends ≡ max_depth) (fit : is_fit d st ≡ true) where
    fine : Facts d st
    fine = facts d (reader form) st full fit

    pub begun : start ≤ read
    begun = fine.sound.begun

    pub start-few : start ≤ 1048576
    start-few = omega (arith, begun, fine.sound.few, most-few form)

-- ---- the answers

module _ (d : Domain) (st : Pieces) (out : List ℕ) where
  -- what the call gives: answer and state, and the buffer
  abbrev Gives : List ℕ → Closed → Type 0
  Gives out' r = (r ≡ finish d st (length out)) × (out' ≡ remainder_left r.closing d st out)

  pub end-unfit : is_fit d st ≡ false → (r : Closed) → r ≡ kept st 13 → Gives out r
  unfolding finish end_answer end_state remainder_left
  end-unfit e r f = (f ∙ rw e, rw f)

  module _ (fit : is_fit d st ≡ true) where
    pub end_whole : ltb (st.progress.start * d.unit) (taken d st) ≡ false → (r : Closed) → r ≡ told st 0 → Gives out r
    unfolding finish end_answer end_state ended remainder_left remainder_out concat
    end_whole e r f = (f ∙ rw (fit, e, le-ltb (length out) 0 (omega arith)), rw (f, e))

    module _ (some : ltb (st.progress.start * d.unit) (taken d st) ≡ true) where
      abbrev bytes : List ℕ
      bytes = be4 (st.progress.start * d.unit) ++ (number_at st.progress.phase st.progress.number ∷ [])

      pub end-little : length out < 5 → (r : Closed) → r ≡ kept st 3 → Gives out r
      unfolding finish end_answer end_state remainder_left remainder_out
      end-little l r f = (f ∙ rw (fit, some, lt-ltb (length out) 5 l), rw f)

      row_is : concat remainder_bytes (remainder_out d st) ≡ bytes
      unfolding remainder_out concat remainder_bytes
      row_is = rw some (append-nil bytes)

      bytes-long : length bytes ≡ 5
      bytes-long = omega (arith, length-append (be4 (st.progress.start * d.unit)) (number_at st.progress.phase st.progress.number ∷ []), be4-long (st.progress.start * d.unit))

      stored : 5 ≤ length out → put out 0 bytes ≡ bytes ++ drop 5 out
      stored l =
          let z : 0 + length bytes ≡ 5 = omega (arith, bytes-long) in
          put-fits out 0 bytes (omega arith) ∙ sets-eq bytes out 0 (omega arith) ∙ ap (λ (k : ℕ). bytes ++ drop k out) z

      answer-told : 5 ≤ length out → told st 5 ≡ finish d st (length out)
      unfolding finish end_answer end_state ended remainder_out
      answer-told l = rw (fit, some, le-ltb (length out) 5 l)

      pub end-told : 5 ≤ length out → (out' : List ℕ) → out' ≡ put out 0 bytes → (r : Closed) → r ≡ told st 5 → Gives out' r
      unfolding remainder_left
      end-told l out' e r f = (f ∙ answer-told l, rw (f, row_is) (e ∙ stored l))
