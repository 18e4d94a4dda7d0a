-- The answers to a piece, in the order of its refusals. Assumes nothing.
use Prim.Native.Nat.{ℕ, zero, suc, ◌+◌, ◌-◌, ◌*◌, ◌/◌, ◌≤◌, ◌<◌}
use mathlib.Core.Path.{◌≡◌, refl, sym, ap, ◌∙◌}
use mathlib.Core.Bool.{Bool, true, false}
use mathlib.Core.List.{List, [], ◌∷◌, ◌++◌}
use mathlib.Core.Logic.{⊎_elim}
use native.Mathlib.Omega.{arith}
use lib.Dec.{ltb, leb}
use lib.ListN.{length, take, drop, length-append}
use lib.Seq.{sets, sets-eq, length-take-le}
use borrow.Author.Tests.{lt-ltb, le-ltb, le-leb, lt-leb, leb-true, leb-false, ltb-false}
use Rattle.base.specs.Pick.{pick, pick-by}
use Rattle.base.specs.Cases.{whether, lt-or-ge}
use Rattle.format.specs.declared.Form.{Form}
use Rattle.format.specs.declared.Form.TheVariants.{Text, Binary}
use Rattle.format.specs.declared.Verdict.{Verdict}
use Rattle.format.specs.declared.Verdict.TheVariants.{Accepted, Refused}
use Rattle.format.specs.Units.{Domain, domain}
use Rattle.format.specs.Judging.{max_depth}
use Rattle.format.specs.Report.{ItemRow, row_bytes, refusal_bytes, concat, refusals_of, refusal}
use Rattle.laws.specs.Domains.{reader}
use Rattle.filling.specs.Stores.{concat-long, row-long, refusal-long}
use Rattle.pieces.specs.declared.Progress.{Progress}
use Rattle.pieces.specs.declared.Pieces.{Pieces}
use Rattle.pieces.specs.declared.Fed.{Fed}
use Rattle.pieces.specs.Steps.{unit_step, is_whole, rows_from}
use Rattle.pieces.specs.Feeding.{after, rows_after, held_and, fed, items_out, refusals_out, taken}
use Rattle.pieces.specs.Calls.{is_fit, feed_answer, feed_state, feed, items_left, refusals_left}
use Rattle.pieces_fit.specs.Fit.{Facts, facts}
use Rattle.pieces_taken.specs.declared.Ahead.{Ahead}
use Rattle.pieces_taken.specs.Taking.{Took}
use Rattle.pieces_feed.specs.Feeds.{kept, Enters, Room, Gives}
use Rattle.std.specs.Prelude.{Ok, Result}
use Rattle.format.specs.Refusals.{refused_by}
use Rattle.format.specs.declared.Refusal.{Refusal}
use Rattle.pieces.specs.declared.Rows.{Rows}

-- ---- the tests

pub nine-few : (n room : ℕ) → n ≤ room / 9 → leb (9 * n) room ≡ true
nine-few n room l = le-leb (9 * n) room (omega arith)

pub nine-many : (n room : ℕ) → room / 9 < n → leb (9 * n) room ≡ false
nine-many n room l = lt-leb (9 * n) room (omega arith)

pub nine-same : (m more : ℕ) → leb m (more / 9) ≡ leb (9 * m) more
nine-same m more =
    ⊎_elim (λ (l : more / 9 < m). lt-leb m (more / 9) l ∙ sym (nine-many m more l)) (λ (l : m ≤ more / 9). le-leb m (more / 9) l ∙ sym (nine-few m more l))
    (lt-or-ge (more / 9) m)

pub taken_more : (d : Domain) (st : Pieces) (len : ℕ) → st.progress.read * d.unit + (st.count + len) ≡ taken d st + len
taken_more d st len = omega arith

both_true : (a b : Bool) → pick a b false ≡ true → (a ≡ true) × (b ≡ true)
both_true true b e = (refl, e)
both_true false b e = let z : ◌≡◌ {A = ℕ} 0 1 = cc in absurd (omega arith)

pub room_of : (a b n m : ℕ) → pick (leb a n) (leb b m) false ≡ true → (a ≤ n) × (b ≤ m)
room_of a b n m e = let t = both_true (leb a n) (leb b m) e in (leb-true a n t.0, leb-true b m t.1)

-- ---- a row a unit

rows-one : (u : ℕ) (p : Progress) → length (rows_from u p) ≤ 1
unfolding rows_from
rows-one u p = pick-by (λ (l : List ItemRow). length l ≤ 1) (is_whole p) _ _ (λ _. omega arith) (λ _. omega arith)

rows_few : (u : ℕ) (p : Progress) (s : List ℕ) (k : ℕ) → length (rows_after u p s k) ≤ k
unfolding rows_after
rows_few u p s zero = omega arith
rows_few u p s (suc k) =
    let n : Progress = unit_step (after p s k) (take 4 (drop (4 * k) s)) in
    omega (arith, length-append (rows_after u p s k) (rows_from u n), rows-one u n, rows_few u p s k)

one-refused : (k : ℕ) (v : Verdict) → length (refusal k v) ≤ 1
unfolding refusal
one-refused k Accepted = omega arith
one-refused k (Refused n p) = omega arith

refusals-few : (k : ℕ) (rs : List ItemRow) → length (refusals_of k rs) ≤ length rs
unfolding refusals_of
refusals-few k [] = omega arith
refusals-few k (r ∷ rs) =
    omega (arith, length-append (refusal k r.verdict) (refusals_of (suc k) rs), one-refused k r.verdict, refusals-few (suc k) rs)

unit-few : (form : Form) → (domain form).unit ≤ 4
unit-few Text = omega arith
unit-few Binary = omega arith

pub count-few : (form : Form) (st : Pieces) → length st.progress.walk.ends ≡ max_depth → is_fit (domain form) st ≡ true → st.count ≤ 4
count-few form st full fit = omega (arith, (facts (domain form) (reader form) st full fit).part, unit-few form)

module _ (form : Form) (st : Pieces) (piece : List ℕ) (four : length st.held ≡ 4) (few : st.count ≤ 4) where
  abbrev d : Domain
  d = domain form

  long : length (held_and st piece) ≡ st.count + length piece
  long = omega (arith, length-append (take st.count st.held) piece, length-take-le st.count st.held (omega (arith, few)))

  pub items-few : length (items_out d st piece) ≤ (st.count + length piece) / d.unit
  unfolding items_out
  items-few = rw (← long) (rows_few d.unit st.progress (d.sextets (held_and st piece)) (length (held_and st piece) / d.unit))

  pub bad-few : length (refusals_out d st piece) ≤ (st.count + length piece) / d.unit
  unfolding refusals_out
  bad-few = omega (arith, refusals-few st.progress.items (items_out d st piece), items-few)

-- ---- the answers

module _ (d : Domain) (st : Pieces) (piece : List ℕ) (room more : ℕ) where
  pub answer-unfit : is_fit d st ≡ false → feed_answer d st piece room more ≡ refused_by 13 0
  unfolding feed_answer
  answer-unfit e = rw e

  module _ (fit : is_fit d st ≡ true) where
    pub answer-long : leb (taken d st + length piece) d.limit ≡ false → feed_answer d st piece room more ≡ refused_by 1 0
    unfolding feed_answer
    answer-long e = rw (fit, lt-ltb d.limit (taken d st + length piece) (leb-false _ _ e))

    module _ (short : taken d st + length piece ≤ d.limit) where
      abbrev n : ℕ
      n = 9 * length (items_out d st piece)

      abbrev m : ℕ
      m = 9 * length (refusals_out d st piece)

      pub answer-little : pick (leb n room) (leb m more) false ≡ false → feed_answer d st piece room more ≡ refused_by 3 0
      unfolding feed_answer
      answer-little e = rw (fit, le-ltb d.limit (taken d st + length piece) short) (⊎_elim few many (lt-or-ge room n))
        where
          few : room < n → ◌≡◌ {A = Result Rows (Refusal ℕ)} (pick (ltb room n) (refused_by 3 0) (pick (ltb more m) (refused_by 3 0) (Ok (record { items = n; refusals = m })))) (refused_by 3 0)
          few l = rw (lt-ltb room n l)

          many : n ≤ room → ◌≡◌ {A = Result Rows (Refusal ℕ)} (pick (ltb room n) (refused_by 3 0) (pick (ltb more m) (refused_by 3 0) (Ok (record { items = n; refusals = m })))) (refused_by 3 0)
          many l = let z : leb m more ≡ false = rw (le-leb n room l) at e in rw (le-ltb room n l, lt-ltb more m (leb-false m more z))

      pub answer-taken : n ≤ room → m ≤ more → feed_answer d st piece room more ≡ Ok (record { items = n; refusals = m })
      unfolding feed_answer
      answer-taken a b = rw (fit, le-ltb d.limit (taken d st + length piece) short, le-ltb room n a, le-ltb more m b)

-- refused: all stays
pub gives-kept : (d : Domain) (st : Pieces) (piece items refusals : List ℕ) (number : ℕ) (r : Fed)
    → feed_answer d st piece (length items) (length refusals) ≡ refused_by number 0 → r ≡ kept st number → Gives d st piece items items refusals refusals r
unfolding feed feed_state items_left refusals_left
gives-kept d st piece items refusals number r e f = (f ∙ rw e, (rw f, rw f))

stored : (out bytes : List ℕ) (n : ℕ) → length bytes ≡ n → n ≤ length out → sets out 0 bytes ≡ bytes ++ drop n out
stored out bytes n e l =
    let z : 0 + length bytes ≡ n = omega arith in
    sets-eq bytes out 0 (omega arith) ∙ ap (λ (k : ℕ). bytes ++ drop k out) z

pub gives-taken : (form : Form) (st : Pieces) (piece items items' refusals refusals' : List ℕ) (a : Ahead) → Enters form st piece
    → Room form st piece items refusals → Took (domain form) st piece items items' refusals refusals' a
    → Gives (domain form) st piece items items' refusals refusals' (record { next = a.next; given = Ok (record { items = 9 * a.items; refusals = 9 * a.refusals }) })
unfolding feed feed_state items_left refusals_left
gives-taken form st piece items items' refusals refusals' a en ro t =
    let d : Domain = domain form in
    let e = answer-taken d st piece (length items) (length refusals) en.fit en.within ro.rows ro.refused in (
      rw (t.next, t.many, t.bad, e),
      (
        rw t.many (t.rows ro.rows ∙ stored items (concat row_bytes (items_out d st piece)) _ (concat-long row_bytes 9 row-long (items_out d st piece)) ro.rows),
        rw t.bad
            (t.refused ro.refused
            ∙ stored refusals (concat refusal_bytes (refusals_out d st piece)) _ (concat-long refusal_bytes 9 refusal-long (refusals_out d st piece)) ro.refused),
      ),
    )

-- ---- whether the rows fit

pub enough : (form : Form) (st : Pieces) (piece : List ℕ) → length st.held ≡ 4 → st.count ≤ 4 → (room more n : ℕ)
    → n ≡ (st.count + length piece) / (domain form).unit → pick (leb (9 * n) room) (leb (9 * n) more) false ≡ true
    → true ≡ pick (leb (9 * length (items_out (domain form) st piece)) room) (leb (9 * length (refusals_out (domain form) st piece)) more) false
enough form st piece four few room more n e t =
    let r = room_of (9 * n) (9 * n) room more t in
    let i = items-few form st piece four few in
    let j = bad-few form st piece four few in
    rw (
      le-leb (9 * length (items_out (domain form) st piece)) room (omega (arith, r.0)),
      le-leb (9 * length (refusals_out (domain form) st piece)) more (omega (arith, r.1)),
    )

pub counted : {d : Domain} {st : Pieces} {piece items items' refusals refusals' : List ℕ} {a : Ahead} {b : Bool} (room more : ℕ)
    → Took d st piece items items' refusals refusals' a → b ≡ pick (leb (9 * a.items) room) (leb (9 * a.refusals) more) false
    → b ≡ pick (leb (9 * length (items_out d st piece)) room) (leb (9 * length (refusals_out d st piece)) more) false
counted room more t e = rw (← t.many, ← t.bad) e
