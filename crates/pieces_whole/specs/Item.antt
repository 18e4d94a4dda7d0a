-- From any state at a top-level header, through the units of an item that is framed there: nothing is told before its last unit, and with
-- that its row, as the report has it. Assumes nothing.
use Rattle.std.specs.Prelude.{ℕ, zero, suc, ◌+◌, ◌-◌, ◌*◌, ◌/◌, ◌%◌, ◌≤◌, ◌<◌, ◌≡◌, refl, List, [], ◌∷◌, ◌++◌, Bool, true, false, length, take, drop, replicate}
use Rattle.std.proofs.Math.Path.{sym, ap}
use Rattle.std.proofs.Common.{◌∙◌, subst, ⊎_elim, arith, length-append, get_or-take, length-take-le, take-take, eq-eqb}
use Rattle.std.proofs.lemmas.List.{length-replicate}
use Rattle.std.proofs.Math.Seq.{drop-append-add, take-append-add}
use Rattle.base.specs.Cases.{whether}
use Rattle.format.specs.declared.Kind.{Kind}
use Rattle.format.specs.declared.Framed.{Framed}
use Rattle.format.specs.declared.Framed.TheVariants.{Item, Unframed}
use Rattle.format.specs.declared.Verdict.{Verdict}
use Rattle.format.specs.declared.Verdict.TheVariants.{Accepted, Refused}
use Rattle.format.specs.Registry.{opening}
use Rattle.format.specs.Framing.{sextet, frame, frame_ruled, frame_next}
use Rattle.format.specs.Judging.{shift, and_then, judge_kind, group, max_depth}
use Rattle.format.specs.Report.{ItemRow, placed}
use Rattle.laws.specs.Domains.{plain, plain-reader}
use Rattle.laws.specs.Framing.{Good, Lawful, ruled_with, frame_ruled-good}
use Rattle.laws.specs.Levels.{part, take-of-drop}
use Rattle.walk_state.specs.declared.Walk.{Walk}
use Rattle.walk_state.specs.Walking.{stop_of}
use Rattle.walk_claims.proofs.Fitting.{stop_at, stop-outer, Fits}
use Rattle.walk_claims.proofs.Steps.{asked, framed_here}
use Rattle.walk_claims.proofs.Keeps.{stop-level}
use Rattle.walk_claims.proofs.Rest.{then-accepted}
use Rattle.walk_claims.proofs.Firsts.{at_item, base}
use Rattle.pieces.specs.declared.Progress.{Progress}
use Rattle.pieces.specs.declared.Phase.TheVariants as P
use Rattle.pieces.specs.Headers.{verdict_of}
use Rattle.pieces.specs.Steps.{unit_step, is_whole, row_of, told}
use Rattle.pieces.specs.Feeding.{after, rows_after}
use Rattle.pieces_inside.specs.Inside.{E, tail, remains, Stands, Under, header, Over, step-under, end-over, not-whole, under-phase, whole_is, remains-top, all_told, placed-four}
use Rattle.pieces_whole.specs.Run.{step_kept, Fresh, quiet, full}

-- with none open a longer stream fits as well
top-fits : (w : Walk) (a n : ℕ) → Fits w a → w.depth ≡ 0 → a ≤ n → Fits w n
unfolding stop_at
top-fits w a n f z l = record {
  nest = record {
    full = f.nest.full;
    few = f.nest.few;
    unused = f.nest.unused;
    within = λ i h. absurd (omega arith);
    reached = rw z (omega (arith, rw z at f.nest.reached));
    marked = λ e. absurd (omega (arith, (f.nest.marked e).0));
    tabled = f.nest.tabled;
  };
  ahead = λ h. absurd (omega arith);
}

-- ---- a framed item, by its own sextets

ruled-lawful : (xs : List ℕ) (k : Kind) (h m : ℕ) → frame_ruled xs ≡ Item k h m → Lawful (ruled_with opening) (sextet xs) (length xs / 4) k h m
ruled-lawful xs k h m e = subst (Good (ruled_with opening) (sextet xs) (length xs / 4)) e (frame_ruled-good xs)

ruled-own : (xs ys : List ℕ) (k : Kind) (h m : ℕ) → frame_ruled xs ≡ Item k h m → ((i : ℕ) → i < 4 * h → sextet ys i ≡ sextet xs i)
    → m ≤ length ys / 4 → frame_ruled ys ≡ Item k h m
unfolding frame_ruled frame
ruled-own xs ys k h m e same l = (ruled-lawful xs k h m e).alike (sextet ys) (length ys / 4) same l

pub ruled-sizes : (xs : List ℕ) (k : Kind) (h m : ℕ) → frame_ruled xs ≡ Item k h m → (0 < h) × (h ≤ m) × (m ≤ length xs / 4)
ruled-sizes xs k h m e = let g = ruled-lawful xs k h m e in (g.some, g.inside, g.room)

-- ---- b: a state at a top-level header, behind a units and i items. own: what the item is framed of. s: the units that come, of which the
-- first c are own's

module _ (u : ℕ) (b : Progress) (a i : ℕ) (fresh : Fresh a i b) (own : List ℕ) (k : Kind) (h m : ℕ) (e : frame_ruled own ≡ Item k h m)
    (s : List ℕ) (c : ℕ) (comes : (j : ℕ) → j < c → take 4 (drop (4 * j) s) ≡ take 4 (drop (4 * j) own)) where
  sizes : (0 < h) × (h ≤ m) × (m ≤ length own / 4)
  sizes = ruled-sizes own k h m e

  -- a stream that ends with the item, behind as many units as were read
  abbrev before : List ℕ
  before = replicate (4 * a) 0

  abbrev item : List ℕ
  item = take (4 * m) own

  abbrev t : List ℕ
  t = before ++ item

  item-long : length item ≡ 4 * m
  item-long = length-take-le (4 * m) own (omega (arith, sizes))

  front_long : length before ≡ 4 * a
  front_long = length-replicate {A = ℕ} (4 * a) 0

  t-long : length t ≡ 4 * (a + m)
  t-long = omega (arith, length-append before item, front_long, item-long)

  whole : length t % 4 ≡ 0
  whole = omega (arith, t-long)

  end : a + m ≡ E t whole
  end = omega (arith, t-long)

  -- its parts behind those units
  part_of : (x y : ℕ) → y ≤ m → part t (a + x) (a + y) ≡ drop (4 * x) (take (4 * y) own)
  part_of x y l =
      let p : 4 * (a + y) ≡ length before + 4 * y = omega (arith, front_long) in
      let q : 4 * (a + x) ≡ length before + 4 * x = omega (arith, front_long) in
      rw (p, q, take-append-add before item (4 * y), drop-append-add before (take (4 * y) item) (4 * x), take-take (4 * y) (4 * m) own (omega arith))

  abbrev unit_of : ℕ → List ℕ
  unit_of j = take 4 (drop (4 * j) s)

  unit-of : (j : ℕ) → j < c → j < m → unit_of j ≡ part t (a + j) (a + j + 1)
  unit-of j r l =
      let z : a + j + 1 ≡ a + (j + 1) = omega arith in
      let y : 4 * j + 4 ≡ 4 * (j + 1) = omega arith in
      comes j r ∙ take-of-drop 4 (4 * j) own ∙ ap (λ (n : ℕ). drop (4 * j) (take n own)) y
      ∙ sym (ap (part t (a + j)) z ∙ part_of j (j + 1) (omega arith))

  whole_part : part t a (E t whole) ≡ item
  whole_part =
      let z : a ≡ a + 0 = omega arith in
      ap (part t a) (sym end) ∙ ap (λ (x : ℕ). part t x (a + m)) z ∙ part_of 0 m (omega arith)

  framed-own : frame_ruled (part t a (E t whole)) ≡ Item k h m
  framed-own =
      rw whole_part (ruled-own own item k h m e (λ j l. get_or-take (4 * m) own j 0 (omega (arith, sizes))) (omega (arith, item-long)))

  -- ---- as the walk frames it

  abbrev w : Walk
  w = b.walk

  asked-top : asked w ≡ true
  unfolding asked
  asked-top = rw (eq-eqb w.depth 0 fresh.closed)

  by-master : w.indexed ≡ false
  by-master = ⊎_elim (λ x. absurd (omega (arith, fresh.fits.nest.tabled x, fresh.closed))) (λ x. x) (whether w.indexed)

  stop-top : stop_of w (E t whole) ≡ E t whole
  stop-top = stop-level w (E t whole) ∙ rw fresh.closed (stop-outer (E t whole) w.ends)

  here : framed_here t (E t whole) (tail t whole) w ≡ Item k h m
  unfolding frame_next frame_ruled
  here =
      ap (λ (x : Bool). frame_next x (asked w) (part t w.at (stop_of w (E t whole)))) by-master
      ∙ rw (asked-top, stop-top, fresh.position) framed-own

  -- the verdict that is left to tell is judging's
  abbrev v : Verdict
  v = remains t whole w

  judged : v ≡ shift (4 * a) (judge_kind k h item (group max_depth))
  judged =
      let J : Verdict = judge_kind k h (part t a (a + m)) (group max_depth) in
      let z : a * 4 ≡ 4 * a = omega arith in
      let q : base plain plain-reader t a ≡ and_then (shift (a * 4) (placed 4 J)) (base plain plain-reader t (a + m)) =
      at_item plain plain-reader t a k h m (omega (arith, end, sizes)) framed-own in
      let r : base plain plain-reader t (a + m) ≡ Accepted = ap (base plain plain-reader t) end ∙ all_told t whole in
      remains-top t whole w fresh.closed ∙ ap (base plain plain-reader t) fresh.position ∙ q
      ∙ rw (r, placed-four J, z, then-accepted)
      (ap (λ (x : List ℕ). shift (4 * a) (judge_kind k h x (group max_depth))) (ap (part t a) end ∙ whole_part))

  stands : Stands t whole v w
  stands = record {
    fits = top-fits w a (E t whole) fresh.fits fresh.closed (omega (arith, end));
    inner = λ l. absurd (omega (arith, fresh.closed));
    top = λ z. (k, h, m, here, ap (λ (x : ℕ). x + m) fresh.position ∙ end);
    less = rw (fresh.closed, fresh.position) (omega (arith, stop-outer (E t whole) w.ends, end, sizes));
    tells = refl;
  }

  -- ---- so many units of it

  record On (j : ℕ) : Type 0 where
    under : Under t whole v (after b s j)
    read : (after b s j).read ≡ a + j
    start : (after b s j).start ≡ a
    items : (after b s j).items ≡ i
    rows : rows_after u b s j ≡ []

  on-start : On 0
  unfolding after rows_after
  on-start = record {
    under = header fresh.phase stands (fresh.read ∙ sym fresh.position) (λ z. fresh.start ∙ sym fresh.read);
    read = fresh.read ∙ omega arith;
    start = fresh.start;
    items = fresh.items;
    rows = refl;
  }

  stepped : (j : ℕ) → On j → j < c → j < m
      → Under t whole v (unit_step (after b s j) (unit_of j)) × ((unit_step (after b s j) (unit_of j)).read ≡ a + suc j)
  stepped j o r l =
      let p : Progress = after b s j in
      let x : Under t whole v (unit_step p (part t p.read (p.read + 1))) = step-under t whole v p o.under (omega (arith, o.read, end)) in (
        rw (unit-of j r l) (subst (λ (n : ℕ). Under t whole v (unit_step p (part t n (n + 1)))) o.read x),
        (step_kept p (unit_of j)).read ∙ omega (arith, o.read),
      )

  on-more : (j : ℕ) → On j → j < c → suc j < m → On (suc j)
  on-more j o r l =
      let p : Progress = after b s j in
      let n : Progress = unit_step p (unit_of j) in
      let x = stepped j o r (omega arith) in
      let q = quiet u b s j (not-whole t whole v n x.0 (omega (arith, x.1, end))) in
      let kept = step_kept p (unit_of j) in
      record {
        under = subst (Under t whole v) (sym q.0) x.0;
        read = ap (λ (r : Progress). r.read) q.0 ∙ x.1;
        start = ap (λ (r : Progress). r.start) q.0 ∙ kept.start ∙ o.start;
        items = ap (λ (r : Progress). r.items) q.0 ∙ kept.items ∙ o.items;
        rows = q.1 ∙ o.rows;
      }

  on-way : (j : ℕ) → j ≤ c → j < m → On j
  on-way zero r l = on-start
  on-way (suc j) r l = on-more j (on-way j (omega arith) (omega arith)) r l

  -- before its end nothing is told
  pub record Cut (p : Progress) (rows : List ItemRow) : Type 0 where
    pub phase : p.phase ≡ P.Framing
    pub start : p.start ≡ a
    pub items : p.items ≡ i
    pub none : rows ≡ []

  pub cut_short : c < m → Cut (after b s c) (rows_after u b s c)
  cut_short l =
      let o : On c = on-way c (omega arith) l in
      record { phase = under-phase t whole v (after b s c) o.under; start = o.start; items = o.items; none = o.rows }

  -- ---- the state behind it, and its row

  abbrev pub its_row : ItemRow
  its_row = record { offset = a * u; size = m * u; verdict = placed u (shift (4 * a) (judge_kind k h item (group max_depth))) }

  told_fresh : (p : Progress) → is_whole p ≡ true → Over t whole v p → p.read ≡ E t whole → p.items ≡ i → Fresh (E t whole) (i + 1) (told p)
  unfolding told
  told_fresh p w o e f = rw w (record {
    phase = o.phase;
    fits = o.fits;
    closed = o.closed;
    position = o.position;
    read = e;
    start = e;
    items = ap (λ (n : ℕ). n + 1) f;
  })

  state-told : (j : ℕ) → Fresh (E t whole) (i + 1) (told (unit_step (after b s j) (unit_of j))) → Fresh (E t whole) (i + 1) (after b s (suc j))
  unfolding after
  state-told j f = f

  row_told : (n : Progress) → n.start ≡ a → n.read ≡ E t whole
      → verdict_of n.number n.place ≡ shift (4 * a) (judge_kind k h item (group max_depth)) → row_of u n ≡ its_row
  row_told n st r q = let z : E t whole - a ≡ m = omega (arith, end) in rw (st, r, z, q)

  at_last : (j : ℕ) → suc j ≡ m → m ≤ c → Fresh (a + m) (i + 1) (after b s (suc j)) × (rows_after u b s (suc j) ≡ its_row ∷ [])
  at_last j l all =
      let p : Progress = after b s j in
      let n : Progress = unit_step p (unit_of j) in
      let o : On j = on-way j (omega arith) (omega arith) in
      let x = stepped j o (omega arith) (omega arith) in
      let r : n.read ≡ E t whole = x.1 ∙ omega (arith, end) in
      let y : Over t whole v n = end-over t whole v n x.0 r in
      let kept = step_kept p (unit_of j) in
      let g : is_whole n ≡ true = whole_is t whole v n y r (omega (arith, kept.start, o.start, end, sizes)) in (
        subst (λ (q : ℕ). Fresh q (i + 1) (after b s (suc j))) (sym end) (state-told j (told_fresh n g y r (kept.items ∙ o.items))),
        full u b s j g ∙ rw o.rows (ap (λ (q : ItemRow). q ∷ []) (row_told n (kept.start ∙ o.start) r (y.verdict ∙ judged))),
      )

  pub whole_item : m ≤ c → Fresh (a + m) (i + 1) (after b s m) × (rows_after u b s m ≡ its_row ∷ [])
  whole_item all =
      let z : suc (m - 1) ≡ m = omega (arith, sizes) in
      subst (λ (x : ℕ). Fresh (a + m) (i + 1) (after b s x) × (rows_after u b s x ≡ its_row ∷ [])) z (at_last (m - 1) z all)
