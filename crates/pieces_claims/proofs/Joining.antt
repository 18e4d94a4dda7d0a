-- Pieces joined: a state depends on what was taken in, and not on how it was cut. Assumes nothing.
use Rattle.std.specs.Prelude.{ℕ, zero, suc, ◌+◌, ◌-◌, ◌*◌, ◌/◌, ◌≤◌, ◌<◌, ◌≡◌, take, drop, replicate}
use Rattle.std.proofs.Math.Path.{refl, ap}
use Rattle.std.proofs.Common.{sym, ◌∙◌, add-mul, length-append, length-drop, drop-drop, take-take}
use mathlib.Core.List.{List, [], ◌∷◌, ◌++◌, append-nil, append_assoc}
use native.Mathlib.Omega.{arith}
use Rattle.std.proofs.Math.Nat.{zero-div, mul-add-div_right}
use Rattle.std.proofs.Math.ListN.{length}
use Rattle.std.proofs.Math.Seq.{take-append_seam}
use Rattle.std.proofs.lemmas.List.{take-append-le, drop-append-le}
use Rattle.format.specs.Units.{Domain}
use Rattle.format.specs.Report.{ItemRow, refusal, refusals_of, rows, refusals, rows_in, refusals_in, remainder_in}
use Rattle.laws.specs.Domains.{Reader}
use Rattle.laws.specs.Items.{rows-nil}
use Rattle.laws.specs.Levels.{take-of-drop}
use Rattle.walk_claims.specs.Words.{units_in}
use Rattle.walk_claims.proofs.Streams.{room}
use Rattle.pieces.specs.declared.Progress.{Progress}
use Rattle.pieces.specs.declared.Pieces.{Pieces}
use Rattle.pieces.specs.Feeding.{after, rows_after, begin, start, held_and, holding, fed, items_out, refusals_out, taken, remainder_out}
use Rattle.pieces_whole.specs.Run.{after_read, after-add, rows-add}
use Rattle.pieces_whole.specs.Whole.{end_rows, all-rows, all-items, all_left}
use Rattle.pieces_claims.specs.Words.{joined, fed_all, all_items, all_refusals}

-- only the first units count
unit-front : (s r : List ℕ) (j k : ℕ) → k < j → take (4 * j) s ≡ take (4 * j) r → take 4 (drop (4 * k) s) ≡ take 4 (drop (4 * k) r)
unit-front s r j k l e =
    let z : (x : List ℕ) → take 4 (drop (4 * k) x) ≡ drop (4 * k) (take (4 * k + 4) (take (4 * j) x)) =
    λ x. take-of-drop 4 (4 * k) x ∙ ap (drop (4 * k)) (sym (take-take (4 * k + 4) (4 * j) x (omega arith))) in
    z s ∙ ap (λ (x : List ℕ). drop (4 * k) (take (4 * k + 4) x)) e ∙ sym (z r)

after_front : (p : Progress) (s r : List ℕ) (j k : ℕ) → k ≤ j → take (4 * j) s ≡ take (4 * j) r → after p s k ≡ after p r k
unfolding after
after_front p s r j zero l e = refl
after_front p s r j (suc k) l e = rw (after_front p s r j k (omega arith) e, unit-front s r j k (omega arith) e)

rows-front : (u : ℕ) (p : Progress) (s r : List ℕ) (j k : ℕ) → k ≤ j → take (4 * j) s ≡ take (4 * j) r → rows_after u p s k ≡ rows_after u p r k
unfolding rows_after
rows-front u p s r j zero l e = refl
rows-front u p s r j (suc k) l e =
    rw (rows-front u p s r j k (omega arith) e, after_front p s r j k (omega arith) e, unit-front s r j k (omega arith) e)

-- ---- a piece more

-- the state of a stream so far
abbrev pub up_to : Domain → List ℕ → Pieces
up_to d xs = fed d (start d) xs

pub begun : (d : Domain) (xs : List ℕ) → up_to d xs ≡ holding d.unit (after begin (d.sextets xs) (units_in d xs)) (drop (units_in d xs * d.unit) xs)
unfolding fed start
begun d xs = refl

refusals-add : (k : ℕ) (rs ss : List ItemRow) → refusals_of k (rs ++ ss) ≡ refusals_of k rs ++ refusals_of (k + length rs) ss
unfolding refusals_of
refusals-add k [] ss = let z : k + 0 ≡ k = omega arith in rw z
refusals-add k (r ∷ rs) ss =
    let z : k + suc (length rs) ≡ suc k + length rs = omega arith in
    rw (z, refusals-add (suc k) rs ss) (sym (append_assoc (refusal k r.verdict) (refusals_of (suc k) rs) (refusals_of (suc k + length rs) ss)))

module _ (d : Domain) (R : Reader d) (xs piece : List ℕ) where
  abbrev pub u : ℕ
  u = d.unit

  abbrev pub j : ℕ
  j = units_in d xs

  abbrev pub left : List ℕ
  left = drop (j * u) xs

  abbrev pub ys : List ℕ
  ys = left ++ piece

  inside : j * u ≤ length xs
  inside = room d R xs j (omega arith)

  behind : drop (j * u) (xs ++ piece) ≡ ys
  behind = drop-append-le (j * u) xs piece inside

  longer : j * u ≤ length (xs ++ piece)
  longer = omega (arith, inside, length-append xs piece)

  pub total : units_in d (xs ++ piece) ≡ j + length ys / u
  total =
      let e : length (xs ++ piece) ≡ j * u + length ys = omega (arith, ap length behind, length-drop (j * u) (xs ++ piece), longer) in
      ap (λ (n : ℕ). n / u) e ∙ mul-add-div_right R.pos j (length ys)

  -- the sextets of the units so far, and of those behind
  front_same : take (4 * j) (d.sextets (xs ++ piece)) ≡ take (4 * j) (d.sextets xs)
  front_same =
      let z : j * 4 ≡ 4 * j = omega arith in
      rw (← z) (sym (R.taken (xs ++ piece) j longer) ∙ ap d.sextets (take-append-le (j * u) xs piece inside) ∙ R.taken xs j inside)

  behind-same : drop (4 * j) (d.sextets (xs ++ piece)) ≡ d.sextets ys
  behind-same = let z : j * 4 ≡ 4 * j = omega arith in rw (← z) (sym (R.dropped (xs ++ piece) j longer) ∙ ap d.sextets behind)

  held-is : held_and (up_to d xs) piece ≡ ys
  unfolding fed start
  held-is = ap (λ (x : List ℕ). x ++ piece) (take-append_seam left (replicate (4 - length left) 0))

  so_far : (up_to d xs).progress ≡ after begin (d.sextets xs) j
  unfolding fed start
  so_far = refl

  same-unit : (up_to d xs).unit ≡ u
  unfolding fed start
  same-unit = refl

  progress-joined : after begin (d.sextets (xs ++ piece)) (units_in d (xs ++ piece)) ≡ after (after begin (d.sextets xs) j) (d.sextets ys) (length ys / u)
  progress-joined =
      let A : List ℕ = d.sextets (xs ++ piece) in
      ap (after begin A) total ∙ after-add begin A j (length ys / u)
      ∙ rw (behind-same, after_front begin A (d.sextets xs) j j (omega arith) front_same)

  pub rows-joined : rows_after u begin (d.sextets (xs ++ piece)) (units_in d (xs ++ piece))
      ≡ rows_after u begin (d.sextets xs) j ++ rows_after u (after begin (d.sextets xs) j) (d.sextets ys) (length ys / u)
  rows-joined =
      let A : List ℕ = d.sextets (xs ++ piece) in
      ap (rows_after u begin A) total ∙ rows-add u begin A j (length ys / u)
      ∙ rw (behind-same, after_front begin A (d.sextets xs) j j (omega arith) front_same, rows-front u begin A (d.sextets xs) j j (omega arith) front_same)

  rest-joined : drop (units_in d (xs ++ piece) * u) (xs ++ piece) ≡ drop (length ys / u * u) ys
  rest-joined =
      rw (total, add-mul j (length ys / u) u, ← drop-drop (length ys / u * u) (j * u) (xs ++ piece), behind)

  fed-from : (st : Pieces) (zs : List ℕ) → held_and st piece ≡ zs
      → fed d st piece ≡ holding st.unit (after st.progress (d.sextets zs) (length zs / u)) (drop (length zs / u * u) zs)
  unfolding fed
  fed-from st zs e = rw e

  -- a state is what was taken in, wherever it was cut
  pub fed-joined : fed d (up_to d xs) piece ≡ up_to d (xs ++ piece)
  fed-joined = fed-from (up_to d xs) ys held-is ∙ sym (from_start ∙ rw (progress-joined, rest-joined) (sym (rw (so_far, same-unit))))
    where
      from_start : up_to d (xs ++ piece) ≡ holding u (after begin (d.sextets (xs ++ piece)) (units_in d (xs ++ piece))) (drop (units_in d (xs ++ piece) * u) (xs ++ piece))
      from_start = begun d (xs ++ piece)

  -- the item rows that come with the piece
  pub items-out : items_out d (up_to d xs) piece ≡ rows_after u (after begin (d.sextets xs) j) (d.sextets ys) (length ys / u)
  unfolding items_out
  items-out = rw (held-is, so_far)

  pub items-joined : rows_in d (xs ++ piece) ≡ rows_in d xs ++ items_out d (up_to d xs) piece
  items-joined =
      sym (all-rows d R (xs ++ piece)) ∙ rows-joined ∙ rw (all-rows d R xs) (ap (λ (l : List ItemRow). rows_in d xs ++ l) (sym items-out))

  -- and the refusal rows
  pub refusals-joined : refusals_in d (xs ++ piece) ≡ refusals_in d xs ++ refusals_out d (up_to d xs) piece
  unfolding refusals_out refusals
  refusals-joined =
      let z : (up_to d xs).progress.items ≡ length (rows_in d xs) = ap (λ (p : Progress). p.items) so_far ∙ all-items d R xs in
      ap (refusals_of 0) items-joined ∙ refusals-add 0 (rows_in d xs) (items_out d (up_to d xs) piece)
      ∙ ap (λ (n : ℕ). refusals_of 0 (rows_in d xs) ++ refusals_of n (items_out d (up_to d xs) piece)) (omega arith)

-- ---- the end

module _ (d : Domain) (R : Reader d) (xs : List ℕ) where
  -- as many elements as were taken in
  abbrev whole : Pieces
  whole = holding d.unit (after begin (d.sextets xs) (units_in d xs)) (drop (units_in d xs * d.unit) xs)

  begin-read : (after begin (d.sextets xs) (units_in d xs)).read * d.unit ≡ units_in d xs * d.unit
  unfolding begin
  begin-read = ap (λ (k : ℕ). k * d.unit) (after_read begin (d.sextets xs) (units_in d xs) ∙ omega arith)

  pub taken-all : taken d (up_to d xs) ≡ length xs
  taken-all =
      ap (taken d) (begun d xs)
      ∙ omega (arith, begin-read, length-drop (units_in d xs * d.unit) xs, room d R xs (units_in d xs) (omega arith))

  -- what is told is the report's remainder
  pub remainder-joined : remainder_out d (up_to d xs) ≡ remainder_in d xs
  unfolding remainder_out end_rows
  remainder-joined = rw taken-all (ap (λ (st : Pieces). end_rows d.unit (length xs) st.progress) (begun d xs) ∙ all_left d R xs)

-- ---- pieces in order

module _ (d : Domain) (R : Reader d) where
  pub state-from : (xs : List ℕ) (ps : List (List ℕ)) → fed_all d (up_to d xs) ps ≡ up_to d (xs ++ joined ps)
  unfolding fed_all joined
  state-from xs [] = rw append-nil
  state-from xs (p ∷ ps) = ap (λ (st : Pieces). fed_all d st ps) (fed-joined d R xs p) ∙ state-from (xs ++ p) ps ∙ rw append_assoc

  items-from : (xs : List ℕ) (ps : List (List ℕ)) → rows_in d (xs ++ joined ps) ≡ rows_in d xs ++ all_items d (up_to d xs) ps
  unfolding all_items joined
  items-from xs [] = rw (append-nil, append-nil)
  items-from xs (p ∷ ps) =
      ap (rows_in d) (sym (append_assoc xs p (joined ps))) ∙ items-from (xs ++ p) ps
      ∙ rw (items-joined d R xs p, ← fed-joined d R xs p)
      (append_assoc (rows_in d xs) (items_out d (up_to d xs) p) (all_items d (fed d (up_to d xs) p) ps))

  refusals-from : (xs : List ℕ) (ps : List (List ℕ)) → refusals_in d (xs ++ joined ps) ≡ refusals_in d xs ++ all_refusals d (up_to d xs) ps
  unfolding all_refusals joined
  refusals-from xs [] = rw (append-nil, append-nil)
  refusals-from xs (p ∷ ps) =
      ap (refusals_in d) (sym (append_assoc xs p (joined ps))) ∙ refusals-from (xs ++ p) ps
      ∙ rw (refusals-joined d R xs p, ← fed-joined d R xs p)
      (append_assoc (refusals_in d xs) (refusals_out d (up_to d xs) p) (all_refusals d (fed d (up_to d xs) p) ps))

  pub start_is : up_to d [] ≡ start d
  unfolding fed start after
  start_is = let y : 0 * d.unit ≡ 0 = omega arith in rw (zero-div d.unit, y)

  no_rows : rows_in d [] ≡ []
  unfolding rows
  no_rows = rows-nil d R 0

  no-refusals : refusals_in d [] ≡ []
  unfolding refusals refusals_of
  no-refusals = rw no_rows

  pub all-state : (ps : List (List ℕ)) → fed_all d (start d) ps ≡ up_to d (joined ps)
  all-state ps = ap (λ (st : Pieces). fed_all d st ps) (sym start_is) ∙ state-from [] ps

  pub items-joint : (ps : List (List ℕ)) → all_items d (start d) ps ≡ rows_in d (joined ps)
  items-joint ps = sym (items-from [] ps ∙ rw (no_rows, start_is))

  pub refusals-joint : (ps : List (List ℕ)) → all_refusals d (start d) ps ≡ refusals_in d (joined ps)
  refusals-joint ps = sym (refusals-from [] ps ∙ rw (no-refusals, start_is))

  pub remainder-joint : (ps : List (List ℕ)) → remainder_out d (fed_all d (start d) ps) ≡ remainder_in d (joined ps)
  remainder-joint ps = ap (remainder_out d) (all-state ps) ∙ remainder-joined d R (joined ps)

  -- the refusals of a piece's items
  pub refusals-given : (ps : List (List ℕ)) (piece : List ℕ)
      → refusals_out d (fed_all d (start d) ps) piece ≡ refusals_of (length (all_items d (start d) ps)) (items_out d (fed_all d (start d) ps) piece)
  unfolding refusals_out
  refusals-given ps piece =
      let told : (up_to d (joined ps)).progress.items ≡ length (rows_in d (joined ps)) =
      ap (λ (st : Pieces). st.progress.items) (begun d (joined ps)) ∙ all-items d R (joined ps) in
      let z : (fed_all d (start d) ps).progress.items ≡ length (all_items d (start d) ps) =
      ap (λ (st : Pieces). st.progress.items) (all-state ps) ∙ told ∙ ap length (sym (items-joint ps)) in
      ap (λ (n : ℕ). refusals_of n (items_out d (fed_all d (start d) ps) piece)) z
