-- "an item's rows are given when its last byte has come": of the whole stream's rows, a piece gives those whose items end in it. Assumes
-- nothing.
use Prim.Native.Nat.{ℕ, zero, suc, ◌+◌, ◌-◌, ◌*◌, ◌/◌, ◌%◌, ◌≤◌, ◌<◌}
use Rattle.std.specs.Prelude.{◌≡◌, List, [], ◌∷◌, ◌++◌, Bool, true, false, ltb, leb, length, take, drop}
use Rattle.std.proofs.Math.Path.{refl, ap}
use Rattle.std.proofs.Common.{sym, ◌∙◌, subst, append-nil, append_assoc, arith, div-add-mod', mod-lt, length-append, lt-ltb, le-ltb, le-leb}
use Rattle.std.proofs.Math.Nat.{add-mul, mul-le-mul_right}
use Rattle.std.proofs.lemmas.Bool.{lt-leb}
use Rattle.base.specs.Pick.{pick-by}
use Rattle.base.specs.Cases.{whether}
use Rattle.format.specs.Units.{Domain}
use Rattle.format.specs.Report.{ItemRow, rows_in}
use Rattle.laws.specs.Domains.{Reader}
use Rattle.walk_claims.specs.Words.{units_in}
use Rattle.walk_claims.proofs.Streams.{room}
use Rattle.pieces.specs.declared.Progress.{Progress}
use Rattle.pieces.specs.Steps.{unit_step, is_whole, rows_from}
use Rattle.pieces.specs.Feeding.{after, rows_after, begin, items_out}
use Rattle.pieces_whole.specs.Run.{step_kept, after_read}
use Rattle.pieces_whole.specs.Whole.{all-rows}
use Rattle.pieces_fit.specs.Sound.{whole-some}
use Rattle.pieces_claims.specs.Words.{ended_in}
use Rattle.pieces_claims.proofs.Joining.{up_to, total, items-out, items-joined, ys}

-- ends above lo and not above hi
data Between (lo hi : ℕ) : List ItemRow → Type 0 where
  none : Between lo hi []
  more : {r : ItemRow} {rs : List ItemRow} → lo < r.offset + r.size → r.offset + r.size ≤ hi → Between lo hi rs → Between lo hi (r ∷ rs)

between_join : (lo hi : ℕ) (rs ss : List ItemRow) → Between lo hi rs → Between lo hi ss → Between lo hi (rs ++ ss)
between_join lo hi [] ss none b = b
between_join lo hi (r ∷ rs) ss (more p q a) b = more p q (between_join lo hi rs ss a b)

between-wider : (lo hi lo' hi' : ℕ) (rs : List ItemRow) → lo' ≤ lo → hi ≤ hi' → Between lo hi rs → Between lo' hi' rs
between-wider lo hi lo' hi' [] k l none = none
between-wider lo hi lo' hi' (r ∷ rs) k l (more p q a) =
    let p' : lo' < r.offset + r.size = omega arith in
    let q' : r.offset + r.size ≤ hi' = omega arith in
    more p' q' (between-wider lo hi lo' hi' rs k l a)

-- rows that end before lo, those between, and those behind hi
early-none : (lo hi x : ℕ) (rs ss : List ItemRow) → Between x lo rs → ended_in lo hi (rs ++ ss) ≡ ended_in lo hi ss
unfolding ended_in
early-none lo hi x [] ss none = refl
early-none lo hi x (r ∷ rs) ss (more p q a) = rw (le-ltb lo (r.offset + r.size) q) (early-none lo hi x rs ss a)

within_all : (lo hi : ℕ) (rs ss : List ItemRow) → Between lo hi rs → ended_in lo hi (rs ++ ss) ≡ rs ++ ended_in lo hi ss
unfolding ended_in
within_all lo hi [] ss none = refl
within_all lo hi (r ∷ rs) ss (more p q a) =
    rw (lt-ltb lo (r.offset + r.size) p, le-leb (r.offset + r.size) hi q, within_all lo hi rs ss a)

late-none : (lo hi x : ℕ) (rs : List ItemRow) → lo ≤ hi → Between hi x rs → ended_in lo hi rs ≡ []
unfolding ended_in
late-none lo hi x [] l none = refl
late-none lo hi x (r ∷ rs) l (more p q a) =
    rw (lt-ltb lo (r.offset + r.size) (omega arith), lt-leb (r.offset + r.size) hi p) (late-none lo hi x rs l a)

-- ---- a row comes with its item's last unit

row-end : (u : ℕ) (p : Progress) → is_whole p ≡ true → p.start * u + (p.read - p.start) * u ≡ p.read * u
unfolding is_whole
row-end u p e =
    let l : p.start < p.read = whole-some p.phase p e in
    let z : p.start + (p.read - p.start) ≡ p.read = omega arith in
    sym (add-mul p.start (p.read - p.start) u) ∙ ap (λ (k : ℕ). k * u) z

module _ (u : ℕ) (pos : 0 < u) where
  step_row : (p : Progress) (lo : ℕ) → lo < p.read * u → Between lo (p.read * u) (rows_from u p)
  unfolding rows_from
  step_row p lo l =
      pick-by (Between lo (p.read * u)) (is_whole p) _ _
      (λ e. more (omega (arith, row-end u p e)) (omega (arith, row-end u p e)) none) (λ _. none)

  rows-between : (p : Progress) (s : List ℕ) (k : ℕ) → Between (p.read * u + u - 1) ((p.read + k) * u) (rows_after u p s k)
  unfolding rows_after
  rows-between p s zero = none
  rows-between p s (suc k) =
      let n : Progress = unit_step (after p s k) (take 4 (drop (4 * k) s)) in
      let r : n.read ≡ p.read + suc k = (step_kept (after p s k) (take 4 (drop (4 * k) s))).read ∙ omega (arith, after_read p s k) in
      let a : (p.read + k) * u ≤ (p.read + suc k) * u = mul-le-mul_right u (omega arith) in
      let b : n.read * u ≡ (p.read + suc k) * u = ap (λ (x : ℕ). x * u) r in
      let c : (p.read + 1) * u ≤ (p.read + suc k) * u = mul-le-mul_right u (omega arith) in
      between_join _ _ (rows_after u p s k) (rows_from u n) (between-wider _ _ _ _ (rows_after u p s k) (omega arith) a (rows-between p s k))
      (subst (λ (h : ℕ). Between (p.read * u + u - 1) h (rows_from u n)) b (step_row n (p.read * u + u - 1) (omega (arith, add-mul p.read 1 u))))

-- ---- a stream so far, and what comes behind it

module _ (d : Domain) (R : Reader d) where
  begin-read : begin.read ≡ 0
  unfolding begin
  begin-read = refl

  -- the rows so far end within the stream
  so_far : (xs : List ℕ) → Between (d.unit - 1) (length xs) (rows_in d xs)
  so_far xs =
      let z : begin.read + units_in d xs ≡ units_in d xs = omega (arith, begin-read) in
      let hi : (begin.read + units_in d xs) * d.unit ≤ length xs = rw z (room d R xs (units_in d xs) (omega arith)) in
      let lo : begin.read * d.unit ≡ 0 = rw begin-read (omega arith) in
      subst (Between (d.unit - 1) (length xs)) (all-rows d R xs)
      (between-wider _ _ _ _ _ (omega arith) hi (rows-between d.unit R.pos begin (d.sextets xs) (units_in d xs)))

  -- the rows behind end behind it
  behind : (xs piece : List ℕ) → Between (length xs) (length (xs ++ piece)) (items_out d (up_to d xs) piece)
  behind xs piece =
      let n : ℕ = units_in d xs in
      let p : Progress = after begin (d.sextets xs) n in
      let v : List ℕ = ys d R xs piece in
      let r : p.read ≡ n = after_read begin (d.sextets xs) n ∙ omega (arith, begin-read) in
      let lo : length xs ≤ p.read * d.unit + d.unit - 1 =
      rw r (omega (arith, div-add-mod' (length xs) d.unit, mod-lt (length xs) R.pos)) in
      let z : p.read + length v / d.unit ≡ units_in d (xs ++ piece) = ap (λ (k : ℕ). k + length v / d.unit) r ∙ sym (total d R xs piece) in
      let hi : (p.read + length v / d.unit) * d.unit ≤ length (xs ++ piece) =
      rw z (room d R (xs ++ piece) (units_in d (xs ++ piece)) (omega arith)) in
      subst (Between (length xs) (length (xs ++ piece))) (sym (items-out d R xs piece))
      (between-wider _ _ _ _ _ lo hi (rows-between d.unit R.pos p (d.sextets v) (length v / d.unit)))

  pub in-time : (xs piece rest : List ℕ)
      → items_out d (up_to d xs) piece ≡ ended_in (length xs) (length xs + length piece) (rows_in d (xs ++ (piece ++ rest)))
  in-time xs piece rest =
      let lo : ℕ = length xs in
      let hi : ℕ = length xs + length piece in
      let out : List ItemRow = items_out d (up_to d xs) piece in
      let later : List ItemRow = items_out d (up_to d (xs ++ piece)) rest in
      let e : rows_in d (xs ++ (piece ++ rest)) ≡ rows_in d xs ++ (out ++ later) =
      ap (rows_in d) (sym (append_assoc xs piece rest)) ∙ items-joined d R (xs ++ piece) rest
      ∙ rw (items-joined d R xs piece) (append_assoc (rows_in d xs) out later) in
      let z : length (xs ++ piece) ≡ hi = length-append xs piece in
      sym (ap (ended_in lo hi) e ∙ early-none lo hi _ (rows_in d xs) (out ++ later) (so_far xs)
      ∙ within_all lo hi out later (subst (λ (h : ℕ). Between lo h out) z (behind xs piece))
      ∙ rw (late-none lo hi _ later (omega arith) (subst (λ (l : ℕ). Between l (length ((xs ++ piece) ++ rest)) later) z (behind (xs ++ piece) rest)))
      (append-nil out))
