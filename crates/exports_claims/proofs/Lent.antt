-- The state that C lends is the walk's: zeros are the start, a state that was written is read back as it was, and so the calls step as the
-- walk does. Assumes nothing.
use Rattle.std.specs.Prelude.{ℕ, zero, suc, ◌+◌, ◌<◌, ◌≡◌, refl, List, ◌++◌, Bool, ◌⊎◌, ltb, length, get_or, replicate}
use Rattle.std.proofs.Common.{sym, ap, ◌∙◌, inl, inr, lt-ltb, arith, get_or-append-add, take_at, take_all}
use Rattle.std.proofs.Math.Bool.{true, false}
use Rattle.base.specs.Pick.{pick}
use Rattle.format.specs.Units.{Domain, text, binary}
use Rattle.format.specs.Judging.{max_depth}
use Rattle.laws.specs.Domains.{text-reader, binary-reader}
use Rattle.walk_state.specs.declared.Walk.{Walk}
use Rattle.walk_state.specs.declared.Found.{Found}
use Rattle.walk_state.specs.declared.Found.TheVariants as F
use Rattle.walk_state.specs.Walking.{start, is_fit, step_in, text_item, text_step, binary_item, binary_step}
use Rattle.walk_claims.specs.Words.{Stops, after}
use Rattle.walk_claims.proofs.Runs.{stays, after-fits}
use Rattle.walk_state.specs.Lent.{walk_at}
use Rattle.exports_values.specs.Lent.{state_size, too_many, place_in, place_numbers, walk_of, state_of, text_state_left, binary_state_left}
use Rattle.exports_claims.specs.Words.{text_lent, binary_lent}
use Rattle.exports_claims.specs.Claims.{LentClaims}

-- the numbers behind the slots
behind : (ends ys : List ℕ) → length ends ≡ max_depth → (n : ℕ) → get_or (ends ++ ys) (max_depth + n) 0 ≡ get_or ys n 0
behind ends ys l n = rw (← l) (get_or-append-add ends ys n 0)

module _ (ends : List ℕ) (depth at : ℕ) (full : length ends ≡ max_depth) where
  abbrev numbers : Bool → Bool → List ℕ
  numbers first indexed = ends ++ place_numbers depth at first indexed

  -- a number behind the slots
  number : (first indexed : Bool) (n : ℕ) → get_or (numbers first indexed) (max_depth + n) 0 ≡ get_or (place_numbers depth at first indexed) n 0
  number first indexed n = behind ends (place_numbers depth at first indexed) full n

  back_by : (first indexed : Bool)
      → walk_at (numbers first indexed) (place_in (numbers first indexed)) ≡ record { ends = ends; depth = depth; at = at; first = first; indexed = indexed }
  unfolding place_in
  back_by true true =
      rw (take_at ends (place_numbers depth at true true) max_depth full, number true true 0, number true true 1, number true true 2, number true true 3)
  back_by true false =
      rw (take_at ends (place_numbers depth at true false) max_depth full, number true false 0, number true false 1, number true false 2, number true false 3)
  back_by false true =
      rw (take_at ends (place_numbers depth at false true) max_depth full, number false true 0, number false true 1, number false true 2, number false true 3)
  back_by false false =
      rw (take_at ends (place_numbers depth at false false) max_depth full, number false false 0, number false false 1, number false false 2, number false false 3)

back : (w : Walk) → length w.ends ≡ max_depth → walk_of (state_of w) ≡ w
unfolding walk_of state_of
back w full =
    ap (λ (x : List ℕ). walk_at (x ++ place_numbers w.depth w.at w.first w.indexed) (place_in (x ++ place_numbers w.depth w.at w.first w.indexed)))
    (take_all max_depth w.ends (omega arith))
    ∙ back_by w.ends w.depth w.at full w.first w.indexed

-- ---- a mark is 0 or 1

-- for any other more groups are told to be open than may be
abbrev too_many_open : ℕ → ℕ → ℕ → ℕ
too_many_open mark other depth = pick (ltb 1 mark) too_many (pick (ltb 1 other) too_many depth)

both : (b : Bool) → pick b too_many too_many ≡ too_many
both true = refl
both false = refl

either : (mark other depth : ℕ) → (1 < mark) ⊎ (1 < other) → too_many_open mark other depth ≡ too_many
either mark other depth (inl h) = rw (lt-ltb 1 mark h)
either mark other depth (inr h) = rw (lt-ltb 1 other h) (both (ltb 1 mark))

marks : (s : List ℕ) (n : ℕ) → (1 < get_or s (max_depth + 2) 0) ⊎ (1 < get_or s (max_depth + 3) 0) → is_fit (walk_of s) n ≡ false
unfolding is_fit walk_of place_in
marks s n h = rw (either (get_or s (max_depth + 2) 0) (get_or s (max_depth + 3) 0) (get_or s max_depth 0) h)

-- ---- zeros

zeros : walk_of (replicate state_size 0) ≡ start
unfolding walk_of place_in start
zeros = refl

-- ---- text

text-left : (f : Found ℕ) (w next : Walk) (state : List ℕ) → walk_of state ≡ w → (Stops f → next ≡ w) → length next.ends ≡ max_depth
    → walk_of (text_state_left (text_item f) next state) ≡ next
unfolding text_item text_state_left
text-left (F.Item o n d k h) w next state e s full = back next full
text-left (F.Refused m p) w next state e s full = e ∙ sym (s tt)
text-left F.End w next state e s full = e ∙ sym (s tt)

text-walk : (xs : List ℕ) (k : ℕ) → walk_of (text_lent xs k) ≡ after text xs k
unfolding text_lent after text_step
text-walk xs zero = zeros
text-walk xs (suc k) =
    let e : walk_of (text_lent xs k) ≡ after text xs k = text-walk xs k in
    rw e (text-left (step_in text xs (after text xs k)).found (after text xs k) (step_in text xs (after text xs k)).next (text_lent xs k) e
    (stays text xs (after text xs k)) (after-fits text text-reader xs (suc k)).nest.full)

-- ---- binary

binary-left : (f : Found ℕ) (w next : Walk) (state : List ℕ) → walk_of state ≡ w → (Stops f → next ≡ w) → length next.ends ≡ max_depth
    → walk_of (binary_state_left (binary_item f) next state) ≡ next
unfolding binary_item binary_state_left
binary-left (F.Item o n d k h) w next state e s full = back next full
binary-left (F.Refused m p) w next state e s full = e ∙ sym (s tt)
binary-left F.End w next state e s full = e ∙ sym (s tt)

binary-walk : (xs : List ℕ) (k : ℕ) → walk_of (binary_lent xs k) ≡ after binary xs k
unfolding binary_lent after binary_step
binary-walk xs zero = zeros
binary-walk xs (suc k) =
    let e : walk_of (binary_lent xs k) ≡ after binary xs k = binary-walk xs k in
    rw e (binary-left (step_in binary xs (after binary xs k)).found (after binary xs k) (step_in binary xs (after binary xs k)).next (binary_lent xs k) e
    (stays binary xs (after binary xs k)) (after-fits binary binary-reader xs (suc k)).nest.full)

pub lent-claims : LentClaims
lent-claims = record { zeros = zeros; back = back; marks = marks; text-walk = text-walk; binary-walk = binary-walk }
