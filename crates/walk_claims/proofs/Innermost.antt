-- The mark of indexed items says what the innermost open group is, all along the walk. Assumes nothing.
use Rattle.std.specs.Prelude.{ℕ, zero, suc, ◌+◌, ◌-◌, ◌*◌, ◌≤◌, ◌≡◌, List, [], ◌∷◌, ◌++◌, Bool, true, false, length, get_or, set, eqb}
use Rattle.std.proofs.Math.Path.{refl, subst}
use Rattle.std.proofs.Common.{ap, sym, ◌∙◌, arith}
use Rattle.base.specs.Pick.{pick}
use Rattle.format.specs.declared.Kind.{Kind}
use Rattle.format.specs.declared.Kind.TheVariants.{Fixed, Variable, Group, Genus, Indexed}
use Rattle.format.specs.declared.Framed.TheVariants.{Item}
use Rattle.format.specs.Units.{Domain}
use Rattle.format.specs.Registry.{is_indexed, is_overrideable}
use Rattle.format.specs.Framing.{frame_next}
use Rattle.laws.specs.Indexed.{FramesIndexed, indexed-only}
use Rattle.laws.specs.Levels.{part}
use Rattle.walk_state.specs.declared.Walk.{Walk}
use Rattle.walk_state.specs.declared.Found.TheVariants as F
use Rattle.walk_state.specs.declared.Stepped.{Stepped}
use Rattle.walk_state.specs.Walking.{start, closed, moved_to, next_of, past, stop_of, found_in, step_in}
use Rattle.walk_claims.specs.Words.{units_in, tail_of, after, letter_of, still_open, open_groups, innermost_indexed}
use Rattle.walk_claims.proofs.Steps.{asked, step_by, in-by, in_elements, over_next, into_next, entered, opens-next}

-- ---- what holds of a state and the letters of its open groups

-- none of them is a signature group
pub data Plain : List ℕ → Type 0 where
  none : Plain []
  more : {l : ℕ} {ls : List ℕ} → is_indexed l ≡ false → Plain ls → Plain (l ∷ ls)

-- all around the innermost one
abbrev Around : List ℕ → Type 0
Around [] = Unit {0}
Around (l ∷ ls) = Plain ls

record Says (w : Walk) (letters : List ℕ) : Type 0 where
  many : length letters ≡ w.depth
  mark : w.indexed ≡ innermost_indexed letters
  around : Around letters

plain-mark : (ls : List ℕ) → Plain ls → innermost_indexed ls ≡ false
unfolding innermost_indexed
plain-mark [] none = refl
plain-mark (l ∷ ls) (more e p) = e

plain-around : (ls : List ℕ) → Plain ls → Around ls
plain-around [] none = tt
plain-around (l ∷ ls) (more e p) = p

-- where the innermost is none, all are
all_plain : (ls : List ℕ) → innermost_indexed ls ≡ false → Around ls → Plain ls
unfolding innermost_indexed
all_plain [] e a = none
all_plain (l ∷ ls) e a = more e a

-- ---- closing

still-all : (ls : List ℕ) → still_open (length ls) ls ≡ ls
unfolding still_open
still-all ls = let z : length ls - length ls ≡ 0 = omega arith in rw z

still-inner : (d l : ℕ) (ls : List ℕ) → d ≤ length ls → still_open d (l ∷ ls) ≡ still_open d ls
unfolding still_open
still-inner d l ls h = let z : suc (length ls) - d ≡ suc (length ls - d) = omega arith in rw z

-- none closes
keep_all : (w : Walk) (letters : List ℕ) → Says w letters → Says w (still_open w.depth letters)
keep_all w letters s =
    subst (Says w) (sym (ap (λ (d : ℕ). still_open d letters) (sym s.many) ∙ still-all letters)) s

closed-few : (k : ℕ) (w : Walk) → w.depth ≡ k → (closed k w).depth ≤ k
unfolding closed
closed-few zero w e = omega arith
closed-few (suc k) w e = go (eqb (get_or w.ends k 0) w.at) (closed-few k _ refl)
  where
    outside : Walk
    outside = record { ends = set w.ends k 0; depth = k; at = w.at; first = w.first; indexed = false }

    go : (b : Bool) → (closed k outside).depth ≤ k → (pick b (closed k outside) w).depth ≤ suc k
    go true h = omega arith
    go false h = omega arith

closed-says : (k : ℕ) (w : Walk) (letters : List ℕ) → w.depth ≡ k → Says w letters → Says (closed k w) (still_open (closed k w).depth letters)
unfolding closed
closed-says zero w letters e s = keep_all w letters s
closed-says (suc k) w [] e s = absurd (omega (arith, s.many))
closed-says (suc k) w (l ∷ ls) e s =
    go (eqb (get_or w.ends k 0) w.at) (closed-few k outside refl) (closed-says k outside ls refl
    (record { many = omega (arith, s.many); mark = sym (plain-mark ls s.around); around = plain-around ls s.around }))
  where
    outside : Walk
    outside = record { ends = set w.ends k 0; depth = k; at = w.at; first = w.first; indexed = false }

    go : (b : Bool) → (closed k outside).depth ≤ k → Says (closed k outside) (still_open (closed k outside).depth ls)
        → Says (pick b (closed k outside) w) (still_open (pick b (closed k outside) w).depth (l ∷ ls))
    go true h t = rw (still-inner (closed k outside).depth l ls (omega (arith, s.many))) t
    go false h t = keep_all w (l ∷ ls) s

-- ---- a step

module _ (d : Domain) (xs : List ℕ) (w : Walk) (letters : List ℕ) (s : Says w letters) where
  abbrev SaysNext : Stepped ℕ → Type 0
  SaysNext r = Says r.next (still_open r.next.depth (letter_of r.found ++ letters))

  abbrev ahead : List ℕ
  ahead = part (d.sextets xs) w.at (stop_of w (units_in d xs))

  over : (m : ℕ) → Says (over_next w m) (still_open (over_next w m).depth letters)
  unfolding moved_to
  over m =
      closed-says w.depth (moved_to w (w.at + m)) letters refl
      (record { many = s.many; mark = s.mark; around = s.around })

  -- a group stands in no signature group
  unmarked : (letter h m : ℕ) → frame_next w.indexed (asked w) ahead ≡ Item (Group letter) h m → w.indexed ≡ false
  unmarked letter h m e = by w.indexed e
    where
      by : (b : Bool) → frame_next b (asked w) ahead ≡ Item (Group letter) h m → b ≡ false
      by true f = absurd (subst FramesIndexed f (indexed-only (asked w) ahead))
      by false f = refl

  into : (letter h m : ℕ) → frame_next w.indexed (asked w) ahead ≡ Item (Group letter) h m
      → let v = into_next w h m (is_overrideable letter) (is_indexed letter) in Says v (still_open v.depth (letter ∷ letters))
  unfolding innermost_indexed
  into letter h m e =
      closed-says (suc w.depth) (entered w h m (is_overrideable letter) (is_indexed letter)) (letter ∷ letters) refl
      (record {
        many = omega (arith, s.many);
        mark = refl;
        around = all_plain letters (sym s.mark ∙ unmarked letter h m e) s.around;
      })

  yielded : (k : Kind) (h m : ℕ) → frame_next w.indexed (asked w) ahead ≡ Item k h m
      → SaysNext (record { next = next_of w k h m; found = F.Item (w.at * d.unit) (m * d.unit) w.depth k h })
  unfolding next_of past moved_to letter_of
  yielded (Fixed c) h m e = over m
  yielded (Variable t l c) h m e = over m
  yielded Genus h m e = over m
  yielded (Indexed c) h m e = over m
  yielded (Group letter) h m e =
      subst (λ (v : Walk). Says v (still_open v.depth (letter ∷ letters))) (sym (opens-next w h m letter)) (into letter h m e)

  step-says : SaysNext (step_in d xs w)
  unfolding found_in letter_of
  step-says =
      in-by d xs w SaysNext (λ _. keep_all w letters s) (λ _ _. keep_all w letters s)
      (λ _ _. step_by (d.sextets xs) (units_in d xs) (tail_of d xs) w (λ r. SaysNext (in_elements d.unit r))
      (λ _ _. keep_all w letters s) (λ _ _. keep_all w letters s) (λ m p _ _. keep_all w letters s) (λ k h m q p _ _ _. keep_all w letters s)
      (λ k h m _ e _. yielded k h m e))

-- ---- all along the walk

says-after : (d : Domain) (xs : List ℕ) (k : ℕ) → Says (after d xs k) (open_groups d xs k)
unfolding after open_groups start innermost_indexed
says-after d xs zero = record { many = refl; mark = refl; around = tt }
says-after d xs (suc k) = step-says d xs (after d xs k) (open_groups d xs k) (says-after d xs k)

pub innermost : (d : Domain) (xs : List ℕ) (k : ℕ) → (length (open_groups d xs k) ≡ (after d xs k).depth)
    × ((after d xs k).indexed ≡ innermost_indexed (open_groups d xs k))
innermost d xs k = let s = says-after d xs k in (s.many, s.mark)
