-- What a step over a lent state gives C: the walk's step in the state's own slots is the step of the state that the numbers are. Assumes
-- nothing.
use mathlib.Core.Path.{◌≡◌, refl, ap, sym, ◌∙◌}
use mathlib.Core.List.{List, ◌++◌}
use Prim.Native.Nat.{ℕ}
use native.Mathlib.Omega.{arith}
use lib.Seq.{take-take}
use Rattle.format.specs.declared.Kind.{Kind}
use Rattle.format.specs.Units.{text, binary}
use Rattle.format.specs.Judging.{max_depth}
use Rattle.walk_state.specs.declared.Place.{Place}
use Rattle.walk_state.specs.declared.Found.TheVariants as F
use Rattle.walk_state.specs.Walking.{step_in, text_item, text_step, binary_item, binary_step}
use Rattle.walk_state.specs.Lent.{slots_in, walk_at}
use Rattle.walk.specs.declared.Moved.{Moved}
use Rattle.walk.specs.Stepping.{is_item, Steps}
use Rattle.exports_values.specs.Lent.{place_in, place_numbers, walk_of, state_of, item_of}
use Rattle.exports_values.specs.Lent.{text_step_number, text_step_value, text_yield_left, text_state_left}
use Rattle.exports_values.specs.Lent.{binary_step_number, binary_step_value, binary_yield_left, binary_state_left}

module _ (xs before : List ℕ) {after : List ℕ} {p : Place} {m : Moved} (e : p ≡ place_in before) (t : Steps before after m (step_in text xs (walk_at before p))) where
  text-found : (text_step xs (walk_of before)).found ≡ text_item m.found
  unfolding text_step walk_of
  text-found = rw (← e) (ap text_item (sym t.found))

  text-next : (text_step xs (walk_of before)).next ≡ walk_at after m.place
  unfolding text_step walk_of
  text-next = rw (← e) (sym t.moves.state)

  pub text-yields : {o n d h : ℕ} {k : Kind} → m.found ≡ F.Item o n d k h → (item : List ℕ) {row state : List ℕ} → row ≡ item_of o n d k h
      → state ≡ slots_in after ++ place_numbers m.place.depth m.place.at m.place.first m.place.indexed
      → (0 ≡ text_step_number (text_step xs (walk_of before)).found) × ((0 ≡ text_step_value (text_step xs (walk_of before)).found)
      × ((row ≡ text_yield_left (text_step xs (walk_of before)).found item)
      × (state ≡ text_state_left (text_step xs (walk_of before)).found (text_step xs (walk_of before)).next before)))
  unfolding text_item text_step_number text_step_value text_yield_left text_state_left state_of
  text-yields g item r s = rw (text-found, text-next, g) (refl, (refl, (r, s ∙ ap (λ (x : List ℕ). x ++ place_numbers m.place.depth m.place.at m.place.first m.place.indexed) (sym (take-take max_depth max_depth after (omega arith))))))

  pub text-refuses : {number place : ℕ} → m.found ≡ F.Refused number place → (item : List ℕ)
      → (number ≡ text_step_number (text_step xs (walk_of before)).found) × ((place ≡ text_step_value (text_step xs (walk_of before)).found)
      × ((item ≡ text_yield_left (text_step xs (walk_of before)).found item)
      × (after ≡ text_state_left (text_step xs (walk_of before)).found (text_step xs (walk_of before)).next before)))
  unfolding text_item text_step_number text_step_value text_yield_left text_state_left
  text-refuses g item = rw (text-found, g) (refl, (refl, (refl, t.kept (ap is_item g))))

  pub text-ends : m.found ≡ F.End → (item : List ℕ)
      → (255 ≡ text_step_number (text_step xs (walk_of before)).found) × ((0 ≡ text_step_value (text_step xs (walk_of before)).found)
      × ((item ≡ text_yield_left (text_step xs (walk_of before)).found item)
      × (after ≡ text_state_left (text_step xs (walk_of before)).found (text_step xs (walk_of before)).next before)))
  unfolding text_item text_step_number text_step_value text_yield_left text_state_left
  text-ends g item = rw (text-found, g) (refl, (refl, (refl, t.kept (ap is_item g))))

module _ (xs before : List ℕ) {after : List ℕ} {p : Place} {m : Moved} (e : p ≡ place_in before) (t : Steps before after m (step_in binary xs (walk_at before p))) where
  binary-found : (binary_step xs (walk_of before)).found ≡ binary_item m.found
  unfolding binary_step walk_of
  binary-found = rw (← e) (ap binary_item (sym t.found))

  binary-next : (binary_step xs (walk_of before)).next ≡ walk_at after m.place
  unfolding binary_step walk_of
  binary-next = rw (← e) (sym t.moves.state)

  pub binary-yields : {o n d h : ℕ} {k : Kind} → m.found ≡ F.Item o n d k h → (item : List ℕ) {row state : List ℕ} → row ≡ item_of o n d k h
      → state ≡ slots_in after ++ place_numbers m.place.depth m.place.at m.place.first m.place.indexed
      → (0 ≡ binary_step_number (binary_step xs (walk_of before)).found) × ((0 ≡ binary_step_value (binary_step xs (walk_of before)).found)
      × ((row ≡ binary_yield_left (binary_step xs (walk_of before)).found item)
      × (state ≡ binary_state_left (binary_step xs (walk_of before)).found (binary_step xs (walk_of before)).next before)))
  unfolding binary_item binary_step_number binary_step_value binary_yield_left binary_state_left state_of
  binary-yields g item r s = rw (binary-found, binary-next, g) (refl, (refl, (r, s ∙ ap (λ (x : List ℕ). x ++ place_numbers m.place.depth m.place.at m.place.first m.place.indexed) (sym (take-take max_depth max_depth after (omega arith))))))

  pub binary-refuses : {number place : ℕ} → m.found ≡ F.Refused number place → (item : List ℕ)
      → (number ≡ binary_step_number (binary_step xs (walk_of before)).found) × ((place ≡ binary_step_value (binary_step xs (walk_of before)).found)
      × ((item ≡ binary_yield_left (binary_step xs (walk_of before)).found item)
      × (after ≡ binary_state_left (binary_step xs (walk_of before)).found (binary_step xs (walk_of before)).next before)))
  unfolding binary_item binary_step_number binary_step_value binary_yield_left binary_state_left
  binary-refuses g item = rw (binary-found, g) (refl, (refl, (refl, t.kept (ap is_item g))))

  pub binary-ends : m.found ≡ F.End → (item : List ℕ)
      → (255 ≡ binary_step_number (binary_step xs (walk_of before)).found) × ((0 ≡ binary_step_value (binary_step xs (walk_of before)).found)
      × ((item ≡ binary_yield_left (binary_step xs (walk_of before)).found item)
      × (after ≡ binary_state_left (binary_step xs (walk_of before)).found (binary_step xs (walk_of before)).next before)))
  unfolding binary_item binary_step_number binary_step_value binary_yield_left binary_state_left
  binary-ends g item = rw (binary-found, g) (refl, (refl, (refl, t.kept (ap is_item g))))
