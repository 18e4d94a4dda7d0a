-- Units one behind the other, as the code takes them: a state whose walk's ends are lent, and rows in two buffers. Assumes nothing.
use Rattle.std.specs.Prelude.{ℕ, ◌+◌, ◌*◌, ◌/◌, ◌≤◌, ◌≡◌, List, ◌++◌, length, take}
use Rattle.std.proofs.lemmas.List.Edits.{sets}
use Rattle.format.specs.declared.Form.{Form}
use Rattle.format.specs.Units.{domain}
use Rattle.format.specs.Judging.{max_depth}
use Rattle.format.specs.Report.{row_bytes, refusal_bytes, concat, refusals_of}
use Rattle.pieces.specs.Feeding.{after, rows_after}
use Rattle.pieces.specs.Calls.{most_units}
use Rattle.pieces_fit.specs.Sound.{Sound}
use Rattle.pieces_stage.specs.declared.Stage.{Stage}
use Rattle.pieces_stage.specs.Stages.{progress_at, Becomes}

-- what is held, so many, and the piece
abbrev pub held_with : List ℕ → ℕ → List ℕ → List ℕ
held_with held count piece = take count held ++ piece

-- what is asked of a state and a piece
pub record Starts (form : Form) (slots : List ℕ) (g : Stage) (count : ℕ) (piece : List ℕ) : Type 0 where
  pub room : max_depth ≤ length slots
  pub sound : Sound (most_units (domain form)) (progress_at slots g)
  pub few : count ≤ 4
  pub within : g.read + (count + length piece) / (domain form).unit ≤ most_units (domain form)

-- s: the sextets of all units, of which k were taken
pub record Running (u : ℕ) (slots₀ : List ℕ) (g₀ : Stage) (s items₀ refusals₀ : List ℕ) (k : ℕ) (slots : List ℕ) (g : Stage) (items refusals : List ℕ)
    (i j : ℕ) : Type 0 where
  pub state : Becomes slots₀ slots g (after (progress_at slots₀ g₀) s k)
  pub many : i ≡ length (rows_after u (progress_at slots₀ g₀) s k)
  pub bad : j ≡ length (refusals_of g₀.items (rows_after u (progress_at slots₀ g₀) s k))
  pub rows : 9 * i ≤ length items₀ → items ≡ sets items₀ 0 (concat row_bytes (rows_after u (progress_at slots₀ g₀) s k))
  pub refused : 9 * j ≤ length refusals₀
      → refusals ≡ sets refusals₀ 0 (concat refusal_bytes (refusals_of g₀.items (rows_after u (progress_at slots₀ g₀) s k)))
