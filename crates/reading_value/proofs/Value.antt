-- The buffer: raw bytes, and a text behind them. Assumes nothing.
use mathlib.Core.Path.{◌≡◌, ◌∙◌}
use mathlib.Core.List.{List, ◌++◌}
use Prim.Native.Nat.{ℕ, ◌+◌, ◌-◌, ◌*◌, ◌/◌, ◌≤◌}
use native.Mathlib.Omega.{arith}
use lib.ListN.{length, take, drop, length-drop}
use lib.Seq.{take_at, drop_at, drop-drop}
use Rattle.format.specs.Conversion.{to_binary}
use Rattle.laws.specs.Conversion.{length-to-binary}
use Rattle.judging.proofs.Laws.{to_end}
use Rattle.reading_raw.specs.Raw.{raw_into}
use Rattle.reading_value.specs.Value.{value_into}

pub put-value : (t d : List ℕ) (start raw text : ℕ) → start ≤ length t / 4 * 3 → raw ≡ length t / 4 * 3 - start → text ≤ length t → raw + text ≤ length d
    → (d₁ : List ℕ) → d₁ ≡ raw_into t start d → (d₂ : List ℕ) → d₂ ≡ take (length t - (length t - text)) (drop (length t - text) t)
    → take raw d₁ ++ (d₂ ++ drop (raw + text - raw) (drop raw d₁)) ≡ value_into t start text d
put-value t d start raw text i r few room d₁ p d₂ q =
    let bytes = drop start (to_binary t) in
    let l : length bytes ≡ raw = length-drop start (to_binary t) ∙ omega (arith, length-to-binary t) in
    let p' : d₁ ≡ bytes ++ drop raw d = p ∙ rw (← r) in
    let front : take raw d₁ ≡ bytes = rw p' (take_at bytes (drop raw d) raw l) in
    let rest : drop raw d₁ ≡ drop raw d = rw p' (drop_at bytes (drop raw d) raw l) in
    let behind : drop (raw + text - raw) (drop raw d) ≡ drop (raw + text) d = let z : raw + (raw + text - raw) ≡ raw + text = omega arith in rw (drop-drop, z) in
    rw (front, rest, behind, q ∙ to_end t (length t - text), ← r)
