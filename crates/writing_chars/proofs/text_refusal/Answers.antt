-- `writing_chars::text_refusal` meets its contract: the first stranger, then the first character. Assumes nothing.
use Rattle.writing_chars.proofs.Strange.{text-strange, text-filled, text-none}
use Rattle.writing_refusal.specs.Refusals.{refusal}
use mathlib.Core.Path.{ap, sym, ◌∙◌}
use Prim.Native.Nat.{ℕ}
use Rattle.writing_chars.proofs.text_refusal.Goals as goal

pub returns-then-at-chars : goal.returns-then-at-chars
returns-then-at-chars c =
    ap (λ (m : ℕ). refusal m c.first_stranger-at.result) c.number_at-number.ensures ∙ text-strange _ _ c.first_stranger-at.ensures c.if-at-chars.true

pub returns-then-begins_filled : goal.returns-then-begins_filled
returns-then-begins_filled c = text-filled _ _ c.first_stranger-at.ensures c.if-at-chars.false (sym c.begins_filled.ensures ∙ c.if-begins_filled.true)

pub returns : goal.returns
returns c = text-none _ _ c.first_stranger-at.ensures c.if-at-chars.false (sym c.begins_filled.ensures ∙ c.if-begins_filled.false)
