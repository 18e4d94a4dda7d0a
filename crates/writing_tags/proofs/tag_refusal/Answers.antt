-- `writing_tags::tag_refusal` meets its contract: the first stranger among the tag characters, if there is one. Assumes nothing.
use Rattle.writing_tags.proofs.Strange.{tag-strange, tag-none}
use Rattle.writing_refusal.specs.Refusals.{refusal}
use mathlib.Core.Path.{ap, ◌∙◌}
use Prim.Native.Nat.{ℕ}
use Rattle.writing_tags.proofs.tag_refusal.Goals as goal

pub returns-then-bad-tags : goal.returns-then-bad-tags
returns-then-bad-tags c =
    ap (λ (m : ℕ). refusal m c.tag_stranger-bad.result) c.number_at-number.ensures ∙ tag-strange _ _ _ c.tag_stranger-bad.ensures c.if-bad-tags.true

pub returns : goal.returns
returns c = tag-none _ _ _ c.tag_stranger-bad.ensures c.if-bad-tags.false
