use mathlib.Core.Path.{sym, ◌∙◌}
use Rattle.report_general.proofs.Laws.{framed-size, rest-turn}
use Rattle.report_general.proofs.put_judged.Goals as goal

pub put_framed-requires : goal.put_framed-requires
put_framed-requires c = search framed-size

pub returns-in-Unframed : goal.returns-in-Unframed
returns-in-Unframed c = λ Φ. rest-turn Φ _ c.framed.ensures _ _ c.in-Unframed.is

pub returns-in-Item : goal.returns-in-Item
returns-in-Item c = c.put_framed.ensures _ _ (sym c.framed.ensures ∙ c.in-Item.is)
