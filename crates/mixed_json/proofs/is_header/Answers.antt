-- `mixed_json::is_header` meets its contract. Assumes nothing.
use mathlib.Core.Path.{◌∙◌}
use Rattle.std.proofs.lemmas.Iterator.{YieldsList-from_slice, YieldsList-from_zip}
use Rattle.std.proofs.lemmas.Iterator.Search.{all_from_yields_List}
use Rattle.mixed.specs.Json.{meets, pattern}
use borrow.Author.Rules.{rules}
use Rattle.mixed_json.proofs.Laws.{passes-paired}
use Rattle.mixed_json.proofs.is_header.Goals as goal

pub returns : goal.returns
unfolding pattern
returns c =
    all_from_yields_List (λ q. meets q.0 q.1) c.all.new.self _ _ c.all.ensures.ran
    (YieldsList-from_zip (YieldsList-from_slice pattern cc) (YieldsList-from_slice c.args.s.now cc)) (λ x b q k. search rules)
    ∙ passes-paired pattern 0 c.args.s.now c.requires
