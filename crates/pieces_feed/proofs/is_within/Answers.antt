-- `pieces_feed::is_within` meets its contract. Assumes nothing.
use mathlib.Core.Path.{◌≡◌, ap, ◌∙◌}
use Prim.Native.Nat.{ℕ}
use lib.Dec.{leb}
use lib.ListN.{length}
use Rattle.format.specs.Units.{domain}
use Rattle.pieces_feed.proofs.Laws.{taken_more}
use borrow.Author.Rules.{rules}
use Rattle.pieces_feed.proofs.is_within.Goals as goal

pub returns : goal.returns
returns c =
    let a = c.args in
    let l : length a.st.held ≡ 4 = search rules in (
      c.taken_fits.ensures ∙ ap (λ (n : ℕ). leb n (domain a.form).limit) (taken_more (domain a.form) a.st (length a.piece.now)),
      c.requires,
      l,
    )
