-- The numbers by which C is told an item's code, computed by the definitions. Assumes nothing.
use Rattle.std.specs.Prelude.{refl}
use Rattle.format.specs.Alphabet.{char_of}
use Rattle.format.specs.Indexed.{code_of_row}
use Rattle.exports_values.specs.Lent.{sort_of, sign_of, lead_of, item_of}
use Rattle.exports_indexed.specs.Answers.{info_of}
use Rattle.exports_claims.specs.Claims.{ToldClaims}

pub told-claims : ToldClaims
unfolding item_of sort_of sign_of lead_of code_of_row char_of info_of
told-claims = record {
  small-value = refl;
  large-value = refl;
  small-group = refl;
  large-group = refl;
  genus = refl;
  indexed-alone = refl;
  indexed-paired = refl;
  indexed-info = refl;
}
