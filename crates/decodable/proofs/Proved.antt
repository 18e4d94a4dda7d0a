-- No two decks alike: four instances of one law. Assumes nothing.
use Rattle.format.specs.Units.{text_sextets, binary_sextets}
use Rattle.decodable.specs.Words.{UniquelyDecodable, PrefixFree}
use Rattle.decodable.specs.Claims.{text_of, binary_of, Same, indexed_text_of, indexed_binary_of, SameIndexed, NoTwoAlike}
use Rattle.decodable.proofs.Law.{told}
use Rattle.decodable.proofs.Primitives as P
use Rattle.decodable.proofs.Indexed as I

text : UniquelyDecodable text_of (λ a b. Same a.given b.given) × PrefixFree text_of (λ a b. Same a.given b.given)
text =
    told text_of (λ a b. Same a.given b.given) (λ s a. P.Finds 4 (text_sextets s) a.given) P.text-back
    (λ s a b. P.once 4 (text_sextets s) a.given b.given) P.text-none

binary : UniquelyDecodable binary_of (λ a b. Same a.given b.given) × PrefixFree binary_of (λ a b. Same a.given b.given)
binary =
    told binary_of (λ a b. Same a.given b.given) (λ s a. P.Finds 3 (binary_sextets s) a.given) P.binary-back
    (λ s a b. P.once 3 (binary_sextets s) a.given b.given) P.binary-none

indexed-text : UniquelyDecodable indexed_text_of (λ a b. SameIndexed a.given b.given)
    × PrefixFree indexed_text_of (λ a b. SameIndexed a.given b.given)
indexed-text =
    told indexed_text_of (λ a b. SameIndexed a.given b.given) (λ s a. I.Finds 4 (text_sextets s) a.given) I.text-back
    (λ s a b. I.once 4 (text_sextets s) a.given b.given) I.text-none

indexed-binary : UniquelyDecodable indexed_binary_of (λ a b. SameIndexed a.given b.given)
    × PrefixFree indexed_binary_of (λ a b. SameIndexed a.given b.given)
indexed-binary =
    told indexed_binary_of (λ a b. SameIndexed a.given b.given) (λ s a. I.Finds 3 (binary_sextets s) a.given) I.binary-back
    (λ s a b. I.once 3 (binary_sextets s) a.given b.given) I.binary-none

pub proved : NoTwoAlike
proved = record {
  text = text.0;
  text-beginning = text.1;
  binary = binary.0;
  binary-beginning = binary.1;
  indexed-text = indexed-text.0;
  indexed-text-beginning = indexed-text.1;
  indexed-binary = indexed-binary.0;
  indexed-binary-beginning = indexed-binary.1;
}
