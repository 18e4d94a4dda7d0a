-- Primitives are told by what is written of them: the law's premises, from what the round trips say of single ones. Assumes nothing.
use Rattle.std.specs.Prelude.{ℕ, ◌*◌, ◌≡◌, List, [], ◌++◌, length, drop}
use Rattle.std.proofs.Common.{sym, ap, ◌∙◌, arith, take_at}
use Rattle.base.specs.Each.{each}
use Rattle.format.specs.Units.{text_sextets, binary_sextets}
use Rattle.format.specs.Conversion.{to_text}
use Rattle.format.specs.Framing.{frame, frame_with}
use Rattle.format.specs.Reading.{reading, read_framed}
use Rattle.format.specs.Writing.{named, writing, write_text, write_binary, text_item_left, binary_item_left}
use Rattle.laws.specs.Conversion.{length-to-text}
use Rattle.roundtrip.specs.Claims.{Given, tag_given, item_of, Accepts, Reads}
use Rattle.roundtrip.proofs.Sextets as S
use Rattle.decodable.specs.Words.{Accepted}
use Rattle.decodable.specs.Claims.{TextAnswers, BinaryAnswers, text_of, binary_of, Same}
use Rattle.decodable.proofs.Answers.{Units, text-units, binary-units, found-same, unfound}

-- ---- a reading finds it

-- in the first size elements, s being sextets, u elements to the unit
pub record Finds (u : ℕ) (s : List ℕ) (g : Given) (size : ℕ) : Type 0 where
  pub units : ℕ
  pub reads : Reads s g units
  pub tag-count : length (tag_given g) ≡ g.tags
  pub size_is : size ≡ units * u

pub once : (u : ℕ) (s : List ℕ) (g g' : Given) (m n : ℕ) → Finds u s g m → Finds u s g' n → Same g g' × (m ≡ n)
once u s g g' m n a b =
    let r = a.reads in
    let q = b.reads in
    let e = found-same r.reads q.reads in
    let tag : tag_given g ≡ tag_given g' = sym r.tag_back ∙ rw (e.0, e.2) q.tag_back in (
      record {
        code = sym r.code-back ∙ rw (e.0, e.1) q.code-back;
        tags = sym a.tag-count ∙ ap length tag ∙ b.tag-count;
        tag = tag;
        value = sym r.raw-back ∙ rw (e.0, e.1, e.2) q.raw-back;
      },
      a.size_is ∙ ap (λ (x : ℕ). x * u) e.2 ∙ sym b.size_is,
    )

-- framing refuses the end with 4
pub none : (u : ℕ) (g : Given) (n : ℕ) → Finds u [] g n → ⊥
unfolding reading read_framed frame frame_with
none u g n f = unfound f.reads.reads

-- ---- in text

module _ (a : Accepted TextAnswers) where
  text-sized : Units 4 (writing 4 (named a.given.code) a.given.tag a.given.tags a.given.raw (length a.buffer)) a.size
  unfolding write_text
  text-sized = text-units _ a.size a.accepts

  abbrev text-accepts : Accepts 4 a.given (length a.buffer) text-sized.units
  text-accepts = text-sized.is

  text-length : length (to_text (item_of a.given)) ≡ a.size
  text-length =
      length-to-text (item_of a.given)
      ∙ omega (arith, S.written-length 4 (length a.buffer) text-sized.units a.given text-accepts, text-sized.size_is)

  pub text-is : text_of a ≡ to_text (item_of a.given)
  unfolding text_item_left
  text-is = rw a.accepts (take_at (to_text (item_of a.given)) (drop a.size a.buffer) a.size text-length)

  pub text-back : (rest : List ℕ) → Finds 4 (text_sextets (text_of a ++ rest)) a.given (length (text_of a))
  text-back rest = record {
    units = text-sized.units;
    reads = rw text-is (S.text-reads 4 (length a.buffer) text-sized.units a.given text-accepts rest);
    tag-count = S.tag-count 4 (length a.buffer) text-sized.units a.given text-accepts;
    size_is = ap length text-is ∙ text-length ∙ text-sized.size_is;
  }

pub text-none : (a : Accepted TextAnswers) (n : ℕ) → Finds 4 (text_sextets []) a.given n → ⊥
unfolding text_sextets
text-none a n = none 4 a.given n

-- ---- in binary

module _ (a : Accepted BinaryAnswers) where
  binary-sized : Units 3 (writing 3 (named a.given.code) a.given.tag a.given.tags a.given.raw (length a.buffer)) a.size
  unfolding write_binary
  binary-sized = binary-units _ a.size a.accepts

  abbrev binary-accepts : Accepts 3 a.given (length a.buffer) binary-sized.units
  binary-accepts = binary-sized.is

  binary-length : length (item_of a.given) ≡ a.size
  binary-length =
      S.written-length 3 (length a.buffer) binary-sized.units a.given binary-accepts ∙ sym binary-sized.size_is

  binary-is : binary_of a ≡ item_of a.given
  unfolding binary_item_left
  binary-is = rw a.accepts (take_at (item_of a.given) (drop a.size a.buffer) a.size binary-length)

  pub binary-back : (rest : List ℕ) → Finds 3 (binary_sextets (binary_of a ++ rest)) a.given (length (binary_of a))
  binary-back rest = record {
    units = binary-sized.units;
    reads = rw binary-is (S.binary-reads 3 (length a.buffer) binary-sized.units a.given binary-accepts rest);
    tag-count = S.tag-count 3 (length a.buffer) binary-sized.units a.given binary-accepts;
    size_is = ap length binary-is ∙ binary-length ∙ binary-sized.size_is;
  }

pub binary-none : (a : Accepted BinaryAnswers) (n : ℕ) → Finds 3 (binary_sextets []) a.given n → ⊥
unfolding binary_sextets each
binary-none a n = none 3 a.given n
