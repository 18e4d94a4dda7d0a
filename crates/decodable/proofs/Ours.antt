-- Of our format, as Formats has it, the sentences of 02 l hold: what it takes the writer accepts, and its text is what the writer writes.
-- Assumes nothing.
use Rattle.std.specs.Prelude.{ℕ, ◌*◌, ◌≡◌, refl, List, [], ◌++◌, true, length, replicate}
use Rattle.std.proofs.Math.Path.{sym}
use Rattle.std.proofs.Common.{ap, arith}
use Rattle.std.proofs.lemmas.List.{length-replicate}
use Rattle.format.specs.Units.{text_sextets}
use Rattle.format.specs.Writing.{named, Writing, refused, written, writing, text_outcome, write_text, written_bytes}
use Rattle.format.specs.Indexed.{named_index, writing_indexed, written_indexed, write_indexed_text}
use Rattle.decodable.specs.Words.{Accepted}
use Rattle.decodable.specs.Claims.{TextAnswers, text_of, Same, IndexedTextAnswers, indexed_text_of, SameIndexed}
use Rattle.decodable.proofs.Law.{told}
use Rattle.decodable.proofs.Primitives as P
use Rattle.decodable.proofs.Indexed as I
use Rattle.decodable.specs.Formats.{goes, all_asked, enough, enough_indexed, ours, ours_indexed}
use Rattle.decodable.proofs.Examples.{Taken, Decodable, NoneBegins}

-- what is taken is written
record Units (w : Writing) : Type 0 where
  units : ℕ
  is : w ≡ written units

taken-written : (w : Writing) → goes all_asked w ≡ true → Units w
taken-written (refused m p) e = let z : ◌≡◌ {A = ℕ} 0 1 = cc in absurd (omega arith)
taken-written (written n) e = record { units = n; is = refl }

-- ---- primitives

module _ (a : Taken ours) where
  abbrev room : ℕ
  room = enough (named a.given.code) a.given.raw

  units : Units (writing 4 (named a.given.code) a.given.tag a.given.tags a.given.raw room)
  unfolding ours
  units = taken-written _ a.taken

  accepts : TextAnswers a.given (length (replicate {A = ℕ} room 0)) (units.units * 4)
  unfolding write_text text_outcome
  accepts = rw (length-replicate {A = ℕ} room 0) (ap text_outcome units.is)

  abbrev accepted : Accepted TextAnswers
  accepted = record { given = a.given; buffer = replicate room 0; size = units.units * 4; accepts = accepts }

  text-is : ours.text a.given ≡ text_of accepted
  unfolding ours written_bytes
  text-is = sym (P.text-is accepted)

  back : (rest : List ℕ) → P.Finds 4 (text_sextets (ours.text a.given ++ rest)) a.given (length (ours.text a.given))
  back rest = rw text-is (P.text-back accepted rest)

  empty : (n : ℕ) → P.Finds 4 (text_sextets []) a.given n → ⊥
  empty n = P.text-none accepted n

-- ---- indexed items

module _ (a : Taken ours_indexed) where
  units-indexed : Units (writing_indexed 4 (named_index a.given.code) a.given.index a.given.ondex (length a.given.raw) enough_indexed)
  unfolding ours_indexed
  units-indexed = taken-written _ a.taken

  accepts-indexed : IndexedTextAnswers a.given (length (replicate {A = ℕ} enough_indexed 0)) (units-indexed.units * 4)
  unfolding write_indexed_text text_outcome
  accepts-indexed = rw (length-replicate {A = ℕ} enough_indexed 0) (ap text_outcome units-indexed.is)

  abbrev accepted-indexed : Accepted IndexedTextAnswers
  accepted-indexed =
      record { given = a.given; buffer = replicate enough_indexed 0; size = units-indexed.units * 4; accepts = accepts-indexed }

  text-is-indexed : ours_indexed.text a.given ≡ indexed_text_of accepted-indexed
  unfolding ours_indexed written_indexed
  text-is-indexed = sym (I.text-is accepted-indexed)

  back-indexed : (rest : List ℕ)
      → I.Finds 4 (text_sextets (ours_indexed.text a.given ++ rest)) a.given (length (ours_indexed.text a.given))
  back-indexed rest = rw text-is-indexed (I.text-back accepted-indexed rest)

  empty-indexed : (n : ℕ) → I.Finds 4 (text_sextets []) a.given n → ⊥
  empty-indexed n = I.text-none accepted-indexed n

-- ---- the sentences

pub record Ours : Type 0 where
  pub decodable : Decodable ours Same
  pub none-begins : NoneBegins ours Same
  pub indexed-decodable : Decodable ours_indexed SameIndexed
  pub indexed-none-begins : NoneBegins ours_indexed SameIndexed

primitives : Decodable ours Same × NoneBegins ours Same
primitives =
    told (λ a. ours.text a.given) (λ a b. Same a.given b.given) (λ s a. P.Finds 4 (text_sextets s) a.given) back
    (λ s a b. P.once 4 (text_sextets s) a.given b.given) empty

indexed : Decodable ours_indexed SameIndexed × NoneBegins ours_indexed SameIndexed
indexed =
    told (λ a. ours_indexed.text a.given) (λ a b. SameIndexed a.given b.given) (λ s a. I.Finds 4 (text_sextets s) a.given) back-indexed
    (λ s a b. I.once 4 (text_sextets s) a.given b.given) empty-indexed

pub ours-holds : Ours
ours-holds = record {
  decodable = primitives.0;
  none-begins = primitives.1;
  indexed-decodable = indexed.0;
  indexed-none-begins = indexed.1;
}
