-- What 02's requests b, c, g and h ask of the definitions of format, beside the demands. Statements only, a field a sentence, each below 02's
-- own words in quotes. What the words mean is in Words, and in claims' Words and Conditions. `Claims` is proved in Proved. Assumes nothing.
use Rattle.std.specs.Prelude.{ℕ, suc, ◌+◌, ◌-◌, ◌*◌, ◌≤◌, ◌<◌, ◌≡◌, List, [], ◌∷◌, map, ◌⊎◌, eqb, ltb, leb, length, get_or, drop}
use Rattle.format.specs.declared.Kind.{Kind}
use Rattle.format.specs.declared.Kind.TheVariants.{Variable, Group}
use Rattle.format.specs.Alphabet.{stranger, ordinary, char_of, sextet_of, sextet_table}
use Rattle.format.specs.Characters.{character_with, ordinary_at, how_many}
use Rattle.format.specs.Units.{Domain, text_sextets, binary_sextets}
use Rattle.format.specs.Conversion.{to_binary, to_text}
use Rattle.format.specs.Report.{report}
use Rattle.format.specs.declared.Framed.TheVariants.{Item}
use Rattle.format.specs.declared.Verdict.{Verdict}
use Rattle.format.specs.declared.Verdict.TheVariants.{Accepted, Refused}
use Rattle.format.specs.Registry.{is_indexed, is_overrideable}
use Rattle.format.specs.Framing.{frame}
use Rattle.format.specs.Judging.{shift, and_then, unless, is_shortest, behind, has_lead, zero_bits, in_turn, contents, judge_with, judge}
use Rattle.format.specs.Texts.{value_right}
use Rattle.format.specs.Values.{text_in}
use Rattle.claims_rules.specs.Conditions.{StartsWith, WrongText}
use Rattle.claims.specs.Words.{WholeText, WholeBinary}
use Rattle.claims_requests.specs.Words.{refusals_to, report_to, NoEleven}

-- ---- 02's request b, of the table that the code reads: `alphabet::sextets` promises `sextet_table`, and who looks a character up is lent
-- that table. The values are places in 01's alphabet, written out in format's Characters

pub record LookupClaims (table : List ℕ) : Type 0 where
  -- "Use one table of 256 entries, its rule shown over all of them:"
  pub entries : length table ≡ 256
  -- "64 give 01's values,": each character of the alphabet its place in it, and no value stands twice
  pub values : (v : ℕ) → v < 64 → get_or table (character_with v) 0 ≡ v
  pub once : (v : ℕ) → v < 64 → how_many (eqb v) table ≡ 1
  pub sixty-four : how_many (λ x. ltb x 64) table ≡ 64
  -- "the other 192 none.": each byte outside a mark, which is no value
  pub others : (c : ℕ) → c < 256 → ((v : ℕ) → v < 64 → character_with v ≡ c → ⊥) → 64 ≤ get_or table c 0
  pub as_many : how_many (leb 64) table ≡ 192
  -- "The lookup answers exactly as before, for every byte."
  pub as_before : (c : ℕ) → c < 256 → get_or table c 0 ≡ sextet_of c
  -- 02 j: "`+`, `/` or `=` from the ordinary alphabet. The lookup of b) should tell these three apart from other strangers": they have one
  -- mark, and the other 189 bytes outside another
  pub three : (i : ℕ) → i < 3 → get_or table (ordinary_at i) 0 ≡ ordinary
  pub no-fourth : how_many (eqb ordinary) table ≡ 3
  pub strangers : (c : ℕ) → c < 256 → ((v : ℕ) → v < 64 → character_with v ≡ c → ⊥) → ((i : ℕ) → i < 3 → ordinary_at i ≡ c → ⊥)
      → get_or table c 0 ≡ stranger
  pub the_rest : how_many (eqb stranger) table ≡ 189

-- ---- 02's request g, of the limit of nesting

pub record DeeperClaims (d : Domain) : Type 0 where
  -- "Raise the limit from 16 to 64 in .. every report"
  pub sixty-four-deep : (xs : List ℕ) → report d xs ≡ report_to 64 d xs
  -- "Streams whose report held no 11 keep it byte for byte.": what it was under 16
  pub from-sixteen : (xs : List ℕ) → NoEleven (refusals_to 16 d xs) → report d xs ≡ report_to 16 d xs
  -- the same for any limit, and any that it is raised to
  pub kept : (l m : ℕ) → l ≤ m → (xs : List ℕ) → NoEleven (refusals_to l d xs) → report_to m d xs ≡ report_to l d xs

-- ---- 02's request h, of the verdict on an item's own sextets, where l groups may be entered. A large code has a header of two units. What
-- it says of a writer is in roundtrip_limits' Claims, of equal values in roundtrip's

pub record ShortFormClaims : Type 0 where
  -- "Large variable codes .. whose size fits the small code are refused with new number 18, judged .. before 9 for primitives": behind 5
  pub large-variable : (l t lead n size : ℕ) (s : List ℕ) → frame s ≡ Item (Variable t lead n) 2 size → n < 4096 → behind 2 s ≡ Accepted
      → judge l s ≡ Refused 18 0
  -- "and large groups .. directly after 11 for groups", "A large group below 4,096 units is thus 18": whatever it holds
  pub eleven : (letter h size : ℕ) (s : List ℕ) → frame s ≡ Item (Group letter) h size → judge 0 s ≡ Refused 11 0
  pub large-group : (l letter size : ℕ) (s : List ℕ) → frame s ≡ Item (Group letter) 2 size → length s ≡ 4 * size → size < 2 + 4096
      → judge (suc l) s ≡ Refused 18 0
  -- "`--AAABAA` with its 4,096 units still passes": under a small code, and from 4,096 units on, an item has 01's own verdict, mended by 02 c
  pub other-variable : (l t lead n h size : ℕ) (s : List ℕ) → frame s ≡ Item (Variable t lead n) h size → (h ≡ 1) ⊎ (4096 ≤ n)
      → judge l s
      ≡ and_then (behind h s)
      (and_then (unless 9 (has_lead lead n)) (and_then (unless 8 (zero_bits s (4 * h) (8 * lead))) (unless 16 (value_right t lead (drop (4 * h) s)))))
  pub other-group : (l letter h size : ℕ) (s : List ℕ) → frame s ≡ Item (Group letter) h size → length s ≡ 4 * size
      → (h ≡ 1) ⊎ (4096 ≤ size - h)
      → judge (suc l) s
      ≡ shift (4 * h) (in_turn (judge_with (is_indexed letter) l) (contents (is_indexed letter) (is_overrideable letter) (drop (4 * h) s)))

-- ---- 02's request c, of the verdict on an item's own sextets, and of its characters. What it says of a writer is in roundtrip_limits' Claims,
-- that reading and writing are inverse in roundtrip's

-- what is judged before 16: "Judged after 8"
abbrev pub before_text : ℕ → ℕ → ℕ → List ℕ → Verdict
before_text lead n h s =
    and_then (behind h s)
    (and_then (unless 18 (is_shortest h n)) (and_then (unless 9 (has_lead lead n)) (unless 8 (zero_bits s (4 * h) (8 * lead)))))

pub record TextClaims : Type 0 where
  -- "A text that itself starts with `A` .. under every selector it is refused .. with number 16, as is a value without the full fill.
  -- Judged after 8."
  pub wrong-text : (l lead n h size : ℕ) (s : List ℕ) → frame s ≡ Item (Variable 0 lead n) h size → WrongText lead (drop (4 * h) s)
      → judge l s ≡ and_then (before_text lead n h s) (Refused 16 0)
  -- any other text, and a value of any other type, has the verdict that it had
  pub right-text : (l lead n h size : ℕ) (s : List ℕ) → frame s ≡ Item (Variable 0 lead n) h size → ¬ (WrongText lead (drop (4 * h) s))
      → judge l s ≡ before_text lead n h s
  pub other-type : (l t lead n h size : ℕ) (s : List ℕ) → frame s ≡ Item (Variable t lead n) h size → ¬ (t ≡ 0)
      → judge l s ≡ before_text lead n h s
  -- "Selectors 4 and 7 take off one `A` if there is one,"
  pub one-off : (n h : ℕ) (s : List ℕ) → StartsWith 1 (drop (4 * h) s) → text_in (Variable 0 0 n) h s ≡ map char_of (drop 1 (drop (4 * h) s))
  pub none-off : (n h : ℕ) (s : List ℕ) → ¬ (StartsWith 1 (drop (4 * h) s)) → text_in (Variable 0 0 n) h s ≡ map char_of (drop (4 * h) s)
  -- "5 and 8 exactly two, 6 and 9 exactly three."
  pub two-off : (n h : ℕ) (s : List ℕ) → text_in (Variable 0 1 n) h s ≡ map char_of (drop 2 (drop (4 * h) s))
  pub three-off : (n h : ℕ) (s : List ℕ) → text_in (Variable 0 2 n) h s ≡ map char_of (drop 3 (drop (4 * h) s))
  -- so no text that is accepted starts with `A`, which is 65
  pub never-from-a : (l lead n h size : ℕ) (s : List ℕ) → frame s ≡ Item (Variable 0 lead n) h size → judge l s ≡ Accepted
      → ¬ (get_or (text_in (Variable 0 lead n) h s) 0 0 ≡ 65)
  -- "Characters are copied out in both forms": the same ones, of demand 2's streams
  pub text-form : (t : List ℕ) (k : Kind) (h : ℕ) → WholeText t → text_in k h (binary_sextets (to_binary t)) ≡ text_in k h (text_sextets t)
  pub binary-form : (b : List ℕ) (k : Kind) (h : ℕ) → WholeBinary b → text_in k h (text_sextets (to_text b)) ≡ text_in k h (binary_sextets b)
  -- "the empty text is `4AAA`", and "`4AABAAAA` is 16", in sextets
  pub empty-text : (l : ℕ) → let s : List ℕ = 56 ∷ 0 ∷ 0 ∷ 0 ∷ [] in
      (frame s ≡ Item (Variable 0 0 0) 1 1) × (judge l s ≡ Accepted) × (text_in (Variable 0 0 0) 1 s ≡ [])
  pub four-of-a : (l : ℕ) → judge l (56 ∷ 0 ∷ 0 ∷ 1 ∷ 0 ∷ 0 ∷ 0 ∷ 0 ∷ []) ≡ Refused 16 0

-- ---- all of it

pub record Claims : Type 0 where
  pub lookup : LookupClaims sextet_table
  pub deeper : (d : Domain) → DeeperClaims d
  pub short-form : ShortFormClaims
  pub texts : TextClaims
