-- 02 c's verdicts: 16 after 8, and what a text's characters are under each selector. Assumes nothing.
use Rattle.std.specs.Prelude.{ℕ, ◌*◌, ◌≡◌, refl, List, [], ◌∷◌, map, Bool, true, false, get_or, drop}
use Rattle.std.proofs.Common.{sym, ap, ◌∙◌, ⊎_elim, arith, eq-eqb, ne_eqb}
use Rattle.base.specs.Pick.{pick}
use Rattle.base.specs.Cases.{whether, lt-or-ge}
use Rattle.format.specs.declared.Kind.TheVariants.{Variable}
use Rattle.format.specs.declared.Framed.TheVariants.{Item}
use Rattle.format.specs.declared.Verdict.{Verdict}
use Rattle.format.specs.declared.Verdict.TheVariants.{Accepted, Refused}
use Rattle.format.specs.Alphabet.{char_of, sextet_of}
use Rattle.format.specs.Registry.{is_type, is_text, opening, extent}
use Rattle.format.specs.Framing.{fit, known, second, headed, frame_with, frame}
use Rattle.format.specs.Texts.{fills, fill_of, text_right, value_right, text_of}
use Rattle.format.specs.Judging.{shift, and_then, unless, is_shortest, scan, behind, has_lead, zero_bits, judge_kind, judge_by, judge, judge_with}
use Rattle.format.specs.Values.{text_in}
use Rattle.laws.specs.Alphabet.{sextet-char, char-past}
use Rattle.laws.specs.Conversion.{text-to-binary-sextets, binary-to-text-sextets}
use Rattle.laws.specs.Levels.{then-accepts}
use Rattle.claims_rules.specs.Conditions.{StartsWith, WrongText}
use Rattle.claims_rules.proofs.TextRules.{fills-starts, starts-fills, wrong-text, right-text, text-begins}
use Rattle.claims_requests.specs.Claims.{before_text, TextClaims}

-- ---- the verdict

-- 16 stands behind all others
last : (a b c d e : Verdict) → and_then a (and_then b (and_then c (and_then d e))) ≡ and_then (and_then a (and_then b (and_then c d))) e
unfolding and_then
last Accepted Accepted Accepted d e = refl
last Accepted Accepted (Refused m p) d e = refl
last Accepted (Refused m p) c d e = refl
last (Refused m p) b c d e = refl

verdict : (l t lead n h size : ℕ) (s : List ℕ) → frame s ≡ Item (Variable t lead n) h size
    → judge l s ≡ and_then (before_text lead n h s) (unless 16 (value_right t lead (drop (4 * h) s)))
unfolding judge_with judge_by judge_kind
verdict l t lead n h size s e = rw e (last (behind h s) _ _ _ _)

-- by the words
told-wrong : (lead : ℕ) (v : List ℕ) → WrongText lead v → text_right lead v ≡ false
told-wrong lead v w = ⊎_elim (λ t. absurd (right-text lead v t w)) (λ f. f) (whether (text_right lead v))

told-right : (lead : ℕ) (v : List ℕ) → ¬ (WrongText lead v) → text_right lead v ≡ true
told-right lead v w = ⊎_elim (λ t. t) (λ f. absurd (w (wrong-text lead v f))) (whether (text_right lead v))

wrong : (l lead n h size : ℕ) (s : List ℕ) → frame s ≡ Item (Variable 0 lead n) h size → WrongText lead (drop (4 * h) s)
    → judge l s ≡ and_then (before_text lead n h s) (Refused 16 0)
unfolding value_right is_text unless
wrong l lead n h size s e w =
    verdict l 0 lead n h size s e ∙ ap (λ (b : Bool). and_then (before_text lead n h s) (unless 16 b)) (told-wrong lead _ w)

right : (l lead n h size : ℕ) (s : List ℕ) → frame s ≡ Item (Variable 0 lead n) h size → ¬ (WrongText lead (drop (4 * h) s))
    → judge l s ≡ before_text lead n h s
unfolding value_right is_text unless
right l lead n h size s e w =
    verdict l 0 lead n h size s e ∙ ap (λ (b : Bool). and_then (before_text lead n h s) (unless 16 b)) (told-right lead _ w)
    ∙ then-accepts (before_text lead n h s)

other : (l t lead n h size : ℕ) (s : List ℕ) → frame s ≡ Item (Variable t lead n) h size → ¬ (t ≡ 0) → judge l s ≡ before_text lead n h s
unfolding value_right is_text unless
other l t lead n h size s e w =
    verdict l t lead n h size s e
    ∙ ap (λ (b : Bool). and_then (before_text lead n h s) (unless 16 (pick b (text_right lead (drop (4 * h) s)) true))) (ne_eqb t 0 w)
    ∙ then-accepts (before_text lead n h s)

-- ---- the characters

one-off : (n h : ℕ) (s : List ℕ) → StartsWith 1 (drop (4 * h) s) → text_in (Variable 0 0 n) h s ≡ map char_of (drop 1 (drop (4 * h) s))
unfolding text_in is_text text_of fill_of
one-off n h s w = ap (λ (b : Bool). map char_of (drop (pick b 1 0) (drop (4 * h) s))) (starts-fills 1 (drop (4 * h) s) w)

not-filled : (v : List ℕ) → ¬ (StartsWith 1 v) → fills 1 v ≡ false
not-filled v w = ⊎_elim (λ t. absurd (w (fills-starts 1 v t))) (λ f. f) (whether (fills 1 v))

none-off : (n h : ℕ) (s : List ℕ) → ¬ (StartsWith 1 (drop (4 * h) s)) → text_in (Variable 0 0 n) h s ≡ map char_of (drop (4 * h) s)
unfolding text_in is_text text_of fill_of
none-off n h s w = ap (λ (b : Bool). map char_of (drop (pick b 1 0) (drop (4 * h) s))) (not-filled (drop (4 * h) s) w)

two-off : (n h : ℕ) (s : List ℕ) → text_in (Variable 0 1 n) h s ≡ map char_of (drop 2 (drop (4 * h) s))
unfolding text_in is_text text_of fill_of
two-off n h s = refl

three-off : (n h : ℕ) (s : List ℕ) → text_in (Variable 0 2 n) h s ≡ map char_of (drop 3 (drop (4 * h) s))
unfolding text_in is_text text_of fill_of
three-off n h s = refl

-- `A` is the character of 0 alone
letter-a : (x : ℕ) → char_of x ≡ 65 → x ≡ 0
unfolding sextet_of
letter-a x e =
    ⊎_elim (λ l. sym (sextet-char x l) ∙ ap sextet_of e) (λ g. absurd (omega (arith, char-past x g))) (lt-or-ge x 64)

begins-a : (v : List ℕ) → get_or (map char_of v) 0 0 ≡ 65 → fills 1 v ≡ true
unfolding fills
begins-a [] e = absurd (omega arith)
begins-a (x ∷ v) e = rw (eq-eqb x 0 (letter-a x e))

accepts_last : (v w : Verdict) → and_then v w ≡ Accepted → w ≡ Accepted
unfolding and_then
accepts_last Accepted w e = e
accepts_last (Refused m p) w e = let z : ◌≡◌ {A = ℕ} 0 1 = cc in absurd (omega arith)

accepts-unless : (n : ℕ) (b : Bool) → unless n b ≡ Accepted → b ≡ true
unfolding unless
accepts-unless n true e = refl
accepts-unless n false e = let z : ◌≡◌ {A = ℕ} 0 1 = cc in absurd (omega arith)

never-from-a : (l lead n h size : ℕ) (s : List ℕ) → frame s ≡ Item (Variable 0 lead n) h size → judge l s ≡ Accepted
    → ¬ (get_or (text_in (Variable 0 lead n) h s) 0 0 ≡ 65)
unfolding value_right text_in is_text text_of
never-from-a l lead n h size s e a from =
    let v = drop (4 * h) s in
    let right = accepts-unless 16 _ (accepts_last (before_text lead n h s) _ (sym (verdict l 0 lead n h size s e) ∙ a)) in
    let no = text-begins lead v right in
    let so = begins-a (drop (fill_of lead v) v) from in
    let z : ◌≡◌ {A = ℕ} 0 1 = cc in
    omega arith

-- ---- two items in sextets: to compute them is to open the definitions

framed-empty : frame (56 ∷ 0 ∷ 0 ∷ 0 ∷ []) ≡ Item (Variable 0 0 0) 1 1
unfolding frame frame_with headed second known fit opening extent is_type
framed-empty = refl

framed-four : frame (56 ∷ 0 ∷ 0 ∷ 1 ∷ 0 ∷ 0 ∷ 0 ∷ 0 ∷ []) ≡ Item (Variable 0 0 1) 1 2
unfolding frame frame_with headed second known fit opening extent is_type
framed-four = refl

empty-text : (l : ℕ) → let s : List ℕ = 56 ∷ 0 ∷ 0 ∷ 0 ∷ [] in
    (frame s ≡ Item (Variable 0 0 0) 1 1) × (judge l s ≡ Accepted) × (text_in (Variable 0 0 0) 1 s ≡ [])
unfolding judge_with judge_by judge_kind and_then unless behind shift scan is_shortest has_lead zero_bits value_right is_text text_right fill_of fills text_in text_of
empty-text l = (framed-empty, rw framed-empty, refl)

four-of-a : (l : ℕ) → judge l (56 ∷ 0 ∷ 0 ∷ 1 ∷ 0 ∷ 0 ∷ 0 ∷ 0 ∷ []) ≡ Refused 16 0
unfolding judge_with judge_by judge_kind and_then unless behind shift scan is_shortest has_lead zero_bits value_right is_text text_right fill_of fills
four-of-a l = rw framed-four

pub text-claims : TextClaims
text-claims = record {
  wrong-text = wrong;
  right-text = right;
  other-type = other;
  one-off = one-off;
  none-off = none-off;
  two-off = two-off;
  three-off = three-off;
  never-from-a = never-from-a;
  text-form = λ t k h w. sym (ap (text_in k h) (text-to-binary-sextets t w.quadlets w.alphabet));
  binary-form = λ b k h w. ap (text_in k h) (binary-to-text-sextets b);
  empty-text = empty-text;
  four-of-a = four-of-a;
}
