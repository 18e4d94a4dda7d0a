-- What is judged of an item: the characters behind its header, and a number that the header and the unit behind it decide where they are
-- known. Assumes nothing.
use Prim.Native.Nat.{ℕ, zero, suc, ◌+◌, ◌-◌, ◌*◌, ◌/◌, ◌^◌, ◌≤◌, ◌<◌}
use Rattle.std.specs.Prelude.{◌≡◌, refl, Bool, true, false, ltb, get_or, take, drop}
use Rattle.std.proofs.Math.Path.{sym, ap}
use Rattle.std.proofs.Common.{◌∙◌, pow-add, get_or-drop, get_or-take, take-take, length-take-le, ltb-true, lt-ltb, eq-eqb, ne_eqb}
use mathlib.Core.List.{List, [], ◌∷◌, ◌++◌}
use Rattle.std.proofs.Math.Logic.{⊎_elim}
use native.Mathlib.Omega.{arith}
use Rattle.std.proofs.Math.Nat.{div-div-eq-div-mul}
use Rattle.std.proofs.Math.Dec.{eqb}
use Rattle.std.proofs.Math.ListN.{length, length-drop, get_or-eq_default}
use Rattle.base.specs.Pick.{pick}
use Rattle.base.specs.Cases.{lt-or-ge}
use Rattle.base.specs.Digits.{number_of}
use Rattle.format.specs.declared.CodeRow.{CodeRow}
use Rattle.format.specs.declared.IndexRow.{IndexRow}
use Rattle.format.specs.declared.Kind.{Kind}
use Rattle.format.specs.declared.Kind.TheVariants.{Fixed, Variable, Group, Genus, Indexed}
use Rattle.format.specs.declared.Verdict.{Verdict}
use Rattle.format.specs.declared.Verdict.TheVariants.{Accepted, Refused}
use Rattle.format.specs.Alphabet.{stranger_number}
use Rattle.format.specs.Registry.{zero_bits_of, prepad_of, index_chars, is_text}
use Rattle.format.specs.Framing.{sextet}
use Rattle.format.specs.Texts.{fills, fill_of, text_right, value_right}
use Rattle.format.specs.Values.{ondex_of}
use Rattle.format.specs.Judging.{shift, and_then, unless, is_shortest, scan, behind, has_lead, zero_bits, prepad_right, ondex_right, judge_kind, own_check}
use Rattle.laws.specs.Framing.{Shaped}
use Rattle.laws.specs.Levels.{take-of-drop, shift-accepted}
use Rattle.pieces.specs.Headers.{verdict_of, head_number, lead_of, opens_text, value_number}
use Rattle.pieces_headers.specs.Headers.{NearKind}

-- ---- verdicts

pub and-cong : (u v w : Verdict) → (u ≡ Accepted → v ≡ w) → and_then u v ≡ and_then u w
unfolding and_then
and-cong Accepted v w h = h refl
and-cong (Refused n p) v w h = refl

pub then-then : (u v w : Verdict) → and_then (and_then u v) w ≡ and_then u (and_then v w)
unfolding and_then
then-then Accepted v w = refl
then-then (Refused n p) v w = refl

pub shift-verdict : (o n p : ℕ) → shift o (verdict_of n p) ≡ verdict_of n (o + p)
unfolding verdict_of shift
shift-verdict o zero p = refl
shift-verdict o (suc n) p = refl

-- ---- known characters

pub scan-known : (s : List ℕ) → scan s ≡ Accepted → (i : ℕ) → get_or s i 0 < 64
unfolding scan
scan-known [] e i = omega arith
scan-known (x ∷ xs) e i = go (ltb x 64) refl e (λ f. scan-known xs f) i
  where
    go : (b : Bool) → ltb x 64 ≡ b → pick b (shift 1 (scan xs)) (Refused (stranger_number x) 0) ≡ Accepted
        → (scan xs ≡ Accepted → (i : ℕ) → get_or xs i 0 < 64) → (i : ℕ) → get_or (x ∷ xs) i 0 < 64
    go true t e f zero = ltb-true x 64 t
    go true t e f (suc i) = f (shift-accepted 1 (scan xs) e) i
    go false t e f i = let z : ◌≡◌ {A = ℕ} 0 1 = cc in absurd (omega arith)

-- ---- 8 by the sextets in which the asked bits lie: known ones behind them do not count

three-low : (a b c : ℕ) → a < 64 → b < 64 → c < 64 → eqb (((a * 64 + b) * 64 + c) / 262144) 0 ≡ true
three-low a b c p q r = let z : ((a * 64 + b) * 64 + c) / 262144 ≡ 0 = omega arith in eq-eqb (((a * 64 + b) * 64 + c) / 262144) 0 z

-- the last sextet, and the last two
one-behind : (x y z : ℕ) → y < 64 → z ≤ 12 → (x * 64 + y) / 2 ^ (18 - z) ≡ (x * 64 + 0) / 2 ^ (18 - z)
one-behind x y z l h =
    let e : 18 - z ≡ 6 + (12 - z) = omega arith in
    let a : (x * 64 + y) / 64 ≡ x = omega arith in
    let b : (x * 64 + 0) / 64 ≡ x = omega arith in
    let f : 2 ^ (18 - z) ≡ 64 * 2 ^ (12 - z) = ap (λ (k : ℕ). 2 ^ k) e ∙ pow-add 2 6 (12 - z) in
    rw (f, ← div-div-eq-div-mul, ← div-div-eq-div-mul, a, b)

two-behind : (x y v z : ℕ) → y < 64 → v < 64 → z ≤ 6 → ((x * 64 + y) * 64 + v) / 2 ^ (18 - z) ≡ ((x * 64 + 0) * 64 + 0) / 2 ^ (18 - z)
two-behind x y v z l m h =
    let e : 18 - z ≡ 12 + (6 - z) = omega arith in
    let a : ((x * 64 + y) * 64 + v) / 4096 ≡ x = omega arith in
    let b : ((x * 64 + 0) * 64 + 0) / 4096 ≡ x = omega arith in
    let f : 2 ^ (18 - z) ≡ 4096 * 2 ^ (6 - z) = ap (λ (k : ℕ). 2 ^ k) e ∙ pow-add 2 12 (6 - z) in
    rw (f, ← div-div-eq-div-mul, ← div-div-eq-div-mul, a, b)

-- cs: the first n sextets of s, and those behind them are known
module _ (n : ℕ) (s cs : List ℕ) (same : (i : ℕ) → i < n → sextet cs i ≡ sextet s i) (out : (i : ℕ) → n ≤ i → sextet cs i ≡ 0)
    (low : (i : ℕ) → n ≤ i → sextet s i < 64) where
  bits-same : (i z : ℕ) → 6 * i + z ≤ 6 * n → zero_bits cs i z ≡ zero_bits s i z
  unfolding zero_bits
  bits-same i z h = ⊎_elim (λ (l : i + 2 < n). all l) (λ (g : n ≤ i + 2). ⊎_elim (λ (l : i + 1 < n). two (omega arith)) (λ (g : n ≤ i + 1). ⊎_elim (λ l. one (omega arith)) none (lt-or-ge i n)) (lt-or-ge (i + 1) n)) (lt-or-ge (i + 2) n)
    where
      all : i + 2 < n → eqb (((sextet cs i * 64 + sextet cs (i + 1)) * 64 + sextet cs (i + 2)) / 2 ^ (18 - z)) 0
          ≡ eqb (((sextet s i * 64 + sextet s (i + 1)) * 64 + sextet s (i + 2)) / 2 ^ (18 - z)) 0
      all l = rw (same i (omega arith), same (i + 1) (omega arith), same (i + 2) l)

      two : i + 2 ≡ n → eqb (((sextet cs i * 64 + sextet cs (i + 1)) * 64 + sextet cs (i + 2)) / 2 ^ (18 - z)) 0
          ≡ eqb (((sextet s i * 64 + sextet s (i + 1)) * 64 + sextet s (i + 2)) / 2 ^ (18 - z)) 0
      two e =
          rw (same i (omega arith), same (i + 1) (omega arith), out (i + 2) (omega arith))
          (ap (λ (k : ℕ). eqb k 0) (sym (one-behind (sextet s i * 64 + sextet s (i + 1)) (sextet s (i + 2)) z (low (i + 2) (omega arith)) (omega arith))))

      one : i + 1 ≡ n → eqb (((sextet cs i * 64 + sextet cs (i + 1)) * 64 + sextet cs (i + 2)) / 2 ^ (18 - z)) 0
          ≡ eqb (((sextet s i * 64 + sextet s (i + 1)) * 64 + sextet s (i + 2)) / 2 ^ (18 - z)) 0
      one l =
          rw (same i (omega arith), out (i + 1) (omega arith), out (i + 2) (omega arith))
          (ap (λ (k : ℕ). eqb k 0)
          (sym (two-behind (sextet s i) (sextet s (i + 1)) (sextet s (i + 2)) z (low (i + 1) (omega arith)) (low (i + 2) (omega arith)) (omega arith))))

      none : n ≤ i → eqb (((sextet cs i * 64 + sextet cs (i + 1)) * 64 + sextet cs (i + 2)) / 2 ^ (18 - z)) 0
          ≡ eqb (((sextet s i * 64 + sextet s (i + 1)) * 64 + sextet s (i + 2)) / 2 ^ (18 - z)) 0
      none l =
          let y : z ≡ 0 = omega arith in
          rw (out i l, out (i + 1) (omega arith), out (i + 2) (omega arith), y)
          (sym (three-low (sextet s i) (sextet s (i + 1)) (sextet s (i + 2)) (low i l) (low (i + 1) (omega arith)) (low (i + 2) (omega arith))))

  prepad-same : (i prepad : ℕ) → 6 * (i + prepad) ≤ 6 * n → prepad_right cs i prepad ≡ prepad_right s i prepad
  unfolding prepad_right
  prepad-same i prepad h =
      ⊎_elim (λ l. rw (same i l)) (λ g. let z : prepad ≡ 0 = omega arith in rw (eq-eqb prepad 0 z)) (lt-or-ge i n)

-- ---- the unit behind the header

-- what is asked of a value, of which there may be none
unfoldable pub value_asked : ℕ → ℕ → Bool → List ℕ → ℕ
value_asked number lead text [] = number
value_asked number lead text (x ∷ v) = value_number number lead text (x ∷ v)

none-zero : (s : List ℕ) (k : ℕ) → ((i : ℕ) → sextet s i < 64) → zero_bits s k 0 ≡ true
unfolding zero_bits
none-zero s k h = three-low (sextet s k) (sextet s (k + 1)) (sextet s (k + 2)) (h k) (h (k + 1)) (h (k + 2))

-- nothing is left to ask
pub none-asked : (number : ℕ) (v : List ℕ) → ((i : ℕ) → sextet v i < 64) → value_number number 0 false v ≡ number
unfolding value_number
none-asked zero v h = rw (none-zero v 0 h)
none-asked (suc n) v h = rw (ne_eqb (suc n) 0 (λ e. omega arith))

pub asked-none : (number : ℕ) (v : List ℕ) → ((i : ℕ) → sextet v i < 64) → value_asked number 0 false v ≡ number
unfolding value_asked
asked-none number [] h = refl
asked-none number (x ∷ v) h = none-asked number (x ∷ v) h

-- a unit decides 8 and 16
other : (n : ℕ) → eqb (suc n) 0 ≡ false
other n = ne_eqb (suc n) 0 (λ e. omega arith)

text-front : (lead a b c d : ℕ) (r : List ℕ) → lead ≤ 2 → text_right lead (a ∷ b ∷ c ∷ d ∷ r) ≡ text_right lead (a ∷ b ∷ c ∷ d ∷ [])
unfolding text_right fill_of fills
text-front zero zero b c d r l = refl
text-front zero (suc a) b c d r l = rw (other a)
text-front (suc zero) a b c d r l = refl
text-front (suc (suc zero)) a b c d r l = refl
text-front (suc (suc (suc lead))) a b c d r l = absurd (omega arith)

pub asked-front : (number lead : ℕ) (text : Bool) (q r : List ℕ) → length q ≡ 4 → lead ≤ 2
    → value_asked number lead text (q ++ r) ≡ value_number number lead text q
unfolding value_asked value_number zero_bits
asked-front number lead text [] r e l = absurd (omega arith)
asked-front number lead text (a ∷ []) r e l = absurd (omega arith)
asked-front number lead text (a ∷ b ∷ []) r e l = absurd (omega arith)
asked-front number lead text (a ∷ b ∷ c ∷ []) r e l = absurd (omega arith)
asked-front number lead text (a ∷ b ∷ c ∷ d ∷ x ∷ q) r e l = absurd (omega arith)
asked-front number lead text (a ∷ b ∷ c ∷ d ∷ []) r e l = rw (text-front lead a b c d r l)

-- ---- by number

pub zero-accepts : (p : ℕ) → verdict_of 0 p ≡ Accepted
unfolding verdict_of
zero-accepts p = refl

two-numbers : (m n : ℕ) (a b : Bool) → verdict_of (pick a (pick b 0 (suc n)) (suc m)) 0 ≡ and_then (unless (suc m) a) (unless (suc n) b)
unfolding verdict_of and_then unless
two-numbers m n true true = refl
two-numbers m n true false = refl
two-numbers m n false b = refl

-- 18, 9, 8, 16
four-numbers : (short led clean right text : Bool)
    → verdict_of (pick (eqb (pick short (pick led 0 9) 18) 0) (pick clean (pick text (pick right 0 16) 0) 8) (pick short (pick led 0 9) 18)) 0
    ≡ and_then (unless 18 short) (and_then (unless 9 led) (and_then (unless 8 clean) (unless 16 (pick text right true))))
unfolding verdict_of and_then unless
four-numbers false led clean right text = refl
four-numbers true false clean right text = refl
four-numbers true true false right text = refl
four-numbers true true true right false = refl
four-numbers true true true true true = refl
four-numbers true true true false true = refl

pub lead-of : (s : List ℕ) (o z : ℕ) → zero_bits s o z ≡ zero_bits (drop o s) 0 z
unfolding zero_bits
lead-of s o z = let e : o + 0 ≡ o = omega arith in rw (get_or-drop o s 0 0, get_or-drop o s 1 0, get_or-drop o s 2 0, e)

-- an empty value that needs no lead bytes has nothing wrong
no_lead : (lead : ℕ) → has_lead lead 0 ≡ true → lead ≡ 0
unfolding has_lead
no_lead zero e = refl
no_lead (suc lead) e =
    let no : false ≡ true = rw (lt-ltb 0 (suc lead) (omega arith)) at e in let z : ◌≡◌ {A = ℕ} 0 1 = cc in absurd (omega arith)

empty_right : (t lead : ℕ) → lead ≡ 0 → and_then (unless 8 (zero_bits [] 0 (8 * lead))) (unless 16 (value_right t lead [])) ≡ Accepted
unfolding zero_bits value_right text_right fill_of fills and_then unless
empty_right t lead e = rw e (go (is_text t))
  where
    go : (x : Bool) → unless 16 (pick x true true) ≡ Accepted
    go true = refl
    go false = refl

empty-numbers : (short led : Bool) (behind : Verdict) → (led ≡ true → behind ≡ Accepted)
    → verdict_of (pick short (pick led 0 9) 18) 0 ≡ and_then (unless 18 short) (and_then (unless 9 led) behind)
unfolding verdict_of and_then unless
empty-numbers false led behind h = refl
empty-numbers true false behind h = refl
empty-numbers true true behind h = sym (h refl)

some-numbers : (t lead count : ℕ) (short : Bool) (v : List ℕ)
    → verdict_of (value_number (pick short (pick (has_lead lead count) 0 9) 18) lead (is_text t) v) 0
    ≡ and_then (unless 18 short) (and_then (unless 9 (has_lead lead count)) (and_then (unless 8 (zero_bits v 0 (8 * lead))) (unless 16 (value_right t lead v))))
unfolding value_number value_right
some-numbers t lead count short v = four-numbers short (has_lead lead count) (zero_bits v 0 (8 * lead)) (text_right lead v) (is_text t)

variable-by : (t lead count : ℕ) (short : Bool) (v : List ℕ) → (v ≡ [] → count ≡ 0)
    → verdict_of (value_asked (pick short (pick (has_lead lead count) 0 9) 18) lead (is_text t) v) 0
    ≡ and_then (unless 18 short) (and_then (unless 9 (has_lead lead count)) (and_then (unless 8 (zero_bits v 0 (8 * lead))) (unless 16 (value_right t lead v))))
unfolding value_asked
variable-by t lead count short [] e =
    rw (e refl) (empty-numbers short (has_lead lead 0) _ (λ led. empty_right t lead (no_lead lead led)))
variable-by t lead count short (x ∷ v) e = some-numbers t lead count short (x ∷ v)

-- ---- an item that is stepped over whole: its own checks

-- s: its sextets, of which cs are the header's
module _ (h m : ℕ) (s cs : List ℕ) (long : length s ≡ 4 * m) (few : h ≤ m) (front : cs ≡ take (4 * h) s) where
  abbrev value : List ℕ
  value = drop (4 * h) s

  abbrev pub Checked : Kind → ℕ → Type 0
  Checked k l = judge_kind k h s (own_check l)
      ≡ and_then (shift (4 * h) (scan value)) (verdict_of (value_asked (head_number k h cs) (lead_of k) (opens_text k) value) 0)

  same : (i : ℕ) → i < 4 * h → sextet cs i ≡ sextet s i
  same i l = ap (λ (q : List ℕ). sextet q i) front ∙ get_or-take (4 * h) s i 0 l

  out : (i : ℕ) → 4 * h ≤ i → sextet cs i ≡ 0
  out i l =
      let e : length cs ≡ 4 * h = ap length front ∙ length-take-le (4 * h) s (omega arith) in
      get_or-eq_default cs 0 {n = i} (omega arith)

  -- where the value is known
  module _ (e : shift (4 * h) (scan value) ≡ Accepted) where
    known : (i : ℕ) → sextet value i < 64
    known = scan-known value (shift-accepted (4 * h) (scan value) e)

    low : (i : ℕ) → 4 * h ≤ i → sextet s i < 64
    low i l = let z : 4 * h + (i - 4 * h) ≡ i = omega arith in rw (get_or-drop (4 * h) s (i - 4 * h) 0, z) at (known (i - 4 * h))

  pub fixed-checked : (c : CodeRow) (l : ℕ) → h ≡ 1 → NearKind (Fixed c) → Checked (Fixed c) l
  unfolding judge_kind behind head_number lead_of opens_text
  fixed-checked c l one near =
      and-cong (shift (4 * h) (scan value)) _ _ (λ e.
      rw (
        asked-none _ value (known e),
        bits-same (4 * h) s cs same out (low e) c.chars (zero_bits_of c) (omega arith),
        prepad-same (4 * h) s cs same out (low e) c.chars (prepad_of c) (omega arith),
      )
      (sym (two-numbers 7 9 (zero_bits s c.chars (zero_bits_of c)) (prepad_right s c.chars (prepad_of c)))))

  pub variable-checked : (t lead count l : ℕ) → m ≡ h + count → Checked (Variable t lead count) l
  unfolding judge_kind behind head_number lead_of opens_text
  variable-checked t lead count l e =
      ap (and_then (shift (4 * h) (scan value)))
      (rw (lead-of s (4 * h) (8 * lead))
      (sym (variable-by t lead count (is_shortest h count) value (λ z. omega (arith, ap length z, length-drop (4 * h) s)))))

  pub genus-checked : (l : ℕ) → value ≡ [] → Checked Genus l
  unfolding judge_kind head_number lead_of opens_text scan shift and_then value_asked verdict_of
  genus-checked l e = rw e

  ondex-same : (c : IndexRow) → index_chars c ≤ 4 * h → ondex_of c cs ≡ ondex_of c s
  unfolding ondex_of
  ondex-same c few =
      let j : ℕ = c.chars + c.index in
      ap (λ (q : List ℕ). number_of 64 (take c.ondex (drop j q))) front
      ∙ ap (number_of 64) (take-of-drop c.ondex j (take (4 * h) s) ∙ ap (drop j) (take-take (j + c.ondex) (4 * h) s (omega arith))
      ∙ sym (take-of-drop c.ondex j s))

  pub indexed-checked : (c : IndexRow) (l : ℕ) → index_chars c ≤ 4 * h → 6 * index_chars c + c.zeros ≤ 24 * h → Checked (Indexed c) l
  unfolding judge_kind behind head_number lead_of opens_text
  indexed-checked c l few near =
      and-cong (shift (4 * h) (scan value)) _ _ (λ e.
      rw (
        asked-none _ value (known e),
        bits-same (4 * h) s cs same out (low e) (index_chars c) c.zeros (omega arith),
        ondex-same c few,
      )
      (sym (two-numbers 7 14 (zero_bits s (index_chars c) c.zeros) (ondex_right c (ondex_of c s)))))
