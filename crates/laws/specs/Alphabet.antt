-- The alphabet, for every byte and every sextet: each law a test that antt computes at all of them. Assumes nothing.
use Rattle.std.specs.Prelude.{◌≡◌, Bool, ℕ, ◌<◌, ◌≤◌, T, eqb, ltb, leb}
use Rattle.std.proofs.Common.{⊎_elim, arith, le-leb, ne_eqb, eqb→eq, leb→le, ltb→lt, lt→ltb}
use Rattle.std.proofs.lemmas.Bool.{lt-leb}
use Rattle.base.specs.Cases.{lt-or-ge}
use Rattle.base.specs.Below.{all, below, implies, implies-elim}
use Rattle.base.specs.Pick.{pick-by}
use Rattle.format.specs.Alphabet.{ordinary, sextet_of, stranger_number, char_of}

is_low : ℕ → Bool
is_low c = leb (sextet_of c) 65

below-low : (c : ℕ) → c < 256 → sextet_of c ≤ 65
unfolding is_low sextet_of
below-low c h = leb→le (sextet_of c) 65 (below is_low 256 tt c h)

-- no number past the letters is a character of the alphabet
pub sextet-past : (c : ℕ) → 123 ≤ c → sextet_of c ≡ 64
unfolding sextet_of
sextet-past c h =
    simp (
      le-leb 65 c (omega arith),
      lt-leb c 90 (omega arith),
      le-leb 97 c (omega arith),
      lt-leb c 122 (omega arith),
      le-leb 48 c (omega arith),
      lt-leb c 57 (omega arith),
      ne_eqb c 45 (λ e. omega arith),
      ne_eqb c 95 (λ e. omega arith),
      ne_eqb c 43 (λ e. omega arith),
      ne_eqb c 47 (λ e. omega arith),
      ne_eqb c 61 (λ e. omega arith),
    )

-- no character has a value above 65, the second mark
pub sextet-low : (c : ℕ) → sextet_of c ≤ 65
sextet-low c = ⊎_elim (λ h. below-low c h) (λ h. omega (arith, sextet-past c (omega arith))) (lt-or-ge c 256)

is_back : ℕ → Bool
is_back v = eqb (sextet_of (char_of v)) v

-- a sextet's character has that sextet
pub sextet-char : (v : ℕ) → v < 64 → sextet_of (char_of v) ≡ v
unfolding is_back sextet_of char_of
sextet-char v h = eqb→eq (sextet_of (char_of v)) v (below is_back 64 tt v h)

is_forth : ℕ → Bool
is_forth c = implies (ltb (sextet_of c) 64) (eqb (char_of (sextet_of c)) c)

below-256 : (c : ℕ) → c < 256 → sextet_of c < 64 → char_of (sextet_of c) ≡ c
unfolding is_forth sextet_of char_of
below-256 c h l =
    eqb→eq (char_of (sextet_of c)) c
    (implies-elim (ltb (sextet_of c) 64) (eqb (char_of (sextet_of c)) c) (below is_forth 256 tt c h) (lt→ltb (sextet_of c) 64 l))

-- a character of the alphabet is its sextet's character
pub char-sextet : (c : ℕ) → sextet_of c < 64 → char_of (sextet_of c) ≡ c
char-sextet c l =
    ⊎_elim (λ h. below-256 c h l) (λ h. absurd (omega (arith, sextet-past c (omega arith)))) (lt-or-ge c 256)

is_byte : ℕ → Bool
is_byte v = ltb (char_of v) 128

pub char-low : (v : ℕ) → v < 64 → char_of v < 128
unfolding is_byte char_of
char-low v h = ltb→lt (char_of v) 128 (below is_byte 64 tt v h)

-- past the sextets there is no character
pub char-past : (v : ℕ) → 64 ≤ v → char_of v ≡ 0
unfolding char_of
char-past v h =
    simp (
      le-leb 0 v (omega arith),
      lt-leb v 25 (omega arith),
      le-leb 26 v (omega arith),
      lt-leb v 51 (omega arith),
      le-leb 52 v (omega arith),
      lt-leb v 61 (omega arith),
      ne_eqb v 62 (λ e. omega arith),
      ne_eqb v 63 (λ e. omega arith),
    )

-- the number of a mark is one
pub number-some : (v : ℕ) → 0 < stranger_number v
unfolding stranger_number
number-some v = pick-by (λ (m : ℕ). 0 < m) (eqb v ordinary) 19 5 (λ _. omega arith) (λ _. omega arith)
