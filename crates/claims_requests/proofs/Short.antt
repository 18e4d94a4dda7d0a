-- Large codes for what the small one holds are 18, and other items have 01's verdicts. Assumes nothing.
use Rattle.std.specs.Prelude.{ℕ, suc, ◌+◌, ◌-◌, ◌*◌, ◌/◌, ◌≤◌, ◌<◌, ◌≡◌, refl, List, Bool, true, false, ◌⊎◌, eqb, length, drop}
use Rattle.std.proofs.Common.{inl, inr, ⊎_elim, arith, length-drop, eq-eqb, le-leb}
use Rattle.std.proofs.lemmas.Bool.{lt-leb}
use Rattle.base.specs.Pick.{pick, pick-by}
use Rattle.base.specs.Cases.{whether}
use Rattle.format.specs.declared.Kind.TheVariants.{Variable, Group}
use Rattle.format.specs.declared.Framed.TheVariants.{Item}
use Rattle.format.specs.declared.Verdict.TheVariants.{Accepted, Refused}
use Rattle.format.specs.Registry.{is_indexed, is_overrideable}
use Rattle.format.specs.Framing.{frame}
use Rattle.format.specs.Texts.{value_right}
use Rattle.format.specs.Judging.{shift, and_then, unless, is_shortest, behind, has_lead, zero_bits, judge_kind, judge_by, own_check, group, in_turn, contents, judge_with, judge}
use Rattle.laws.specs.Levels.{then-accepts}
use Rattle.claims_requests.specs.Claims.{ShortFormClaims}

long : (n : ℕ) → n < 4096 → is_shortest 2 n ≡ false
unfolding is_shortest
long n l = lt-leb 4096 n l

short : (h n : ℕ) → (h ≡ 1) ⊎ (4096 ≤ n) → is_shortest h n ≡ true
unfolding is_shortest
short h n (inl e) = rw (eq-eqb h 1 e)
short h n (inr l) = pick-by (λ (b : Bool). b ≡ true) (eqb h 1) _ _ (λ _. refl) (λ _. le-leb 4096 n l)

-- a group's units, of its own sextets
units : (h size : ℕ) (s : List ℕ) → length s ≡ 4 * size → length (drop (4 * h) s) / 4 ≡ size - h
units h size s e = omega (arith, length-drop (4 * h) s)

large-variable : (l t lead n size : ℕ) (s : List ℕ) → frame s ≡ Item (Variable t lead n) 2 size → n < 4096 → behind 2 s ≡ Accepted
    → judge l s ≡ Refused 18 0
unfolding judge_with judge_by judge_kind and_then unless
large-variable l t lead n size s e few known = rw (e, known, long n few)

other-variable : (l t lead n h size : ℕ) (s : List ℕ) → frame s ≡ Item (Variable t lead n) h size → (h ≡ 1) ⊎ (4096 ≤ n)
    → judge l s
    ≡ and_then (behind h s)
    (and_then (unless 9 (has_lead lead n)) (and_then (unless 8 (zero_bits s (4 * h) (8 * lead))) (unless 16 (value_right t lead (drop (4 * h) s)))))
unfolding judge_with judge_by judge_kind and_then unless
other-variable l t lead n h size s e many = rw (e, short h n many)

eleven : (letter h size : ℕ) (s : List ℕ) → frame s ≡ Item (Group letter) h size → judge 0 s ≡ Refused 11 0
unfolding judge_with judge_by judge_kind group own_check
eleven letter h size s e = rw e

large-group : (l letter size : ℕ) (s : List ℕ) → frame s ≡ Item (Group letter) 2 size → length s ≡ 4 * size → size < 2 + 4096
    → judge (suc l) s ≡ Refused 18 0
unfolding judge_with judge_by judge_kind group own_check and_then unless
large-group l letter size s e own few = rw (e, units 2 size s own, long (size - 2) (omega arith))

pub other-group : (l letter h size : ℕ) (s : List ℕ) → frame s ≡ Item (Group letter) h size → length s ≡ 4 * size
    → (h ≡ 1) ⊎ (4096 ≤ size - h)
    → judge (suc l) s
    ≡ shift (4 * h) (in_turn (judge_with (is_indexed letter) l) (contents (is_indexed letter) (is_overrideable letter) (drop (4 * h) s)))
unfolding judge_with judge_by judge_kind group own_check and_then unless
other-group l letter h size s e own many = rw (e, units h size s own, short h (size - h) many)

pub short-form : ShortFormClaims
short-form = record {
  large-variable = large-variable;
  eleven = eleven;
  large-group = large-group;
  other-variable = other-variable;
  other-group = other-group;
}
