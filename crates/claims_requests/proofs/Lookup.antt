-- The table of request b, by the test of format's Characters: what it says of each entry. Assumes nothing.
use Rattle.std.specs.Prelude.{ℕ, ◌≤◌, ◌<◌, ◌≡◌, refl, Bool, true, false, List, T, eqb, ltb, leb, length, get_or}
use Rattle.std.proofs.Common.{sym, ◌∙◌, eqb→eq, ltb→lt, arith, eqb-true}
use Rattle.base.specs.Pick.{pick, pick-by}
use Rattle.base.specs.Lists.{get_or-table}
use Rattle.base.specs.Table.{both, both_left, both_right, every, at}
use Rattle.base.specs.Below.{all, below}
use Rattle.format.specs.Alphabet.{stranger, ordinary, sextet_of, sextet_table}
use Rattle.format.specs.Characters.{character_with, ordinary_at, how_many, one_of_three, own, valued, single, marked, full, sixty_four, others, three}
use Rattle.format.specs.Characters.{counted, ruled, table-holds}
use Rattle.claims_requests.specs.Claims.{LookupClaims}

-- a byte outside the alphabet has the mark of its kind
mark : ℕ → ℕ
mark c = pick (one_of_three c) ordinary stranger

none : (c x : ℕ) → T (own c x) → ((v : ℕ) → v < 64 → character_with v ≡ c → ⊥) → x ≡ mark c
unfolding mark
none c x t out = go (ltb x 64) (λ l. l) t
  where
    go : (b : Bool) → (T b → T (ltb x 64)) → T (pick b (eqb (character_with x) c) (eqb x (mark c))) → x ≡ mark c
    go true l e = absurd (out x (ltb→lt x 64 (l tt)) (eqb→eq (character_with x) c e))
    go false l e = eqb→eq x (mark c) e

mark-high : (c : ℕ) → 64 ≤ mark c
unfolding mark
mark-high c = pick-by (λ (m : ℕ). 64 ≤ m) (one_of_three c) ordinary stranger (λ _. omega arith) (λ _. omega arith)

mark-other : (c : ℕ) → ((i : ℕ) → i < 3 → ordinary_at i ≡ c → ⊥) → mark c ≡ stranger
unfolding mark
mark-other c not =
    pick-by (λ (b : Bool). pick b ordinary stranger ≡ stranger) (eqb c (ordinary_at 0)) true _ (λ e. absurd (not 0 (omega arith) (sym (eqb-true c _ e))))
    (λ _. pick-by (λ (b : Bool). pick b ordinary stranger ≡ stranger) (eqb c (ordinary_at 1)) true _ (λ e. absurd (not 1 (omega arith) (sym (eqb-true c _ e))))
    (λ _. last (eqb c (ordinary_at 2)) refl))
  where
    last : (b : Bool) → eqb c (ordinary_at 2) ≡ b → pick b ordinary stranger ≡ stranger
    last true e = absurd (not 2 (omega arith) (sym (eqb-true c _ e)))
    last false e = refl

module _ (t : List ℕ) (p : T (both (counted t) (ruled t))) where
  counts : T (counted t)
  counts = both_left (counted t) (ruled t) p

  rules : T (ruled t)
  rules = both_right (counted t) (ruled t) p

  numbers : T (both (sixty_four t) (both (others t) (three t)))
  numbers = both_right (full t) (both (sixty_four t) (both (others t) (three t))) counts

  outside : T (both (others t) (three t))
  outside = both_right (sixty_four t) (both (others t) (three t)) numbers

  kinds : T (three t)
  kinds = both_right (others t) (three t) outside

  bytes : T (both (all (marked t) 3) (all (λ v. both (valued t v) (single t v)) 64))
  bytes = both_right (every own 0 t) (both (all (marked t) 3) (all (λ v. both (valued t v) (single t v)) 64)) rules

  value : (v : ℕ) → v < 64 → T (both (valued t v) (single t v))
  value = below (λ v. both (valued t v) (single t v)) 64 (both_right (all (marked t) 3) (all (λ v. both (valued t v) (single t v)) 64) bytes)

  owned : T (every own 0 t)
  owned = both_left (every own 0 t) (both (all (marked t) 3) (all (λ v. both (valued t v) (single t v)) 64)) rules

  whole : length t ≡ 256
  whole = eqb→eq (length t) 256 (both_left (full t) (both (sixty_four t) (both (others t) (three t))) counts)

  entry : (c : ℕ) → c < 256 → ((v : ℕ) → v < 64 → character_with v ≡ c → ⊥) → get_or t c 0 ≡ mark c
  entry c h out = none c (get_or t c 0) (at own t owned c (rw whole h)) out

  claimed : ((c : ℕ) → c < 256 → get_or t c 0 ≡ sextet_of c) → LookupClaims t
  claimed before = record {
    entries = whole;
    values = λ v h. eqb→eq (get_or t (character_with v) 0) v (both_left (valued t v) (single t v) (value v h));
    once = λ v h. eqb→eq (how_many (eqb v) t) 1 (both_right (valued t v) (single t v) (value v h));
    sixty-four = eqb→eq (how_many (λ x. ltb x 64) t) 64 (both_left (sixty_four t) (both (others t) (three t)) numbers);
    others = λ c h out. rw (entry c h out) (mark-high c);
    as_many = eqb→eq (how_many (leb 64) t) 192 (both_left (others t) (three t) outside);
    as_before = before;
    three = λ i h. eqb→eq (get_or t (ordinary_at i) 0) ordinary (below (marked t) 3 (both_left (all (marked t) 3) _ bytes) i h);
    no-fourth = eqb→eq (how_many (eqb ordinary) t) 3 (both_left (eqb (how_many (eqb ordinary) t) 3) _ kinds);
    strangers = λ c h out not. entry c h out ∙ mark-other c not;
    the_rest = eqb→eq (how_many (eqb stranger) t) 189 (both_right (eqb (how_many (eqb ordinary) t) 3) _ kinds);
  }

pub lookup-claims : LookupClaims sextet_table
unfolding sextet_table
lookup-claims = claimed sextet_table table-holds (get_or-table sextet_of 256)
