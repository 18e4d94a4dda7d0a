-- The call's order as the code has it: what is asked before the walk, and the answer by it, which is `grouped`. Assumes nothing.
use Rattle.std.specs.Prelude.{ℕ, ◌%◌, ◌≤◌, ◌≡◌, List, Bool, ltb, eqb, length, take}
use Rattle.std.proofs.Math.Path.{refl}
use Rattle.std.proofs.Math.Bool.{true, false}
use Rattle.std.proofs.Common.{arith, ltb-false}
use Rattle.base.specs.Pick.{pick, pick-by}
use Rattle.format.specs.declared.Form.{Form}
use Rattle.format.specs.Alphabet.{sextet_of}
use Rattle.format.specs.Units.{domain}
use Rattle.format.specs.Registry.{is_group}
use Rattle.groups.specs.Grouping.{group_size, body_walk, room_for, grouped}
use Rattle.groups_order.specs.declared.Before.{Before}
use Rattle.groups_order.specs.declared.Before.TheVariants as B
use Rattle.std.specs.Prelude.{Result}
use Rattle.format.specs.declared.Refusal.{Refusal}
use Rattle.format.specs.Refusals.{refused_by}

-- "3 first if its stated length passes the buffer's, 1 when header and body together pass the limit, 6, 2 for a body that isn't whole units"
unfoldable pub before_walk : Form → ℕ → ℕ → ℕ → Before
before_walk f letter len room =
    pick (ltb room len) (B.Refused 3)
    (pick (ltb (domain f).limit (group_size (domain f) len)) (B.Refused 1)
    (pick (is_group (sextet_of letter))
    (pick (eqb (len % (domain f).unit) 0) (B.Contents (sextet_of letter) (group_size (domain f) len)) (B.Refused 2)) (B.Refused 6)))

-- "The places of the writer's own 1, 6, 2 and 3 are 0"
unfoldable pub answered : Before → Form → ℕ → List ℕ → Result ℕ (Refusal ℕ)
answered (B.Refused m) f len buf = refused_by m 0
answered (B.Contents l size) f len buf = room_for (body_walk (domain f) l (take len buf)) size (length buf)

module _ (f : Form) (len : ℕ) (buf : List ℕ) where
  by_tests : (a b c e : Bool) (l size : ℕ)
      → answered (pick a (B.Refused 3) (pick b (B.Refused 1) (pick c (pick e (B.Contents l size) (B.Refused 2)) (B.Refused 6)))) f len buf
      ≡ pick a (refused_by 3 0)
      (pick b (refused_by 1 0)
      (pick c (pick e (room_for (body_walk (domain f) l (take len buf)) size (length buf)) (refused_by 2 0)) (refused_by 6 0)))
  unfolding answered
  by_tests true b c e l size = refl
  by_tests false true c e l size = refl
  by_tests false false true true l size = refl
  by_tests false false true false l size = refl
  by_tests false false false e l size = refl

  pub in_order : (letter : ℕ) → answered (before_walk f letter len (length buf)) f len buf ≡ grouped f letter len buf
  unfolding before_walk grouped
  in_order letter =
      by_tests (ltb (length buf) len) (ltb (domain f).limit (group_size (domain f) len)) (is_group (sextet_of letter))
      (eqb (len % (domain f).unit) 0) (sextet_of letter) (group_size (domain f) len)

never {ℓ} : {A : Type ℓ} {m l n : ℕ} → B.Refused m ≡ B.Contents l n → A
never e = let z : ◌≡◌ {A = ℕ} 0 1 = cc in absurd (omega arith)

-- what is walked lies in the buffer
pub body-there : (f : Form) (letter len room l size : ℕ) → before_walk f letter len room ≡ B.Contents l size → len ≤ room
unfolding before_walk
body-there f letter len room l size =
    let Q : Before → Type 0 = λ r. r ≡ B.Contents l size → len ≤ room in
    pick-by Q (ltb room len) _ _ (λ _ e. never e) (λ a e. ltb-false room len a)
