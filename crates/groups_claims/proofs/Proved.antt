-- The claims on written groups hold. Assumes nothing.
use Prim.Native.Nat.{ℕ, zero, suc, ◌+◌, ◌*◌, ◌/◌, ◌%◌, ◌≤◌, ◌<◌}
use Rattle.std.proofs.Math.Path.{◌≡◌, refl, ap}
use Rattle.std.proofs.Common.{sym, ◌∙◌, subst, inl, mul-div_cancel, add-zero, div-add-mod', le-div_iff_mul-le, ltb-true, ltb-false, eqb-true}
use Rattle.std.specs.Prelude.{List, [], ◌∷◌, map, Bool, true, false, ltb, eqb, take}
use Rattle.std.proofs.Math.Logic.{inr}
use native.Mathlib.Omega.{arith}
use Rattle.std.proofs.Math.Nat.{add-mul}
use Rattle.std.proofs.Math.ListN.{length}
use Rattle.std.proofs.Math.Seq.{length-take-le, take-length, drop-length}
use Rattle.base.specs.Pick.{pick-by}
use Rattle.format.specs.declared.Form.{Form}
use Rattle.format.specs.declared.Kind.TheVariants.{Group}
use Rattle.format.specs.declared.Framed.TheVariants.{Item}
use Rattle.format.specs.declared.Verdict.TheVariants.{Accepted, Refused}
use Rattle.format.specs.Alphabet.{sextet_of}
use Rattle.format.specs.Units.{Domain, domain}
use Rattle.format.specs.Registry.{is_group}
use Rattle.format.specs.Cutting.{cut}
use Rattle.format.specs.Cutting.Cut.{item, done}
use Rattle.format.specs.Judging.{shift}
use Rattle.format.specs.Report.{rows_of, remainder_of, rows, remainder, rows_in, remainder_in, frame_in, judge_in}
use Rattle.laws.specs.Domains.{reader}
use Rattle.laws.specs.Frames.{frames}
use Rattle.damage.proofs.Cuts.{cut-item, cut-nil}
use Rattle.claims_rules.specs.Order.{Among}
use Rattle.walk_state.specs.declared.Found.TheVariants as F
use Rattle.walk_state.specs.Walking.{start}
use Rattle.instalments.specs.declared.Pause.{Pause}
use Rattle.instalments.specs.declared.Pause.TheVariants as P
use Rattle.instalments.specs.Instalments.{walk_on}
use Rattle.groups.specs.Grouping.{head_units, group_of, group_size, within, body_walk, room_for, grouped, group_left}
use Rattle.groups.specs.Numbers.{grouped_number}
use Rattle.groups_claims.specs.Words.{yielded, found_on, Inner}
use Rattle.groups_claims.specs.Claims.{Bodied, BodyClaims, made, GroupClaims}
use Rattle.groups_claims.proofs.Calls.{calls, front}
use Rattle.groups_claims.proofs.Reading.{limit_is, streams, in_group, own-depth}
use Rattle.groups_claims.proofs.Reading as R
use Rattle.groups_claims.proofs.Judged.{comes-to-end}
use Rattle.groups_claims.proofs.Judged as J
use Rattle.std.specs.Prelude.{Ok, Err, Result}
use Rattle.format.specs.declared.Refusal.{Refusal}
use Rattle.format.specs.Refusals.{refused_by, refusal_number, refusal_place}

letter-low : (l : ℕ) → is_group l ≡ true → l < 64
unfolding is_group
letter-low l e = omega (arith, ltb-true l 29 e)

-- ---- a body of whole units, within the limit with its header

module _ (f : Form) (l : ℕ) (body : List ℕ) (b : Bodied f l body) where
  abbrev d : Domain
  d = domain f

  abbrev m : ℕ
  m = length body / d.unit

  low : l < 64
  low = letter-low l b.lettered

  whole : length body ≡ m * d.unit
  whole = sym (div-add-mod' (length body) d.unit) ∙ rw (b.whole, add-zero)

  few : head_units m + m ≤ 1048576
  unfolding group_size
  few =
      let a : (head_units m + m) * d.unit ≤ 1048576 * d.unit =
      omega (arith, add-mul (head_units m) m d.unit, whole, b.short, limit_is f) in
      rw (mul-div_cancel 1048576 (reader f).pos) at ((le-div_iff_mul-le (reader f).pos).1 a)

  group-is : group_of f l body ≡ R.xs f l body b.lettered low m whole few
  unfolding group_of
  group-is = refl

  walk_is : body_walk d l body ≡ (walk_on d body (suc m) (within l m)).pause
  unfolding body_walk
  walk_is = let z : m + 1 ≡ suc m = omega arith in ap (λ (j : ℕ). (walk_on d body j (within l m)).pause) z

  accepts : body_walk d l body ≡ P.End → judge_in d (group_of f l body) ≡ Accepted
  accepts e = rw group-is (J.accepts f l body b.lettered low m whole few (sym walk_is ∙ e))

  refuses : (n p : ℕ) → body_walk d l body ≡ P.Refused n p → judge_in d (group_of f l body) ≡ Refused n (head_units m * d.unit + p)
  refuses n p e = rw group-is (J.refuses f l body b.lettered low m whole few n p (sym walk_is ∙ e))

  pub framed : frame_in d (group_of f l body) ≡ Item (Group l) (head_units m * d.unit) (length (group_of f l body))
  framed = rw group-is (R.one-item f l body b.lettered low m whole few)

  numbers : (n p : ℕ) → body_walk d l body ≡ P.Refused n p → Among (4 ∷ 5 ∷ 19 ∷ 6 ∷ 7 ∷ 11 ∷ 18 ∷ 9 ∷ 8 ∷ 16 ∷ 15 ∷ 10 ∷ []) n
  numbers n p e =
      (streams f (group_of f l body)).verdicts (Group l) (head_units m * d.unit) n (head_units m * d.unit + p)
      (rw group-is (R.short f l body b.lettered low m whole few)) framed (refuses n p e)

  -- the report has this one row
  cut-one : cut (frame_in d) (group_of f l body) ≡ item (group_of f l body) done
  cut-one =
      cut-item (frame_in d) (frames d (reader f)) (group_of f l body) framed
      ∙ rw (take-length (group_of f l body), drop-length (group_of f l body), cut-nil (frame_in d) (frames d (reader f)))

  row : body_walk d l body ≡ P.End
      → rows_in d (group_of f l body) ≡ record { offset = 0; size = length (group_of f l body); verdict = Accepted } ∷ []
  unfolding rows rows_of shift
  row e = rw (cut-one, accepts e)

  no-rest : remainder_in d (group_of f l body) ≡ []
  unfolding remainder remainder_of
  no-rest = rw cut-one

  read : (j : ℕ) → yielded d (group_of f l body) (suc j) start
      ≡ F.Item 0 (length (group_of f l body)) 0 (Group l) (head_units m) ∷ map (found_on (head_units m * d.unit)) (yielded d body j (within l m))
  read j = rw (group-is, R.long f l body b.lettered low m whole few) (R.read_back f l body b.lettered low m whole few j)

  within-it : (j : ℕ) → Inner (yielded d body j (within l m))
  within-it j = R.inner f l body b.lettered low m whole few j (within l m) (in_group l m)

bodies : (f : Form) (l : ℕ) (body : List ℕ) → BodyClaims f l body
bodies f l body = record {
  depth = own-depth l;
  stops = comes-to-end f body l;
  accepts = accepts f l body;
  refuses = refuses f l body;
  numbers = numbers f l body;
}

-- ---- what a call wrote

module _ (f : Form) (letter len : ℕ) (buf : List ℕ) (n : ℕ) (e : grouped f letter len buf ≡ Ok n) where
  abbrev l : ℕ
  l = sextet_of letter

  abbrev own : List ℕ
  own = take len buf

  own-length : length own ≡ len
  own-length = length-take-le len buf ((calls f letter len buf).only-writes n e).0.there

  body_of : Bodied f l own
  body_of =
      let a = ((calls f letter len buf).only-writes n e).0 in
      record { lettered = a.lettered; whole = rw own-length a.whole; short = rw own-length a.short }

  ended : body_walk (domain f) l own ≡ P.End
  ended = ((calls f letter len buf).only-writes n e).1

  made-is : made f letter len buf n ≡ group_of f l own
  made-is = ap (λ (r : Result ℕ (Refusal ℕ)). take n (group_left r f letter len buf)) e ∙ front f letter len buf n e

  size_is : n ≡ length (group_of f l own)
  size_is = (calls f letter len buf).size n e

  accepted : judge_in (domain f) (made f letter len buf n) ≡ Accepted
  accepted = rw made-is (accepts f l own body_of ended)

  one-row : rows_in (domain f) (made f letter len buf n) ≡ record { offset = 0; size = n; verdict = Accepted } ∷ []
  one-row =
      ap (λ (s : List ℕ). rows_in (domain f) s) made-is ∙ row f l own body_of ended
      ∙ ap (λ (k : ℕ). record { offset = 0; size = k; verdict = Accepted } ∷ []) (sym size_is)

  nothing_left : remainder_in (domain f) (made f letter len buf n) ≡ []
  nothing_left = ap (λ (s : List ℕ). remainder_in (domain f) s) made-is ∙ no-rest f l own body_of

  read_back : (j : ℕ) → yielded (domain f) (made f letter len buf n) (suc j) start
      ≡ F.Item 0 n 0 (Group l) (head_units (len / (domain f).unit))
      ∷ map (found_on (head_units (len / (domain f).unit) * (domain f).unit)) (yielded (domain f) own j (within l (len / (domain f).unit)))
  read_back j =
      ap (λ (s : List ℕ). yielded (domain f) s (suc j) start) made-is
      ∙ subst (λ (k : ℕ). yielded (domain f) (group_of f l own) (suc j) start
      ≡ F.Item 0 k 0 (Group l) (head_units (len / (domain f).unit))
      ∷ map (found_on (head_units (len / (domain f).unit) * (domain f).unit)) (yielded (domain f) own j (within l (len / (domain f).unit)))) (sym size_is)
      (rw own-length at (read f l own body_of j))

  inner : (j : ℕ) → Inner (yielded (domain f) own j (within l (len / (domain f).unit)))
  inner j = rw own-length at (within-it f l own body_of j)

-- ---- the numbers

all-positive : List ℕ → Bool
all-positive [] = true
all-positive (zero ∷ ks) = false
all-positive (suc k ∷ ks) = all-positive ks

among-positive : (ms : List ℕ) (m : ℕ) → all-positive ms ≡ true → Among ms m → 0 < m
unfolding all-positive
among-positive [] m s a = absurd a
among-positive (zero ∷ ks) m s a = let z : ◌≡◌ {A = ℕ} 0 1 = cc in absurd (omega arith)
among-positive (suc k ∷ ks) m s (inl e) = omega arith
among-positive (suc k ∷ ks) m s (inr a) = among-positive ks m s a

module _ (f : Form) (letter len : ℕ) (buf : List ℕ) where
  abbrev own-numbers : List ℕ
  own-numbers = 3 ∷ 1 ∷ 6 ∷ 2 ∷ 4 ∷ 5 ∷ 19 ∷ 6 ∷ 7 ∷ 11 ∷ 18 ∷ 9 ∷ 8 ∷ 16 ∷ 15 ∷ 10 ∷ []

  abbrev Listed : Result ℕ (Refusal ℕ) → Type 0
  Listed r = (m p : ℕ) → r ≡ refused_by m p → Among own-numbers m

  fixed : (k : ℕ) → Among own-numbers k → Listed (refused_by k 0)
  fixed k a m p e = let z : k ≡ m = ap refusal_number e in subst (Among own-numbers) z a

  -- behind the walk: its number, or 3
  by-walk : (c : Pause ℕ) → (c ≡ P.Spent → ⊥) → ((m p : ℕ) → c ≡ P.Refused m p → Among own-numbers m) → (size room : ℕ)
      → Listed (room_for c size room)
  unfolding room_for
  by-walk P.End s w size room =
      pick-by Listed (ltb room size) _ _ (λ _. fixed 3 (inl refl))
      (λ _ m p e. let z : ◌≡◌ {A = ℕ} 0 1 = cc in absurd (omega arith))
  by-walk (P.Refused a b) s w size room = λ m p e. let n : a ≡ m = ap refusal_number e in let q : b ≡ p = ap refusal_place e in w m p (rw (n, q))
  by-walk P.Spent s w size room = absurd (s refl)

  listed : Listed (grouped f letter len buf)
  unfolding grouped
  listed =
      pick-by Listed (ltb (length buf) len) _ _ (λ _. fixed 3 (inl refl)) (λ a.
      pick-by Listed (ltb (domain f).limit (group_size (domain f) len)) _ _ (λ _. fixed 1 (inr (inl refl))) (λ b.
      pick-by Listed (is_group (sextet_of letter)) _ _
      (λ c. pick-by Listed (eqb (len % (domain f).unit) 0) _ _
      (λ w.
      let own : length (take len buf) ≡ len = length-take-le len buf (ltb-false (length buf) len a) in
      let body : Bodied f (sextet_of letter) (take len buf) = record {
        lettered = c;
        whole = rw own (eqb-true (len % (domain f).unit) 0 w);
        short = rw own (ltb-false (domain f).limit (group_size (domain f) len) b);
      } in
      by-walk (body_walk (domain f) (sextet_of letter) (take len buf)) (comes-to-end f (take len buf) (sextet_of letter))
      (λ m p e. inr (inr (inr (inr (numbers f (sextet_of letter) (take len buf) body m p e))))) (group_size (domain f) len) (length buf))
      (λ _. fixed 2 (inr (inr (inr (inl refl))))))
      (λ _. fixed 6 (inr (inr (inl refl))))))

  zero-written : (r : Result ℕ (Refusal ℕ)) → Listed r → grouped_number r ≡ 0 → (n : ℕ) × (r ≡ Ok n)
  unfolding grouped_number all-positive
  zero-written (Ok n) a e = (n, refl)
  zero-written (Err r) a e = absurd (omega (arith, among-positive own-numbers r.number refl (a r.number r.place refl)))

pub proved : GroupClaims
proved = record {
  of-call = calls;
  of-body = bodies;
  of-written = λ f letter len buf. record {
    accepted = accepted f letter len buf;
    one-item = one-row f letter len buf;
    no-remainder = nothing_left f letter len buf;
    read_back = read_back f letter len buf;
    inner = inner f letter len buf;
  };
  of-numbers = λ f letter len buf. record {
    listed = listed f letter len buf;
    zero-written = zero-written f letter len buf (grouped f letter len buf) (listed f letter len buf);
  };
}
