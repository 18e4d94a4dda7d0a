-- What 02 e asks of a written group, over its definition in groups' Grouping. Statements only, a field a sentence below 02's words. What the
-- words mean is in Words. Proved in Proved. Assumes nothing.
use Rattle.std.specs.Prelude.{ℕ, suc, ◌+◌, ◌*◌, ◌/◌, ◌%◌, ◌≤◌, ◌<◌, ◌≡◌, List, [], ◌∷◌, map, true, false, length, take, drop}
use Rattle.format.specs.declared.Form.{Form}
use Rattle.format.specs.declared.Kind.TheVariants.{Group}
use Rattle.format.specs.declared.Verdict.TheVariants.{Accepted, Refused}
use Rattle.format.specs.Alphabet.{sextet_of}
use Rattle.format.specs.Registry.{is_group}
use Rattle.format.specs.Units.{Domain, domain}
use Rattle.format.specs.Report.{rows_in, remainder_in, judge_in}
use Rattle.claims_rules.specs.Order.{Among}
use Rattle.walk_state.specs.declared.Found.TheVariants as F
use Rattle.walk_state.specs.Walking.{start}
use Rattle.instalments.specs.declared.Pause.TheVariants as P
use Rattle.groups.specs.Grouping.{head_units, group_of, group_size, within, body_walk, grouped, group_left}
use Rattle.groups.specs.Numbers.{grouped_number}
use Rattle.groups_claims.specs.Words.{yielded, found_on, Inner}
use Rattle.std.specs.Prelude.{Ok}
use Rattle.format.specs.Refusals.{refused_by}

-- ---- of the call: which number it gives, by 02's order, and when it writes

-- a body that is there, within the limit, of a group's letter and whole units: what is asked before its walk
pub record Asked (f : Form) (letter len : ℕ) (buf : List ℕ) : Type 0 where
  pub there : len ≤ length buf
  pub short : group_size (domain f) len ≤ (domain f).limit
  pub lettered : is_group (sextet_of letter) ≡ true
  pub whole : len % (domain f).unit ≡ 0

pub record CallClaims (f : Form) (letter len : ℕ) (buf : List ℕ) : Type 0 where
  -- "3 first if its stated length passes the buffer's"
  pub three-first : length buf < len → grouped f letter len buf ≡ refused_by 3 0
  -- "1 when header and body together pass the limit"
  pub one : len ≤ length buf → (domain f).limit < group_size (domain f) len → grouped f letter len buf ≡ refused_by 1 0
  -- "6"
  pub six : len ≤ length buf → group_size (domain f) len ≤ (domain f).limit → is_group (sextet_of letter) ≡ false
      → grouped f letter len buf ≡ refused_by 6 0
  -- "2 for a body that isn't whole units"
  pub two : len ≤ length buf → group_size (domain f) len ≤ (domain f).limit → is_group (sextet_of letter) ≡ true
      → (len % (domain f).unit ≡ 0 → ⊥) → grouped f letter len buf ≡ refused_by 2 0
  -- "then the number and place that a walk of the body as this group's contents gives"
  pub walked : Asked f letter len buf → (m p : ℕ) → body_walk (domain f) (sextet_of letter) (take len buf) ≡ P.Refused m p
      → grouped f letter len buf ≡ refused_by m p
  -- "then 3"
  pub three-last : Asked f letter len buf → body_walk (domain f) (sextet_of letter) (take len buf) ≡ P.End
      → length buf < group_size (domain f) len → grouped f letter len buf ≡ refused_by 3 0
  -- "put the group header in front and hand back the size": where none of these holds, and nowhere else
  pub writes : Asked f letter len buf → body_walk (domain f) (sextet_of letter) (take len buf) ≡ P.End
      → group_size (domain f) len ≤ length buf → grouped f letter len buf ≡ Ok (group_size (domain f) len)
  pub only-writes : (n : ℕ) → grouped f letter len buf ≡ Ok n
      → Asked f letter len buf × (body_walk (domain f) (sextet_of letter) (take len buf) ≡ P.End)
      × (n ≡ group_size (domain f) len) × (n ≤ length buf)
  -- the size is that of what is written, and what stood behind it stays
  pub size : (n : ℕ) → grouped f letter len buf ≡ Ok n → n ≡ length (group_of f (sextet_of letter) (take len buf))
  pub front : (n : ℕ) → grouped f letter len buf ≡ Ok n
      → take n (group_left (Ok n) f letter len buf) ≡ group_of f (sextet_of letter) (take len buf)
  pub behind : (n : ℕ) → grouped f letter len buf ≡ Ok n → drop n (group_left (Ok n) f letter len buf) ≡ drop n buf
  -- "Where a call itself is refused, every output buffer holds what it held before"
  pub kept : (m p : ℕ) → grouped f letter len buf ≡ refused_by m p → group_left (grouped f letter len buf) f letter len buf ≡ buf

-- ---- of a body and the group around it, whatever the room

-- whole units of a group's letter, within the limit with their header
pub record Bodied (f : Form) (l : ℕ) (body : List ℕ) : Type 0 where
  pub lettered : is_group l ≡ true
  pub whole : length body % (domain f).unit ≡ 0
  pub short : group_size (domain f) (length body) ≤ (domain f).limit

pub record BodyClaims (f : Form) (l : ℕ) (body : List ℕ) : Type 0 where
  -- "a walk of the body as this group's contents": within this one group, and it comes to its end or a refusal
  pub depth : (n : ℕ) → 0 < n → (within l n).depth ≡ 1
  pub stops : body_walk (domain f) l body ≡ P.Spent → ⊥
  -- it says of the body what the report says of header and body: accepted, or the same number, its place counted from the body's start
  pub accepts : Bodied f l body → body_walk (domain f) l body ≡ P.End → judge_in (domain f) (group_of f l body) ≡ Accepted
  pub refuses : Bodied f l body → (m p : ℕ) → body_walk (domain f) l body ≡ P.Refused m p
      → judge_in (domain f) (group_of f l body) ≡ Refused m (head_units (length body / (domain f).unit) * (domain f).unit + p)
  -- so its number is one of an item's verdicts: never 1, 2, 3 or 13
  pub numbers : Bodied f l body → (m p : ℕ) → body_walk (domain f) l body ≡ P.Refused m p
      → Among (4 ∷ 5 ∷ 19 ∷ 6 ∷ 7 ∷ 11 ∷ 18 ∷ 9 ∷ 8 ∷ 16 ∷ 15 ∷ 10 ∷ []) m

-- ---- of what was written: the first n elements of the buffer, for every letter, `K` and `L` too, and for an empty body

-- what the buffer begins with afterwards
abbrev pub made : Form → ℕ → ℕ → List ℕ → ℕ → List ℕ
made f letter len buf n = take n (group_left (grouped f letter len buf) f letter len buf)

pub record WrittenClaims (f : Form) (letter len : ℕ) (buf : List ℕ) : Type 0 where
  -- a group that is written is one that the report accepts, and it is the stream's only item
  pub accepted : (n : ℕ) → grouped f letter len buf ≡ Ok n → judge_in (domain f) (made f letter len buf n) ≡ Accepted
  pub one-item : (n : ℕ) → grouped f letter len buf ≡ Ok n
      → rows_in (domain f) (made f letter len buf n) ≡ record { offset = 0; size = n; verdict = Accepted } ∷ []
  pub no-remainder : (n : ℕ) → grouped f letter len buf ≡ Ok n → remainder_in (domain f) (made f letter len buf n) ≡ []
  -- "Read back at top level, the group is yielded, then the items of that walk, their offsets counted on by the header's size", in every
  -- number of steps
  pub read_back : (n : ℕ) → grouped f letter len buf ≡ Ok n → (j : ℕ) →
      let d : Domain = domain f in
      let l : ℕ = sextet_of letter in
      let h : ℕ = head_units (len / d.unit) in
      yielded d (made f letter len buf n) (suc j) start
      ≡ F.Item 0 n 0 (Group l) h ∷ map (found_on (h * d.unit)) (yielded d (take len buf) j (within l (len / d.unit)))
  -- "the body's own at depth 1": that walk begins at depth 1 (depth of BodyClaims), and yields nothing outside of it
  pub inner : (n : ℕ) → grouped f letter len buf ≡ Ok n → (j : ℕ)
      → Inner (yielded (domain f) (take len buf) j (within (sextet_of letter) (len / (domain f).unit)))

-- ---- of the numbers, as C is told them

pub record NumberClaims (f : Form) (letter len : ℕ) (buf : List ℕ) : Type 0 where
  -- the writer's own and an item's verdicts, and no other
  pub listed : (m p : ℕ) → grouped f letter len buf ≡ refused_by m p
      → Among (3 ∷ 1 ∷ 6 ∷ 2 ∷ 4 ∷ 5 ∷ 19 ∷ 6 ∷ 7 ∷ 11 ∷ 18 ∷ 9 ∷ 8 ∷ 16 ∷ 15 ∷ 10 ∷ []) m
  -- so that no refusal can be taken for a group: 0 is told only where one was written
  pub zero-written : grouped_number (grouped f letter len buf) ≡ 0 → (n : ℕ) × (grouped f letter len buf ≡ Ok n)

-- ---- all of it

pub record GroupClaims : Type 0 where
  pub of-call : (f : Form) (letter len : ℕ) (buf : List ℕ) → CallClaims f letter len buf
  pub of-body : (f : Form) (l : ℕ) (body : List ℕ) → BodyClaims f l body
  pub of-written : (f : Form) (letter len : ℕ) (buf : List ℕ) → WrittenClaims f letter len buf
  pub of-numbers : (f : Form) (letter len : ℕ) (buf : List ℕ) → NumberClaims f letter len buf
