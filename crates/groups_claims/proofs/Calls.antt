-- The claims on the call: its order, and what it leaves. Assumes nothing.
use Rattle.std.specs.Prelude.{ℕ, ◌*◌, ◌/◌, ◌%◌, ◌≤◌, ◌<◌, ◌≡◌, refl, List, ltb, eqb, take, drop}
use Rattle.std.proofs.Common.{sym, ◌∙◌, arith, length-append, length-take-le}
use Rattle.std.proofs.Math.ListN.{length}
use Rattle.std.proofs.lemmas.List.{length-map}
use Rattle.std.proofs.Math.Seq.{take_at, drop_at}
use borrow.Author.Tests.{ltb-false, lt-ltb, le-ltb, eq-eqb, ne_eqb, eqb-true}
use Rattle.base.specs.Pick.{pick-by}
use Rattle.format.specs.declared.Form.{Form}
use Rattle.format.specs.declared.Form.TheVariants.{Text, Binary}
use Rattle.format.specs.Alphabet.{sextet_of, char_of}
use Rattle.format.specs.Units.{domain}
use Rattle.format.specs.Registry.{is_group}
use Rattle.roundtrip_laws.specs.Bytes.{bytes-length}
use Rattle.instalments.specs.declared.Pause.{Pause}
use Rattle.instalments.specs.declared.Pause.TheVariants as P
use Rattle.groups.specs.Grouping.{head_units, head_sextets, spelled, group_of, group_size, body_walk, room_for, grouped, group_left}
use Rattle.groups_claims.proofs.Heads.{head-length}
use Rattle.groups_claims.specs.Claims.{Asked, CallClaims}
use Rattle.std.specs.Prelude.{Ok, Result}
use Rattle.format.specs.declared.Refusal.{Refusal}
use Rattle.format.specs.Refusals.{refused_by}

-- ---- sizes

pub spelled-length : (f : Form) (s : List ℕ) (k : ℕ) → length s ≡ 4 * k → length (spelled f s) ≡ k * (domain f).unit
unfolding spelled
spelled-length Text s k e = length-map s char_of ∙ omega arith
spelled-length Binary s k e = bytes-length s ∙ omega arith

-- header and body
pub group-length : (f : Form) (l : ℕ) (body : List ℕ) → length (group_of f l body) ≡ group_size (domain f) (length body)
unfolding group_of group_size
group-length f l body =
    let n : ℕ = length body / (domain f).unit in
    length-append (spelled f (head_sextets l n)) body
    ∙ rw (spelled-length f (head_sextets l n) (head_units n) (head-length l n))

-- ---- the order

never {ℓ} : {A : Type ℓ} {m p n : ℕ} → refused_by m p ≡ Ok n → A
never e = let z : ◌≡◌ {A = ℕ} 0 1 = cc in absurd (omega arith)

room-written : (c : Pause ℕ) (size room n : ℕ) → room_for c size room ≡ Ok n → (c ≡ P.End) × (n ≡ size) × (n ≤ room)
unfolding room_for
room-written P.End size room n e =
    pick-by (λ r. r ≡ Ok n → (◌≡◌ {A = Pause ℕ} P.End P.End) × (n ≡ size) × (n ≤ room)) (ltb room size) _ _ (λ _ q. never q)
    (λ g q. let z : size ≡ n = cc in (refl, sym z, omega (arith, ltb-false room size g))) e
room-written (P.Refused m p) size room n e = never e
room-written P.Spent size room n e = never e

module _ (f : Form) (letter len : ℕ) (buf : List ℕ) where
  abbrev walk : Pause ℕ
  walk = body_walk (domain f) (sextet_of letter) (take len buf)

  asked-then : Asked f letter len buf → grouped f letter len buf ≡ room_for walk (group_size (domain f) len) (length buf)
  unfolding grouped
  asked-then a =
      rw (
        le-ltb (length buf) len a.there,
        le-ltb (domain f).limit (group_size (domain f) len) a.short,
        a.lettered,
        eq-eqb (len % (domain f).unit) 0 a.whole,
      )

  only-writes : (n : ℕ) → grouped f letter len buf ≡ Ok n
      → Asked f letter len buf × (walk ≡ P.End) × (n ≡ group_size (domain f) len) × (n ≤ length buf)
  unfolding grouped
  only-writes n =
      let Q : Result ℕ (Refusal ℕ) → Type 0 =
      λ r. r ≡ Ok n → Asked f letter len buf × (walk ≡ P.End) × (n ≡ group_size (domain f) len) × (n ≤ length buf) in
      pick-by Q (ltb (length buf) len) _ _ (λ _ e. never e) (λ a.
      pick-by Q (ltb (domain f).limit (group_size (domain f) len)) _ _ (λ _ e. never e) (λ b.
      pick-by Q (is_group (sextet_of letter)) _ _
      (λ c. pick-by Q (eqb (len % (domain f).unit) 0) _ _
      (λ w e.
      let r = room-written walk (group_size (domain f) len) (length buf) n e in (
        record {
          there = ltb-false (length buf) len a;
          short = ltb-false (domain f).limit (group_size (domain f) len) b;
          lettered = c;
          whole = eqb-true (len % (domain f).unit) 0 w;
        },
        r.0,
        r.1,
        r.2,
      ))
      (λ _ e. never e))
      (λ _ e. never e)))

  walked : Asked f letter len buf → (m p : ℕ) → walk ≡ P.Refused m p → grouped f letter len buf ≡ refused_by m p
  unfolding room_for
  walked a m p e = asked-then a ∙ rw e

  three-last : Asked f letter len buf → walk ≡ P.End → length buf < group_size (domain f) len → grouped f letter len buf ≡ refused_by 3 0
  unfolding room_for
  three-last a e l = asked-then a ∙ rw (e, lt-ltb (length buf) (group_size (domain f) len) l)

  writes : Asked f letter len buf → walk ≡ P.End → group_size (domain f) len ≤ length buf
      → grouped f letter len buf ≡ Ok (group_size (domain f) len)
  unfolding room_for
  writes a e l = asked-then a ∙ rw (e, le-ltb (length buf) (group_size (domain f) len) l)

  size : (n : ℕ) → grouped f letter len buf ≡ Ok n → n ≡ length (group_of f (sextet_of letter) (take len buf))
  size n e =
      let w = only-writes n e in
      w.2 ∙ sym (group-length f (sextet_of letter) (take len buf) ∙ rw (length-take-le len buf w.0.there))

  pub front : (n : ℕ) → grouped f letter len buf ≡ Ok n
      → take n (group_left (Ok n) f letter len buf) ≡ group_of f (sextet_of letter) (take len buf)
  unfolding group_left
  front n e = take_at (group_of f (sextet_of letter) (take len buf)) (drop n buf) n (sym (size n e))

  behind : (n : ℕ) → grouped f letter len buf ≡ Ok n → drop n (group_left (Ok n) f letter len buf) ≡ drop n buf
  unfolding group_left
  behind n e = drop_at (group_of f (sextet_of letter) (take len buf)) (drop n buf) n (sym (size n e))

  pub calls : CallClaims f letter len buf
  unfolding grouped group_left
  calls = record {
    three-first = λ h. rw (lt-ltb (length buf) len h);
    one = λ h g. rw (le-ltb (length buf) len h, lt-ltb (domain f).limit (group_size (domain f) len) g);
    six = λ h g e. rw (le-ltb (length buf) len h, le-ltb (domain f).limit (group_size (domain f) len) g, e);
    two = λ h g e w.
        rw (le-ltb (length buf) len h, le-ltb (domain f).limit (group_size (domain f) len) g, e, ne_eqb (len % (domain f).unit) 0 w);
    walked = walked;
    three-last = three-last;
    writes = writes;
    only-writes = only-writes;
    size = size;
    front = front;
    behind = behind;
    kept = λ m p e. rw e;
  }
