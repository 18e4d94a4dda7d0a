-- What a plan says of the item, refused or not. Assumes nothing.
use mathlib.Core.Path.{◌≡◌, refl, ◌∙◌}
use mathlib.Core.List.{List}
use Prim.Native.Nat.{ℕ, ◌+◌, ◌*◌, ◌<◌, ◌≤◌}
use borrow.Author.Tests.{ltb-false}
use lib.Dec.{ltb}
use lib.ListN.{length, take, replicate}
use Rattle.base.specs.Pick.{pick-by}
use Rattle.format.specs.declared.Code.{Code}
use Rattle.format.specs.Conversion.{first_stranger}
use Rattle.format.specs.Texts.{text_count}
use Rattle.format.specs.Writing.{Named, named, units_of, Writing, writing}
use Rattle.format.specs.Writing.Named.{unknown, row, variable, textual}
use Rattle.format.specs.Writing.Writing.{refused, written}
use Rattle.writing_code.specs.Names.{Able}
use Rattle.writing_code.proofs.Names.{able}
use Rattle.writing_head.specs.Heads.{head_bytes, WithRaw, WithText, Divided}
use Rattle.writing_head.proofs.Bytes.{some-units, divided}
use Rattle.std.specs.Prelude.{None, Some, Option}
use Rattle.format.specs.declared.Refusal.{Refusal}
use Rattle.writing.specs.declared.Planned.{Planned}
use Rattle.writing.specs.declared.Planned.TheVariants as P
use Rattle.writing.specs.declared.Plan.{Plan}
use Rattle.writing_raw.specs.Item.{room_for}
use Rattle.writing_refusal.specs.Refusals.{chars_refusal, refusal_of}
use Rattle.writing.specs.Plan.{planned_of, plan_by, plan_of}
use Rattle.writing.proofs.Refusals.{by, unrefused, by-refusal, text-clean}

-- ---- how it is made

module _ (n : Named) (tag : List ℕ) (tags : ℕ) (raw : List ℕ) where
  pub plan-refused : (r : Refusal ℕ) → Some r ≡ refusal_of n tag tags raw
      → record { planned = P.Refused r.number r.place; head = replicate 9 0 } ≡ plan_of n tag tags raw
  unfolding plan_of
  plan-refused r e = rw (← e)

  pub plan-made : None ≡ refusal_of n tag tags raw
      → record { planned = planned_of n (units_of n (length raw)); head = head_bytes n (take tags tag) (length raw) } ≡ plan_of n tag tags raw
  unfolding plan_of
  plan-made e = rw (← e)

-- what is not refused fits its code
pub unrefused-able : (code : Code) (tag : List ℕ) (tags : ℕ) (raw : List ℕ) → refusal_of (named code) tag tags raw ≡ None
    → Able (named code) tags (length raw)
unrefused-able code tag tags raw z = able code tags (length raw) (unrefused (named code) tag tags raw z).0

-- ---- what it says

-- what is left is to ask its room
abbrev Asks : Named → List ℕ → ℕ → List ℕ → ℕ → Type 0
Asks n tag tags raw k = (u room : ℕ) → writing u n tag tags raw room ≡ room_for u k room

pub record Ready (n : Named) (tag : List ℕ) (tags : ℕ) (raw : List ℕ) (k : ℕ) (head : List ℕ) : Type 0 where
  pub answer : Asks n tag tags raw k
  pub item : WithRaw n (take tags tag) raw k head

pub record TextReady (n : Named) (tag : List ℕ) (tags : ℕ) (chars : List ℕ) (h : ℕ) (head : List ℕ) : Type 0 where
  pub answer : Asks n tag tags chars (h + text_count (length chars))
  pub item : WithText n (take tags tag) chars h (h + text_count (length chars)) head
  pub clean : length chars ≤ first_stranger chars

abbrev pub Told : Named → List ℕ → ℕ → List ℕ → Planned → List ℕ → Type 0
Told n tag tags raw (P.Refused m p) head = (u room : ℕ) → writing u n tag tags raw room ≡ refused m p
Told n tag tags raw (P.Units k) head = Ready n tag tags raw k head
Told n tag tags raw (P.Text h) head = TextReady n tag tags raw h head

ready : (n : Named) (tag : List ℕ) (tags : ℕ) (raw : List ℕ) (k : ℕ) (head : List ℕ) → Divided n (take tags tag) raw k head
    → chars_refusal n tag tags raw ≡ None → Asks n tag tags raw k → Told n tag tags raw (planned_of n k) head
unfolding planned_of chars_refusal
ready unknown tag tags raw k head d z a = record { answer = a; item = d }
ready (row c) tag tags raw k head d z a = record { answer = a; item = d }
ready (variable t h) tag tags raw k head d z a = record { answer = a; item = d }
ready (textual h) tag tags raw k head d z a = record { answer = rw d.units at a; item = rw d.units at d; clean = text-clean raw z }

-- by the refusal
module _ (code : Code) (tag : List ℕ) (tags : ℕ) (raw : List ℕ) (l : length tag ≡ 11) where
  abbrev TellsOf : Plan → Type 0
  TellsOf p = Told (named code) tag tags raw p.planned p.head

  told-by : (r : Option (Refusal ℕ)) → refusal_of (named code) tag tags raw ≡ r → TellsOf (plan_by r (named code) (take tags tag) (length raw))
  told-by None z =
      let n = named code in
      ready n tag tags raw _ _ (divided code tag tags raw l (unrefused-able code tag tags raw z)) (unrefused n tag tags raw z).1
      (λ u room. by-refusal n tag tags raw u room ∙ rw z)
  told-by (Some r) z = λ u room. by-refusal (named code) tag tags raw u room ∙ rw z

  pub told : (p : Plan) → p ≡ plan_of (named code) tag tags raw → TellsOf p
  unfolding plan_of
  told p e = rw e (told-by (refusal_of (named code) tag tags raw) refl)

-- ---- what is written is there, and within the room

abbrev pub Held : ℕ → ℕ → Writing → Type 0
Held u room (refused m p) = Unit {0}
Held u room (written k) = (k * u ≤ room) × (0 < k)

module _ (u : ℕ) (code : Code) (tag : List ℕ) (tags : ℕ) (raw : List ℕ) (room : ℕ) where
  held-by : (r : Option (Refusal ℕ)) → refusal_of (named code) tag tags raw ≡ r
      → Held u room (by r (room_for u (units_of (named code) (length raw)) room))
  held-by None z =
      let n = named code in
      pick-by (Held u room) (ltb room (units_of n (length raw) * u)) _ _ (λ _. tt)
      (λ h. (ltb-false _ _ h, some-units n tags (length raw) (unrefused-able code tag tags raw z)))
  held-by (Some r) z = tt

  pub held : Held u room (writing u (named code) tag tags raw room)
  held = rw (by-refusal (named code) tag tags raw u room) (held-by (refusal_of (named code) tag tags raw) refl)
