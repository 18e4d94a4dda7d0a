-- A turn of the mixed report's loop. Assumes nothing.
use Prim.Native.Nat.{ℕ, ◌+◌, ◌*◌, ◌/◌, ◌≤◌, ◌<◌}
use mathlib.Core.Path.{◌≡◌, refl, sym, ◌∙◌, subst}
use mathlib.Core.Bool.{Bool, true, false}
use mathlib.Core.List.{List}
use native.Mathlib.Omega.{arith}
use lib.Dec.{leb}
use lib.ListN.{length, drop, length-drop}
use borrow.Author.Tests.{leb-true, leb-false}
use Rattle.format.specs.declared.Kind.{Kind}
use Rattle.format.specs.declared.Framed.TheVariants.{Item}
use Rattle.format.specs.declared.Verdict.{Verdict}
use Rattle.format.specs.Report.{refusal, refusal_bytes}
use Rattle.filling.specs.Stores.{row_with, concat-long, refusal-long}
use Rattle.filling.specs.Filling.{refusal-few, turn, filled-room, filled_more, filled-few}
use Rattle.mixed.specs.Mixed.{start_at, form_byte, frame_mixed, judge_mixed, mixed_row_bytes}
use Rattle.mixed_laws.specs.Frames.{frames-mixed}
use Rattle.mixed_here.specs.declared.Standing.{Standing}
use Rattle.mixed_here.specs.declared.Standing.TheVariants as H
use Rattle.mixed_here.specs.Here.{Stands, Judged}
use Rattle.mixed_rows.specs.Rows.{item_put, row-ten, item-put}
use Rattle.mixed_turn.specs.declared.Turn.{Turn}
use Rattle.mixed_turn.specs.declared.Turn.TheVariants.{Stored, Rest}
use Rattle.mixed_turn.specs.Turns.{Filling, Filled, Turns, Places}
use Rattle.runs_tables.specs.declared.Tables.{Tables}

-- ---- the rows

module _ {s : List ℕ} {n at i k : ℕ} {out : List ℕ} (Φ : Filling s n at i k out) where
  -- no row is past what is stored
  filling-few : (i ≤ n) × (k ≤ n)
  filling-few = filled-few frame_mixed judge_mixed frames-mixed (mixed_row_bytes s) 10 (row-ten s) s Φ.held n Φ.count at i k out Φ.filled

  module _ (t : Kind) (h m : ℕ) (e : frame_mixed (drop at s) ≡ Item t h m) where
    -- a framed item has room for its rows
    room-here : (i < n) × (k ≤ i)
    room-here = filled-room frame_mixed judge_mixed frames-mixed (mixed_row_bytes s) 10 (row-ten s) s Φ.held n Φ.count at i k out Φ.filled e

    stored_is : (v : Verdict) → item_put out (4 + 10 * i) (8 + 10 * n + 9 * k) i at m v (form_byte (start_at s at))
        ≡ turn frame_mixed judge_mixed frames-mixed (mixed_row_bytes s) 10 (row-ten s) s n i k (row_with at m v) out
    unfolding turn
    stored_is v =
        let r = room-here in
        let y = concat-long refusal_bytes 9 refusal-long (refusal i v) in
        let z = refusal-few i v in
        item-put s out (4 + 10 * i) (8 + 10 * n + 9 * k) i at m v (omega (arith, r.0)) (omega (arith, Φ.room, r.0, r.1))

-- an item that is found
pub found_turn : (s : List ℕ) (n at i k : ℕ) (out : List ℕ) (m : ℕ) (v : Verdict) (form b : ℕ) → b ≡ length (refusal i v)
    → (out' : List ℕ) → out' ≡ item_put out (4 + 10 * i) (8 + 10 * n + 9 * k) i at m v form → Stands s at (H.Item m v form)
    → Filled s n at i k out (Stored m b) out'
found_turn s n at i k out m v form b eb out' c S Φ o φ =
    let g = S.0 in
    let w = frames-mixed.within (drop at s) g.kind g.head m g.framed in (
      omega (arith, w.0, w.1),
      omega (arith, w.2, length-drop at s, Φ.here),
      rw (eb, c, S.1, stored_is Φ g.kind g.head m g.framed v)
          (filled_more frame_mixed judge_mixed frames-mixed (mixed_row_bytes s) 10 (row-ten s) s o n Φ.count at i k out φ g.framed v g.judged),
    )

-- what stands at a byte
module _ (s : List ℕ) (n at i k : ℕ) (out : List ℕ) (h : Standing) where
  pub rest-turn : (x : ℕ) → h ≡ H.Rest x → Stands s at h → Filled s n at i k out (Rest x) out
  rest-turn x e S Φ o φ = let p = subst (Stands s at) e S in (p.0, p.1, φ)

  pub item-turn : (m : ℕ) (v : Verdict) (form : ℕ) → h ≡ H.Item m v form → (r : Turn) (out' : List ℕ) → (Stands s at (H.Item m v form) → Filled s n at i k out r out')
      → Stands s at h → Filled s n at i k out r out'
  item-turn m v form e r out' F S = F (subst (Stands s at) e S)

-- by what is judged there
pub judged-turn : {tables : Tables} {s : List ℕ} {n to at i k : ℕ} {out : List ℕ} (h : Standing) → Judged tables s at to h → (r : Turn)
    {out' : List ℕ} → (Stands s at h → Filled s n at i k out r out') → Turns tables s n to at i k out r out'
judged-turn h J r F = record { right = λ L K Φ. F (J.right L Φ.few (omega (arith, Φ.here)) K) Φ }

-- ---- what the test of places says

module _ (s : List ℕ) (room n at i k : ℕ) where
  no_place : (r : Bool) → r ≡ false → ((out : List ℕ) → length out ≡ room → Filling s n at i k out → ⊥) → Places s room n at i k r
  no_place r e h = record { placed = λ t. absurd (let y : ◌≡◌ {A = Bool} true false = sym t ∙ e in let z : ◌≡◌ {A = ℕ} 0 1 = cc in omega arith); not-placed = λ _. h }

  pub too_many : room / 19 < n → Places s room n at i k false
  too_many h = no_place false refl (λ out l Φ. omega (arith, Φ.room))

  pub too_far : n < i → Places s room n at i k false
  too_far h = no_place false refl (λ out l Φ. omega (arith, (filling-few Φ).0))

  pub too-bad : n < k → Places s room n at i k false
  too-bad h = no_place false refl (λ out l Φ. omega (arith, (filling-few Φ).1))

  pub by_end : n ≤ room / 19 → i ≤ n → k ≤ n → Places s room n at i k (leb at (length s))
  by_end m g h = record {
    placed = λ t b. record { most = omega arith; items = g; bad = h; inside = leb-true at (length s) t };
    not-placed = λ t out l Φ. omega (arith, Φ.here, leb-false at (length s) t);
  }

pub turns-not : {tables : Tables} {s : List ℕ} {n to at i k : ℕ} {out : List ℕ} (b : Bool) → Places s (length out) n at i k b → b ≡ false → (r : Turn)
    → Turns tables s n to at i k out r out
turns-not b P e r = record { right = λ L K Φ. absurd (P.not-placed e _ refl Φ) }
