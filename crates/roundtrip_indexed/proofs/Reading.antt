-- An indexed item's own sextets are read, and what is read are such. Assumes nothing.
use Rattle.std.specs.Prelude.{ℕ, ◌*◌, ◌/◌, ◌≤◌, ◌≡◌, refl, List, ◌++◌, true, ◌⊎◌, ltb, eqb, length, take, drop}
use Rattle.std.proofs.Common.{subst, inl, inr, ⊎_elim, arith, length-append, take_at, length-take-le, get_or-take, ltb-false, le-ltb}
use Rattle.std.proofs.Math.ListN.{get_or-append}
use Rattle.base.specs.Pick.{pick, pick-by}
use Rattle.base.specs.Digits.{Below, below-drop}
use Rattle.format.specs.declared.IndexRow.{IndexRow}
use Rattle.format.specs.declared.Kind.{Kind}
use Rattle.format.specs.declared.Kind.TheVariants.{Fixed, Variable, Group, Genus, Indexed}
use Rattle.format.specs.declared.Opening.{Opening}
use Rattle.format.specs.declared.Opening.TheVariants.{Unknown, Short, Long, LargeVariable, LargeGroup, Version}
use Rattle.format.specs.declared.Framed.{Framed}
use Rattle.format.specs.declared.Framed.TheVariants.{Item, Unframed}
use Rattle.format.specs.declared.Verdict.{Verdict}
use Rattle.format.specs.declared.Verdict.TheVariants.{Accepted, Refused}
use Rattle.format.specs.Registry.{index_head, indexed_row, indexed_opening, extent}
use Rattle.format.specs.Framing.{fit, second, headed, frame_with, sextet, frame_indexed}
use Rattle.format.specs.Judging.{shift, and_then, unless, behind, judge_kind, own_check}
use Rattle.format.specs.Reading.{found, judged}
use Rattle.format.specs.Indexed.{read_indexed_framed, reading_indexed, index_code}
use Rattle.laws.specs.Scan.{scan-below}
use Rattle.laws.specs.Framing.{Known, known_by, known_next, Good, Lawful, by-good}
use Rattle.roundtrip_laws.specs.Bytes.{Quad, quad, quad-of}
use Rattle.roundtrip_laws.specs.Reads.{Lows, known-low, fits, both-accept, passes, shifted, low-scan, own-low}
use Rattle.roundtrip_indexed.specs.Rows.{Facts}
use Rattle.roundtrip_indexed.specs.Own.{Own}
use Rattle.roundtrip_indexed.proofs.Codes.{code-opens, Says, opening-says}

-- ---- read

short : (s : List ℕ) (c : IndexRow) (n : ℕ) → n ≤ length s / 4 → headed (Short (Indexed c) n) (sextet s) (length s / 4) ≡ Item (Indexed c) 1 n
unfolding headed
short s c n l = fits (Indexed c) 1 n (length s / 4) l

long : (s : List ℕ) (c : IndexRow) (n : ℕ) → n ≤ length s / 4 → 2 ≤ length s / 4 → Below 64 s
    → headed (Long (Indexed c) n) (sextet s) (length s / 4) ≡ Item (Indexed c) 2 n
unfolding headed second extent
long s c n l two low =
    rw (le-ltb (length s / 4) 2 two, known_next (sextet s) 4 _ (known-low s 4 low)) (fits (Indexed c) 2 n (length s / 4) l)

row-frames : (c : IndexRow) (n : ℕ) (s : List ℕ) → Own c n s → frame_indexed s ≡ Item (Indexed c) (index_head c) n
unfolding frame_indexed frame_with indexed_row
row-frames c n s o =
    let f = o.facts in
    let some : 4 ≤ length s = omega (arith, f.long, o.units, o.size, ⊎_elim (λ (e : index_head c ≡ 1). one e) (λ (e : index_head c ≡ 2). two e) f.head) in
    let opens : indexed_opening (sextet s 0) (sextet s 1) (sextet s 2) (sextet s 3)
    ≡ pick (eqb (index_head c) 1) (Short (Indexed c) (c.size / 4)) (Long (Indexed c) (c.size / 4)) = code-opens c s f (quad-of s some) o.code in
    rw (le-ltb (length s / 4) 1 (omega arith), known_next (sextet s) 0 _ (known-low s 0 o.low), opens) (by f.head)
  where
    one : index_head c ≡ 1 → 1 ≤ index_head c
    one e = omega arith

    two : index_head c ≡ 2 → 1 ≤ index_head c
    two e = omega arith

    n-is : c.size / 4 ≡ n
    n-is = omega (arith, o.units)

    by : (index_head c ≡ 1) ⊎ (index_head c ≡ 2)
        → headed (pick (eqb (index_head c) 1) (Short (Indexed c) (c.size / 4)) (Long (Indexed c) (c.size / 4))) (sextet s) (length s / 4)
        ≡ Item (Indexed c) (index_head c) n
    by (inl e) = rw (e, n-is) (short s c n (omega (arith, o.size)))
    by (inr e) = rw (e, n-is) (long s c n (omega (arith, o.size)) (omega (arith, o.facts.long, o.units, o.size, e)) o.low)

lawful : (s : List ℕ) (k : Kind) (h n : ℕ) → frame_indexed s ≡ Item k h n → Lawful (frame_with indexed_opening) (sextet s) (length s / 4) k h n
lawful s k h n e = subst (Good (frame_with indexed_opening) (sextet s) (length s / 4)) e (by-good true s)

frame-behind : (s r : List ℕ) (k : Kind) (h n : ℕ) → length s ≡ 4 * n → frame_indexed s ≡ Item k h n → frame_indexed (s ++ r) ≡ Item k h n
unfolding frame_indexed
frame-behind s r k h n e f =
    let g = lawful s k h n f in
    g.alike (sextet (s ++ r)) (length (s ++ r) / 4) (λ i l. get_or-append s r 0 i (omega (arith, g.inside)))
    (rw length-append (omega arith))

frame-own : (s : List ℕ) (k : Kind) (h n : ℕ) → frame_indexed s ≡ Item k h n → frame_indexed (take (4 * n) s) ≡ Item k h n
unfolding frame_indexed
frame-own s k h n f =
    let g = lawful s k h n f in
    g.alike (sextet (take (4 * n) s)) (length (take (4 * n) s) / 4) (λ i l. get_or-take (4 * n) s i 0 (omega (arith, g.inside)))
    (omega (arith, length-take-le (4 * n) s (omega (arith, g.room))))

-- own sextets are read, whatever stands behind them
pub own-reads : (c : IndexRow) (n : ℕ) (s r : List ℕ) → Own c n s → reading_indexed (s ++ r) ≡ found (Indexed c) (index_head c) n
unfolding reading_indexed read_indexed_framed judged judge_kind behind shift and_then unless
own-reads c n s r o =
    rw (
      frame-behind s r (Indexed c) (index_head c) n o.size (row-frames c n s o),
      take_at s r (4 * n) o.size,
      scan-below _ (below-drop 64 (4 * index_head c) s o.low),
      o.zeros,
      o.ondex,
    )

-- ---- what is read are own sextets

abbrev Starts : List ℕ → Framed → Type 0
Starts s (Item (Fixed c) h n) = ⊥
Starts s (Item (Variable t l m) h n) = ⊥
Starts s (Item (Group l) h n) = ⊥
Starts s (Item Genus h n) = ⊥
Starts s (Item (Indexed c) h n) = Lows s h × Facts c × (take c.chars s ≡ index_code c) × (4 * n ≡ c.size) × (index_head c ≡ h)
Starts s (Unframed n p) = Unit {0}

fit-starts : (s : List ℕ) (k : Kind) (h n len : ℕ) → Starts s (Item k h n) → Starts s (fit k h n len)
unfolding fit
fit-starts s k h n len g = pick-by (Starts s) (ltb len n) _ _ (λ _. tt) (λ _. g)

headed-starts : (s : List ℕ) (o : Opening) (len : ℕ) → Known (sextet s) 0 → Says s o → Starts s (headed o (sextet s) len)
unfolding headed second extent
headed-starts s Unknown len k f = tt
headed-starts s (Short (Fixed c) n) len k f = absurd f
headed-starts s (Short (Variable t l m) n) len k f = absurd f
headed-starts s (Short (Group l) n) len k f = absurd f
headed-starts s (Short Genus n) len k f = absurd f
headed-starts s (Short (Indexed c) n) len k f =
    fit-starts s (Indexed c) 1 n len ((k, λ e. absurd (omega arith)), f.0, f.1, f.2, f.3)
headed-starts s (Long (Fixed c) n) len k f = absurd f
headed-starts s (Long (Variable t l m) n) len k f = absurd f
headed-starts s (Long (Group l) n) len k f = absurd f
headed-starts s (Long Genus n) len k f = absurd f
headed-starts s (Long (Indexed c) n) len k f =
    pick-by (Starts s) (ltb len 2) _ _ (λ _. tt) (λ _. known_by (Starts s) (sextet s) 4 _ (λ j b. tt)
    (λ k'. fit-starts s (Indexed c) 2 n len ((k, λ _. k'), f.0, f.1, f.2, f.3)))
headed-starts s (LargeVariable t l) len k f = absurd f
headed-starts s (LargeGroup l d) len k f = absurd f
headed-starts s Version len k f = absurd f

frame-starts : (s : List ℕ) → Starts s (frame_indexed s)
unfolding frame_indexed frame_with
frame-starts s =
    pick-by (Starts s) (ltb (length s / 4) 1) _ _ (λ _. tt)
    (λ e. known_by (Starts s) (sextet s) 0 _ (λ j b. tt)
    (λ k. headed-starts s _ (length s / 4) k (opening-says s (quad-of s (omega (arith, ltb-false (length s / 4) 1 e))))))

-- a kind that the table opens
abbrev pub Read : Kind → ℕ → ℕ → List ℕ → Type 0
Read (Fixed c) h n s = ⊥
Read (Variable t l m) h n s = ⊥
Read (Group l) h n s = ⊥
Read Genus h n s = ⊥
Read (Indexed c) h n s = (index_head c ≡ h) × Own c n s

own-by : (k : Kind) (h n : ℕ) (s : List ℕ) → length s ≡ 4 * n → Lawful (frame_with indexed_opening) (sextet s) (length s / 4) k h n
    → Starts s (Item k h n) → judge_kind k h s (own_check 0) ≡ Accepted → Read k h n s
unfolding judge_kind behind
own-by (Fixed c) h n s e g f j = absurd f
own-by (Variable t l m) h n s e g f j = absurd f
own-by (Group l) h n s e g f j = absurd f
own-by Genus h n s e g f j = absurd f
own-by (Indexed c) h n s e g f j =
    let a = both-accept _ _ j in
    let b = both-accept _ _ a.1 in (
      f.4,
      record {
        facts = f.1;
        units = f.3;
        size = e;
        low = own-low s h g.some g.few (omega (arith, g.inside)) f.0 (low-scan _ (shifted (4 * h) _ a.0));
        code = f.2;
        zeros = passes 8 _ b.0;
        ondex = passes 15 _ b.1;
      },
    )

pub read-own : (s : List ℕ) (k : Kind) (h n : ℕ) → reading_indexed s ≡ found k h n → Read k h n (take (4 * n) s) × (4 * n ≤ length s)
unfolding reading_indexed read_indexed_framed judged
read-own s k h n = by (frame_indexed s) refl
  where
    done : frame_indexed s ≡ Item k h n → judge_kind k h (take (4 * n) s) (own_check 0) ≡ Accepted → Read k h n (take (4 * n) s) × (4 * n ≤ length s)
    done f j =
        let g = lawful s k h n f in
        let o = frame-own s k h n f in
        let inside : 4 * n ≤ length s = omega (arith, g.room) in (
          own-by k h n (take (4 * n) s) (length-take-le (4 * n) s inside) (lawful (take (4 * n) s) k h n o)
              (subst (Starts (take (4 * n) s)) o (frame-starts (take (4 * n) s))) j,
          inside,
        )

    told : (k' : Kind) (h' n' : ℕ) → frame_indexed s ≡ Item k' h' n' → (v : Verdict) → judge_kind k' h' (take (4 * n') s) (own_check 0) ≡ v
        → judged k' h' n' v ≡ found k h n → Read k h n (take (4 * n) s) × (4 * n ≤ length s)
    told k' h' n' f Accepted j e =
        let ek : k' ≡ k = cc in
        let eh : h' ≡ h = cc in
        let en : n' ≡ n = cc in
        done (rw (← ek, ← eh, ← en) f) (rw (← ek, ← eh, ← en) j)
    told k' h' n' f (Refused m p) j e = let z : ◌≡◌ {A = ℕ} 0 1 = cc in absurd (omega arith)

    by : (r : Framed) → frame_indexed s ≡ r → read_indexed_framed r s ≡ found k h n → Read k h n (take (4 * n) s) × (4 * n ≤ length s)
    by (Unframed m p) f e = let z : ◌≡◌ {A = ℕ} 0 1 = cc in absurd (omega arith)
    by (Item k' h' n') f e = told k' h' n' f (judge_kind k' h' (take (4 * n') s) (own_check 0)) refl e
