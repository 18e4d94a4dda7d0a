-- The reader finds a primitive exactly where its own sextets stand: whatever stands behind them. Assumes nothing.
use Rattle.std.specs.Prelude.{ℕ, zero, suc, ◌+◌, ◌*◌, ◌/◌, ◌≤◌, ◌<◌, ◌≡◌, refl, List, [], ◌∷◌, ◌++◌, Bool, true, false, ltb, eqb, length, take, drop}
use Rattle.std.proofs.Common.{◌∙◌, subst, arith, lit<, length-append, take_at, length-take-le, get_or-take, ltb-true, ltb-false, lt-ltb, le-ltb, eqb-true}
use Rattle.std.proofs.Math.ListN.{get_or-append}
use Rattle.base.specs.Pick.{pick, pick-by}
use Rattle.base.specs.Digits.{Below, none, more, below-drop}
use Rattle.format.specs.declared.CodeRow.{CodeRow}
use Rattle.format.specs.declared.Kind.{Kind}
use Rattle.format.specs.declared.Kind.TheVariants.{Fixed, Variable, Group, Genus, Indexed}
use Rattle.format.specs.declared.Opening.{Opening}
use Rattle.format.specs.declared.Opening.TheVariants.{Unknown, Short, Long, LargeVariable, LargeGroup, Version}
use Rattle.format.specs.declared.Framed.{Framed}
use Rattle.format.specs.declared.Framed.TheVariants.{Item, Unframed}
use Rattle.format.specs.declared.Verdict.{Verdict}
use Rattle.format.specs.declared.Verdict.TheVariants.{Accepted, Refused}
use Rattle.format.specs.Registry.{is_type, is_group, fixed, opening, extent}
use Rattle.format.specs.Framing.{fit, second, digits4, headed, frame_with, sextet, frame}
use Rattle.format.specs.Judging.{shift, and_then, unless, scan, behind, judge_kind, own_check}
use Rattle.format.specs.Reading.{refused, found, is_primitive, judged, read_framed, reading}
use Rattle.format.specs.Writing.{code_sextets}
use Rattle.laws.specs.Scan.{scan-below}
use Rattle.laws.specs.Registry.{Code, one, two, four, Finds, fixed-finds}
use Rattle.laws.specs.Framing.{Known, known_by, known_next, Good, Lawful, frame-good}
use Rattle.roundtrip_laws.specs.Bytes.{Quad, quad, quad-of, below-any}
use Rattle.roundtrip_laws.specs.Rows.{Row, row-found}
use Rattle.roundtrip_laws.specs.Own.{Headed, small, large, Coded, Own}

-- ---- what a first unit opens

code-opens : (c : CodeRow) (s : List ℕ) → Code c → c.letter < 52 → Quad s → take c.chars s ≡ code_sextets c
    → opening (sextet s 0) (sextet s 1) (sextet s 2) (sextet s 3) ≡ fixed c.chars c.letter
unfolding opening code_sextets
code-opens c s (one e p) l (quad {x} {y} {u} {v} {r}) h =
    let g = rw e at h in
    let a : x ≡ c.letter = cc in
    rw (e, a, lt-ltb c.letter 52 l)
code-opens c s (two e p) l (quad {x} {y} {u} {v} {r}) h =
    let g = rw e at h in
    let a : x ≡ 52 = cc in
    let b : y ≡ c.letter = cc in
    rw (e, a, b)
code-opens c s (four e p) l (quad {x} {y} {u} {v} {r}) h =
    let g = rw e at h in
    let a : x ≡ 53 = cc in
    let b : y ≡ 0 = cc in
    let d : u ≡ 0 = cc in
    let f : v ≡ c.letter = cc in
    rw (e, a, b, d, f)

-- what an opening says of the sextets it was made of
abbrev Says : List ℕ → Opening → Type 0
Says s Unknown = Unit {0}
Says s (Short (Fixed c) n) = Row c n × (take c.chars s ≡ code_sextets c)
Says s (Short (Variable t l m) n) = (is_type t ≡ true) × Headed t l m 1 (sextet s)
Says s (Short (Group l) n) = Unit {0}
Says s (Short Genus n) = Unit {0}
Says s (Short (Indexed c) n) = Unit {0}
Says s (Long k n) = ⊥
Says s (LargeVariable t l) = (is_type t ≡ true) × (sextet s 0 ≡ 59 + l) × (sextet s 1 ≡ 0) × (sextet s 2 ≡ 0) × (sextet s 3 ≡ t)
Says s (LargeGroup l d) = Unit {0}
Says s Version = Unit {0}

fixed-says : (s : List ℕ) (chars letter : ℕ) → ((c : CodeRow) → c.chars ≡ chars → c.letter ≡ letter → take c.chars s ≡ code_sextets c)
    → (o : Opening) → fixed chars letter ≡ o → Says s o
fixed-says s chars letter f Unknown e = tt
fixed-says s chars letter f (Short (Fixed c) n) e =
    let r = row-found chars letter c n e in
    (r.0, f c r.1 r.2)
fixed-says s chars letter f (Short (Variable t l m) n) e = absurd (subst (Finds chars letter) e (fixed-finds chars letter))
fixed-says s chars letter f (Short (Group l) n) e = tt
fixed-says s chars letter f (Short Genus n) e = tt
fixed-says s chars letter f (Short (Indexed c) n) e = tt
fixed-says s chars letter f (Long k n) e = absurd (subst (Finds chars letter) e (fixed-finds chars letter))
fixed-says s chars letter f (LargeVariable t l) e = absurd (subst (Finds chars letter) e (fixed-finds chars letter))
fixed-says s chars letter f (LargeGroup l d) e = tt
fixed-says s chars letter f Version e = tt

tested : (s : List ℕ) (b : Bool) (o : Opening) → (b ≡ true → Says s o) → Says s (pick b o Unknown)
tested s b o h = pick-by (Says s) b o Unknown h (λ _. tt)

opening-says : (s : List ℕ) → Quad s → Says s (opening (sextet s 0) (sextet s 1) (sextet s 2) (sextet s 3))
unfolding opening code_sextets
opening-says s (quad {x} {y} {u} {v} {r}) =
    let P : Opening → Type 0 = Says (x ∷ y ∷ u ∷ v ∷ r) in
    pick-by P (ltb x 52) _ _
    (λ _. fixed-says _ 1 x (λ c e f. rw (e, f)) (fixed 1 x) refl) (λ _.
    pick-by P (eqb x 52) _ _
    (λ a. let a' = eqb-true x 52 a in fixed-says _ 2 y (λ c e f. rw (e, f, a')) (fixed 2 y) refl) (λ _.
    pick-by P (eqb x 53) _ _
    (λ a. tested _ (eqb y 0) _ (λ b. tested _ (eqb u 0) _ (λ d.
    let a' = eqb-true x 53 a in
    let b' = eqb-true y 0 b in
    let d' = eqb-true u 0 d in
    fixed-says _ 4 v (λ c e f. rw (e, f, a', b', d')) (fixed 4 v) refl))) (λ _.
    pick-by P (ltb x 56) _ _ (λ _. tt) (λ low.
    pick-by P (ltb x 59) _ _ (λ _. tested _ (is_type y) _ (λ t. (t, small refl (omega (arith, ltb-false x 56 low)) refl refl))) (λ mid.
    pick-by P (ltb x 62) _ _
    (λ _. tested _ (eqb y 0) _ (λ b. tested _ (eqb u 0) _ (λ d. tested _ (is_type v) _ (λ t.
    (t, omega (arith, ltb-false x 59 mid), eqb-true y 0 b, eqb-true u 0 d, refl))))) (λ _.
    pick-by P (eqb x 62) _ _
    (λ _. pick-by P (is_group y) _ _ (λ _. tt) (λ _.
    pick-by P (eqb y 62) _ _ (λ _. tested _ (is_group u) _ (λ _. tt)) (λ _. tested _ (eqb y 63) _ (λ _. tt))))
    (λ _. tt)))))))

-- ---- what a framing says

-- the header's own sextets are of the alphabet
abbrev pub Lows : List ℕ → ℕ → Type 0
Lows s h = Known (sextet s) 0 × (h ≡ 2 → Known (sextet s) 4)

abbrev Starts : List ℕ → Framed → Type 0
Starts s (Item (Fixed c) h n) = Lows s h × Row c n × (take c.chars s ≡ code_sextets c)
Starts s (Item (Variable t l m) h n) = Lows s h × (is_type t ≡ true) × Headed t l m h (sextet s)
Starts s (Item (Group l) h n) = Unit {0}
Starts s (Item Genus h n) = Unit {0}
Starts s (Item (Indexed c) h n) = Unit {0}
Starts s (Unframed n p) = Unit {0}

fit-starts : (s : List ℕ) (k : Kind) (h n len : ℕ) → Starts s (Item k h n) → Starts s (fit k h n len)
unfolding fit
fit-starts s k h n len g = pick-by (Starts s) (ltb len n) _ _ (λ _. tt) (λ _. g)

second-starts : (s : List ℕ) (len : ℕ) (next : Framed) → (Known (sextet s) 4 → Starts s next) → Starts s (second (sextet s) len next)
unfolding second
second-starts s len next g =
    pick-by (Starts s) (ltb len 2) _ _ (λ _. tt) (λ _. known_by (Starts s) (sextet s) 4 next (λ j b. tt) g)

headed-starts : (s : List ℕ) (o : Opening) (len : ℕ) → Known (sextet s) 0 → Says s o → Starts s (headed o (sextet s) len)
unfolding headed
headed-starts s Unknown len k f = tt
headed-starts s (Short (Fixed c) n) len k f = fit-starts s (Fixed c) 1 n len ((k, λ e. absurd (omega arith)), f.0, f.1)
headed-starts s (Short (Variable t l m) n) len k f =
    fit-starts s (Variable t l m) 1 n len ((k, λ e. absurd (omega arith)), f.0, f.1)
headed-starts s (Short (Group l) n) len k f = fit-starts s (Group l) 1 n len tt
headed-starts s (Short Genus n) len k f = fit-starts s Genus 1 n len tt
headed-starts s (Short (Indexed c) n) len k f = fit-starts s (Indexed c) 1 n len tt
headed-starts s (Long i n) len k f = absurd f
headed-starts s (LargeVariable t l) len k f =
    second-starts s len _ (λ k'. fit-starts s (Variable t l (digits4 (sextet s))) 2 _ len
    ((k, λ _. k'), f.0, large refl f.1 f.2 f.3 f.4 refl))
headed-starts s (LargeGroup l d) len k f = second-starts s len _ (λ _. fit-starts s (Group l) 2 _ len tt)
headed-starts s Version len k f = second-starts s len _ (λ _. fit-starts s Genus 2 _ len tt)

frame-starts : (s : List ℕ) → Starts s (frame s)
unfolding frame frame_with
frame-starts s =
    pick-by (Starts s) (ltb (length s / 4) 1) _ _ (λ _. tt)
    (λ e. known_by (Starts s) (sextet s) 0 _ (λ j b. tt)
    (λ k. headed-starts s _ (length s / 4) k (opening-says s (quad-of s (omega (arith, ltb-false (length s / 4) 1 e))))))

-- ---- framing an item's own sextets, and the same with more behind them

pub known-low : (s : List ℕ) (i : ℕ) → Below 64 s → Known (sextet s) i
known-low s i low =
    let w = below-any 64 s (lit< tt) low in
    (lt-ltb _ 64 (w i), lt-ltb _ 64 (w (i + 1)), lt-ltb _ 64 (w (i + 2)), lt-ltb _ 64 (w (i + 3)))

pub fits : (k : Kind) (h n len : ℕ) → n ≤ len → fit k h n len ≡ Item k h n
unfolding fit
fits k h n len l = rw (le-ltb len n l)

-- a first unit that is there and in the alphabet
frame-by : (s : List ℕ) (o : Opening) → 4 ≤ length s → Below 64 s → opening (sextet s 0) (sextet s 1) (sextet s 2) (sextet s 3) ≡ o
    → frame s ≡ headed o (sextet s) (length s / 4)
unfolding frame frame_with
frame-by s o l low e =
    rw (le-ltb (length s / 4) 1 (omega arith), known_next (sextet s) 0 _ (known-low s 0 low), e)

coded-frames : (c : CodeRow) (h n : ℕ) (s : List ℕ) → length s ≡ 4 * n → Below 64 s → Coded c h n s → frame s ≡ Item (Fixed c) h n
unfolding headed
coded-frames c h n s e low f =
    let r = f.row in
    let some : 4 ≤ length s = omega (arith, r.units, r.sound.some, r.sound.whole) in
    rw f.head
    (frame-by s (Short (Fixed c) n) some low (code-opens c s r.sound.code r.lettered (quad-of s some) f.code ∙ r.found)
    ∙ fits (Fixed c) 1 n (length s / 4) (omega arith))

small-opens : (t l x y : ℕ) → l ≤ 2 → is_type t ≡ true → opening (56 + l) t x y ≡ Short (Variable t l (x * 64 + y)) (1 + (x * 64 + y))
unfolding opening
small-opens t zero x y h e = rw e
small-opens t (suc zero) x y h e = rw e
small-opens t (suc (suc zero)) x y h e = rw e
small-opens t (suc (suc (suc l))) x y h e = absurd (omega arith)

large-opens : (t l : ℕ) → l ≤ 2 → is_type t ≡ true → opening (59 + l) 0 0 t ≡ LargeVariable t l
unfolding opening
large-opens t zero h e = rw e
large-opens t (suc zero) h e = rw e
large-opens t (suc (suc zero)) h e = rw e
large-opens t (suc (suc (suc l))) h e = absurd (omega arith)

counted-frames : (t l m h n : ℕ) (s : List ℕ) → length s ≡ 4 * n → Below 64 s → is_type t ≡ true → l ≤ 2 → n ≡ h + m
    → Headed t l m h (sextet s) → frame s ≡ Item (Variable t l m) h n
unfolding headed second extent
counted-frames t l m h n s e low ty few u (small eh a b d) =
    rw (u, eh)
    (frame-by s (Short (Variable t l m) (1 + m)) (omega arith) low
    (rw (a, b, small-opens t l (sextet s 2) (sextet s 3) few ty, d))
    ∙ fits (Variable t l m) 1 (1 + m) (length s / 4) (omega arith))
counted-frames t l m h n s e low ty few u (large eh a b c d g) =
    rw (u, eh)
    (frame-by s (LargeVariable t l) (omega arith) low (rw (a, b, c, d, large-opens t l few ty))
    ∙ rw (le-ltb (length s / 4) 2 (omega arith), known_next (sextet s) 4 _ (known-low s 4 low), g)
    (fits (Variable t l m) 2 (2 + m) (length s / 4) (omega arith)))

own-frames : (k : Kind) (h n : ℕ) (s : List ℕ) → Own k h n s → frame s ≡ Item k h n
own-frames (Fixed c) h n s o = coded-frames c h n s o.size o.low o.form
own-frames (Variable t l m) h n s o =
    let f = o.form in
    counted-frames t l m h n s o.size o.low f.type f.few f.units f.head
own-frames (Group l) h n s o = absurd o.form
own-frames Genus h n s o = absurd o.form
own-frames (Indexed c) h n s o = absurd o.form

-- an item's own sextets, whatever stands behind them
lawful : (s : List ℕ) (k : Kind) (h n : ℕ) → frame s ≡ Item k h n → Lawful (frame_with opening) (sextet s) (length s / 4) k h n
lawful s k h n e = subst (Good (frame_with opening) (sextet s) (length s / 4)) e (frame-good s)

frame-behind : (s r : List ℕ) (k : Kind) (h n : ℕ) → length s ≡ 4 * n → frame s ≡ Item k h n → frame (s ++ r) ≡ Item k h n
unfolding frame
frame-behind s r k h n e f =
    let g = lawful s k h n f in
    g.alike (sextet (s ++ r)) (length (s ++ r) / 4) (λ i l. get_or-append s r 0 i (omega (arith, g.inside)))
    (rw length-append (omega arith))

frame-own : (s : List ℕ) (k : Kind) (h n : ℕ) → frame s ≡ Item k h n → frame (take (4 * n) s) ≡ Item k h n
unfolding frame
frame-own s k h n f =
    let g = lawful s k h n f in
    g.alike (sextet (take (4 * n) s)) (length (take (4 * n) s) / 4) (λ i l. get_or-take (4 * n) s i 0 (omega (arith, g.inside)))
    (omega (arith, length-take-le (4 * n) s (omega (arith, g.room))))

-- ---- judging

never {ℓ} : {A : Type ℓ} (n p : ℕ) → Refused n p ≡ Accepted → A
never n p e = let z : ◌≡◌ {A = ℕ} 0 1 = cc in absurd (omega arith)

pub shifted : (n : ℕ) (v : Verdict) → shift n v ≡ Accepted → v ≡ Accepted
unfolding shift
shifted n Accepted e = refl
shifted n (Refused m p) e = never m (n + p) e

pub both-accept : (v w : Verdict) → and_then v w ≡ Accepted → (v ≡ Accepted) × (w ≡ Accepted)
unfolding and_then
both-accept Accepted w e = (refl, e)
both-accept (Refused n p) w e = never n p e

pub passes : (n : ℕ) (b : Bool) → unless n b ≡ Accepted → b ≡ true
unfolding unless
passes n true e = refl
passes n false e = never n 0 e

pub low-scan : (s : List ℕ) → scan s ≡ Accepted → Below 64 s
unfolding scan
low-scan [] e = none
low-scan (x ∷ s) e =
    pick-by (λ v. v ≡ Accepted → Below 64 (x ∷ s)) (ltb x 64) _ _
    (λ t f. more (ltb-true x 64 t) (low-scan s (shifted 1 (scan s) f))) (λ _ f. never _ 0 f) e

own-judges : (k : Kind) (h n : ℕ) (s : List ℕ) → Own k h n s → judge_kind k h s (own_check 0) ≡ Accepted
unfolding judge_kind behind shift and_then unless
own-judges (Fixed c) h n s o =
    let f = o.form in
    rw (scan-below _ (below-drop 64 (4 * h) s o.low), f.zeros, f.prepad)
own-judges (Variable t l m) h n s o =
    let f = o.form in
    rw (scan-below _ (below-drop 64 (4 * h) s o.low), f.shortest, f.led, f.zeros, f.right)
own-judges (Group l) h n s o = absurd o.form
own-judges Genus h n s o = absurd o.form
own-judges (Indexed c) h n s o = absurd o.form

own-primitive : (k : Kind) (h n : ℕ) (s : List ℕ) → Own k h n s → is_primitive k ≡ true
unfolding is_primitive
own-primitive (Fixed c) h n s o = refl
own-primitive (Variable t l m) h n s o = refl
own-primitive (Group l) h n s o = absurd o.form
own-primitive Genus h n s o = absurd o.form
own-primitive (Indexed c) h n s o = absurd o.form

-- ---- own sextets are read, whatever stands behind them

pub own-reads : (k : Kind) (h n : ℕ) (s r : List ℕ) → Own k h n s → reading (s ++ r) ≡ found k h n
unfolding reading read_framed judged
own-reads k h n s r o =
    rw (
      frame-behind s r k h n o.size (own-frames k h n s o),
      own-primitive k h n s o,
      take_at s r (4 * n) o.size,
      own-judges k h n s o,
    )

-- ---- what is read are own sextets

-- the sextets of a unit in the alphabet, and of what stands behind it
low-quad : (s : List ℕ) → Quad s → Known (sextet s) 0 → Below 64 (drop 4 s) → Below 64 s
low-quad s (quad {x} {y} {u} {v} {r}) k b =
    more (ltb-true x 64 k.0) (more (ltb-true y 64 k.1) (more (ltb-true u 64 k.2) (more (ltb-true v 64 k.3) b)))

low-quads : (s : List ℕ) → Quad s → 8 ≤ length s → Lows s 2 → Below 64 (drop 8 s) → Below 64 s
low-quads s (quad {x} {y} {u} {v} {r}) l k b = low-quad (x ∷ y ∷ u ∷ v ∷ r) quad k.0 (low-quad r (quad-of r (omega arith)) (k.1 refl) b)

pub own-low : (s : List ℕ) (h : ℕ) → 0 < h → h ≤ 2 → 4 * h ≤ length s → Lows s h → Below 64 (drop (4 * h) s) → Below 64 s
own-low s zero p q l k b = absurd (omega arith)
own-low s (suc zero) p q l k b = low-quad s (quad-of s (omega arith)) k.0 b
own-low s (suc (suc zero)) p q l k b = low-quads s (quad-of s (omega arith)) (omega arith) k b
own-low s (suc (suc (suc h))) p q l k b = absurd (omega arith)

-- an item's own sextets, framed and judged
own-by : (k : Kind) (h n : ℕ) (s : List ℕ) → length s ≡ 4 * n → is_primitive k ≡ true
    → Lawful (frame_with opening) (sextet s) (length s / 4) k h n
    → Starts s (Item k h n) → judge_kind k h s (own_check 0) ≡ Accepted → Own k h n s
unfolding judge_kind behind is_primitive
own-by (Fixed c) h n s e p g f j =
    let a = both-accept _ _ j in
    let b = both-accept _ _ a.1 in
    record {
      size = e;
      low = own-low s h g.some g.few (omega (arith, g.inside)) f.0 (low-scan _ (shifted (4 * h) _ a.0));
      form = record { head = g.shape.1; row = f.1; code = f.2; zeros = passes 8 _ b.0; prepad = passes 10 _ b.1 };
    }
own-by (Variable t l m) h n s e p g f j =
    let a = both-accept _ _ j in
    let w = both-accept _ _ a.1 in
    let b = both-accept _ _ w.1 in
    let z = both-accept _ _ b.1 in
    record {
      size = e;
      low = own-low s h g.some g.few (omega (arith, g.inside)) f.0 (low-scan _ (shifted (4 * h) _ a.0));
      form = record {
        type = f.1;
        few = g.shape.0;
        units = g.shape.1;
        head = f.2;
        shortest = passes 18 _ w.0;
        led = passes 9 _ b.0;
        zeros = passes 8 _ z.0;
        right = passes 16 _ z.1;
      };
    }
own-by (Group l) h n s e p g f j = let z : ◌≡◌ {A = ℕ} 0 1 = cc in absurd (omega arith)
own-by Genus h n s e p g f j = let z : ◌≡◌ {A = ℕ} 0 1 = cc in absurd (omega arith)
own-by (Indexed c) h n s e p g f j = let z : ◌≡◌ {A = ℕ} 0 1 = cc in absurd (omega arith)

-- what a reading found was framed and judged
record Judged (s : List ℕ) (r : Framed) (k : Kind) (h n : ℕ) : Type 0 where
  item : r ≡ Item k h n
  primitive : is_primitive k ≡ true
  accepted : judge_kind k h (take (4 * n) s) (own_check 0) ≡ Accepted

judged-by : (s : List ℕ) (r : Framed) (k : Kind) (h n : ℕ) → read_framed r s ≡ found k h n → Judged s r k h n
unfolding read_framed judged
judged-by s (Unframed m p) k h n e = let z : ◌≡◌ {A = ℕ} 0 1 = cc in absurd (omega arith)
judged-by s (Item k' h' n') k h n e = go (is_primitive k') (judge_kind k' h' (take (4 * n') s) (own_check 0)) refl refl e
  where
    go : (b : Bool) (v : Verdict) → is_primitive k' ≡ b → judge_kind k' h' (take (4 * n') s) (own_check 0) ≡ v
        → pick b (judged k' h' n' v) (refused 14 0) ≡ found k h n → Judged s (Item k' h' n') k h n
    go true Accepted p a f = record { item = cc; primitive = cc; accepted = cc }
    go true (Refused m q) p a f = let z : ◌≡◌ {A = ℕ} 0 1 = cc in absurd (omega arith)
    go false v p a f = let z : ◌≡◌ {A = ℕ} 0 1 = cc in absurd (omega arith)

pub read-own : (s : List ℕ) (k : Kind) (h n : ℕ) → reading s ≡ found k h n → Own k h n (take (4 * n) s) × (4 * n ≤ length s)
unfolding reading
read-own s k h n e =
    let j = judged-by s (frame s) k h n e in
    let g = lawful s k h n j.item in
    let f = frame-own s k h n j.item in
    let inside : 4 * n ≤ length s = omega (arith, g.room) in (
      own-by k h n (take (4 * n) s) (length-take-le (4 * n) s inside) j.primitive (lawful (take (4 * n) s) k h n f)
          (subst (Starts (take (4 * n) s)) f (frame-starts (take (4 * n) s))) j.accepted,
      inside,
    )
