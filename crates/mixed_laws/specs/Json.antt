-- A JSON header decides its item wherever there is room: the two laws that the damage theorem asks of a framing. Assumes nothing.
use Rattle.std.specs.Prelude.{ℕ, zero, suc, ◌+◌, ◌*◌, ◌≤◌, ◌≡◌, refl, List, [], ◌∷◌, true, ltb, length, get_or}
use Rattle.std.proofs.Common.{sym, ap, ◌∙◌, subst, arith, ltb-false, le-ltb}
use Rattle.base.specs.Pick.{pick-by}
use Rattle.format.specs.declared.Kind.{Kind}
use Rattle.format.specs.declared.Framed.{Framed}
use Rattle.format.specs.declared.Framed.TheVariants.{Item, Unframed}
use Rattle.damage.specs.Words.{Agree, Frames}
use Rattle.mixed.specs.Json.{pattern, json_head, passes, hex_from, hex_of, json_size, fit_json, frame_json}

passes-alike : (ts : List ℕ) (i : ℕ) (xs ys : List ℕ) → Agree (i + length ts) xs ys → passes ts i ys ≡ passes ts i xs
unfolding passes
passes-alike [] i xs ys ag = refl
passes-alike (t ∷ ts) i xs ys ag =
    rw (ag i (omega arith), passes-alike ts (suc i) xs ys (λ j l. ag j (omega arith)))

hex-alike : (n i a : ℕ) (xs ys : List ℕ) → Agree (i + n) xs ys → hex_from n i a ys ≡ hex_from n i a xs
unfolding hex_from
hex-alike zero i a xs ys ag = refl
hex-alike (suc n) i a xs ys ag =
    ap (λ (c : ℕ). hex_from n (suc i) (a * 16 + hex_of c) ys) (ag i (omega arith))
    ∙ hex-alike n (suc i) (a * 16 + hex_of (get_or xs i 0)) xs ys (λ j l. ag j (omega arith))

size-alike : (xs ys : List ℕ) → Agree json_head xs ys → json_size ys ≡ json_size xs
unfolding json_size
size-alike xs ys ag = hex-alike 6 16 0 xs ys (λ j l. ag j (omega arith))

tests-alike : (xs ys : List ℕ) → Agree json_head xs ys → passes pattern 0 ys ≡ passes pattern 0 xs
unfolding pattern
tests-alike xs ys ag = passes-alike pattern 0 xs ys ag

-- what a JSON framing says of its item
pub record Headed (k₀ : Kind) (xs : List ℕ) (k : Kind) (h n : ℕ) : Type 0 where
  pub kind : k ≡ k₀
  pub head : h ≡ json_head
  pub size : n ≡ json_size xs
  pub tests : passes pattern 0 xs ≡ true
  pub some : json_head ≤ json_size xs
  pub room : json_size xs ≤ length xs

abbrev Says : Kind → List ℕ → Framed → Type 0
Says k₀ xs (Item k h n) = Headed k₀ xs k h n
Says k₀ xs (Unframed n p) = Unit {0}

says : (k : Kind) (xs : List ℕ) → Says k xs (frame_json k xs)
unfolding frame_json fit_json
says k xs =
    pick-by (Says k xs) (ltb (length xs) json_head) _ _ (λ _. tt) (λ _.
    pick-by (Says k xs) (passes pattern 0 xs) _ _
    (λ t. pick-by (Says k xs) (ltb (json_size xs) json_head) _ _ (λ _. tt) (λ a.
    pick-by (Says k xs) (ltb (length xs) (json_size xs)) _ _ (λ _. tt) (λ b.
    record {
      kind = refl;
      head = refl;
      size = refl;
      tests = t;
      some = ltb-false (json_size xs) json_head a;
      room = ltb-false (length xs) (json_size xs) b;
    })))
    (λ _. tt))

pub json-headed : (k₀ : Kind) (xs : List ℕ) {k : Kind} {h n : ℕ} → frame_json k₀ xs ≡ Item k h n → Headed k₀ xs k h n
json-headed k₀ xs e = subst (Says k₀ xs) e (says k₀ xs)

made : (k : Kind) (ys : List ℕ) (n : ℕ) → passes pattern 0 ys ≡ true → json_size ys ≡ n → json_head ≤ n → n ≤ length ys
    → frame_json k ys ≡ Item k json_head n
unfolding frame_json fit_json
made k ys n t e a b =
    rw (
      le-ltb (length ys) json_head (omega arith),
      t,
      e,
      le-ltb n json_head a,
      le-ltb (length ys) n b,
    )

pub frames-json : (k : Kind) → Frames (frame_json k)
frames-json k₀ = record {
  within = λ xs k h n e.
      let g = json-headed k₀ xs e in
      let a = g.head in let b = g.size in let c = g.some in let d = g.room in
      (omega arith, omega arith, omega arith);
  alike = λ xs ys k h n e ag l.
      let g = json-headed k₀ xs e in
      let ag' : Agree json_head xs ys = rw g.head at ag in
      rw (g.kind, g.head)
      (made k₀ ys n (tests-alike xs ys ag' ∙ g.tests) (size-alike xs ys ag' ∙ sym g.size) (rw g.size g.some) l);
}
