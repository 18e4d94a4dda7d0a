-- No report looks at the kind that a framing tells: framings that tell the same sizes and refusals cut alike. Assumes nothing.
use Rattle.std.specs.Prelude.{ℕ, zero, suc, ◌≡◌, refl, List, [], ◌∷◌, Bool, true, false, ltb, length, drop}
use Rattle.base.specs.Pick.{pick}
use Rattle.format.specs.declared.Kind.{Kind}
use Rattle.format.specs.declared.Framed.{Framed}
use Rattle.format.specs.declared.Framed.TheVariants.{Item, Unframed}
use Rattle.format.specs.Cutting.{Cut, cut_by, cut_f, cut}
use Rattle.mixed.specs.declared.Start.{Start}
use Rattle.mixed.specs.declared.Start.TheVariants.{Cesr, Json, Other}
use Rattle.mixed.specs.Json.{json_head, pattern, passes, json_size, fit_json, frame_json}
use Rattle.mixed.specs.Mixed.{start_at, frame_start, frame_with}

abbrev Span : Framed → Framed → Type 0
Span (Item k h n) (Item k' h' n') = n ≡ n'
Span (Unframed m p) (Unframed m' p') = (m ≡ m') × (p ≡ p')
Span (Item k h n) (Unframed m p) = ⊥
Span (Unframed m p) (Item k h n) = ⊥

span-refl : (f : Framed) → Span f f
span-refl (Item k h n) = refl
span-refl (Unframed m p) = (refl, refl)

span-pick : (b : Bool) (x y x' y' : Framed) → Span x x' → Span y y' → Span (pick b x y) (pick b x' y')
span-pick true x y x' y' p q = p
span-pick false x y x' y' p q = q

span-json : (k k' : Kind) (xs : List ℕ) → Span (frame_json k xs) (frame_json k' xs)
unfolding frame_json fit_json
span-json k k' xs =
    span-pick (ltb (length xs) json_head) _ _ _ _ (refl, refl)
    (span-pick (passes pattern 0 xs) _ _ _ _
    (span-pick (ltb (json_size xs) json_head) _ _ _ _ (refl, refl)
    (span-pick (ltb (length xs) (json_size xs)) _ _ _ _ (refl, refl) refl))
    (refl, refl))

span-start : (k k' : Kind) (t : Start) (xs : List ℕ) → Span (frame_start k t xs) (frame_start k' t xs)
unfolding frame_start
span-start k k' (Cesr f) xs = span-refl (frame_start k (Cesr f) xs)
span-start k k' Json xs = span-json k k' xs
span-start k k' Other xs = (refl, refl)

by_span : (f g : Framed) (xs : List ℕ) (go go' : List ℕ → Cut) → Span f g → ((ys : List ℕ) → go ys ≡ go' ys) → cut_by f xs go ≡ cut_by g xs go'
unfolding cut_by
by_span (Item k h n) (Item k' h' n') xs go go' s e = rw (s, e (drop n' xs))
by_span (Unframed m p) (Unframed m' p') xs go go' s e = rw (s.0, s.1)
by_span (Item k h n) (Unframed m p) xs go go' s e = absurd s
by_span (Unframed m p) (Item k h n) xs go go' s e = absurd s

cuts-span : (f g : List ℕ → Framed) → ((xs : List ℕ) → Span (f xs) (g xs)) → (n : ℕ) (xs : List ℕ) → cut_f f n xs ≡ cut_f g n xs
unfolding cut_f
cuts-span f g s zero xs = refl
cuts-span f g s (suc n) [] = refl
cuts-span f g s (suc n) (x ∷ xs) =
    by_span (f (x ∷ xs)) (g (x ∷ xs)) (x ∷ xs) (λ ys. cut_f f n ys) (λ ys. cut_f g n ys) (s (x ∷ xs)) (λ ys. cuts-span f g s n ys)

pub cut-kind-free : (k k' : Kind) (xs : List ℕ) → cut (frame_with k) xs ≡ cut (frame_with k') xs
unfolding cut frame_with
cut-kind-free k k' xs = cuts-span (frame_with k) (frame_with k') (λ ys. span-start k k' (start_at ys 0) ys) (length xs) xs
