-- What of a read is raw and what is text: of type `A` the part is empty, of every other code there are no characters. Assumes nothing.
use Rattle.std.specs.Prelude.{ℕ, ◌*◌, ◌≡◌, refl, List, [], true, take}
use Rattle.std.proofs.Math.Path.{ap}
use Rattle.std.proofs.Common.{◌∙◌, sym, ⊎_elim, eqb-true}
use native.Mathlib.Omega.{arith}
use Rattle.std.proofs.Math.ListN.{length}
use Rattle.base.specs.Cases.{whether}
use Rattle.format.specs.declared.Kind.{Kind}
use Rattle.format.specs.declared.Kind.TheVariants.{Fixed, Variable, Group, Genus, Indexed}
use Rattle.format.specs.declared.Primitive.{Primitive}
use Rattle.format.specs.declared.Code.TheVariants as C
use Rattle.format.specs.Alphabet.{char_of}
use Rattle.format.specs.Registry.{is_type, is_text}
use Rattle.format.specs.Values.{raw_start, text_in}
use Rattle.format.specs.Reading.{code_of, primitive_of, part_at}
use Rattle.roundtrip_laws.specs.Own.{Own}
use Rattle.roundtrip_laws.specs.Words.{fixed-text, counted-text}
use Rattle.roundtrip_laws.specs.Reads.{read-own}
use Rattle.roundtrip.proofs.Calls.{From, binary-from, text-from}
use Rattle.roundtrip.proofs.Spelling.{type-small, same-letter}
use Rattle.roundtrip.specs.Claims.{type_of, EmptyPart, TextParts}

-- ---- type `A` is the one with characters

text-letter : (t : ℕ) → is_text t ≡ true → char_of t ≡ 65
unfolding is_text char_of
text-letter t e = ap char_of (eqb-true t 0 e)

letter-text : (t : ℕ) → is_type t ≡ true → char_of t ≡ 65 → is_text t ≡ true
unfolding is_type is_text char_of
letter-text t e c = rw (same-letter t 0 e refl c)

-- its raw value starts at the item's end
none : (k : Kind) (h n : ℕ) (s : List ℕ) → Own k h n s → type_of (code_of k h) ≡ C.Small 65 → raw_start k h ≡ 3 * n
unfolding code_of raw_start
none (Fixed c) h n s o t = let z : ◌≡◌ {A = ℕ} 0 1 = cc in absurd (omega arith)
none (Variable t₁ l m) h n s o t =
    let q : C.Small (char_of t₁) ≡ C.Small 65 = sym (type-small t₁ h) ∙ t in
    let c : char_of t₁ ≡ 65 = cc in
    rw (letter-text t₁ o.form.type c) (omega (arith, o.form.units))
none (Group l) h n s o t = absurd o.form
none Genus h n s o t = absurd o.form
none (Indexed c) h n s o t = absurd o.form

others : (k : Kind) (h n : ℕ) (s : List ℕ) → Own k h n s → ¬ (type_of (code_of k h) ≡ C.Small 65) → text_in k h s ≡ []
unfolding code_of
others (Fixed c) h n s o t = fixed-text c h s
others (Variable t₁ l m) h n s o t =
    ⊎_elim (λ e. absurd (t (type-small t₁ h ∙ ap C.Small (text-letter t₁ e)))) (λ e. counted-text t₁ l m h s e) (whether (is_text t₁))
others (Group l) h n s o t = absurd o.form
others Genus h n s o t = absurd o.form
others (Indexed c) h n s o t = absurd o.form

-- ---- the calls

module _ {s : List ℕ} {long limit : ℕ} (p : Primitive) (f : From s long limit p) where
  own : Own f.kind f.head f.size (take (4 * f.size) s)
  own = (read-own s f.kind f.head f.size f.reads).0

  empty-part : type_of p.code ≡ C.Small 65 → EmptyPart p
  unfolding primitive_of
  empty-part t =
      let st = none f.kind f.head f.size _ own (ap (λ (x : Primitive). type_of x.code) (sym f.item) ∙ t) in
      rw (f.item, st) (omega arith, refl)

  no_text : ¬ (type_of p.code ≡ C.Small 65) → p.text ≡ 0
  unfolding primitive_of
  no_text t =
      let e = others f.kind f.head f.size _ own (λ q. t (ap (λ (x : Primitive). type_of x.code) f.item ∙ q)) in
      ap (λ (x : Primitive). x.text) f.item ∙ ap length e

pub text-parts : TextParts
unfolding part_at
text-parts = record {
  binary-none = λ xs at room p r t. let e = empty-part p (binary-from xs at room p r).0 t in (e, rw e.0);
  text-none = λ xs at room p r t. empty-part p (text-from xs at room p r).0 t;
  binary-others = λ xs at room p r t. no_text p (binary-from xs at room p r).0 t;
  text-others = λ xs at room p r t. no_text p (text-from xs at room p r).0 t;
}
