-- Demand 2. Assumes nothing.
use Rattle.std.specs.Prelude.{ℕ, ◌*◌, ◌/◌, ◌%◌, ◌≤◌, ◌≡◌, refl, List, [], length, take, drop}
use Rattle.std.proofs.Common.{arith, length-drop, length-take-le, le-ltb}
use Rattle.base.specs.Digits.{none, below-take, below-drop}
use Rattle.format.specs.Units.{text, binary, text_sextets}
use Rattle.format.specs.Offsets.{text_offset, binary_offset}
use Rattle.format.specs.Conversion.{to_binary, to_text, first_stranger, text_to_binary, binary_to_text}
use Rattle.laws.specs.Conversion.{length-to-binary, length-to-text, text-to-binary-sextets, binary-to-text-sextets}
use Rattle.laws.specs.Conversion.{text-below, to-binary-below, text-back, binary-back, binary-joins, text-joins, no-stranger}
use Rattle.laws.specs.Domains.{text-reader, binary-reader}
use Rattle.laws.specs.Values.{text-raw, binary-raw}
use Rattle.claims.specs.Words.{WholeText, WholeBinary}
use Rattle.claims.proofs.Ratio.{Same, same-report}
use Rattle.claims.proofs.Parts.{one_by_one, every-part}
use Rattle.claims.specs.Claims.{Demand2}
use Rattle.std.specs.Prelude.{Ok}

-- ---- conversion does not refuse such a stream

text-converts : (t : List ℕ) (room : ℕ) → WholeText t → length t / 4 * 3 ≤ room
    → text_to_binary t room ≡ Ok (binary_offset (length t / 4 * 3))
unfolding text_to_binary
text-converts t room w h =
    rw (
      le-ltb text.limit (length t) w.short,
      le-ltb 0 (length t % 4) (omega (arith, w.quadlets)),
      le-ltb (first_stranger t) (length t) (omega (arith, no-stranger t w.alphabet)),
      le-ltb room (length t / 4 * 3) h,
    )

binary-converts : (b : List ℕ) (room : ℕ) → WholeBinary b → length b / 3 * 4 ≤ room
    → binary_to_text b room ≡ Ok (text_offset (length b / 3 * 4))
unfolding binary_to_text
binary-converts b room w h =
    rw (
      le-ltb binary.limit (length b) w.short,
      le-ltb 0 (length b % 3) (omega (arith, w.triplets)),
      le-ltb room (length b / 3 * 4) h,
    )

-- ---- what it writes is such a stream, with the same sextets

pub binary-whole : (t : List ℕ) → WholeText t → WholeBinary (to_binary t)
binary-whole t w = record {
  triplets = omega (arith, length-to-binary t);
  bytes = to-binary-below t;
  short = let s = w.short in omega (arith, length-to-binary t);
}

pub text-whole : (b : List ℕ) → WholeBinary b → WholeText (to_text b)
text-whole b w = record {
  quadlets = omega (arith, length-to-text b);
  alphabet = text-below b;
  short = let s = w.short in omega (arith, length-to-text b);
}

pub text_same : (t : List ℕ) → WholeText t → Same t (to_binary t)
text_same t w = record {
  sextets = text-to-binary-sextets t w.quadlets w.alphabet;
  quadlets = w.quadlets;
  triplets = (binary-whole t w).triplets;
  alphabet = w.alphabet;
}

pub binary-same : (b : List ℕ) → WholeBinary b → Same (to_text b) b
binary-same b w = record {
  sextets = binary-to-text-sextets b;
  quadlets = (text-whole b w).quadlets;
  triplets = w.triplets;
  alphabet = text-below b;
}

-- ---- whole units of such a stream are such a stream

text-takes : (t : List ℕ) (k : ℕ) → k * 4 ≤ length t → WholeText t → WholeText (take (k * 4) t)
text-takes t k h w = record {
  quadlets = omega (arith, length-take-le (k * 4) t h);
  alphabet = rw (text-reader.taken t k h) (below-take 64 (k * 4) (text_sextets t) w.alphabet);
  short = omega (arith, length-take-le (k * 4) t h, w.short);
}

text-drops : (t : List ℕ) (k : ℕ) → k * 4 ≤ length t → WholeText t → WholeText (drop (k * 4) t)
text-drops t k h w = record {
  quadlets = omega (arith, length-drop (k * 4) t, w.quadlets);
  alphabet = rw (text-reader.dropped t k h) (below-drop 64 (k * 4) (text_sextets t) w.alphabet);
  short = omega (arith, length-drop (k * 4) t, w.short);
}

binary-takes : (b : List ℕ) (k : ℕ) → k * 3 ≤ length b → WholeBinary b → WholeBinary (take (k * 3) b)
binary-takes b k h w = record {
  triplets = omega (arith, length-take-le (k * 3) b h);
  bytes = below-take 256 (k * 3) b w.bytes;
  short = omega (arith, length-take-le (k * 3) b h, w.short);
}

binary-drops : (b : List ℕ) (k : ℕ) → k * 3 ≤ length b → WholeBinary b → WholeBinary (drop (k * 3) b)
binary-drops b k h w = record {
  triplets = omega (arith, length-drop (k * 3) b, w.triplets);
  bytes = below-drop 256 (k * 3) b w.bytes;
  short = omega (arith, length-drop (k * 3) b, w.short);
}

no_text : WholeText []
unfolding text_sextets
no_text = record { quadlets = refl; alphabet = none; short = omega arith }

no-binary : WholeBinary []
no-binary = record { triplets = refl; bytes = none; short = omega arith }

pub demand2 : Demand2
demand2 = record {
  text-converts = text-converts;
  binary-converts = binary-converts;
  text-back = λ t w. (binary-whole t w, text-back t w.quadlets w.alphabet);
  binary-back = λ b w. (text-whole b w, binary-back b w.triplets w.bytes);
  text-raw = λ t k h w. text-raw k h t;
  binary-raw = λ b k h w. binary-raw k h b w.triplets w.bytes;
  text-items = λ t w. one_by_one text text-reader to_binary binary-joins t;
  binary-items = λ b w. one_by_one binary binary-reader to_text text-joins b;
  text-parts = every-part text text-reader (λ s. WholeText s) no_text text-takes text-drops;
  binary-parts = every-part binary binary-reader (λ s. WholeBinary s) no-binary binary-takes binary-drops;
  text-report = λ t w. same-report t (to_binary t) (text_same t w);
  binary-report = λ b w. same-report (to_text b) b (binary-same b w);
}
