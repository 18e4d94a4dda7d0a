-- 02 d, "Mixed decks": the report of a stream that changes form at top level. CESR items are framed and judged by 01's rules in their own
-- form, a JSON item is framed by its header and its body isn't judged. Offsets, sizes and places are in bytes of the mixed stream. Assumes
-- nothing.
use Rattle.std.specs.Prelude.{ℕ, ◌+◌, ◌*◌, List, [], ◌∷◌, ◌++◌, length, get_or, drop, ltb, eqb}
use Rattle.base.specs.Pick.{pick}
use Rattle.format.specs.declared.Form.TheVariants.{Text, Binary}
use Rattle.format.specs.declared.Kind.{Kind}
use Rattle.format.specs.declared.Kind.TheVariants.{Genus}
use Rattle.format.specs.declared.Framed.{Framed}
use Rattle.format.specs.declared.Framed.TheVariants.{Unframed}
use Rattle.format.specs.declared.Verdict.{Verdict}
use Rattle.format.specs.declared.Verdict.TheVariants.{Accepted}
use Rattle.format.specs.Alphabet.{within}
use Rattle.format.specs.Units.{domain}
use Rattle.format.specs.Report.{ItemRow, RefusalRow, RemainderRow, rows, refusals, remainder, frame_in, judge_in}
use Rattle.format.specs.Report.{row_bytes, refusal_bytes, remainder_bytes, section}
use Rattle.mixed.specs.declared.Start.{Start}
use Rattle.mixed.specs.declared.Start.TheVariants.{Cesr, Json, Other}
use Rattle.mixed.specs.Json.{frame_json}
use Rattle.std.specs.Prelude.{Ok, Err, Result}
use Rattle.format.specs.declared.Refusal.{Refusal}
use Rattle.format.specs.Refusals.{refused_by}

-- ---- "Each top-level item starts with `-` (text CESR), a byte F8 to FB (binary CESR), or `{` (JSON)"

unfoldable pub start_of : ℕ → Start
start_of b = pick (eqb b 45) (Cesr Text) (pick (within 248 251 b) (Cesr Binary) (pick (eqb b 123) Json Other))

-- by the byte at an offset
abbrev pub start_at : List ℕ → ℕ → Start
start_at xs o = start_of (get_or xs o 0)

-- "a last byte, 0 text, 1 binary, 2 JSON"; an item has one of the three (mixed_claims, formed)
unfoldable pub form_byte : Start → ℕ
form_byte (Cesr Text) = 0
form_byte (Cesr Binary) = 1
form_byte Json = 2
form_byte Other = 3

-- ---- framing and judging: "any other first byte is a remainder with number 17", "The JSON body isn't judged."

unfoldable pub frame_start : Kind → Start → List ℕ → Framed
frame_start k (Cesr f) xs = frame_in (domain f) xs
frame_start k Json xs = frame_json k xs
frame_start k Other xs = Unframed 17 0

unfoldable pub frame_with : Kind → List ℕ → Framed
frame_with k xs = frame_start k (start_at xs 0) xs

abbrev pub frame_mixed : List ℕ → Framed
frame_mixed xs = frame_with Genus xs

unfoldable pub judge_start : Start → List ℕ → Verdict
judge_start (Cesr f) xs = judge_in (domain f) xs
judge_start Json xs = Accepted
judge_start Other xs = Accepted

-- an item's own bytes
unfoldable pub judge_mixed : List ℕ → Verdict
judge_mixed xs = judge_start (start_at xs 0) xs

-- ---- the report

abbrev pub rows_mixed : List ℕ → List ItemRow
rows_mixed xs = rows frame_mixed judge_mixed xs

abbrev pub refusals_mixed : List ℕ → List RefusalRow
refusals_mixed xs = refusals frame_mixed judge_mixed xs

abbrev pub remainder_mixed : List ℕ → List RemainderRow
remainder_mixed xs = remainder frame_mixed judge_mixed xs

-- "Item rows gain a last byte": that of the item's form
unfoldable pub mixed_row_bytes : List ℕ → ItemRow → List ℕ
mixed_row_bytes xs r = row_bytes r ++ (form_byte (start_at xs r.offset) ∷ [])

unfoldable pub mixed_report : List ℕ → List ℕ
mixed_report xs =
    section (mixed_row_bytes xs) (rows_mixed xs) ++ (section refusal_bytes (refusals_mixed xs) ++ section remainder_bytes (remainder_mixed xs))

-- ---- the call: "The stream limit is 4,194,304 bytes", "room here is 17 + 19 x items"

abbrev pub mixed_limit : ℕ
mixed_limit = 4194304

unfoldable pub mixed_answer : List ℕ → ℕ → Result ℕ (Refusal ℕ)
mixed_answer xs room =
    pick (ltb mixed_limit (length xs)) (refused_by 1 0)
    (pick (ltb room (17 + 19 * length (rows_mixed xs))) (refused_by 3 0)
    (Ok (length (mixed_report xs))))

-- what a buffer that held out holds afterwards
unfoldable pub mixed_left : Result ℕ (Refusal ℕ) → List ℕ → List ℕ → List ℕ
mixed_left (Ok n) xs out = mixed_report xs ++ drop n out
mixed_left (Err e) xs out = out
