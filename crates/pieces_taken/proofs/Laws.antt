-- From the run over a piece's units to the definitions of what a piece makes of a state. Assumes nothing.
use Prim.Native.Nat.{ℕ, ◌+◌, ◌-◌, ◌*◌, ◌/◌, ◌%◌, ◌≤◌, ◌<◌}
use mathlib.Core.Path.{◌≡◌, refl, sym, ap, ◌∙◌, subst}
use mathlib.Core.Bool.{Bool, true, false}
use mathlib.Core.List.{List, ◌++◌}
use native.Mathlib.Omega.{arith}
use native.Mathlib.Nat.{div-add-mod'}
use lib.ListN.{length, take, drop, length-append, length-drop}
use lib.Seq.{length-take-le, take_all, sets}
use Rattle.format.specs.declared.Form.{Form}
use Rattle.format.specs.declared.Form.TheVariants.{Text, Binary}
use Rattle.format.specs.Units.{Domain, domain}
use Rattle.format.specs.Judging.{max_depth}
use Rattle.format.specs.Report.{ItemRow, RefusalRow, row_bytes, refusal_bytes, concat, refusals_of}
use Rattle.laws.specs.Domains.{reader}
use Rattle.walk_state.specs.declared.Walk.{Walk}
use Rattle.walk_state.specs.declared.Place.{Place}
use Rattle.walk_state.specs.Lent.{walk_at}
use Rattle.pieces.specs.declared.Progress.{Progress}
use Rattle.pieces.specs.declared.Pieces.{Pieces}
use Rattle.pieces.specs.Feeding.{after, rows_after, held_and, fed, items_out, refusals_out, taken}
use Rattle.pieces.specs.Calls.{most_units, is_fit}
use Rattle.pieces_fit.specs.Sound.{Sound}
use Rattle.pieces_fit.specs.Fit.{Facts, facts}
use Rattle.pieces_units.specs.Rests.{left_of, rest_of}
use Rattle.pieces_stage.specs.declared.Stage.{Stage}
use Rattle.pieces_stage.specs.Stages.{progress_at}
use Rattle.pieces_turn.specs.declared.Ran.{Ran}
use Rattle.pieces_run.specs.Runs.{Starts, Running}
use Rattle.pieces_taken.specs.Taking.{holding_all, Took}

-- ---- the walk's ends

pub ends-whole : (ends : List ℕ) (p : Place) → length ends ≡ max_depth
    → record { ends = ends; depth = p.depth; at = p.at; first = p.first; indexed = p.indexed } ≡ walk_at ends p
ends-whole ends p l =
    ap (λ (e : List ℕ). record { ends = e; depth = p.depth; at = p.at; first = p.first; indexed = p.indexed })
    (sym (take_all max_depth ends (omega arith)))

-- ---- parts put together

abbrev pub with_walk : Stage → Walk → Progress
with_walk g w = record {
  walk = w;
  read = g.read;
  header = g.header;
  scans = g.scans;
  lead = g.lead;
  text = g.text;
  number = g.number;
  place = g.place;
  start = g.start;
  items = g.items;
  phase = g.phase;
}

abbrev pub walk_in : Progress → Walk → Progress
walk_in p w = record {
  walk = w;
  read = p.read;
  header = p.header;
  scans = p.scans;
  lead = p.lead;
  text = p.text;
  number = p.number;
  place = p.place;
  start = p.start;
  items = p.items;
  phase = p.phase;
}

pub held-made : (form : Form) (st : Pieces) (p : Progress) (piece rest : List ℕ) (n : ℕ) → rest ≡ rest_of (domain form) (held_and st piece)
    → n ≡ (st.count + length piece) % (domain form).unit
    → record { unit = st.unit; progress = p; held = rest; count = n } ≡ holding_all (domain form) st p piece
held-made form st p piece rest n e f =
    ap (λ (x : List ℕ). record { unit = st.unit; progress = p; held = x; count = n }) e
    ∙ ap (λ (k : ℕ). record { unit = st.unit; progress = p; held = rest_of (domain form) (held_and st piece); count = k }) f

-- ---- what is asked

unit-few : (form : Form) → (domain form).unit ≤ 4
unit-few Text = omega arith
unit-few Binary = omega arith

units-within : (form : Form) (read count len : ℕ) → read * (domain form).unit + count + len ≤ (domain form).limit
    → read + (count + len) / (domain form).unit ≤ most_units (domain form)
unfolding most_units
units-within Text read count len l = omega arith
units-within Binary read count len l = omega arith

left_is : (form : Form) (n : ℕ) → n % (domain form).unit ≡ n - n / (domain form).unit * (domain form).unit
left_is form n = omega (arith, div-add-mod' n (domain form).unit)

module _ (form : Form) (st : Pieces) (piece : List ℕ) (full : length st.progress.walk.ends ≡ max_depth) (four : length st.held ≡ 4)
    (fit : is_fit (domain form) st ≡ true) (room : taken (domain form) st + length piece ≤ (domain form).limit) where
  abbrev d : Domain
  d = domain form

  sound : Facts d st
  sound = facts d (reader form) st full fit

  pub few : st.count ≤ 4
  few = omega (arith, sound.part, unit-few form)

  pub starts : (ends : List ℕ) (g : Stage) → progress_at ends g ≡ st.progress → length ends ≡ max_depth → Starts form ends g st.count piece
  starts ends g e l =
      let r : g.read ≡ st.progress.read = ap (λ (p : Progress). p.read) e in
      record {
        room = omega arith;
        sound = subst (Sound (most_units d)) (sym e) sound.sound;
        few = few;
        within = rw r (units-within form st.progress.read st.count (length piece) room);
      }

  -- ---- what was taken in

  abbrev xs : List ℕ
  xs = held_and st piece

  abbrev S : List ℕ
  S = d.sextets xs

  abbrev K : ℕ
  K = (st.count + length piece) / d.unit

  long : length xs ≡ st.count + length piece
  long = omega (arith, length-append (take st.count st.held) piece, length-take-le st.count st.held (omega (arith, few)))

  rest-long : (st.count + length piece) % d.unit ≡ length (left_of d xs)
  rest-long =
      left_is form (st.count + length piece) ∙ ap (λ (n : ℕ). n - n / d.unit * d.unit) (sym long) ∙ sym (length-drop (length xs / d.unit * d.unit) xs)

  module _ (ends : List ℕ) (g : Stage) (e : progress_at ends g ≡ st.progress) where
    rows_are : rows_after d.unit (progress_at ends g) S K ≡ items_out d st piece
    unfolding items_out
    rows_are = ap (λ (p : Progress). rows_after d.unit p S K) e ∙ ap (λ (n : ℕ). rows_after d.unit st.progress S (n / d.unit)) (sym long)

    bad-are : refusals_of g.items (rows_after d.unit (progress_at ends g) S K) ≡ refusals_out d st piece
    unfolding refusals_out
    bad-are =
        ap (λ (p : Progress). refusals_of p.items (rows_after d.unit (progress_at ends g) S K)) e
        ∙ ap (λ (l : List ItemRow). refusals_of st.progress.items l) rows_are

    state-is : (q : Progress) → q ≡ after (progress_at ends g) S K → holding_all d st q piece ≡ fed d st piece
    unfolding fed
    state-is q eq =
        ap (λ (p : Progress). holding_all d st p piece)
        (eq ∙ ap (λ (p : Progress). after p S K) e ∙ ap (λ (n : ℕ). after st.progress S (n / d.unit)) (sym long))
        ∙ ap (λ (n : ℕ). record { unit = st.unit; progress = after st.progress S (length xs / d.unit); held = rest_of d xs; count = n }) rest-long

    pub took : (items refusals ends' items' refusals' : List ℕ) (r : Ran)
        → (Starts form ends g st.count piece → Running d.unit ends g S items refusals K ends' r.stage items' refusals' r.items r.refusals)
        → length ends ≡ max_depth → (q : Progress) → q ≡ progress_at ends' r.stage → (h : Pieces) → h ≡ holding_all d st q piece
        → Took d st piece items items' refusals refusals' (record { next = h; items = r.items; refusals = r.refusals })
    took items refusals ends' items' refusals' r go l q eq h eh =
        let run = go (starts ends g e l) in
        record {
          next = eh ∙ state-is q (eq ∙ run.state.state);
          many = run.many ∙ ap length rows_are;
          bad = run.bad ∙ ap length bad-are;
          rows = λ m.
              run.rows (omega (arith, run.many, ap length rows_are)) ∙ ap (λ (x : List ItemRow). sets items 0 (concat row_bytes x)) rows_are;
          refused = λ m.
              run.refused (omega (arith, run.bad, ap length bad-are)) ∙ ap (λ (x : List RefusalRow). sets refusals 0 (concat refusal_bytes x)) bad-are;
        }
