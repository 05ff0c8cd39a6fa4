-- One turn of a loop that glides and does what happens: what is left after it comes to what was left before. The rest of a part and a quarter whose states
-- are known are taken by the same turns.
-- Assumes nothing.
use mathlib.Core.Path.{◌≡◌, refl, sym, ap, ap₂, ◌∙◌}
use mathlib.Core.Bool.{Bool, true, false}
use mathlib.Core.List.{List, [], ◌∷◌}
use Prim.Native.Nat.{ℕ, zero, suc, ◌+◌, ◌-◌, ◌*◌, ◌/◌, ◌≤◌, ◌<◌}
use native.Mathlib.Numerals.{add-one}
use native.Mathlib.Omega.{arith}
use lib.ListN.{length, get_or, drop}
use lib.Seq.{drop-cons, drop-length}
use Rattle.counters.specs.Counters.{InLetter}
use Rattle.tables.specs.Layout.{room_for_states, room_for_phrases}
use Rattle.tables.specs.Reads.{phrase_count_in}
use Rattle.running.specs.Reads.{WholeRunning}
use Rattle.window.specs.Happened.{Here, here_with, happened}
use Rattle.window.proofs.Happened.{happened_few}
use Rattle.gliding.specs.declared.Way.{Way}
use Rattle.gliding.specs.declared.Went.{Went}
use Rattle.gliding.specs.Glide.{Gone, Glide, further, one_on, glide_in, gone_by, glide_of, GlideReady, GlideKept}
use Rattle.gliding.proofs.Turns.{glide_stops, glide_on}
use Rattle.seeking.specs.Quick.{quick_next}
use Rattle.seeking.specs.Foreseen.{after_from}
use Rattle.seeking.proofs.Foreseen.{after_add, foreseen_on}
use Rattle.feeding.specs.Taken.{Run, run_of, free_after, part_taken, to_come}
use Rattle.feeding.specs.Ready.{ReadyOn, KeptOn, Took, OnTheWay, QuarterReady}
use Rattle.skimming.specs.Ready.{SkimReady}
use Rattle.feeding.specs.declared.Progress.{Progress}
use Rattle.feeding.proofs.Turns.{gone_of, went_to, settled, part_full, rest_part}

-- Some of a part was taken: what is left comes to what was left before.
pub record Passed (t part : List ℕ) (free : ℕ) (m₀ room₀ : List ℕ) (from : Progress) (m room : List ℕ) (to : Progress) : Type 0 where
  pub rest : to_come t free part (run_of to m room) ≡ to_come t free part (run_of from m₀ room₀)
  pub kept : KeptOn t part free from to

-- What holds before each turn: some bytes have been passed.
pub record Turning (t part m₀ room₀ : List ℕ) (phrases free : ℕ) (from : Progress) (m room : List ℕ) (progress : Progress) : Type 0 where
  pub on : ReadyOn t m₀ part (length room₀ / 2) from
  pub counted : phrases ≡ phrase_count_in t
  pub spare : free ≡ length room₀ / 2
  pub passed : Passed t part (length room₀ / 2) m₀ room₀ from m room progress
  pub long : length m ≡ length m₀
  pub roomy : length room ≡ length room₀

pub turning_start : {t part m₀ room₀ : List ℕ} {phrases : ℕ} {from : Progress} → ReadyOn t m₀ part (length room₀ / 2) from
    → phrases ≡ phrase_count_in t → Turning t part m₀ room₀ phrases (length room₀ / 2) from m₀ room₀ from
turning_start on counted = record {
  on = on;
  counted = counted;
  spare = refl;
  passed = record { rest = refl; kept = record { kept = on.kept; few = on.few; early = omega arith } };
  long = refl;
  roomy = refl;
}

module _ {t part m₀ room₀ m room : List ℕ} {phrases free : ℕ} {from progress : Progress} (turning : Turning t part m₀ room₀ phrases free from m room progress) where
  abbrev way : Way
  way = progress.way

  abbrev run : Progress → Run
  run progress = run_of progress m room

  -- How far a call has come once a way was gone.
  abbrev gone_on : Way → Progress
  gone_on way = record { way = way; written = progress.written }

  pub turning_few : progress.written ≤ free
  turning_few = omega (arith, turning.passed.kept.few, turning.spare)

  -- Bytes can be glided over.
  pub turning_ready : GlideReady t m part way
  turning_ready = record {
    memory = omega (arith, turning.on.ready.memory, turning.long);
    few_states = turning.on.ready.states;
    some_dense = turning.on.ready.some_dense;
    few_dense = turning.on.ready.few_dense;
    inside = turning.passed.kept.kept.inside;
    within = turning.passed.kept.kept.within;
    short = turning.on.short;
    early = omega (arith, turning.on.ready.early, turning.on.kept.within, turning.passed.kept.early, turning.passed.kept.kept.within);
    few_gains = turning.passed.kept.kept.few_gains;
  }

  -- There is too little room for another byte.
  pub turning_full : free_after free (run progress) < phrases → Took t part (length room₀ / 2) m₀ room₀ from m room progress
  turning_full full = record {
    all = sym (part_full t (length room₀ / 2) part (drop way.taken part) (run progress) (omega (arith, turning.counted, turning.spare))) ∙ turning.passed.rest;
    kept = turning.passed.kept;
  }

  -- There is enough, and bytes were glided over.
  module _ {next : Went} (enough : phrases ≤ free_after free (run progress)) (glides : glide_of next ≡ glide_in t m (drop way.taken part) (gone_by way))
      (kept : GlideKept t part way next) where
    left : settled t (length room₀ / 2) part (run (gone_on next.way)) next.event ≡ to_come t (length room₀ / 2) part (run_of from m₀ room₀)
    left =
        rest_part t (length room₀ / 2) part (run progress) turning.passed.kept.kept.within (omega (arith, turning.counted, turning.spare)) (glide_of next) glides
        ∙ turning.passed.rest

    early : next.way.place.0 + from.way.taken ≡ from.way.place.0 + next.way.taken
    early = omega (arith, kept.early, turning.passed.kept.early)

    -- Nothing happens any more.
    pub turning_quiet : next.event ≡ false → Took t part (length room₀ / 2) m₀ room₀ from m room (gone_on next.way)
    turning_quiet quiet = record {
      all = sym (ap (settled t (length room₀ / 2) part (run (gone_on next.way))) quiet) ∙ left;
      kept = record {
        kept = record { inside = kept.inside; within = kept.within; few_gains = kept.few_gains };
        few = turning.passed.kept.few;
        early = early;
      };
    }

    -- What happens at the place can be done, and is done.
    pub turning_happens : (WholeRunning m) × (phrase_count_in t ≤ room_for_phrases) × (2 * (progress.written + phrase_count_in t) ≤ length room)
        × (next.way.state.0 < room_for_states) × (InLetter next.way.place.0)
    turning_happens = (
      omega (arith, turning.on.ready.memory, turning.long),
      turning.on.ready.phrases,
      omega (arith, turning_few, turning.counted, turning.spare, turning.roomy),
      omega (arith, kept.inside, turning.on.ready.states),
      omega (arith, early, kept.within, turning.on.ready.early, turning.on.kept.within),
    )

    pub turning_next : next.event ≡ true → {m₁ room₁ : List ℕ} {written₁ : ℕ}
        → here_with written₁ room₁ m₁ ≡ happened t next.way.state.0 next.way.place.0 (here_with progress.written room m) → length m₁ ≡ length m → length room₁ ≡ length room
        → Turning t part m₀ room₀ phrases free from m₁ room₁ (record { way = next.way; written = written₁ })
    turning_next event {m₁} {room₁} {written₁} what long roomy = record {
      on = turning.on;
      counted = turning.counted;
      spare = turning.spare;
      passed = record {
        rest = ap (λ (h : Here). part_taken t (length room₀ / 2) (drop next.way.taken part) (went_to (gone_of (run (gone_on next.way))) h)) what
            ∙ sym (ap (settled t (length room₀ / 2) part (run (gone_on next.way))) event) ∙ left;
        kept = record {
          kept = record { inside = kept.inside; within = kept.within; few_gains = kept.few_gains };
          few = omega (arith, ap (λ (h : Here). h.reports.written) what, happened_few t next.way.state.0 next.way.place.0 (here_with progress.written room m), turning_few, turning.counted, turning.spare);
          early = early;
        };
      };
      long = long ∙ turning.long;
      roomy = roomy ∙ turning.roomy;
    }

    pub turning_less : next.event ≡ true → length part - next.way.taken < length part - way.taken
    turning_less event = omega (arith, kept.more event, kept.within)

-- ── Where gliding leads ──

module _ (t m part : List ℕ) where
  -- The state is the one that the bytes between lead to.
  abbrev Leads : Gone → Gone → Type 0
  Leads from to = (from.taken ≤ to.taken) × (to.state ≡ after_from t part from.taken from.state (to.taken - from.taken))

  leads_none : (gone : Gone) → Leads gone gone
  unfolding after_from
  leads_none gone =
      let none : gone.taken - gone.taken ≡ 0 = omega arith in
      (omega arith, sym (ap (after_from t part gone.taken gone.state) none))

  leads_one : (gone : Gone) → Leads gone (further t gone (get_or part gone.taken 0))
  unfolding further after_from
  leads_one gone =
      let one : gone.taken + 1 - gone.taken ≡ 1 = omega arith in
      let here : gone.taken + 0 ≡ gone.taken = omega arith in
      (omega arith, sym (ap (after_from t part gone.taken gone.state) one ∙ ap (λ (p : ℕ). quick_next t gone.state (get_or part p 0)) here))

  pub leads_on : (a b c : Gone) → Leads a b → Leads b c → Leads a c
  leads_on a b c first then =
      let place : b.taken ≡ a.taken + (b.taken - a.taken) = omega (arith, first.0) in
      let sum : b.taken - a.taken + (c.taken - b.taken) ≡ c.taken - a.taken = omega (arith, first.0, then.0) in (
        omega (arith, first.0, then.0),
        then.1 ∙ ap₂ (λ (p s : ℕ). after_from t part p s (c.taken - b.taken)) place first.1
            ∙ sym (after_add t part a.taken a.state (b.taken - a.taken) (c.taken - b.taken)) ∙ ap (after_from t part a.taken a.state) sum,
      )

  pub glided_leads : (n : ℕ) (gone : Gone) (to : Glide) → gone.taken + n ≡ length part → to ≡ glide_in t m (drop gone.taken part) gone → Leads gone to.gone
  unfolding glide_in one_on further
  glided_leads zero gone to all is =
      let end : gone.taken ≡ length part = omega arith in
      none (drop gone.taken part) (ap (λ (k : ℕ). drop k part) end ∙ drop-length part) is
    where
      none : (y : List ℕ) → y ≡ [] → to ≡ glide_in t m y gone → Leads gone to.gone
      none y e is =
          let same : to ≡ record { gone = gone; event = false } = rw e at is in
          rw same (leads_none gone)
  glided_leads (suc n) gone to all is =
      go (one_on t m gone byte).event refl (ap (λ (l : List ℕ). glide_in t m l gone) (drop-cons part gone.taken 0 (omega arith))) (glided_leads n)
    where
      byte : ℕ
      byte = get_or part gone.taken 0

      rest : List ℕ
      rest = drop (suc gone.taken) part

      next : Gone
      next = further t gone byte

      go : (v : Bool) → (one_on t m gone byte).event ≡ v → glide_in t m (drop gone.taken part) gone ≡ glide_in t m (byte ∷ rest) gone
          → ((gone : Gone) (to : Glide) → gone.taken + n ≡ length part → to ≡ glide_in t m (drop gone.taken part) gone → Leads gone to.gone) → Leads gone to.gone
      go true e here rec =
          let same : to ≡ one_on t m gone byte = is ∙ here ∙ glide_stops t m gone byte rest e in
          rw same (leads_one gone)
      go false e here rec =
          let behind : rest ≡ drop (gone.taken + 1) part = ap (λ (k : ℕ). drop k part) (sym (add-one gone.taken)) in
          leads_on gone next to.gone (leads_one gone)
          (rec next to (omega arith) (is ∙ here ∙ glide_on t m gone byte rest e ∙ ap (λ (l : List ℕ). glide_in t m l next) behind))

-- A call begins on its way, and gliding stays on it.
pub way_begins : {t part : List ℕ} {from : Progress} → OnTheWay t part from from.way
way_begins {t} {part} {from} =
    let none = leads_none t part part (gone_by from.way) in
    record { onward = none.0; state = none.1 }

pub way_goes : (m : List ℕ) {t part : List ℕ} {from : Progress} {way : Way} {to : Went} → way.taken ≤ length part → OnTheWay t part from way
    → glide_of to ≡ glide_in t m (drop way.taken part) (gone_by way) → OnTheWay t part from to.way
way_goes m {t} {part} {from} {way} {to} within on is =
    let went = glided_leads t m part (length part - way.taken) (gone_by way) (glide_of to) (omega arith) is in
    let led = leads_on t m part (gone_by from.way) (gone_by way) (gone_by to.way) (on.onward, on.state) went in
    record { onward = led.0; state = led.1 }

-- States that were right where a call began are right on its way, so that a step may skim.
pub skim_ready : {t m₀ m part states : List ℕ} {free k : ℕ} {from : Progress} {way : Way} → QuarterReady t m₀ part free states k from → GlideReady t m part way → OnTheWay t part from way
    → SkimReady t m part states from.way.taken k way
skim_ready {t} {m₀} {m} {part} {states} {free} {k} {from} {way} quarter ready on =
    let taken : from.way.taken + (way.taken - from.way.taken) ≡ way.taken = omega (arith, on.onward) in
    record {
      glide = ready;
      foreseen = rw on.state (rw taken at (foreseen_on t part from.way.taken from.way.state.0 states from.way.taken k (way.taken - from.way.taken) quarter.foreseen));
      begun = on.onward;
      one_of_four = quarter.of_four;
      room = quarter.room_for;
    }
