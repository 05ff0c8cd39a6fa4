-- What happens at a place is three things one after the other, and where no slot is due and no keyword ends it is nothing.
-- Assumes nothing.
use mathlib.Core.Path.{◌≡◌, ap, ap₂, ◌∙◌}
use mathlib.Core.List.{List, []}
use mathlib.Core.Bool.{false}
use Prim.Native.Nat.{ℕ, ◌+◌, ◌≤◌}
use lib.ListN.{length}
use Rattle.tables.specs.Reads.{phrase_count_in, ending_in, first_link_in, onward_in}
use Rattle.tables.proofs.Followed.{first_link_none}
use Rattle.marks.specs.Marked.{no_marks}
use Rattle.marks.specs.Reported.{Reports, reported}
use Rattle.marks.specs.declared.Marks.{Marks}
use Rattle.marks.proofs.Reported.{reported_few, reported_long, reported_none}
use Rattle.running.specs.Waiting.{slot_of}
use Rattle.running.specs.Reads.{flag_in}
use Rattle.window.specs.Opening.{slot_opened}
use Rattle.window.specs.Ending.{most_looked, pieces_in, Ended, pieces_ended}
use Rattle.window.specs.Happened.{Here, ended_at, happened}
use Rattle.window.proofs.Opening.{slot_quiet, length_slot}
use Rattle.window.proofs.Ending.{length_pieces, chain_none}

-- The three calls, one after the other.
pub happens : (t : List ℕ) (state place : ℕ) (reports : Reports) (m m₁ m₂ : List ℕ) (marks : Marks) (after : Reports)
    → m₁ ≡ slot_opened t m place
    → record { marks = marks; memory = m₂ } ≡ pieces_ended t place (record { marks = no_marks; memory = m₁ }) (pieces_in t state)
    → after ≡ reported t place marks reports
    → record { reports = after; memory = m₂ } ≡ happened t state place (record { reports = reports; memory = m })
unfolding happened ended_at
happens t state place reports m m₁ m₂ marks after opened ended put =
    let e : record { marks = marks; memory = m₂ } ≡ ended_at t state place m = rw opened at ended in
    let o : after ≡ reported t place (ended_at t state place m).marks reports = rw (← e) put in
    cc (ap (λ (x : Ended). x.memory) e, o)

module _ (t : List ℕ) (state place : ℕ) (here : Here) where
  pub happened_long : length (happened t state place here).memory ≡ length here.memory
  unfolding happened ended_at
  happened_long =
      length_pieces t place (pieces_in t state) (record { marks = no_marks; memory = slot_opened t here.memory place })
      ∙ length_slot t here.memory place

  pub happened_room : length (happened t state place here).reports.room ≡ length here.reports.room
  unfolding happened
  happened_room = reported_long t place (ended_at t state place here.memory).marks here.reports

  pub happened_few : (happened t state place here).reports.written ≤ here.reports.written + phrase_count_in t
  unfolding happened
  happened_few = reported_few t place (ended_at t state place here.memory).marks here.reports

-- ── Where nothing happens ──

pieces_none : (t : List ℕ) (state : ℕ) → ending_in t state ≡ false → pieces_in t state ≡ []
unfolding pieces_in
pieces_none t state e = chain_none (onward_in t) most_looked (first_link_in t state) (first_link_none t state e)

ended_quiet : (t : List ℕ) (state place : ℕ) (m : List ℕ) → flag_in m (slot_of place) ≡ 0 → ending_in t state ≡ false
    → ended_at t state place m ≡ record { marks = no_marks; memory = m }
unfolding ended_at pieces_ended
ended_quiet t state place m quiet none =
    ap₂ (λ (l k : List ℕ). pieces_ended t place (record { marks = no_marks; memory = l }) k) (slot_quiet t m place quiet) (pieces_none t state none)

pub happened_quiet : (t : List ℕ) (state place : ℕ) (here : Here) → flag_in here.memory (slot_of place) ≡ 0 → ending_in t state ≡ false
    → happened t state place here ≡ here
unfolding happened
happened_quiet t state place here quiet none =
    let e : ended_at t state place here.memory ≡ record { marks = no_marks; memory = here.memory } = ended_quiet t state place here.memory quiet none in
    rw (e, reported_none t place here.reports)
