-- The loop in rest form: once what happens at the last byte is done, what the rest of the part comes to from here is what the whole part comes to.
-- A quiet byte changes nothing but state, place and counts, so gliding takes the bytes that are taken one by one.
-- Assumes nothing.
use mathlib.Core.Path.{◌≡◌, refl, sym, ap, ap₂, ◌∙◌}
use mathlib.Core.Bool.{Bool, true, false, So, cond}
use mathlib.Core.List.{List, [], ◌∷◌}
use Prim.Native.Nat.{ℕ, zero, suc, ◌+◌, ◌-◌, ◌≤◌, ◌<◌}
use native.Mathlib.Numerals.{add-one}
use native.Mathlib.Omega.{arith}
use lib.ListN.{length, get_or, drop}
use lib.Seq.{drop-cons, drop-length}
use borrow.Author.Tests.{lt-ltb, le-ltb}
use Rattle.tables.specs.Reads.{phrase_count_in}
use Rattle.gliding.specs.Glide.{Gone, further, quiet_at, Glide, one_on, glide_in}
use Rattle.gliding.proofs.Quiet.{quiet_is}
use Rattle.gliding.proofs.Turns.{goes_quiet, on_goes, glide_stops, glide_on}
use Rattle.window.specs.Happened.{Here, happened}
use Rattle.window.proofs.Happened.{happened_quiet}
use Rattle.feeding.specs.Taken.{Run, byte_taken, free_after, part_taken, to_come}

-- The way of a run, and the run that went so far.
abbrev pub gone_of : Run → Gone
gone_of run = record { state = run.state; place = run.place; taken = run.taken; gains = run.gains }

abbrev pub went_to : Gone → Here → Run
went_to gone here = record { state = gone.state; place = gone.place; taken = gone.taken; gains = gone.gains; here = here }

-- The run once what happens at its place is done.
abbrev pub done : List ℕ → Run → Run
done t run = went_to (gone_of run) (happened t run.state run.place run.here)

-- What happens at a quiet place changes nothing: no report, and no byte of the memory.
quiet_nothing : (t : List ℕ) (state place : ℕ) (here : Here) → So (quiet_at t here.memory state place) → happened t state place here ≡ here
quiet_nothing t state place here h =
    let q = quiet_is t here.memory state place h in
    happened_quiet t state place here q.1 q.0

module _ (t : List ℕ) (room : ℕ) (part : List ℕ) where
  -- What a run comes to: where something is still to be done at its place, that is done, and then the rest of the part is taken.
  abbrev pub settled : Run → Bool → Run
  settled run event = cond event (part_taken t room (drop run.taken part) (done t run)) run

  -- Where the free room is too small no byte is taken.
  pub part_full : (rest : List ℕ) (run : Run) → free_after room run < phrase_count_in t → part_taken t room rest run ≡ run
  unfolding part_taken
  part_full [] run full = refl
  part_full (byte ∷ rest) run full = rw (lt-ltb (free_after room run) (phrase_count_in t) full)

  byte_first : (byte : ℕ) (rest : List ℕ) (run : Run) → phrase_count_in t ≤ free_after room run → part_taken t room (byte ∷ rest) run ≡ part_taken t room rest (byte_taken t run byte)
  unfolding part_taken
  byte_first byte rest run free = rw (le-ltb (free_after room run) (phrase_count_in t) free)

  -- One byte is the way one byte on, and what happens there.
  byte_done : (run : Run) (byte : ℕ) → byte_taken t run byte ≡ done t (went_to (one_on t run.here.memory (gone_of run) byte).gone run.here)
  unfolding byte_taken one_on further
  byte_done run byte = refl

  -- At a byte after which the way goes on nothing happens.
  byte_quiet : (run : Run) (byte : ℕ) → (one_on t run.here.memory (gone_of run) byte).event ≡ false
      → byte_taken t run byte ≡ went_to (one_on t run.here.memory (gone_of run) byte).gone run.here
  unfolding byte_taken one_on further
  byte_quiet run byte e =
      ap (went_to (further t (gone_of run) byte))
      (quiet_nothing t (further t (gone_of run) byte).state (run.place + 1) run.here (goes_quiet t run.here.memory (gone_of run) byte (on_goes t run.here.memory (gone_of run) byte e)))

  abbrev pub glided : Glide → Here → Run
  glided g here = settled (went_to g.gone here) g.event

  -- A byte after which the way does not go on: what happens there is still to be done.
  glide_loud : (run : Run) (byte : ℕ) (rest : List ℕ) → rest ≡ drop (run.taken + 1) part → phrase_count_in t ≤ free_after room run
      → (one_on t run.here.memory (gone_of run) byte).event ≡ true
      → part_taken t room (byte ∷ rest) run ≡ glided (glide_in t run.here.memory (byte ∷ rest) (gone_of run)) run.here
  unfolding one_on further
  glide_loud run byte rest behind free e =
      let m : List ℕ = run.here.memory in
      let one : Glide = one_on t m (gone_of run) byte in
      let next : Run = went_to one.gone run.here in
      byte_first byte rest run free
      ∙ ap₂ (part_taken t room) behind (byte_done run byte)
      ∙ sym (ap (λ (v : Bool). cond v (part_taken t room (drop (run.taken + 1) part) (done t next)) next) e)
      ∙ sym (ap (λ (g : Glide). glided g run.here) (glide_stops t m (gone_of run) byte rest e))

  -- A quiet byte: the rest is glided over from the next place on.
  glide_quiet : (run : Run) (byte : ℕ) (rest : List ℕ) → rest ≡ drop (run.taken + 1) part → phrase_count_in t ≤ free_after room run
      → (one_on t run.here.memory (gone_of run) byte).event ≡ false
      → ((next : Run) → next.taken ≡ run.taken + 1 → next.here ≡ run.here
      → part_taken t room (drop next.taken part) next ≡ glided (glide_in t next.here.memory (drop next.taken part) (gone_of next)) next.here)
      → part_taken t room (byte ∷ rest) run ≡ glided (glide_in t run.here.memory (byte ∷ rest) (gone_of run)) run.here
  unfolding one_on further
  glide_quiet run byte rest behind free e later =
      let m : List ℕ = run.here.memory in
      let next : Run = went_to (one_on t m (gone_of run) byte).gone run.here in
      byte_first byte rest run free
      ∙ ap₂ (part_taken t room) behind (byte_quiet run byte e)
      ∙ later next refl refl
      ∙ sym (ap (λ (y : List ℕ). glided (glide_in t m y (gone_of next)) run.here) behind)
      ∙ sym (ap (λ (g : Glide). glided g run.here) (glide_on t m (gone_of run) byte rest e))

  -- Gliding over the rest of a part, and settling, takes the bytes that are taken one by one: room that is enough stays enough, since a quiet byte
  -- writes no report.
  pub glide_part : (n : ℕ) (run : Run) → run.taken + n ≡ length part → phrase_count_in t ≤ free_after room run
      → part_taken t room (drop run.taken part) run ≡ glided (glide_in t run.here.memory (drop run.taken part) (gone_of run)) run.here
  unfolding part_taken glide_in
  glide_part zero run all free =
      let end : run.taken ≡ length part = omega arith in
      none (drop run.taken part) (ap (λ (k : ℕ). drop k part) end ∙ drop-length part)
    where
      none : (y : List ℕ) → y ≡ [] → part_taken t room y run ≡ glided (glide_in t run.here.memory y (gone_of run)) run.here
      none y e = rw e
  glide_part (suc n) run all free = first (drop run.taken part) (drop-cons part run.taken 0 (omega arith)) (glide_part n)
    where
      byte : ℕ
      byte = get_or part run.taken 0

      rest : List ℕ
      rest = drop (suc run.taken) part

      behind : rest ≡ drop (run.taken + 1) part
      behind = ap (λ (k : ℕ). drop k part) (sym (add-one run.taken))

      Glides : List ℕ → Run → Type 0
      Glides y run = part_taken t room y run ≡ glided (glide_in t run.here.memory y (gone_of run)) run.here

      onward : (v : Bool) → (one_on t run.here.memory (gone_of run) byte).event ≡ v
          → ((run : Run) → run.taken + n ≡ length part → phrase_count_in t ≤ free_after room run → Glides (drop run.taken part) run) → Glides (byte ∷ rest) run
      onward true e rec = glide_loud run byte rest behind free e
      onward false e rec =
          glide_quiet run byte rest behind free e (λ next taken same. rec next (omega (arith, taken)) (omega (arith, ap (λ (h : Here). h.reports.written) same)))

      first : (y : List ℕ) → y ≡ byte ∷ rest
          → ((run : Run) → run.taken + n ≡ length part → phrase_count_in t ≤ free_after room run → Glides (drop run.taken part) run) → Glides y run
      first y e rec = rw e (onward (one_on t run.here.memory (gone_of run) byte).event refl rec)

-- From where a run stands.
pub rest_part : (t : List ℕ) (room : ℕ) (part : List ℕ) (run : Run) → run.taken ≤ length part → phrase_count_in t ≤ free_after room run
    → (to : Glide) → to ≡ glide_in t run.here.memory (drop run.taken part) (gone_of run) → glided t room part to run.here ≡ to_come t room part run
rest_part t room part run within free to is =
    ap (λ (g : Glide). glided t room part g run.here) is ∙ sym (glide_part t room part (length part - run.taken) run (omega arith) free)
