-- Test 12 over begin and feed, for any tables that begin accepted: windows never touch the head, so that the tag and the mark stay, and every
-- step leads to a state of the tables.
-- Assumes nothing.
use mathlib.Core.Path.{◌≡◌, refl, ◌∙◌}
use mathlib.Core.Logic.{inl, inr, ⊎_elim}
use mathlib.Core.Bool.{Bool, true, false, So, cond}
use mathlib.Core.List.{List, [], ◌∷◌}
use Prim.Native.Nat.{ℕ, zero, suc, ◌+◌, ◌-◌, ◌/◌, ◌%◌, ◌≤◌, ◌<◌}
use native.Mathlib.Omega.{arith}
use lib.Dec.{ltb, lit<}
use lib.ListN.{length, get_or}
use Rattle.lent.specs.Numbers.{Bytes, number_at, with_number}
use Rattle.lent.proofs.Numbers.{length_with_number, number_written, number_apart, number_below, number_agree}
use Rattle.tables.specs.Layout.{room_for_pieces}
use Rattle.tables.specs.Layout as tables
use Rattle.tables.specs.Reads.{piece_count_in, state_count_in, dense_in, phrase_count_in, mark_in, rank_in, last_in, first_in}
use Rattle.tables.specs.Passing.{tables_pass}
use Rattle.tables.proofs.Passing as passing
use Rattle.tables.proofs.Parts.{number_zero}
use Rattle.running.specs.Layout.{running_size, tag_at, state_at, place_at, mark_at, flag_at, running_tag}
use Rattle.running.specs.Reads.{WholeRunning, closing_place_in}
use Rattle.marks.specs.Marked.{no_marks, with_mark}
use Rattle.seeking.specs.Quick.{quick_in}
use Rattle.seeking.proofs.Found.{quick_inside}
use Rattle.window.specs.Waiting.{slot_from, with_waiting_from}
use Rattle.lent.specs.Zeros.{with_zeros}
use Rattle.window.specs.Opening.{slot_opened}
use Rattle.window.specs.Begun.{waiting_if_first, firsts_waiting, windows_begun}
use Rattle.window.specs.Ending.{Ended, pieces_in, piece_ended, pieces_ended}
use Rattle.window.specs.Happened.{Here, ended_at, happened}
use Rattle.window.proofs.Begun.{length_firsts, length_begun}
use Rattle.lent.proofs.Zeros.{length_zeros, zeros_there}
use Rattle.window.proofs.Opening.{length_slot}
use Rattle.window.proofs.Waiting.{length_waiting_from}
use Rattle.window.proofs.Happened.{happened_long}
use Rattle.window.specs.Places.{size_number, Elsewhere}
use Rattle.tracking.specs.Head.{begun_with, moved_to}
use Rattle.window.proofs.WaitingRead.{byte_waiting}
use Rattle.window.proofs.Slots.{byte_slot}
use Rattle.feeding.specs.Taken.{Run, at_start, byte_taken, part_taken}
use Rattle.feeding.specs.Ready.{Ready}
use Rattle.scanner.specs.Answers.{memory_number, begun_number}
use Rattle.scanner.specs.Passing.{state_held, place_held, too_small, RunningPass, running_pass}
use Rattle.scanner.specs.Exact.{begin_of, took_from, feed_of, Taking}
use Rattle.scanner.proofs.Passing.{sizes, whole, passes, passed}
use Rattle.scanner.proofs.Cases.{begin_small, begin_not_tables, begin_done}
use Rattle.scanner.proofs.Rule.{Refused, feed_cases}
use Rattle.scanner.proofs.Begins.{length_begun_with}
use Rattle.scanner.proofs.Feeds.{length_moved}

-- ── Windows never touch the head ──

module _ (t : List ℕ) (i : ℕ) (there : Elsewhere i) where
  waits_elsewhere : (m : List ℕ) (p place : ℕ) → WholeRunning m → p < room_for_pieces → get_or (with_waiting_from t m p place) i 0 ≡ get_or m i 0
  unfolding with_waiting_from
  waits_elsewhere m p place sized piece = byte_waiting m (slot_from t p place) p sized (omega arith) piece i there

  firsts_elsewhere : (m : List ℕ) (n : ℕ) → WholeRunning m → n ≤ room_for_pieces → get_or (firsts_waiting t m n) i 0 ≡ get_or m i 0
  unfolding firsts_waiting waiting_if_first
  firsts_elsewhere m zero sized few = refl
  firsts_elsewhere m (suc p) sized few = go (first_in t p) ∙ firsts_elsewhere m p sized (omega arith)
    where
      before : List ℕ
      before = firsts_waiting t m p

      go : (v : Bool) → get_or (cond v (with_waiting_from t before p 0) before) i 0 ≡ get_or before i 0
      go true = waits_elsewhere before p 0 (rw (length_firsts t m p) sized) (omega arith)
      go false = refl

  piece_elsewhere : (place : ℕ) (ended : Ended) (p : ℕ) → WholeRunning ended.memory
      → (get_or (piece_ended t place ended p).memory i 0 ≡ get_or ended.memory i 0) × WholeRunning (piece_ended t place ended p).memory
  unfolding piece_ended
  piece_elsewhere place ended p sized = go (ltb (closing_place_in ended.memory p) place) (last_in t p)
    where
      after : Bool → Bool → Ended
      after v w = cond v ended
          (cond w (record { marks = with_mark ended.marks (rank_in t p); memory = ended.memory })
          (record { marks = ended.marks; memory = with_waiting_from t ended.memory ((p + 1) % room_for_pieces) place }))

      go : (v w : Bool) → (get_or (after v w).memory i 0 ≡ get_or ended.memory i 0) × WholeRunning (after v w).memory
      go true w = (refl, sized)
      go false true = (refl, sized)
      go false false = (
        waits_elsewhere ended.memory ((p + 1) % room_for_pieces) place sized (omega arith),
        rw (length_waiting_from t ended.memory ((p + 1) % room_for_pieces) place) sized,
      )

  pieces_elsewhere : (place : ℕ) (pieces : List ℕ) (ended : Ended) → WholeRunning ended.memory
      → get_or (pieces_ended t place ended pieces).memory i 0 ≡ get_or ended.memory i 0
  unfolding pieces_ended
  pieces_elsewhere place [] ended sized = refl
  pieces_elsewhere place (p ∷ rest) ended sized =
      let one = piece_elsewhere place ended p sized in
      pieces_elsewhere place rest (piece_ended t place ended p) one.1 ∙ one.0

  happened_elsewhere : (state place : ℕ) (here : Here) → WholeRunning here.memory → get_or (happened t state place here).memory i 0 ≡ get_or here.memory i 0
  unfolding happened ended_at
  happened_elsewhere state place here sized =
      pieces_elsewhere place (pieces_in t state) (record { marks = no_marks; memory = slot_opened t here.memory place }) (rw (length_slot t here.memory place) sized)
      ∙ byte_slot t here.memory place sized i there

-- ── Bytes taken ──

-- What any bytes keep, whatever the tables are: the run stands in a state of the tables, as many places on as bytes were offered at most, and
-- the head and the length of the memory are as they were.
record Keeps (t : List ℕ) (offered : ℕ) (from to : Run) : Type 0 where
  inside : to.state < state_count_in t
  early : to.place ≤ from.place + offered
  long : length to.here.memory ≡ length from.here.memory
  head : (i : ℕ) → i < flag_at → get_or to.here.memory i 0 ≡ get_or from.here.memory i 0

-- One byte.
module _ (t : List ℕ) (run : Run) (a : ℕ) (inside : run.state < state_count_in t) (sized : WholeRunning run.here.memory) where
  abbrev next : Run
  next = byte_taken t run a

  byte_keeps : Keeps t 1 run next
  unfolding byte_taken
  byte_keeps =
      let state : ℕ = quick_in t (state_count_in t) (dense_in t) run.state a in
      record {
        inside = quick_inside t (state_count_in t) (dense_in t) run.state a (omega arith);
        early = omega arith;
        long = happened_long t state (run.place + 1) run.here;
        head = λ i below. happened_elsewhere t i (inl below) state (run.place + 1) run.here sized;
      }

part_keeps : (t : List ℕ) (room : ℕ) (part : List ℕ) (run : Run) → run.state < state_count_in t → WholeRunning run.here.memory
    → Keeps t (length part) run (part_taken t room part run)
unfolding part_taken
part_keeps t room [] run inside sized = record { inside = inside; early = omega arith; long = refl; head = λ i below. refl }
part_keeps t room (a ∷ part) run inside sized =
    let one : Keeps t 1 run (byte_taken t run a) = byte_keeps t run a inside sized in
    go (ltb (room - run.here.reports.written) (phrase_count_in t)) one (part_keeps t room part (byte_taken t run a) one.inside (rw one.long sized))
  where
    after : Run
    after = part_taken t room part (byte_taken t run a)

    go : (v : Bool) → Keeps t 1 run (byte_taken t run a) → Keeps t (length part) (byte_taken t run a) after → Keeps t (suc (length part)) run (cond v run after)
    go true one rest = record { inside = inside; early = omega arith; long = refl; head = λ i below. refl }
    go false one rest = record {
      inside = rest.inside;
      early = omega (arith, rest.early, one.early);
      long = rest.long ∙ one.long;
      head = λ i below. rest.head i below ∙ one.head i below;
    }

-- ── Begin ──

module _ (t m : List ℕ) (bytes : Bytes t) (is-large : too_small t m ≡ false) (pass : tables_pass t ≡ true) where
  head_zero : (i : ℕ) → i < flag_at → get_or (windows_begun t m) i 0 ≡ 0
  unfolding windows_begun running_size
  head_zero i below =
      let sized : WholeRunning m = (whole t m is-large).1 in
      firsts_elsewhere t i (inl below) (with_zeros m 0 size_number) (piece_count_in t) (rw (length_zeros m 0 size_number) sized) ((passing.pass_iff t).0 pass).pieces.1
      ∙ zeros_there m 0 size_number (omega arith) i (omega arith) (omega arith)

  -- A number of the head that is not written is zero.
  unwritten : (width at : ℕ) → 8 ≤ at → at + width ≤ mark_at → number_at width (begun_with t m) at ≡ 0
  unfolding begun_with
  unwritten width at from to =
      number_apart width 8 (with_number 8 (windows_begun t m) mark_at (mark_in t)) tag_at running_tag at (inr (omega arith))
      ∙ number_apart width 8 (windows_begun t m) mark_at (mark_in t) at (inl (omega arith))
      ∙ number_zero width (windows_begun t m) at (λ i a b. head_zero i (omega arith))

  begun_head : RunningPass t (begun_with t m)
  unfolding begun_with running_tag running_size
  begun_head =
      let sized = (whole t m is-large).1 in
      let before : List ℕ = windows_begun t m in
      let with_mark_lem : List ℕ = with_number 8 before mark_at (mark_in t) in
      let counts = (passing.pass_iff t).0 pass in
      record {
        tables = (sizes t m is-large).0;
        memory = rw (length_begun_with t m) (sizes t m is-large).1;
        tag = number_written 8 with_mark_lem tag_at running_tag (rw (length_with_number 8 before mark_at (mark_in t), length_begun t m) (omega arith)) (lit< tt);
        state = omega (arith, unwritten 2 state_at (omega arith) (omega arith), counts.states);
        place = omega (arith, unwritten 8 place_at (omega arith) (omega arith));
        mark = number_apart 8 8 with_mark_lem tag_at running_tag mark_at (inr (omega arith))
            ∙ number_written 8 before mark_at (mark_in t) (rw (length_begun t m) (omega arith)) (number_below 8 t tables.mark_at bytes);
      }

-- Running memory that begin leaves passes, with any tables that begin accepted.
pub begun_passes : (t m : List ℕ) → Bytes t → begun_number (begin_of t m).answer ≡ 0 → So (running_pass t (begin_of t m).memory)
unfolding memory_number begun_number
begun_passes t m bytes done = at_size (too_small t m) refl
  where
    at_tables : too_small t m ≡ false → (v : Bool) → tables_pass t ≡ v → So (running_pass t (begin_of t m).memory)
    at_tables a false b = absurd (omega (arith, rw (begin_not_tables t m a b) at done))
    at_tables a true b = rw (begin_done t m a b) (passes t (begun_with t m) (begun_head t m bytes a b))

    at_size : (v : Bool) → too_small t m ≡ v → So (running_pass t (begin_of t m).memory)
    at_size true a = absurd (omega (arith, rw (begin_small t m a) at done))
    at_size false a = at_tables a (tables_pass t) refl

-- ── Feed ──

-- With its state and place written, the memory passes as it did.
moved_head : (t m part room : List ℕ) (run : Run) → Keeps t (length part) (at_start (state_held m) (place_held m) m room) run → RunningPass t m
    → Ready t m (length part) (state_held m) (place_held m) → RunningPass t (moved_to run.here.memory run.state run.place)
unfolding moved_to running_size
moved_head t m part room run keeps head ready =
    let after : List ℕ = run.here.memory in
    let stated : List ℕ = with_number 2 after state_at run.state in
    let long : length after ≡ length m = keeps.long in
    record {
      tables = head.tables;
      memory = rw (length_moved after run.state run.place, long) head.memory;
      tag = number_apart 8 8 stated place_at run.place tag_at (inl (omega arith)) ∙ number_apart 8 2 after state_at run.state tag_at (inl (omega arith))
          ∙ number_agree 8 after m tag_at (λ i a b. keeps.head i (omega arith)) ∙ head.tag;
      state = rw (number_apart 2 8 stated place_at run.place state_at (inl (omega arith))
          ∙ number_written 2 after state_at run.state (omega (arith, ready.memory)) (omega (arith, keeps.inside, ready.states))) keeps.inside;
      place = rw (number_written 8 stated place_at run.place (rw (length_with_number 2 after state_at run.state) (omega (arith, ready.memory))) (omega (arith, keeps.early, ready.early)))
          (omega (arith, keeps.early, ready.early));
      mark = number_apart 8 8 stated place_at run.place mark_at (inr (omega arith)) ∙ number_apart 8 2 after state_at run.state mark_at (inr (omega arith))
          ∙ number_agree 8 after m mark_at (λ i a b. keeps.head i (omega arith)) ∙ head.mark;
    }

module _ (t m part room : List ℕ) (pass : So (running_pass t m)) where
  took_passes : Ready t m (length part) (state_held m) (place_held m) → So (running_pass t (took_from t m part room (state_held m) (place_held m)).memory)
  unfolding took_from
  took_passes ready =
      let head : RunningPass t m = passed t m pass in
      let start : Run = at_start (state_held m) (place_held m) m room in
      let run : Run = part_taken t (length room / 2) part start in
      moved run (part_keeps t (length room / 2) part start ready.inside ready.memory) head
    where
      moved : (run : Run) → Keeps t (length part) (at_start (state_held m) (place_held m) m room) run → RunningPass t m
          → So (running_pass t (moved_to run.here.memory run.state run.place))
      moved run keeps head = passes t (moved_to run.here.memory run.state run.place) (moved_head t m part room run keeps head ready)

  -- Running memory that passed still passes after a feed with the same tables, refused or not.
  pub fed_passes : So (running_pass t (feed_of t m part room).memory)
  fed_passes = ⊎_elim
      (λ (r : Refused m room (feed_of t m part room)). rw r.memory_kept pass)
      (λ (k : Taking t m part room (feed_of t m part room)). rw k.is (took_passes k.ready))
      (feed_cases t m part room)
