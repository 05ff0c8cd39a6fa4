-- Going over the places with the states that were looked up is gliding: each of them is the state that the byte leads to.
-- Assumes nothing.
use mathlib.Core.Path.{◌≡◌, refl, sym, ap, ap₂, ◌∙◌}
use mathlib.Core.Bool.{Bool, true, false, cond, not, false≢true}
use mathlib.Core.List.{List, [], ◌∷◌}
use Prim.Native.Nat.{ℕ, zero, suc, ◌+◌, ◌-◌, ◌*◌, ◌≤◌, ◌<◌}
use native.Mathlib.Omega.{arith}
use lib.ListN.{length, get_or, drop}
use lib.Seq.{drop-cons, drop-length}
use Rattle.tables.specs.Reads.{state_count_in, dense_in, gain_in}
use Rattle.seeking.specs.Quick.{quick_in}
use Rattle.gliding.specs.Glide.{Gone, further, quiet_at, goes_on, Glide, one_on, glide_in, gone_by, glide_of, GlideKept}
use Rattle.seeking.specs.Foreseen.{after_from}
use Rattle.gliding.specs.declared.Way.{Way}
use Rattle.gliding.specs.declared.Went.{Went}
use Rattle.gliding.proofs.Turns.{kept_by}
use Rattle.seeking.proofs.Foreseen.{after_more, after_inside}
use Rattle.skimming.specs.Look.{Look, look_in, look_from}
use Rattle.skimming.specs.Infos.{States}
use Rattle.skimming.specs.Ready.{look_of, way_of, LookReady, LookKept, SkimReady}
use Rattle.skimming.specs.declared.Looking.{Looking}
use Rattle.skimming.proofs.Looks.{step_quiet, step_event, from_quiet}

-- From a byte of a part on, with the states of the bytes behind it standing four apart from a number on.
module _ (t m part ahead : List ℕ) (taken state at : ℕ)
    (each : (j : ℕ) → taken + j < length part → get_or ahead (at + 4 * j) 0 ≡ after_from t part taken state (j + 1)) where
  -- How far the bytes have been taken once so many of them are.
  abbrev gone_for : ℕ → ℕ → ℕ → Gone
  gone_for j place gains = record { state = after_from t part taken state j; place = place; taken = taken + j; gains = gains }

  abbrev glide_by : Look → Glide
  glide_by to = record { gone = gone_for (length part - taken - to.left) to.place to.gains; event = to.event }

  -- One byte more.
  module _ (j place gains : ℕ) (more : taken + j < length part) where
    abbrev byte : ℕ
    byte = get_or part (taken + j) 0

    abbrev seen : ℕ
    seen = get_or ahead (at + 4 * j) 0

    further_seen : further t (gone_for j place gains) byte ≡ gone_for (j + 1) (place + 1) (gains + gain_in t seen)
    unfolding further
    further_seen =
        let next : quick_in t (state_count_in t) (dense_in t) (after_from t part taken state j) byte ≡ after_from t part taken state (j + 1) = sym (after_more t part taken state j) in
        let there : taken + j + 1 ≡ taken + (j + 1) = omega arith in
        ap₂ (λ (s n : ℕ). record { state = s; place = place + 1; taken = n; gains = gains + gain_in t s }) next there
        ∙ ap (λ (s : ℕ). record { state = after_from t part taken state (j + 1); place = place + 1; taken = taken + (j + 1); gains = gains + gain_in t s }) (sym (each j more))

    goes_seen : goes_on t m (gone_for j place gains) byte ≡ quiet_at t m seen (place + 1)
    unfolding goes_on
    goes_seen = ap (λ (g : Gone). quiet_at t m g.state (place + 1)) further_seen ∙ ap (λ (s : ℕ). quiet_at t m s (place + 1)) (sym (each j more))

    glide_seen : (rest : List ℕ) (quiet : Bool) → quiet_at t m seen (place + 1) ≡ quiet
        → glide_in t m (byte ∷ rest) (gone_for j place gains)
        ≡ cond quiet (glide_in t m rest (gone_for (j + 1) (place + 1) (gains + gain_in t seen))) (record { gone = gone_for (j + 1) (place + 1) (gains + gain_in t seen); event = not quiet })
    unfolding glide_in one_on
    glide_seen rest quiet q = rw (goes_seen, further_seen, q)

  -- No byte is left.
  ends_look : (j place gains : ℕ) → taken + j ≡ length part
      → glide_in t m (drop (taken + j) part) (gone_for j place gains) ≡ glide_by (look_in t m ahead 0 (at + 4 * j) place gains)
  unfolding glide_in look_in
  ends_look j place gains all =
      let count : j ≡ length part - taken - 0 = omega arith in
      none (drop (taken + j) part) (ap (λ (i : ℕ). drop i part) all ∙ drop-length part)
      ∙ ap {B = Glide} (λ (i : ℕ). record { gone = gone_for i place gains; event = false }) count
    where
      none : (y : List ℕ) → y ≡ [] → glide_in t m y (gone_for j place gains) ≡ record { gone = gone_for j place gains; event = false }
      none y e = rw e

  -- So many bytes are left.
  pub glide_look : (n j place gains : ℕ) → taken + j + n ≡ length part
      → glide_in t m (drop (taken + j) part) (gone_for j place gains) ≡ glide_by (look_in t m ahead n (at + 4 * j) place gains)
  glide_look zero j place gains end = ends_look j place gains (omega arith)
  glide_look (suc n) j place gains end =
      let more : taken + j < length part = omega arith in
      ap (λ (l : List ℕ). glide_in t m l (gone_for j place gains)) (drop-cons part (taken + j) 0 more)
      ∙ go more (quiet_at t m (get_or ahead (at + 4 * j) 0) (place + 1)) refl (glide_look n (j + 1) (place + 1) (gains + gain_in t (get_or ahead (at + 4 * j) 0)) (omega arith))
    where
      gained : ℕ
      gained = gains + gain_in t (get_or ahead (at + 4 * j) 0)

      go : taken + j < length part → (v : Bool) → quiet_at t m (get_or ahead (at + 4 * j) 0) (place + 1) ≡ v
          → glide_in t m (drop (taken + (j + 1)) part) (gone_for (j + 1) (place + 1) gained) ≡ glide_by (look_in t m ahead n (at + 4 * (j + 1)) (place + 1) gained)
          → glide_in t m (get_or part (taken + j) 0 ∷ drop (suc (taken + j)) part) (gone_for j place gains) ≡ glide_by (look_in t m ahead (suc n) (at + 4 * j) place gains)
      go more true q on =
          let rest : suc (taken + j) ≡ taken + (j + 1) = omega arith in
          let next : at + 4 * (j + 1) ≡ at + 4 * j + 4 = omega arith in
          glide_seen j place gains more (drop (suc (taken + j)) part) true q
          ∙ ap (λ (i : ℕ). glide_in t m (drop i part) (gone_for (j + 1) (place + 1) gained)) rest
          ∙ on
          ∙ ap glide_by (ap (λ (i : ℕ). look_in t m ahead n i (place + 1) gained) next ∙ sym (step_quiet t m ahead (at + 4 * j) place gains n q))
      go more false q on =
          let count : j + 1 ≡ length part - taken - n = omega arith in
          glide_seen j place gains more (drop (suc (taken + j)) part) false q
          ∙ ap {B = Glide} (λ (i : ℕ). record { gone = gone_for i (place + 1) gained; event = true }) count
          ∙ ap glide_by (sym (step_event t m ahead (at + 4 * j) place gains n q))

-- ── A part that is skimmed ──

-- Where going over the places begins.
abbrev pub start_of : List ℕ → ℕ → ℕ → Way → Looking
start_of part first k from = record { at = 4 * (from.taken - first) + k; left = length part - from.taken; place = from.place; gains = from.gains; event = false }

-- What is promised of a part that was skimmed.
abbrev pub Skimmed : List ℕ → List ℕ → List ℕ → Way → Went → Type 0
Skimmed t m part from to =
    (glide_of to ≡ glide_in t m (drop from.taken part) (gone_by from)) × (GlideKept t part from to)
    × (to.way.state.0 ≡ after_from t part from.taken from.state.0 (to.way.taken - from.taken))

module _ (t m part ahead : List ℕ) (first k : ℕ) (from : Way) (ready : SkimReady t m part ahead first k from) where
  abbrev start : Looking
  start = start_of part first k from

  abbrev after : ℕ → ℕ
  after = after_from t part from.taken from.state.0

  each : (j : ℕ) → from.taken + j < length part → get_or ahead (start.at + 4 * j) 0 ≡ after (j + 1)
  each j more =
      let there : 4 * (from.taken - first) + k + 4 * j ≡ 4 * (from.taken + j - first) + k = omega (arith, ready.begun) in
      ap (λ (i : ℕ). get_or ahead i 0) there ∙ ready.foreseen.each j more

  states : States ahead start.at start.left
  states j few =
      rw (each j (omega arith)) (omega (arith, after_inside t part from.taken from.state.0 (j + 1) ready.glide.inside, ready.glide.few_states))

  pub start_ready : from.taken < length part → LookReady t m ahead start
  start_ready some =
      let glide = ready.glide in
      record {
        memory = glide.memory;
        states = states;
        room = omega (arith, ready.begun, ready.one_of_four, ready.room);
        near = omega (arith, ready.begun, ready.one_of_four, glide.short);
        early = omega (arith, glide.early);
        few_gains = omega (arith, glide.few_gains, glide.short);
        quiet = refl;
      }

  -- No byte is left at the start.
  pub skimmed_none : length part ≤ from.taken → (to : Went) → glide_of to ≡ record { gone = gone_by from; event = false } → Skimmed t m part from to
  unfolding glide_in after_from
  skimmed_none end to is =
      let all : from.taken ≡ length part = omega (arith, ready.glide.within) in
      let none : to.way.taken - from.taken ≡ 0 = omega (arith, ap (λ (g : Glide). g.gone.taken) is) in (
        is ∙ sym (stopped (drop from.taken part) (ap (λ (i : ℕ). drop i part) all ∙ drop-length part)),
        kept_by t part from to (gone_by from) false is ready.glide.inside ready.glide.within (omega arith) (λ e. absurd (false≢true e)) (omega arith) ready.glide.few_gains,
        ap (λ (g : Glide). g.gone.state) is ∙ sym (ap after none),
      )
    where
      stopped : (y : List ℕ) → y ≡ [] → glide_in t m y (gone_by from) ≡ record { gone = gone_by from; event = false }
      stopped y e = rw e

  -- From the start on, going over the places is gliding.
  abbrev look_all : Look
  look_all = look_in t m ahead start.left start.at from.place.0 from.gains

  whole : from.taken < length part
      → glide_in t m (drop from.taken part) (gone_by from) ≡ glide_by t m part ahead from.taken from.state.0 start.at each look_all
  unfolding after_from
  whole some =
      let here : from.taken + 0 ≡ from.taken = omega arith in
      let same : start.at + 4 * 0 ≡ start.at = omega arith in
      sym (ap (λ (i : ℕ). glide_in t m (drop i part) (record { state = from.state.0; place = from.place.0; taken = i; gains = from.gains })) here)
      ∙ glide_look t m part ahead from.taken from.state.0 start.at each start.left 0 from.place.0 from.gains (omega arith)
      ∙ ap (λ (i : ℕ). glide_by t m part ahead from.taken from.state.0 start.at each (look_in t m ahead start.left i from.place.0 from.gains)) same

  -- Some place was gone over.
  module _ (last : Looking) (kept : LookKept start last) (fewer : last.left < start.left) where
    abbrev reached : ℕ
    reached = length part - from.taken - last.left

    last_state : get_or ahead (last.at - 4) 0 ≡ after reached
    last_state =
        let there : last.at - 4 ≡ start.at + 4 * (reached - 1) = omega (arith, kept.at) in
        let count : reached - 1 + 1 ≡ reached = omega arith in
        ap (λ (i : ℕ). get_or ahead i 0) there ∙ each (reached - 1) (omega arith) ∙ ap after count

    way_gone : way_of ahead (length part) last ≡ glide_by t m part ahead from.taken from.state.0 start.at each (look_of last)
    way_gone =
        let count : length part - last.left ≡ from.taken + reached = omega arith in
        ap₂ {C = Glide} (λ (s n : ℕ). record { gone = record { state = s; place = last.place.0; taken = n; gains = last.gains }; event = last.event }) last_state count

    -- It goes no further.
    pub skimmed_some : (to : Went) → look_from t m ahead (look_of last) ≡ look_from t m ahead (look_of start)
        → look_from t m ahead (look_of last) ≡ look_of last → glide_of to ≡ way_of ahead (length part) last → Skimmed t m part from to
    skimmed_some to rest settled is =
        let looked : look_of last ≡ look_all = sym settled ∙ rest ∙ from_quiet t m ahead start.at from.place.0 from.gains start.left false refl in
        let state : to.way.state.0 ≡ after reached = ap (λ (g : Glide). g.gone.state) is ∙ last_state in
        let count : reached ≡ to.way.taken - from.taken = omega (arith, ap (λ (g : Glide). g.gone.taken) is) in
        let inside : after reached < state_count_in t = after_inside t part from.taken from.state.0 reached ready.glide.inside in (
          is ∙ way_gone ∙ ap (glide_by t m part ahead from.taken from.state.0 start.at each) looked ∙ sym (whole (omega arith)),
          kept_by t part from to (way_of ahead (length part) last).gone last.event is (omega (arith, last_state, inside)) (omega arith) (omega arith) (λ e. omega arith)
              (omega (arith, kept.place)) (omega (arith, kept.few_gains, ready.glide.few_gains)),
          state ∙ ap after count,
        )
