-- A part that is taken piece by piece comes to what the whole part comes to: a run that stopped in the middle of a piece has no room for another byte.
-- Assumes nothing.
use mathlib.Core.Path.{◌≡◌, refl, sym, ap, ◌∙◌}
use mathlib.Core.Logic.{◌⊎◌, inl, inr, ⊎_elim}
use mathlib.Core.Bool.{Bool, true, false, cond}
use mathlib.Core.List.{List, [], ◌∷◌, ◌++◌}
use Prim.Native.Nat.{ℕ, zero, suc, ◌+◌, ◌-◌, ◌≤◌, ◌<◌}
use native.Mathlib.Numerals.{add-one}
use native.Mathlib.Omega.{arith}
use lib.Dec.{ltb}
use lib.ListN.{length, take, drop, get_or, take-append-drop, length-drop}
use lib.Seq.{drop-cons, drop-append-le, length-take-le, get_or-take, take-take}
use borrow.Author.Tests.{ltb-true}
use Rattle.counters.specs.declared.State.{State}
use Rattle.counters.specs.declared.Place.{Place}
use Rattle.tables.specs.Reads.{state_count_in, dense_in, phrase_count_in}
use Rattle.seeking.specs.Quick.{quick_in}
use Rattle.seeking.specs.Foreseen.{after_from}
use Rattle.seeking.proofs.Foreseen.{after_add, after_same}
use Rattle.feeding.specs.Taken.{Run, byte_taken, free_after, part_taken, to_come}
use Rattle.feeding.specs.Ready.{Ready, ReadyOn, KeptOn}
use Rattle.feeding.specs.Rule.{all_taken}
use Rattle.feeding.specs.declared.Progress.{Progress}
use Rattle.feeding.proofs.Turns.{part_full}
use Rattle.feeding.proofs.Rule.{Some, rule_kept}

-- ── Some bytes, and then some more ──

module _ (t : List ℕ) (room : ℕ) where
  pub part_append : (a b : List ℕ) (run : Run) → part_taken t room (a ++ b) run ≡ part_taken t room b (part_taken t room a run)
  unfolding part_taken
  part_append [] b run = refl
  part_append (byte ∷ a) b run = go (ltb (free_after room run) (phrase_count_in t)) refl (part_append a b (byte_taken t run byte))
    where
      next : Run
      next = byte_taken t run byte

      go : (v : Bool) → ltb (free_after room run) (phrase_count_in t) ≡ v → part_taken t room (a ++ b) next ≡ part_taken t room b (part_taken t room a next)
          → cond v run (part_taken t room (a ++ b) next) ≡ part_taken t room b (cond v run (part_taken t room a next))
      go true full rest = sym (part_full t room b b run (ltb-true (free_after room run) (phrase_count_in t) full))
      go false free rest = rest

  -- The states of bytes that were all taken.
  all_after : (part : List ℕ) (n : ℕ) (first : ℕ) (run : Run) → first + n ≤ length part
      → (all_taken t (take n (drop first part)) run).state ≡ after_from t part first run.state n
  unfolding all_taken byte_taken after_from
  all_after part zero first run within = refl
  all_after part (suc n) first run within = go (drop first part) (drop-cons part first 0 (omega arith)) (all_after part n (first + 1) next (omega arith))
    where
      byte : ℕ
      byte = get_or part first 0

      next : Run
      next = byte_taken t run byte

      go : (y : List ℕ) → y ≡ byte ∷ drop (suc first) part → (all_taken t (take n (drop (first + 1) part)) next).state ≡ after_from t part (first + 1) next.state n
          → (all_taken t (take (suc n) y) run).state ≡ after_from t part first run.state (suc n)
      go y e rest =
          let place : first + 0 ≡ first = omega arith in
          let one : suc n ≡ 1 + n = omega arith in
          ap (λ (l : List ℕ). (all_taken t (take (suc n) l) run).state) e
          ∙ ap (λ (k : ℕ). (all_taken t (take n (drop k part)) next).state) (sym (add-one first))
          ∙ rest
          ∙ ap (λ (k : ℕ). after_from t part (first + 1) (quick_in t (state_count_in t) (dense_in t) run.state (get_or part k 0)) n) (sym place)
          ∙ sym (ap (after_from t part first run.state) one ∙ after_add t part first run.state 1 n)

  -- With no byte a run stays as it is.
  pub part_none : (none : List ℕ) (run : Run) → length none ≡ 0 → part_taken t room none run ≡ run
  unfolding part_taken
  part_none [] run e = refl
  part_none (byte ∷ rest) run e = absurd (omega arith)

  -- The first bytes of a part, up to one of its ends.
  module _ (part : List ℕ) (end : ℕ) (run to : Run) (within : end ≤ length part) (ahead : run.taken ≤ end) (is : to ≡ to_come t room (take end part) run) where
    abbrev upto : List ℕ
    upto = take end part

    long : length upto ≡ end
    long = length-take-le end part within

    took : Some t room (drop run.taken upto) run to
    took = rw is (rule_kept t room (drop run.taken upto) run)

    -- All of them were taken, or there is no room for another byte.
    pub upto_stops : (to.taken ≡ end) ⊎ (free_after room to < phrase_count_in t)
    upto_stops =
        ⊎_elim
        (λ (all : took.0 ≡ length (drop run.taken upto)). inl (omega (arith, took.1.taken, length-drop run.taken upto, long)))
        (λ (full : free_after room to < phrase_count_in t). inr full)
        took.1.stops

    pub upto_within : to.taken ≤ end
    upto_within = omega (arith, took.1.taken, took.1.offered, length-drop run.taken upto, long)

    -- What is left is what was left before.
    pub upto_on : to_come t room part to ≡ to_come t room part run
    upto_on =
        ⊎_elim
        (λ (whole : to.taken ≡ end). ap (λ (k : ℕ). part_taken t room (drop k part) to) whole ∙ onward)
        (λ (full : free_after room to < phrase_count_in t). part_full t room part (drop to.taken part) to full ∙ sym (part_full t room part (drop end part) to full) ∙ onward)
        upto_stops
      where
        split : drop run.taken part ≡ drop run.taken upto ++ drop end part
        split =
            ap (drop run.taken) (sym (take-append-drop end part)) ∙ drop-append-le run.taken upto (drop end part) (omega (arith, long))

        onward : part_taken t room (drop end part) to ≡ to_come t room part run
        onward =
            ap (part_taken t room (drop end part)) is ∙ sym (part_append (drop run.taken upto) (drop end part) run)
            ∙ sym (ap (λ (l : List ℕ). part_taken t room l run) split)

    -- The state is that after the bytes.
    pub upto_state : to.state ≡ after_from t part run.taken run.state (to.taken - run.taken)
    upto_state =
        let count : took.0 ≡ to.taken - run.taken = omega (arith, took.1.taken) in
        ap (λ (r : Run). r.state) took.1.these
        ∙ all_after upto took.0 run.taken run (omega (arith, took.1.offered, length-drop run.taken upto, long))
        ∙ ap (after_from t upto run.taken run.state) count
        ∙ after_same t upto part run.taken run.state (to.taken - run.taken) (λ i l. get_or-take end part i 0 (omega (arith, upto_within, took.1.taken)))

  -- Up to where a run has come there is no byte left.
  pub upto_none : (part : List ℕ) (run : Run) → run.taken ≤ length part → to_come t room (take run.taken part) run ≡ run
  upto_none part run within =
      part_none (drop run.taken (take run.taken part)) run (omega (arith, length-drop run.taken (take run.taken part), length-take-le run.taken part within))

  -- Up to one end, and from there up to another.
  module _ (part : List ℕ) (first last : ℕ) (run to : Run) (within : last ≤ length part) (later : first ≤ last) (ahead : run.taken ≤ first)
      (is : to ≡ to_come t room (take first part) run) where
    upto_first : to ≡ to_come t room (take first (take last part)) run
    upto_first = is ∙ ap (λ (l : List ℕ). to_come t room l run) (sym (take-take first last part later))

    pub upto_upto : to_come t room (take last part) to ≡ to_come t room (take last part) run
    upto_upto = upto_on (take last part) first run to (omega (arith, length-take-le last part within)) ahead upto_first

    -- Where the first end was not reached there is no room for another byte.
    pub upto_stopped : to.taken < first → to ≡ to_come t room (take last part) run
    upto_stopped short =
        ⊎_elim
        (λ (whole : to.taken ≡ first). absurd (omega arith))
        (λ (full : free_after room to < phrase_count_in t). sym (part_full t room part (drop to.taken (take last part)) to full) ∙ upto_upto)
        (upto_stops part first run to (omega arith) ahead is)

-- ── From where a call has come to ──

module _ {t m₀ part : List ℕ} {room : ℕ} {from : Progress} (on : ReadyOn t m₀ part room from) where
  pub kept_start : KeptOn t part room from from
  kept_start = record { kept = on.kept; few = on.few; early = omega arith }

  -- What is ready stays ready, also for the first bytes of the part alone.
  pub ready_upto : {to : Progress} {m : List ℕ} → KeptOn t part room from to → length m ≡ length m₀ → (upto : List ℕ) → length upto ≤ length part
      → to.way.taken ≤ length upto → ReadyOn t m upto room to
  ready_upto {to} kept long upto shorter within = record {
    ready = record {
      memory = omega (arith, on.ready.memory);
      states = on.ready.states;
      some_dense = on.ready.some_dense;
      few_dense = on.ready.few_dense;
      phrases = on.ready.phrases;
      inside = kept.kept.inside;
      early = omega (arith, on.ready.early, on.kept.within, kept.early);
    };
    kept = record { inside = kept.kept.inside; within = within; few_gains = kept.kept.few_gains };
    few = kept.few;
    short = omega (arith, on.short);
  }

  pub ready_on : {to : Progress} {m : List ℕ} → KeptOn t part room from to → length m ≡ length m₀ → ReadyOn t m part room to
  ready_on kept long = ready_upto kept long part (omega arith) kept.kept.within

-- One after the other, each in some first bytes of the part.
pub kept_on : {t first upto part : List ℕ} {room : ℕ} {from mid to : Progress} → length upto ≤ length part → KeptOn t first room from mid → KeptOn t upto room mid to
    → KeptOn t part room from to
kept_on shorter before after = record {
  kept = record { inside = after.kept.inside; within = omega (arith, after.kept.within); few_gains = after.kept.few_gains };
  few = after.few;
  early = omega (arith, before.early, after.early);
}

-- Before the first byte of a part.
pub ready_start : {t m part : List ℕ} (state : State) (place : Place) (free : ℕ) → Ready t m (length part) state.0 place.0
    → ReadyOn t m part free (record { way = record { state = state; place = place; taken = 0; gains = 0 }; written = 0 })
ready_start {t} {m} {part} state place free ready = record {
  ready = record {
    memory = ready.memory;
    states = ready.states;
    some_dense = ready.some_dense;
    few_dense = ready.few_dense;
    phrases = ready.phrases;
    inside = ready.inside;
    early = omega (arith, ready.early);
  };
  kept = record { inside = ready.inside; within = omega arith; few_gains = omega arith };
  few = omega arith;
  short = omega (arith, ready.early);
}
