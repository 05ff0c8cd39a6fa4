-- Each turn takes a byte, and the returns are where the way does not go on, or no byte is left.
-- Assumes nothing.
use mathlib.Core.Path.{◌≡◌, refl, sym, ap, ◌∙◌}
use mathlib.Core.Bool.{Bool}
use mathlib.Core.List.{List}
use Prim.Native.Nat.{ℕ, ◌<◌}
use native.Mathlib.Omega.{arith}
use lib.ListN.{length, get_or, drop}
use Rattle.gliding.specs.Glide.{Gone, Glide, one_on, glide_in}
use Rattle.gliding.specs.Going.{gone_to, going_of}
use Rattle.gliding.proofs.Turns.{gliding_start, gliding_end, end_kept, turn_stop, stop_kept, turn_on}
use Rattle.gliding.proofs.glide.Goals as goal

abbrev gone : ℕ → ℕ → ℕ → ℕ → Gone
gone state place taken gains = record { state = state; place = place; taken = taken; gains = gains }

-- The index at which the loop begins is the number of the state.
begun : (t m part : List ℕ) (taken place gains index state : ℕ) → index ≡ state
    → glide_in t m (drop taken part) (gone index place taken gains) ≡ glide_in t m (drop taken part) (gone state place taken gains)
begun t m part taken place gains index state e = ap (λ (s : ℕ). glide_in t m (drop taken part) (gone s place taken gains)) e

-- The byte that the loop takes is the next of the way.
byte_next : (t m part : List ℕ) (way : Gone) (at : ℕ) (to : Glide) → way.taken ≡ at → to ≡ one_on t m way (get_or part at 0) → to ≡ one_on t m way (get_or part way.taken 0)
byte_next t m part way at to e is = is ∙ ap (λ (p : ℕ). one_on t m way (get_or part p 0)) (sym e)

pub loop-at-init : goal.loop-at-init
loop-at-init c =
    let a = c.args in
    let start = c.requires in (
      c.state_count-states.ensures.0,
      c.dense-dense.ensures.0,
      refl,
      refl,
      gliding_start a.t.now a.m.now a.part.now _ start.within (omega (arith, start.inside, c.index.ensures.0)) start.few_gains,
    )

pub go_on-going-requires : goal.go_on-going-requires
go_on-going-requires c =
    let start = c.requires in
    let inv = c.loop-at.invariant in
    record {
      memory = start.memory;
      counted = inv.0;
      rows = inv.1;
      few_states = omega (arith, inv.0, start.few_states);
      some_dense = omega (arith, inv.1, start.some_dense);
      few_dense = omega (arith, inv.0, inv.1, start.few_dense);
      inside = omega (arith, inv.0, inv.4.inside);
      early = omega (arith, start.early, inv.4.early, inv.3, c.loop-at-test.true);
      few_taken = omega (arith, start.short, inv.4.within);
      few_gains = inv.4.few_gains;
    }

pub way_to-requires : goal.way_to-requires
way_to-requires c = omega (arith, c.go_on-going.ensures.1.inside, c.loop-at.invariant.0, c.requires.few_states)

pub returns-then-going : goal.returns-then-going
returns-then-going c =
    let a = c.args in
    let go = c.go_on-going in
    let kept = go.ensures.1 in
    let inv = c.loop-at.invariant in
    let more : c.loop-at.going.taken < length a.part.now = omega (arith, inv.3, c.loop-at-test.true) in
    let one = byte_next a.t.now a.m.now a.part.now _ _ _ inv.3 go.ensures.0 in (
      c.way_to.ensures ∙ turn_stop a.t.now a.m.now a.part.now _ _ _ inv.4 more (going_of go.result) one c.if-going.true ∙ begun a.t.now a.m.now a.part.now a.from.taken _ _ _ _ c.index.ensures.0,
      stop_kept a.t.now a.m.now a.part.now _ _ _ inv.4 more (going_of go.result) one (omega (arith, kept.inside, inv.0)) kept.place kept.taken kept.few_gains a.from c.way_to.result refl refl c.way_to.ensures,
    )

pub loop-at-preserved : goal.loop-at-preserved
loop-at-preserved c =
    let a = c.args in
    let go = c.go_on-going in
    let kept = go.ensures.1 in
    let inv = c.loop-at.invariant in
    let more : c.loop-at.going.taken < length a.part.now = omega (arith, inv.3, c.loop-at-test.true) in
    let one = byte_next a.t.now a.m.now a.part.now _ _ _ inv.3 go.ensures.0 in (
      inv.0,
      inv.1,
      c.if-going.false,
      omega (arith, kept.taken, inv.3),
      turn_on a.t.now a.m.now a.part.now _ _ _ inv.4 more (going_of go.result) one c.if-going.false (omega (arith, kept.inside, inv.0)) kept.place kept.taken kept.few_gains,
    )

pub way_to-requires-2 : goal.way_to-requires-2
way_to-requires-2 c = omega (arith, c.loop-at.invariant.4.inside, c.requires.few_states)

pub returns : goal.returns
returns c =
    let a = c.args in
    let inv = c.loop-at.invariant in
    let end = c.way_to-2.ensures ∙ ap {B = Glide} (λ (e : Bool). record { gone = gone_to c.loop-at.going; event = e }) inv.2 in (
      end ∙ gliding_end a.t.now a.m.now a.part.now _ _ _ inv.4 (omega (arith, inv.3, c.loop-at-test.false)) ∙ begun a.t.now a.m.now a.part.now a.from.taken _ _ _ _ c.index.ensures.0,
      end_kept a.t.now a.m.now a.part.now _ _ _ inv.4 a.from c.way_to-2.result refl refl end,
    )
