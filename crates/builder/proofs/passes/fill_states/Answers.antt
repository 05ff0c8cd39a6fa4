-- Each pass finds what it asks for in what the one before it leaves. Assumes nothing.
use native.Mathlib.Omega.{arith}
use Rattle.survey.specs.Turns.{noted}
use Rattle.builder.proofs.States.{few_prefixes, count_room, count_positive, states_exact}
use Rattle.builder.proofs.passes.fill_states.Goals as goal

pub number_states-states-requires : goal.number_states-states-requires
number_states-states-requires c =
    let a = c.args in
    let ready = c.requires.1 in
    record {
      whole = ready.whole;
      keywords_bound = few_prefixes c.requires.0 a.keywords.book.now (noted a.t.now a.keywords.words.now) ready;
    }

pub link_failures-requires : goal.link_failures-requires
link_failures-requires c =
    let a = c.args in
    let few = count_room c.requires.0 a.keywords.book.now (noted a.t.now a.keywords.words.now) c.requires.1 in
    omega (arith, few, c.number_states-states.ensures.value, c.requires.1.whole)

pub keyword_states-at-requires : goal.keyword_states-at-requires
keyword_states-at-requires c =
    let a = c.args in
    let notes = noted a.t.now a.keywords.words.now in
    let few = count_room c.requires.0 a.keywords.book.now notes c.requires.1 in
    let some = count_positive c.requires.0 a.keywords.book.now notes c.requires.1 in
    omega (arith, few, some, c.number_states-states.ensures.value)

pub fill-requires : goal.fill-requires
fill-requires c =
    let numbers = c.number_states-states in
    let a = c.args in
    let few = count_room c.requires.0 a.keywords.book.now (noted a.t.now a.keywords.words.now) c.requires.1 in (
      omega (arith, c.requires.1.whole),
      omega (arith, few, numbers.ensures.value),
      omega (arith, c.requires.1.gives.inside.few),
      λ p. omega (arith, few, numbers.ensures.value, c.keyword_states-at.ensures.by_index p),
    )

pub returns : goal.returns
returns c =
    let numbers = c.number_states-states in
    let a = c.args in
    states_exact c.requires.0 a.keywords.book.now (noted a.t.now a.keywords.words.now) c.requires.1 numbers.result _ _ _ _
    numbers.ensures.value numbers.ensures.t_after c.link_failures.ensures (rw c.of.ensures at c.keyword_states-at.ensures.value) c.fill.ensures
