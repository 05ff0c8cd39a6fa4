-- The second reading notes what the passes over the states ask for, and all passes together are those of the definition.
-- Assumes nothing.
use mathlib.Core.Path.{sym, ◌∙◌}
use Prim.Native.Nat.{ℕ, ◌<◌}
use native.Mathlib.Omega.{arith}
use lib.ListN.{get_or}
use lib.Seq.{length-take-le}
use Rattle.builder.proofs.Reread.{few_bytes, reread_readied, few_pieces, few_phrases, passes_are}
use Rattle.builder.proofs.passes.fill.Goals as goal

pub survey-surveyed-requires : goal.survey-surveyed-requires
survey-surveyed-requires c =
    let a = c.args in
    let each : (i : ℕ) → get_or a.book.now i 0 < 256 = λ i. omega (arith, c.type_inv.book i) in
    record { whole = c.requires.1.whole; book_len_bound = few_bytes c.requires.0 a.book.now a.t.now each c.requires.1 }

pub slice_bounds-words-end : goal.slice_bounds-words-end
slice_bounds-words-end c =
    let read = c.survey-surveyed in
    let a = c.args in
    let each : (i : ℕ) → get_or a.book.now i 0 < 256 = λ i. omega (arith, c.type_inv.book i) in
    omega (arith, few_pieces c.requires.0 a.book.now a.t.now each c.requires.1 read.result _ read.ensures)

pub slice_bounds-keywords-end : goal.slice_bounds-keywords-end
slice_bounds-keywords-end c =
    let read = c.survey-surveyed in
    let a = c.args in
    let each : (i : ℕ) → get_or a.book.now i 0 < 256 = λ i. omega (arith, c.type_inv.book i) in
    let few = few_pieces c.requires.0 a.book.now a.t.now each c.requires.1 read.result _ read.ensures in
    sym (length-take-le read.result.pieces read.new.words (omega (arith, few)))

pub invariant_of-keywords : goal.invariant_of-keywords
invariant_of-keywords c =
    let read = c.survey-surveyed in
    let a = c.args in
    let each : (i : ℕ) → get_or a.book.now i 0 < 256 = λ i. omega (arith, c.type_inv.book i) in
    let ready = reread_readied c.requires.0 a.book.now a.t.now each c.requires.1 read.result _ read.ensures in
    record { bytes = ready.gives.bytes; inside = ready.gives.inside }

pub fill_states-states-requires : goal.fill_states-states-requires
fill_states-states-requires c =
    let read = c.survey-surveyed in
    let a = c.args in
    let each : (i : ℕ) → get_or a.book.now i 0 < 256 = λ i. omega (arith, c.type_inv.book i) in
    (c.requires.0, reread_readied c.requires.0 a.book.now a.t.now each c.requires.1 read.result _ read.ensures)

pub fill_rows-requires : goal.fill_rows-requires
fill_rows-requires c =
    let states = c.fill_states-states in
    (omega (arith, c.requires.1.whole), states.ensures.some, states.ensures.few)

pub put_header-requires : goal.put_header-requires
put_header-requires c =
    let read = c.survey-surveyed in
    let a = c.args in
    let each : (i : ℕ) → get_or a.book.now i 0 < 256 = λ i. omega (arith, c.type_inv.book i) in
    let pieces = few_pieces c.requires.0 a.book.now a.t.now each c.requires.1 read.result _ read.ensures in
    let phrases = few_phrases c.requires.0 a.book.now a.t.now each c.requires.1 read.result _ read.ensures in
    record {
      whole = omega (arith, c.requires.1.whole);
      states_le_room_for_states = (c.fill_states-states.ensures.few, pieces, phrases);
    }

pub returns : goal.returns
returns c =
    let read = c.survey-surveyed in
    let states = c.fill_states-states in
    let a = c.args in
    c.put_header.ensures
    ∙ passes_are a.book.now a.t.now read.result _ read.ensures states.result _ states.ensures _ c.fill_rows.ensures
    c.mark_of.result c.mark_of.ensures
