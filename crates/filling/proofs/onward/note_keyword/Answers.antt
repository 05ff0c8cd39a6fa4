-- `note_keyword` meets its contract: a keyword that goes on is longer than the state, so it has the byte by which it goes on.
-- Assumes nothing.
use mathlib.Core.Path.{◌≡◌, sym, ap, ◌∙◌}
use Prim.Native.Nat.{ℕ, ◌+◌}
use native.Mathlib.Omega.{arith}
use lib.ListN.{get_or, set}
use Rattle.std.specs.Prelude.{Some}
use Rattle.survey.specs.Stretches.{bytes_of}
use Rattle.filling.proofs.Noting.{goes_on_longer, noted, noted_not}
use Rattle.filling.proofs.Stretches.{length_after, after_byte}
use Rattle.filling.proofs.onward.note_keyword.Goals as goal

pub bounds-bytes-from : goal.bounds-bytes-from
unfolding bytes_of
bounds-bytes-from c =
    let a = c.args in
    let longer = goes_on_longer a.book.now a.state a.keyword (sym c.goes_on.ensures ∙ c.if-goes_on.true) in
    rw c.bytes.ensures (omega (arith, longer, c.from.ensures, length_after a.book.now a.keyword.offset a.keyword.count c.requires.keyword_inside))

pub returns-then-goes_on : goal.returns-then-goes_on
unfolding bytes_of
returns-then-goes_on c =
    let a = c.args in
    let on = sym c.goes_on.ensures ∙ c.if-goes_on.true in
    let byte : get_or c.bytes.result.now c.from.result 0 ≡ get_or a.book.now (a.keyword.offset + a.state.count) 0
    = rw (c.bytes.ensures, c.from.ensures) (after_byte a.book.now a.keyword.offset a.keyword.count a.state.count (goes_on_longer a.book.now a.state a.keyword on)) in
    sym (noted a.book.now a.state a.keyword a.q a.onward.now on ∙ ap (λ (i : ℕ). set a.onward.now i (Some a.q)) (sym (c.from-then-goes_on.ensures ∙ byte)))

pub returns-else-goes_on : goal.returns-else-goes_on
returns-else-goes_on c =
    let a = c.args in
    sym (noted_not a.book.now a.state a.keyword a.q a.onward.now (sym c.goes_on.ensures ∙ c.if-goes_on.false))
