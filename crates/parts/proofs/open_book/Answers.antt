-- Build's answer decides: a refusal is written as the line of a refused book, and else the letter begins. Assumes nothing.
use mathlib.Core.Path.{refl, ◌∙◌}
use Prim.Native.Nat.{ℕ, ◌<◌}
use native.Mathlib.Omega.{arith}
use lib.ListN.{get_or}
use borrow.Author.Rules.{rules}
use Rattle.parts.proofs.Opens.{open_refused, open_taken, open_inside}
use Rattle.parts.proofs.Readied.{open_promised}
use Rattle.parts.proofs.open_book.Goals as goal

pub returns-in-Err : goal.returns-in-Err
returns-in-Err c =
    let a = c.args in
    let number = c.from-number.ensures ∙ c.number.ensures in
    let offset = c.offset-offset.ensures in
    let built = c.in-Err.ensures in
    let all = open_refused a.book.now a.tables.now a.running.now a.out.now _ _ built.exact _ _ number offset _ _ c.refused_line-end.ensures in
    let held : (i : ℕ) → get_or a.running.now i 0 < 256 = λ i. search rules in
    record {
      open_promise = open_promised a.book.now a.tables.now a.running.now a.out.now held (omega arith) _ _ built (λ i. search rules) _ all;
      result_in_bounds = open_inside a.book.now a.tables.now a.running.now a.out.now _ all;
    }

pub returns-in-Ok : goal.returns-in-Ok
returns-in-Ok c =
    let a = c.args in
    let built = c.in-Ok.ensures in
    let all = open_taken a.book.now a.tables.now a.running.now a.out.now _ _ built.exact _ refl _ c.begin_letter.ensures in
    let held : (i : ℕ) → get_or a.running.now i 0 < 256 = λ i. search rules in
    record {
      open_promise = open_promised a.book.now a.tables.now a.running.now a.out.now held (omega arith) _ _ built (λ i. search rules) _ all;
      result_in_bounds = open_inside a.book.now a.tables.now a.running.now a.out.now _ all;
    }
