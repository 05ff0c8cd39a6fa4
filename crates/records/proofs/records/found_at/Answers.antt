-- What is found goes by three tests: where the book stops, whether the kind is known, and whether the body is there. Assumes nothing.
use native.Mathlib.Omega.{arith}
use Rattle.records.proofs.Bytes.{all_bytes}
use Rattle.records.proofs.Standing.{read_past, read_unknown, body_cut, body_whole, read_right}
use Rattle.records.proofs.records.found_at.Goals as goal

pub returns-then-book-at : goal.returns-then-book-at
returns-then-book-at c =
    let a = c.args in
    read_right a.book.now a.at (all_bytes a.book.now (λ i. omega (arith, c.type_inv.book i))) (read_past a.book.now a.at c.if-book-at.true)

pub returns-in_default : goal.returns-in_default
returns-in_default c =
    let a = c.args in
    read_right a.book.now a.at (all_bytes a.book.now (λ i. omega (arith, c.type_inv.book i))) (read_unknown a.book.now a.at c.if-book-at.false c.in_default.ensures)

pub returns-then-book-at-2 : goal.returns-then-book-at-2
returns-then-book-at-2 c =
    let a = c.args in
    read_right a.book.now a.at (all_bytes a.book.now (λ i. omega (arith, c.type_inv.book i)))
    (body_cut a.book.now a.at c.if-book-at.false c.in-Some.kind c.in-Some.ensures c.body-body.ensures.0 c.if-book-at-2.true)

pub returns : goal.returns
returns c =
    let a = c.args in
    read_right a.book.now a.at (all_bytes a.book.now (λ i. omega (arith, c.type_inv.book i)))
    (body_whole a.book.now a.at c.if-book-at.false c.in-Some.kind c.in-Some.ensures c.body-body.ensures.0 c.record_of.ensures c.if-book-at-2.false)
