-- The loop keeps: the most that is shared is the larger of what was shared so far and what the records ahead share. Assumes nothing.
use mathlib.Core.Path.{refl, sym, subst}
use native.Mathlib.Omega.{arith}
use Rattle.meaning.specs.Matching.{bytes_after}
use Rattle.format.specs.Prefixes.{most_shared}
use Rattle.records.specs.Prefixes.{Inside, keyword_in}
use Rattle.records.proofs.Common.{lent_bytes}
use Rattle.records.proofs.Shared.{Sharing, read_inside, goes_ahead, sharing_start, sharing_more, sharing_done, shared_within}
use Rattle.records.proofs.prefixes.most_shared.Goals as goal

pub loop-at-init : goal.loop-at-init
loop-at-init c = let a = c.args in sharing_start a.book.now a.end (bytes_after a.start a.count a.book.now) (omega arith)

pub returns-in_default : goal.returns-in_default
unfolding keyword_in most_shared
returns-in_default c =
    let a = c.args in
    let w = bytes_after a.start a.count a.book.now in
    let done : Sharing a.book.now a.end w a.end c.loop-at.most
    = sharing_more a.book.now a.end w c.loop-at.at c.loop-at.most c.loop-at.invariant c.loop-at-test.true c.in_default.ensures.exact {shared = 0} refl refl (omega arith) in
    let is = sharing_done a.book.now a.end w a.end c.loop-at.most done (omega arith) in
    (is, rw is (shared_within a.book.now a.end a.start a.count))

pub shared_with-requires : goal.shared_with-requires
shared_with-requires c =
    let a = c.args in
    record { inside = subst (Inside a.book.now) (sym c.in-Ok.ensures.exact) (read_inside a.book.now c.loop-at.at) }

pub loop-at-smaller : goal.loop-at-smaller
loop-at-smaller c =
    let a = c.args in
    omega (arith, c.loop-at-test.true, goes_ahead a.book.now c.loop-at.at a.end c.in-Ok.ensures.exact refl c.loop-at-test.true)

pub loop-at-preserved : goal.loop-at-preserved
unfolding keyword_in
loop-at-preserved c =
    let a = c.args in
    sharing_more a.book.now a.end (bytes_after a.start a.count a.book.now) c.loop-at.at c.loop-at.most c.loop-at.invariant c.loop-at-test.true
    c.in-Ok.ensures.exact (rw (← lent_bytes a.book.now a.start a.count) c.shared_with.ensures) refl c.max-most.ensures

pub returns : goal.returns
returns c =
    let a = c.args in
    let is = sharing_done a.book.now a.end (bytes_after a.start a.count a.book.now) c.loop-at.at c.loop-at.most c.loop-at.invariant c.loop-at-test.false in
    (is, rw is (shared_within a.book.now a.end a.start a.count))
