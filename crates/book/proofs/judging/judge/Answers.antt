-- While judge reads, what it answers for the rest is what is answered for the whole. Assumes nothing.
use mathlib.Core.Path.{◌≡◌, refl, ap, ◌∙◌}
use mathlib.Core.List.{List}
use Prim.Native.Nat.{ℕ}
use Rattle.std.proofs.Common.{rules, Result, Ok, Err}
use Rattle.records.specs.declared.reader.Reader.{Reader}
use Rattle.records.specs.declared.records.Found.{Found}
use Rattle.records.specs.declared.refusals.Refused.{Refused}
use Rattle.records.specs.Records.{read_at, ReadRight}
use native.Mathlib.Omega.{arith}
use Rattle.records.proofs.Bytes.{all_bytes}
use Rattle.records.proofs.Shared.{read_inside}
use Rattle.book.proofs.Reading.{reading_starts, reading_small, stops_right, goes_as, refused_as}
use Rattle.book.proofs.judging.judge.Goals as goal

-- What the reader found is what is found in the book.
found_here : {held book : List ℕ} {at : ℕ} {found : Result Found Refused} → held ≡ book → ReadRight held at found → found ≡ read_at book at
found_here e right = rw e at right.exact

pub loop-reader-init : goal.loop-reader-init
loop-reader-init c = (refl, reading_starts c.args.book.now)

pub turn_at-requires-clause-small : goal.turn_at-requires-clause-small
turn_at-requires-clause-small c = reading_small c.loop-reader.invariant.1

pub turn_at-requires-clause-inside : goal.turn_at-requires-clause-inside
turn_at-requires-clause-inside c = rw (found_here c.loop-reader.invariant.0 c.next-found.ensures.0) (read_inside c.args.book.now c.loop-reader.reader.at)

pub returns-in_err-reached : goal.returns-in_err-reached
returns-in_err-reached c =
    let book = c.args.book.now in
    let found = found_here c.loop-reader.invariant.0 c.next-found.ensures.0 in
    let why = c.in_err-reached.field-0.0.why in
    let turned : c.turn_at.result ≡ Err why = search rules in
    let here : c.in_err-reached.field-0.0.at ≡ c.loop-reader.reader.at = search rules in
    let answered : c.from_residual.result ≡ Err (record { why = why; at = c.loop-reader.reader.at }) = search rules in
    rw answered
    (refused_as book (all_bytes book (λ i. omega (arith, c.type_inv.book i))) c.loop-reader.reader.at c.loop-reader.invariant.1 c.loop-reader-test.true
    found c.turn_at.ensures turned)

pub loop-reader-smaller : goal.loop-reader-smaller
loop-reader-smaller c =
    let book = c.args.book.now in
    let found = found_here c.loop-reader.invariant.0 c.next-found.ensures.0 in
    let turned : c.turn_at.result ≡ Ok c.in_ok-reached.reached = search rules in
    let on = goes_as book (all_bytes book (λ i. omega (arith, c.type_inv.book i))) c.loop-reader.reader.at c.loop-reader.invariant.1 c.loop-reader-test.true
    found c.turn_at.ensures turned refl in
    omega (arith, on.0, on.1.inside, ap (λ (r : Reader). r.at) c.next-found.ensures.1)

pub loop-reader-preserved : goal.loop-reader-preserved
loop-reader-preserved c =
    let book = c.args.book.now in
    let found = found_here c.loop-reader.invariant.0 c.next-found.ensures.0 in
    let turned : c.turn_at.result ≡ Ok c.in_ok-reached.reached = search rules in
    let on = goes_as book (all_bytes book (λ i. omega (arith, c.type_inv.book i))) c.loop-reader.reader.at c.loop-reader.invariant.1 c.loop-reader-test.true
    found c.turn_at.ensures turned (ap (λ (r : Reader). r.at) c.next-found.ensures.1) in
    (ap (λ (r : Reader). r.book.now) c.next-found.ensures.1 ∙ c.loop-reader.invariant.0, on.1)

pub returns : goal.returns
returns c =
    let book = c.args.book.now in
    stops_right book (all_bytes book (λ i. omega (arith, c.type_inv.book i))) c.loop-reader.reader.at c.loop-reader.invariant.1 c.loop-reader-test.false c.stop.ensures
