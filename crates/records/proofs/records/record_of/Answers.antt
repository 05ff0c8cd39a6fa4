-- A record's kind says which record it is; each field stands where the body does. Assumes nothing.
use mathlib.Core.Path.{refl, ap, ◌∙◌}
use native.Mathlib.Omega.{arith}
use Rattle.records.specs.declared.records.Found.{Found}
use Rattle.records.specs.Kinds.{byte_of}
use Rattle.records.specs.Records.{whole_at}
use Rattle.records.proofs.Fields.{header_whole, phrase_whole, bounded_whole, open_whole, end_whole}
use Rattle.records.proofs.records.record_of.Goals as goal

pub returns-in-Header : goal.returns-in-Header
unfolding whole_at
returns-in-Header c =
    let a = c.args in
    ap (λ (found : Found). found.says) (header_whole a.book.now a.at (byte_of a.kind) refl (ap byte_of c.in-Header.is))

pub returns-in-Phrase : goal.returns-in-Phrase
unfolding whole_at
returns-in-Phrase c =
    let a = c.args in
    ap (λ (found : Found). found.says)
    (phrase_whole a.book.now a.at (byte_of a.kind) refl (ap byte_of c.in-Phrase.is) (c.of.ensures ∙ c.get2_high.ensures) _ (omega arith))

pub returns-in-Bounded : goal.returns-in-Bounded
unfolding whole_at
returns-in-Bounded c =
    let a = c.args in
    rw (c.get2_high-in-Bounded.ensures, c.get2_high-in-Bounded-2.ensures)
    (ap (λ (found : Found). found.says) (bounded_whole a.book.now a.at (byte_of a.kind) refl (ap byte_of c.in-Bounded.is) _ (omega arith)))

pub returns-in-Open : goal.returns-in-Open
unfolding whole_at
returns-in-Open c =
    let a = c.args in
    rw c.get2_high-in-Open.ensures (ap (λ (found : Found). found.says) (open_whole a.book.now a.at (byte_of a.kind) refl (ap byte_of c.in-Open.is)))

pub returns-in-End : goal.returns-in-End
unfolding whole_at
returns-in-End c =
    let a = c.args in
    rw c.get2_high-in-End.ensures (ap (λ (found : Found). found.says) (end_whole a.book.now a.at (byte_of a.kind) refl (ap byte_of c.in-End.is)))
