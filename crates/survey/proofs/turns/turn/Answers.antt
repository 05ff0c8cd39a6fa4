-- Each kind of record leaves what is said of it. Assumes nothing.
use native.Mathlib.Omega.{arith}
use Rattle.survey.specs.Turns.{noted, Reading, reading}
use Rattle.survey.proofs.Onward.{turned, Passed, passed_turn, refused_turn, lies_told, short_told}
use Rattle.survey.proofs.turns.turn.Goals as goal

pub overflow_cast-word : goal.overflow_cast-word
overflow_cast-word c =
    let a = c.args in
    let now : Reading = reading a.progress (noted a.t.now a.words.now) in
    let inside = lies_told a.book.now now c.in-Ok.ensures.exact c.in-Keyword.is in
    omega (arith, inside)

pub overflow_cast-word-in-Keyword : goal.overflow_cast-word-in-Keyword
overflow_cast-word-in-Keyword c =
    let a = c.args in
    let now : Reading = reading a.progress (noted a.t.now a.words.now) in
    omega (arith, short_told a.book.now now c.in-Ok.ensures.exact c.in-Keyword.is)

pub returns-in-Phrase : goal.returns-in-Phrase
returns-in-Phrase c =
    let a = c.args in
    let now : Reading = reading a.progress (noted a.t.now a.words.now) in
    turned a.book.now now c.in-Ok.ensures.exact c.in-Phrase.is (c.phrase.ensures a.words.now)

pub returns-in-Bounded : goal.returns-in-Bounded
returns-in-Bounded c =
    let a = c.args in
    let now : Reading = reading a.progress (noted a.t.now a.words.now) in
    turned a.book.now now c.in-Ok.ensures.exact c.in-Bounded.is (rw (c.gapped.ensures, c.span_of.ensures))

pub returns-in-Open : goal.returns-in-Open
returns-in-Open c =
    let a = c.args in
    let now : Reading = reading a.progress (noted a.t.now a.words.now) in
    turned a.book.now now c.in-Ok.ensures.exact c.in-Open.is (rw c.gapped-in-Open.ensures)

pub returns-in-Keyword : goal.returns-in-Keyword
returns-in-Keyword c =
    let a = c.args in
    let now : Reading = reading a.progress (noted a.t.now a.words.now) in
    turned a.book.now now c.in-Ok.ensures.exact c.in-Keyword.is c.keyword.ensures

pub returns-in_default-says : goal.returns-in_default-says
returns-in_default-says c =
    let a = c.args in
    let no = c.in_default-says in
    let passed : Passed c.in-Ok.found.says = record { no_phrase = no.not-Phrase; no_bounded = no.not-Bounded; no_open = no.not-Open; no_keyword = no.not-Keyword } in
    passed_turn a.book.now (reading a.progress (noted a.t.now a.words.now)) c.in-Ok.ensures.exact passed c.moved-in_default-says.ensures

pub returns-in_default : goal.returns-in_default
returns-in_default c =
    let a = c.args in
    refused_turn a.book.now (reading a.progress (noted a.t.now a.words.now)) c.in_default.ensures.exact c.moved.ensures
