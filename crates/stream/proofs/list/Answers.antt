use Rattle.std.proofs.Common.{length, rules}
use Rattle.pipes.proofs.BookWithin.{sized_within}
use Rattle.stream.proofs.list.Goals as goal

pub list_came-requires : goal.list_came-requires
list_came-requires g c =
    let came = c.sized_book-came in
    sized_within came.ensures.0 came.result (length came.new.book) (search rules) came.ensures.1.1
