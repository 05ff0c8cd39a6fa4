use Rattle.std.proofs.Common.{ℕ, sym, subst}
use Rattle.pipes.specs.Books.{CameWithin}
use Rattle.pipes.proofs.BookWithin.{whole_within}
use Rattle.stream.proofs.list_two.Goals as goal

pub list_came-requires : goal.list_came-requires
list_came-requires g c =
    let came = c.whole_book-came in
    let read = came.ensures in
    subst (λ (n : ℕ). CameWithin came.result n) (sym came.auto.book)
    (whole_within read.0 _ came.result read.1.0 read.1.1)
