-- Both cases are those of the definition. Assumes nothing.
use mathlib.Core.Path.{sym}
use Rattle.listing.proofs.Filling.{next_after_mark, next_after_byte}
use Rattle.listing.proofs.forms.next_number.Goals as goal

pub returns-then-byte-eq-MARK : goal.returns-then-byte-eq-MARK
returns-then-byte-eq-MARK c = let a = c.args in sym (next_after_mark a.byte a.k c.if-byte-eq-MARK.true)

pub returns : goal.returns
returns c = let a = c.args in sym (next_after_byte a.byte a.k c.if-byte-eq-MARK.false)
