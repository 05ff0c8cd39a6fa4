-- After n turns the byte has been written n times. The measure is how many turns are left.
-- Assumes nothing.
use mathlib.Core.Path.{◌≡◌, refl}
use native.Mathlib.Omega.{arith}
use borrow.Author.Rules.{rules}
use Rattle.sheet.specs.Sheets.{with_many}
use Rattle.sheet.proofs.Laws.{many_more}
use Rattle.sheet.proofs.many.Goals as goal

pub loop-n-init : goal.loop-n-init
unfolding with_many
loop-n-init c = (omega arith, refl, refl)

pub loop-n-preserved : goal.loop-n-preserved
loop-n-preserved c = (omega arith, many_more _ _ _ _ _ c.loop-n.invariant.1 c.byte-end.ensures, search rules)

pub shape_of-book : goal.shape_of-book
shape_of-book c = c.loop-n.invariant.2

pub returns : goal.returns
returns c =
    let done : c.loop-n.n ≡ c.args.count = omega arith in
    rw (← done) c.loop-n.invariant.1
