-- The line itself, at the start of the buffer. Assumes nothing.
use native.Mathlib.Omega.{arith}
use Rattle.lines.proofs.Texts.{too_long_promised}
use Rattle.lines.specs.Last.{too_long_of}
use Rattle.lines.proofs.Ends.{too_long_inside, ends_inside}
use Rattle.lines.proofs.too_long_line.Goals as goal

pub returns : goal.returns
unfolding too_long_of
returns c =
    let a = c.args in
    let line = c.letter_line.ensures in
    record {
      too_long_promise = too_long_promised a.out.now a.taken.0 (omega arith) _ line;
      upper_bound = ends_inside _ _ _ (too_long_of a.out.now a.taken.0) line (too_long_inside a.out.now a.taken.0);
    }
