-- The slice from its start on has as many bytes as the stretch counts. Assumes nothing.
use Prim.Native.Nat.{◌+◌, ◌-◌}
use mathlib.Core.Path.{◌≡◌}
use native.Mathlib.Omega.{arith}
use Rattle.meaning.specs.Matching.{bytes_after}
use Rattle.survey.specs.Stretches.{bytes_of}
use Rattle.survey.proofs.stretch.Stretch.bytes.Goals as goal

pub returns : goal.returns
unfolding bytes_of bytes_after
returns c =
    let a = c.args in
    let long : a.self.offset + a.self.count - a.self.offset ≡ a.self.count = omega arith in
    rw (c.from.ensures, c.from-start.ensures, long)
