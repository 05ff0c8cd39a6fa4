-- The three stores are those of the definition.
-- Assumes nothing.
use Rattle.running.specs.Layout.{running_tag}
use Rattle.scanner.proofs.Cases.{begun_stored}
use Rattle.scanner.proofs.write_begun.Goals as goal

pub returns : goal.returns
unfolding running_tag
returns c =
    let a = c.args in
    begun_stored a.t.now a.m.now _ _ _ _ c.begin_windows.ensures
    c.mark.ensures c.put8.ensures c.put8-2.ensures
