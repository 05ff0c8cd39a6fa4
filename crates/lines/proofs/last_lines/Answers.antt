-- The end line, and one line more where there were no hits. Assumes nothing.
use native.Mathlib.Omega.{arith}
use Rattle.lines.specs.Last.{last_of}
use Rattle.lines.proofs.Ends.{last_inside, ends_inside}
use Rattle.lines.proofs.Texts.{last_promised}
use Rattle.lines.proofs.Last.{last_without, last_with}
use mathlib.Core.Path.{sym, ◌∙◌}
use Rattle.lines.proofs.last_lines.Goals as goal

pub returns-then-without_hits : goal.returns-then-without_hits
returns-then-without_hits c =
    let a = c.args in
    let all = last_without a.out.now a.taken.0 a.hits a.steps _ _ c.end_line-end.ensures (sym c.without_hits.ensures ∙ c.if-without_hits.true) _ _ c.no_statement.ensures in
    record {
      last_promise = last_promised a.out.now a.taken.0 a.hits a.steps (omega arith) (omega arith) (omega arith) _ all;
      upper_bound = ends_inside _ _ _ (last_of a.out.now a.taken.0 a.hits a.steps) all (last_inside a.out.now a.taken.0 a.hits a.steps);
    }

pub returns : goal.returns
returns c =
    let a = c.args in
    let all = last_with a.out.now a.taken.0 a.hits a.steps _ _ c.end_line-end.ensures (sym c.without_hits.ensures ∙ c.if-without_hits.false) in
    record {
      last_promise = last_promised a.out.now a.taken.0 a.hits a.steps (omega arith) (omega arith) (omega arith) _ all;
      upper_bound = ends_inside _ _ _ (last_of a.out.now a.taken.0 a.hits a.steps) all (last_inside a.out.now a.taken.0 a.hits a.steps);
    }
