-- The classes are noted, counted and turned into columns, as the definition says.
-- Assumes nothing.
use Rattle.columns.proofs.Turns.{columned_are}
use Rattle.columns.proofs.fill.Goals as goal

pub returns : goal.returns
returns c =
    let a = c.args in
    let noted = c.put_classes-classes in
    let rows = c.most_rows-dense in
    record {
      value =
          columned_are a.t.now a.states noted.result rows.result _ _ _ noted.ensures.value.0 noted.ensures.value.1
          rows.ensures.value c.put2.ensures c.put_columns.ensures;
      upper_bound = rows.ensures.upper_bound;
    }
