-- Feed's answer decides, and the reports that it says stand in the room. Assumes nothing.
use native.Mathlib.Omega.{arith}
use Rattle.parts.proofs.Meant.{list_promised}
use Rattle.parts.proofs.Lists.{fed_told, listed_refused, listed_took, list_within}
use Rattle.parts.proofs.list_part.Goals as goal

pub of-requires : goal.of-requires
of-requires c =
    let a = c.args in
    (fed_told a.tables.now a.running.now a.part.now a.room.now _ c.feed.ensures.exact _ c.in-Ok.is).tables

pub put_hits-requires : goal.put_hits-requires
put_hits-requires c =
    let a = c.args in
    let told = fed_told a.tables.now a.running.now a.part.now a.room.now _ c.feed.ensures.exact _ c.in-Ok.is in
    rw c.of.ensures (told.phrases, omega (arith, told.held))

pub returns-in-Ok : goal.returns-in-Ok
returns-in-Ok c =
    let a = c.args in
    let all = listed_took a.tables.now a.running.now a.part.now a.room.now a.out.now _ c.feed.ensures.exact _ c.in-Ok.is _ _ (rw (← c.of.ensures) c.put_hits.ensures) in
    record {
      list_promise = list_promised a.tables.now a.running.now a.part.now a.room.now a.out.now _ all;
      result_in_bounds = list_within a.tables.now a.running.now a.part.now a.room.now a.out.now _ all;
    }

pub returns-in-Err : goal.returns-in-Err
returns-in-Err c =
    let a = c.args in
    let all = listed_refused a.tables.now a.running.now a.part.now a.room.now a.out.now _ c.feed.ensures.exact _ c.in-Err.is _ c.part_refused.ensures in
    record {
      list_promise = list_promised a.tables.now a.running.now a.part.now a.room.now a.out.now _ all;
      result_in_bounds = list_within a.tables.now a.running.now a.part.now a.room.now a.out.now _ all;
    }
