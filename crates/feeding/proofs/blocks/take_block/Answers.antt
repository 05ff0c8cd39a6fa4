-- The states were looked up, so that the quarters can be taken.
-- Assumes nothing.
use native.Mathlib.Omega.{arith}
use Rattle.feeding.proofs.blocks.take_block.Goals as goal

pub look_ahead-requires : goal.look_ahead-requires
look_ahead-requires c =
    let pre = c.requires in
    let on = pre.blocks.on in
    record {
      few_states = on.ready.states;
      some_dense = on.ready.some_dense;
      few_dense = on.ready.few_dense;
      columns = pre.blocks.fit;
      inside = on.ready.inside;
      least = pre.fits.long pre.some;
      most = pre.fits.short;
      within = omega (arith, pre.fits.within, on.kept.within);
      short = on.short;
      room = omega (arith, pre.fits.short);
    }

pub take_quarters-requires : goal.take_quarters-requires
take_quarters-requires c =
    let pre = c.requires in
    let on = pre.blocks.on in
    let looked = c.look_ahead in
    record {
      on = on;
      within = omega (arith, pre.fits.within, on.kept.within);
      looked = looked.ensures.0;
      room_for = omega (arith, pre.fits.short, looked.auto);
    }
