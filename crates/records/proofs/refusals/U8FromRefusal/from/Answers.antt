-- Each reason has its number of document 01.
-- Assumes nothing.
use mathlib.Core.Path.{◌≡◌, refl}
use Prim.Native.Nat.{◌+◌}
use denote.Enum.Declared.{tag_of}
use Rattle.format.specs.Refusals.{refusal_number}
use Rattle.records.specs.Refusals.{reason_of}
use Rattle.records.specs.declared.refusals.Refusal.{Refusal}
use Rattle.records.specs.declared.refusals.Refusal.TheVariants.{Cut, Kind, Field, Crossed, Order, Many, Total, Full}
use Rattle.records.specs.contracts.refusals.Refusal.{the_type}
use Rattle.records.proofs.refusals.U8FromRefusal.from.Goals as goal

numbered : (why : Refusal) → tag_of the_type why + 2 ≡ refusal_number (reason_of why)
unfolding refusal_number reason_of
numbered Cut = refl
numbered Kind = refl
numbered Field = refl
numbered Crossed = refl
numbered Order = refl
numbered Many = refl
numbered Total = refl
numbered Full = refl

pub returns : goal.returns
returns c = numbered c.args.why
