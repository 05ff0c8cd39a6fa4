-- The names of the code and of the format go over into each other, both ways: looked at one by one. Assumes nothing.
use mathlib.Core.Path.{◌≡◌, refl}
use Rattle.format.specs.Refusals as format
use Rattle.format.specs.Refusals.{cut, kind, field, crossed, order, many, total, full}
use Rattle.records.specs.declared.refusals.Refusal.{Refusal}
use Rattle.records.specs.declared.refusals.Refusal.TheVariants.{Cut, Kind, Field, Crossed, Order, Many, Total, Full}
use Rattle.records.specs.Refusals.{reason_of, refusal_for}

-- A refusal of the code is named as its reason is.
pub reason_back : (why : Refusal) → refusal_for (reason_of why) ≡ why
unfolding reason_of refusal_for
reason_back Cut = refl
reason_back Kind = refl
reason_back Field = refl
reason_back Crossed = refl
reason_back Order = refl
reason_back Many = refl
reason_back Total = refl
reason_back Full = refl

-- A reason is that of its name in the code.
pub refusal_said : (why : format.Refusal) → reason_of (refusal_for why) ≡ why
unfolding reason_of refusal_for
refusal_said cut = refl
refusal_said kind = refl
refusal_said field = refl
refusal_said crossed = refl
refusal_said order = refl
refusal_said many = refl
refusal_said total = refl
refusal_said full = refl
