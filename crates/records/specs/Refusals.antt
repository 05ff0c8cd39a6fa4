-- The refusals of the code and of the format are the same, name by name. Assumes nothing: these are definitions.
use Rattle.format.specs.Refusals as format
use Rattle.format.specs.Refusals.{cut, kind, field, crossed, order, many, total, full}
use Rattle.records.specs.declared.refusals.Refusal.{Refusal}
use Rattle.records.specs.declared.refusals.Refusal.TheVariants.{Cut, Kind, Field, Crossed, Order, Many, Total, Full}

-- What a refusal of the code says.
unfoldable pub reason_of : Refusal → format.Refusal
reason_of Cut = cut
reason_of Kind = kind
reason_of Field = field
reason_of Crossed = crossed
reason_of Order = order
reason_of Many = many
reason_of Total = total
reason_of Full = full

-- How the code says a reason.
unfoldable pub refusal_for : format.Refusal → Refusal
refusal_for cut = Cut
refusal_for kind = Kind
refusal_for field = Field
refusal_for crossed = Crossed
refusal_for order = Order
refusal_for many = Many
refusal_for total = Total
refusal_for full = Full
