-- The refusal that a fault of a line comes to.
use Rattle.dayline.specs.declared.fields.FieldFault.TheVariants as field
use Rattle.model.specs.declared.refusals.Refusal.{Refusal}
use Rattle.model.specs.declared.refusals.Refusal.TheVariants as refusal
use Rattle.daytables.specs.declared.faults.LineFault.{LineFault}
use Rattle.daytables.specs.declared.faults.LineFault.TheVariants.{NotDue, BadCount, Field}

abbrev pub refusal_of : LineFault → Refusal
refusal_of NotDue = refusal.LineNotDue
refusal_of BadCount = refusal.BadFieldCount
refusal_of (Field field.BadNumber) = refusal.BadNumber
refusal_of (Field field.UnknownLabel) = refusal.UnknownLabel
