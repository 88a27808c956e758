-- The number under which people know each refusal.
use Rattle.std.specs.Prelude.{ℕ, Some, None, Option}
use Rattle.model.specs.declared.refusals.Refusal.{Refusal}
use Rattle.model.specs.declared.refusals.Refusal.TheVariants.{BadHorizon, UsesStand, BadSettings, BadLabel, LabelTaken, PointsFull, NoPlace, BadSlipNumber, NoPoint, SamePoint, BadUse, BadDistance, NumberStands, SlipsFull, UsesFull, NotStanding, NotTightened, NoPlan, BadMinute, FileMissing, FileTooLong, FileUnended, LineNotDue, BadFieldCount, BadNumber, UnknownLabel, BufferShort, OutOfMemory}

abbrev pub number_of : Refusal → Option ℕ
number_of BadHorizon = Some 1
number_of UsesStand = Some 1
number_of BadSettings = Some 2
number_of BadLabel = Some 3
number_of LabelTaken = Some 4
number_of PointsFull = Some 5
number_of NoPlace = Some 6
number_of BadSlipNumber = Some 7
number_of NoPoint = Some 8
number_of SamePoint = Some 9
number_of BadUse = Some 9
number_of BadDistance = Some 10
number_of NumberStands = Some 11
number_of SlipsFull = Some 12
number_of (UsesFull most) = Some 12
number_of NotStanding = Some 13
number_of NotTightened = Some 14
number_of NoPlan = Some 15
number_of BadMinute = Some 16
number_of FileMissing = Some 17
number_of FileTooLong = Some 17
number_of FileUnended = Some 17
number_of LineNotDue = Some 18
number_of BadFieldCount = Some 19
number_of BadNumber = Some 20
number_of UnknownLabel = Some 21
number_of BufferShort = Some 22
number_of OutOfMemory = None
