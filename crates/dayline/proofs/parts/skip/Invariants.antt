use Rattle.std.proofs.Common.{◌≡◌, ◌+◌, length, drop}
use Rattle.dayline.specs.Parts.{parts, place_of}
use Rattle.dayline.proofs.parts.skip.Given as goal

abbrev pub invariant-loop-i : goal.invariant-loop-i
invariant-loop-i l = (drop l._i (parts l.at l.text) ≡ parts l.at l.rest) × (place_of l._i (parts l.at l.text) + length l.rest ≡ length l.text)
