use Rattle.std.proofs.Common.{◌≡◌, ◌≤◌, drop}
use Rattle.dayline.proofs.Digits.{told}
use Rattle.dayline.proofs.numbers.read_digits.Given as goal

abbrev pub invariant-loop-b : goal.invariant-loop-b
invariant-loop-b l = (l.n ≤ 100000000) × (told l.n (drop l.b-index l.bytes) ≡ told 0 l.bytes)
