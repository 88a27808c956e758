use Rattle.std.proofs.Common.{sym, ◌∙◌, arith}
use Rattle.dayline.proofs.Digits.{no_digit, one_digit, last_digit, no_more}
use Rattle.dayline.proofs.numbers.read_digits.Goals as goal

pub returns-then-digit-lt48 : goal.returns-then-digit-lt48
returns-then-digit-lt48 c =
    record { value = sym (no_digit _ _ _ c.loop-b-test.true c.then-digit-lt48.either) ∙ c.loop-b.invariant.1; bound = tt }

pub returns-then-n-gt-MOST : goal.returns-then-n-gt-MOST
returns-then-n-gt-MOST c =
    record {
      value = sym (last_digit _ _ _ c.loop-b-test.true c.from.result c.if-digit-lt48.false (omega arith) c.from.ensures c.if-n-gt-MOST.true) ∙ c.loop-b.invariant.1;
      bound = tt;
    }

pub loop-b-preserved : goal.loop-b-preserved
loop-b-preserved c = (
  c.if-n-gt-MOST.false,
  sym (one_digit _ _ _ c.loop-b-test.true c.from.result c.if-digit-lt48.false (omega arith) c.from.ensures) ∙ c.loop-b.invariant.1,
)

pub returns : goal.returns
returns c = record { value = sym (no_more _ _ _ c.loop-b-test.false c.loop-b.invariant.0) ∙ c.loop-b.invariant.1; bound = c.loop-b.invariant.0 }
