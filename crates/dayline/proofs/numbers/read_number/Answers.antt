use Rattle.std.proofs.Common.{◌≡◌, ◌<◌, length, Some, None, sym, ap, ◌∙◌, rules, eqb-true}
use Rattle.dayline.specs.Numbers.{number}
use Rattle.dayline.proofs.ByteNumbers.{after_minus, zero_alone, without_sign, negated, cast, no_bytes}
use Rattle.dayline.proofs.WrittenBack.{reads_written}
use Rattle.dayline.proofs.numbers.read_number.Goals as goal

pub returns-then-is_empty : goal.returns-then-is_empty
returns-then-is_empty c =
    let e = no_bytes c.args.bytes.now (eqb-true _ _ (sym c.if-is_empty.ensures)) in
    record { value = e; written = reads_written c.args.bytes.now None e }

pub returns-in_err-n : goal.returns-in_err-n
returns-in_err-n c =
    let bs = c.args.bytes.now in
    let some : 0 < length bs = search rules in
    let e : c.from_residual.result ≡ number bs = c.from_residual.ensures ∙ after_minus bs None some c.if-bytes-eq45.true c.in_err-n.ensures.value in
    record { value = e; written = reads_written bs _ e }

pub returns-then-bytes-eq45 : goal.returns-then-bytes-eq45
returns-then-bytes-eq45 c =
    let bs = c.args.bytes.now in
    let some : 0 < length bs = search rules in
    let e = ap (λ z. Some z) (negated c.in_ok-n.n c.in_ok-n.ensures.bound) ∙ after_minus bs (Some c.in_ok-n.n) some c.if-bytes-eq45.true c.in_ok-n.ensures.value in
    record { value = e; written = reads_written bs _ e }

pub returns-then-bytes-eq1 : goal.returns-then-bytes-eq1
returns-then-bytes-eq1 c =
    let e = zero_alone c.args.bytes.now c.if-bytes-eq48.true c.if-bytes-eq1.true in
    record { value = e; written = reads_written c.args.bytes.now _ e }

pub returns-in_err-n-2 : goal.returns-in_err-n-2
returns-in_err-n-2 c =
    let bs = c.args.bytes.now in
    let some : 0 < length bs = search rules in
    let e : c.from_residual-in_err-n-2.result ≡ number bs
    = c.from_residual-in_err-n-2.ensures ∙ without_sign bs None some c.if-bytes-eq45.false c.else-bytes-eq48.either c.in_err-n-2.ensures.value in
    record { value = e; written = reads_written bs _ e }

pub returns : goal.returns
returns c =
    let bs = c.args.bytes.now in
    let some : 0 < length bs = search rules in
    let e = ap (λ z. Some z) (cast c.in_ok-n-2.n c.in_ok-n-2.ensures.bound) ∙ without_sign bs (Some c.in_ok-n-2.n) some c.if-bytes-eq45.false c.else-bytes-eq48.either c.in_ok-n-2.ensures.value in
    record { value = e; written = reads_written bs _ e }
