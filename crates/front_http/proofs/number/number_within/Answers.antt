use Rattle.front_http.proofs.Digits.{too_long}
use Rattle.front_http.proofs.number.number_within.Goals as goal

pub returns-then-number-most : goal.returns-then-number-most
returns-then-number-most c =
    too_long c.args.most c.args.digits.now c.loop-digit.number c.loop-digit.digit-index c.requires.digits c.loop-digit-test.true c.if-number-most.true c.loop-digit.invariant.rest
