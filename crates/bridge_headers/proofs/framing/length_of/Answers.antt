use Rattle.std.proofs.Common.{◌≡◌, ◌<◌, true, get_or, arith, sym, ap, ◌∙◌, ◌+◌, ◌*◌, ℕ}
use Rattle.std.specs.Char.{is_ascii_digit}
use Rattle.bridge_headers.proofs.FramingLemmas.{bad_value, digits_more, number_more, number_small}
use Rattle.bridge_headers.proofs.framing.length_of.Goals as goal

pub returns-then-not-is_ascii_digit : goal.returns-then-not-is_ascii_digit
returns-then-not-is_ascii_digit c = bad_value c.args.value.now c.loop-byte.byte-index c.loop-byte-test.true (sym c.is_ascii_digit.ensures.value ∙ c.if-not-is_ascii_digit.true)

pub overflow_mul-number : goal.overflow_mul-number
overflow_mul-number c =
    let small : c.loop-byte.number < 1000000000 =
    number_small c.args.value.now c.loop-byte.byte-index c.loop-byte.number (omega arith) (omega arith) c.loop-byte.invariant.number c.loop-byte.invariant.digits in
    omega arith

pub overflow_add-number : goal.overflow_add-number
overflow_add-number c =
    let small : c.loop-byte.number < 1000000000 =
    number_small c.args.value.now c.loop-byte.byte-index c.loop-byte.number (omega arith) (omega arith) c.loop-byte.invariant.number c.loop-byte.invariant.digits in
    let byte = c.type_inv.value c.loop-byte.byte-index in
    omega (arith, c.from.ensures, byte)

pub loop-byte-preserved : goal.loop-byte-preserved
loop-byte-preserved c =
    let digit : is_ascii_digit (get_or c.args.value.now c.loop-byte.byte-index 0) ≡ true = sym c.is_ascii_digit.ensures.value ∙ c.if-not-is_ascii_digit.false in
    record {
      digits = digits_more c.args.value.now c.loop-byte.byte-index c.loop-byte-test.true c.loop-byte.invariant.digits digit;
      number = ap (λ (d : ℕ). c.loop-byte.number * 10 + d) c.from.ensures ∙ number_more c.args.value.now c.loop-byte.byte-index c.loop-byte.number c.loop-byte-test.true c.loop-byte.invariant.number digit;
    }
