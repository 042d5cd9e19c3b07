use Rattle.std.proofs.Common.{◌<◌, ◌^◌, arith}
use Rattle.std.specs.Str.Parse.{AllDigits, digits_value}
use Rattle.std.proofs.lemmas.Str.Parse.{IsNumeralModel, digits_value_short, numerals_by_value, parse_gives, tells_digits}
use Rattle.command_line.proofs.number.number_of.Goals as goal

own : IsNumeralModel (AllDigits 10) (digits_value 10)
own = numerals_by_value (AllDigits 10) tells_digits

pub returns-in-Err : goal.returns-in-Err
returns-in-Err c n is =
    let word = c.args.word.now in
    let short : digits_value 10 word < 10 ^ 10 = digits_value_short own word 10 is.numeral.1 is.few in
    let small : digits_value 10 word < 2 ^ 64 = omega (arith, short) in
    let parsed = parse_gives own 64 word c.parse.result c.parse.ensures.value.0 is.numeral.1 is.numeral.0 small in
    cc parsed
