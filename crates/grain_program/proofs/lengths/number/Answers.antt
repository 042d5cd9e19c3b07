use Rattle.std.proofs.Common.{◌≡◌, true}
use Rattle.std.specs.List.{list_all}
use Rattle.std.specs.Char.{is_ascii_digit}
use Rattle.std.specs.Str.Parse.{ParsesUnsigned}
use Rattle.grain_program.proofs.Numbers.{number_some, number_none, digits_utf8}
use Rattle.grain_program.proofs.lengths.number.Goals as goal

pub returns-in-Ok-parse-clause-some : goal.returns-in-Ok-parse-clause-some
returns-in-Ok-parse-clause-some c =
    let digits : list_all is_ascii_digit c.args.digits.now ≡ true = cc in
    let parses : ParsesUnsigned 64 10 c.args.digits.now c.parse.result = rw c.in-Ok.ensures.cases.0 at c.parse.ensures.value.0 in
    number_some c.args.digits.now c.in-Ok-parse.number c.parse.result digits parses c.in-Ok-parse.is

pub returns-in-Err-parse-clause-none : goal.returns-in-Err-parse-clause-none
returns-in-Err-parse-clause-none c =
    let digits : list_all is_ascii_digit c.args.digits.now ≡ true = cc in
    let parses : ParsesUnsigned 64 10 c.args.digits.now c.parse.result = rw c.in-Ok.ensures.cases.0 at c.parse.ensures.value.0 in
    number_none c.args.digits.now c.in-Err-parse.field-0 c.parse.result digits parses c.in-Err-parse.is

pub returns-in-Err-clause-none : goal.returns-in-Err-clause-none
returns-in-Err-clause-none c =
    let digits : list_all is_ascii_digit c.args.digits.now ≡ true = cc in
    absurd (c.in-Err.ensures.cases.0 (digits_utf8 c.args.digits.now digits))
