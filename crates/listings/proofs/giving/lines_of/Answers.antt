use Rattle.std.proofs.Common.{ℕ, get_or, sym}
use Rattle.std.proofs.lemmas.List.{get_or_default}
use Rattle.listings.specs.Lines.{IsGrantLine}
use Rattle.report_desk.proofs.Zipped.{zip_more}
use Rattle.listings.proofs.giving.lines_of.Goals as goal

pub line_of-requires-clause-there : goal.line_of-requires-clause-there
line_of-requires-clause-there c =
    let numbers = c.args.numbers.now in
    let number : ℕ = get_or numbers c.loop-number.number-index 0 in
    c.requires.there number (c.loop-number.number-index, c.loop-number-test.true, sym (get_or_default numbers c.loop-number.number-index 0 number c.loop-number-test.true))

pub loop-number-preserved : goal.loop-number-preserved
loop-number-preserved c =
    let numbers = c.args.numbers.now in
    let number : ℕ = get_or numbers c.loop-number.number-index 0 in
    zip_more (λ (n : ℕ). IsGrantLine c.args.tables.now (record { 0 = n })) numbers c.loop-number.lines.items c.push.new.self.items c.loop-number.number-index
    number c.in_ok-line_of.field-0 c.loop-number-test.true (get_or_default numbers c.loop-number.number-index 0 number c.loop-number-test.true) c.loop-number.invariant c.in_ok-line_of.ensures c.in_ok-push.ensures.items
