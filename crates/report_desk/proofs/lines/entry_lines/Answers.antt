use Rattle.std.proofs.Common.{sym}
use Rattle.report_desk.specs.Lines.{IsEntryLine}
use Rattle.report_desk.proofs.Zipped.{zip_more}
use Rattle.report_desk.proofs.lines.entry_lines.Goals as goal

pub line_of-requires-clause-there : goal.line_of-requires-clause-there
line_of-requires-clause-there c = c.requires.there c.entry-item.result (c.loop-entry.entry-index, c.loop-entry-test.true, sym c.entry-item.is)

pub loop-entry-preserved : goal.loop-entry-preserved
loop-entry-preserved c =
    zip_more (IsEntryLine c.args.tables.now) c.args.entries.now c.loop-entry.lines.items c.push.new.self.items c.loop-entry.entry-index c.entry-item.result c.in_ok-line_of.field-0
    c.loop-entry-test.true c.entry-item.is c.loop-entry.invariant c.in_ok-line_of.ensures c.in_ok-push.ensures.items
