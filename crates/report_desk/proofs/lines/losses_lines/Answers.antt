use Rattle.std.proofs.Common.{sym}
use Rattle.report_desk.specs.Lines.{IsLossLine}
use Rattle.report_desk.proofs.Zipped.{zip_more}
use Rattle.report_desk.proofs.lines.losses_lines.Goals as goal

pub line_of-requires-clause-there : goal.line_of-requires-clause-there
line_of-requires-clause-there c = c.requires.there c.loss-item.result (c.loop-loss.loss-index, c.loop-loss-test.true, sym c.loss-item.is)

pub loop-loss-preserved : goal.loop-loss-preserved
loop-loss-preserved c =
    zip_more (IsLossLine c.args.tables.now) c.args.losses.now c.loop-loss.lines.items c.push.new.self.items c.loop-loss.loss-index c.loss-item.result c.in_ok-line_of.field-0
    c.loop-loss-test.true c.loss-item.is c.loop-loss.invariant c.in_ok-line_of.ensures c.in_ok-push.ensures.items
