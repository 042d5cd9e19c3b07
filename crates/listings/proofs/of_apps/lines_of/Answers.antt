use Rattle.listings.specs.Lines.{IsAppLine}
use Rattle.report_desk.proofs.Zipped.{zip_more}
use Rattle.listings.proofs.of_apps.lines_of.Goals as goal

pub loop-app-preserved : goal.loop-app-preserved
loop-app-preserved c =
    zip_more IsAppLine c.args.apps.now c.loop-app.lines.items c.push.new.self.items c.loop-app.app-index c.app-item.result c.in_ok-line_of.field-0
    c.loop-app-test.true c.app-item.is c.loop-app.invariant c.in_ok-line_of.ensures c.in_ok-push.ensures.items
