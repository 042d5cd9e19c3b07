use Rattle.listings.specs.Lines.{IsAccountLine}
use Rattle.report_desk.proofs.Zipped.{zip_more}
use Rattle.listings.proofs.of_accounts.lines_of.Goals as goal

pub loop-account-preserved : goal.loop-account-preserved
loop-account-preserved c =
    zip_more IsAccountLine c.args.accounts.now c.loop-account.lines.items c.push.new.self.items c.loop-account.account-index c.account-item.result c.in_ok-line_of.field-0
    c.loop-account-test.true c.account-item.is c.loop-account.invariant c.in_ok-line_of.ensures c.in_ok-push.ensures.items
