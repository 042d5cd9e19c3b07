use Rattle.std.proofs.Common.{rules, inr}
use Rattle.account_desk.proofs.admins.set_mark.Goals as goal

pub leaves_no_admin-requires-clause-some : goal.leaves_no_admin-requires-clause-some
leaves_no_admin-requires-clause-some c =
    let admin = c.in_ok-caller_admin.ensures in λ none. none _ admin.caller.one.listed (admin.caller.enabled, admin.admin)

pub returns : goal.returns
returns c =
    let admin = c.in_ok-caller_admin.ensures in
    inr (_, admin.caller.one, inr (admin.caller.enabled, inr (admin.admin, inr (_, c.in_ok-account.ensures, inr (search rules, inr (search rules, search rules))))))
