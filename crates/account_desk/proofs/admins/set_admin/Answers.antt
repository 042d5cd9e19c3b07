use Rattle.account_desk.proofs.OneRows.{set_admin_one}
use Rattle.account_desk.proofs.FitRows.{set_admin_fits}
use Rattle.account_desk.proofs.admins.set_admin.Goals as goal

pub returns : goal.returns
returns c =
    record { row = c.set_mark.ensures; one = set_admin_one c.args.state.now c.requires c.args.caller.now c.args.num c.args.on; fits = set_admin_fits c.args.state.now c.requires c.args.caller.now c.args.num c.args.on }
