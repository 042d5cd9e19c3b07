use Rattle.account_desk.proofs.OneRows.{set_enabled_one}
use Rattle.account_desk.proofs.FitRows.{set_enabled_fits}
use Rattle.account_desk.proofs.admins.set_enabled.Goals as goal

pub returns : goal.returns
returns c =
    record { row = c.set_mark.ensures; one = set_enabled_one c.args.state.now c.requires c.args.caller.now c.args.num c.args.on; fits = set_enabled_fits c.args.state.now c.requires c.args.caller.now c.args.num c.args.on }
