use Rattle.account_desk.proofs.OneRows.{upgrade_app_one}
use Rattle.account_desk.proofs.FitRows.{upgrade_app_fits}
use Rattle.account_desk.proofs.upgrades.upgrade_app.Goals as goal

pub returns-clause-one : goal.returns-clause-one
returns-clause-one c = upgrade_app_one c.args.state.now c.requires.formed c.args.caller.now c.args.num c.args.manifest.now

pub returns-clause-fits : goal.returns-clause-fits
returns-clause-fits c = upgrade_app_fits c.args.state.now c.requires.formed c.args.caller.now c.args.num c.args.manifest.now c.requires.sound
