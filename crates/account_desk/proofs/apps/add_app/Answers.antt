use Rattle.desk_base.proofs.Stopped.{starved}
use Rattle.account_desk.specs.Commands.{AddApp}
use Rattle.account_desk.proofs.OneRows.{add_app_one}
use Rattle.account_desk.proofs.FitRows.{add_app_fits}
use Rattle.account_desk.proofs.apps.add_app.Goals as goal

pub returns-in_err-check_add_app-clause-one : goal.returns-in_err-check_add_app-clause-one
returns-in_err-check_add_app-clause-one c = add_app_one c.args.state.now c.requires.formed c.args.caller.now c.args.manifest.now

pub returns-in_err-check_add_app-clause-fits : goal.returns-in_err-check_add_app-clause-fits
returns-in_err-check_add_app-clause-fits c = add_app_fits c.args.state.now c.requires.formed c.args.caller.now c.args.manifest.now c.requires.sound

pub returns-in_err-clone-clause-row : goal.returns-in_err-clone-clause-row
returns-in_err-clone-clause-row c =
    starved (AddApp c.args.state.now c.args.caller.now c.args.manifest.now) c.from_residual-in_err-clone.result c.from_residual-in_err-clone.ensures.1 (_, c.in_ok-check_add_app.ensures)

pub returns-in_err-clone-clause-one : goal.returns-in_err-clone-clause-one
returns-in_err-clone-clause-one c = add_app_one c.args.state.now c.requires.formed c.args.caller.now c.args.manifest.now

pub returns-in_err-clone-clause-fits : goal.returns-in_err-clone-clause-fits
returns-in_err-clone-clause-fits c = add_app_fits c.args.state.now c.requires.formed c.args.caller.now c.args.manifest.now c.requires.sound

pub returns-clause-one : goal.returns-clause-one
returns-clause-one c = add_app_one c.args.state.now c.requires.formed c.args.caller.now c.args.manifest.now

pub returns-clause-fits : goal.returns-clause-fits
returns-clause-fits c = add_app_fits c.args.state.now c.requires.formed c.args.caller.now c.args.manifest.now c.requires.sound
