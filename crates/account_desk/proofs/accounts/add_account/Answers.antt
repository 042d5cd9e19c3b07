use Rattle.desk_base.proofs.Stopped.{starved}
use Rattle.account_desk.specs.Commands.{AddAccount}
use Rattle.account_desk.proofs.OneRows.{add_account_one}
use Rattle.account_desk.proofs.FitRows.{add_account_fits}
use Rattle.account_desk.proofs.accounts.add_account.Goals as goal

pub returns-in_err-check_add_account-clause-one : goal.returns-in_err-check_add_account-clause-one
returns-in_err-check_add_account-clause-one c = add_account_one c.args.state.now c.requires.formed c.args.caller.now c.args.handle.now c.args.name.now

pub returns-in_err-check_add_account-clause-fits : goal.returns-in_err-check_add_account-clause-fits
returns-in_err-check_add_account-clause-fits c = add_account_fits c.args.state.now c.requires.formed c.args.caller.now c.args.handle.now c.args.name.now c.requires.handle

pub returns-in_err-clone-clause-row : goal.returns-in_err-clone-clause-row
returns-in_err-clone-clause-row c =
    starved (AddAccount c.args.state.now c.args.caller.now c.args.handle.now c.args.name.now) c.from_residual-in_err-clone.result c.from_residual-in_err-clone.ensures.1 (_, c.in_ok-check_add_account.ensures)

pub returns-in_err-clone-clause-one : goal.returns-in_err-clone-clause-one
returns-in_err-clone-clause-one c = add_account_one c.args.state.now c.requires.formed c.args.caller.now c.args.handle.now c.args.name.now

pub returns-in_err-clone-clause-fits : goal.returns-in_err-clone-clause-fits
returns-in_err-clone-clause-fits c = add_account_fits c.args.state.now c.requires.formed c.args.caller.now c.args.handle.now c.args.name.now c.requires.handle

pub returns-in_err-clone-2-clause-row : goal.returns-in_err-clone-2-clause-row
returns-in_err-clone-2-clause-row c =
    starved (AddAccount c.args.state.now c.args.caller.now c.args.handle.now c.args.name.now) c.from_residual-in_err-clone-2.result c.from_residual-in_err-clone-2.ensures.1 (_, c.in_ok-check_add_account.ensures)

pub returns-in_err-clone-2-clause-one : goal.returns-in_err-clone-2-clause-one
returns-in_err-clone-2-clause-one c = add_account_one c.args.state.now c.requires.formed c.args.caller.now c.args.handle.now c.args.name.now

pub returns-in_err-clone-2-clause-fits : goal.returns-in_err-clone-2-clause-fits
returns-in_err-clone-2-clause-fits c = add_account_fits c.args.state.now c.requires.formed c.args.caller.now c.args.handle.now c.args.name.now c.requires.handle

pub returns-clause-one : goal.returns-clause-one
returns-clause-one c = add_account_one c.args.state.now c.requires.formed c.args.caller.now c.args.handle.now c.args.name.now

pub returns-clause-fits : goal.returns-clause-fits
returns-clause-fits c = add_account_fits c.args.state.now c.requires.formed c.args.caller.now c.args.handle.now c.args.name.now c.requires.handle
