use Rattle.desk_base.proofs.Stopped.{starved}
use Rattle.account_desk.specs.Commands.{NewGrain}
use Rattle.account_desk.proofs.grains.new_grain.Goals as goal

pub returns-in_err-clone-clause-row : goal.returns-in_err-clone-clause-row
returns-in_err-clone-clause-row c =
    starved (NewGrain c.args.state.now c.args.caller.now c.args.app c.args.title.now) c.from_residual-in_err-clone.result c.from_residual-in_err-clone.ensures.1 (_, c.in_ok-owner.ensures)
