use Rattle.desk_base.proofs.Stopped.{loosely}
use Rattle.desk_orders.specs.Orders.{RowBy}
use Rattle.desk_orders.proofs.deciding.carry.Goals as goal

pub returns-in-SetAdmin : goal.returns-in-SetAdmin
returns-in-SetAdmin c = loosely (RowBy c.args.state.now c.args.found c.args.caller.now c.args.command.now) c.set_admin.result (rw c.in-SetAdmin.is c.set_admin.ensures.row)

pub returns-in-SetEnabled : goal.returns-in-SetEnabled
returns-in-SetEnabled c = loosely (RowBy c.args.state.now c.args.found c.args.caller.now c.args.command.now) c.set_enabled.result (rw c.in-SetEnabled.is c.set_enabled.ensures.row)

pub returns-in-NewGrain : goal.returns-in-NewGrain
returns-in-NewGrain c = rw c.in-NewGrain.is c.new_grain.ensures.row

pub returns-in-Share : goal.returns-in-Share
returns-in-Share c = rw c.in-Share.is (rw c.as_slice.ensures at c.share.ensures.row)

pub returns-in-Claim : goal.returns-in-Claim
returns-in-Claim c = rw c.in-Claim.is c.claim.ensures.row

pub returns-in-UpgradeApp : goal.returns-in-UpgradeApp
returns-in-UpgradeApp c = rw c.in-UpgradeApp.is c.upgrade_app.ensures.row

pub returns-in-Collect : goal.returns-in-Collect
returns-in-Collect c = rw c.in-Collect.is c.collect.ensures.row
