use Rattle.std.proofs.Common.{◌≡◌, ◌∙◌, Some, None, sym, subst}
use Rattle.app_manifest.specs.Upgrade.{upgrade_fault}
use Rattle.share_graph.specs.declared.event.Event.TheVariants.{AppUpgraded}
use Rattle.desk_base.proofs.Stopped.{starved}
use Rattle.desk_base.specs.Made.{nothing_made}
use Rattle.desk_base.specs.Steps.{Makes, Plain}
use Rattle.desk_base.specs.Terms.{Manifest}
use Rattle.account_desk.specs.Commands.{UpgradeApp}
use Rattle.account_desk.proofs.UpgradeRow.{keeps_same, refuses_lost, makes_upgrade, comes_to}
use Rattle.account_desk.proofs.upgrades.carried.Goals as goal

pub returns-then-is_same : goal.returns-then-is_same
returns-then-is_same c =
    keeps_same c.args.state.now c.args.caller.now c.args.num c.args.manifest.now _ c.in_ok-caller_admin.ensures c.in_ok-app.app.now c.in_ok-app.ensures (c.is_same.ensures.0 c.if-is_same.true)

pub returns-in_err-clone : goal.returns-in_err-clone
returns-in_err-clone c =
    starved (UpgradeApp c.args.state.now c.args.caller.now c.args.num c.args.manifest.now) c.from_residual-in_err-clone.result c.from_residual-in_err-clone.ensures.1
    (comes_to c.args.state.now c.args.caller.now c.args.num c.args.manifest.now _ c.in_ok-caller_admin.ensures c.in_ok-app.app.now c.in_ok-app.ensures (λ same. (let is = c.is_same.ensures.1 same in let not = c.if-is_same.false in cc)))

pub returns-in-Ok : goal.returns-in-Ok
returns-in-Ok c =
    subst (λ (m : Manifest). UpgradeApp c.args.state.now c.args.caller.now c.args.num c.args.manifest.now (Makes (Plain (AppUpgraded c.args.num m)) nothing_made)) (sym (c.in-Ok.ensures.same ∙ c.in_ok-clone.ensures.cases))
    (makes_upgrade c.args.state.now c.args.caller.now c.args.num c.args.manifest.now _ c.in_ok-caller_admin.ensures c.in_ok-app.app.now c.in_ok-app.ensures (λ same. (let is = c.is_same.ensures.1 same in let not = c.if-is_same.false in cc)) (subst (λ (m : Manifest). upgrade_fault c.in_ok-app.app.now.manifest m ≡ None) c.in_ok-clone.ensures.cases c.in-Ok.ensures.ok))

pub returns-in-Err : goal.returns-in-Err
returns-in-Err c =
    refuses_lost c.args.state.now c.args.caller.now c.args.num c.args.manifest.now _ c.in_ok-caller_admin.ensures c.in_ok-app.app.now c.in_ok-app.ensures c.in-Err.fault (subst (λ (m : Manifest). upgrade_fault c.in_ok-app.app.now.manifest m ≡ Some c.in-Err.fault) c.in_ok-clone.ensures.cases c.in-Err.ensures.fault)
