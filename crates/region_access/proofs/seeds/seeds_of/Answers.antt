use Rattle.std.proofs.Common.{◌↔◌, IfOk, Contains, sym, subst}
use Rattle.share_graph.specs.declared.event.Event.{Event}
use Rattle.share_graph.specs.declared.facts.Node.{Node}
use Rattle.region_access.specs.Seeds.{IsSeedOf}
use Rattle.region_access.proofs.seeds.seeds_of.Goals as goal

pub returns-in-GrantRevoked : goal.returns-in-GrantRevoked
returns-in-GrantRevoked c = subst (λ (e : Event). IfOk c.grant_node.result (λ nodes. (at : Node) → Contains nodes.items at ↔ IsSeedOf c.args.tables.now e at)) (sym c.in-GrantRevoked.is) c.grant_node.ensures

pub returns-in-TrashedSet : goal.returns-in-TrashedSet
returns-in-TrashedSet c = subst (λ (e : Event). IfOk c.seeds_of_grain.result (λ nodes. (at : Node) → Contains nodes.items at ↔ IsSeedOf c.args.tables.now e at)) (sym c.in-TrashedSet.is) c.seeds_of_grain.ensures

pub returns-in-AppUpgraded : goal.returns-in-AppUpgraded
returns-in-AppUpgraded c = subst (λ (e : Event). IfOk c.seeds_of_app.result (λ nodes. (at : Node) → Contains nodes.items at ↔ IsSeedOf c.args.tables.now e at)) (sym c.in-AppUpgraded.is) c.seeds_of_app.ensures

pub returns-in-AdminSet : goal.returns-in-AdminSet
returns-in-AdminSet c = subst (λ (e : Event). IfOk c.seeds_of_admin.result (λ nodes. (at : Node) → Contains nodes.items at ↔ IsSeedOf c.args.tables.now e at)) (sym c.in-AdminSet.is) c.seeds_of_admin.ensures

pub returns-in-EnabledSet : goal.returns-in-EnabledSet
returns-in-EnabledSet c = subst (λ (e : Event). IfOk c.seeds_of_account.result (λ nodes. (at : Node) → Contains nodes.items at ↔ IsSeedOf c.args.tables.now e at)) (sym c.in-EnabledSet.is) c.seeds_of_account.ensures

pub returns-in-Ticked : goal.returns-in-Ticked
returns-in-Ticked c = subst (λ (e : Event). IfOk c.seeds_of_tick.result (λ nodes. (at : Node) → Contains nodes.items at ↔ IsSeedOf c.args.tables.now e at)) (sym c.in-Ticked.is) c.seeds_of_tick.ensures
