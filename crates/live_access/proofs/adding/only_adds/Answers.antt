use Rattle.std.proofs.Common.{◌↔◌, IsTrue, sym, subst}
use Rattle.share_graph.specs.declared.event.Event.{Event}
use Rattle.live_access.specs.Adding.{OnlyAdds}
use Rattle.live_access.proofs.adding.only_adds.Goals as goal

pub returns-in-AppUpgraded : goal.returns-in-AppUpgraded
returns-in-AppUpgraded g c =
    subst (λ (e : Event). IsTrue c.gives_no_less_than_before.result ↔ OnlyAdds (g.V.Probe.tables c.args.probe.now) e) (sym c.in-AppUpgraded.is) c.gives_no_less_than_before.ensures
