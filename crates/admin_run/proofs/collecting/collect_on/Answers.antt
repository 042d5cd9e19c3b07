use Rattle.std.proofs.Common.{ap, subst, sym, inl, ◌∙◌}
use Rattle.host_base.specs.Outside.{Rose}
use Rattle.hub_core.specs.Book.{Backing}
use Rattle.share_graph.specs.History.{replay}
use Rattle.hub_core.specs.Sharing.{Objects, Sharing}
use Rattle.row_tables.specs.Kept.{IsStored}
use Rattle.admin_run.proofs.Collected.{collects_on, keeper_failed}
use Rattle.admin_run.proofs.collecting.collect_on.Goals as goal

pub returns-clause-collected : goal.returns-clause-collected
returns-clause-collected g c = rw (← c.world.view_is, c.joined-world-2.ensures.tells)
    (inl (collects_on g.C.Law.SiteLaw.law c.args.asks.now c.args.tables _ c.into_held-held.result.tell c.collect_members-outcome.result.0 c.collect_members-outcome.result.1 c.new-desk.result c.collect_members-outcome.new.desk _ _ _ c.tell_outcome-status.result
    (c.new-desk.ensures ∙ c.in-Ok.ensures.ok) (ap (λ (o : Objects _). o.tell) c.into_held-held.ensures.held ∙ ap (λ (x : Sharing _). x.holds) c.into_locked.ensures) c.collect_members-outcome.ensures.collected
    (subst (λ (x : Sharing _). IsStored c.into_held-held.result.tell.keeping (replay x.start x.history).tables) c.into_locked.ensures c.into_held-held.ensures.stored) c.tell_outcome-status.ensures.told))

pub returns-clause-cause : goal.returns-clause-cause
returns-clause-cause g c = rw (← c.world.view_is, c.joined-world-2.ensures.tells)
    (let began = ap (λ (x : Sharing _). x.holds) (c.new-desk.ensures ∙ c.in-Ok.ensures.ok) in
    let back = ap (λ (o : Objects _). o.tell) c.into_held-held.ensures.held ∙ ap (λ (x : Sharing _). x.holds) c.into_locked.ensures in
    record {
      taken = λ four. absurd (c.tell_outcome-status.ensures.unread four);
      written = c.tell_outcome-status.ensures.cause;
      stored = λ nine. inl (subst (λ (h : Backing). Rose h.keeping.faults c.into_held-held.result.tell.keeping.faults) began
          (subst (λ (h : Backing). Rose c.new-desk.result.holds.keeping.faults h.keeping.faults) (sym back)
          (keeper_failed _ _ _ _ _ _ c.collect_members-outcome.ensures.collected (c.tell_outcome-status.ensures.kept nine))));
    })
