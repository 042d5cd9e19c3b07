use Rattle.std.proofs.Common.{[], ap, refl, subst, sym}
use Rattle.row_tables.specs.Kept.{IsStored}
use Rattle.hub_core.specs.Opening.{opened}
use Rattle.hub_core.specs.Sharing.{Objects}
use Rattle.hub_core.specs.Stopping.{OutliveStops}
use Rattle.admin_run.proofs.Ends.{kept_same, serves_none}
use Rattle.admin_run.proofs.serving.serve_tables.Goals as goal

pub open_tables-requires-clause-stored : goal.open_tables-requires-clause-stored
open_tables-requires-clause-stored g c = rw (← c.world.view_is) at c.requires.stored

pub open_tables-requires-clause-outlive : goal.open_tables-requires-clause-outlive
open_tables-requires-clause-outlive g c = rw (← c.world.view_is) at c.requires.outlive

pub returns-in-Err-clause-serves : goal.returns-in-Err-clause-serves
returns-in-Err-clause-serves g c = rw (← c.world.view_is, c.joined-world.ensures.keeper, c.joined-world.ensures.tells)
    (let same = c.in-Err.ensures.err in
    let stored = rw (← c.world.view_is) at c.requires.stored in
    let outlive = rw (← c.world.view_is) at c.requires.outlive in
    serves_none g.C.Law.SiteLaw.law (opened c.args.tables) c.args.counts.connections c.args.counts.tunnels _ _ c.in-Err.held.tell [] _ _ _ (kept_same _ _ _ [] (ap (λ (o : Objects _). o.tell) same) refl) refl
    (subst (λ (o : Objects _). IsStored o.tell.keeping c.args.tables) (sym same) stored)
    (subst (λ (o : Objects _). OutliveStops o.tell.keeping (g.W.Keeper.Keeper.may_leave o.keeper)) (sym same) outlive) refl refl)

pub serve_history-status-requires-clause-order : goal.serve_history-status-requires-clause-order
serve_history-status-requires-clause-order g c κs within = rw (← c.world.view_is) at c.requires.order

pub returns-clause-serves : goal.returns-clause-serves
returns-clause-serves g c = rw (← c.world.view_is, c.joined-world-2.ensures.keeper, c.joined-world-2.ensures.tells) (rw c.in-Ok.ensures.ok at c.serve_history-status.ensures.serves)

pub returns-clause-taken : goal.returns-clause-taken
returns-clause-taken g c = λ four. rw (← c.world.view_is, c.joined-world-2.ensures.tells) (c.serve_history-status.ensures.taken four)
