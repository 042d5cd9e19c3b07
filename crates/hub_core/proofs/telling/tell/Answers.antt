use Rattle.std.proofs.Common.{refl}
use Rattle.hub_core.specs.Book.{Backing}
use Rattle.hub_core.proofs.Adding.{follows_self}
use Rattle.hub_core.proofs.telling.tell.Goals as goal

pub returns-in-Some-clause-told : goal.returns-in-Some-clause-told
returns-in-Some-clause-told g c =
    let inside = c.held.inside in
    let holds : Backing = record { keeping = g.H.Keeper.Keeper.keeping inside.keeper; drawer = g.H.Secrets.Secrets.drawer inside.secrets; spawns = g.H.Spawner.Spawner.spawns inside.spawner } in
    rw (← c.held.view_is) (c.keep.ensures.told holds c.args.event.now c.args.app c.args.token.now (rw c.in-Some.is at c.requires))

pub returns-in-None-clause-told : goal.returns-in-None-clause-told
returns-in-None-clause-told g c =
    let inside = c.held.inside in
    let holds : Backing = record { keeping = g.H.Keeper.Keeper.keeping inside.keeper; drawer = g.H.Secrets.Secrets.drawer inside.secrets; spawns = g.H.Spawner.Spawner.spawns inside.spawner } in
    rw (← c.held.view_is) (c.tell_spawner.ensures holds)

pub returns-in-None-clause-rows : goal.returns-in-None-clause-rows
returns-in-None-clause-rows g c =
    rw (← c.held.view_is, c.in-None.is) (follows_self (g.H.Keeper.Keeper.keeping c.held.inside.keeper) c.tell_spawner.result)

pub returns-in-Some-clause-leaves : goal.returns-in-Some-clause-leaves
returns-in-Some-clause-leaves g c = rw (← c.held.view_is, c.in-Some.is) (c.keep.ensures.stops, c.keep.ensures.settled)

pub returns-in-None-clause-leaves : goal.returns-in-None-clause-leaves
returns-in-None-clause-leaves g c = rw (← c.held.view_is, c.in-None.is) (refl, refl)
