use Rattle.hub_core.proofs.telling.tell_spawner.Goals as goal

pub returns-in-RunStarted : goal.returns-in-RunStarted
returns-in-RunStarted g c = rw c.in-RunStarted.is c.start.ensures

pub returns-in-RunStopped : goal.returns-in-RunStopped
returns-in-RunStopped g c = rw c.in-RunStopped.is (c.stop.ensures c.args.app c.args.token.now)
