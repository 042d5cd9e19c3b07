use Rattle.hub_core.proofs.locked.Locked.into_held.Goals as goal

pub returns-clause-stored : goal.returns-clause-stored
returns-clause-stored g c = rw (← c.self.view_is) c.self.invariant.0

pub returns-clause-outlive : goal.returns-clause-outlive
returns-clause-outlive g c = c.self.invariant.1
